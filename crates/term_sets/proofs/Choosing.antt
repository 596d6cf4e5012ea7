-- Which terms are different events side by side, and which of these have a label.
use Rattle.std.specs.Prelude.{ℕ, zero, suc, ◌+◌, ◌<◌, ◌≤◌, ◌++◌, ◌↔◌, IsTrue, Bool, true, false, List, [], ◌∷◌, ◌≡◌, length, slice_get, take, Some, refl}
use Rattle.std.proofs.Common.{ap, sym, ◌∙◌, subst, arith, inl, inr}
use Rattle.std.proofs.lemmas.Bool.{cases_lt}
use Rattle.std.proofs.lemmas.List.{take_all}
use Rattle.std.proofs.lemmas.Option.{same_Some, slice_get_within}
use Rattle.chart_term.specs.NormalForms.{begun}
use Rattle.chart_term.specs.PartLists.{AreTurns}
use Rattle.chart_term.specs.Properties.{Each}
use Rattle.chart_term.specs.TermPatterns.{Both}
use Rattle.chart_term.specs.Terms.{Part, Tree}
use Rattle.msc_base.specs.Lists.{AreDifferent, IsAmong}
use Rattle.list_facts.proofs.Reading.{take_step}
use Rattle.list_facts.proofs.Members.{among_snoc, snoc_among, different_snoc, take_among}
use Rattle.chart_term.proofs.Turns.{begun-length}
use Rattle.term_sets.specs.Subsets.{AreBits, HasLabelled, IsEvent, IsLabelled}

-- which part stands before another

pub none_before : (xs : List Tree) (x : Tree) → IsAmong (take 0 xs) x → ⊥
none_before xs x h = h

pub other_before : (xs : List Tree) (i j : ℕ) (x y : Tree) (b : Bool) → slice_get xs i ≡ Some x → slice_get xs j ≡ Some y → (IsTrue b ↔ (x ≡ y)) → b ≡ false
    → ((z : Tree) → slice_get xs j ≡ Some z → IsAmong (take i xs) z → ⊥) → (z : Tree) → slice_get xs j ≡ Some z → IsAmong (take (i + 1) xs) z → ⊥
other_before xs i j x y b p q same isnt f z r h = elim (take_among xs i x z p h) [
  | inl e ↦ let bad : true ≡ false = sym (same.1 (sym e ∙ same_Some _ _ (sym r ∙ q))) ∙ isnt in cc
  | inr l ↦ f z r l
]

pub ruleset before = (none_before, other_before)

-- events, each once

each_snoc : (P : Tree → Type 0) (xs : List Tree) (x : Tree) → Each P xs → P x → Each P (xs ++ x ∷ [])
each_snoc P [] x h p = (p, tt)
each_snoc P (y ∷ ys) x h p = (h.0, each_snoc P ys x h.1 p)

pub no_events : (xs : List Tree) → Each IsEvent (take 0 xs)
no_events xs = tt

pub none_apart : (xs : List Tree) → AreDifferent (take 0 xs)
none_apart xs = tt

pub more_events : (xs : List Tree) (i : ℕ) (x : Tree) → slice_get xs i ≡ Some x → Each IsEvent (take i xs) → IsEvent x → Each IsEvent (take (i + 1) xs)
more_events xs i x e h p = subst (Each IsEvent) (sym (take_step xs i x e)) (each_snoc IsEvent (take i xs) x h p)

pub more_apart : (xs : List Tree) (i : ℕ) (x : Tree) → slice_get xs i ≡ Some x → AreDifferent (take i xs) → ((y : Tree) → slice_get xs i ≡ Some y → IsAmong (take i xs) y → ⊥) → AreDifferent (take (i + 1) xs)
more_apart xs i x e d f = subst AreDifferent (sym (take_step xs i x e)) (different_snoc (take i xs) x d (f x e))

pub item_there : (xs : List Tree) (i : ℕ) → i < length xs → (x : Tree) × (slice_get xs i ≡ Some x)
item_there [] i l = absurd (omega (arith, l))
item_there (x ∷ xs) zero l = (x, refl)
item_there (x ∷ xs) (suc i) l = item_there xs i (omega (arith, l))

pub all_events : (ps : List Part) (i : ℕ) → AreTurns ps → length ps ≤ i → Each IsEvent (take i (begun ps)) → Each IsEvent (begun ps)
all_events ps i t l h = subst (Each IsEvent) (take_all i (begun ps) (let e = begun-length ps t in omega arith)) h

pub all_apart : (ps : List Part) (i : ℕ) → AreTurns ps → length ps ≤ i → AreDifferent (take i (begun ps)) → AreDifferent (begun ps)
all_apart ps i t l h = subst AreDifferent (take_all i (begun ps) (let e = begun-length ps t in omega arith)) h

-- the events before an index that have the label
pub record AreBitsTo (events : List Tree) (a i : ℕ) (bits : List ℕ) : Type 0 where
  pub below : (j : ℕ) → IsAmong bits j → j < i
  pub exact : (j : ℕ) → j < i → Both (IsAmong bits j) (HasLabelled events a j)

pub no_bits : (events : List Tree) (a : ℕ) → AreBitsTo events a 0 []
no_bits events a = record { below = λ j h. absurd h; exact = λ j l. absurd (omega (arith, l)) }

pub one_bit : (events : List Tree) (a i : ℕ) (x : Tree) (bits new : List ℕ) (b : Bool) → slice_get events i ≡ Some x → (IsTrue b ↔ IsLabelled a x) → b ≡ true → AreBitsTo events a i bits → new ≡ bits ++ i ∷ [] → AreBitsTo events a (i + 1) new
one_bit events a i x bits new b there test yes_ h e = subst (AreBitsTo events a (i + 1)) (sym e) (record {
  below = λ j m. elim (among_snoc bits i j m) [ inl n ↦ (let l = h.below j n in omega arith) | inr q ↦ omega (arith, q) ];
  exact = λ j l. record {
    to = λ m. elim (among_snoc bits i j m) [ inl n ↦ (h.exact j (h.below j n)).to n | inr q ↦ subst (HasLabelled events a) (sym q) (x, there, test.0 yes_) ];
    from = λ q. snoc_among bits i j (elim (cases_lt j i) [ inl k ↦ inl ((h.exact j k).from q) | inr k ↦ inr (omega (arith, l, k)) ]);
  };
})

pub same_bits : (events : List Tree) (a i : ℕ) (x : Tree) (bits : List ℕ) (b : Bool) → slice_get events i ≡ Some x → (IsTrue b ↔ IsLabelled a x) → b ≡ false → AreBitsTo events a i bits → AreBitsTo events a (i + 1) bits
same_bits events a i x bits b there test isnt h = record {
  below = λ j m. let l = h.below j m in omega arith;
  exact = λ j l. elim (cases_lt j i) [
    | inl k ↦ h.exact j k
    | inr k ↦
        let is : j ≡ i = omega (arith, l, k) in
        record { to = λ m. absurd (let b = h.below j m in omega (arith, k)); from = λ q. absurd (none j is q) }
  ];
}
  where
    none : (j : ℕ) → j ≡ i → HasLabelled events a j → ⊥
    none j is q = let same : q.0 ≡ x = same_Some _ _ (sym q.1 ∙ (ap (slice_get events) is ∙ there)) in let bad : true ≡ false = sym (test.1 (subst (IsLabelled a) same q.2)) ∙ isnt in cc

pub all_bits_of : (ps : List Part) (a i : ℕ) (bits : List ℕ) → AreTurns ps → length ps ≤ 64 → length ps ≤ i → i ≤ length ps → AreBitsTo (begun ps) a i bits → AreBits (begun ps) a bits
all_bits_of ps a i bits t few l m h = record {
  below = λ j n. let b = h.below j n in omega arith;
  exact = λ j. record {
    to = λ n. (h.exact j (h.below j n)).to n;
    from = λ q. (h.exact j (let b = slice_get_within (begun ps) j q.0 q.1 in let e = begun-length ps t in omega arith)).from q;
  };
}

pub ruleset choosing = (no_events, none_apart, more_events, more_apart, all_events, all_apart, no_bits, one_bit, same_bits, all_bits_of)
