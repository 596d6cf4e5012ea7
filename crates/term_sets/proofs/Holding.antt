-- What is held by words: a term alone, how much it weighs, and whether there is a term.
use Rattle.std.specs.Prelude.{ℕ, ◌+◌, ◌*◌, ◌/◌, ◌^◌, ◌<◌, ◌≤◌, ◌↔◌, Bool, true, false, IsTrue, List, [], ◌∷◌, ◌≡◌, length, map, min, not, ◌==◌, refl}
use Rattle.std.proofs.Common.{ap, sym, ◌∙◌, subst, arith, inl, inr}
use Rattle.std.proofs.Math.Nat.{pow-suc}
use Rattle.std.proofs.lemmas.Bool.Decides.{nat_tests}
use Rattle.std.proofs.lemmas.List.{nil_from_length}
use Rattle.msc_base.specs.Stored.{most_stored}
use Rattle.msc_base.specs.Lists.{AreDifferent, IsAmong}
use Rattle.msc_base.specs.Patterns.{par}
use Rattle.chart_term.specs.NormalForms.{join_of}
use Rattle.chart_term.specs.Properties.{Each}
use Rattle.chart_term.specs.Tables.{terms_over}
use Rattle.chart_term.specs.Terms.{Tree, Join, trees}
use Rattle.chart_term.proofs.Lists.{items-trees}
use Rattle.term_laws.specs.Listing.{set_weight}
use Rattle.term_laws.specs.Taking.{MayEnd}
use Rattle.term_tables.specs.NetValues.{NetsValue}
use Rattle.trace_judge.specs.Sets.{HasEnding}
use Rattle.term_sets.specs.Subsets.{AreSubsets, IsEvent, IsWord, all_spelled, picked, side_by_side, spelled, weight_of_size}
use Rattle.term_sets.proofs.Finishing.{spelled_ends}
use Rattle.term_sets.proofs.Ordering.{in_order_has}
use Rattle.term_sets.proofs.Picking.{picked_odd}
use Rattle.term_sets.proofs.Weighing.{all_weigh}

-- a word of all bits has all events
pub all_picked : (xs : List Tree) (w : ℕ) → w + 1 ≡ 2 ^ length xs → picked xs w ≡ xs
all_picked [] w e = refl
all_picked (x ∷ xs) w e =
    let p = pow-suc 2 (length xs) in
    let odd : w ≡ 2 * (w / 2) + 1 = omega (arith, e, p) in
    picked_odd x xs w (w / 2) odd ∙ ap (λ (l : List Tree). x ∷ l) (all_picked xs (w / 2) (omega (arith, e, p)))

several : (xs : List Tree) → 1 < length xs → join_of par xs ≡ Join par (trees xs)
several [] l = absurd (omega (arith, l))
several (x ∷ []) l = absurd (omega (arith, l))
several (x ∷ y ∷ xs) l = refl

module _ (x : Tree) (events : List Tree) (w : ℕ) (is : x ≡ Join par (trees events)) (many : 1 < length events) (all : w + 1 ≡ 2 ^ length events) where
  pub parts_are : side_by_side x ≡ events
  parts_are = ap side_by_side is ∙ items-trees events

  -- the term alone
  pub held_alone : (words : List ℕ) → words ≡ w ∷ [] → all_spelled (side_by_side x) words ≡ x ∷ []
  held_alone words e =
      ap (λ (l : List Tree). all_spelled l words) parts_are ∙ (ap (all_spelled events) e ∙ ap (λ (y : Tree). y ∷ []) (ap (join_of par) (all_picked events w all) ∙ (several events many ∙ sym is)))

  pub alone_holds : (size : ℕ) (words : List ℕ) → words ≡ w ∷ [] → size ≡ length events → length events ≤ 64 → Each IsEvent events → AreDifferent events → AreSubsets (side_by_side x) size words
  alone_holds size words e long few h d = subst (λ (l : List Tree). AreSubsets l size words) (sym parts_are) (subst (AreSubsets events size) (sym e) (record {
    each = h;
    apart = d;
    few = few;
    low = omega (arith, long, few);
    are_words = λ v i. elim i [ inl q ↦ subst (IsWord events size) (sym q) (record { below = omega (arith, all); size_is = ap length (all_picked events w all) ∙ sym long }) | inr b ↦ absurd b ];
    different = (λ b. b, tt);
  }))

-- how much is held
pub held_weighs : (events : List Tree) (size : ℕ) (words : List ℕ) (value : List Tree) (n : ℕ) → AreSubsets events size words → all_spelled events words ≡ value → set_weight value < most_stored
    → n ≡ min (length words * weight_of_size size) most_stored → n ≡ set_weight value
held_weighs events size words value n s is l e = let w : set_weight value ≡ length words * weight_of_size size = ap set_weight (sym is) ∙ all_weigh events size words s in omega (arith, e, w, l)

spelled_among : (events : List Tree) (words : List ℕ) (w : ℕ) → IsAmong words w → IsAmong (map (spelled events) words) (spelled events w)
spelled_among events [] w i = absurd i
spelled_among events (v ∷ vs) w (inl e) = inl (ap (spelled events) e)
spelled_among events (v ∷ vs) w (inr i) = inr (spelled_among events vs w i)

among_spelled : (events : List Tree) (words : List ℕ) (y : Tree) → IsAmong (map (spelled events) words) y → (w : ℕ) × IsAmong words w × (y ≡ spelled events w)
among_spelled events [] y i = absurd i
among_spelled events (v ∷ vs) y (inl e) = (v, inl refl, e)
among_spelled events (v ∷ vs) y (inr i) = let r = among_spelled events vs y i in (r.0, inr r.1, r.2)

-- a word is held as its term
pub word_held : (events : List Tree) (words : List ℕ) (w : ℕ) → IsAmong words w → IsAmong (all_spelled events words) (spelled events w)
word_held events words w i = (in_order_has (map (spelled events) words) (spelled events w)).from (spelled_among events words w i)

pub held_word : (events : List Tree) (words : List ℕ) (y : Tree) → IsAmong (all_spelled events words) y → (w : ℕ) × IsAmong words w × (y ≡ spelled events w)
held_word events words y i = among_spelled events words y ((in_order_has (map (spelled events) words) y).to i)

-- whether there is none
pub none_held : (events : List Tree) (words : List ℕ) (value : List Tree) (b : Bool) → all_spelled events words ≡ value → (IsTrue b ↔ (words ≡ [])) → IsTrue b ↔ (value ≡ [])
none_held events words value b is h = (λ t. sym is ∙ ap (all_spelled events) (h.0 t), λ e. h.1 (nothing words (is ∙ e)))
  where
    nothing : (ws : List ℕ) → all_spelled events ws ≡ [] → ws ≡ []
    nothing [] e = refl
    nothing (w ∷ ws) e = absurd (subst (λ (l : List Tree). IsAmong l (spelled events w)) e (word_held events (w ∷ ws) w (inl refl)))

pub words_none : (words : List ℕ) (n : ℕ) (b : Bool) → n ≡ length words → b ≡ (n == 0) → IsTrue b ↔ (words ≡ [])
words_none words n b long is = (λ t. nil_from_length words (grind (arith, nat_tests, long, is, t)), λ e. let none : length words ≡ 0 = ap length e in grind (arith, nat_tests, long, is, none))

-- whether one of them may end
module _ (v : NetsValue) (events : List Tree) (size : ℕ) (words : List ℕ) (value : List Tree) (s : AreSubsets events size words) (is : all_spelled events words ≡ value) where
  ends_held : HasEnding v value → (size ≡ 0) × (words ≡ [] → ⊥)
  ends_held h =
      let t = held_word events words h.term (subst (λ (l : List Tree). IsAmong l h.term) (sym is) h.held) in
      (sym (s.are_words t.0 t.1).size_is ∙ (spelled_ends (terms_over v.tables) events t.0 s.each).to (subst (MayEnd (terms_over v.tables)) t.2 h.ends), λ e. subst (λ (l : List ℕ). IsAmong l t.0) e t.1)

  held_ends : size ≡ 0 → (words ≡ [] → ⊥) → HasEnding v value
  held_ends none some = let t = one words some in record {
    term = spelled events t.0;
    held = subst (λ (l : List Tree). IsAmong l (spelled events t.0)) is (word_held events words t.0 t.1);
    ends = (spelled_ends (terms_over v.tables) events t.0 s.each).from ((s.are_words t.0 t.1).size_is ∙ none);
  }
    where
      one : (ws : List ℕ) → (ws ≡ [] → ⊥) → (w : ℕ) × IsAmong ws w
      one [] f = absurd (f refl)
      one (w ∷ ws) f = (w, inl refl)

  pub told_ends : (n : ℕ) (b : Bool) → n ≡ length words → b ≡ (n == 0) → size ≡ 0 → IsTrue (not b) ↔ HasEnding v value
  told_ends n b long e none = (λ t. held_ends none (λ q. both b t ((words_none words n b long e).1 q)), λ h. other b (λ t. (ends_held h).1 ((words_none words n b long e).0 t)))
    where
      both : (b : Bool) → IsTrue (not b) → IsTrue b → ⊥
      both true t u = cc
      both false t u = cc

      other : (b : Bool) → (IsTrue b → ⊥) → IsTrue (not b)
      other true f = absurd (f refl)
      other false f = refl

  pub told_none : (b : Bool) → b ≡ (size == 0) → (size ≡ 0 → ⊥) → IsTrue b ↔ HasEnding v value
  told_none b e f = (λ t. absurd (f (grind (arith, nat_tests, e, t))), λ h. absurd (f (ends_held h).0))
