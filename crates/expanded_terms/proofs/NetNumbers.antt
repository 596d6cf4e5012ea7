-- Numbers that are in no net of a term, and numbers of which a tag is still to be seen.
use Rattle.std.specs.Prelude.{ℕ, ◌==◌, Bool, true, false, not, ◌&&◌, List, [], ◌∷◌, ◌++◌, Option, Some}
use Rattle.std.proofs.Common.{◌≡◌, ◌⊎◌, refl, ap, inl, inr, subst}
use Rattle.std.proofs.lemmas.Bool.{cases_lt}
use Rattle.std.proofs.lemmas.Bool.Decides.{Decides-eqb}
use Rattle.msc_base.specs.Orders.{Among, first, later}
use Rattle.msc_unfolding.specs.Unfoldings.{Tag, is_same_tag}
use Rattle.chart_term.specs.NormalForms.{is_nil}
use Rattle.chart_term.specs.Properties.{Each, Every, EveryOf, EveryRow}
use Rattle.chart_term.specs.TermPatterns.{InPairs}
use Rattle.chart_term.specs.Terms.{TermEvent, Tree, Nil, Event, Join, Choice, Tied, Loop, Walk, Trees, none, more, Row, ends, gap, turn}
use Rattle.sound_terms.specs.Intervals.{IsInside, IsBeyond}
use Rattle.sound_terms.proofs.Mapped.{map_among}
use Rattle.term_laws.proofs.Everywhere.{every_in, every_out}
use Rattle.term_meaning.specs.Portions.{Shown, past_shown, put_tag, shown_at, tags_in}
use Rattle.expanded_terms.specs.ExpandedTerms.{leave_turn, turns_if, turns_of}
use Rattle.expanded_terms.specs.Parts.{IsShown}
use Rattle.expanded_terms.specs.TagNumbers.{number_if, numbers_with, pairs_with, pairs_between, tied_numbers}
use Rattle.expanded_terms.proofs.KeptParts.{IsByParts}
use Rattle.expanded_terms.proofs.TiesWithin.{split_among, flat_among}

-- ---- nets alone

module _ (E : TermEvent → Type 0) (N : ℕ → Type 0) where
  mutual
    pub nets_alone : (x : Tree) → Every E N x → Every (λ e. Unit {0}) N x
    nets_alone Nil h = tt
    nets_alone (Event e) h = tt
    nets_alone (Join m xs) h = all_alone xs h
    nets_alone (Choice xs) h = all_alone xs h
    nets_alone (Tied x q) h = nets_alone x h
    nets_alone (Loop x lo hi r) h = (nets_alone x h.0, row_alone r h.1)
    nets_alone (Walk n s t c) h = h

    all_alone : (xs : Trees) → EveryOf E N xs → EveryOf (λ e. Unit {0}) N xs
    all_alone none h = tt
    all_alone (more x xs) h = (nets_alone x h.0, all_alone xs h.1)

    row_alone : (r : Row) → EveryRow E N r → EveryRow (λ e. Unit {0}) N r
    row_alone ends h = tt
    row_alone (gap c r) h = row_alone r h
    row_alone (turn x r) h = (nets_alone x h.0, row_alone r h.1)

  pub each_alone : (xs : List Tree) → Each (Every E N) xs → Each (Every (λ e. Unit {0}) N) xs
  each_alone [] h = tt
  each_alone (x ∷ xs) h = (nets_alone x h.0, each_alone xs h.1)

  pub every_by_parts : IsByParts (Every E N)
  every_by_parts = record {
    nil = tt;
    join_in = λ m x y xs h. every_in E N (x ∷ y ∷ xs) h;
    join_out = λ m xs h. every_out E N xs h;
    choice_in = λ x y xs h. every_in E N (x ∷ y ∷ xs) h;
    choice_out = λ xs h. every_out E N xs h;
    tie_in = λ x q h. h;
  }

  pub every_turns : (lower : ℕ) (upper : Option ℕ) (x : Tree) → Every E N x → Every E N (turns_of lower upper x)
  every_turns lower upper x h = by (leave_turn lower upper && not (is_nil (Some x)))
    where
      by : (b : Bool) → Every E N (turns_if b lower upper x)
      by true = (h, tt)
      by false = tt

-- ---- shown numbers

-- a number is inside an interval or beyond it
pub place_of : (a b n : ℕ) → IsInside a b n ⊎ IsBeyond a b n
place_of a b n = elim (cases_lt n a) [ inl h ↦ inr (inl h) | inr h ↦ elim (cases_lt n b) [ inl k ↦ inl (h, k) | inr k ↦ inr (inr k) ] ]

tag_there : (sh : Shown) (j : ℕ) (a : Tag) → Among (j, a) sh → tags_in sh j ≡ [] → ⊥
tag_there (p ∷ sh) _ _ first e = here (p.0 == p.0) ((Decides-eqb p.0 p.0).1 refl) e
  where
    here : (b : Bool) → b ≡ true → put_tag b p.1 (tags_in sh p.0) ≡ [] → ⊥
    here true q e = absurd cc
    here false q e = absurd cc
tag_there (p ∷ sh) j a (later i) e = by (j == p.0) e (tag_there sh j a i)
  where
    by : (b : Bool) → put_tag b p.1 (tags_in sh j) ≡ [] → (tags_in sh j ≡ [] → ⊥) → ⊥
    by true e f = absurd cc
    by false e f = f e
tag_there [] j a i e = elim i [ ]

-- a number that is shown is inside, where those beyond aren't shown
pub shown_inside : (lo hi : ℕ) (sh : Shown) → ((n : ℕ) → IsBeyond lo hi n → tags_in sh n ≡ []) → (j : ℕ) → IsShown sh j → IsInside lo hi j
shown_inside lo hi sh bare j (a, i) = elim (place_of lo hi j) [ inl h ↦ h | inr h ↦ absurd (tag_there sh j a i (bare j h)) ]

pub shown_either : (sh ti : Shown) (j : ℕ) → IsShown (sh ++ ti) j → IsShown sh j ⊎ IsShown ti j
shown_either sh ti j (a, i) = elim (split_among sh ti (j, a) i) [ inl k ↦ inl (a, k) | inr k ↦ inr (a, k) ]

abbrev tagged : ℕ → Tag → ℕ × Tag
tagged n a = (n, a)

-- what is shown above a tie was shown
pub shown_below : (f : Tag → List Tag) (sh : Shown) (j : ℕ) → IsShown (past_shown f sh) j → IsShown sh j
shown_below f sh j (a, i) = by (flat_among (λ p. shown_at p.0 (f p.1)) sh (j, a) i)
  where
    by : (p : ℕ × Tag) × Among p sh × Among (j, a) (shown_at p.0 (f p.1)) → IsShown sh j
    by (p, k, l) = let (b, e, m) = map_among (tagged p.0) (f p.1) l in (p.1, subst (λ (n : ℕ). Among (n, p.1) sh) (ap (λ (q : ℕ × Tag). q.0) e) k)

with_number : (a : Tag) (sh : Shown) (j : ℕ) → Among j (numbers_with a sh) → IsShown sh j
with_number a [] j h = elim h [ ]
with_number a (p ∷ sh) j h = by (is_same_tag p.1 a) h (with_number a sh j)
  where
    wide : IsShown sh j → IsShown (p ∷ sh) j
    wide (b, i) = (b, later i)

    one : (n : ℕ) (t : Tag) (ms : List ℕ) (j : ℕ) → Among j (n ∷ ms) → (Among j ms → IsShown sh j) → IsShown ((n, t) ∷ sh) j
    one n t ms _ first g = (t, first)
    one n t ms j (later i) g = let (b, k) = g i in (b, later k)

    by : (b : Bool) → Among j (number_if b p.0 (numbers_with a sh)) → (Among j (numbers_with a sh) → IsShown sh j) → IsShown (p ∷ sh) j
    by true i g = one p.0 p.1 (numbers_with a sh) j i g
    by false i g = wide (g i)

in_with : (m : ℕ) (ns : List ℕ) (j : ℕ) → InPairs j (pairs_with m ns) → (j ≡ m) ⊎ Among j ns
in_with m [] j h = absurd h
in_with m (n ∷ ns) j (inl (inl e)) = inl e
in_with m (n ∷ ns) j (inl (inr e)) = inr (subst (λ (k : ℕ). Among j (k ∷ ns)) e first)
in_with m (n ∷ ns) j (inr h) = elim (in_with m ns j h) [ inl e ↦ inl e | inr i ↦ inr (later i) ]

in_both : (p q : List (ℕ × ℕ)) (j : ℕ) → InPairs j (p ++ q) → InPairs j p ⊎ InPairs j q
in_both [] q j h = inr h
in_both (r ∷ p) q j (inl h) = inl (inl h)
in_both (r ∷ p) q j (inr h) = elim (in_both p q j h) [ inl i ↦ inl (inr i) | inr i ↦ inr i ]

in_between : (ms ns : List ℕ) (j : ℕ) → InPairs j (pairs_between ms ns) → Among j ms ⊎ Among j ns
in_between [] ns j h = absurd h
in_between (m ∷ ms) ns j h = elim (in_both (pairs_with m ns) (pairs_between ms ns) j h) [
  | inl i ↦ elim (in_with m ns j i) [ inl e ↦ inl (subst (λ (k : ℕ). Among j (k ∷ ms)) e first) | inr k ↦ inr k ]
  | inr i ↦ elim (in_between ms ns j i) [ inl k ↦ inl (later k) | inr k ↦ inr k ]
]

-- the numbers of pairs of tags are shown
pub pairs_shown : (sh : Shown) (ts : List (Tag × Tag)) (j : ℕ) → InPairs j (tied_numbers sh ts) → IsShown sh j
pairs_shown sh [] j h = absurd h
pairs_shown sh (t ∷ ts) j h = elim (in_both (pairs_between (numbers_with t.0 sh) (numbers_with t.1 sh)) (tied_numbers sh ts) j h) [
  | inl i ↦ elim (in_between (numbers_with t.0 sh) (numbers_with t.1 sh) j i) [ inl k ↦ with_number t.0 sh j k | inr k ↦ with_number t.1 sh j k ]
  | inr i ↦ pairs_shown sh ts j i
]
