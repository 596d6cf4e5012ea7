-- What a term has where its parts have it: the normalising constructors keep it. A number that a term lacks, or has only outside loops and
-- nets.
use Rattle.std.specs.Prelude.{ℕ, ◌≢◌, List, [], ◌∷◌, Some}
use Rattle.std.proofs.Common.{◌≡◌, subst}
use Rattle.std.proofs.lemmas.Option.{same_Some}
use Rattle.msc_base.specs.Patterns.{Mode}
use Rattle.term_laws.proofs.Opening.{each_flat, each_distinct, each_choices}
use Rattle.chart_term.specs.NormalForms.{flat, join_of, join_all, open_choices, distinct, choice_form, choice_of, bound_form, kept_pairs, numbers, tie_of}
use Rattle.chart_term.specs.Properties.{Each, EveryOf}
use Rattle.chart_term.specs.Terms.{Tree, Nil, Event, Join, Choice, Tied, Loop, Walk, Trees, none, more, items, trees}
use Rattle.term_laws.specs.Soundness.{Lacks, IsOutside, AreOutside}
use Rattle.term_laws.proofs.Everywhere.{every_in, every_out}

-- joins, choices and ties have it where their parts have it
pub record IsByParts (P : Tree → Type 0) : Type 0 where
  pub nil : P Nil
  pub join_in : (m : Mode) (x y : Tree) (xs : List Tree) → Each P (x ∷ y ∷ xs) → P (Join m (trees (x ∷ y ∷ xs)))
  pub join_out : (m : Mode) (xs : Trees) → P (Join m xs) → Each P (items xs)
  pub choice_in : (x y : Tree) (xs : List Tree) → Each P (x ∷ y ∷ xs) → P (Choice (trees (x ∷ y ∷ xs)))
  pub choice_out : (xs : Trees) → P (Choice xs) → Each P (items xs)
  pub tie_in : (x : Tree) (q : List (ℕ × ℕ)) → P x → P (Tied x q)

module _ (P : Tree → Type 0) (by_parts : IsByParts P) where
  form_has : (m : Mode) (xs : List Tree) → Each P xs → P (join_of m xs)
  form_has m [] h = by_parts.nil
  form_has m (x ∷ []) h = h.0
  form_has m (x ∷ y ∷ xs) h = by_parts.join_in m x y xs h

  pub join_has : (m : Mode) (xs : List Tree) → Each P xs → P (join_all m xs)
  join_has m xs h = form_has m (flat m xs) (each_flat P m (by_parts.join_out m) xs h)

  chosen_has : (xs : List Tree) (y : Tree) → Each P xs → choice_form xs ≡ Some y → P y
  chosen_has [] y h e = absurd cc
  chosen_has (x ∷ []) y h e = subst P (same_Some x y e) h.0
  chosen_has (x ∷ z ∷ xs) y h e = subst P (same_Some (Choice (trees (x ∷ z ∷ xs))) y e) (by_parts.choice_in x z xs h)

  pub choice_has : (xs : List Tree) (y : Tree) → Each P xs → choice_of xs ≡ Some y → P y
  choice_has xs y h e = chosen_has (distinct (open_choices xs)) y (each_distinct P (open_choices xs) (each_choices P by_parts.choice_out xs h)) e

  bound_has : (x : Tree) (q : List (ℕ × ℕ)) → P x → P (bound_form x q)
  bound_has x [] h = h
  bound_has x (p ∷ q) h = by_parts.tie_in x (p ∷ q) h

  pub tie_has : (x : Tree) (q : List (ℕ × ℕ)) → P x → P (tie_of x q)
  tie_has x q h = bound_has x (kept_pairs (numbers x) q) h

module _ (NL : ℕ → ℕ → Type 0) (j : ℕ) where
  pub lacks_by_parts : IsByParts (Lacks NL j)
  lacks_by_parts = record {
    nil = tt;
    join_in = λ m x y xs h. every_in (λ e. e.number ≢ j) (NL j) (x ∷ y ∷ xs) h;
    join_out = λ m xs h. every_out (λ e. e.number ≢ j) (NL j) xs h;
    choice_in = λ x y xs h. every_in (λ e. e.number ≢ j) (NL j) (x ∷ y ∷ xs) h;
    choice_out = λ xs h. every_out (λ e. e.number ≢ j) (NL j) xs h;
    tie_in = λ x q h. h;
  }

  outside_in : (xs : List Tree) → Each (IsOutside NL j) xs → AreOutside NL j (trees xs)
  outside_in [] h = tt
  outside_in (x ∷ xs) h = (h.0, outside_in xs h.1)

  outside_out : (xs : Trees) → AreOutside NL j xs → Each (IsOutside NL j) (items xs)
  outside_out none h = tt
  outside_out (more x xs) h = (h.0, outside_out xs h.1)

  pub outside_by_parts : IsByParts (IsOutside NL j)
  outside_by_parts = record {
    nil = tt;
    join_in = λ m x y xs h. outside_in (x ∷ y ∷ xs) h;
    join_out = λ m xs h. outside_out xs h;
    choice_in = λ x y xs h. outside_in (x ∷ y ∷ xs) h;
    choice_out = λ xs h. outside_out xs h;
    tie_in = λ x q h. h;
  }

  mutual
    pub lacks_outside : (x : Tree) → Lacks NL j x → IsOutside NL j x
    lacks_outside Nil h = tt
    lacks_outside (Event e) h = tt
    lacks_outside (Join m xs) h = all_outside xs h
    lacks_outside (Choice xs) h = all_outside xs h
    lacks_outside (Tied x q) h = lacks_outside x h
    lacks_outside (Loop x lo hi r) h = h
    lacks_outside (Walk n f t c) h = h

    all_outside : (xs : Trees) → EveryOf (λ e. e.number ≢ j) (NL j) xs → AreOutside NL j xs
    all_outside none h = tt
    all_outside (more x xs) h = (lacks_outside x h.0, all_outside xs h.1)
