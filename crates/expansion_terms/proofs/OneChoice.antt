-- The choice of a term and of the choice of others in normal form is the choice of them all.
use Rattle.std.specs.Option.{unwrap_or}
use Rattle.std.specs.Prelude.{◌<◌, List, [], ◌∷◌, ◌++◌, length}
use Rattle.std.proofs.Common.{◌≡◌, ◌∙◌, ap, arith, append-nil}
use Rattle.term_laws.proofs.Identity.{distinct_same, alone_same}
use Rattle.chart_term.specs.NormalForms.{NetPermits, open_choice, open_choices, without, distinct, choice_form}
use Rattle.chart_term.specs.Properties.{Each}
use Rattle.chart_term.specs.Terms.{Tree, Nil, Event, Join, Choice, Tied, Loop, Walk, none, more}
use Rattle.chart_term.proofs.Distinct.{distinct_some}
use Rattle.chart_term.proofs.Lists.{items-trees}
use Rattle.term_laws.specs.Normality.{IsAlternative, IsNormal}
use Rattle.term_laws.proofs.Normalising.{are_different, choices_parts}
use Rattle.term_laws.proofs.Opening.{each_distinct}
use Rattle.expansion_terms.specs.Constructors.{one_of}

-- ---- each once, twice over

distinct_behind : (xs ys : List Tree) → distinct (xs ++ distinct ys) ≡ distinct (xs ++ ys)
distinct_behind [] ys = distinct_same (distinct ys) (are_different ys)
distinct_behind (x ∷ xs) ys = ap (λ l. x ∷ without x l) (distinct_behind xs ys)

-- ---- a choice, opened

form_opened : (xs : List Tree) → Each IsAlternative xs → 0 < length xs → open_choice (unwrap_or (choice_form xs) Nil) ≡ xs
form_opened [] h l = absurd (omega (arith, l))
form_opened (x ∷ []) h l = alone_same x h.0
form_opened (x ∷ y ∷ xs) h l = items-trees (x ∷ y ∷ xs)

longer : (xs ys : List Tree) → 0 < length xs → 0 < length (xs ++ ys)
longer [] ys l = absurd (omega (arith, l))
longer (x ∷ xs) ys l = omega arith

module _ (k : NetPermits) where
  opened_some : (x : Tree) → IsNormal k x → 0 < length (open_choice x)
  opened_some (Choice none) h = absurd h.2
  opened_some (Choice (more x xs)) h = omega arith
  opened_some Nil h = omega arith
  opened_some (Event e) h = omega arith
  opened_some (Join m xs) h = omega arith
  opened_some (Tied x q) h = omega arith
  opened_some (Loop x lo hi r) h = omega arith
  opened_some (Walk n f t c) h = omega arith

  choices_some : (xs : List Tree) → Each (IsNormal k) xs → 0 < length xs → 0 < length (open_choices xs)
  choices_some [] h l = absurd (omega (arith, l))
  choices_some (x ∷ xs) h l = longer (open_choice x) (open_choices xs) (opened_some x h.0)

  one_opened : (xs : List Tree) → Each (IsNormal k) xs → 0 < length xs → open_choice (one_of xs) ≡ distinct (open_choices xs)
  one_opened xs h l = form_opened (distinct (open_choices xs)) (each_distinct IsAlternative (open_choices xs) (choices_parts k xs h)) (distinct_some (open_choices xs) (choices_some xs h l))

  pub choice_within : (x : Tree) (xs : List Tree) → Each (IsNormal k) xs → 0 < length xs → one_of (x ∷ one_of xs ∷ []) ≡ one_of (x ∷ xs)
  choice_within x xs h l = ap (λ os. unwrap_or (choice_form (distinct (open_choice x ++ os))) Nil) (append-nil (open_choice (one_of xs)) ∙ one_opened xs h l)
      ∙ ap (λ os. unwrap_or (choice_form os) Nil) (distinct_behind (open_choice x) (open_choices xs))
