-- The numbers of what the normalising constructors make.
use Rattle.std.specs.Prelude.{ℕ, ◌≡◌, List, [], ◌∷◌, Option, Some}
use Rattle.std.specs.List.{flat_map}
use Rattle.msc_base.specs.Patterns.{Mode}
use Rattle.chart_term.specs.NormalForms.{join_all, choice_of, tie_of, numbers}
use Rattle.chart_term.specs.Tables.{Tables}
use Rattle.chart_term.specs.Terms.{Tree}
use Rattle.term_laws.specs.FullSoundness.{fresh_loop}
use Rattle.term_laws.specs.OneResidual.{AreOnce}

-- the numbers of a list of terms
abbrev pub list_numbers : List Tree → List ℕ
list_numbers xs = flat_map numbers xs

-- some of them, in their order
pub data IsPartList : List ℕ → List ℕ → Type 0 where
  part_none : IsPartList [] []
  part_keep : {n : ℕ} {a b : List ℕ} → IsPartList a b → IsPartList (n ∷ a) (n ∷ b)
  part_drop : {n : ℕ} {a b : List ℕ} → IsPartList a b → IsPartList a (n ∷ b)

-- the constructors keep the numbers, or lose some: what stands once stands once
pub record NumbersAreKept : Type 0 where
  pub join : (m : Mode) (xs : List Tree) → numbers (join_all m xs) ≡ list_numbers xs
  pub choice : (xs : List Tree) (y : Tree) → choice_of xs ≡ Some y → IsPartList (numbers y) (list_numbers xs)
  pub tied : (x : Tree) (q : List (ℕ × ℕ)) → numbers (tie_of x q) ≡ numbers x
  pub loop : (w : Tables) (x : Tree) (lo : ℕ) (hi : Option ℕ) (y : Tree) → fresh_loop w x lo hi ≡ Some y → IsPartList (numbers y) (numbers x)
  pub once : (a b : List ℕ) → IsPartList a b → AreOnce b → AreOnce a
