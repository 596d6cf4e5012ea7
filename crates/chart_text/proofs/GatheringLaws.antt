-- What rules tell of two texts, one behind the other.
use Rattle.std.specs.Prelude.{◌+◌, ℕ, List, [], ◌∷◌, ◌++◌}
use Rattle.std.proofs.Common.{◌≡◌, ◌∙◌, ap, sym, refl, arith}
use Rattle.std.proofs.lemmas.List.{append_assoc}
use Rattle.chart_text.specs.Gathering.{summed}
use Rattle.chart_text.specs.Texts.{Passage}

pub summed_append : (f : Passage → ℕ) (xs ys : List Passage) → summed f (xs ++ ys) ≡ summed f xs + summed f ys
summed_append f [] ys = omega arith
summed_append f (x ∷ xs) ys = let e = summed_append f xs ys in omega (arith, e)
