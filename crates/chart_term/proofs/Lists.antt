-- Lists of parts and their trees.
use Rattle.std.specs.Prelude.{ℕ, suc, ◌+◌, List, [], ◌∷◌, ◌≡◌, refl, length}
use Rattle.std.proofs.Common.{ap}
use Rattle.chart_term.specs.Tables.{count_from}
use Rattle.chart_term.specs.Terms.{Tree, items, trees, Part, Gap, Turn, parts, row_of}

pub items-trees : (xs : List Tree) → items (trees xs) ≡ xs
items-trees [] = refl
items-trees (x ∷ xs) = ap (λ l. x ∷ l) (items-trees xs)

pub parts-row_of : (ps : List Part) → parts (row_of ps) ≡ ps
parts-row_of [] = refl
parts-row_of (Gap c ∷ ps) = ap (λ l. Gap c ∷ l) (parts-row_of ps)
parts-row_of (Turn x ∷ ps) = ap (λ l. Turn x ∷ l) (parts-row_of ps)

pub count_length : (i : ℕ) (xs : List Tree) → length (count_from i xs) ≡ length xs
count_length i [] = refl
count_length i (x ∷ xs) = ap (λ n. suc n) (count_length (i + 1) xs)
