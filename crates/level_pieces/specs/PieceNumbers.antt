-- Serves private contracts alone.
-- Pieces whose events are numbered in the order of the text.
use Rattle.std.specs.Prelude.{◌≤◌, ⊤, ℕ, ◌+◌, List, [], ◌∷◌}
use Rattle.msc_meaning.specs.Pieces.{Piece, form_count}

-- the numbers of the events rise along the pieces, from n on: those of a piece end before the next one begins
abbrev pub AreNumbered : ℕ → List Piece → Type 0
AreNumbered n [] = ⊤
AreNumbered n (p ∷ ps) = (n ≤ p.first) × AreNumbered (p.first + form_count p.form) ps
