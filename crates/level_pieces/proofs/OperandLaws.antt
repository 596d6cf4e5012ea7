-- The operands of an item whose parts are well formed: they are so too, and their events are numbered.
use Rattle.std.proofs.Common.{◌≡◌, inl, inr, ℕ, ◌≤◌, ◌+◌, zero, suc, Bool, true, false, cond, List, [], ◌∷◌, ◌++◌, Option, Some, None, refl, subst, arith}
use Rattle.msc_base.specs.Lists.{AreDifferent, IsAmong}
use Rattle.msc_tree.specs.declared.chart.Cover.{Cover}
use Rattle.msc_tree.specs.declared.chart.Cover.TheVariants.{All, Listed}
use Rattle.msc_tree.specs.Statements.{Form, Single, Coregion, Condition, Inline, Refer, Stop, Operand, InColumn, Outside, Operands, no_operands, operand_and, Statements}
use Rattle.msc_meaning.specs.LevelItems.{cover_by, cover_of, is_in, shared_of, within}
use Rattle.msc_meaning.specs.Pieces.{Piece, form_count, operand_at, operand_count, operand_of, operand_pieces, operands_count, operands_of, statements_pieces}
use Rattle.level_pieces.specs.ItemParts.{AreParts}
use Rattle.level_pieces.specs.PieceNumbers.{AreNumbered}
use Rattle.chart_text.proofs.StandingLaws.{IsMovable, formed_item}
use Rattle.chart_text.specs.Texts.{Scope, statements_text}
use Rattle.chart_text.specs.WellFormed.{AreWellFormed, is_well_formed}
use Rattle.level_pieces.specs.FormedPieces.{AreFormed, IsFormedPiece}
use Rattle.level_pieces.proofs.PieceTexts.{operand_are, parts_operands, statements_are}
use Rattle.level_pieces.proofs.NumberedPieces.{ArePlaced, items_placed, placed_later, statements_placed}

-- ---- pieces of well-formed text are well formed

pub formed_movable : IsMovable (λ p. is_well_formed p ≡ true)
formed_movable = record {
  item = λ s t place f b h. formed_item s t f b h;
  statement = λ m n v w x h. refl;
  operand = λ s t x h. refl;
}

-- the pieces of statements are
pub statements_formed : (depth : ℕ) (scope : Scope) (cover : List (List ℕ)) (n : ℕ) (xs : Statements) → AreWellFormed (statements_text depth scope xs) → AreFormed (statements_pieces cover n xs)
statements_formed depth scope cover n xs h = statements_are (λ x. is_well_formed x ≡ true) formed_movable depth scope cover n xs h

-- and those of an operand
pub operands_formed : (cover : List (List ℕ)) (k : ℕ) (parts : List Piece) → AreParts parts → AreFormed (operands_of cover k parts)
operands_formed cover k [] h = absurd h
operands_formed cover k (p ∷ ps) h = parts_operands IsFormedPiece cover k (p ∷ ps) (operand_are (λ x. is_well_formed x ≡ true) formed_movable cover k) h.2

-- ---- and their events are numbered

operand_placed : (cover : List (List ℕ)) (p : Piece) (n : ℕ) (x : Operand) → ArePlaced n (n + operand_count x) (operand_pieces cover p n x)
operand_placed cover p n (InColumn held) = items_placed p.column p.leads n held
operand_placed cover p n (Outside held) = statements_placed cover n held

-- from a number on that is no higher
placed_before : (n m k : ℕ) (ps : List Piece) → n ≤ m → ArePlaced m k ps → ArePlaced n k ps
placed_before n m k [] le h = omega (arith, le, h)
placed_before n m k (p ∷ ps) le h = (omega (arith, le, h.0), h.1)

at_placed : (cover : List (List ℕ)) (p : Piece) (n k : ℕ) (xs : Operands) → ArePlaced n (n + operands_count xs) (operand_at cover p n k xs)
at_placed cover p n zero no_operands = omega arith
at_placed cover p n (suc k) no_operands = omega arith
at_placed cover p n zero (operand_and x xs) = placed_later n (n + operand_count x) (n + (operand_count x + operands_count xs)) (operand_pieces cover p n x) (omega arith) (operand_placed cover p n x)
at_placed cover p n (suc k) (operand_and x xs) =
    let z : (n + operand_count x) + operands_count xs ≡ n + (operand_count x + operands_count xs) = omega arith in
    placed_before n (n + operand_count x) (n + (operand_count x + operands_count xs)) (operand_at cover p (n + operand_count x) k xs) (omega arith)
    (subst (λ (m : ℕ). ArePlaced (n + operand_count x) m (operand_at cover p (n + operand_count x) k xs)) z (at_placed cover p (n + operand_count x) k xs))

of_placed : (cover : List (List ℕ)) (k : ℕ) (p : Piece) (f : Form) → ArePlaced p.first (p.first + form_count f) (operand_of cover k p f)
of_placed cover k p (Single e) = omega arith
of_placed cover k p (Coregion es) = omega arith
of_placed cover k p (Condition names shared) = omega arith
of_placed cover k p (Inline head held) = at_placed cover p p.first k held
of_placed cover k p (Refer r) = omega arith
of_placed cover k p Stop = omega arith

parts_numbered : (cover : List (List ℕ)) (k n : ℕ) (ps : List Piece) → AreNumbered n ps → AreNumbered n (operands_of cover k ps)
parts_numbered cover k n [] h = tt
parts_numbered cover k n (p ∷ ps) h =
    on n (p.first + form_count p.form) (operand_of cover k p p.form) (operands_of cover k ps) (placed_before n p.first (p.first + form_count p.form) (operand_of cover k p p.form) h.0 (of_placed cover k p p.form))
    (parts_numbered cover k (p.first + form_count p.form) ps h.1)
  where
    on : (a b : ℕ) (qs rs : List Piece) → ArePlaced a b qs → AreNumbered b rs → AreNumbered a (qs ++ rs)
    on a b [] [] w g = tt
    on a b [] (r ∷ rs) w g = (omega (arith, w, g.0), g.1)
    on a b (q ∷ qs) rs w g = (w.0, on (q.first + form_count q.form) b qs rs w.1 g)

pub operands_numbered : (cover : List (List ℕ)) (k : ℕ) (parts : List Piece) → AreParts parts → AreNumbered 0 (operands_of cover k parts)
operands_numbered cover k [] h = absurd h
operands_numbered cover k (p ∷ ps) h = parts_numbered cover k 0 (p ∷ ps) h.3

-- ---- what an item covers has no instance twice

within_among : (level names : List (List ℕ)) (i : List ℕ) → IsAmong (within level names) i → IsAmong level i
within_among [] names i h = h
within_among (j ∷ level) names i h = by (is_in names j) h (within_among level names i)
  where
    by : (b : Bool) → IsAmong (cond b (j ∷ within level names) (within level names)) i → (IsAmong (within level names) i → IsAmong level i) → IsAmong (j ∷ level) i
    by true (inl e) rest = inl e
    by true (inr g) rest = inr (rest g)
    by false g rest = inr (rest g)

within_different : (level names : List (List ℕ)) → AreDifferent level → AreDifferent (within level names)
within_different [] names d = tt
within_different (j ∷ level) names d = by (is_in names j) (within_different level names d.1)
  where
    by : (b : Bool) → AreDifferent (within level names) → AreDifferent (cond b (j ∷ within level names) (within level names))
    by true rest = (λ h. d.0 (within_among level names j h), rest)
    by false rest = rest

by_different : (level leads : List (List ℕ)) (column : Option (List ℕ)) (shared : Option Cover) → AreDifferent level → AreDifferent (cover_by level leads column shared)
by_different level leads None shared d = within_different level leads d
by_different level leads (Some i) None d = (λ h. h, tt)
by_different level leads (Some i) (Some All) d = d
by_different level leads (Some i) (Some (Listed [])) d = (λ h. h, tt)
by_different level leads (Some i) (Some (Listed (j ∷ js))) d = within_different level (j ∷ js) d

pub cover_different : (level : List (List ℕ)) (p : Piece) → AreDifferent level → AreDifferent (cover_of level p)
cover_different level p d = by_different level p.leads p.column (shared_of p.form) d
