-- What pieces lack: operands beyond the last, and those of events, which have no name either.
use Rattle.std.proofs.Common.{◌≡◌, ℕ, ◌≤◌, ◌+◌, zero, suc, true, List, [], ◌∷◌, ◌++◌, None, refl, ap₂, arith}
use Rattle.msc_tree.specs.Statements.{Form, Single, Coregion, Condition, Inline, Refer, Stop, Operands, no_operands, operand_and}
use Rattle.msc_meaning.specs.LevelItems.{name_of}
use Rattle.msc_meaning.specs.Levels.{operand_number}
use Rattle.msc_meaning.specs.Pieces.{Piece, operand_at, operand_count, operand_of, operands_of}
use Rattle.level_pieces.specs.ItemOperands.{HaveAtMost, operands_in}
use Rattle.level_pieces.specs.ItemParts.{has_events}

none_at : (cover : List (List ℕ)) (p : Piece) (n k : ℕ) (xs : Operands) → operand_number xs ≤ k → operand_at cover p n k xs ≡ []
none_at cover p n zero no_operands le = refl
none_at cover p n (suc k) no_operands le = refl
none_at cover p n zero (operand_and x xs) le = absurd (omega (arith, le))
none_at cover p n (suc k) (operand_and x xs) le = none_at cover p (n + operand_count x) k xs (omega (arith, le))

none_of : (cover : List (List ℕ)) (k : ℕ) (p : Piece) (f : Form) → operand_number (operands_in f) ≤ k → operand_of cover k p f ≡ []
none_of cover k p (Single e) le = refl
none_of cover k p (Coregion es) le = refl
none_of cover k p (Condition names shared) le = refl
none_of cover k p (Inline head held) le = none_at cover p p.first k held le
none_of cover k p (Refer r) le = refl
none_of cover k p Stop le = refl

-- behind the last operand of each part
pub none_beyond : (cover : List (List ℕ)) (n k : ℕ) (parts : List Piece) → HaveAtMost n parts → n ≤ k → operands_of cover k parts ≡ []
none_beyond cover n k [] h le = refl
none_beyond cover n k (p ∷ ps) h le = ap₂ (λ (a b : List Piece). a ++ b) (none_of cover k p p.form (omega (arith, h.0, le))) (none_beyond cover n k ps h.1 le)

-- ---- events and coregions

pub no_name : (f : Form) → has_events f ≡ true → name_of f ≡ None
no_name (Single e) h = refl
no_name (Coregion es) h = refl
no_name (Condition names shared) h = cc
no_name (Inline head held) h = cc
no_name (Refer r) h = cc
no_name Stop h = cc

pub no_operand : (cover : List (List ℕ)) (k : ℕ) (p : Piece) (f : Form) → has_events f ≡ true → operand_of cover k p f ≡ []
no_operand cover k p (Single e) h = refl
no_operand cover k p (Coregion es) h = refl
no_operand cover k p (Condition names shared) h = refl
no_operand cover k p (Inline head held) h = cc
no_operand cover k p (Refer r) h = refl
no_operand cover k p Stop h = refl
