-- The operands of an item have no number in common.
use Rattle.std.proofs.Common.{◌≡◌, ℕ, zero, suc, ◌≤◌, ◌<◌, ◌+◌, ◌⊎◌, inl, inr, List, [], ◌∷◌, sym, subst, arith}
use Rattle.msc_tree.specs.Statements.{Form, Single, Coregion, Condition, Inline, Refer, Stop, Operand, InColumn, Outside, Operands, no_operands, operand_and}
use Rattle.msc_meaning.specs.Pieces.{Piece, form_count, operand_at, operand_count, operand_of, operand_pieces, operands_count, operands_of}
use Rattle.level_pieces.proofs.NumberedPieces.{ArePlaced, items_placed, placed_later, placed_on, statements_placed}
use Rattle.woven_laws.proofs.Regions.{Has, has_between, has_on, placed_before}

-- how many events stand before the k-th operand
before : ℕ → Operands → ℕ
before zero xs = 0
before (suc k) no_operands = 0
before (suc k) (operand_and x xs) = operand_count x + before k xs

before_zero : (xs : Operands) → before zero xs ≡ 0
unfolding before
before_zero xs = omega arith

before_none : (k : ℕ) → before k no_operands ≡ 0
unfolding before
before_none zero = omega arith
before_none (suc k) = omega arith

before_more : (k : ℕ) (x : Operand) (xs : Operands) → before (suc k) (operand_and x xs) ≡ operand_count x + before k xs
unfolding before
before_more k x xs = omega arith

before_rises : (k : ℕ) (xs : Operands) → before k xs ≤ before (suc k) xs
before_rises k no_operands = omega (arith, before_none k, before_none (suc k))
before_rises zero (operand_and x xs) = omega (arith, before_zero (operand_and x xs))
before_rises (suc k) (operand_and x xs) = omega (arith, before_more k x xs, before_more (suc k) x xs, before_rises k xs)

before_low : (k : ℕ) (xs : Operands) → before k xs ≤ operands_count xs
before_low k no_operands = omega (arith, before_none k)
before_low zero (operand_and x xs) = omega (arith, before_zero (operand_and x xs))
before_low (suc k) (operand_and x xs) = omega (arith, before_more k x xs, before_low k xs)

-- how many events of a form stand before its k-th operand; all, where it has none
pub start : ℕ → Form → ℕ
start k (Inline head xs) = before k xs
start k (Single e) = 1
start k f = form_count f

operand_placed : (cover : List (List ℕ)) (p : Piece) (n : ℕ) (x : Operand) → ArePlaced n (n + operand_count x) (operand_pieces cover p n x)
operand_placed cover p n (InColumn held) = items_placed p.column p.leads n held
operand_placed cover p n (Outside held) = statements_placed cover n held

at_placed : (cover : List (List ℕ)) (p : Piece) (n k : ℕ) (xs : Operands) → ArePlaced (n + before k xs) (n + before (suc k) xs) (operand_at cover p n k xs)
at_placed cover p n zero no_operands = omega (arith, before_none 0, before_none 1)
at_placed cover p n (suc k) no_operands = omega (arith, before_none (suc k), before_none (suc (suc k)))
at_placed cover p n zero (operand_and x xs) =
    let low : n + before zero (operand_and x xs) ≡ n = omega (arith, before_zero (operand_and x xs)) in
    let high : n + operand_count x ≤ n + before 1 (operand_and x xs) = omega (arith, before_more 0 x xs, before_zero xs) in
    subst (λ (i : ℕ). ArePlaced i (n + before 1 (operand_and x xs)) (operand_pieces cover p n x)) (sym low)
    (placed_later n (n + operand_count x) (n + before 1 (operand_and x xs)) (operand_pieces cover p n x) high (operand_placed cover p n x))
at_placed cover p n (suc k) (operand_and x xs) =
    let low : (n + operand_count x) + before k xs ≡ n + before (suc k) (operand_and x xs) = omega (arith, before_more k x xs) in
    let high : (n + operand_count x) + before (suc k) xs ≡ n + before (suc (suc k)) (operand_and x xs) = omega (arith, before_more (suc k) x xs) in
    subst (λ (i : ℕ). ArePlaced i (n + before (suc (suc k)) (operand_and x xs)) (operand_at cover p (n + operand_count x) k xs)) low
    (subst (λ (i : ℕ). ArePlaced ((n + operand_count x) + before k xs) i (operand_at cover p (n + operand_count x) k xs)) high (at_placed cover p (n + operand_count x) k xs))

start_rises : (k : ℕ) (f : Form) → (start k f ≤ start (suc k) f) × (start k f ≤ form_count f)
unfolding start
start_rises k (Inline head xs) = (before_rises k xs, before_low k xs)
start_rises k (Single e) = (omega arith, omega arith)
start_rises k (Coregion es) = (omega arith, omega arith)
start_rises k (Condition names shared) = (omega arith, omega arith)
start_rises k (Refer r) = (omega arith, omega arith)
start_rises k Stop = (omega arith, omega arith)

of_placed : (cover : List (List ℕ)) (k : ℕ) (p : Piece) (f : Form) → ArePlaced (p.first + start k f) (p.first + start (suc k) f) (operand_of cover k p f)
unfolding start
of_placed cover k p (Inline head xs) = at_placed cover p p.first k xs
of_placed cover k p (Single e) = omega arith
of_placed cover k p (Coregion es) = omega arith
of_placed cover k p (Condition names shared) = omega arith
of_placed cover k p (Refer r) = omega arith
of_placed cover k p Stop = omega arith

pub parts_placed : (cover : List (List ℕ)) (k n m : ℕ) (ps : List Piece) → ArePlaced n m ps → ArePlaced n m (operands_of cover k ps)
parts_placed cover k n m [] w = w
parts_placed cover k n m (p ∷ ps) w =
    let rises = start_rises k p.form in
    let ends = start_rises (suc k) p.form in
    placed_on n (p.first + form_count p.form) m (operand_of cover k p p.form) (operands_of cover k ps)
    (placed_before n (p.first + start k p.form) (p.first + form_count p.form) (operand_of cover k p p.form) (omega (arith, w.0))
    (placed_later (p.first + start k p.form) (p.first + start (suc k) p.form) (p.first + form_count p.form) (operand_of cover k p p.form) (omega (arith, ends.1)) (of_placed cover k p p.form)))
    (parts_placed cover k (p.first + form_count p.form) m ps w.1)

-- x is a number of the k-th operand, or of one behind it
abbrev pub FromOperand : ℕ → ℕ → List Piece → Type 0
FromOperand k x [] = ⊥
FromOperand k x (p ∷ ps) = ((p.first + start k p.form ≤ x) × (x < p.first + form_count p.form)) ⊎ FromOperand k x ps

-- and of the k-th
abbrev pub InOperand : ℕ → ℕ → List Piece → Type 0
InOperand k x [] = ⊥
InOperand k x (p ∷ ps) = ((p.first + start k p.form ≤ x) × (x < p.first + start (suc k) p.form)) ⊎ InOperand k x ps

pub in_operand : (cover : List (List ℕ)) (k x : ℕ) (ps : List Piece) → Has x (operands_of cover k ps) → InOperand k x ps
in_operand cover k x [] h = h
in_operand cover k x (p ∷ ps) h = elim (has_on x (operand_of cover k p p.form) (operands_of cover k ps) h) [
  | inl i ↦ inl (has_between x (p.first + start k p.form) (p.first + start (suc k) p.form) (operand_of cover k p p.form) (of_placed cover k p p.form) i)
  | inr i ↦ inr (in_operand cover k x ps i)
]

pub here_from : (k x : ℕ) (ps : List Piece) → InOperand k x ps → FromOperand k x ps
here_from k x [] h = h
here_from k x (p ∷ ps) (inl h) = let ends = start_rises (suc k) p.form in inl (h.0, omega (arith, h.1, ends.1))
here_from k x (p ∷ ps) (inr h) = inr (here_from k x ps h)

pub later_from : (k x : ℕ) (ps : List Piece) → FromOperand (suc k) x ps → FromOperand k x ps
later_from k x [] h = h
later_from k x (p ∷ ps) (inl h) = let rises = start_rises k p.form in inl (omega (arith, h.0, rises.0), h.1)
later_from k x (p ∷ ps) (inr h) = inr (later_from k x ps h)

pub from_has : (k x : ℕ) (ps : List Piece) → FromOperand k x ps → Has x ps
from_has k x [] h = h
from_has k x (p ∷ ps) (inl h) = inl (omega (arith, h.0), h.1)
from_has k x (p ∷ ps) (inr h) = inr (from_has k x ps h)

pub operands_apart : (k x n m : ℕ) (ps : List Piece) → ArePlaced n m ps → InOperand k x ps → FromOperand (suc k) x ps → ⊥
operands_apart k x n m [] w h g = h
operands_apart k x n m (p ∷ ps) w (inl h) (inl g) = omega (arith, h.1, g.0)
operands_apart k x n m (p ∷ ps) w (inl h) (inr g) =
    let above = has_between x (p.first + form_count p.form) m ps w.1 (from_has (suc k) x ps g) in
    let ends = start_rises (suc k) p.form in
    omega (arith, h.1, ends.1, above.0)
operands_apart k x n m (p ∷ ps) w (inr h) (inl g) =
    let above = has_between x (p.first + form_count p.form) m ps w.1 (from_has k x ps (here_from k x ps h)) in
    omega (arith, g.1, above.0)
operands_apart k x n m (p ∷ ps) w (inr h) (inr g) = operands_apart k x (p.first + form_count p.form) m ps w.1 h g
