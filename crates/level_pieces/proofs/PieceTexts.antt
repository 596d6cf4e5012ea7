-- What holds of each passage of the statements of a level holds of the text of each of its pieces; and so does what holds of the text of a
-- piece of the pieces of each of its operands.
use Rattle.std.proofs.Common.{◌≡◌, ℕ, zero, suc, ◌+◌, true, List, [], ◌∷◌, ◌++◌, Option, Some, None}
use Rattle.chart_text.proofs.StandingLaws.{IsMovable, each_left, each_right, form_moved}
use Rattle.chart_text.specs.Texts.{Standing, Passage, Scope, Whole, a_statement, an_item, an_operand, behind, behind_colon, form_text, in_column, inside, items_text, operand_held, operands_text, statement_held, statements_text}
use Rattle.chart_text.specs.WellFormed.{Each, is_at_one}
use Rattle.level_pieces.specs.FormedPieces.{EachPiece, piece_text}
use Rattle.msc_meaning.specs.Pieces.{Piece, form_count, items_pieces, operand_at, operand_count, operand_of, operand_pieces, operands_of, statement_count, statement_pieces, statements_pieces}
use Rattle.msc_tree.specs.declared.chart.Cover.TheVariants.{All, Listed}
use Rattle.msc_tree.specs.Statements.{placed, Form, Single, Coregion, Condition, Inline, Refer, Stop, Items, no_items, item_and, Operand, InColumn, Outside, Operands, no_operands, operand_and, Statement, Column, Covered, Heading, Ended, Statements, no_statements, statement_and}

pub pieces_behind : (P : Piece → Type 0) (ps qs : List Piece) → EachPiece P ps → EachPiece P qs → EachPiece P (ps ++ qs)
pieces_behind P [] qs h g = g
pieces_behind P (p ∷ ps) qs h g = (h.0, pieces_behind P ps qs h.1 g)

-- what each operand of each part has, the operands of the item have
pub parts_operands : (P : Piece → Type 0) (cover : List (List ℕ)) (k : ℕ) (ps : List Piece) → ((p : Piece) → P p → EachPiece P (operand_of cover k p p.form)) → EachPiece P ps → EachPiece P (operands_of cover k ps)
parts_operands P cover k [] f h = tt
parts_operands P cover k (p ∷ ps) f h = pieces_behind P (operand_of cover k p p.form) (operands_of cover k ps) (f p h.0) (parts_operands P cover k ps f h.1)

-- that of a piece
abbrev standing : List (List ℕ) → Standing
standing leads = record { depth = 0; side = behind leads; scope = Whole }

module _ (P : Passage → Type 0) (movable : IsMovable P) where
  -- of the text of the piece
  abbrev pub IsOf : Piece → Type 0
  IsOf p = Each P (piece_text p)

  items_are : (s : Standing) (column : Option (List ℕ)) (leads : List (List ℕ)) (n : ℕ) (xs : Items) → (is_at_one s.side ≡ true → is_at_one (behind leads) ≡ true) → Each P (items_text s xs) → EachPiece IsOf (items_pieces column leads n xs)
  items_are s column leads n no_items b h = tt
  items_are s column leads n (item_and (placed place f) xs) b h =
      let own = each_left P (an_item s place f ∷ form_text s f) (items_text s xs) h in
      let rest = each_right P (an_item s place f ∷ form_text s f) (items_text s xs) h in
      ((movable.item s (standing leads) place f b own.0, form_moved P movable s (standing leads) f b own.1), items_are s column leads (n + form_count f) xs b rest)

  statement_is : (m : ℕ) (v : Scope) (cover : List (List ℕ)) (n : ℕ) (x : Statement) → Each P (statement_held m v x) → EachPiece IsOf (statement_pieces cover n x)
  statement_is m v cover n (Column decl held) h = items_are (record { depth = m; side = in_column decl.name; scope = v }) (Some decl.name) (decl.name ∷ []) n held (λ e. e) h
  statement_is m v cover n (Covered All held) h = items_are (record { depth = m; side = behind_colon v All; scope = v }) None cover n held (λ e. cc) h
  statement_is m v cover n (Covered (Listed names) held) h = items_are (record { depth = m; side = behind_colon v (Listed names); scope = v }) None names n held (λ e. e) h
  statement_is m v cover n (Heading decl) h = tt
  statement_is m v cover n (Ended name) h = tt

  pub statements_are : (m : ℕ) (v : Scope) (cover : List (List ℕ)) (n : ℕ) (xs : Statements) → Each P (statements_text m v xs) → EachPiece IsOf (statements_pieces cover n xs)
  statements_are m v cover n no_statements h = tt
  statements_are m v cover n (statement_and x xs) h =
      let own = each_left P (a_statement m v x ∷ statement_held m v x) (statements_text m v xs) h in
      let rest = each_right P (a_statement m v x ∷ statement_held m v x) (statements_text m v xs) h in
      pieces_behind IsOf (statement_pieces cover n x) (statements_pieces cover (n + statement_count x) xs) (statement_is m v cover n x own.1) (statements_are m v cover (n + statement_count x) xs rest)

  operand_is : (cover : List (List ℕ)) (p : Piece) (s : Standing) (n : ℕ) (x : Operand) → (is_at_one s.side ≡ true → is_at_one (behind p.leads) ≡ true) → Each P (operand_held s x) → EachPiece IsOf (operand_pieces cover p n x)
  operand_is cover p s n (InColumn held) b h = items_are s p.column p.leads n held b h
  operand_is cover p s n (Outside held) b h = statements_are s.depth s.scope cover n held h

  at_is : (cover : List (List ℕ)) (p : Piece) (s : Standing) (n k : ℕ) (xs : Operands) → (is_at_one s.side ≡ true → is_at_one (behind p.leads) ≡ true) → Each P (operands_text s xs) → EachPiece IsOf (operand_at cover p n k xs)
  at_is cover p s n zero no_operands b h = tt
  at_is cover p s n (suc k) no_operands b h = tt
  at_is cover p s n zero (operand_and x xs) b h = let own = each_left P (an_operand s x ∷ operand_held s x) (operands_text s xs) h in operand_is cover p s n x b own.1
  at_is cover p s n (suc k) (operand_and x xs) b h = at_is cover p s (n + operand_count x) k xs b (each_right P (an_operand s x ∷ operand_held s x) (operands_text s xs) h)

  of_form : (cover : List (List ℕ)) (k : ℕ) (p : Piece) (f : Form) → Each P (form_text (standing p.leads) f) → EachPiece IsOf (operand_of cover k p f)
  of_form cover k p (Inline head held) h = at_is cover p (inside (standing p.leads) head.shared) p.first k held (λ e. e) h
  of_form cover k p (Single e) h = tt
  of_form cover k p (Coregion es) h = tt
  of_form cover k p (Condition names shared) h = tt
  of_form cover k p (Refer r) h = tt
  of_form cover k p Stop h = tt

  -- those of an operand of a piece
  pub operand_are : (cover : List (List ℕ)) (k : ℕ) (p : Piece) → IsOf p → EachPiece IsOf (operand_of cover k p p.form)
  operand_are cover k p h = of_form cover k p p.form h.1
