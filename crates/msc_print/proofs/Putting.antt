-- Tokens that are written one list after another, and item by item of a list.
use Rattle.std.proofs.Common.{ℕ, Bool, true, false, ◌≡◌, ◌++◌, ◌<◌, List, [], ◌∷◌, map, length, drop, get_or, refl, suc, codes}
use Rattle.std.proofs.Math.Seq.{drop-cons}
use Rattle.msc_tree.specs.Expressions.{Expression, Expressions, expressions}
use Rattle.msc_tree.specs.Graphs.{Graph, Graphs, Line, graphs, lines}
use Rattle.msc_tree.specs.Statements.{Item, Operand, Operands, Statement, items, operands, statements}
use Rattle.msc_print.specs.Words.{Words, all_words, each_behind, end_words, separator}
use Rattle.msc_print.specs.ExpressionWords.{expression_words, part_words, operator_words, other_words}
use Rattle.msc_print.specs.GraphWords.{graph_words, line_words, lines_words, frame_words, other_frame_words}
use Rattle.msc_print.specs.StatementWords.{item_words, items_words, operand_words, operands_words, other_operand_words, statement_words, statements_words}
use Rattle.msc_print.specs.Pages.{Sheet, put, put_all}

pub put_append : (s : Sheet) (u v : Words) → put_all s (u ++ v) ≡ put_all (put_all s u) v
put_append s [] v = refl
put_append s (x ∷ u) v = put_append (put s x) u v

-- ---- the next item of a list

pub each_step : {A : Type 0} (text : List ℕ) (f : A → Words) (s : Sheet) (xs : List A) (i : ℕ) (x : A) → i < length xs → x ≡ get_or xs i x →
    put_all s (each_behind text f (drop i xs)) ≡ put_all (put_all (put s text) (f x)) (each_behind text f (drop (suc i) xs))
each_step text f s xs i x h e = rw (drop-cons xs i x h, ← e) (put_append (put s text) (f x) (each_behind text f (drop (suc i) xs)))

pub all_step : {A : Type 0} (f : A → Words) (s : Sheet) (xs : List A) (i : ℕ) (x : A) → i < length xs → x ≡ get_or xs i x →
    put_all s (all_words f (drop i xs)) ≡ put_all (put_all s (f x)) (all_words f (drop (suc i) xs))
all_step f s xs i x h e = rw (drop-cons xs i x h, ← e) (put_append s (f x) (all_words f (drop (suc i) xs)))

pub mapped_step : {A B : Type 0} (g : A → B) (f : B → Words) (s : Sheet) (xs : List A) (i : ℕ) (x : A) → i < length xs → x ≡ get_or xs i x →
    put_all s (all_words f (map g (drop i xs))) ≡ put_all (put_all s (f (g x))) (all_words f (map g (drop (suc i) xs)))
mapped_step g f s xs i x h e = rw (drop-cons xs i x h, ← e) (put_append s (f (g x)) (all_words f (map g (drop (suc i) xs))))

pub row_step : (s : Sheet) (xs : Words) (i : ℕ) (x : List ℕ) → i < length xs → x ≡ get_or xs i x → put_all s (drop i xs) ≡ put_all (put s x) (drop (suc i) xs)
row_step s xs i x h e = rw (drop-cons xs i x h, ← e) refl

-- parts that are still to be written, where the first of all is among them or not
abbrev pub parts_left : Bool → ℕ → List ℕ → Expressions → Words
parts_left true = operator_words
parts_left false = other_words

pub part_step : {A : Type 0} (g : A → Expression) (first : Bool) (operator : ℕ) (word : List ℕ) (s : Sheet) (xs : List A) (i : ℕ) (x : A) → i < length xs → x ≡ get_or xs i x →
    put_all s (parts_left first operator word (expressions (map g (drop i xs)))) ≡ put_all (put_all (put_all s (separator first (word ∷ []))) (part_words operator (g x) (expression_words (g x)))) (other_words operator word (expressions (map g (drop (suc i) xs))))
part_step g true operator word s xs i x h e =
    rw (drop-cons xs i x h, ← e) (put_append s (part_words operator (g x) (expression_words (g x))) (other_words operator word (expressions (map g (drop (suc i) xs)))))
part_step g false operator word s xs i x h e =
    rw (drop-cons xs i x h, ← e) (put_append (put s word) (part_words operator (g x) (expression_words (g x))) (other_words operator word (expressions (map g (drop (suc i) xs)))))

pub line_step : {A : Type 0} (g : A → Line) (s : Sheet) (xs : List A) (i : ℕ) (x : A) → i < length xs → x ≡ get_or xs i x →
    put_all s (lines_words (lines (map g (drop i xs)))) ≡ put_all (put_all s (line_words (g x))) (lines_words (lines (map g (drop (suc i) xs))))
line_step g s xs i x h e = rw (drop-cons xs i x h, ← e) (put_append s (line_words (g x)) (lines_words (lines (map g (drop (suc i) xs)))))

abbrev pub frames_left : Bool → Graphs → Words
frames_left true = frame_words
frames_left false = other_frame_words

pub frame_step : {A : Type 0} (g : A → Graph) (first : Bool) (s : Sheet) (xs : List A) (i : ℕ) (x : A) → i < length xs → x ≡ get_or xs i x →
    put_all s (frames_left first (graphs (map g (drop i xs)))) ≡ put_all (put (put_all (put_all s (separator first (codes "par" ∷ []))) (graph_words (g x))) (codes "endexpr")) (other_frame_words (graphs (map g (drop (suc i) xs))))
frame_step g true s xs i x h e =
    rw (drop-cons xs i x h, ← e) (put_append s (graph_words (g x)) (codes "endexpr" ∷ other_frame_words (graphs (map g (drop (suc i) xs)))))
frame_step g false s xs i x h e =
    rw (drop-cons xs i x h, ← e) (put_append (put s (codes "par")) (graph_words (g x)) (codes "endexpr" ∷ other_frame_words (graphs (map g (drop (suc i) xs)))))

pub item_step : {A : Type 0} (g : A → Item) (s : Sheet) (xs : List A) (i : ℕ) (x : A) → i < length xs → x ≡ get_or xs i x →
    put_all s (items_words (items (map g (drop i xs)))) ≡ put_all (put_all s (item_words (g x))) (items_words (items (map g (drop (suc i) xs))))
item_step g s xs i x h e = rw (drop-cons xs i x h, ← e) (put_append s (item_words (g x)) (items_words (items (map g (drop (suc i) xs)))))

pub statement_step : {A : Type 0} (g : A → Statement) (s : Sheet) (xs : List A) (i : ℕ) (x : A) → i < length xs → x ≡ get_or xs i x →
    put_all s (statements_words (statements (map g (drop i xs)))) ≡ put_all (put_all s (statement_words (g x))) (statements_words (statements (map g (drop (suc i) xs))))
statement_step g s xs i x h e = rw (drop-cons xs i x h, ← e) (put_append s (statement_words (g x)) (statements_words (statements (map g (drop (suc i) xs)))))

abbrev pub operands_left : Bool → List ℕ → Operands → Words
operands_left true = operands_words
operands_left false = other_operand_words

pub operand_step : {A : Type 0} (g : A → Operand) (first : Bool) (word : List ℕ) (s : Sheet) (xs : List A) (i : ℕ) (x : A) → i < length xs → x ≡ get_or xs i x →
    put_all s (operands_left first word (operands (map g (drop i xs)))) ≡ put_all (put_all (put_all s (separator first (word ∷ end_words))) (operand_words (g x))) (other_operand_words word (operands (map g (drop (suc i) xs))))
operand_step g true word s xs i x h e =
    rw (drop-cons xs i x h, ← e) (put_append s (operand_words (g x)) (other_operand_words word (operands (map g (drop (suc i) xs)))))
operand_step g false word s xs i x h e =
    rw (drop-cons xs i x h, ← e) (put_append (put_all (put s word) end_words) (operand_words (g x)) (other_operand_words word (operands (map g (drop (suc i) xs)))))
