-- The numbers of the events rise along the pieces of a level.
use Rattle.std.proofs.Common.{◌≡◌, ℕ, ◌≤◌, ◌+◌, List, [], ◌∷◌, ◌++◌, Option, Some, None, subst, arith}
use Rattle.msc_tree.specs.Statements.{placed, Items, no_items, item_and, Statement, Column, Covered, Heading, Ended, Statements, no_statements, statement_and}
use Rattle.msc_meaning.specs.Pieces.{Piece, covered, form_count, items_count, items_pieces, statement_count, statement_pieces, statements_count, statements_pieces}
use Rattle.level_pieces.specs.PieceNumbers.{AreNumbered}

-- the numbers of the events rise along the pieces, from n on, and stay below m
abbrev pub ArePlaced : ℕ → ℕ → List Piece → Type 0
ArePlaced n m [] = n ≤ m
ArePlaced n m (p ∷ ps) = (n ≤ p.first) × ArePlaced (p.first + form_count p.form) m ps

pub placed_on : (n m k : ℕ) (ps qs : List Piece) → ArePlaced n m ps → ArePlaced m k qs → ArePlaced n k (ps ++ qs)
placed_on n m k [] [] w h = omega (arith, w, h)
placed_on n m k [] (q ∷ qs) w h = (omega (arith, w, h.0), h.1)
placed_on n m k (p ∷ ps) qs w h = (w.0, placed_on (p.first + form_count p.form) m k ps qs w.1 h)

pub placed_later : (n m k : ℕ) (ps : List Piece) → m ≤ k → ArePlaced n m ps → ArePlaced n k ps
placed_later n m k [] le h = omega (arith, le, h)
placed_later n m k (p ∷ ps) le h = (h.0, placed_later (p.first + form_count p.form) m k ps le h.1)

pub items_placed : (column : Option (List ℕ)) (leads : List (List ℕ)) (n : ℕ) (xs : Items) → ArePlaced n (n + items_count xs) (items_pieces column leads n xs)
items_placed column leads n no_items = omega arith
items_placed column leads n (item_and (placed place form) xs) =
    let z : (n + form_count form) + items_count xs ≡ n + (form_count form + items_count xs) = omega arith in
    (omega arith, subst (λ (m : ℕ). ArePlaced (n + form_count form) m (items_pieces column leads (n + form_count form) xs)) z (items_placed column leads (n + form_count form) xs))

statement_placed : (cover : List (List ℕ)) (n : ℕ) (s : Statement) → ArePlaced n (n + statement_count s) (statement_pieces cover n s)
statement_placed cover n (Column decl held) = items_placed (Some decl.name) (decl.name ∷ []) n held
statement_placed cover n (Covered names held) = items_placed None (covered cover names) n held
statement_placed cover n (Heading decl) = omega arith
statement_placed cover n (Ended name) = omega arith

pub statements_placed : (cover : List (List ℕ)) (n : ℕ) (ss : Statements) → ArePlaced n (n + statements_count ss) (statements_pieces cover n ss)
statements_placed cover n no_statements = omega arith
statements_placed cover n (statement_and s ss) =
    let z : (n + statement_count s) + statements_count ss ≡ n + (statement_count s + statements_count ss) = omega arith in
    placed_on n (n + statement_count s) (n + (statement_count s + statements_count ss)) (statement_pieces cover n s) (statements_pieces cover (n + statement_count s) ss)
    (statement_placed cover n s)
    (subst (λ (m : ℕ). ArePlaced (n + statement_count s) m (statements_pieces cover (n + statement_count s) ss)) z (statements_placed cover (n + statement_count s) ss))

pub placed_numbered : (n m : ℕ) (ps : List Piece) → ArePlaced n m ps → AreNumbered n ps
placed_numbered n m [] h = tt
placed_numbered n m (p ∷ ps) h = (h.0, placed_numbered (p.first + form_count p.form) m ps h.1)

pub statements_numbered : (cover : List (List ℕ)) (n : ℕ) (ss : Statements) → AreNumbered n (statements_pieces cover n ss)
statements_numbered cover n ss = placed_numbered n (n + statements_count ss) (statements_pieces cover n ss) (statements_placed cover n ss)
