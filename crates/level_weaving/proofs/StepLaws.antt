-- Steps of walks over a woven list.
use Rattle.std.proofs.Common.{◌≡◌, ◌<◌, ◌+◌, ℕ, List, ◌++◌, Option, Some, drop, get_or, length, slice_get, sym, ap, ◌∙◌, Result, Ok, Err, IfOk, subst}
use Rattle.std.proofs.lemmas.List.{get_or_default, append_assoc}
use Rattle.msc_base.specs.declared.label.Pair.{Pair}
use Rattle.list_facts.proofs.Reading.{drop_read}
use Rattle.msc_meaning.specs.Bodies.{EventNode}
use Rattle.msc_meaning.specs.Pairing.{ArePairs}
use Rattle.msc_meaning.specs.Pieces.{Piece}
use Rattle.level_weaving.specs.LevelNodes.{option_nodes, ordered_nodes, piece_nodes}

-- one item more
pub nodes_step : (ps : List Piece) (order : List ℕ) (k x : ℕ) (p : Piece) (held longer : List EventNode) → k < length order → x ≡ get_or order k 0 → slice_get ps x ≡ Some p → longer ≡ held ++ piece_nodes p
    → longer ++ ordered_nodes ps (drop (k + 1) order) ≡ held ++ ordered_nodes ps (drop k order)
nodes_step ps order k x p held longer low is at made =
    let read : x ≡ get_or order k x = is ∙ get_or_default order k 0 x low in
    let rest : List EventNode = ordered_nodes ps (drop (k + 1) order) in
    ap (λ (l : List EventNode). l ++ rest) made ∙ append_assoc held (piece_nodes p) rest
    ∙ ap (λ (o : Option Piece). held ++ (option_nodes o ++ rest)) (sym at)
    ∙ ap (λ (xs : List ℕ). held ++ ordered_nodes ps xs) (sym (drop_read order k x low read))

pub pairs_answer : {E : Type 0} (result : Result (List Pair) E) (held : List EventNode) (pairs : List Pair) → IfOk result (λ list. list ≡ pairs) → ArePairs held pairs → IfOk result (ArePairs held)
pairs_answer (Ok list) held pairs is h = subst (λ (l : List Pair). ArePairs held l) (sym is) h
pairs_answer (Err e) held pairs is h = is
