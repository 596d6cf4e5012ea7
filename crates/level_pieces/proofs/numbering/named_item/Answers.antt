use Rattle.std.proofs.Common.{rules, arith, List, ◌≡◌, ◌∙◌, ℕ, Option, Some, None, length, map, subst, sym}
use Rattle.std.specs.List.{position}
use Rattle.std.specs.Str.{bytes_eq}
use Rattle.msc_meaning.specs.Pieces.{Piece}
use Rattle.level_pieces.specs.ItemNumbers.{IsKnown, IsNumbering, named_in, with_part}
use Rattle.level_pieces.specs.PieceViews.{parts_view, piece_view}
use Rattle.level_pieces.proofs.NumberLaws.{count_of, next_new, next_old, number_answer, number_named, on_ok, read_number}
use Rattle.level_pieces.proofs.numbering.named_item.Goals as goal

pub add_part-requires : goal.add_part-requires
add_part-requires c =
    let found : position (bytes_eq c.args.name.now) c.args.numbering.now.names ≡ Some c.in-Some.index = search rules in
    let xs : List (List Piece) = c.requires.0 in
    let h : IsNumbering xs c.args.numbering.now = c.requires.1 in
    let known = subst (λ (o : Option ℕ). IsKnown xs c.args.numbering.now.numbers.items o c.args.name.now) found (h.known c.args.name.now) in
    let is : c.index-number.result.now ≡ named_in xs c.args.name.now = read_number c.args.numbering.now.numbers.items c.in-Some.index c.index-number.result.now (named_in xs c.args.name.now) c.index-number.ensures known.0 in
    omega (arith, is, known.1, count_of xs c.args.numbering.now h)

pub returns-in_ok-add_part-in-Some-clause-number : goal.returns-in_ok-add_part-in-Some-clause-number
returns-in_ok-add_part-in-Some-clause-number c = λ xs h joint.
    let found : position (bytes_eq c.args.name.now) c.args.numbering.now.names ≡ Some c.in-Some.index = search rules in
    let known = subst (λ (o : Option ℕ). IsKnown xs c.args.numbering.now.numbers.items o c.args.name.now) found (h.known c.args.name.now) in
    read_number c.args.numbering.now.numbers.items c.in-Some.index c.index-number.result.now (named_in xs c.args.name.now) c.index-number.ensures known.0 ∙ sym (number_named xs (piece_view c.args.piece) c.args.name.now joint)

pub returns-in_ok-add_part-in-Some-clause-numbering : goal.returns-in_ok-add_part-in-Some-clause-numbering
returns-in_ok-add_part-in-Some-clause-numbering c = λ xs h joint.
    let found : position (bytes_eq c.args.name.now) c.args.numbering.now.names ≡ Some c.in-Some.index = search rules in
    let known = subst (λ (o : Option ℕ). IsKnown xs c.args.numbering.now.numbers.items o c.args.name.now) found (h.known c.args.name.now) in
    let is : c.index-number.result.now ≡ named_in xs c.args.name.now = read_number c.args.numbering.now.numbers.items c.in-Some.index c.index-number.result.now (named_in xs c.args.name.now) c.index-number.ensures known.0 in
    let items : map parts_view c.add_part.new.numbering.items.items ≡ with_part (map parts_view c.args.numbering.now.items.items) c.index-number.result.now (piece_view c.args.piece) = search rules in
    next_old xs (piece_view c.args.piece) c.args.numbering.now c.add_part.new.numbering c.args.name.now c.index-number.result.now h joint known.1 is items c.add_part.ensures.names c.add_part.ensures.numbers

pub returns-in-None-clause-number : goal.returns-in-None-clause-number
returns-in-None-clause-number c = λ xs h joint.
    let lacks : position (bytes_eq c.args.name.now) c.args.numbering.now.names ≡ None = search rules in
    let none : named_in xs c.args.name.now ≡ length xs = subst (λ (o : Option ℕ). IsKnown xs c.args.numbering.now.numbers.items o c.args.name.now) lacks (h.known c.args.name.now) in
    number_answer c.new_named.result _ _ c.new_named.ensures.number (count_of xs c.args.numbering.now h ∙ sym none ∙ sym (number_named xs (piece_view c.args.piece) c.args.name.now joint))

pub returns-in-None-clause-numbering : goal.returns-in-None-clause-numbering
returns-in-None-clause-numbering c = λ xs h joint.
    let lacks : position (bytes_eq c.args.name.now) c.args.numbering.now.names ≡ None = search rules in
    on_ok c.new_named.result c.new_named.ensures.items c.new_named.ensures.names c.new_named.ensures.numbers
    (λ items names numbers. next_new xs (piece_view c.args.piece) c.args.numbering.now c.new_named.new.numbering c.args.name.now h joint lacks items names numbers)
