use Rattle.std.proofs.Common.{rules, ◌≡◌, ◌∙◌, None, sym}
use Rattle.std.proofs.lemmas.Result.{on_ok_weaker}
use Rattle.level_pieces.specs.ItemNumbers.{joint_name}
use Rattle.level_pieces.specs.PieceViews.{piece_view}
use Rattle.level_pieces.proofs.NumberLaws.{count_of, next_none, number_answer, number_none}
use Rattle.level_pieces.proofs.numbering.item_number.Goals as goal

pub returns-in-None-clause-number : goal.returns-in-None-clause-number
returns-in-None-clause-number c = λ xs h.
    let none : joint_name (piece_view c.args.piece) ≡ None = search rules in
    number_answer c.new_item.result _ _ c.new_item.ensures.number (count_of xs c.args.numbering.now h ∙ sym (number_none xs (piece_view c.args.piece) none))

pub returns-in-None-clause-numbering : goal.returns-in-None-clause-numbering
returns-in-None-clause-numbering c = λ xs h.
    let none : joint_name (piece_view c.args.piece) ≡ None = search rules in
    on_ok_weaker c.new_item.result (λ items. next_none xs (piece_view c.args.piece) c.args.numbering.now c.new_item.new.numbering h none items c.new_item.ensures.names c.new_item.ensures.numbers) c.new_item.ensures.items
