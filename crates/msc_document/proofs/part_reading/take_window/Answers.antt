use Rattle.std.proofs.Common.{rules, ◌≡◌, ◌++◌}
use Rattle.msc_tree.specs.Views.{document_view}
use Rattle.msc_document.proofs.PartReading.{moves_charts}
use Rattle.msc_document.proofs.part_reading.take_window.Goals as goal

pub returns-clause-moves : goal.returns-clause-moves
returns-clause-moves c =
    let cut : c.args.text.now ≡ c.split_at-2.result.0.now ++ c.split_at-2.result.1.now = search rules in
    moves_charts c.args.levels c.args.text.now c.split_at-2.result.0.now c.split_at-2.result.1.now c.take_tokens-tokens.result c.as_slice.result.now c.args.lexer.now c.feed-2.new.self c.take_tokens-tokens.new.self
    (document_view c.args.document.now) (document_view c.take_all_charts.new.document) cut c.in_ok-feed-2.ensures.cuts c.take_tokens-tokens.ensures.cuts c.as_slice.ensures c.in_ok-take_all_charts.ensures
