use Rattle.std.proofs.Common.{◌≡◌, ◌∙◌, List, map, filter_map, rules, ap, take}
use Rattle.std.proofs.lemmas.List.{take_all}
use Rattle.hmsc_graph.specs.declared.shape.ShapeLine.{ShapeLine}
use Rattle.hmsc_graph.specs.Labels.{number_in}
use Rattle.hmsc_graph.proofs.LabelFacts.{graph_net}
use Rattle.hmsc_graph.proofs.net.graph.Goals as goal

pub of-requires : goal.of-requires
of-requires c =
    let names = c.args.table.now in
    let lines : take c.loop-line.line-index c.as_slice-line-items.result.now ≡ c.args.shape.now.lines = take_all c.loop-line.line-index c.as_slice-line-items.result.now c.loop-line-test.false ∙ c.as_slice-line-items.ensures in
    let starts : c.in_ok-starts.starts ≡ filter_map (number_in names) c.args.shape.now.starts = search rules in
    let next : c.loop-line.next.items ≡ map (λ line. filter_map (number_in names) line.next) c.args.shape.now.lines =
    c.loop-line.invariant.next ∙ ap (λ (ls : List ShapeLine). map (λ line. filter_map (number_in names) line.next) ls) lines in
    let ends : c.loop-line.ends.items ≡ map (λ line. line.ends) c.args.shape.now.lines = c.loop-line.invariant.ends ∙ ap (λ (ls : List ShapeLine). map (λ line. line.ends) ls) lines in
    rw (starts, next, ends) (graph_net names c.args.shape.now c.requires.lines c.requires.table)
