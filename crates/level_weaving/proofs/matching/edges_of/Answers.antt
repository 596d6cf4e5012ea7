use Rattle.std.proofs.Common.{rules, ◌≡◌, ◌++◌, Option, Some, None, get_or, slice_get, arith, ap, ◌∙◌}
use Rattle.std.proofs.lemmas.Option.{slice_get-get_or}
use Rattle.level_weaving.specs.declared.matching.Mark.{Mark}
use Rattle.level_weaving.specs.Marks.{end_edges}
use Rattle.level_weaving.proofs.EdgeLaws.{edges_step}
use Rattle.level_weaving.proofs.matching.edges_of.Goals as goal

pub loop-mark-preserved : goal.loop-mark-preserved
loop-mark-preserved c =
    let none : Option Mark = None in
    let is : slice_get c.args.marks.now c.loop-mark.mark-index ≡ Some (get_or c.args.marks.now c.loop-mark.mark-index none) = slice_get-get_or c.args.marks.now c.loop-mark.mark-index none (omega arith) in
    let number : c.in_ok-number.number ≡ c.loop-mark.index = search rules in
    let pushed : c.push_edge.new.edges.items ≡ c.loop-mark.edges.items ++ end_edges c.args.direction c.in_ok-number.number (get_or c.args.marks.now c.loop-mark.mark-index none) = search rules in
    let more : c.push_edge.new.edges.items ≡ c.loop-mark.edges.items ++ end_edges c.args.direction c.loop-mark.mark-index (get_or c.args.marks.now c.loop-mark.mark-index none) =
    pushed ∙ ap (λ n. c.loop-mark.edges.items ++ end_edges c.args.direction n (get_or c.args.marks.now c.loop-mark.mark-index none)) (number ∙ c.loop-mark.invariant.index) in
    record {
      index = omega (arith, c.loop-mark.invariant.index);
      edges = edges_step c.args.direction c.args.marks.now c.loop-mark.mark-index (get_or c.args.marks.now c.loop-mark.mark-index none) c.loop-mark.edges.items c.push_edge.new.edges.items is more ∙ c.loop-mark.invariant.edges;
    }
