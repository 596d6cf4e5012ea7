use Rattle.std.proofs.Common.{◌∙◌, ◌-◌, List, true, refl, sym, ap, arith, map}
use Rattle.msc_meaning.specs.Views.{node_view}
use Rattle.msc_meaning.specs.declared.body.EventNode.{EventNode}
use Rattle.gate_tables.specs.KnownFacts.{events_known}
use Rattle.gate_tables.proofs.KnownLaws.{both_same}
use Rattle.gate_ends.proofs.Walks.{dropped}
use Rattle.gate_tables.proofs.levels.events_seen.Goals as goal

pub loop-left-preserved : goal.loop-left-preserved
loop-left-preserved c = record {
  low = omega arith;
  made = λ g.
      let nodes = c.args.nodes.now in
      c.in_ok-add_event.ensures g
      ∙ both_same true refl (c.loop-left.invariant.made g)
      ∙ ap (λ (ns : List EventNode). events_known (map node_view ns) g) (sym (dropped nodes (c.loop-left.left - 1) c.loop-left.left c.index-nodes-left.result (omega arith) (omega arith) c.index-nodes-left.is));
}
