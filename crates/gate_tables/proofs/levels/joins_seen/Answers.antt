use Rattle.std.proofs.Common.{◌∙◌, ◌-◌, List, true, refl, sym, ap, arith}
use Rattle.msc_tree.specs.declared.reference.Join.{Join}
use Rattle.gate_tables.specs.FactMaps.{at_gate}
use Rattle.gate_tables.specs.KnownFacts.{joins_known}
use Rattle.gate_tables.proofs.KnownLaws.{both_same}
use Rattle.gate_ends.proofs.Walks.{dropped}
use Rattle.gate_tables.proofs.levels.joins_seen.Goals as goal

pub loop-left-preserved : goal.loop-left-preserved
loop-left-preserved c = record {
  low = omega arith;
  made = λ g.
      let joins = c.args.joins.now in
      c.in_ok-add_join.ensures g
      ∙ both_same true refl (c.loop-left.invariant.made g)
      ∙ ap (λ (js : List Join). joins_known (at_gate c.args.inner.now) js g) (sym (dropped joins (c.loop-left.left - 1) c.loop-left.left c.index-joins-left.result (omega arith) (omega arith) c.index-joins-left.is));
}
