use Rattle.std.proofs.Common.{◌∙◌, ◌-◌, List, sym, ap, arith, map}
use Rattle.msc_tree.specs.Expressions.{expressions}
use Rattle.msc_tree.specs.Views.{expression_view}
use Rattle.msc_tree.specs.declared.expression.RefExpr.{RefExpr}
use Rattle.gate_tables.specs.KeptMaps.{kept_of}
use Rattle.gate_tables.specs.KnownFacts.{parts_known}
use Rattle.gate_tables.proofs.KnownLaws.{both_same}
use Rattle.gate_ends.proofs.Walks.{dropped}
use Rattle.gate_tables.proofs.gate_search.+gate_search.Goals as goal

pub parts_gate-loop-left-preserved : goal.parts_gate-loop-left-preserved
parts_gate-loop-left-preserved t c = record {
  low = omega arith;
  made =
      c.both-facts.ensures
      ∙ both_same c.args.all c.expression_gate-part.ensures c.loop-left.invariant.made
      ∙ ap (λ (es : List RefExpr). parts_known (kept_of c.args.known.now) c.args.all (expressions (map expression_view es)) c.args.gate.now)
      (sym (dropped c.args.parts.now (c.loop-left.left - 1) c.loop-left.left c.index-parts-left.result (omega arith) (omega arith) c.index-parts-left.is));
}
