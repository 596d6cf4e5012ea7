use Rattle.std.proofs.Common.{◌∙◌, ◌-◌, List, sym, ap, arith, map}
use Rattle.msc_tree.specs.Expressions.{expressions}
use Rattle.msc_tree.specs.Views.{expression_view}
use Rattle.msc_tree.specs.declared.expression.RefExpr.{RefExpr}
use Rattle.gate_tables.specs.KeptMaps.{kept_of}
use Rattle.gate_tables.specs.KnownFacts.{parts_known}
use Rattle.gate_tables.proofs.KnownLaws.{both_same}
use Rattle.gate_ends.proofs.Walks.{dropped}
use Rattle.gate_tables.proofs.expressions.+expressions.Goals as goal

pub parts_seen-loop-left-preserved : goal.parts_seen-loop-left-preserved
parts_seen-loop-left-preserved t c = record {
  low = omega arith;
  made = λ g.
      let parts = c.args.parts.now in
      let i = c.loop-left.left - 1 in
      c.in_ok-made.ensures g
      ∙ both_same c.args.all (c.in_ok-part.ensures g) (c.loop-left.invariant.made g)
      ∙ ap (λ (es : List RefExpr). parts_known (kept_of c.args.known.now) c.args.all (expressions (map expression_view es)) g) (sym (dropped parts i c.loop-left.left c.index-parts-left.result (omega arith) (omega arith) c.index-parts-left.is));
}
