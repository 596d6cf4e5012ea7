use Rattle.std.proofs.Common.{◌∙◌, ◌-◌, List, Bool, sym, ap, arith}
use Rattle.msc_meaning.specs.ItemViews.{bodies_view, items_view}
use Rattle.msc_meaning.specs.declared.body.Body.{Body}
use Rattle.msc_meaning.specs.declared.body.Item.{Item}
use Rattle.gate_tables.specs.FactMaps.{at_gate}
use Rattle.gate_tables.specs.KeptMaps.{kept_of}
use Rattle.gate_tables.specs.KnownFacts.{items_known, operands_known}
use Rattle.gate_tables.specs.Together.{together}
use Rattle.gate_tables.proofs.KnownLaws.{both_same}
use Rattle.gate_ends.proofs.Walks.{dropped}
use Rattle.gate_tables.proofs.levels.+levels.Goals as goal

pub items_seen-loop-left-preserved : goal.items_seen-loop-left-preserved
items_seen-loop-left-preserved t c = record {
  low = omega arith;
  made = λ g.
      c.in_ok-made.ensures g
      ∙ ap (λ (b : Bool). together b (at_gate c.in_ok-first.first g) (at_gate c.loop-left.made g)) c.goes_on.ensures
      ∙ both_same _ (c.in_ok-first.ensures g) (c.loop-left.invariant.made g)
      ∙ ap (λ (xs : List Item). items_known (kept_of c.args.known.now) c.args.calls.now (items_view xs) g)
      (sym (dropped c.args.items.now (c.loop-left.left - 1) c.loop-left.left c.index-items-left.result (omega arith) (omega arith) c.index-items-left.is));
}

pub operands_seen-loop-left-preserved : goal.operands_seen-loop-left-preserved
operands_seen-loop-left-preserved t c = record {
  low = omega arith;
  made = λ g.
      c.in_ok-made.ensures g
      ∙ ap (λ (b : Bool). together b (at_gate c.in_ok-operand.operand g) (at_gate c.loop-left.made g)) c.is_par.ensures
      ∙ both_same _ (c.in_ok-operand.ensures g) (c.loop-left.invariant.made g)
      ∙ ap (λ (bs : List Body). operands_known (kept_of c.args.known.now) c.args.form (bodies_view bs) g)
      (sym (dropped c.args.operands.now (c.loop-left.left - 1) c.loop-left.left c.index-operands-left.result (omega arith) (omega arith) c.index-operands-left.is));
}
