use Rattle.std.proofs.Common.{rules, ◌≡◌, ◌∙◌, [], ap, sym}
use Rattle.gate_ends.specs.LevelGates.{items_in}
use Rattle.msc_base.specs.declared.limits.TheConstants.Limits.{EXPANDED_NESTING}
use Rattle.msc_meaning.specs.Calls.{calls}
use Rattle.msc_meaning.specs.ItemViews.{items_view}
use Rattle.msc_meaning.specs.Views.{body_view, table_view}
use Rattle.msc_meaning.specs.declared.body.Body.{out-Body}
use Rattle.general_ordering.proofs.ViewFacts.{body_is}
use Rattle.level_surroundings.proofs.CallFacts.{gates_are, none_called}
use Rattle.level_surroundings.proofs.chart_table.called_gates.Goals as goal

pub returns-then-not-items_call_gate : goal.returns-then-not-items_call_gate
returns-then-not-items_call_gate c =
    let items : c.as_slice.result.now ≡ (out-Body c.args.body.now).items.items = search rules in
    let none : calls (items_view c.as_slice.result.now) ≡ [] = c.items_call_gate.ensures c.if-not-items_call_gate.true in
    let held : items_in (body_view c.args.body.now) ≡ items_view c.as_slice.result.now = ap items_in (body_is c.args.body.now) ∙ ap items_view (sym items) in
    c.none.ensures ∙ (none_called (table_view c.args.table.charts.now) (items_in (body_view c.args.body.now)) (ap calls held ∙ none) ∙ gates_are (table_view c.args.table.charts.now) (items_in (body_view c.args.body.now)))

pub returns : goal.returns
returns c =
    c.in_ok-called.ensures
    ∙ (c.in_ok-gates.ensures (table_view c.args.table.charts.now) EXPANDED_NESTING c.requires ∙ gates_are (table_view c.args.table.charts.now) (items_in (body_view c.args.body.now)))
