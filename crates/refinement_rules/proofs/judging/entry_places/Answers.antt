use Rattle.std.proofs.Common.{◌≡◌, ◌∙◌, IfOk, List, false, ap, subst, sym}
use Rattle.msc_base.specs.Places.{IsLeast}
use Rattle.msc_meaning.specs.Tables.{Woven, Basic}
use Rattle.msc_meaning.specs.Views.{body_view, content_view, entry_view, table_view}
use Rattle.msc_tree.specs.Views.{graph_view}
use Rattle.msc_tree.specs.declared.chart.Decl.{Decl}
use Rattle.refinement_rules.specs.Earliest.{told}
use Rattle.refinement_rules.specs.Judging.{ContentBreaks, some_refined}
use Rattle.refinement_rules.specs.Walks.{SoFarOr}
use Rattle.refinement_rules.specs.declared.faults.RefinementPlaces.{RefinementPlaces}
use Rattle.refinement_rules.specs.declared.faults.RefinementRule.{RefinementRule}
use Rattle.refinement_rules.proofs.BodyFacts.{entry_kept, graph_kept}
use Rattle.refinement_rules.proofs.judging.entry_places.Goals as goal

pub returns-then-not-some_refined : goal.returns-then-not-some_refined
returns-then-not-some_refined c =
    let k = c.args.known in
    let chart = c.args.chart.now in
    let none : some_refined chart.decls ≡ false = sym (c.some_refined.ensures ∙ ap some_refined c.as_slice.ensures) ∙ c.if-not-some_refined.true in
    entry_kept (table_view k.table.charts.now) k.tables.now.names k.tables.now.known k.tables.now.reach.items k.tables.now.expanded.items (entry_view chart) c.args.so_far none

pub returns-in-Basic : goal.returns-in-Basic
returns-in-Basic c =
    let k = c.args.known in
    let chart = c.args.chart.now in
    let so_far = c.args.so_far in
    let body = body_view c.in-Basic.body in
    let Told : List Decl → Woven → Type 0 = λ ds w. IfOk c.body_places.result (λ (new : RefinementPlaces). (r : RefinementRule)
    → IsLeast (SoFarOr (told r so_far) (ContentBreaks (table_view k.table.charts.now) k.tables.now.names k.tables.now.known k.tables.now.reach.items k.tables.now.expanded.items r ds w)) (told r new)) in
    let held : Told chart.decls (Basic body) = subst (λ ds. Told ds (Basic body)) c.as_slice-in-Basic.ensures c.body_places.ensures in
    subst (Told chart.decls) (sym (ap content_view c.in-Basic.is)) held

pub returns-in-Graph : goal.returns-in-Graph
returns-in-Graph c =
    let k = c.args.known in
    let chart = c.args.chart.now in
    let so_far = c.args.so_far in
    subst (λ (w : Woven). (r : RefinementRule)
    → IsLeast (SoFarOr (told r so_far) (ContentBreaks (table_view k.table.charts.now) k.tables.now.names k.tables.now.known k.tables.now.reach.items k.tables.now.expanded.items r chart.decls w)) (told r so_far)) (sym (ap content_view c.in-Graph.is))
    (graph_kept (table_view k.table.charts.now) k.tables.now.names k.tables.now.known k.tables.now.reach.items k.tables.now.expanded.items chart.decls (graph_view c.in-Graph.field-0) so_far)
