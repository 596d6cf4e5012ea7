use Rattle.std.proofs.Common.{◌≡◌, [], List, IfOk, ap, rules, subst, sym}
use Rattle.msc_meaning.specs.Tables.{Basic, HighLevel, Woven, refinements}
use Rattle.msc_meaning.specs.Views.{body_view, content_view, entry_view, table_view}
use Rattle.msc_tree.specs.Views.{graph_view}
use Rattle.msc_tree.specs.declared.chart.Decl.{Decl}
use Rattle.choice_meaning.specs.ChoiceLists.{AreMade}
use Rattle.choice_meaning.specs.Choices.{choices_of, woven_choices}
use Rattle.chart_choices.specs.declared.choice.Choice.{Choice}
use Rattle.chart_choices.specs.Listed.{made_choices}
use Rattle.chart_choices.proofs.JudgedCharts.{graph_has_none}
use Rattle.chart_choices.proofs.listing.chart_choices.Goals as goal

pub basic_choices-requires-clause-basic : goal.basic_choices-requires-clause-basic
basic_choices-requires-clause-basic c = record { chart = entry_view c.args.chart.now; is = c.requires.there; decls = sym c.as_slice.ensures; content = ap content_view c.in-Basic.is }

pub returns-in-Basic : goal.returns-in-Basic
returns-in-Basic c =
    let table = table_view c.args.accepted.now in
    subst (λ (w : Woven). IfOk c.basic_choices.result (λ found. AreMade table (woven_choices (refinements c.args.chart.now.decls) w) (made_choices found.items))) (sym (ap content_view c.in-Basic.is))
    (subst (λ (ds : List Decl). IfOk c.basic_choices.result (λ found. AreMade table (woven_choices (refinements ds) (Basic (body_view c.in-Basic.body))) (made_choices found.items))) c.as_slice.ensures c.basic_choices.ensures)

pub returns-in-Graph : goal.returns-in-Graph
returns-in-Graph c =
    let table = table_view c.args.accepted.now in
    let chart = entry_view c.args.chart.now in
    let nothing : c.new.result.items ≡ [] = search rules in
    subst (λ (cs : List Choice). AreMade table (choices_of chart) (made_choices cs)) (sym nothing) (graph_has_none table chart (HighLevel (graph_view _)) (ap content_view c.in-Graph.is) tt)
