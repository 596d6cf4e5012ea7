use Rattle.std.proofs.Common.{rules, ◌≡◌, List, ℕ, map, subst, true}
use Rattle.chart_text.proofs.StandingLaws.{each_right}
use Rattle.chart_text.specs.Texts.{a_head, content_text}
use Rattle.chart_text.specs.WellFormed.{AreWellFormed, is_well_formed}
use Rattle.level_pieces.proofs.ColumnLaws.{instances_differ}
use Rattle.level_weaving.specs.WeaveFaults.{IsLevelFault, IsLevelWoven}
use Rattle.msc_meaning.specs.Pieces.{statements_pieces}
use Rattle.msc_meaning.specs.Views.{body_view}
use Rattle.msc_tree.specs.Charts.{Content}
use Rattle.msc_tree.specs.Statements.{statements}
use Rattle.msc_tree.specs.Views.{chart_view, statement_view}
use Rattle.msc_acceptance.proofs.tables.woven_statements.Goals as goal

pub weave-requires-clause-different : goal.weave-requires-clause-different
weave-requires-clause-different c = instances_differ (chart_view c.args.chart.now) c.args.names.now c.requires.names

pub weave-requires-clause-formed : goal.weave-requires-clause-formed
weave-requires-clause-formed c =
    let chart = chart_view c.args.chart.now in
    subst (λ (x : Content). AreWellFormed (content_text x)) c.requires.content (each_right (λ p. is_well_formed p ≡ true) (map a_head chart.decls) (content_text chart.content) c.requires.formed)

pub entry_result-requires : goal.entry_result-requires
entry_result-requires c =
    let held = statements (map statement_view c.args.list.now) in
    let woven : IsLevelWoven c.args.names.now (statements_pieces c.args.names.now 0 held) (body_view c.in-Ok.body) = search rules in
    record {
      held = map statement_view c.args.list.now;
      is = c.requires.content;
      woven = subst (λ (names : List (List ℕ)). IsLevelWoven names (statements_pieces names 0 held) (body_view c.in-Ok.body)) c.requires.names woven;
    }

pub barred_by-requires : goal.barred_by-requires
barred_by-requires c =
    let held = statements (map statement_view c.args.list.now) in
    let why : IsLevelFault c.args.names.now (statements_pieces c.args.names.now 0 held) c.in-Err.fault = search rules in
    record {
      held = map statement_view c.args.list.now;
      is = c.requires.content;
      fault_is = subst (λ (names : List (List ℕ)). IsLevelFault names (statements_pieces names 0 held) c.in-Err.fault) c.requires.names why;
    }
