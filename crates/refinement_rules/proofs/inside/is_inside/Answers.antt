use Rattle.std.proofs.Common.{◌≡◌, ◌∙◌, ap}
use Rattle.msc_meaning.specs.Views.{table_view}
use Rattle.msc_meaning.specs.Tables.{chart_at}
use Rattle.refinement_rules.specs.Judging.{inside_entry}
use Rattle.refinement_rules.proofs.InsideFacts.{inside_is}
use Rattle.refinement_rules.proofs.inside.is_inside.Goals as goal

pub returns : goal.returns
returns c =
    let k = c.args.tables.now in
    let charts = c.args.table.charts.now in
    let name = c.args.name.now in
    let entry : c.inside_entry.result ≡ inside_entry (chart_at (table_view charts) name) = c.inside_entry.ensures ∙ ap inside_entry c.chart_named.ensures in
    inside_is charts k.names k.reach.items name c.args.envs.now c.requires.envs c.inside_entry.result c.leads_to_other.result c.either.result entry c.leads_to_other.ensures c.either.ensures
