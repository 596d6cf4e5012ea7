use Rattle.msc_meaning.specs.Views.{body_view}
use Rattle.msc_tree.specs.Views.{chart_view}
use Rattle.msc_acceptance.proofs.ChartLaws.{woven_body}
use Rattle.msc_acceptance.proofs.tables.entry_result.Goals as goal

pub entry_of-requires : goal.entry_of-requires
entry_of-requires c = woven_body (chart_view c.args.chart.now) (body_view c.args.body) c.requires
