use Rattle.std.proofs.Common.{◌≡◌, None, refl, rules}
use Rattle.judge_report.specs.Lists.{chart_list}
use Rattle.msc_meaning.specs.Views.{table_view}
use Rattle.msc_cmd.proofs.Listings.{charts_listed}
use Rattle.msc_cmd.proofs.listing.list_accepted.Goals as goal

pub returns-in_ok-text-in-None-clause-outcome : goal.returns-in_ok-text-in-None-clause-outcome
returns-in_ok-text-in-None-clause-outcome c =
    let none : c.args.chart.now ≡ None = search rules in
    let text : c.in_ok-text-in-None.text ≡ chart_list c.args.json (table_view c.args.accepted.now) = search rules in
    charts_listed c.args.json (table_view c.args.accepted.now) c.args.chart.now _ none refl text
