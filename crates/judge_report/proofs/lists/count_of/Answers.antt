use Rattle.std.proofs.Common.{◌≡◌, ℕ, IfOk, List, length, subst}
use Rattle.chart_lists.specs.Listing.{listed_of}
use Rattle.msc_meaning.specs.Views.{entry_view, table_view}
use Rattle.msc_meaning.specs.declared.body.ChartEntry.{ChartEntry}
use Rattle.judge_report.proofs.lists.count_of.Goals as goal

pub returns : goal.returns
returns c = subst (λ (es : List ChartEntry). IfOk c.listed_count.result (λ (count : ℕ). count ≡ length (listed_of (table_view es) (entry_view c.args.chart.now)))) c.table.ensures.charts c.listed_count.ensures
