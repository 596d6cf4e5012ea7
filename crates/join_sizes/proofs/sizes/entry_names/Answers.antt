use Rattle.std.proofs.Common.{◌≡◌, List, [], drop, fold, sym, ap, ◌∙◌, arith}
use Rattle.join_sizes.specs.Named.{names_of}
use Rattle.list_facts.proofs.Reading.{drop_end}
use Rattle.msc_base.proofs.NameFacts.{different_kept}
use Rattle.msc_base.specs.NameTables.{with_name}
use Rattle.msc_meaning.specs.declared.body.ChartEntry.{ChartEntry}
use Rattle.join_sizes.proofs.sizes.entry_names.Goals as goal

pub returns : goal.returns
returns c =
    let list = c.args.charts.now in
    let none : drop c.loop-chart.chart-index list ≡ [] = drop_end list c.loop-chart.chart-index (λ lt. omega (arith, lt, c.loop-chart-test.false)) in
    sym (ap (λ (l : List ChartEntry). fold with_name c.loop-chart.names (names_of l)) none) ∙ c.loop-chart.invariant ∙ different_kept (names_of list) c.requires
