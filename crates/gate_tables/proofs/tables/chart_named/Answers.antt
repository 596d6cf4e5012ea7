use Rattle.std.proofs.Common.{rules, ◌≡◌, ◌∙◌, Some, None, sym, ap, option_map}
use Rattle.std.specs.Option.{option_copied}
use Rattle.msc_meaning.specs.Views.{entry_view}
use Rattle.gate_tables.proofs.ChartTables.{chart_found, no_chart}
use Rattle.gate_tables.proofs.tables.chart_named.Goals as goal

pub returns-in_err-number : goal.returns-in_err-number
returns-in_err-number c =
    let answer : c.from_residual.result ≡ None = search rules in
    let number : c.number_of.result ≡ None = search rules in
    ap (λ o. option_map entry_view (option_copied o)) answer ∙ sym (no_chart c.args.table.charts.now c.args.table.names.now c.args.name.now c.requires (sym c.number_of.ensures ∙ number))

pub returns : goal.returns
returns c =
    let number : c.number_of.result ≡ Some c.in_ok-number.number = search rules in
    ap (option_map entry_view) c.chart_of.ensures ∙ chart_found c.args.table.charts.now c.args.table.names.now c.args.name.now c.in_ok-number.number c.requires (sym c.number_of.ensures ∙ number)
