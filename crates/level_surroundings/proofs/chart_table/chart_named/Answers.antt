use Rattle.std.proofs.Common.{rules, ◌≡◌, ◌∙◌, Some, None, sym, ap, option_map}
use Rattle.std.specs.List.{position}
use Rattle.std.specs.Option.{option_copied}
use Rattle.std.specs.Str.{bytes_eq}
use Rattle.msc_meaning.specs.Views.{entry_view}
use Rattle.level_surroundings.proofs.Dropped.{item_at}
use Rattle.level_surroundings.proofs.ChartNames.{chart_found, no_chart, none_at}
use Rattle.level_surroundings.proofs.chart_table.chart_named.Goals as goal

pub returns-in_err-number : goal.returns-in_err-number
returns-in_err-number c =
    let answer : c.from_residual.result ≡ None = search rules in
    let number : c.number_of.result ≡ None = search rules in
    ap (λ o. option_map entry_view (option_copied o)) answer ∙ sym (no_chart c.args.table.charts.now c.args.name.now (ap (position (bytes_eq c.args.name.now)) (sym c.requires) ∙ (sym c.number_of.ensures ∙ number)))

pub returns-then-number-table : goal.returns-then-number-table
returns-then-number-table c =
    let number : c.number_of.result ≡ Some c.in_ok-number.number = search rules in
    let low = c.if-number-table.true in
    ap (λ x. Some (entry_view x)) (sym c.index-table-number.is) ∙ ap (option_map entry_view) (sym (item_at c.args.table.charts.now c.in_ok-number.number c.index-table-number.result low c.index-table-number.is))
    ∙ chart_found c.args.table.charts.now c.args.name.now c.in_ok-number.number (ap (position (bytes_eq c.args.name.now)) (sym c.requires) ∙ (sym c.number_of.ensures ∙ number))

pub returns : goal.returns
returns c =
    let number : c.number_of.result ≡ Some c.in_ok-number.number = search rules in
    ap (option_map entry_view) (sym (none_at c.args.table.charts.now c.in_ok-number.number c.if-number-table.false))
    ∙ chart_found c.args.table.charts.now c.args.name.now c.in_ok-number.number (ap (position (bytes_eq c.args.name.now)) (sym c.requires) ∙ (sym c.number_of.ensures ∙ number))
