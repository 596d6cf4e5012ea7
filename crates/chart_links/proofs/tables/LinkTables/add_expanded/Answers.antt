use Rattle.std.proofs.Common.{◌≡◌, ◌∙◌, ◌↔◌, ◌⊎◌, ℕ, List, None, true, ap, subst, sym}
use Rattle.std.specs.List.{position}
use Rattle.std.specs.Str.{bytes_eq}
use Rattle.bit_sets.specs.Blocks.{has_bit}
use Rattle.chart_links.proofs.SetFacts.{expanded_added, expanded_missing}
use Rattle.chart_links.specs.Rows.{RowHas}
use Rattle.chart_links.specs.Tables.{IsNumber}
use Rattle.chart_links.proofs.tables.LinkTables.add_expanded.Goals as goal

pub returns-in_ok-add_numbers : goal.returns-in_ok-add_numbers
returns-in_ok-add_numbers c =
    let t = c.args.self.now in
    let chart = c.args.chart.now in
    let old = c.args.set.now in
    let new = c.add_numbers.new.set in
    let u : ℕ = c.in-Some.row in
    let is : IsNumber t.names chart u = ap (λ (l : List ℕ). position (bytes_eq l) t.names) (sym c.bytes.ensures.bytes) ∙ sym c.number_of.ensures ∙ c.in-Some.is in
    expanded_added t.names t.expanded.items chart u old new is
    (subst (λ (rows : List (List ℕ)). (n : ℕ) → (has_bit new n ≡ true) ↔ ((has_bit old n ≡ true) ⊎ RowHas rows u n)) c.as_slice.ensures.value c.in_ok-add_numbers.ensures)

pub returns-in_default : goal.returns-in_default
returns-in_default c =
    let t = c.args.self.now in
    let chart = c.args.chart.now in
    let none : position (bytes_eq chart) t.names ≡ None = ap (λ (l : List ℕ). position (bytes_eq l) t.names) (sym c.bytes.ensures.bytes) ∙ sym c.number_of.ensures ∙ c.in_default.is in
    expanded_missing t.names t.expanded.items chart c.args.set.now none
