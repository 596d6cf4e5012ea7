use Rattle.std.proofs.Common.{◌≡◌, ◌∙◌, ◌↔◌, ℕ, List, None, IsTrue, ap, subst, sym}
use Rattle.std.specs.List.{position}
use Rattle.std.specs.Str.{bytes_eq}
use Rattle.chart_links.proofs.SetFacts.{expanded_meets, none_meets}
use Rattle.chart_links.specs.Sets.{MeetsRow}
use Rattle.chart_links.specs.Tables.{IsNumber}
use Rattle.chart_links.proofs.tables.LinkTables.meets_expanded.Goals as goal

pub returns-in-Some : goal.returns-in-Some
returns-in-Some c =
    let t = c.args.self.now in
    let chart = c.args.chart.now in
    let u : ℕ = c.in-Some.row in
    let is : IsNumber t.names chart u = ap (λ (l : List ℕ). position (bytes_eq l) t.names) (sym c.bytes.ensures.bytes) ∙ sym c.number_of.ensures ∙ c.in-Some.is in
    expanded_meets t.names t.expanded.items chart u c.args.set.now c.meets_row.result is
    (subst (λ (rows : List (List ℕ)). IsTrue c.meets_row.result ↔ MeetsRow rows u c.args.set.now) c.as_slice.ensures.value c.meets_row.ensures)

pub returns-in-None : goal.returns-in-None
returns-in-None c =
    let t = c.args.self.now in
    let chart = c.args.chart.now in
    let none : position (bytes_eq chart) t.names ≡ None = ap (λ (l : List ℕ). position (bytes_eq l) t.names) (sym c.bytes.ensures.bytes) ∙ sym c.number_of.ensures ∙ c.in-None.is in
    none_meets t.names t.expanded.items chart c.args.set.now none
