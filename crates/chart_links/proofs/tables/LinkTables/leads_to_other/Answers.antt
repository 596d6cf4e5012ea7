use Rattle.std.proofs.Common.{◌≡◌, ◌∙◌, ◌↔◌, ℕ, List, None, IsTrue, ap, length, subst, sym}
use Rattle.std.specs.List.{position}
use Rattle.std.specs.Str.{bytes_eq}
use Rattle.chart_links.proofs.SetFacts.{none_led, other_led}
use Rattle.chart_links.specs.Sets.{MeetsOther}
use Rattle.chart_links.specs.Tables.{IsNumber}
use Rattle.chart_links.proofs.tables.LinkTables.leads_to_other.Goals as goal

pub returns-in-Some : goal.returns-in-Some
returns-in-Some c =
    let t = c.args.self.now in
    let chart = c.args.chart.now in
    let u : ℕ = c.in-Some.row in
    let set = c.args.set.now in
    let b = c.meets_other.result in
    let is : IsNumber t.names chart u = ap (λ (l : List ℕ). position (bytes_eq l) t.names) (sym c.bytes.ensures.bytes) ∙ sym c.number_of.ensures ∙ c.in-Some.is in
    let rows : IsTrue b ↔ MeetsOther t.reach.items c.len.result u set = subst (λ (r : List (List ℕ)). IsTrue b ↔ MeetsOther r c.len.result u set) c.as_slice.ensures.value c.meets_other.ensures in
    other_led t.names t.reach.items chart u set b is (subst (λ (n : ℕ). IsTrue b ↔ MeetsOther t.reach.items n u set) c.len.ensures rows)

pub returns-in-None : goal.returns-in-None
returns-in-None c =
    let t = c.args.self.now in
    let chart = c.args.chart.now in
    let none : position (bytes_eq chart) t.names ≡ None = ap (λ (l : List ℕ). position (bytes_eq l) t.names) (sym c.bytes.ensures.bytes) ∙ sym c.number_of.ensures ∙ c.in-None.is in
    none_led t.names t.reach.items chart c.args.set.now none
