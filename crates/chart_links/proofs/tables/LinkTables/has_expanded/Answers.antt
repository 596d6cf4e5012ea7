use Rattle.std.proofs.Common.{◌≡◌, ◌<◌, ℕ, List, [], None, get_or, length, sym, ap, ◌∙◌, arith}
use Rattle.std.proofs.lemmas.Bool.{true≢false}
use Rattle.std.proofs.lemmas.List.{get_or_default}
use Rattle.std.specs.List.{position}
use Rattle.std.specs.Str.{bytes_eq}
use Rattle.bit_sets.specs.Blocks.{has_bit}
use Rattle.chart_links.specs.Rows.{row_has}
use Rattle.chart_links.specs.Tables.{IsNumber}
use Rattle.chart_links.proofs.TableFacts.{expanded_numbered, not_numbered, number_low}
use Rattle.chart_links.proofs.tables.LinkTables.has_expanded.Goals as goal

pub returns-in_default : goal.returns-in_default
returns-in_default c =
    let t = c.args.self.now in
    let chart = c.args.chart.now in
    let none : position (bytes_eq chart) t.names ≡ None = ap (λ (l : List ℕ). position (bytes_eq l) t.names) (sym c.bytes.ensures.bytes) ∙ sym c.number_of.ensures ∙ c.in_default.is in
    λ charts are. (
      λ h. absurd (true≢false (sym h)),
      λ x. let k = expanded_numbered charts t.names t.known t.reach.items t.expanded.items are chart c.args.instance.now x in absurd (not_numbered t.names chart none k.0.0 k.0.1),
    )

pub returns-in_default-number_of : goal.returns-in_default-number_of
returns-in_default-number_of c =
    let t = c.args.self.now in
    let instance = c.args.instance.now in
    let none : position (bytes_eq instance) t.known ≡ None = ap (λ (l : List ℕ). position (bytes_eq l) t.known) (sym c.bytes-2.ensures.bytes) ∙ sym c.number_of-2.ensures ∙ c.in_default-number_of.is in
    λ charts are. (
      λ h. absurd (true≢false (sym h)),
      λ x. let k = expanded_numbered charts t.names t.known t.reach.items t.expanded.items are c.args.chart.now instance x in absurd (not_numbered t.known instance none k.1.0 k.1.1),
    )

pub returns : goal.returns
returns c =
    let t = c.args.self.now in
    let chart = c.args.chart.now in
    let instance = c.args.instance.now in
    let u : ℕ = c.in-Some.row in
    let n : ℕ = c.in-Some-number_of.number in
    let row : IsNumber t.names chart u = ap (λ (l : List ℕ). position (bytes_eq l) t.names) (sym c.bytes.ensures.bytes) ∙ sym c.number_of.ensures ∙ c.in-Some.is in
    let number : IsNumber t.known instance n = ap (λ (l : List ℕ). position (bytes_eq l) t.known) (sym c.bytes-2.ensures.bytes) ∙ sym c.number_of-2.ensures ∙ c.in-Some-number_of.is in
    let low : u < length t.expanded.items = omega (arith, number_low t.names chart u row, c.requires) in
    let set : c.index.result.now ≡ get_or t.expanded.items u [] = c.index.ensures ∙ get_or_default t.expanded.items u c.index.result.now [] low in
    let same : c.has.result ≡ row_has t.expanded.items u n = c.has.ensures ∙ ap (λ (l : List ℕ). has_bit l n) set in
    λ charts are. let is = are.expands chart instance u n row number in (λ h. is.0 (sym same ∙ h), λ x. same ∙ is.1 x)
