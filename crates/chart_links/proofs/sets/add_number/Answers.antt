use Rattle.std.proofs.Common.{◌≡◌, ◌∙◌, ℕ, List, None, ap, sym}
use Rattle.std.specs.List.{position}
use Rattle.std.specs.Str.{bytes_eq}
use Rattle.chart_links.specs.Tables.{IsNumber}
use Rattle.chart_links.proofs.SetFacts.{number_added, number_missing}
use Rattle.chart_links.proofs.sets.add_number.Goals as goal

pub returns-in_ok-add : goal.returns-in_ok-add
returns-in_ok-add c =
    let names = c.args.names.now in
    let is : IsNumber names c.args.name.now c.in-Some.number = ap (λ (l : List ℕ). position (bytes_eq l) names) (sym c.bytes.ensures.bytes) ∙ sym c.number_of.ensures ∙ c.in-Some.is in
    number_added names c.args.name.now c.in-Some.number c.args.set.now c.add.new.self c.in_ok-add.ensures is

pub returns-in_default : goal.returns-in_default
returns-in_default c =
    let names = c.args.names.now in
    let none : position (bytes_eq c.args.name.now) names ≡ None = ap (λ (l : List ℕ). position (bytes_eq l) names) (sym c.bytes.ensures.bytes) ∙ sym c.number_of.ensures ∙ c.in_default.is in
    number_missing names c.args.name.now c.args.set.now none
