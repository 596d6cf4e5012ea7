use Rattle.std.proofs.Common.{◌≡◌, ◌∙◌, ◌<◌, ℕ, List, [], get_or, length, ap, sym, arith, inl, inr, None}
use Rattle.std.proofs.lemmas.List.{get_or_default}
use Rattle.std.specs.List.{position}
use Rattle.std.specs.Str.{bytes_eq}
use Rattle.chart_links.proofs.TableFacts.{not_numbered, number_low}
use Rattle.chart_links.specs.Tables.{IsNumber}
use Rattle.refinement_rules.proofs.TakenFacts.{refining_added}
use Rattle.refinement_rules.proofs.taking.add_refining.Goals as goal

pub returns-in_ok-add_expanded-clause-added : goal.returns-in_ok-add_expanded-clause-added
returns-in_ok-add_expanded-clause-added c =
    let t = c.args.tables.now in
    let refined = c.args.refined.now in
    let name = c.args.name.now in
    let rows = c.args.rows.now.items in
    let k : ℕ = c.in-Some.number in
    let number : IsNumber refined name k = ap (λ (l : List ℕ). position (bytes_eq l) refined) (sym c.bytes.ensures.bytes) ∙ sym c.number_of.ensures ∙ c.in-Some.is in
    let low : k < length rows = omega (arith, number_low refined name k number, c.requires) in
    let row : c.index_mut-row.result.now ≡ get_or rows k [] = c.index_mut-row.ensures.value ∙ get_or_default rows k c.index_mut-row.result.now [] low in
    refining_added t.names t.expanded.items refined name c.args.chart.now rows k c.index_mut-row.result.now c.add_expanded.new.set number low row c.in_ok-add_expanded.ensures

pub returns-in_default-clause-added : goal.returns-in_default-clause-added
returns-in_default-clause-added c =
    let refined = c.args.refined.now in
    let name = c.args.name.now in
    let none : position (bytes_eq name) refined ≡ None = ap (λ (l : List ℕ). position (bytes_eq l) refined) (sym c.bytes.ensures.bytes) ∙ sym c.number_of.ensures ∙ c.in_default.is in
    λ p. (λ h. inl h, λ s. elim s [ inl h ↦ h | inr q ↦ absurd (not_numbered refined name none p.0 q.0) ])
