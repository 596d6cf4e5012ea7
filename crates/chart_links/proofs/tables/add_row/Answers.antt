use Rattle.std.proofs.Common.{◌≡◌, inl, inr, ◌<◌, ℕ, List, [], get_or, length, subst, sym, ap, ◌∙◌, arith}
use Rattle.std.proofs.lemmas.List.{get_or_default}
use Rattle.std.specs.List.{position}
use Rattle.std.specs.Str.{bytes_eq}
use Rattle.chart_links.specs.Tables.{IsNumber}
use Rattle.chart_links.proofs.RowFacts.{row_united}
use Rattle.chart_links.proofs.TableFacts.{number_low, same_number}
use Rattle.chart_links.proofs.tables.add_row.Goals as goal

pub returns-in_ok-unite-clause-added : goal.returns-in_ok-unite-clause-added
returns-in_ok-unite-clause-added c =
    let names = c.args.names.now in
    let name = c.args.name.now in
    let rows = c.args.rows.now.items in
    let k : ℕ = c.in-Some.number in
    let number : IsNumber names name k = ap (λ (l : List ℕ). position (bytes_eq l) names) (sym c.bytes.ensures.bytes) ∙ sym c.number_of.ensures ∙ c.in-Some.is in
    let low : k < length rows = omega (arith, number_low names name k number, c.requires) in
    let row : c.index_mut-row.result.now ≡ get_or rows k [] = c.index_mut-row.ensures.value ∙ get_or_default rows k c.index_mut-row.result.now [] low in
    λ u n.
    let both = row_united rows k c.index_mut-row.result.now c.args.set.now c.unite.new.self low row c.in_ok-unite.ensures u n in (
      λ h. elim (both.0 h) [ inl a ↦ inl a | inr p ↦ inr (subst (IsNumber names name) (sym p.0) number, p.1) ],
      λ s. both.1 (elim s [ inl a ↦ inl a | inr p ↦ inr (same_number names name u k p.0 number, p.1) ]),
    )
