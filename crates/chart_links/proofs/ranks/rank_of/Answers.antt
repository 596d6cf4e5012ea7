use Rattle.std.proofs.Common.{◌≡◌, ◌<◌, ℕ, List, [], get_or, length, sym, ap, ap₂, ◌∙◌, arith}
use Rattle.std.proofs.lemmas.List.{get_or_default}
use Rattle.std.specs.List.{position}
use Rattle.std.specs.Str.{bytes_eq}
use Rattle.bit_sets.specs.Blocks.{has_bit}
use Rattle.chart_links.specs.Ranks.{rank_at, tally}
use Rattle.chart_links.specs.Tables.{IsNumber}
use Rattle.chart_links.proofs.TableFacts.{number_low}
use Rattle.chart_links.proofs.ranks.rank_of.Goals as goal

pub returns-in-Some : goal.returns-in-Some
returns-in-Some c =
    let t = c.args.tables.now in
    let name = c.args.name.now in
    let u : ℕ = c.in-Some.number in
    let number : IsNumber t.names name u = ap (λ (l : List ℕ). position (bytes_eq l) t.names) (sym c.bytes.ensures.bytes) ∙ sym c.number_of.ensures ∙ c.in-Some.is in
    let low : u < length t.reach.items = omega (arith, number_low t.names name u number, c.requires) in
    let row : c.index.result.now ≡ get_or t.reach.items u [] = c.index.ensures ∙ get_or_default t.reach.items u c.index.result.now [] low in
    c.count_below.ensures ∙ ap₂ (λ (l : List ℕ) (k : ℕ). tally (has_bit l) k) row c.len.ensures ∙ sym (ap (rank_at t.reach.items (length t.names)) number)
