use Rattle.std.proofs.Common.{◌≡◌, ◌↔◌, ◌⊎◌, ◌+◌, ◌∷◌, ℕ, List, true, None, drop, map, subst, sym, ap, ◌∙◌}
use Rattle.std.specs.List.{position}
use Rattle.std.specs.Str.{bytes_eq}
use Rattle.bit_sets.specs.Blocks.{has_bit}
use Rattle.list_facts.proofs.Reading.{drop_read}
use Rattle.chart_links.specs.LinkViews.{link_view}
use Rattle.chart_links.specs.Links.{linked}
use Rattle.chart_links.specs.Tables.{LinksTo}
use Rattle.chart_links.specs.declared.link.Link.{Link}
use Rattle.chart_links.proofs.TableFacts.{links_found, links_missed, nothing_yet}
use Rattle.chart_links.proofs.tables.links_row.Goals as goal
use Rattle.chart_links.proofs.tables.links_row.Goals.{in-Some+in_ok-add, in_default}

pub loop-link-init : goal.loop-link-init
loop-link-init c = nothing_yet c.new-row.result c.new-row.ensures (LinksTo c.args.names.now (map link_view c.args.links.now))

pub loop-link-preserved : goal.loop-link-preserved
loop-link-preserved c =
    let names = c.args.names.now in
    let links = c.args.links.now in
    let i = c.loop-link.link-index in
    let link = c.link-item.result in
    let rest = map link_view (drop (i + 1) links) in
    let row = c.loop-link.row in
    let All : ℕ → Type 0 = LinksTo names (map link_view links) in
    let now : (n : ℕ) → ((has_bit row n ≡ true) ⊎ LinksTo names (link_view link ∷ rest) n) ↔ All n =
    subst (λ (l : List Link). (n : ℕ) → ((has_bit row n ≡ true) ⊎ LinksTo names (map link_view l) n) ↔ All n) (drop_read links i link c.loop-link-test.true c.link-item.is) c.loop-link.invariant in
    let name : c.bytes.result.now ≡ linked (link_view link) = c.bytes.ensures.bytes ∙ c.chart_of-chart.ensures in
    let number : position (bytes_eq (linked (link_view link))) names ≡ c.number_of.result = ap (λ (l : List ℕ). position (bytes_eq l) names) (sym name) ∙ sym c.number_of.ensures in
    elim c.match-number_of.branch [
      | in-Some+in_ok-add w ↦
          subst (λ (l : List ℕ). (n : ℕ) → ((has_bit l n ≡ true) ⊎ LinksTo names rest n) ↔ All n) (sym w.row-is)
          (links_found names (link_view link) rest row w.add.new.self w.in-Some.number All w.in_ok-add.ensures (number ∙ w.in-Some.is) now)
      | in_default w ↦
          let none : position (bytes_eq (linked (link_view link))) names ≡ None = number ∙ w.in_default.is in
          subst (λ (l : List ℕ). (n : ℕ) → ((has_bit l n ≡ true) ⊎ LinksTo names rest n) ↔ All n) (sym w.row-is)
          (links_missed names (link_view link) rest row All none now)
    ]
