use Rattle.std.proofs.Common.{◌≡◌, ◌↔◌, ◌⊎◌, ◌+◌, ◌∷◌, ℕ, List, drop, map, subst, sym, ap, ◌∙◌}
use Rattle.list_facts.proofs.Reading.{drop_read}
use Rattle.chart_text.specs.PassageViews.{scope_view}
use Rattle.msc_base.specs.Lists.{IsAmong}
use Rattle.msc_base.specs.NameTables.{with_name}
use Rattle.chart_links.specs.LinkViews.{link_view}
use Rattle.chart_links.specs.Links.{IsRefined}
use Rattle.chart_links.specs.Links as plain
use Rattle.chart_links.specs.declared.link.Link.{Link}
use Rattle.chart_links.proofs.TableFacts.{name_added}
use Rattle.chart_links.proofs.tables.refined_names.Goals as goal
use Rattle.chart_links.proofs.tables.refined_names.Goals.{in-Refines+in_ok-add-in-Refines, in-Refers}

pub loop-link-preserved : goal.loop-link-preserved
loop-link-preserved c =
    let links = c.args.links.now in
    let i = c.loop-link.link-index in
    let link = c.link-item.result in
    let rest = map link_view (drop (i + 1) links) in
    let table = c.loop-link.table in
    let All : List ℕ → Type 0 = IsRefined (map link_view links) in
    let now : (n : List ℕ) → (IsAmong table n ⊎ IsRefined (link_view link ∷ rest) n) ↔ All n =
    subst (λ (l : List Link). (n : List ℕ) → (IsAmong table n ⊎ IsRefined (map link_view l) n) ↔ All n) (drop_read links i link c.loop-link-test.true c.link-item.is) c.loop-link.invariant in
    elim c.match-link.branch [
      | in-Refines+in_ok-add-in-Refines w ↦
          let instance : List ℕ = w.in-Refines.instance.now in
          let there : (n : List ℕ) → (IsAmong table n ⊎ IsRefined (plain.Refines instance w.in-Refines.field-1.now w.in-Refines.field-2 ∷ rest) n) ↔ All n =
          subst (λ (x : plain.Link). (n : List ℕ) → (IsAmong table n ⊎ IsRefined (x ∷ rest) n) ↔ All n) (ap link_view w.in-Refines.is) now in
          let made : w.add.new.self ≡ with_name table instance = w.in_ok-add-in-Refines.ensures.ok ∙ ap (with_name table) w.bytes.ensures.bytes in
          subst (λ (l : List (List ℕ)). (n : List ℕ) → (IsAmong l n ⊎ IsRefined rest n) ↔ All n) (sym w.table-is)
          (name_added table w.add.new.self instance (λ n. instance ≡ n) (IsRefined rest) All made (λ n e. sym e) (λ n e. sym e) there)
      | in-Refers w ↦
          let there : (n : List ℕ) → (IsAmong table n ⊎ IsRefined (plain.Refers w.in-Refers.field-0.now w.in-Refers.field-1 (scope_view w.in-Refers.field-2) w.in-Refers.field-3 ∷ rest) n) ↔ All n =
          subst (λ (x : plain.Link). (n : List ℕ) → (IsAmong table n ⊎ IsRefined (x ∷ rest) n) ↔ All n) (ap link_view w.in-Refers.is) now in
          subst (λ (l : List (List ℕ)). (n : List ℕ) → (IsAmong l n ⊎ IsRefined rest n) ↔ All n) (sym w.table-is) there
    ]
