use Rattle.std.proofs.Common.{◌≡◌, ◌↔◌, ◌⊎◌, ◌+◌, ◌∷◌, ℕ, List, drop, subst, ap, ◌∙◌}
use Rattle.list_facts.proofs.Reading.{drop_read}
use Rattle.msc_base.specs.Lists.{IsAmong}
use Rattle.msc_base.specs.NameTables.{with_name}
use Rattle.chart_links.proofs.TableFacts.{name_added}
use Rattle.chart_links.proofs.tables.add_names.Goals as goal

pub loop-name-preserved : goal.loop-name-preserved
loop-name-preserved c =
    let names = c.args.names.now in
    let i = c.loop-name.name-index in
    let name : List ℕ = c.name-item.result in
    let table = c.loop-name.table in
    let All : List ℕ → Type 0 = λ n. IsAmong c.args.table.now n ⊎ IsAmong names n in
    let now : (n : List ℕ) → (IsAmong table n ⊎ IsAmong (name ∷ drop (i + 1) names) n) ↔ All n =
    subst (λ (l : List (List ℕ)). (n : List ℕ) → (IsAmong table n ⊎ IsAmong l n) ↔ All n) (drop_read names i name c.loop-name-test.true c.name-item.is) c.loop-name.invariant in
    let made : c.add.new.self ≡ with_name table name = c.in_ok-add.ensures.ok ∙ ap (with_name table) c.bytes.ensures.bytes in
    name_added table c.add.new.self name (λ n. n ≡ name) (IsAmong (drop (i + 1) names)) All made (λ n e. e) (λ n e. e) now
