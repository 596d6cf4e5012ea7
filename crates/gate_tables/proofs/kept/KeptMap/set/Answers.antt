use Rattle.std.proofs.Common.{◌≡◌, ◌∙◌, Some, List, ℕ, Vec, Global, ap, option_map, if◌then◌else◌}
use Rattle.std.specs.Map.{lookup}
use Rattle.std.specs.Str.{bytes_eq}
use Rattle.indexmap.specs.IndexMap.{insert_entry}
use Rattle.gate_tables.specs.FactViews.{facts_view}
use Rattle.gate_tables.specs.GateFacts.{Facts}
use Rattle.gate_tables.specs.declared.facts.GateFacts.{GateFacts}
use Rattle.gate_ends.proofs.Walks.{mapped_if}
use Rattle.gate_tables.proofs.MapSteps.{put_in}
use Rattle.gate_tables.proofs.kept.KeptMap.set.Goals as goal

abbrev Key : Type 0
Key = Vec ℕ Global

pub returns : goal.returns
returns c = λ g.
    let old = c.args.self.now.held.entries in
    let key = c.in_ok-gate.gate in
    let facts = c.in_ok-facts.facts in
    let entries : c.insert.new.self.entries ≡ insert_entry (λ (x y : Key). bytes_eq x.items y.items) old key facts = c.in_ok-insert.ensures.entries in
    let found = option_map facts_view (lookup (λ (k : Key). bytes_eq g k.items) old) in
    ap (λ (es : List (Key × GateFacts)). option_map facts_view (lookup (λ (k : Key). bytes_eq g k.items) es)) entries
    ∙ ap (option_map facts_view) (put_in (λ (k : Key). k.items) g old key facts)
    ∙ mapped_if facts_view (bytes_eq key.items g) (Some facts) (lookup (λ (k : Key). bytes_eq g k.items) old)
    ∙ ap (λ (l : List ℕ). if bytes_eq l g then Some (facts_view facts) else found) c.in_ok-gate.ensures.items
    ∙ ap (λ (f : Facts). if bytes_eq c.args.seen.gate.now g then Some f else found) c.in_ok-facts.ensures
