use Rattle.std.proofs.Common.{◌≡◌, ◌∙◌, ◌||◌, List, ℕ, Vec, Global, ap, is_some, if◌then◌else◌}
use Rattle.std.specs.Map.{lookup}
use Rattle.std.specs.Str.{bytes_eq}
use Rattle.indexmap.specs.IndexMap.{insert_entry}
use Rattle.gate_tables.specs.KeptMaps.{gate_in, kept_gate}
use Rattle.gate_tables.specs.declared.kept.KeptMap.{KeptMap}
use Rattle.gate_tables.proofs.KeptSteps.{gate_if, some_if}
use Rattle.gate_tables.proofs.MapSteps.{put_in}
use Rattle.gate_tables.proofs.kept.KeptMaps.set.Goals as goal

abbrev Key : Type 0
Key = Vec ℕ Global

pub returns-clause-at : goal.returns-clause-at
returns-clause-at c = λ n g.
    let old = c.args.self.now.held.entries in
    let key = c.in_ok-name.name in
    let entries : c.insert.new.self.entries ≡ insert_entry (λ (x y : Key). bytes_eq x.items y.items) old key c.args.kept = c.in_ok-insert.ensures.entries in
    let found = lookup (λ (k : Key). bytes_eq n k.items) old in
    ap (λ (es : List (Key × KeptMap)). gate_in (lookup (λ (k : Key). bytes_eq n k.items) es) g) entries
    ∙ ap (λ o. gate_in o g) (put_in (λ (k : Key). k.items) n old key c.args.kept)
    ∙ gate_if (bytes_eq key.items n) c.args.kept found g
    ∙ ap (λ (l : List ℕ). if bytes_eq l n then kept_gate c.args.kept g else gate_in found g) c.in_ok-name.ensures.items

pub returns-clause-has : goal.returns-clause-has
returns-clause-has c = λ n.
    let old = c.args.self.now.held.entries in
    let key = c.in_ok-name.name in
    let entries : c.insert.new.self.entries ≡ insert_entry (λ (x y : Key). bytes_eq x.items y.items) old key c.args.kept = c.in_ok-insert.ensures.entries in
    let found = lookup (λ (k : Key). bytes_eq n k.items) old in
    ap (λ (es : List (Key × KeptMap)). is_some (lookup (λ (k : Key). bytes_eq n k.items) es)) entries
    ∙ ap is_some (put_in (λ (k : Key). k.items) n old key c.args.kept)
    ∙ some_if (bytes_eq key.items n) c.args.kept found
    ∙ ap (λ (l : List ℕ). bytes_eq l n || is_some found) c.in_ok-name.ensures.items
