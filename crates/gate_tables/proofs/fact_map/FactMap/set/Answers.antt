use Rattle.std.proofs.Common.{◌∙◌, Some, Bor, List, ℕ, ap, option_map}
use Rattle.std.specs.Str.{bytes_eq}
use Rattle.indexmap.specs.IndexMap.{get_by}
use Rattle.gate_tables.specs.FactViews.{seen_view}
use Rattle.gate_ends.proofs.Walks.{mapped_if}
use Rattle.gate_tables.proofs.fact_map.FactMap.set.Goals as goal

pub returns : goal.returns
returns c = λ g.
    ap (option_map seen_view) (c.in_ok-insert.ensures.updates.0 (record { ref_ptr = (0, 0); now = g }))
    ∙ mapped_if seen_view (bytes_eq c.args.gate.now g) (Some c.args.facts) (get_by (λ (k : Bor (List ℕ)). bytes_eq g k.now) c.args.self.now.held)
