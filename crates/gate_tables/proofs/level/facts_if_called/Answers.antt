use Rattle.std.proofs.Common.{◌≡◌, List, ℕ}
use Rattle.std.proofs.lemmas.Result.{IfOk-weaker}
use Rattle.msc_meaning.specs.ItemViews.{items_view}
use Rattle.gate_tables.specs.CalledEnds.{ends_by}
use Rattle.gate_tables.specs.KeptMaps.{kept_of}
use Rattle.gate_tables.specs.KnownFacts.{known_of}
use Rattle.gate_tables.specs.NamedMaps.{named_gate}
use Rattle.gate_tables.specs.declared.named.NamedFacts.{NamedFacts}
use Rattle.gate_tables.proofs.CalledEnds.{ends_same}
use Rattle.gate_tables.proofs.level.facts_if_called.Goals as goal

pub returns : goal.returns
returns c =
    let known = known_of (kept_of c.args.known.now) (items_view c.args.items.now) in
    IfOk-weaker c.named_facts.result (λ (named : NamedFacts). (n g : List ℕ) → named_gate named n g ≡ known n g) (λ (named : NamedFacts). ends_by (named_gate named) c.args.calls.now ≡ ends_by known c.args.calls.now)
    (λ named are. ends_same (named_gate named) known c.args.calls.now are) c.named_facts.ensures
