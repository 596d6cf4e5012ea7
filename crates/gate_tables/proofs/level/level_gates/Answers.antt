use Rattle.std.proofs.Common.{◌≡◌, ◌∙◌, rules, List, sym, ap}
use Rattle.gate_ends.specs.FoundEnds.{ends_to}
use Rattle.gate_ends.specs.LevelGates.{items_in}
use Rattle.msc_meaning.specs.Bodies.{WovenItems}
use Rattle.msc_meaning.specs.Calls.{Call, calls}
use Rattle.msc_meaning.specs.ChartUnfoldings.{gates_of}
use Rattle.msc_meaning.specs.FarEnds.{Gates}
use Rattle.msc_meaning.specs.InnerEvents.{GateEnd}
use Rattle.msc_meaning.specs.ItemViews.{items_view}
use Rattle.msc_meaning.specs.Views.{body_view}
use Rattle.gate_tables.specs.CalledEnds.{ends_by}
use Rattle.gate_tables.specs.KeptMaps.{kept_of}
use Rattle.gate_tables.specs.KnownFacts.{known_of}
use Rattle.gate_tables.specs.NamedMaps.{named_gate}
use Rattle.gate_tables.proofs.CalledEnds.{level_ends}
use Rattle.gate_tables.proofs.ViewFacts.{items_are}
use Rattle.gate_tables.proofs.level.level_gates.Goals as goal

pub returns : goal.returns
returns c = λ table depth are.
    let held = items_view c.as_slice-items.result.now in
    let inside : items_in (body_view c.args.body.now) ≡ held = items_are c.args.body.now ∙ ap items_view (sym c.as_slice-items.ensures.value) in
    let called : c.in_ok-calls.calls ≡ calls held = search rules in
    let ends : ends_by (named_gate c.in_ok-facts.facts) c.in_ok-calls.calls ≡ ends_to table depth held =
    c.in_ok-facts.ensures ∙ ap (ends_by (known_of (kept_of c.args.gates.now.charts) held)) called ∙ level_ends table depth c.args.gates.now held are in
    ap (λ (es : List GateEnd). let g : Gates = record { calls = c.in_ok-calls.calls; ends = es } in g) ends
    ∙ ap (λ (cs : List Call). let g : Gates = record { calls = cs; ends = ends_to table depth held } in g) called
    ∙ ap (λ (h : WovenItems). gates_of h (ends_to table depth h)) (sym inside)
