use Rattle.std.proofs.Common.{◌≡◌, ◌∙◌, sym, ap}
use Rattle.gate_ends.specs.LevelGates.{items_in}
use Rattle.msc_meaning.specs.Bodies.{WovenItems}
use Rattle.msc_meaning.specs.ItemViews.{items_view}
use Rattle.msc_meaning.specs.Views.{body_view}
use Rattle.gate_tables.specs.KeptMaps.{kept_of}
use Rattle.gate_tables.specs.KnownFacts.{known_of}
use Rattle.gate_tables.proofs.CalledEnds.{items_known}
use Rattle.gate_tables.proofs.ViewFacts.{items_are}
use Rattle.gate_tables.proofs.inner_facts.level_facts.Goals as goal

pub returns : goal.returns
returns c = λ table depth are.
    let held = items_in (body_view c.args.body.now) in
    let inside : items_view c.as_slice.result.now ≡ held = ap items_view c.as_slice.ensures.value ∙ sym (items_are c.args.body.now) in
    record {
      found = λ name gate.
          c.in_ok-named.ensures name gate
          ∙ c.in_ok-facts.ensures name gate
          ∙ ap (λ (h : WovenItems). known_of (kept_of c.args.gates.now.charts) h name gate) inside
          ∙ items_known table depth c.args.gates.now held name gate are;
    }
