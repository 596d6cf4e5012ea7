use Rattle.std.proofs.Common.{◌≡◌, ◌∙◌, List, false, subst, sym}
use Rattle.msc_meaning.specs.Bodies.{EventNode}
use Rattle.msc_meaning.specs.Refinements.{is_decomposed}
use Rattle.msc_meaning.specs.Views.{node_view}
use Rattle.level_surroundings.specs.Givens.{around_view}
use Rattle.expanded_charts.specs.RefinedMaking.{AddsEvents}
use Rattle.expanded_charts.proofs.LeftParts.{event_stays, events_one}
use Rattle.expanded_charts.proofs.events.add_left.Goals as goal

pub returns : goal.returns
returns c =
    let called = c.args.level.called.now in
    let around = around_view c.args.level.given in
    let k = node_view c.args.node.now in
    let there : is_decomposed c.args.decomposed.now k ≡ false = sym c.has.ensures ∙ c.if-has.false in
    subst (λ (ks : List EventNode). AddsEvents called around c.args.numbering.now c.event_of.new.numbering ks c.args.parts.now c.add.new.parts) (sym (event_stays c.args.decomposed.now k there))
    (events_one called around c.args.numbering.now c.event_of.new.numbering c.args.parts.now k c.in_ok-made.made c.add.new.parts c.in_ok-made.ensures c.in_ok-add.ensures)
