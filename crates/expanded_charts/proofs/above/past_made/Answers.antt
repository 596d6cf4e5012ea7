use Rattle.std.proofs.Common.{◌∙◌, List, ap, refl}
use Rattle.expanded_charts.specs.Above.{above_view}
use Rattle.expanded_charts.specs.Expanding.{past_shown}
use Rattle.expanded_charts.specs.ShownGates.{gates_view}
use Rattle.expanded_charts.specs.declared.shown.ShownGate.{ShownGate}
use Rattle.expanded_charts.proofs.Making.{past_made}
use Rattle.expanded_charts.proofs.ShownFacts.{above_past}
use Rattle.expanded_charts.proofs.above.past_made.Goals as goal

pub returns : goal.returns
returns c =
    past_made (above_view c.args.above) (above_past c.args.above) c.args.made (record { part = c.args.made.part; own = c.new.result; gates = c.in_ok-gates.gates; next = c.args.made.next }) refl c.new.ensures
    (c.in_ok-gates.ensures ∙ ap (λ (gs : List ShownGate). past_shown (above_view c.args.above) (gates_view gs)) c.as_slice.ensures.value) refl
