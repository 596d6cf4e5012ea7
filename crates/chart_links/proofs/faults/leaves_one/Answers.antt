use Rattle.std.proofs.Common.{None, get_or, refl}
use Rattle.chart_text.specs.PassageViews.{scope_view}
use Rattle.chart_links.specs.Tables.{IsUncoveredIn}
use Rattle.chart_links.proofs.FaultFacts.{left_out}
use Rattle.chart_links.proofs.faults.leaves_one.Goals as goal

pub returns-then-is_outside : goal.returns-then-is_outside
returns-then-is_outside c =
    let i = c.loop-index.index in
    let numbers = c.args.numbers.now in
    let one : IsUncoveredIn c.args.known.now c.args.set.now c.args.names.now (scope_view c.args.scope) =
    left_out c.args.known.now c.args.set.now c.args.names.now numbers (scope_view c.args.scope) i c.index-names-index.result (get_or numbers i None) None c.requires c.loop-index-test.true c.index-names-index.is refl
    (c.is_outside.ensures.0 c.if-is_outside.true) in
    (λ h. one, λ h. refl)
