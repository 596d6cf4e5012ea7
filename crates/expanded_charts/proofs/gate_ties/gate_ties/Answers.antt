use Rattle.std.proofs.Common.{◌≡◌, ◌∙◌, ◌++◌, ap, sym}
use Rattle.msc_meaning.specs.FarEnds.{Gates}
use Rattle.msc_meaning.specs.ItemViews.{items_view}
use Rattle.msc_meaning.specs.Ties.{event_ties, items_joins_ties}
use Rattle.expanded_charts.specs.GateTies.{ties_view}
use Rattle.level_surroundings.specs.HeldGates.{uncalled}
use Rattle.expanded_charts.proofs.GateTieFacts.{none_joined}
use Rattle.expanded_charts.proofs.gate_ties.gate_ties.Goals as goal

pub returns-then-is_none : goal.returns-then-is_none
returns-then-is_none c =
    let none : c.args.level.now ≡ uncalled = c.is_none.ensures c.if-is_none.true in
    let held = items_view c.args.items.now in
    ap ties_view c.new-ties.ensures.items
    ∙ sym (ap (λ l. event_ties l ++ items_joins_ties c.args.level.now.ends held) (sym c.requires ∙ ap (λ (g : Gates). g.calls) none) ∙ (ap (λ (g : Gates). items_joins_ties g.ends held) none ∙ none_joined held))
