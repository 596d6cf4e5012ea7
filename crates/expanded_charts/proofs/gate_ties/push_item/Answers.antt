use Rattle.std.proofs.Common.{◌∙◌, ◌++◌, ap, append-nil, sym}
use Rattle.msc_meaning.specs.Calls.{item_calls}
use Rattle.msc_meaning.specs.Ties.{event_ties}
use Rattle.msc_meaning.specs.Views.{item_view}
use Rattle.general_ordering.proofs.ViewFacts.{reference_is}
use Rattle.expanded_charts.specs.GateTies.{ties_view}
use Rattle.expanded_charts.proofs.GateTieFacts.{no_events}
use Rattle.expanded_charts.proofs.gate_ties.push_item.Goals as goal

pub returns-in-Reference : goal.returns-in-Reference
returns-in-Reference c =
    let r = c.in-Reference.field-0 in
    sym (ap (λ l. ties_view c.args.ties.now.items ++ l) (ap (λ x. event_ties (item_calls x)) (ap item_view c.in-Reference.is ∙ reference_is r) ∙ no_events r.name r.joins) ∙ append-nil (ties_view c.args.ties.now.items))
