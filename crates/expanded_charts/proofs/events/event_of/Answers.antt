use Rattle.std.proofs.Common.{rules, refl}
use Rattle.msc_meaning.specs.Views.{node_view}
use Rattle.level_surroundings.specs.Givens.{around_view}
use Rattle.expanded_charts.proofs.EventParts.{event_made}
use Rattle.expanded_charts.proofs.events.event_of.Goals as goal

pub returns : goal.returns
returns c =
    event_made c.args.level.called.now (around_view c.args.level.given) c.args.numbering.now c.numbered.new.numbering c.args.next (node_view c.args.node.now) c.in_ok-event.event _ c.in_ok-event.ensures refl (search rules) (search rules) (search rules)
