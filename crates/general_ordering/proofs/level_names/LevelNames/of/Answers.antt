use Rattle.msc_meaning.specs.Bodies.{events}
use Rattle.msc_meaning.specs.ItemViews.{items_view}
use Rattle.general_ordering.specs.NamedEvents.{group_of}
use Rattle.general_ordering.proofs.LowestFacts.{lowest_before, unknown_same}
use Rattle.general_ordering.proofs.level_names.LevelNames.of.Goals as goal

pub returns-clause-unknown : goal.returns-clause-unknown
returns-clause-unknown c = unknown_same (group_of c.in_ok-named.named) (events (items_view c.args.items.now)) c.in_ok-named.ensures.all

pub returns-clause-twice : goal.returns-clause-twice
returns-clause-twice c = λ n. lowest_before (group_of c.in_ok-named.named) (events (items_view c.args.items.now)) c.in_ok-named.ensures.all n.event.order.event_name n.number
