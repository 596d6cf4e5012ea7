use Rattle.std.proofs.Common.{◌++◌, map}
use Rattle.msc_meaning.specs.Bodies.{events, items}
use Rattle.msc_meaning.specs.Ties.{order_pairs}
use Rattle.msc_meaning.specs.Views.{item_view}
use Rattle.general_ordering.specs.NamedEvents.{group_of}
use Rattle.general_ordering.proofs.Groups.{order_both, walk_step}
use Rattle.general_ordering.proofs.ordering.add_items.Goals as goal

pub loop-item-preserved : goal.loop-item-preserved
loop-item-preserved c =
    let named = group_of c.args.named.now in
    walk_step (order_pairs named) (order_both named) c.args.items.now c.loop-item.item-index c.item-item.result c.loop-item.list c.add_item.new.list
    (c.args.list.now ++ order_pairs named (events (items (map item_view c.args.items.now)))) c.loop-item-test.true c.item-item.is c.in_ok-add_item.ensures c.loop-item.invariant
