use Rattle.std.proofs.Common.{◌++◌, List}
use Rattle.msc_base.specs.declared.place.Place.{Place}
use Rattle.msc_meaning.specs.Bodies.{EventNode, events}
use Rattle.general_ordering.specs.EventNames.{places_where}
use Rattle.msc_meaning.specs.ItemViews.{items_view}
use Rattle.general_ordering.specs.LevelNames.{is_named_twice, orders_unknown}
use Rattle.general_ordering.proofs.Groups.{walk_step}
use Rattle.general_ordering.proofs.Tests.{where_both}
use Rattle.general_ordering.proofs.faults.note_items.Goals as goal

pub loop-item-preserved : goal.loop-item-preserved
loop-item-preserved c =
    let all : List EventNode = events (items_view c.args.items.now) in
    record {
      unknown =
          walk_step (places_where (orders_unknown c.args.names.now)) (where_both (orders_unknown c.args.names.now)) c.args.items.now c.loop-item.item-index c.item-item.result c.loop-item.places.unknown c.note_item.new.places.unknown
          (c.args.places.now.unknown ++ places_where (orders_unknown c.args.names.now) all) c.loop-item-test.true c.item-item.is c.in_ok-note_item.ensures.unknown c.loop-item.invariant.unknown;
      twice =
          walk_step (places_where (is_named_twice c.args.names.now)) (where_both (is_named_twice c.args.names.now)) c.args.items.now c.loop-item.item-index c.item-item.result c.loop-item.places.twice c.note_item.new.places.twice
          (c.args.places.now.twice ++ places_where (is_named_twice c.args.names.now) all) c.loop-item-test.true c.item-item.is c.in_ok-note_item.ensures.twice c.loop-item.invariant.twice;
    }
