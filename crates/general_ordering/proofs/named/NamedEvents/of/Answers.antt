use Rattle.std.proofs.Common.{◌++◌, ◌∙◌, List, sym, ap, map, drop_of_length-le}
use Rattle.std.proofs.lemmas.List.{append-nil}
use Rattle.msc_meaning.specs.Bodies.{EventNode, events, items}
use Rattle.msc_meaning.specs.Ties.{labelled}
use Rattle.msc_meaning.specs.Views.{item_view}
use Rattle.general_ordering.specs.NamedEvents.{group_of}
use Rattle.general_ordering.proofs.Groups.{labelled_both, walk_step}
use Rattle.general_ordering.proofs.named.NamedEvents.of.Goals as goal

pub loop-item-preserved : goal.loop-item-preserved
loop-item-preserved c = record {
  even = c.in_ok-add_item.ensures.even;
  added = λ name.
      walk_step (λ (ns : List EventNode). labelled ns name) (λ ns ms. labelled_both ns ms name) c.args.items.now c.loop-item.item-index c.item-item.result (group_of c.loop-item.named name) (group_of c.add_item.new.self name)
      (labelled (events (items (map item_view c.args.items.now))) name) c.loop-item-test.true c.item-item.is (c.in_ok-add_item.ensures.added name) (c.loop-item.invariant.added name);
}

pub returns-clause-all : goal.returns-clause-all
returns-clause-all c = λ name.
    sym (append-nil (group_of c.loop-item.named name))
    ∙ (ap (λ l. group_of c.loop-item.named name ++ labelled (events (items (map item_view l))) name) (sym (drop_of_length-le c.args.items.now c.loop-item-test.false))
    ∙ c.loop-item.invariant.added name)
