use Rattle.std.proofs.Common.{rules, ◌≡◌, ◌++◌, ◌∙◌, ap, map}
use Rattle.msc_meaning.specs.Bodies.{events, items}
use Rattle.msc_meaning.specs.Ties.{labelled, order_pairs}
use Rattle.msc_meaning.specs.Views.{item_view}
use Rattle.general_ordering.specs.NamedEvents.{group_of}
use Rattle.general_ordering.proofs.Groups.{order_same}
use Rattle.general_ordering.proofs.ordering.level_pairs_of.Goals as goal

pub returns : goal.returns
returns c =
    let held = events (items (map item_view c.args.items.now)) in
    let copied : c.in_ok-list.list ≡ c.args.pairs.now = search rules in
    c.in_ok-add_items.ensures ∙ (ap (λ l. l ++ order_pairs (group_of c.in_ok-named.named) held) copied
    ∙ ap (λ l. c.args.pairs.now ++ l) (order_same (group_of c.in_ok-named.named) (labelled held) c.in_ok-named.ensures.all held))
