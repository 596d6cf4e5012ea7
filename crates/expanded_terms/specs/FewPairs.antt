-- Why a level has few pairs, through all levels: an event is in one message pair at most and then names no gate; a gate is called by one
-- event at most; and an inner event of a gate is tied on one level only.
use Rattle.std.specs.Prelude.{◌≤◌, ℕ, ◌+◌, List, [], ◌∷◌, length, map}
use Rattle.msc_base.specs.declared.label.Pair.{Pair}
use Rattle.msc_base.specs.Orders.{Once}
use Rattle.general_ordering.specs.OrderCounts.{orders_count}
use Rattle.msc_meaning.specs.Bodies.{EventNode, ReferencePart, level, WovenItems, no_items, item_and, WovenItem, Single, Coregion, Inline, Refer, events}
use Rattle.gate_ends.specs.LevelGates.{event_tags}
use Rattle.msc_meaning.specs.Calls.{calls}
use Rattle.msc_meaning.specs.FarEnds.{gate_tags}
use Rattle.msc_meaning.specs.InnerEvents.{GateEnd}
use Rattle.msc_meaning.specs.Ties.{level_pairs, items_joins_ties, ties}
use Rattle.expanded_terms.specs.ExpandedSizes.{open_gates, items_room, HaveRoom}
use Rattle.expanded_terms.specs.ExpandedTerms.{Charts, items_shown, level_shown}
use Rattle.expanded_terms.specs.TagNumbers.{tied_numbers}

abbrev pub node_numbers : List EventNode → List ℕ
node_numbers ns = map (λ (n : EventNode). n.number) ns

-- how many of the events name a gate of their level
abbrev pub own_gates : List EventNode → ℕ
own_gates [] = 0
own_gates (n ∷ ns) = length (gate_tags n.event.target) + own_gates ns

-- the products of the joins of these items of a level, which is the first
module _ (product : WovenItems → ReferencePart → ℕ) where
  abbrev pub item_product : WovenItems → WovenItem → ℕ
  item_product whole (Single n) = 0
  item_product whole (Coregion ns) = 0
  item_product whole (Inline form part operands) = 0
  item_product whole (Refer part) = product whole part

  abbrev pub products : WovenItems → WovenItems → ℕ
  products whole no_items = 0
  products whole (item_and x xs) = item_product whole x + products whole xs

pub record HasFewOwn (held : WovenItems) (ps : List Pair) : Type 0 where
  pub numbers : Once (node_numbers (events held))
  pub pairs : length (level_pairs held ps) + own_gates (events held) ≤ length (events held) + orders_count (events held)
  pub calls : Once (event_tags (calls held))

-- then the level's pairs have room, where its joins come to no more than their products
pub record FewPairsHaveRoom : Type 0 where
  pub room : (charts : Charts) (product : WovenItems → ReferencePart → ℕ) (ends_of : WovenItems → List GateEnd) (n : ℕ) (cover : List (List ℕ)) (held : WovenItems) (pairs : List Pair) → HasFewOwn held pairs
      → length (tied_numbers (items_shown charts (calls held) n held) (items_joins_ties (ends_of held) held)) ≤ products product held held
      → HaveRoom (length (tied_numbers (items_shown charts (calls held) n held) (ties held pairs (calls held) (ends_of held)))) (open_gates (level_shown charts n (level cover held pairs))) (items_room charts product held n held)
