-- A chart that can be ranked by itself can be ranked from any first number on, with any numbers for its instances that tell their names.
use Rattle.std.specs.Prelude.{ℕ, ◌+◌, ◌-◌, ◌≤◌, List, ◌++◌}
use Rattle.std.proofs.Common.{◌≡◌, ◌∙◌, sym, subst, ap, arith, inl, inr}
use Rattle.msc_base.specs.Orders.{Among, first, later}
use Rattle.msc_meaning.specs.Bodies.{WovenItems}
use Rattle.msc_meaning.specs.FarEnds.{no_gates}
use Rattle.msc_meaning.specs.InnerEvents.{GateEnd}
use Rattle.msc_meaning.specs.Tables.{Table}
use Rattle.expansion_tree.specs.Expansions.{Expansion, Event, InRow, Aside, OneOf, Exception, Turns, Tied, Walk, Expansions, no_parts, part_and, map_events, events_in, all_events_in}
use Rattle.expansion_tree.specs.declared.tree.ExpandedEvent.{ExpandedEvent}
use Rattle.expansion_order.specs.Ranks.{CanBeRanked}
use Rattle.expanded_charts.specs.Expanding.{Expanded, NumberedEvent, expand_charts}
use Rattle.node_ranks.specs.NamedCharts.{IsNestedTo}
use Rattle.node_ranks.specs.NodeRanks.{HasColumns, IsRankedAlone, KeepsNumbers, TellsNames}
use Rattle.node_ranks.proofs.Deeper.{deeper}
use Rattle.node_ranks.proofs.ListParts.{split_among, among_left, among_right}
use Rattle.node_ranks.proofs.Moved.{moved, all_moved, moved_event, moved_part}
use Rattle.node_ranks.proofs.MovedParts.{charts_moved}
use Rattle.node_ranks.proofs.Renamed.{SharesLess, renamed}

module _ (d : ℕ) where
  abbrev AreMovedTo : List NumberedEvent → List NumberedEvent → Type 0
  AreMovedTo es ds = (e : NumberedEvent) → Among e es → Among (moved_event d e) ds

  both : (es ds bs cs : List NumberedEvent) → AreMovedTo es ds → AreMovedTo bs cs → AreMovedTo (es ++ bs) (ds ++ cs)
  both es ds bs cs h k e i = elim (split_among es bs e i) [ inl j ↦ among_left ds cs (moved_event d e) (h e j) | inr j ↦ among_right ds cs (moved_event d e) (k e j) ]

  one : (a : NumberedEvent) → AreMovedTo (events_in (Event a)) (events_in (moved d (Event a)))
  one a _ first = first
  one a e (later i) = elim i [ ]

  mutual
    events_moved : (x : Expansion NumberedEvent) → AreMovedTo (events_in x) (events_in (moved d x))
    events_moved (Event a) = one a
    events_moved (InRow xs) = all_events_moved xs
    events_moved (Aside xs) = all_events_moved xs
    events_moved (OneOf xs) = all_events_moved xs
    events_moved (Exception x) = events_moved x
    events_moved (Turns n lower upper x) = events_moved x
    events_moved (Tied x ps) = events_moved x
    events_moved (Walk n s xs) = all_events_moved xs

    all_events_moved : (xs : Expansions NumberedEvent) → AreMovedTo (all_events_in xs) (all_events_in (all_moved d xs))
    all_events_moved no_parts = λ e i. elim i [ ]
    all_events_moved (part_and x xs) = both (events_in x) (events_in (moved d x)) (all_events_in xs) (all_events_in (all_moved d xs)) (events_moved x) (all_events_moved xs)

pub alone_ranked : (ends_of : WovenItems → List GateEnd) (table : Table) (depth : ℕ) (name : List ℕ) (n : ℕ) (g : NumberedEvent → ExpandedEvent) → KeepsNumbers g → IsNestedTo table depth name → IsRankedAlone ends_of table depth name
    → TellsNames g (events_in (expand_charts ends_of table depth name no_gates n).part) → CanBeRanked (map_events g (expand_charts ends_of table depth name no_gates n).part)
alone_ranked ends_of table depth name n g keeps w alone =
    let from : n ≡ n + 0 = omega arith in
    let same : expand_charts ends_of table depth name no_gates n ≡ moved_part n whole = ap (λ m. expand_charts ends_of table depth name no_gates m) from ∙ charts_moved ends_of table depth name no_gates w n 0 in
    subst (λ (e : Expanded). TellsNames g (events_in e.part) → CanBeRanked (map_events g e.part)) (sym same)
    (λ tells. record { rank = λ j. alone.ranked.rank (j - n); ranked = renamed n alone.numbering g alone.keeps keeps alone.ranked.rank whole.part (less tells) alone.ranked.ranked })
  where
    whole : Expanded
    whole = expand_charts ends_of table depth name no_gates 0

    less : TellsNames g (events_in (moved n whole.part)) → SharesLess n alone.numbering g alone.keeps keeps (events_in whole.part)
    less tells a b i j s = alone.shares a b i j (tells (moved_event n a) (moved_event n b) (events_moved n whole.part a i) (events_moved n whole.part b j) s)

-- where it can be at a greater depth
pub less_deep : (ends_of : WovenItems → List GateEnd) (table : Table) (k j : ℕ) (name : List ℕ) → k ≤ j → IsNestedTo table k name → IsRankedAlone ends_of table j name → IsRankedAlone ends_of table k name
less_deep ends_of table k j name l w alone =
    let same = deeper ends_of table k j name no_gates l w 0 in
    record {
      numbering = alone.numbering;
      keeps = alone.keeps;
      shares = subst (λ (e : Expanded). HasColumns alone.numbering (events_in e.part)) (sym same) alone.shares;
      ranked = subst (λ (e : Expanded). CanBeRanked (map_events alone.numbering e.part)) (sym same) alone.ranked;
    }
