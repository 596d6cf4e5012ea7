-- What the nodes of the graphs of an expansion come to can be ranked, where each chart of the table can be by itself. By itself a chart's
-- first event has the number 0, no caller of its gates is known, and its instances have numbers of their own; in a node the events have
-- other numbers, and so have the instances. Which events share an instance is the same by their names.
use Rattle.std.specs.Prelude.{◌≡◌, ◌<◌, ◌≤◌, ℕ, suc, List, ◌∷◌}
use Rattle.std.specs.Option.{option_to_list}
use Rattle.msc_base.specs.Orders.{Among}
use Rattle.msc_unfolding.specs.Unfoldings.{instances_of}
use Rattle.msc_tree.specs.Graphs.{Lines}
use Rattle.msc_meaning.specs.Bodies.{WovenItems}
use Rattle.msc_meaning.specs.FarEnds.{GateMap}
use Rattle.msc_meaning.specs.InnerEvents.{GateEnd}
use Rattle.msc_meaning.specs.Tables.{Table}
use Rattle.expansion_tree.specs.Expansions.{Expansion, Expansions, no_parts, part_and, map_events, map_all_events, events_in, all_events_in}
use Rattle.expansion_tree.specs.Walks.{EachWalk, EachWalkIn}
use Rattle.expansion_tree.specs.declared.tree.ExpandedEvent.{ExpandedEvent}
use Rattle.expansion_order.specs.Ranks.{CanBeRanked}
use Rattle.expanded_charts.specs.Expanding.{NumberedEvent, expand_charts, expand_lines, expansion}
use Rattle.node_ranks.specs.NamedCharts.{IsNestedTo, LinesNameOnly}

-- what is said of each part
abbrev pub EachPart : {E : Type 0} → (Expansion E → Type 0) → Expansions E → Type 0
EachPart P no_parts = Unit {0}
EachPart P (part_and x xs) = P x × EachPart P xs

-- ---- instances by their names, and by their numbers

-- something stands in both lists
abbrev pub HaveInCommon : {A : Type 0} → List A → List A → Type 0
HaveInCommon {A} is js = (i : A) × Among i is × Among i js

-- two events share an instance, by its name
abbrev pub SharesName : NumberedEvent → NumberedEvent → Type 0
SharesName e d = HaveInCommon (instances_of e.happening) (instances_of d.happening)

-- the numbers of an event's instances
abbrev pub columns_of : ExpandedEvent → List ℕ
columns_of e = e.at ∷ option_to_list e.also

-- under these numbers they share one
abbrev pub SharesColumn : (NumberedEvent → ExpandedEvent) → NumberedEvent → NumberedEvent → Type 0
SharesColumn f e d = HaveInCommon (columns_of (f e)) (columns_of (f d))

-- instances and labels get numbers, and events keep theirs
abbrev pub KeepsNumbers : (NumberedEvent → ExpandedEvent) → Type 0
KeepsNumbers f = (e : NumberedEvent) → (f e).number ≡ e.number

-- of these events two that share an instance under these numbers share one by its name
abbrev pub TellsNames : (NumberedEvent → ExpandedEvent) → List NumberedEvent → Type 0
TellsNames f es = (e d : NumberedEvent) → Among e es → Among d es → SharesColumn f e d → SharesName e d

-- and the other way round
abbrev pub HasColumns : (NumberedEvent → ExpandedEvent) → List NumberedEvent → Type 0
HasColumns f es = (e d : NumberedEvent) → Among e es → Among d es → SharesName e d → SharesColumn f e d

-- ---- the laws

-- the chart's expansion by itself can be ranked, under some numbers of its instances
pub record IsRankedAlone (ends_of : WovenItems → List GateEnd) (table : Table) (depth : ℕ) (name : List ℕ) : Type 0 where
  pub numbering : NumberedEvent → ExpandedEvent
  pub keeps : KeepsNumbers numbering
  pub shares : HasColumns numbering (events_in (expansion ends_of table depth name))
  pub ranked : CanBeRanked (map_events numbering (expansion ends_of table depth name))

-- so can each chart that is nested less than so deep; the bound is the depth of its expansion, which may be greater
abbrev pub AreRankedAlone : (WovenItems → List GateEnd) → Table → ℕ → ℕ → Type 0
AreRankedAlone ends_of table depth bound = (k : ℕ) (name : List ℕ) → k < depth → IsNestedTo table k name → IsRankedAlone ends_of table bound name

pub record NodesAreRanked : Type 0 where
  -- those of each graph of a chart's expansion, wherever its gates lead, whatever its first number is, and under any numbers of its
  -- instances that tell names
  pub walks : (ends_of : WovenItems → List GateEnd) (table : Table) (depth bound : ℕ) (name : List ℕ) (gates : GateMap) (n : ℕ) (g : NumberedEvent → ExpandedEvent) → depth ≤ bound → IsNestedTo table depth name → AreRankedAlone ends_of table depth bound
      → KeepsNumbers g → TellsNames g (events_in (expand_charts ends_of table depth name gates n).part) → EachWalk (λ m s xs. EachPart CanBeRanked xs) (map_events g (expand_charts ends_of table depth name gates n).part)
  -- those of the lines of a graph, and of the graphs in them
  pub lines : (ends_of : WovenItems → List GateEnd) (table : Table) (depth bound : ℕ) (held : Lines) (n : ℕ) (g : NumberedEvent → ExpandedEvent) → depth ≤ bound → LinesNameOnly (IsNestedTo table depth) held → AreRankedAlone ends_of table (suc depth) bound
      → KeepsNumbers g → TellsNames g (all_events_in (expand_lines (expand_charts ends_of table depth) ends_of n held).parts)
      → EachPart CanBeRanked (map_all_events g (expand_lines (expand_charts ends_of table depth) ends_of n held).parts) × EachWalkIn (λ m s xs. EachPart CanBeRanked xs) (map_all_events g (expand_lines (expand_charts ends_of table depth) ends_of n held).parts)

-- at a greater depth the expansion of a nested chart is the same
pub record DeeperIsSame : Type 0 where
  pub same : (ends_of : WovenItems → List GateEnd) (table : Table) (k j : ℕ) (name : List ℕ) (gates : GateMap) (n : ℕ) → k ≤ j → IsNestedTo table k name → expand_charts ends_of table k name gates n ≡ expand_charts ends_of table j name gates n
