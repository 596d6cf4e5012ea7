-- Serves private contracts alone.
-- What the functions say of the parts that they make.
use Rattle.std.specs.Prelude.{◌≡◌, ℕ, List, ◌++◌, Option, None, Some, map, position}
use Rattle.std.specs.Str.{bytes_eq}
use Rattle.msc_base.specs.declared.label.Label.{Label}
use Rattle.msc_tree.specs.Expressions.{Expression, Expressions}
use Rattle.msc_tree.specs.Graphs.{Graph, Graphs, Lines, Node, graphs, lines}
use Rattle.msc_tree.specs.Views.{graph_view, line_view}
use Rattle.msc_tree.specs.declared.graph.RawGraph.{RawGraph}
use Rattle.msc_tree.specs.declared.graph.RawLine.{RawLine}
use Rattle.msc_meaning.specs.Bodies.{EventNode, Body, WovenItems, WovenItem, Bodies}
use Rattle.msc_meaning.specs.FarEnds.{Around, GateMap, Gates, happening}
use Rattle.msc_meaning.specs.Tables.{Table}
use Rattle.expansion_tree.specs.Expansions.{Expansion, Expansions, no_parts, part_and, all_events_in, events_in, map_all_events, map_events}
use Rattle.expansion_tree.specs.Views.{expansion_view, expansions_view}
use Rattle.expanded_charts.specs.Expanding.{Charts, Expanded, ExpandedParts, NumberedEvent, event, expand, expand_all, expand_charts, expand_events, expand_frames, expand_graph, expand_item, expand_items, expand_level, expand_lines, expand_node, expand_operands}
use Rattle.expanded_charts.specs.Numbering.{event_by, with_event, with_events}
use Rattle.expanded_charts.specs.ShownGates.{gates_in, gates_view, own_numbers}
use Rattle.expanded_charts.specs.declared.numbering.Numbering.{Numbering}
use Rattle.expansion_tree.specs.declared.tree.ExpandedEvent.{ExpandedEvent}
use Rattle.level_surroundings.specs.TableEnds.{ends_in}
use Rattle.expanded_charts.specs.declared.made.Made.{Made}
use Rattle.expanded_charts.specs.declared.made.MadeParts.{MadeParts}

-- what had a number has it still
pub record Extends (old new : Numbering) : Type 0 where
  pub more_names : List (List ℕ)
  pub more_labels : List Label
  pub names : new.names ≡ old.names ++ more_names
  pub labels : new.labels ≡ old.labels ++ more_labels

-- the number is that of the instance, where there is one
abbrev pub IsSecond : List (List ℕ) → Option (List ℕ) → Option ℕ → Type 0
IsSecond names None number = number ≡ None
IsSecond names (Some i) number = (k : ℕ) × (number ≡ Some k) × (position (bytes_eq i) names ≡ Some k)

-- the event has these numbers, also by a numbering that has more
pub record IsNumbered (old new : Numbering) (e : NumberedEvent) (made : ExpandedEvent) : Type 0 where
  pub extends : Extends old new
  pub seen : new ≡ with_event old e
  pub are : (later : Numbering) → Extends new later → made ≡ event_by later e

-- it is this part, and its events were numbered; also by a numbering that has more
pub record IsMade (old new : Numbering) (e : Expanded) (made : Made) : Type 0 where
  pub extends : Extends old new
  pub seen : new ≡ with_events old (events_in e.part)
  pub part : (later : Numbering) → Extends new later → expansion_view made.part ≡ map_events (event_by later) e.part
  pub own : made.own ≡ own_numbers e.shown
  pub gates : gates_view made.gates.items ≡ gates_in e.shown
  pub next : made.next ≡ e.next

pub record AreMade (old new : Numbering) (ps : ExpandedParts) (made : MadeParts) : Type 0 where
  pub extends : Extends old new
  pub seen : new ≡ with_events old (all_events_in ps.parts)
  pub parts : (later : Numbering) → Extends new later → expansions_view made.parts.items ≡ map_all_events (event_by later) ps.parts
  pub own : made.own ≡ own_numbers ps.shown
  pub gates : gates_view made.gates.items ≡ gates_in ps.shown
  pub next : made.next ≡ ps.next

abbrev pub with_part : Expansions NumberedEvent → Expansion NumberedEvent → Expansions NumberedEvent
with_part no_parts x = part_and x no_parts
with_part (part_and y ys) x = part_and y (with_part ys x)

-- one part more, behind those
abbrev pub add : ExpandedParts → Expanded → ExpandedParts
add ps e = record { parts = with_part ps.parts e.part; shown = ps.shown ++ e.shown; next = e.next }

-- what it adds to parts
abbrev pub IsAdded : MadeParts → Made → MadeParts → Type 0
IsAdded was made parts = (old mid new : Numbering) (ps : ExpandedParts) (e : Expanded) → AreMade old mid ps was → IsMade mid new e made → AreMade old new (add ps e) parts

-- how one part is made of parts, and of another
abbrev pub IsMadeOf : (ExpandedParts → Expanded) → MadeParts → Made → Type 0
IsMadeOf f parts made = (old new : Numbering) (ps : ExpandedParts) → AreMade old new ps parts → IsMade old new (f ps) made

abbrev pub IsChanged : (Expanded → Expanded) → Made → Made → Type 0
IsChanged f was made = (old new : Numbering) (e : Expanded) → IsMade old new e was → IsMade old new (f e) made

-- ---- graphs as the code has them

abbrev pub lines_view : List RawLine → Lines
lines_view ls = lines (map line_view ls)

abbrev pub frames_view : List RawGraph → Graphs
frames_view gs = graphs (map graph_view gs)

-- ---- parts of charts of this table, whose references stand in each other less than so deep; gates: where those of a chart lead to;
-- around: what a level is given

-- an event of a level with these called gates
abbrev pub event_part : Gates → Around → ℕ → EventNode → Expanded
event_part level around n k = event n (happening level.ends around k)

module _ (table : Table) (depth : ℕ) where
  abbrev pub charts : Charts
  charts = expand_charts (ends_in table) table depth

  abbrev pub chart_part : GateMap → ℕ → List ℕ → Expanded
  chart_part gates n name = charts name gates n

  abbrev pub level_part : Around → ℕ → Body → Expanded
  level_part around n b = expand_level charts (ends_in table) around n b

  abbrev pub items_parts : Gates → Around → ℕ → WovenItems → ExpandedParts
  items_parts level around n xs = expand_items charts (ends_in table) level around n xs

  abbrev pub item_part : Gates → Around → ℕ → WovenItem → Expanded
  item_part level around n x = expand_item charts (ends_in table) level around n x

  abbrev pub operands_parts : Around → ℕ → Bodies → ExpandedParts
  operands_parts around n bs = expand_operands charts (ends_in table) around n bs

  abbrev pub expression_part : GateMap → ℕ → Expression → Expanded
  expression_part gates n x = expand charts (ends_in table) gates n x

  abbrev pub expressions_parts : GateMap → ℕ → Expressions → ExpandedParts
  expressions_parts gates n xs = expand_all charts (ends_in table) gates n xs

  abbrev pub events_parts : Gates → Around → ℕ → List EventNode → ExpandedParts
  events_parts level around n ks = expand_events charts (ends_in table) level.ends around n ks

  abbrev pub graph_part : ℕ → Graph → Expanded
  graph_part n drawn = expand_graph charts (ends_in table) n drawn

  abbrev pub lines_parts : ℕ → Lines → ExpandedParts
  lines_parts n ls = expand_lines charts (ends_in table) n ls

  abbrev pub node_part : ℕ → Node → Expanded
  node_part n node = expand_node charts (ends_in table) n node

  abbrev pub frames_parts : ℕ → Graphs → ExpandedParts
  frames_parts n held = expand_frames charts (ends_in table) n held
