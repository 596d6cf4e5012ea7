-- The expansion of a chart: its items, with what the charts come to that its references name, and with its refining charts; or the walks
-- through its graph, with what its nodes come to. Each event and each walk has a number of its own, in the order of the text, and each use
-- of a chart numbers its events anew. What ties the events of a level is said of tags; here it is said of the numbers of the events that
-- still show them.
use Rattle.std.specs.Prelude.{ℕ, zero, suc, List, [], ◌∷◌, ◌++◌, Option, Some, None, filter, map}
use Rattle.std.specs.List.{flat_map}
use Rattle.msc_base.specs.declared.label.Far.{Far}
use Rattle.msc_base.specs.declared.label.Pair.{Pair}
use Rattle.msc_unfolding.specs.Unfoldings.{Tag, Happening, is_same_tag, past_level}
use Rattle.hmsc_graph.specs.declared.shape.Shape.{Shape}
use Rattle.graph_shapes.specs.GraphShapes.{shape_of}
use Rattle.msc_tree.specs.declared.reference.InlineForm.{InlineForm}
use Rattle.msc_tree.specs.declared.reference.InlineForm.TheVariants as inline
use Rattle.msc_tree.specs.Expressions.{Expression, Empty, Chart, Alt, Par, Seq, Opt, Loop, Expressions, none, more}
use Rattle.msc_tree.specs.Graphs as tree
use Rattle.msc_tree.specs.Graphs.{Graph, graph, Lines, no_lines, line_and, line, Node, Ends, Connect, Condition, Frames, Graphs, no_graphs, graph_and}
use Rattle.msc_meaning.specs.Bodies.{EventNode, InlinePart, Body, level, WovenItems, no_items, item_and, WovenItem, Single, Coregion, Inline, Refer, Bodies, no_bodies, body_and}
use Rattle.msc_meaning.specs.Calls.{calls}
use Rattle.msc_meaning.specs.ChartUnfoldings.{gates_of, under, refined_under, refining_under}
use Rattle.msc_meaning.specs.FarEnds.{GateMap, no_gates, Around, Gates, gates_referred, inside, far_end, happening}
use Rattle.msc_meaning.specs.InnerEvents.{GateEnd}
use Rattle.msc_meaning.specs.Refinements.{Refining, refining, refinings, without_decomposed, past_refining}
use Rattle.msc_meaning.specs.Tables.{Table, ChartEntry, chart_at, Woven, Basic, HighLevel, Refinement, refinements}
use Rattle.msc_meaning.specs.Ties.{ties, past_inline, past_reference}
use Rattle.expansion_tree.specs.Expansions.{Expansion, Event, InRow, Aside, OneOf, Exception, Turns, Tied, Walk, Expansions, no_parts, part_and}

-- an event of an expansion
pub record NumberedEvent : Type 0 where
  pub number : ℕ
  pub happening : Happening

-- tags that numbers still show
abbrev pub Shown : Type 0
Shown = List (ℕ × Tag)

-- ---- pairs of tags as pairs of numbers

-- the numbers that show the tag: of an event's own number one at most, of a gate one for each of its inner events
abbrev pub numbers_with : Tag → Shown → List ℕ
numbers_with a sh = map (λ p. p.0) (filter (λ p. is_same_tag p.1 a) sh)

-- each of these before each of those
abbrev pub pairs_between : List ℕ → List ℕ → List Pair
pairs_between ms ns = flat_map (λ m. map (λ n. record { first = m; second = n }) ns) ms

abbrev pub tied_pairs : Shown → List (Tag × Tag) → List Pair
tied_pairs sh ts = flat_map (λ t. pairs_between (numbers_with t.0 sh) (numbers_with t.1 sh)) ts

-- what is shown above a tie
abbrev pub past_shown : (Tag → List Tag) → Shown → Shown
past_shown f sh = flat_map (λ p. map (λ a. (p.0, a)) (f p.1)) sh

-- ---- parts

-- a part of an expansion, the tags that its events still show, and the number of the next event
pub record Expanded : Type 0 where
  pub part : Expansion NumberedEvent
  pub shown : Shown
  pub next : ℕ

-- and parts
pub record ExpandedParts : Type 0 where
  pub parts : Expansions NumberedEvent
  pub shown : Shown
  pub next : ℕ

abbrev pub nothing : ℕ → ExpandedParts
nothing n = record { parts = no_parts; shown = []; next = n }

abbrev pub put : Expanded → ExpandedParts → ExpandedParts
put e rest = record { parts = part_and e.part rest.parts; shown = e.shown ++ rest.shown; next = rest.next }

-- a part, and behind it those that are numbered from its end on
abbrev pub then : Expanded → (ℕ → ExpandedParts) → ExpandedParts
then e rest = put e (rest e.next)

abbrev pub in_row : ExpandedParts → Expanded
in_row l = record { part = InRow l.parts; shown = l.shown; next = l.next }

abbrev pub aside : ExpandedParts → Expanded
aside l = record { part = Aside l.parts; shown = l.shown; next = l.next }

abbrev pub one_of : ExpandedParts → Expanded
one_of l = record { part = OneOf l.parts; shown = l.shown; next = l.next }

abbrev pub or_nothing : Expanded → Expanded
or_nothing e = record e { part = OneOf (part_and e.part (part_and (InRow no_parts) no_parts)) }

abbrev pub exception : Expanded → Expanded
exception e = record e { part = Exception e.part }

-- a loop whose events are numbered from n on; it counts as one event by that number
abbrev pub turns : ℕ → ℕ → Option ℕ → Expanded → Expanded
turns n lower upper e = record e { part = Turns n lower upper e.part }

-- the walks through that graph, whose nodes come to these; the number is the walk's own. Nothing is shown of them
abbrev pub walk : ℕ → Shape → ExpandedParts → Expanded
walk n shape l = record { part = Walk n shape l.parts; shown = []; next = l.next }

abbrev pub tied : List (Tag × Tag) → Expanded → Expanded
tied ts e = record e { part = Tied e.part (tied_pairs e.shown ts) }

abbrev pub past : (Tag → List Tag) → Expanded → Expanded
past f e = record e { shown = past_shown f e.shown }

abbrev pub event : ℕ → Happening → Expanded
event n h = record { part = Event (record { number = n; happening = h }); shown = map (λ a. (n, a)) h.tags; next = suc n }

-- an inline expression of these operands, whose events are numbered from n on
abbrev pub inline_by : InlineForm → InlinePart → ℕ → ExpandedParts → Expanded
inline_by inline.Alt part n l = one_of l
inline_by inline.Opt part n l = or_nothing (one_of l)
inline_by inline.Par part n l = aside l
inline_by inline.Exc part n l = exception (one_of l)
inline_by inline.Loop part n l = turns n part.lower part.upper (one_of l)

-- ---- charts

-- what a chart comes to, by its name, where its gates lead, and the number of its first event
abbrev pub Charts : Type 0
Charts = List ℕ → GateMap → ℕ → Expanded

-- chart: what the charts come to that are named; ends_of: the ends of the called gates of a level
module _ (chart : Charts) (ends_of : WovenItems → List GateEnd) where
  abbrev pub expand_events : List GateEnd → Around → ℕ → List EventNode → ExpandedParts
  expand_events ends around n [] = nothing n
  expand_events ends around n (k ∷ ks) = then (event n (happening ends around k)) (λ m. expand_events ends around m ks)

  abbrev mutual
    pub expand : GateMap → ℕ → Expression → Expanded
    expand gates n Empty = in_row (nothing n)
    expand gates n (Chart name) = chart name gates n
    expand gates n (Alt parts) = one_of (expand_all gates n parts)
    expand gates n (Par parts) = aside (expand_all gates n parts)
    expand gates n (Seq parts) = in_row (expand_all gates n parts)
    expand gates n (Opt part) = or_nothing (expand gates n part)
    expand gates n (Loop lower upper part) = turns n lower upper (expand gates n part)

    pub expand_all : GateMap → ℕ → Expressions → ExpandedParts
    expand_all gates n none = nothing n
    expand_all gates n (more x xs) = then (expand gates n x) (λ m. expand_all gates m xs)

  abbrev mutual
    -- a graph: its walk has the first number, its nodes have the next ones
    pub expand_graph : ℕ → Graph → Expanded
    expand_graph n (graph starts lines) = walk n (shape_of (graph starts lines)) (expand_lines (suc n) lines)

    pub expand_lines : ℕ → Lines → ExpandedParts
    expand_lines n no_lines = nothing n
    expand_lines n (line_and (line label place node next) rest) = then (expand_node n node) (λ m. expand_lines m rest)

    pub expand_node : ℕ → Node → Expanded
    expand_node n Ends = in_row (nothing n)
    expand_node n Connect = in_row (nothing n)
    expand_node n (Condition names) = in_row (nothing n)
    expand_node n (tree.Refer expression) = expand no_gates n expression
    expand_node n (Frames held) = aside (expand_frames n held)

    pub expand_frames : ℕ → Graphs → ExpandedParts
    expand_frames n no_graphs = nothing n
    expand_frames n (graph_and drawn rest) = then (expand_graph n drawn) (λ m. expand_frames m rest)

  abbrev mutual
    -- a level, above which its own tags are gone
    pub expand_level : Around → ℕ → Body → Expanded
    expand_level around n (level cover held pairs) = past past_level (tied (ties held pairs (calls held) (ends_of held)) (in_row (expand_items (gates_of held (ends_of held)) around n held)))

    pub expand_items : Gates → Around → ℕ → WovenItems → ExpandedParts
    expand_items gates around n no_items = nothing n
    expand_items gates around n (item_and x xs) = then (expand_item gates around n x) (λ m. expand_items gates around m xs)

    pub expand_item : Gates → Around → ℕ → WovenItem → Expanded
    expand_item gates around n (Single k) = event n (happening gates.ends around k)
    expand_item gates around n (Coregion ks) = aside (expand_events gates.ends around n ks)
    expand_item gates around n (Inline form part operands) = past (past_inline gates.calls part.name) (inline_by form part n (expand_operands (inside gates part.name around) n operands))
    expand_item gates around n (Refer part) = past (past_reference gates.calls part.name part.joins) (expand (gates_referred gates part.name part.joins around.gates) n part.expression)

    pub expand_operands : Around → ℕ → Bodies → ExpandedParts
    expand_operands around n no_bodies = nothing n
    expand_operands around n (body_and b bs) = then (expand_level around n b) (λ m. expand_operands around m bs)

  -- refining charts; above each its matched events have the numbers of those that they stand for
  abbrev pub expand_refinings : (EventNode → Far) → ℕ → List Refining → ExpandedParts
  expand_refinings far_of n [] = nothing n
  expand_refinings far_of n (refining (level cover held pairs) ms ∷ rs) =
      then (past (past_refining ms) (tied (ties held pairs (calls held) (ends_of held)) (in_row (expand_items (gates_of held (ends_of held)) (refining_under far_of ms) n held)))) (λ m. expand_refinings far_of m rs)

  -- what is left of a body beside its refining charts, tied as a whole
  abbrev pub expand_refined : Around → ℕ → WovenItems → List Pair → List Refinement → List Refining → Expanded
  expand_refined around n held pairs rs refined =
      past past_level (tied (ties held pairs (calls held) (ends_of held))
      (aside (then (in_row (expand_items (gates_of held (ends_of held)) around n (without_decomposed rs held))) (λ m. expand_refinings (far_end (ends_of held) around) m refined))))

  abbrev pub expand_woven : Table → GateMap → ℕ → List Refinement → Woven → Expanded
  expand_woven table gates n [] (Basic held) = expand_level (under gates) n held
  expand_woven table gates n (r ∷ rs) (Basic (level cover held pairs)) = expand_refined (refined_under gates pairs (refinings table held (r ∷ rs))) n held pairs (r ∷ rs) (refinings table held (r ∷ rs))
  expand_woven table gates n rs (HighLevel drawn) = expand_graph n drawn

module _ (ends_of : WovenItems → List GateEnd) (table : Table) where
  abbrev pub expand_entry : Charts → GateMap → ℕ → Option ChartEntry → Expanded
  expand_entry chart gates n None = in_row (nothing n)
  expand_entry chart gates n (Some entry) = expand_woven chart ends_of table gates n (refinements entry.decls) entry.content

  -- what the charts of the table come to whose references stand in each other less than so deep
  abbrev pub expand_charts : ℕ → Charts
  expand_charts zero name gates n = in_row (nothing n)
  expand_charts (suc depth) name gates n = expand_entry (expand_charts depth) gates n (chart_at table name)

  -- the expansion of a chart by itself: no caller is known of its gates
  abbrev pub expansion : ℕ → List ℕ → Expansion NumberedEvent
  expansion depth name = (expand_charts depth name no_gates 0).part
