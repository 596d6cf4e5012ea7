-- The term of a body with its references, gates, joins and decomposed instances, and of a graph: how many numbers its events and walks
-- take, the tags that are still to be seen of its events, and the term. Events and walks are numbered in the order of the text, here from
-- n on, each use of a chart anew.
use Rattle.std.specs.Prelude.{ℕ, zero, suc, ◌+◌, List, [], ◌∷◌, ◌++◌, Option, None, Some, length}
use Rattle.msc_base.specs.declared.label.Far.{Far}
use Rattle.msc_base.specs.Patterns.{Mode, seq, par}
use Rattle.msc_unfolding.specs.Unfoldings.{Own, Happening, past_level}
use Rattle.chart_term.specs.NormalForms.{join_all, tie_of}
use Rattle.chart_term.specs.Terms.{Tree, Nil}
use Rattle.term_meaning.specs.Portions.{Shown, shown_at, past_shown}
use Rattle.msc_tree.specs.declared.reference.InlineForm.TheVariants as inline
use Rattle.msc_tree.specs.Expressions.{Expression, Empty, Chart, Alt, Par, Seq, Opt, Expressions, none, more}
use Rattle.msc_tree.specs.Expressions as expression
use Rattle.msc_tree.specs.Graphs as tree
use Rattle.msc_tree.specs.Graphs.{Graph, graph, Lines, no_lines, line_and, line, Node, Ends, Connect, Condition, Frames, Graphs, no_graphs, graph_and}
use Rattle.msc_meaning.specs.Bodies.{EventNode, Body, level, WovenItems, no_items, item_and, WovenItem, Single, Coregion, Inline, Refer, Bodies, no_bodies, body_and}
use Rattle.msc_meaning.specs.Calls.{Call, calls}
use Rattle.msc_meaning.specs.ChartUnfoldings.{gates_of, under, refined_under, refining_under}
use Rattle.msc_meaning.specs.FarEnds.{GateMap, no_gates, Around, Gates, gates_referred, inside, far_end, gate_tags, happening}
use Rattle.msc_meaning.specs.InnerEvents.{GateEnd}
use Rattle.msc_meaning.specs.Refinements.{Refining, refining, refinings, without_decomposed, past_refining}
use Rattle.msc_meaning.specs.Tables.{Table, ChartEntry, chart_at, Woven, Basic, HighLevel, Refinement, refinements}
use Rattle.msc_meaning.specs.Ties.{ties, past_inline, past_reference}
use Rattle.chart_forms.specs.BodyEvents.{is_exception}
pub use Rattle.expansion_terms.specs.Constructors.{one_of, placed, leave_turn, turns_if, turns_of}
use Rattle.expanded_terms.specs.TagNumbers.{tied_numbers}

-- ---- events and walks

-- the terms of events and of walks, by their numbers
pub record Leaves : Type 0 where
  pub event : ℕ → Happening → Tree
  pub walk : ℕ → Tree

-- ---- what charts come to, by their names

pub record Charts : Type 0 where
  -- how many numbers their events and walks take
  pub count : List ℕ → ℕ
  -- the tags that are still to be seen of them, numbered from n on
  pub shown : List ℕ → ℕ → Shown
  -- their terms, their gates leading there, numbered from n on
  pub term : List ℕ → GateMap → ℕ → Tree

-- ---- how many numbers

module _ (charts : Charts) where
  abbrev mutual
    pub expression_count : Expression → ℕ
    expression_count Empty = 0
    expression_count (Chart name) = charts.count name
    expression_count (Alt parts) = expressions_count parts
    expression_count (Par parts) = expressions_count parts
    expression_count (Seq parts) = expressions_count parts
    expression_count (Opt part) = expression_count part
    expression_count (expression.Loop lower upper part) = expression_count part

    pub expressions_count : Expressions → ℕ
    expressions_count none = 0
    expressions_count (more x xs) = expression_count x + expressions_count xs

  abbrev mutual
    -- a walk has a number of its own, and so has each event of its nodes
    pub graph_count : Graph → ℕ
    graph_count (graph starts lines) = suc (lines_count lines)

    pub lines_count : Lines → ℕ
    lines_count no_lines = 0
    lines_count (line_and (line label place node next) rest) = node_count node + lines_count rest

    pub node_count : Node → ℕ
    node_count Ends = 0
    node_count Connect = 0
    node_count (Condition names) = 0
    node_count (tree.Refer expression) = expression_count expression
    node_count (Frames held) = frames_count held

    pub frames_count : Graphs → ℕ
    frames_count no_graphs = 0
    frames_count (graph_and drawn rest) = graph_count drawn + frames_count rest

  abbrev mutual
    pub level_count : Body → ℕ
    level_count (level cover held pairs) = items_count held

    pub items_count : WovenItems → ℕ
    items_count no_items = 0
    items_count (item_and x xs) = item_count x + items_count xs

    pub item_count : WovenItem → ℕ
    item_count (Single e) = 1
    item_count (Coregion es) = length es
    item_count (Inline form part operands) = operands_count operands
    item_count (Refer part) = expression_count part.expression

    pub operands_count : Bodies → ℕ
    operands_count no_bodies = 0
    operands_count (body_and b bs) = level_count b + operands_count bs

  abbrev pub refinings_count : List Refining → ℕ
  refinings_count [] = 0
  refinings_count (refining (level cover held pairs) ms ∷ rs) = items_count held + refinings_count rs

  -- of a body, or of what is left of it beside its refining charts
  abbrev pub woven_count : Table → List Refinement → Woven → ℕ
  woven_count table [] (Basic held) = level_count held
  woven_count table (r ∷ rs) (Basic (level cover held pairs)) = items_count (without_decomposed (r ∷ rs) held) + refinings_count (refinings table held (r ∷ rs))
  woven_count table rs (HighLevel drawn) = graph_count drawn

  -- ---- tags

  abbrev pub event_shown : ℕ → EventNode → Shown
  event_shown n e = shown_at n (Own e.number ∷ gate_tags e.event.target)

  abbrev pub events_shown : ℕ → List EventNode → Shown
  events_shown n [] = []
  events_shown n (e ∷ es) = event_shown n e ++ events_shown (n + 1) es

  abbrev mutual
    pub expression_shown : ℕ → Expression → Shown
    expression_shown n Empty = []
    expression_shown n (Chart name) = charts.shown name n
    expression_shown n (Alt parts) = expressions_shown n parts
    expression_shown n (Par parts) = expressions_shown n parts
    expression_shown n (Seq parts) = expressions_shown n parts
    expression_shown n (Opt part) = expression_shown n part
    expression_shown n (expression.Loop lower upper part) = expression_shown n part

    pub expressions_shown : ℕ → Expressions → Shown
    expressions_shown n none = []
    expressions_shown n (more x xs) = expression_shown n x ++ expressions_shown (n + expression_count x) xs

  abbrev mutual
    pub level_shown : ℕ → Body → Shown
    level_shown n (level cover held pairs) = past_shown past_level (items_shown (calls held) n held)

    pub items_shown : List Call → ℕ → WovenItems → Shown
    items_shown cs n no_items = []
    items_shown cs n (item_and x xs) = item_shown cs n x ++ items_shown cs (n + item_count x) xs

    pub item_shown : List Call → ℕ → WovenItem → Shown
    item_shown cs n (Single e) = event_shown n e
    item_shown cs n (Coregion es) = events_shown n es
    item_shown cs n (Inline form part operands) = past_shown (past_inline cs part.name) (operands_shown n operands)
    item_shown cs n (Refer part) = past_shown (past_reference cs part.name part.joins) (expression_shown n part.expression)

    pub operands_shown : ℕ → Bodies → Shown
    operands_shown n no_bodies = []
    operands_shown n (body_and b bs) = level_shown n b ++ operands_shown (n + level_count b) bs

  -- above a refining chart its matched events have the numbers of those that they stand for
  abbrev pub refinings_shown : ℕ → List Refining → Shown
  refinings_shown n [] = []
  refinings_shown n (refining (level cover held pairs) ms ∷ rs) = past_shown (past_refining ms) (items_shown (calls held) n held) ++ refinings_shown (n + items_count held) rs

  -- below the tie of the whole
  abbrev pub refined_shown : Table → ℕ → List Refinement → WovenItems → Shown
  refined_shown table n rs held = items_shown (calls held) n (without_decomposed rs held) ++ refinings_shown (n + items_count (without_decomposed rs held)) (refinings table held rs)

  abbrev pub woven_shown : Table → ℕ → List Refinement → Woven → Shown
  woven_shown table n [] (Basic held) = level_shown n held
  woven_shown table n (r ∷ rs) (Basic (level cover held pairs)) = past_shown past_level (refined_shown table n (r ∷ rs) held)
  woven_shown table n rs (HighLevel drawn) = []

  -- ---- terms

  -- ends_of: the ends of the called gates of a level
  module _ (leaves : Leaves) (ends_of : WovenItems → List GateEnd) where
    abbrev pub events_term : List GateEnd → Around → ℕ → List EventNode → Tree
    events_term es around n [] = Nil
    events_term es around n (k ∷ ks) = join_all par (leaves.event n (happening es around k) ∷ events_term es around (n + 1) ks ∷ [])

    abbrev mutual
      pub expression_term : GateMap → ℕ → Expression → Tree
      expression_term gates n Empty = Nil
      expression_term gates n (Chart name) = charts.term name gates n
      expression_term gates n (Alt parts) = one_of (alternative_terms gates n parts)
      expression_term gates n (Par parts) = each_term par gates n parts
      expression_term gates n (Seq parts) = each_term seq gates n parts
      expression_term gates n (Opt part) = one_of (expression_term gates n part ∷ Nil ∷ [])
      expression_term gates n (expression.Loop lower upper part) = turns_of lower upper (expression_term gates n part)

      pub alternative_terms : GateMap → ℕ → Expressions → List Tree
      alternative_terms gates n none = []
      alternative_terms gates n (more x xs) = expression_term gates n x ∷ alternative_terms gates (n + expression_count x) xs

      pub each_term : Mode → GateMap → ℕ → Expressions → Tree
      each_term m gates n none = Nil
      each_term m gates n (more x xs) = join_all m (expression_term gates n x ∷ each_term m gates (n + expression_count x) xs ∷ [])

    abbrev mutual
      -- the items of a level, tied by what comes before what: pairs of tags as pairs of numbers
      pub level_term : Around → ℕ → Body → Tree
      level_term around n (level cover held pairs) =
          tie_of (items_term (gates_of held (ends_of held)) around n held) (tied_numbers (items_shown (calls held) n held) (ties held pairs (calls held) (ends_of held)))

      pub items_term : Gates → Around → ℕ → WovenItems → Tree
      items_term gates around n no_items = Nil
      items_term gates around n (item_and x xs) = placed (is_exception x) (item_term gates around n x) (items_term gates around (n + item_count x) xs)

      -- an item; of an exception its operand
      pub item_term : Gates → Around → ℕ → WovenItem → Tree
      item_term gates around n (Single e) = leaves.event n (happening gates.ends around e)
      item_term gates around n (Coregion es) = events_term gates.ends around n es
      item_term gates around n (Inline inline.Alt part operands) = one_of (operand_terms (inside gates part.name around) n operands)
      item_term gates around n (Inline inline.Opt part operands) = one_of (one_of (operand_terms (inside gates part.name around) n operands) ∷ Nil ∷ [])
      item_term gates around n (Inline inline.Exc part operands) = one_of (operand_terms (inside gates part.name around) n operands)
      item_term gates around n (Inline inline.Par part operands) = parallel_term (inside gates part.name around) n operands
      item_term gates around n (Inline inline.Loop part operands) = turns_of part.lower part.upper (one_of (operand_terms (inside gates part.name around) n operands))
      item_term gates around n (Refer part) = expression_term (gates_referred gates part.name part.joins around.gates) n part.expression

      -- the operands
      pub operand_terms : Around → ℕ → Bodies → List Tree
      operand_terms around n no_bodies = []
      operand_terms around n (body_and b bs) = level_term around n b ∷ operand_terms around (n + level_count b) bs

      -- the operands, side by side
      pub parallel_term : Around → ℕ → Bodies → Tree
      parallel_term around n no_bodies = Nil
      parallel_term around n (body_and b bs) = join_all par (level_term around n b ∷ parallel_term around (n + level_count b) bs ∷ [])

    -- frames: their walks, side by side
    abbrev pub frames_term : ℕ → Graphs → Tree
    frames_term n no_graphs = Nil
    frames_term n (graph_and drawn rest) = join_all par (leaves.walk n ∷ frames_term (n + graph_count drawn) rest ∷ [])

    abbrev pub node_term : ℕ → Node → Tree
    node_term n Ends = Nil
    node_term n Connect = Nil
    node_term n (Condition names) = Nil
    node_term n (tree.Refer expression) = expression_term no_gates n expression
    node_term n (Frames held) = frames_term n held

    -- of the nodes of a graph, one for each line
    abbrev pub lines_terms : ℕ → Lines → List Tree
    lines_terms n no_lines = []
    lines_terms n (line_and (line label place node next) rest) = node_term n node ∷ lines_terms (n + node_count node) rest

    -- refining charts, side by side: each tied by itself, and then its matched events stand for those of the refined chart
    abbrev pub refinings_term : (EventNode → Far) → ℕ → List Refining → Tree
    refinings_term far_of n [] = Nil
    refinings_term far_of n (refining (level cover held pairs) ms ∷ rs) =
        join_all par (tie_of (items_term (gates_of held (ends_of held)) (refining_under far_of ms) n held)
        (tied_numbers (items_shown (calls held) n held) (ties held pairs (calls held) (ends_of held))) ∷ refinings_term far_of (n + items_count held) rs ∷ [])

    -- a basic chart: its body; or what is left of it beside its refining charts, tied as a whole; a high-level chart: its walk
    abbrev pub woven_term : Table → GateMap → ℕ → List Refinement → Woven → Tree
    woven_term table gates n [] (Basic held) = level_term (under gates) n held
    woven_term table gates n (r ∷ rs) (Basic (level cover held pairs)) =
        tie_of (join_all par (items_term (gates_of held (ends_of held)) (refined_under gates pairs (refinings table held (r ∷ rs))) n (without_decomposed (r ∷ rs) held)
        ∷ refinings_term (far_end (ends_of held) (refined_under gates pairs (refinings table held (r ∷ rs)))) (n + items_count (without_decomposed (r ∷ rs) held)) (refinings table held (r ∷ rs)) ∷ []))
        (tied_numbers (refined_shown table n (r ∷ rs) held) (ties held pairs (calls held) (ends_of held)))
    woven_term table gates n rs (HighLevel drawn) = leaves.walk n

-- ---- charts whose references go so deep

abbrev pub entry_count : Charts → Table → Option ChartEntry → ℕ
entry_count charts table None = 0
entry_count charts table (Some entry) = woven_count charts table (refinements entry.decls) entry.content

abbrev pub entry_shown : Charts → Table → ℕ → Option ChartEntry → Shown
entry_shown charts table n None = []
entry_shown charts table n (Some entry) = woven_shown charts table n (refinements entry.decls) entry.content

module _ (leaves : Leaves) (ends_of : WovenItems → List GateEnd) (table : Table) where
  abbrev pub entry_term : Charts → GateMap → ℕ → Option ChartEntry → Tree
  entry_term charts gates n None = Nil
  entry_term charts gates n (Some entry) = woven_term charts leaves ends_of table gates n (refinements entry.decls) entry.content

  -- what the charts of a table come to whose references stand in each other less than so deep
  abbrev pub charts_to : ℕ → Charts
  charts_to zero = record { count = λ name. 0; shown = λ name n. []; term = λ name gates n. Nil }
  charts_to (suc k) = record {
    count = λ name. entry_count (charts_to k) table (chart_at table name);
    shown = λ name n. entry_shown (charts_to k) table n (chart_at table name);
    term = λ name gates n. entry_term (charts_to k) gates n (chart_at table name);
  }
