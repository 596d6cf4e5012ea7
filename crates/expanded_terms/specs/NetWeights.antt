-- What the walks of a chart hold besides its term: the weights of the terms of all nodes that they may pass, at any depth.
use Rattle.std.specs.Prelude.{ℕ, zero, suc, ◌+◌, List, [], ◌∷◌, Option, None, Some}
use Rattle.msc_base.specs.declared.label.Far.{Far}
use Rattle.chart_term.specs.Terms.{Tree}
use Rattle.chart_term.specs.Tables.{Tables}
use Rattle.sound_terms.specs.TableLaws.{weight_all}
use Rattle.expansion_tree.specs.Expansions.{Expansion, Event, InRow, Aside, OneOf, Exception, Turns, Tied, Walk, Expansions, no_parts, part_and}
use Rattle.expansion_terms.specs.ExpansionTerms.{part_terms}
use Rattle.msc_tree.specs.Expressions.{Expression, Empty, Chart, Alt, Par, Seq, Opt, Expressions, none, more}
use Rattle.msc_tree.specs.Expressions as expression
use Rattle.msc_tree.specs.Graphs as tree
use Rattle.msc_tree.specs.Graphs.{Graph, graph, Lines, no_lines, line_and, line, Node, Ends, Connect, Condition, Frames, Graphs, no_graphs, graph_and}
use Rattle.msc_meaning.specs.Bodies.{EventNode, Body, level, WovenItems, no_items, item_and, WovenItem, Single, Coregion, Inline, Refer, Bodies, no_bodies, body_and}
use Rattle.msc_meaning.specs.ChartUnfoldings.{gates_of, under, refined_under, refining_under}
use Rattle.msc_meaning.specs.FarEnds.{GateMap, no_gates, Around, Gates, gates_referred, inside, far_end}
use Rattle.msc_meaning.specs.InnerEvents.{GateEnd}
use Rattle.msc_meaning.specs.Refinements.{Refining, refining, refinings, without_decomposed}
use Rattle.msc_meaning.specs.Tables.{Table, ChartEntry, chart_at, Woven, Basic, HighLevel, Refinement, refinements}
use Rattle.expanded_terms.specs.ExpandedTerms.{Leaves, Charts, charts_to, expression_count, graph_count, node_count, level_count, items_count, item_count, lines_terms}

-- the weights of the terms of all nodes of nets
abbrev pub nets_weight : Tables → ℕ
nets_weight [] = 0
nets_weight (e ∷ es) = weight_all e.nodes + nets_weight es

-- ---- of an expansion, by the terms of its events and walks

module _ {E : Type 0} (of_event : E → Tree) (of_walk : ℕ → Tree) where
  abbrev mutual
    pub held_in : Expansion E → ℕ
    held_in (Event e) = 0
    held_in (InRow xs) = all_held_in xs
    held_in (Aside xs) = all_held_in xs
    held_in (OneOf xs) = all_held_in xs
    held_in (Exception x) = held_in x
    held_in (Turns n lower upper x) = held_in x
    held_in (Tied x ps) = held_in x
    held_in (Walk n g xs) = weight_all (part_terms of_event of_walk xs) + all_held_in xs

    pub all_held_in : Expansions E → ℕ
    all_held_in no_parts = 0
    all_held_in (part_and x xs) = held_in x + all_held_in xs

-- ---- of a text; held: of the chart of a name, its gates leading there, numbered from n on

module _ (charts : Charts) (leaves : Leaves) (ends_of : WovenItems → List GateEnd) (held : List ℕ → GateMap → ℕ → ℕ) where
  abbrev mutual
    pub expression_held : GateMap → ℕ → Expression → ℕ
    expression_held gates n Empty = 0
    expression_held gates n (Chart name) = held name gates n
    expression_held gates n (Alt parts) = expressions_held gates n parts
    expression_held gates n (Par parts) = expressions_held gates n parts
    expression_held gates n (Seq parts) = expressions_held gates n parts
    expression_held gates n (Opt part) = expression_held gates n part
    expression_held gates n (expression.Loop lower upper part) = expression_held gates n part

    pub expressions_held : GateMap → ℕ → Expressions → ℕ
    expressions_held gates n none = 0
    expressions_held gates n (more x xs) = expression_held gates n x + expressions_held gates (n + expression_count charts x) xs

  abbrev mutual
    pub level_held : Around → ℕ → Body → ℕ
    level_held around n (level cover items pairs) = items_held (gates_of items (ends_of items)) around n items

    pub items_held : Gates → Around → ℕ → WovenItems → ℕ
    items_held gates around n no_items = 0
    items_held gates around n (item_and x xs) = item_held gates around n x + items_held gates around (n + item_count charts x) xs

    pub item_held : Gates → Around → ℕ → WovenItem → ℕ
    item_held gates around n (Single e) = 0
    item_held gates around n (Coregion es) = 0
    item_held gates around n (Inline form part operands) = operands_held (inside gates part.name around) n operands
    item_held gates around n (Refer part) = expression_held (gates_referred gates part.name part.joins around.gates) n part.expression

    pub operands_held : Around → ℕ → Bodies → ℕ
    operands_held around n no_bodies = 0
    operands_held around n (body_and b bs) = level_held around n b + operands_held around (n + level_count charts b) bs

  abbrev mutual
    pub graph_held : ℕ → Graph → ℕ
    graph_held n (graph starts lines) = weight_all (lines_terms charts leaves ends_of (suc n) lines) + lines_held (suc n) lines

    pub lines_held : ℕ → Lines → ℕ
    lines_held n no_lines = 0
    lines_held n (line_and (line label place node next) rest) = node_held n node + lines_held (n + node_count charts node) rest

    pub node_held : ℕ → Node → ℕ
    node_held n Ends = 0
    node_held n Connect = 0
    node_held n (Condition names) = 0
    node_held n (tree.Refer e) = expression_held no_gates n e
    node_held n (Frames graphs) = frames_held n graphs

    pub frames_held : ℕ → Graphs → ℕ
    frames_held n no_graphs = 0
    frames_held n (graph_and drawn rest) = graph_held n drawn + frames_held (n + graph_count charts drawn) rest

  abbrev pub refinings_held : (EventNode → Far) → ℕ → List Refining → ℕ
  refinings_held far_of n [] = 0
  refinings_held far_of n (refining (level cover items pairs) ms ∷ rs) =
      items_held (gates_of items (ends_of items)) (refining_under far_of ms) n items + refinings_held far_of (n + items_count charts items) rs

  abbrev pub woven_held : Table → GateMap → ℕ → List Refinement → Woven → ℕ
  woven_held table gates n [] (Basic body) = level_held (under gates) n body
  woven_held table gates n (r ∷ rs) (Basic (level cover items pairs)) =
      items_held (gates_of items (ends_of items)) (refined_under gates pairs (refinings table items (r ∷ rs))) n (without_decomposed (r ∷ rs) items)
      + refinings_held (far_end (ends_of items) (refined_under gates pairs (refinings table items (r ∷ rs)))) (n + items_count charts (without_decomposed (r ∷ rs) items)) (refinings table items (r ∷ rs))
  woven_held table gates n rs (HighLevel drawn) = graph_held n drawn

  abbrev pub entry_held : Table → GateMap → ℕ → Option ChartEntry → ℕ
  entry_held table gates n None = 0
  entry_held table gates n (Some entry) = woven_held table gates n (refinements entry.decls) entry.content

-- of the chart of that name
module _ (leaves : Leaves) (ends_of : WovenItems → List GateEnd) (table : Table) where
  abbrev pub held_to : ℕ → List ℕ → GateMap → ℕ → ℕ
  held_to zero name gates n = 0
  held_to (suc k) name gates n = entry_held (charts_to leaves ends_of table k) leaves ends_of (held_to k) table gates n (chart_at table name)
