-- What the walks of an expansion hold is what those of the chart's text hold.
use Rattle.std.specs.Prelude.{ℕ, zero, suc, ◌+◌, false, List, [], ◌∷◌, Option, None, Some}
use Rattle.std.proofs.Common.{◌≡◌, refl, ap, arith}
use Rattle.sound_terms.specs.TableLaws.{weight_all}
use Rattle.msc_base.specs.declared.label.Far.{Far}
use Rattle.msc_tree.specs.declared.reference.InlineForm.TheVariants as inline
use Rattle.msc_tree.specs.Expressions.{Expression, Empty, Chart, Alt, Par, Seq, Opt, Expressions, none, more}
use Rattle.msc_tree.specs.Expressions as expression
use Rattle.msc_tree.specs.Graphs as graphs
use Rattle.msc_tree.specs.Graphs.{Graph, graph, Lines, no_lines, line_and, line, Node, Ends, Connect, Condition, Frames, Graphs, no_graphs, graph_and}
use Rattle.msc_meaning.specs.Bodies.{EventNode, Body, level, WovenItems, no_items, item_and, WovenItem, Single, Coregion, Inline, Refer, Bodies, no_bodies, body_and}
use Rattle.msc_meaning.specs.Calls.{calls}
use Rattle.msc_meaning.specs.ChartUnfoldings.{gates_of, under, refined_under, refining_under}
use Rattle.msc_meaning.specs.FarEnds.{GateMap, no_gates, Around, Gates, gates_referred, inside, far_end}
use Rattle.msc_meaning.specs.InnerEvents.{GateEnd}
use Rattle.msc_meaning.specs.Refinements.{Refining, refining, refinings, without_decomposed, past_refining}
use Rattle.msc_meaning.specs.Tables.{Table, ChartEntry, chart_at, Woven, Basic, HighLevel, Refinement, refinements}
use Rattle.msc_meaning.specs.Ties.{ties}
use Rattle.expansion_tree.specs.Expansions.{Expansion, Expansions}
use Rattle.expanded_charts.specs.Expanding.{NumberedEvent, Expanded, ExpandedParts, event, in_row, past, tied, expand_events, expand, expand_all, expand_level, expand_items, expand_item, expand_operands, expand_refinings, expand_graph, expand_lines, expand_node, expand_frames, expand_woven, expand_entry, expand_charts}
use Rattle.expanded_charts.specs.Expanding as expanding
use Rattle.expanded_terms.specs.ExpandedTerms.{Charts, Leaves, charts_to, graph_count, node_count, expression_count, level_count, items_count, item_count}
use Rattle.expanded_terms.specs.ExpansionLaws.{ExpansionsHold, event_by}
use Rattle.expanded_terms.specs.NetWeights.{held_in, all_held_in, expression_held, expressions_held, level_held, items_held, item_held, operands_held, graph_held, lines_held, node_held, frames_held, refinings_held, woven_held, entry_held, held_to}
use Rattle.expanded_terms.proofs.ExpansionTerms.{IsOf, charts_are, expression_of, graph_of, item_of, items_of, level_of, lines_of, node_of}

module _ (leaves : Leaves) where
  abbrev part_held : Expansion NumberedEvent → ℕ
  part_held = held_in (event_by leaves) leaves.walk

  abbrev parts_held : Expansions NumberedEvent → ℕ
  parts_held = all_held_in (event_by leaves) leaves.walk

  -- a part, and behind it others
  then_held : (e : Expanded) (rest : ℕ → ExpandedParts) (m a b : ℕ) → e.next ≡ m → part_held e.part ≡ a → parts_held (rest m).parts ≡ b → parts_held (expanding.then e rest).parts ≡ a + b
  then_held e rest m a b next h g = let same = ap (λ (k : ℕ). parts_held (rest k).parts) next in omega (arith, h, g, same)

  module _ (ends_of : WovenItems → List GateEnd) (chart : expanding.Charts) (charts : Charts) (known : (name : List ℕ) (gates : GateMap) (n : ℕ) → IsOf leaves (chart name gates n) (charts.term name gates n) (charts.shown name n) (n + charts.count name) false)
      (held : List ℕ → GateMap → ℕ → ℕ) (holds : (name : List ℕ) (gates : GateMap) (n : ℕ) → part_held (chart name gates n).part ≡ held name gates n) where
    events_hold : (es : List GateEnd) (a : Around) (n : ℕ) (ks : List EventNode) → parts_held (expand_events chart ends_of es a n ks).parts ≡ 0
    events_hold es a n [] = refl
    events_hold es a n (k ∷ ks) = omega (arith, events_hold es a (suc n) ks)

    mutual
      expression_holds : (gates : GateMap) (n : ℕ) (e : Expression) → part_held (expand chart ends_of gates n e).part ≡ expression_held charts leaves ends_of held gates n e
      expression_holds gates n Empty = refl
      expression_holds gates n (Chart name) = holds name gates n
      expression_holds gates n (Alt parts) = expressions_hold gates n parts
      expression_holds gates n (Par parts) = expressions_hold gates n parts
      expression_holds gates n (Seq parts) = expressions_hold gates n parts
      expression_holds gates n (Opt part) = omega (arith, expression_holds gates n part)
      expression_holds gates n (expression.Loop lower upper part) = expression_holds gates n part

      expressions_hold : (gates : GateMap) (n : ℕ) (xs : Expressions) → parts_held (expand_all chart ends_of gates n xs).parts ≡ expressions_held charts leaves ends_of held gates n xs
      expressions_hold gates n none = refl
      expressions_hold gates n (more x xs) =
          then_held (expand chart ends_of gates n x) (λ m. expand_all chart ends_of gates m xs) (n + expression_count charts x) (expression_held charts leaves ends_of held gates n x) (expressions_held charts leaves ends_of held gates (n + expression_count charts x) xs)
          (expression_of leaves ends_of chart charts known gates n x).next_is (expression_holds gates n x) (expressions_hold gates (n + expression_count charts x) xs)

    mutual
      level_holds : (a : Around) (n : ℕ) (b : Body) → part_held (expand_level chart ends_of a n b).part ≡ level_held charts leaves ends_of held a n b
      level_holds a n (level cover items pairs) = items_hold (gates_of items (ends_of items)) a n items

      items_hold : (g : Gates) (a : Around) (n : ℕ) (xs : WovenItems) → parts_held (expand_items chart ends_of g a n xs).parts ≡ items_held charts leaves ends_of held g a n xs
      items_hold g a n no_items = refl
      items_hold g a n (item_and x xs) =
          then_held (expand_item chart ends_of g a n x) (λ m. expand_items chart ends_of g a m xs) (n + item_count charts x) (item_held charts leaves ends_of held g a n x) (items_held charts leaves ends_of held g a (n + item_count charts x) xs)
          (item_of leaves ends_of chart charts known g a n x).next_is (item_holds g a n x) (items_hold g a (n + item_count charts x) xs)

      item_holds : (g : Gates) (a : Around) (n : ℕ) (x : WovenItem) → part_held (expand_item chart ends_of g a n x).part ≡ item_held charts leaves ends_of held g a n x
      item_holds g a n (Single k) = refl
      item_holds g a n (Coregion ks) = events_hold g.ends a n ks
      item_holds g a n (Inline inline.Alt part bs) = operands_hold (inside g part.name a) n bs
      item_holds g a n (Inline inline.Opt part bs) = omega (arith, operands_hold (inside g part.name a) n bs)
      item_holds g a n (Inline inline.Par part bs) = operands_hold (inside g part.name a) n bs
      item_holds g a n (Inline inline.Exc part bs) = operands_hold (inside g part.name a) n bs
      item_holds g a n (Inline inline.Loop part bs) = operands_hold (inside g part.name a) n bs
      item_holds g a n (Refer part) = expression_holds (gates_referred g part.name part.joins a.gates) n part.expression

      operands_hold : (a : Around) (n : ℕ) (bs : Bodies) → parts_held (expand_operands chart ends_of a n bs).parts ≡ operands_held charts leaves ends_of held a n bs
      operands_hold a n no_bodies = refl
      operands_hold a n (body_and b bs) =
          then_held (expand_level chart ends_of a n b) (λ m. expand_operands chart ends_of a m bs) (n + level_count charts b) (level_held charts leaves ends_of held a n b) (operands_held charts leaves ends_of held a (n + level_count charts b) bs)
          (level_of leaves ends_of chart charts known a n b).next_is (level_holds a n b) (operands_hold a (n + level_count charts b) bs)

    mutual
      graph_holds : (n : ℕ) (drawn : Graph) → part_held (expand_graph chart ends_of n drawn).part ≡ graph_held charts leaves ends_of held n drawn
      graph_holds n (graph starts lines) = let nodes = ap weight_all (lines_of leaves ends_of chart charts known (suc n) lines).is in omega (arith, nodes, lines_hold (suc n) lines)

      lines_hold : (n : ℕ) (lines : Lines) → parts_held (expand_lines chart ends_of n lines).parts ≡ lines_held charts leaves ends_of held n lines
      lines_hold n no_lines = refl
      lines_hold n (line_and (line label place node next) rest) =
          then_held (expand_node chart ends_of n node) (λ m. expand_lines chart ends_of m rest) (n + node_count charts node) (node_held charts leaves ends_of held n node) (lines_held charts leaves ends_of held (n + node_count charts node) rest)
          (node_of leaves ends_of chart charts known n node).next_is (node_holds n node) (lines_hold (n + node_count charts node) rest)

      node_holds : (n : ℕ) (node : Node) → part_held (expand_node chart ends_of n node).part ≡ node_held charts leaves ends_of held n node
      node_holds n Ends = refl
      node_holds n Connect = refl
      node_holds n (Condition names) = refl
      node_holds n (graphs.Refer e) = expression_holds no_gates n e
      node_holds n (Frames drawn) = frames_hold n drawn

      frames_hold : (n : ℕ) (drawn : Graphs) → parts_held (expand_frames chart ends_of n drawn).parts ≡ frames_held charts leaves ends_of held n drawn
      frames_hold n no_graphs = refl
      frames_hold n (graph_and drawn rest) =
          then_held (expand_graph chart ends_of n drawn) (λ m. expand_frames chart ends_of m rest) (n + graph_count charts drawn) (graph_held charts leaves ends_of held n drawn) (frames_held charts leaves ends_of held (n + graph_count charts drawn) rest)
          (graph_of leaves ends_of chart charts known n drawn).next_is (graph_holds n drawn) (frames_hold (n + graph_count charts drawn) rest)

    refinings_hold : (far_of : EventNode → Far) (n : ℕ) (rs : List Refining) → parts_held (expand_refinings chart ends_of far_of n rs).parts ≡ refinings_held charts leaves ends_of held far_of n rs
    refinings_hold far_of n [] = refl
    refinings_hold far_of n (refining (level cover items pairs) ms ∷ rs) =
        let g = gates_of items (ends_of items) in
        let around = refining_under far_of ms in
        then_held (past (past_refining ms) (tied (ties items pairs (calls items) (ends_of items)) (in_row (expand_items chart ends_of g around n items)))) (λ m. expand_refinings chart ends_of far_of m rs) (n + items_count charts items)
        (items_held charts leaves ends_of held g around n items) (refinings_held charts leaves ends_of held far_of (n + items_count charts items) rs)
        (items_of leaves ends_of chart charts known g around n items).next_is (items_hold g around n items) (refinings_hold far_of (n + items_count charts items) rs)

    woven_holds : (table : Table) (gates : GateMap) (n : ℕ) (rs : List Refinement) (content : Woven) → part_held (expand_woven chart ends_of table gates n rs content).part ≡ woven_held charts leaves ends_of held table gates n rs content
    woven_holds table gates n [] (Basic body) = level_holds (under gates) n body
    woven_holds table gates n (r ∷ rs) (Basic (level cover items pairs)) =
        let fs = refinings table items (r ∷ rs) in
        let around = refined_under gates pairs fs in
        let far_of = far_end (ends_of items) around in
        let left = without_decomposed (r ∷ rs) items in
        let g = gates_of items (ends_of items) in
        then_held (in_row (expand_items chart ends_of g around n left)) (λ m. expand_refinings chart ends_of far_of m fs) (n + items_count charts left)
        (items_held charts leaves ends_of held g around n left) (refinings_held charts leaves ends_of held far_of (n + items_count charts left) fs)
        (items_of leaves ends_of chart charts known g around n left).next_is (items_hold g around n left) (refinings_hold far_of (n + items_count charts left) fs)
    woven_holds table gates n [] (HighLevel drawn) = graph_holds n drawn
    woven_holds table gates n (r ∷ rs) (HighLevel drawn) = graph_holds n drawn

    entry_holds : (table : Table) (gates : GateMap) (n : ℕ) (o : Option ChartEntry) → part_held (expand_entry ends_of table chart gates n o).part ≡ entry_held charts leaves ends_of held table gates n o
    entry_holds table gates n None = refl
    entry_holds table gates n (Some entry) = woven_holds table gates n (refinements entry.decls) entry.content

  pub charts_hold : (ends_of : WovenItems → List GateEnd) (table : Table) (depth : ℕ) (name : List ℕ) (gates : GateMap) (n : ℕ) → part_held (expand_charts ends_of table depth name gates n).part ≡ held_to leaves ends_of table depth name gates n
  charts_hold ends_of table zero name gates n = refl
  charts_hold ends_of table (suc depth) name gates n =
      entry_holds ends_of (expand_charts ends_of table depth) (charts_to leaves ends_of table depth) (charts_are leaves ends_of table depth) (held_to leaves ends_of table depth) (charts_hold ends_of table depth) table gates n (chart_at table name)

pub expansions_hold : ExpansionsHold
expansions_hold = record { held = charts_hold }
