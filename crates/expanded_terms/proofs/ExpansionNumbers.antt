-- The numbers of the events of expansions, construct by construct.
use Rattle.std.specs.Prelude.{ℕ, zero, suc, ◌+◌, List, [], ◌∷◌, ◌++◌, Option, None, Some, length}
use Rattle.std.proofs.Common.{◌≡◌, refl, sym, subst, arith, append-nil, length-append}
use Rattle.msc_base.specs.declared.label.Far.{Far}
use Rattle.msc_unfolding.specs.Unfoldings.{Happening}
use Rattle.msc_tree.specs.declared.reference.InlineForm.TheVariants as inline
use Rattle.msc_tree.specs.Expressions.{Expression, Empty, Chart, Alt, Par, Seq, Opt, Expressions, none, more}
use Rattle.msc_tree.specs.Expressions as expression
use Rattle.msc_tree.specs.Graphs as graphs
use Rattle.msc_tree.specs.Graphs.{Graph, graph, Lines, no_lines, line_and, line, Node, Ends, Connect, Condition, Frames, Graphs, no_graphs, graph_and}
use Rattle.msc_meaning.specs.Bodies.{EventNode, Body, level, WovenItems, no_items, item_and, WovenItem, Single, Coregion, Inline, Refer, Bodies, no_bodies, body_and}
use Rattle.msc_meaning.specs.ChartUnfoldings.{gates_of, under, refined_under, refining_under}
use Rattle.msc_meaning.specs.FarEnds.{GateMap, no_gates, Around, Gates, gates_referred, inside, far_end, happening}
use Rattle.msc_meaning.specs.InnerEvents.{GateEnd}
use Rattle.msc_meaning.specs.Refinements.{Refining, refining, refinings, without_decomposed}
use Rattle.msc_meaning.specs.Tables.{Table, ChartEntry, chart_at, Woven, Basic, HighLevel, Refinement, refinements}
use Rattle.hmsc_graph.specs.declared.shape.Shape.{Shape}
use Rattle.graph_shapes.specs.GraphShapes.{shape_of}
use Rattle.expanded_charts.specs.Expanding as tree
use Rattle.expanded_charts.specs.Expanding.{NumberedEvent, Expanded, ExpandedParts, nothing, or_nothing, expand_events, expand, expand_all, expand_level, expand_items, expand_item, expand_operands, expand_refinings, expand_graph, expand_lines, expand_node, expand_frames, expand_woven, expand_entry, expand_charts}
use Rattle.expanded_terms.specs.ExpansionNumbers.{CountFrom, numbers_by, all_numbers_by, number_of, ExpansionsAreNumbered}
use Rattle.expanded_terms.proofs.CountedNumbers.{count_both}

-- they are numbered from n on, up to the next number
pub record IsCounted (n : ℕ) (ns : List ℕ) (next : ℕ) : Type 0 where
  pub counted : CountFrom n ns
  pub next_is : next ≡ n + length ns

none_counted : (n : ℕ) → IsCounted n [] n
none_counted n = record { counted = tt; next_is = omega arith }

-- behind some of them others
counted_then : (n m k : ℕ) (a b : List ℕ) → IsCounted n a m → IsCounted m b k → IsCounted n (a ++ b) k
counted_then n m k a b h i = record {
  counted = count_both n a b h.counted (subst (λ j. CountFrom j b) h.next_is i.counted);
  next_is = omega (arith, h.next_is, i.next_is, length-append a b);
}

abbrev IsPart : ℕ → Expanded → Type 0
IsPart n e = IsCounted n (numbers_by number_of e.part) e.next

abbrev AreParts : ℕ → ExpandedParts → Type 0
AreParts n l = IsCounted n (all_numbers_by number_of l.parts) l.next

-- a part, and behind it those numbered from its end on
then_counted : (n : ℕ) (e : Expanded) (rest : ℕ → ExpandedParts) → IsPart n e → ((m : ℕ) → AreParts m (rest m)) → AreParts n (tree.then e rest)
then_counted n e rest h i = counted_then n e.next (rest e.next).next (numbers_by number_of e.part) (all_numbers_by number_of (rest e.next).parts) h (i e.next)

option_counted : (n : ℕ) (e : Expanded) → IsPart n e → IsPart n (or_nothing e)
option_counted n e h = subst (λ (l : List ℕ). IsCounted n l e.next) (sym (append-nil (numbers_by number_of e.part))) h

-- a walk has the first number
walk_counted : (n : ℕ) (g : Shape) (l : ExpandedParts) → AreParts (suc n) l → IsPart n (tree.walk n g l)
walk_counted n g l h = record { counted = (refl, h.counted); next_is = omega (arith, h.next_is) }

module _ (ends_of : WovenItems → List GateEnd) (chart : tree.Charts) (known : (name : List ℕ) (gates : GateMap) (n : ℕ) → IsPart n (chart name gates n)) where
  event_counted : (n : ℕ) (h : Happening) → IsPart n (tree.event n h)
  event_counted n h = record { counted = (refl, tt); next_is = omega arith }

  events_counted : (es : List GateEnd) (a : Around) (n : ℕ) (ks : List EventNode) → AreParts n (expand_events chart ends_of es a n ks)
  events_counted es a n [] = none_counted n
  events_counted es a n (k ∷ ks) = then_counted n (tree.event n (happening es a k)) (λ m. expand_events chart ends_of es a m ks) (event_counted n (happening es a k)) (λ m. events_counted es a m ks)

  mutual
    expression_counted : (gates : GateMap) (n : ℕ) (e : Expression) → IsPart n (expand chart ends_of gates n e)
    expression_counted gates n Empty = none_counted n
    expression_counted gates n (Chart name) = known name gates n
    expression_counted gates n (Alt parts) = parts_counted gates n parts
    expression_counted gates n (Par parts) = parts_counted gates n parts
    expression_counted gates n (Seq parts) = parts_counted gates n parts
    expression_counted gates n (Opt part) = option_counted n (expand chart ends_of gates n part) (expression_counted gates n part)
    expression_counted gates n (expression.Loop lower upper part) = expression_counted gates n part

    parts_counted : (gates : GateMap) (n : ℕ) (xs : Expressions) → AreParts n (expand_all chart ends_of gates n xs)
    parts_counted gates n none = none_counted n
    parts_counted gates n (more x xs) = then_counted n (expand chart ends_of gates n x) (λ m. expand_all chart ends_of gates m xs) (expression_counted gates n x) (λ m. parts_counted gates m xs)

  mutual
    level_counted : (a : Around) (n : ℕ) (b : Body) → IsPart n (expand_level chart ends_of a n b)
    level_counted a n (level cover held pairs) = items_counted (gates_of held (ends_of held)) a n held

    items_counted : (g : Gates) (a : Around) (n : ℕ) (xs : WovenItems) → AreParts n (expand_items chart ends_of g a n xs)
    items_counted g a n no_items = none_counted n
    items_counted g a n (item_and x xs) = then_counted n (expand_item chart ends_of g a n x) (λ m. expand_items chart ends_of g a m xs) (item_counted g a n x) (λ m. items_counted g a m xs)

    item_counted : (g : Gates) (a : Around) (n : ℕ) (x : WovenItem) → IsPart n (expand_item chart ends_of g a n x)
    item_counted g a n (Single k) = event_counted n (happening g.ends a k)
    item_counted g a n (Coregion ks) = events_counted g.ends a n ks
    item_counted g a n (Refer part) = expression_counted (gates_referred g part.name part.joins a.gates) n part.expression
    item_counted g a n (Inline inline.Alt part bs) = operands_counted (inside g part.name a) n bs
    item_counted g a n (Inline inline.Opt part bs) = option_counted n (tree.one_of (expand_operands chart ends_of (inside g part.name a) n bs)) (operands_counted (inside g part.name a) n bs)
    item_counted g a n (Inline inline.Exc part bs) = operands_counted (inside g part.name a) n bs
    item_counted g a n (Inline inline.Par part bs) = operands_counted (inside g part.name a) n bs
    item_counted g a n (Inline inline.Loop part bs) = operands_counted (inside g part.name a) n bs

    operands_counted : (a : Around) (n : ℕ) (bs : Bodies) → AreParts n (expand_operands chart ends_of a n bs)
    operands_counted a n no_bodies = none_counted n
    operands_counted a n (body_and b bs) = then_counted n (expand_level chart ends_of a n b) (λ m. expand_operands chart ends_of a m bs) (level_counted a n b) (λ m. operands_counted a m bs)

  refinings_counted : (far_of : EventNode → Far) (n : ℕ) (rs : List Refining) → AreParts n (expand_refinings chart ends_of far_of n rs)
  refinings_counted far_of n [] = none_counted n
  refinings_counted far_of n (refining (level cover held pairs) ms ∷ rs) =
      counted_then n (expand_items chart ends_of (gates_of held (ends_of held)) (refining_under far_of ms) n held).next (expand_refinings chart ends_of far_of (expand_items chart ends_of (gates_of held (ends_of held)) (refining_under far_of ms) n held).next rs).next
      (all_numbers_by number_of (expand_items chart ends_of (gates_of held (ends_of held)) (refining_under far_of ms) n held).parts)
      (all_numbers_by number_of (expand_refinings chart ends_of far_of (expand_items chart ends_of (gates_of held (ends_of held)) (refining_under far_of ms) n held).next rs).parts)
      (items_counted (gates_of held (ends_of held)) (refining_under far_of ms) n held) (refinings_counted far_of (expand_items chart ends_of (gates_of held (ends_of held)) (refining_under far_of ms) n held).next rs)

  mutual
    graph_counted : (n : ℕ) (drawn : Graph) → IsPart n (expand_graph chart ends_of n drawn)
    graph_counted n (graph starts lines) = walk_counted n (shape_of (graph starts lines)) (expand_lines chart ends_of (suc n) lines) (lines_counted (suc n) lines)

    lines_counted : (n : ℕ) (lines : Lines) → AreParts n (expand_lines chart ends_of n lines)
    lines_counted n no_lines = none_counted n
    lines_counted n (line_and (line label place node next) rest) = then_counted n (expand_node chart ends_of n node) (λ m. expand_lines chart ends_of m rest) (node_counted n node) (λ m. lines_counted m rest)

    node_counted : (n : ℕ) (node : Node) → IsPart n (expand_node chart ends_of n node)
    node_counted n Ends = none_counted n
    node_counted n Connect = none_counted n
    node_counted n (Condition names) = none_counted n
    node_counted n (graphs.Refer e) = expression_counted no_gates n e
    node_counted n (Frames held) = frames_counted n held

    frames_counted : (n : ℕ) (held : Graphs) → AreParts n (expand_frames chart ends_of n held)
    frames_counted n no_graphs = none_counted n
    frames_counted n (graph_and drawn rest) = then_counted n (expand_graph chart ends_of n drawn) (λ m. expand_frames chart ends_of m rest) (graph_counted n drawn) (λ m. frames_counted m rest)

  woven_counted : (table : Table) (gates : GateMap) (n : ℕ) (rs : List Refinement) (content : Woven) → IsPart n (expand_woven chart ends_of table gates n rs content)
  woven_counted table gates n [] (Basic held) = level_counted (under gates) n held
  woven_counted table gates n (r ∷ rs) (Basic (level cover held pairs)) =
      counted_then n (expand_items chart ends_of (gates_of held (ends_of held)) around n left).next (expand_refinings chart ends_of (far_end (ends_of held) around) (expand_items chart ends_of (gates_of held (ends_of held)) around n left).next fs).next
      (all_numbers_by number_of (expand_items chart ends_of (gates_of held (ends_of held)) around n left).parts)
      (all_numbers_by number_of (expand_refinings chart ends_of (far_end (ends_of held) around) (expand_items chart ends_of (gates_of held (ends_of held)) around n left).next fs).parts)
      (items_counted (gates_of held (ends_of held)) around n left) (refinings_counted (far_end (ends_of held) around) (expand_items chart ends_of (gates_of held (ends_of held)) around n left).next fs)
    where
      fs : List Refining
      fs = refinings table held (r ∷ rs)

      left : WovenItems
      left = without_decomposed (r ∷ rs) held

      around : Around
      around = refined_under gates pairs fs
  woven_counted table gates n [] (HighLevel drawn) = graph_counted n drawn
  woven_counted table gates n (r ∷ rs) (HighLevel drawn) = graph_counted n drawn

  entry_counted : (table : Table) (gates : GateMap) (n : ℕ) (o : Option ChartEntry) → IsPart n (expand_entry ends_of table chart gates n o)
  entry_counted table gates n None = none_counted n
  entry_counted table gates n (Some entry) = woven_counted table gates n (refinements entry.decls) entry.content

charts_counted : (ends_of : WovenItems → List GateEnd) (table : Table) (depth : ℕ) (name : List ℕ) (gates : GateMap) (n : ℕ) → IsPart n (expand_charts ends_of table depth name gates n)
charts_counted ends_of table zero name gates n = none_counted n
charts_counted ends_of table (suc depth) name gates n = entry_counted ends_of (expand_charts ends_of table depth) (charts_counted ends_of table depth) table gates n (chart_at table name)

pub expansions_are_numbered : ExpansionsAreNumbered
expansions_are_numbered = record {
  counted = λ ends_of table depth name gates n. (charts_counted ends_of table depth name gates n).counted;
  next = λ ends_of table depth name gates n. (charts_counted ends_of table depth name gates n).next_is;
}
