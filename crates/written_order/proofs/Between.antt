-- The numbers of the events of an expansion are those from its first one on and below the next, however its charts are written.
use Rattle.std.proofs.Common.{◌<◌, ◌≤◌, inl, inr, ℕ, zero, suc, Bool, true, false, List, [], ◌∷◌, ◌++◌, Option, Some, None, sym, subst, arith, append-nil}
use Rattle.std.specs.Prelude.{nat_lt, option_map}
use Rattle.msc_base.specs.declared.label.Far.{Far}
use Rattle.msc_base.specs.Orders.{Among, first, later}
use Rattle.msc_unfolding.specs.Unfoldings.{Happening}
use Rattle.hmsc_graph.specs.declared.shape.Shape.{Shape}
use Rattle.graph_shapes.specs.GraphShapes.{shape_of}
use Rattle.msc_tree.specs.declared.reference.InlineForm.{InlineForm}
use Rattle.msc_tree.specs.declared.reference.InlineForm.TheVariants as inline
use Rattle.msc_tree.specs.Expressions.{Expression, Empty, Chart, Alt, Par, Seq, Opt, Loop, Expressions, none, more}
use Rattle.msc_tree.specs.Graphs as tree
use Rattle.msc_tree.specs.Graphs.{Graph, graph, Lines, no_lines, line_and, line, Node, Ends, Connect, Condition, Frames, Graphs, no_graphs, graph_and}
use Rattle.msc_meaning.specs.Bodies.{EventNode, InlinePart, Body, level, WovenItems, no_items, item_and, WovenItem, Single, Coregion, Inline, Refer, Bodies, no_bodies, body_and}
use Rattle.msc_meaning.specs.ChartUnfoldings.{gates_of, refined_under, refining_under, under}
use Rattle.msc_meaning.specs.FarEnds.{GateMap, no_gates, Around, Gates, far_end, gates_referred, happening, inside}
use Rattle.msc_meaning.specs.InnerEvents.{GateEnd}
use Rattle.msc_meaning.specs.Refinements.{Refining, refining, refinings, without_decomposed}
use Rattle.msc_meaning.specs.Tables.{Table, ChartEntry, Woven, Basic, HighLevel, Refinement, chart_at, refinements}
use Rattle.expansion_tree.specs.Expansions.{Expansion, Expansions, map_all_events, map_events}
use Rattle.expansion_tree.specs.Numbered as numbered
use Rattle.expansion_order.specs.Stops.{all_stops, event_stops, stops}
use Rattle.expansion_order.specs.declared.stops.Stop.{Stop}
use Rattle.expansion_order.proofs.Drawn.{among_either}
use Rattle.expanded_charts.specs.Expanding.{Expanded, ExpandedParts, NumberedEvent, Charts, expand, expand_all, expand_charts, expand_entry, expand_events, expand_frames, expand_graph, expand_item, expand_items, expand_level, expand_lines, expand_node, expand_operands, expand_refinings, expand_woven, aside, event, in_row, inline_by, nothing, one_of, or_nothing, put, turns, walk}
use Rattle.expanded_charts.specs.Numbering.{at_instances, at_two, event_by, instance_number, number_of_label}
use Rattle.expanded_charts.specs.declared.numbering.Numbering.{Numbering}

-- ---- numbers of an interval

abbrev pub AreFrom : ℕ → ℕ → List Stop → Type 0
AreFrom lo hi ss = (s : Stop) → Among s ss → (lo ≤ s.number) × (s.number < hi)

pub from_both : (lo mid hi : ℕ) (ss ts : List Stop) → lo ≤ mid → mid ≤ hi → AreFrom lo mid ss → AreFrom mid hi ts → AreFrom lo hi (ss ++ ts)
from_both lo mid hi ss ts a b f g s h = elim (among_either s ss ts h) [
  | inl l ↦ let x = f s l in (x.0, omega (arith, x, b))
  | inr r ↦ let x = g s r in (omega (arith, x, a), x.1)
]

pub numbered_at : (n label i : ℕ) (o : Option ℕ) (hi : ℕ) → n < hi → AreFrom n hi (event_stops (at_instances n label i o))
numbered_at n label i None hi low = only
  where
    only : AreFrom n hi (record { column = i; number = n } ∷ [])
    only _ first = (omega arith, low)
    only t (later l) = elim l [ ]
numbered_at n label i (Some j) hi low = by (nat_lt j i)
  where
    two : (a b : ℕ) → AreFrom n hi (record { column = a; number = n } ∷ record { column = b; number = n } ∷ [])
    two a b _ first = (omega arith, low)
    two a b _ (later first) = (omega arith, low)
    two a b t (later (later l)) = elim l [ ]

    by : (b : Bool) → AreFrom n hi (event_stops (at_two b n label i j))
    by true = two j i
    by false = two i j

-- ---- parts

module _ (s : Numbering) where
  abbrev pub view : Expansion NumberedEvent → numbered.Expansion
  view x = map_events (event_by s) x

  abbrev pub views : Expansions NumberedEvent → numbered.Expansions
  views xs = map_all_events (event_by s) xs

  pub event_within : (n : ℕ) (h : Happening) → AreFrom n (suc n) (stops (view (event n h).part))
  event_within n h = numbered_at n (number_of_label s h.label) (instance_number s h.label.at) (option_map (instance_number s) h.also) (suc n) (omega arith)

  pub record Stays (n : ℕ) (e : Expanded) : Type 0 where
    pub order : n ≤ e.next
    pub within : AreFrom n e.next (stops (view e.part))

  pub record AllStay (n : ℕ) (ps : ExpandedParts) : Type 0 where
    pub order : n ≤ ps.next
    pub within : AreFrom n ps.next (all_stops (views ps.parts))

  none_stay : (n : ℕ) → AllStay n (nothing n)
  none_stay n = record { order = omega arith; within = λ t h. elim h [ ] }

  both_stay : (n : ℕ) (e : Expanded) (ps : ExpandedParts) → Stays n e → AllStay e.next ps → AllStay n (put e ps)
  both_stay n e ps f g = record { order = let a = f.order in let b = g.order in omega (arith, a, b); within = from_both n e.next ps.next (stops (view e.part)) (all_stops (views ps.parts)) f.order g.order f.within g.within }

  event_stays : (n : ℕ) (h : Happening) → Stays n (event n h)
  event_stays n h = record { order = omega arith; within = event_within n h }

  row_stays : (n : ℕ) (ps : ExpandedParts) → AllStay n ps → Stays n (in_row ps)
  row_stays n ps f = record { order = f.order; within = f.within }

  aside_stays : (n : ℕ) (ps : ExpandedParts) → AllStay n ps → Stays n (aside ps)
  aside_stays n ps f = record { order = f.order; within = f.within }

  choice_stays : (n : ℕ) (ps : ExpandedParts) → AllStay n ps → Stays n (one_of ps)
  choice_stays n ps f = record { order = f.order; within = f.within }

  option_stays : (n : ℕ) (e : Expanded) → Stays n e → Stays n (or_nothing e)
  option_stays n e f = record { order = f.order; within = subst (AreFrom n e.next) (sym (append-nil (stops (view e.part)))) f.within }

  turns_stay : (n own lower : ℕ) (upper : Option ℕ) (e : Expanded) → Stays n e → Stays n (turns own lower upper e)
  turns_stay n own lower upper e f = record { order = f.order; within = f.within }

  -- the walk's own number is lower than those of its nodes
  pub walk_stays : (n : ℕ) (shape : Shape) (ps : ExpandedParts) → AllStay (suc n) ps → Stays n (walk n shape ps)
  walk_stays n shape ps f = record {
    order = let a = f.order in omega (arith, a);
    within = λ t h. let x = f.within t h in (let a = x.0 in omega (arith, a), x.1);
  }

  form_stays : (form : InlineForm) (part : InlinePart) (n : ℕ) (ps : ExpandedParts) → AllStay n ps → Stays n (inline_by form part n ps)
  form_stays inline.Alt part n ps f = choice_stays n ps f
  form_stays inline.Opt part n ps f = option_stays n (one_of ps) (choice_stays n ps f)
  form_stays inline.Par part n ps f = aside_stays n ps f
  form_stays inline.Exc part n ps f = record { order = f.order; within = f.within }
  form_stays inline.Loop part n ps f = record { order = f.order; within = f.within }

  -- ---- charts

  module _ (ends_of : WovenItems → List GateEnd) (chart : Charts) (charts_stay : (name : List ℕ) (gates : GateMap) (n : ℕ) → Stays n (chart name gates n)) where
    events_stay : (es : List GateEnd) (a : Around) (n : ℕ) (ks : List EventNode) → AllStay n (expand_events chart ends_of es a n ks)
    events_stay es a n [] = none_stay n
    events_stay es a n (k ∷ ks) = both_stay n (event n (happening es a k)) (expand_events chart ends_of es a (suc n) ks) (event_stays n (happening es a k)) (events_stay es a (suc n) ks)

    mutual
      expression_stays : (gates : GateMap) (n : ℕ) (x : Expression) → Stays n (expand chart ends_of gates n x)
      expression_stays gates n Empty = row_stays n (nothing n) (none_stay n)
      expression_stays gates n (Chart name) = charts_stay name gates n
      expression_stays gates n (Alt xs) = choice_stays n (expand_all chart ends_of gates n xs) (expressions_stay gates n xs)
      expression_stays gates n (Par xs) = aside_stays n (expand_all chart ends_of gates n xs) (expressions_stay gates n xs)
      expression_stays gates n (Seq xs) = row_stays n (expand_all chart ends_of gates n xs) (expressions_stay gates n xs)
      expression_stays gates n (Opt x) = option_stays n (expand chart ends_of gates n x) (expression_stays gates n x)
      expression_stays gates n (Loop lo up x) = turns_stay n n lo up (expand chart ends_of gates n x) (expression_stays gates n x)

      expressions_stay : (gates : GateMap) (n : ℕ) (xs : Expressions) → AllStay n (expand_all chart ends_of gates n xs)
      expressions_stay gates n none = none_stay n
      expressions_stay gates n (more x xs) = let e = expand chart ends_of gates n x in both_stay n e (expand_all chart ends_of gates e.next xs) (expression_stays gates n x) (expressions_stay gates e.next xs)

    mutual
      graph_stays : (n : ℕ) (drawn : Graph) → Stays n (expand_graph chart ends_of n drawn)
      graph_stays n (graph starts ls) = walk_stays n (shape_of (graph starts ls)) (expand_lines chart ends_of (suc n) ls) (lines_stay (suc n) ls)

      pub lines_stay : (n : ℕ) (ls : Lines) → AllStay n (expand_lines chart ends_of n ls)
      lines_stay n no_lines = none_stay n
      lines_stay n (line_and (line label place node goes) rest) = let e = expand_node chart ends_of n node in both_stay n e (expand_lines chart ends_of e.next rest) (node_stays n node) (lines_stay e.next rest)

      node_stays : (n : ℕ) (node : Node) → Stays n (expand_node chart ends_of n node)
      node_stays n Ends = row_stays n (nothing n) (none_stay n)
      node_stays n Connect = row_stays n (nothing n) (none_stay n)
      node_stays n (Condition names) = row_stays n (nothing n) (none_stay n)
      node_stays n (tree.Refer x) = expression_stays no_gates n x
      node_stays n (Frames held) = aside_stays n (expand_frames chart ends_of n held) (frames_stay n held)

      frames_stay : (n : ℕ) (held : Graphs) → AllStay n (expand_frames chart ends_of n held)
      frames_stay n no_graphs = none_stay n
      frames_stay n (graph_and drawn rest) = let e = expand_graph chart ends_of n drawn in both_stay n e (expand_frames chart ends_of e.next rest) (graph_stays n drawn) (frames_stay e.next rest)

    mutual
      level_stays : (a : Around) (n : ℕ) (b : Body) → Stays n (expand_level chart ends_of a n b)
      level_stays a n (level cover held pairs) = let r = items_stay (gates_of held (ends_of held)) a n held in record { order = r.order; within = r.within }

      items_stay : (g : Gates) (a : Around) (n : ℕ) (xs : WovenItems) → AllStay n (expand_items chart ends_of g a n xs)
      items_stay g a n no_items = none_stay n
      items_stay g a n (item_and x xs) = let e = expand_item chart ends_of g a n x in both_stay n e (expand_items chart ends_of g a e.next xs) (item_stays g a n x) (items_stay g a e.next xs)

      item_stays : (g : Gates) (a : Around) (n : ℕ) (x : WovenItem) → Stays n (expand_item chart ends_of g a n x)
      item_stays g a n (Single k) = event_stays n (happening g.ends a k)
      item_stays g a n (Coregion ks) = aside_stays n (expand_events chart ends_of g.ends a n ks) (events_stay g.ends a n ks)
      item_stays g a n (Inline form part operands) =
          let r = form_stays form part n (expand_operands chart ends_of (inside g part.name a) n operands) (operands_stay (inside g part.name a) n operands) in
          record { order = r.order; within = r.within }
      item_stays g a n (Refer part) = let r = expression_stays (gates_referred g part.name part.joins a.gates) n part.expression in record { order = r.order; within = r.within }

      operands_stay : (a : Around) (n : ℕ) (bs : Bodies) → AllStay n (expand_operands chart ends_of a n bs)
      operands_stay a n no_bodies = none_stay n
      operands_stay a n (body_and b bs) = let e = expand_level chart ends_of a n b in both_stay n e (expand_operands chart ends_of a e.next bs) (level_stays a n b) (operands_stay a e.next bs)

    refinings_stay : (far_of : EventNode → Far) (n : ℕ) (rs : List Refining) → AllStay n (expand_refinings chart ends_of far_of n rs)
    refinings_stay far_of n [] = none_stay n
    refinings_stay far_of n (refining (level cover held pairs) ms ∷ rs) =
        let items = expand_items chart ends_of (gates_of held (ends_of held)) (refining_under far_of ms) n held in
        let r = items_stay (gates_of held (ends_of held)) (refining_under far_of ms) n held in
        let behind = refinings_stay far_of items.next rs in
        record { order = let a = r.order in let b = behind.order in omega (arith, a, b); within = from_both n items.next (expand_refinings chart ends_of far_of items.next rs).next (all_stops (views items.parts)) (all_stops (views (expand_refinings chart ends_of far_of items.next rs).parts)) r.order behind.order r.within behind.within }

    woven_stays : (table : Table) (gates : GateMap) (n : ℕ) (rs : List Refinement) (w : Woven) → Stays n (expand_woven chart ends_of table gates n rs w)
    woven_stays table gates n [] (Basic b) = level_stays (under gates) n b
    woven_stays table gates n [] (HighLevel drawn) = graph_stays n drawn
    woven_stays table gates n (r ∷ rs) (HighLevel drawn) = graph_stays n drawn
    woven_stays table gates n (r ∷ rs) (Basic (level cover held pairs)) =
        let refined = refinings table held (r ∷ rs) in
        let around = refined_under gates pairs refined in
        let items = in_row (expand_items chart ends_of (gates_of held (ends_of held)) around n (without_decomposed (r ∷ rs) held)) in
        let left = row_stays n (expand_items chart ends_of (gates_of held (ends_of held)) around n (without_decomposed (r ∷ rs) held)) (items_stay (gates_of held (ends_of held)) around n (without_decomposed (r ∷ rs) held)) in
        let both = both_stay n items (expand_refinings chart ends_of (far_end (ends_of held) around) items.next refined) left (refinings_stay (far_end (ends_of held) around) items.next refined) in
        record { order = both.order; within = both.within }

  -- ---- up by the depth of references

  module _ (ends_of : WovenItems → List GateEnd) (table : Table) where
    entry_stays : (chart : Charts) → ((name : List ℕ) (gates : GateMap) (n : ℕ) → Stays n (chart name gates n)) → (gates : GateMap) (n : ℕ) (o : Option ChartEntry) → Stays n (expand_entry ends_of table chart gates n o)
    entry_stays chart below gates n None = row_stays n (nothing n) (none_stay n)
    entry_stays chart below gates n (Some c) = woven_stays ends_of chart below table gates n (refinements c.decls) c.content

    pub chart_stays : (depth : ℕ) (name : List ℕ) (gates : GateMap) (n : ℕ) → Stays n (expand_charts ends_of table depth name gates n)
    chart_stays zero name gates n = row_stays n (nothing n) (none_stay n)
    chart_stays (suc k) name gates n = entry_stays (expand_charts ends_of table k) (chart_stays k) gates n (chart_at table name)
