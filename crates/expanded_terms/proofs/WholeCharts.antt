-- A chart that is whole by its text is fit where each event of its expansion can be named, and each walk is one of its graph.
use Rattle.std.specs.Prelude.{ℕ, zero, suc, ◌+◌, false, List, [], ◌∷◌, Option}
use Rattle.std.proofs.Common.{subst}
use Rattle.msc_base.specs.declared.label.Far.{Far}
use Rattle.msc_base.specs.Orders.{Among, first, later}
use Rattle.msc_unfolding.specs.Unfoldings.{Happening}
use Rattle.msc_base.specs.declared.label.LabelRef.{LabelRef}
use Rattle.hmsc_graph.specs.declared.shape.Shape.{Shape}
use Rattle.graph_shapes.specs.GraphShapes.{shape_of}
use Rattle.chart_term.specs.Terms.{Tree}
use Rattle.sound_terms.proofs.Ordering.{among_left, among_right}
use Rattle.msc_tree.specs.declared.reference.InlineForm.{InlineForm}
use Rattle.msc_tree.specs.declared.reference.InlineForm.TheVariants as inline
use Rattle.msc_tree.specs.Expressions.{Expression, Empty, Chart, Alt, Par, Seq, Opt, Expressions, none, more}
use Rattle.msc_tree.specs.Expressions as expression
use Rattle.msc_tree.specs.Graphs as graphs
use Rattle.msc_tree.specs.Graphs.{Graph, graph, Lines, no_lines, line_and, line, Node, Ends, Connect, Condition, Frames, Graphs, no_graphs, graph_and}
use Rattle.msc_meaning.specs.Bodies.{EventNode, InlinePart, Body, level, WovenItems, no_items, item_and, WovenItem, Single, Coregion, Inline, Refer, Bodies, no_bodies, body_and}
use Rattle.msc_meaning.specs.Calls.{calls}
use Rattle.msc_meaning.specs.Ties.{ties}
use Rattle.msc_meaning.specs.ChartUnfoldings.{gates_of, under, refined_under, refining_under}
use Rattle.msc_meaning.specs.FarEnds.{GateMap, no_gates, Around, Gates, gates_referred, inside, far_end, happening}
use Rattle.msc_meaning.specs.InnerEvents.{GateEnd}
use Rattle.msc_meaning.specs.Refinements.{Refining, refining, refinings, without_decomposed}
use Rattle.msc_meaning.specs.Tables.{Table, ChartEntry, chart_at, Woven, Basic, HighLevel, Refinement, refinements}
use Rattle.expansion_tree.specs.Expansions.{Expansion, Expansions, part_and, all_events_in, events_in}
use Rattle.expansion_tree.specs.Walks.{EachWalk, EachWalkIn}
use Rattle.expanded_charts.specs.Expanding as expanding
use Rattle.expanded_charts.specs.Expanding.{NumberedEvent, Expanded, ExpandedParts, expand_events, expand, expand_all, expand_level, expand_items, expand_item, expand_operands, expand_refinings, expand_graph, expand_lines, expand_node, expand_frames, expand_woven, expand_entry, expand_charts}
use Rattle.expansion_terms.specs.ExpansionTerms.{part_terms}
use Rattle.expanded_terms.specs.ExpandedTerms.{Charts, Leaves, charts_to}
use Rattle.expanded_terms.specs.ExpansionLaws.{event_by}
use Rattle.expanded_terms.specs.FitBodies.{AreFitEvents, IsFitExpression, AreFitExpressions, IsFitLevel, AreFitItems, IsFitItem, AreFitOperands, AreFitRefinings, IsFitGraph, AreFitLines, IsFitNode, AreFitFrames, IsFitWoven, HasFitEntry, IsFitTo}
use Rattle.expanded_terms.specs.GraphWalks.{IsGraphWalk}
use Rattle.expanded_terms.specs.NamedEvents.{IsNameable}
use Rattle.expanded_terms.specs.WholeCharts.{IsWholeExpression, AreWholeExpressions, IsWholeLevel, AreWholeItems, IsWholeItem, AreWholeOperands, AreWholeRefinings, AreWholeLines, IsWholeNode, AreWholeFrames, IsWholeWoven, HasWholeEntry, IsWholeTo, WholeChartsAreFit}
use Rattle.expanded_terms.proofs.ExpansionTerms.{IsOf, charts_are, expression_of, item_of, items_of, level_of, graph_of, lines_of, node_of}

module _ (table : Table) (ends_of : WovenItems → List GateEnd) (leaves : Leaves) (Named : Happening → Type 0) (IsWalk : ℕ → Shape → List Tree → Type 0) where
  -- each event of the part can be named, and each walk is one
  abbrev Has : Expansion NumberedEvent → Type 0
  Has x = ((e : NumberedEvent) → Among e (events_in x) → Named e.happening) × EachWalk (λ m g xs. IsWalk m g (part_terms (event_by leaves) leaves.walk xs)) x

  abbrev Have : Expansions NumberedEvent → Type 0
  Have xs = ((e : NumberedEvent) → Among e (all_events_in xs) → Named e.happening) × EachWalkIn (λ m g xs. IsWalk m g (part_terms (event_by leaves) leaves.walk xs)) xs

  has_first : (x : Expansion NumberedEvent) (xs : Expansions NumberedEvent) → Have (part_and x xs) → Has x
  has_first x xs (h, w) = ((λ e i. h e (among_left (events_in x) (all_events_in xs) e i)), w.0)

  has_rest : (x : Expansion NumberedEvent) (xs : Expansions NumberedEvent) → Have (part_and x xs) → Have xs
  has_rest x xs (h, w) = ((λ e i. h e (among_right (events_in x) (all_events_in xs) e i)), w.1)

  has_option : (e : Expanded) → Has (expanding.or_nothing e).part → Has e.part
  has_option e (h, w) = ((λ d i. h d (among_left (events_in e.part) [] d i)), w.0)

  module _ (chart : expanding.Charts) (charts : Charts) (are : (name : List ℕ) (gates : GateMap) (n : ℕ) → IsOf leaves (chart name gates n) (charts.term name gates n) (charts.shown name n) (n + charts.count name) false)
      (IsWholeChart : List ℕ → Type 0) (IsFitChart : List ℕ → GateMap → ℕ → Type 0) (known : (name : List ℕ) (gates : GateMap) (n : ℕ) → IsWholeChart name → Has (chart name gates n).part → IsFitChart name gates n) where
    events_fit : (es : List GateEnd) (a : Around) (n : ℕ) (ks : List EventNode) → Have (expand_events chart ends_of es a n ks).parts → AreFitEvents table ends_of leaves Named IsWalk charts IsFitChart es a ks
    events_fit es a n [] h = tt
    events_fit es a n (k ∷ ks) h = (h.0 (record { number = n; happening = happening es a k }) first, events_fit es a (suc n) ks ((λ e i. h.0 e (later i)), h.1.1))

    mutual
      expression_fit : (gates : GateMap) (n : ℕ) (e : Expression) → IsWholeExpression table ends_of IsWholeChart e → Has (expand chart ends_of gates n e).part → IsFitExpression table ends_of leaves Named IsWalk charts IsFitChart gates n e
      expression_fit gates n Empty w h = tt
      expression_fit gates n (Chart name) w h = known name gates n w h
      expression_fit gates n (Alt parts) (some, w) h = (some, expressions_fit gates n parts w h)
      expression_fit gates n (Par parts) w h = expressions_fit gates n parts w h
      expression_fit gates n (Seq parts) w h = expressions_fit gates n parts w h
      expression_fit gates n (Opt part) w h = expression_fit gates n part w (has_option (expand chart ends_of gates n part) h)
      expression_fit gates n (expression.Loop lower upper part) w h = expression_fit gates n part w h

      expressions_fit : (gates : GateMap) (n : ℕ) (xs : Expressions) → AreWholeExpressions table ends_of IsWholeChart xs → Have (expand_all chart ends_of gates n xs).parts → AreFitExpressions table ends_of leaves Named IsWalk charts IsFitChart gates n xs
      expressions_fit gates n none w h = tt
      expressions_fit gates n (more x xs) (w, v) h =
          let e = expand chart ends_of gates n x in
          let rest = expand_all chart ends_of gates e.next xs in (
            expression_fit gates n x w (has_first e.part rest.parts h),
            subst (λ (k : ℕ). AreFitExpressions table ends_of leaves Named IsWalk charts IsFitChart gates k xs) (expression_of leaves ends_of chart charts are gates n x).next_is (expressions_fit gates e.next xs v (has_rest e.part rest.parts h)),
          )

    inline_has : (form : InlineForm) (part : InlinePart) (n : ℕ) (l : ExpandedParts) → Has (expanding.inline_by form part n l).part → Have l.parts
    inline_has inline.Alt part n l h = h
    inline_has inline.Opt part n l h = has_option (expanding.one_of l) h
    inline_has inline.Par part n l h = h
    inline_has inline.Exc part n l h = h
    inline_has inline.Loop part n l h = h

    mutual
      level_fit : (a : Around) (n : ℕ) (b : Body) → IsWholeLevel table ends_of IsWholeChart b → Has (expand_level chart ends_of a n b).part → IsFitLevel table ends_of leaves Named IsWalk charts IsFitChart a n b
      level_fit a n (level cover held pairs) (e, w) h = (e, items_fit (gates_of held (ends_of held)) a n held w h)

      pub items_fit : (g : Gates) (a : Around) (n : ℕ) (xs : WovenItems) → AreWholeItems table ends_of IsWholeChart xs → Have (expand_items chart ends_of g a n xs).parts → AreFitItems table ends_of leaves Named IsWalk charts IsFitChart g a n xs
      items_fit g a n no_items w h = tt
      items_fit g a n (item_and x xs) (w, v) h =
          let e = expand_item chart ends_of g a n x in
          let rest = expand_items chart ends_of g a e.next xs in (
            item_fit g a n x w (has_first e.part rest.parts h),
            subst (λ (k : ℕ). AreFitItems table ends_of leaves Named IsWalk charts IsFitChart g a k xs) (item_of leaves ends_of chart charts are g a n x).next_is (items_fit g a e.next xs v (has_rest e.part rest.parts h)),
          )

      item_fit : (g : Gates) (a : Around) (n : ℕ) (x : WovenItem) → IsWholeItem table ends_of IsWholeChart x → Has (expand_item chart ends_of g a n x).part → IsFitItem table ends_of leaves Named IsWalk charts IsFitChart g a n x
      item_fit g a n (Single k) w h = h.0 (record { number = n; happening = happening g.ends a k }) first
      item_fit g a n (Coregion ks) w h = events_fit g.ends a n ks h
      item_fit g a n (Inline form part operands) (has, w) h = (has, operands_fit (inside g part.name a) n operands w (inline_has form part n (expand_operands chart ends_of (inside g part.name a) n operands) h))
      item_fit g a n (Refer part) w h = expression_fit (gates_referred g part.name part.joins a.gates) n part.expression w h

      operands_fit : (a : Around) (n : ℕ) (bs : Bodies) → AreWholeOperands table ends_of IsWholeChart bs → Have (expand_operands chart ends_of a n bs).parts → AreFitOperands table ends_of leaves Named IsWalk charts IsFitChart a n bs
      operands_fit a n no_bodies w h = tt
      operands_fit a n (body_and b bs) (w, v) h =
          let e = expand_level chart ends_of a n b in
          let rest = expand_operands chart ends_of a e.next bs in (
            level_fit a n b w (has_first e.part rest.parts h),
            subst (λ (k : ℕ). AreFitOperands table ends_of leaves Named IsWalk charts IsFitChart a k bs) (level_of leaves ends_of chart charts are a n b).next_is (operands_fit a e.next bs v (has_rest e.part rest.parts h)),
          )

    refinings_fit : (far_of : EventNode → Far) (n : ℕ) (rs : List Refining) → AreWholeRefinings table ends_of IsWholeChart rs → Have (expand_refinings chart ends_of far_of n rs).parts → AreFitRefinings table ends_of leaves Named IsWalk charts IsFitChart far_of n rs
    refinings_fit far_of n [] w h = tt
    refinings_fit far_of n (refining (level cover held pairs) ms ∷ rs) ((e, w), v) h =
        let l = expand_items chart ends_of (gates_of held (ends_of held)) (refining_under far_of ms) n held in
        let one = expanding.tied (ties held pairs (calls held) (ends_of held)) (expanding.in_row l) in
        let rest = expand_refinings chart ends_of far_of l.next rs in (
          (e, items_fit (gates_of held (ends_of held)) (refining_under far_of ms) n held w (has_first one.part rest.parts h)),
          subst (λ (k : ℕ). AreFitRefinings table ends_of leaves Named IsWalk charts IsFitChart far_of k rs) (items_of leaves ends_of chart charts are (gates_of held (ends_of held)) (refining_under far_of ms) n held).next_is (refinings_fit far_of l.next rs v (has_rest one.part rest.parts h)),
        )

    -- ---- graphs

    mutual
      lines_fit : (n : ℕ) (lines : Lines) → AreWholeLines table ends_of IsWholeChart lines → Have (expand_lines chart ends_of n lines).parts → AreFitLines table ends_of leaves Named IsWalk charts IsFitChart n lines
      lines_fit n no_lines w h = tt
      lines_fit n (line_and (line label place node next) rest) (w, v) h =
          let e = expand_node chart ends_of n node in
          let others = expand_lines chart ends_of e.next rest in (
            node_fit n node w (has_first e.part others.parts h),
            subst (λ (k : ℕ). AreFitLines table ends_of leaves Named IsWalk charts IsFitChart k rest) (node_of leaves ends_of chart charts are n node).next_is (lines_fit e.next rest v (has_rest e.part others.parts h)),
          )

      node_fit : (n : ℕ) (node : Node) → IsWholeNode table ends_of IsWholeChart node → Has (expand_node chart ends_of n node).part → IsFitNode table ends_of leaves Named IsWalk charts IsFitChart n node
      node_fit n Ends w h = tt
      node_fit n Connect w h = tt
      node_fit n (Condition names) w h = tt
      node_fit n (graphs.Refer e) w h = expression_fit no_gates n e w h
      node_fit n (Frames held) w h = frames_fit n held w h

      frames_fit : (n : ℕ) (held : Graphs) → AreWholeFrames table ends_of IsWholeChart held → Have (expand_frames chart ends_of n held).parts → AreFitFrames table ends_of leaves Named IsWalk charts IsFitChart n held
      frames_fit n no_graphs w h = tt
      frames_fit n (graph_and (graph starts lines) rest) (w, v) h =
          let e = expand_graph chart ends_of n (graph starts lines) in
          let others = expand_frames chart ends_of e.next rest in (
            (
              subst (λ (ts : List Tree). IsWalk n (shape_of (graph starts lines)) ts) (lines_of leaves ends_of chart charts are (suc n) lines).is (has_first e.part others.parts h).1.0,
              lines_fit (suc n) lines w ((has_first e.part others.parts h).0, (has_first e.part others.parts h).1.1),
            ),
            subst (λ (k : ℕ). AreFitFrames table ends_of leaves Named IsWalk charts IsFitChart k rest) (graph_of leaves ends_of chart charts are n (graph starts lines)).next_is (frames_fit e.next rest v (has_rest e.part others.parts h)),
          )

    graph_fit : (n : ℕ) (starts : List LabelRef) (lines : Lines) → AreWholeLines table ends_of IsWholeChart lines → Has (expand_graph chart ends_of n (graph starts lines)).part → IsFitGraph table ends_of leaves Named IsWalk charts IsFitChart n (graph starts lines)
    graph_fit n starts lines w h = (
      subst (λ (ts : List Tree). IsWalk n (shape_of (graph starts lines)) ts) (lines_of leaves ends_of chart charts are (suc n) lines).is h.1.0,
      lines_fit (suc n) lines w (h.0, h.1.1),
    )

    -- ---- charts

    woven_fit : (gates : GateMap) (n : ℕ) (rs : List Refinement) (content : Woven) → IsWholeWoven table ends_of IsWholeChart rs content → Has (expand_woven chart ends_of table gates n rs content).part → IsFitWoven table ends_of leaves Named IsWalk charts IsFitChart gates n rs content
    woven_fit gates n [] (Basic held) w h = level_fit (under gates) n held w h
    woven_fit gates n (r ∷ rs) (Basic (level cover held pairs)) (e, w, v) h =
        let around = refined_under gates pairs (refinings table held (r ∷ rs)) in
        let left = expand_items chart ends_of (gates_of held (ends_of held)) around n (without_decomposed (r ∷ rs) held) in
        let fine = expand_refinings chart ends_of (far_end (ends_of held) around) left.next (refinings table held (r ∷ rs)) in (
          e,
          items_fit (gates_of held (ends_of held)) around n (without_decomposed (r ∷ rs) held) w (has_first (expanding.in_row left).part fine.parts h),
          subst (λ (k : ℕ). AreFitRefinings table ends_of leaves Named IsWalk charts IsFitChart (far_end (ends_of held) around) k (refinings table held (r ∷ rs)))
              (items_of leaves ends_of chart charts are (gates_of held (ends_of held)) around n (without_decomposed (r ∷ rs) held)).next_is (refinings_fit (far_end (ends_of held) around) left.next (refinings table held (r ∷ rs)) v (has_rest (expanding.in_row left).part fine.parts h)),
        )
    woven_fit gates n [] (HighLevel (graph starts lines)) w h = graph_fit n starts lines w h
    woven_fit gates n (r ∷ rs) (HighLevel (graph starts lines)) w h = graph_fit n starts lines w h

    entry_fit : (name : List ℕ) (gates : GateMap) (n : ℕ) → HasWholeEntry table ends_of IsWholeChart name → Has (expand_entry ends_of table chart gates n (chart_at table name)).part → HasFitEntry table ends_of leaves Named IsWalk charts IsFitChart name gates n
    entry_fit name gates n w h = record {
      entry = w.entry;
      is = w.is;
      fit = woven_fit gates n (refinements w.entry.decls) w.entry.content w.whole (subst (λ (o : Option ChartEntry). Has (expand_entry ends_of table chart gates n o).part) w.is h);
    }

  pub charts_fit : (k : ℕ) (name : List ℕ) (gates : GateMap) (n : ℕ) → IsWholeTo table ends_of k name → Has (expand_charts ends_of table k name gates n).part → IsFitTo table ends_of leaves Named IsWalk k name gates n
  charts_fit zero name gates n w h = w
  charts_fit (suc k) name gates n w h =
      entry_fit (expand_charts ends_of table k) (charts_to leaves ends_of table k) (charts_are leaves ends_of table k) (IsWholeTo table ends_of k) (IsFitTo table ends_of leaves Named IsWalk k) (charts_fit k) name gates n w h

  pub all_lines_fit : (k n : ℕ) (lines : Lines) → AreWholeLines table ends_of (IsWholeTo table ends_of k) lines → Have (expand_lines (expand_charts ends_of table k) ends_of n lines).parts
      → AreFitLines table ends_of leaves Named IsWalk (charts_to leaves ends_of table k) (IsFitTo table ends_of leaves Named IsWalk k) n lines
  all_lines_fit k n lines w h = lines_fit (expand_charts ends_of table k) (charts_to leaves ends_of table k) (charts_are leaves ends_of table k) (IsWholeTo table ends_of k) (IsFitTo table ends_of leaves Named IsWalk k) (charts_fit k) n lines w h

pub whole_charts_are_fit : WholeChartsAreFit
whole_charts_are_fit = record {
  fit = λ names labels w leaves table ends_of depth name gates n whole h v. charts_fit table ends_of leaves (IsNameable names labels) (λ m g nodes. IsGraphWalk w g nodes (leaves.walk m)) depth name gates n whole (h, v);
  lines = λ names labels w leaves table ends_of depth n held whole h v. all_lines_fit table ends_of leaves (IsNameable names labels) (λ m g nodes. IsGraphWalk w g nodes (leaves.walk m)) depth n held whole (h, v);
}
