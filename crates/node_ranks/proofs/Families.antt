-- What is kept by all constructs of an expansion, at every first number, holds of expansions: of two at once, which come from two ways to
-- expand the charts that are named.
use Rattle.std.specs.Prelude.{ℕ, suc, List, [], ◌∷◌, Option}
use Rattle.std.proofs.Common.{sym, subst}
use Rattle.msc_base.specs.declared.label.Far.{Far}
use Rattle.msc_base.specs.declared.label.LabelRef.{LabelRef}
use Rattle.msc_base.specs.declared.label.Pair.{Pair}
use Rattle.msc_unfolding.specs.Unfoldings.{Tag, Happening, past_level}
use Rattle.msc_tree.specs.declared.reference.InlineForm.{InlineForm}
use Rattle.msc_tree.specs.declared.reference.InlineForm.TheVariants as inline
use Rattle.msc_tree.specs.Expressions.{Expression, Empty, Chart, Alt, Par, Seq, Opt, Expressions, none, more}
use Rattle.msc_tree.specs.Expressions as expression
use Rattle.msc_tree.specs.Graphs as graphs
use Rattle.msc_tree.specs.Graphs.{Graph, graph, Lines, no_lines, line_and, line, Node, Ends, Connect, Condition, Frames, Graphs, no_graphs, graph_and}
use Rattle.hmsc_graph.specs.declared.shape.Shape.{Shape}
use Rattle.graph_shapes.specs.GraphShapes.{shape_of}
use Rattle.msc_meaning.specs.Bodies.{EventNode, InlinePart, Body, level, WovenItems, no_items, item_and, WovenItem, Single, Coregion, Inline, Refer, Bodies, no_bodies, body_and}
use Rattle.msc_meaning.specs.Calls.{calls}
use Rattle.msc_meaning.specs.ChartUnfoldings.{gates_of, under, refined_under, refining_under}
use Rattle.msc_meaning.specs.FarEnds.{GateMap, no_gates, Around, Gates, gates_referred, inside, far_end, happening}
use Rattle.msc_meaning.specs.InnerEvents.{GateEnd}
use Rattle.msc_meaning.specs.Refinements.{Refining, refining, refinings, without_decomposed, past_refining}
use Rattle.msc_meaning.specs.Tables.{Table, ChartEntry, chart_at, Woven, Basic, HighLevel, Refinement, refinements}
use Rattle.msc_meaning.specs.Ties.{ties, past_inline, past_reference}
use Rattle.expanded_charts.specs.Expanding as tree
use Rattle.expanded_charts.specs.Expanding.{Charts, Expanded, ExpandedParts, nothing, or_nothing, in_row, aside, exception, turns, tied, past, expand_events, expand, expand_all, expand_level, expand_items, expand_item, expand_operands, expand_refinings, expand_refined, expand_graph, expand_lines, expand_node, expand_frames, expand_woven, expand_entry}
use Rattle.node_ranks.specs.NamedCharts.{NamesOnly, NameOnly, LevelNamesOnly, ItemsNameOnly, ItemNamesOnly, OperandsNameOnly, RefiningsNameOnly, LinesNameOnly, NodeNamesOnly, FramesNameOnly, WovenNamesOnly, HasEntry}

-- what is made at each first number
abbrev pub Family : Type 0
Family = ℕ → Expanded

abbrev pub PartsFamily : Type 0
PartsFamily = ℕ → ExpandedParts

-- all constructs but walks keep it
pub record IsKept (P : Family → Family → Type 0) (Q : PartsFamily → PartsFamily → Type 0) : Type 0 where
  pub nothing : Q (λ n. nothing n) (λ n. nothing n)
  pub then : (e d : Family) (l k : PartsFamily) → P e d → Q l k → Q (λ n. tree.then (e n) l) (λ n. tree.then (d n) k)
  pub in_row : (l k : PartsFamily) → Q l k → P (λ n. in_row (l n)) (λ n. in_row (k n))
  pub aside : (l k : PartsFamily) → Q l k → P (λ n. aside (l n)) (λ n. aside (k n))
  pub one_of : (l k : PartsFamily) → Q l k → P (λ n. tree.one_of (l n)) (λ n. tree.one_of (k n))
  pub or_nothing : (e d : Family) → P e d → P (λ n. or_nothing (e n)) (λ n. or_nothing (d n))
  pub exception : (e d : Family) → P e d → P (λ n. exception (e n)) (λ n. exception (d n))
  pub turns : (lower : ℕ) (upper : Option ℕ) (e d : Family) → P e d → P (λ n. turns n lower upper (e n)) (λ n. turns n lower upper (d n))
  pub tied : (ts : List (Tag × Tag)) (e d : Family) → P e d → P (λ n. tied ts (e n)) (λ n. tied ts (d n))
  pub past : (f : Tag → List Tag) (e d : Family) → P e d → P (λ n. past f (e n)) (λ n. past f (d n))
  pub event : (h : Happening) → P (λ n. tree.event n h) (λ n. tree.event n h)

module _ (P : Family → Family → Type 0) (Q : PartsFamily → PartsFamily → Type 0) (kept : IsKept P Q) (ends_of : WovenItems → List GateEnd) (chart other : Charts) (Named : List ℕ → Type 0)
    (known : (name : List ℕ) (gates : GateMap) → Named name → P (chart name gates) (other name gates)) where
  events_kept : (es : List GateEnd) (a : Around) (ks : List EventNode) → Q (λ n. expand_events chart ends_of es a n ks) (λ n. expand_events other ends_of es a n ks)
  events_kept es a [] = kept.nothing
  events_kept es a (k ∷ ks) = kept.then (λ n. tree.event n (happening es a k)) (λ n. tree.event n (happening es a k)) (λ n. expand_events chart ends_of es a n ks) (λ n. expand_events other ends_of es a n ks) (kept.event (happening es a k)) (events_kept es a ks)

  mutual
    pub expression_kept : (gates : GateMap) (e : Expression) → NamesOnly Named e → P (λ n. expand chart ends_of gates n e) (λ n. expand other ends_of gates n e)
    expression_kept gates Empty w = kept.in_row (λ n. nothing n) (λ n. nothing n) kept.nothing
    expression_kept gates (Chart name) w = known name gates w
    expression_kept gates (Alt parts) w = kept.one_of (λ n. expand_all chart ends_of gates n parts) (λ n. expand_all other ends_of gates n parts) (parts_kept gates parts w)
    expression_kept gates (Par parts) w = kept.aside (λ n. expand_all chart ends_of gates n parts) (λ n. expand_all other ends_of gates n parts) (parts_kept gates parts w)
    expression_kept gates (Seq parts) w = kept.in_row (λ n. expand_all chart ends_of gates n parts) (λ n. expand_all other ends_of gates n parts) (parts_kept gates parts w)
    expression_kept gates (Opt part) w = kept.or_nothing (λ n. expand chart ends_of gates n part) (λ n. expand other ends_of gates n part) (expression_kept gates part w)
    expression_kept gates (expression.Loop lower upper part) w = kept.turns lower upper (λ n. expand chart ends_of gates n part) (λ n. expand other ends_of gates n part) (expression_kept gates part w)

    pub parts_kept : (gates : GateMap) (xs : Expressions) → NameOnly Named xs → Q (λ n. expand_all chart ends_of gates n xs) (λ n. expand_all other ends_of gates n xs)
    parts_kept gates none w = kept.nothing
    parts_kept gates (more x xs) (w, v) = kept.then (λ n. expand chart ends_of gates n x) (λ n. expand other ends_of gates n x) (λ n. expand_all chart ends_of gates n xs) (λ n. expand_all other ends_of gates n xs) (expression_kept gates x w) (parts_kept gates xs v)

  inline_kept : (form : InlineForm) (part : InlinePart) (l k : PartsFamily) → Q l k → P (λ n. tree.inline_by form part n (l n)) (λ n. tree.inline_by form part n (k n))
  inline_kept inline.Alt part l k h = kept.one_of l k h
  inline_kept inline.Opt part l k h = kept.or_nothing (λ n. tree.one_of (l n)) (λ n. tree.one_of (k n)) (kept.one_of l k h)
  inline_kept inline.Par part l k h = kept.aside l k h
  inline_kept inline.Exc part l k h = kept.exception (λ n. tree.one_of (l n)) (λ n. tree.one_of (k n)) (kept.one_of l k h)
  inline_kept inline.Loop part l k h = kept.turns part.lower part.upper (λ n. tree.one_of (l n)) (λ n. tree.one_of (k n)) (kept.one_of l k h)

  -- items in a row, or parts side by side, with their ties
  row_kept : (f : Tag → List Tag) (ts : List (Tag × Tag)) (l k : PartsFamily) → Q l k → P (λ n. past f (tied ts (in_row (l n)))) (λ n. past f (tied ts (in_row (k n))))
  row_kept f ts l k h = kept.past f (λ n. tied ts (in_row (l n))) (λ n. tied ts (in_row (k n))) (kept.tied ts (λ n. in_row (l n)) (λ n. in_row (k n)) (kept.in_row l k h))

  mutual
    level_kept : (a : Around) (b : Body) → LevelNamesOnly Named b → P (λ n. expand_level chart ends_of a n b) (λ n. expand_level other ends_of a n b)
    level_kept a (level cover held pairs) w =
        row_kept past_level (ties held pairs (calls held) (ends_of held)) (λ n. expand_items chart ends_of (gates_of held (ends_of held)) a n held) (λ n. expand_items other ends_of (gates_of held (ends_of held)) a n held) (items_kept (gates_of held (ends_of held)) a held w)

    items_kept : (g : Gates) (a : Around) (xs : WovenItems) → ItemsNameOnly Named xs → Q (λ n. expand_items chart ends_of g a n xs) (λ n. expand_items other ends_of g a n xs)
    items_kept g a no_items w = kept.nothing
    items_kept g a (item_and x xs) (w, v) = kept.then (λ n. expand_item chart ends_of g a n x) (λ n. expand_item other ends_of g a n x) (λ n. expand_items chart ends_of g a n xs) (λ n. expand_items other ends_of g a n xs) (item_kept g a x w) (items_kept g a xs v)

    item_kept : (g : Gates) (a : Around) (x : WovenItem) → ItemNamesOnly Named x → P (λ n. expand_item chart ends_of g a n x) (λ n. expand_item other ends_of g a n x)
    item_kept g a (Single k) w = kept.event (happening g.ends a k)
    item_kept g a (Coregion ks) w = kept.aside (λ n. expand_events chart ends_of g.ends a n ks) (λ n. expand_events other ends_of g.ends a n ks) (events_kept g.ends a ks)
    item_kept g a (Refer part) w = kept.past (past_reference g.calls part.name part.joins) (λ n. expand chart ends_of (gates_referred g part.name part.joins a.gates) n part.expression) (λ n. expand other ends_of (gates_referred g part.name part.joins a.gates) n part.expression)
        (expression_kept (gates_referred g part.name part.joins a.gates) part.expression w)
    item_kept g a (Inline form part bs) w =
        kept.past (past_inline g.calls part.name) (λ n. tree.inline_by form part n (expand_operands chart ends_of (inside g part.name a) n bs)) (λ n. tree.inline_by form part n (expand_operands other ends_of (inside g part.name a) n bs))
        (inline_kept form part (λ n. expand_operands chart ends_of (inside g part.name a) n bs) (λ n. expand_operands other ends_of (inside g part.name a) n bs) (operands_kept (inside g part.name a) bs w))

    operands_kept : (a : Around) (bs : Bodies) → OperandsNameOnly Named bs → Q (λ n. expand_operands chart ends_of a n bs) (λ n. expand_operands other ends_of a n bs)
    operands_kept a no_bodies w = kept.nothing
    operands_kept a (body_and b bs) (w, v) = kept.then (λ n. expand_level chart ends_of a n b) (λ n. expand_level other ends_of a n b) (λ n. expand_operands chart ends_of a n bs) (λ n. expand_operands other ends_of a n bs) (level_kept a b w) (operands_kept a bs v)

  refinings_kept : (far_of : EventNode → Far) (rs : List Refining) → RefiningsNameOnly Named rs → Q (λ n. expand_refinings chart ends_of far_of n rs) (λ n. expand_refinings other ends_of far_of n rs)
  refinings_kept far_of [] w = kept.nothing
  refinings_kept far_of (refining (level cover held pairs) ms ∷ rs) (w, v) =
      kept.then (λ n. past (past_refining ms) (tied (ties held pairs (calls held) (ends_of held)) (in_row (expand_items chart ends_of (gates_of held (ends_of held)) (refining_under far_of ms) n held))))
      (λ n. past (past_refining ms) (tied (ties held pairs (calls held) (ends_of held)) (in_row (expand_items other ends_of (gates_of held (ends_of held)) (refining_under far_of ms) n held))))
      (λ n. expand_refinings chart ends_of far_of n rs) (λ n. expand_refinings other ends_of far_of n rs)
      (row_kept (past_refining ms) (ties held pairs (calls held) (ends_of held)) (λ n. expand_items chart ends_of (gates_of held (ends_of held)) (refining_under far_of ms) n held) (λ n. expand_items other ends_of (gates_of held (ends_of held)) (refining_under far_of ms) n held)
      (items_kept (gates_of held (ends_of held)) (refining_under far_of ms) held w))
      (refinings_kept far_of rs v)

  refined_kept : (a : Around) (held : WovenItems) (pairs : List Pair) (rs : List Refinement) (refined : List Refining) → ItemsNameOnly Named (without_decomposed rs held) → RefiningsNameOnly Named refined
      → P (λ n. expand_refined chart ends_of a n held pairs rs refined) (λ n. expand_refined other ends_of a n held pairs rs refined)
  refined_kept a held pairs rs refined w v =
      kept.past past_level (λ n. tied ts (aside (both chart n))) (λ n. tied ts (aside (both other n))) (kept.tied ts (λ n. aside (both chart n)) (λ n. aside (both other n)) (kept.aside (both chart) (both other)
      (kept.then (left chart) (left other) (fine chart) (fine other) (kept.in_row (items chart) (items other) (items_kept (gates_of held (ends_of held)) a (without_decomposed rs held) w)) (refinings_kept (far_end (ends_of held) a) refined v))))
    where
      ts : List (Tag × Tag)
      ts = ties held pairs (calls held) (ends_of held)

      items : Charts → PartsFamily
      items c n = expand_items c ends_of (gates_of held (ends_of held)) a n (without_decomposed rs held)

      left : Charts → Family
      left c n = in_row (items c n)

      fine : Charts → PartsFamily
      fine c n = expand_refinings c ends_of (far_end (ends_of held) a) n refined

      both : Charts → PartsFamily
      both c n = tree.then (left c n) (fine c)

  -- graphs: so it is of them too, where that is known of each
  module _ (Drawn : List LabelRef → Lines → Type 0) (graph_kept : (starts : List LabelRef) (lines : Lines) → Drawn starts lines → LinesNameOnly Named lines → P (λ n. expand_graph chart ends_of n (graph starts lines)) (λ n. expand_graph other ends_of n (graph starts lines))) where
    abbrev pub IsDrawn : Woven → Type 0
    IsDrawn (Basic held) = Unit {0}
    IsDrawn (HighLevel (graph starts lines)) = Drawn starts lines

    woven_kept : (table : Table) (gates : GateMap) (rs : List Refinement) (content : Woven) → IsDrawn content → WovenNamesOnly Named table rs content → P (λ n. expand_woven chart ends_of table gates n rs content) (λ n. expand_woven other ends_of table gates n rs content)
    woven_kept table gates [] (Basic held) d w = level_kept (under gates) held w
    woven_kept table gates (r ∷ rs) (Basic (level cover held pairs)) d (w, v) = refined_kept (refined_under gates pairs (refinings table held (r ∷ rs))) held pairs (r ∷ rs) (refinings table held (r ∷ rs)) w v
    woven_kept table gates [] (HighLevel (graph starts lines)) d w = graph_kept starts lines d w
    woven_kept table gates (r ∷ rs) (HighLevel (graph starts lines)) d w = graph_kept starts lines d w

    pub drawn_entry_kept : (table : Table) (name : List ℕ) (gates : GateMap) (w : HasEntry table Named name) → IsDrawn w.entry.content → P (λ n. expand_entry ends_of table chart gates n (chart_at table name)) (λ n. expand_entry ends_of table other gates n (chart_at table name))
    drawn_entry_kept table name gates w d = subst (λ (o : Option ChartEntry). P (λ n. expand_entry ends_of table chart gates n o) (λ n. expand_entry ends_of table other gates n o)) (sym w.is) (woven_kept table gates (refinements w.entry.decls) w.entry.content d w.names)

  -- of any graphs
  module _ (graph_kept : (starts : List LabelRef) (lines : Lines) → LinesNameOnly Named lines → P (λ n. expand_graph chart ends_of n (graph starts lines)) (λ n. expand_graph other ends_of n (graph starts lines))) where
    abbrev Any : List LabelRef → Lines → Type 0
    Any starts lines = Unit {0}

    any_kept : (starts : List LabelRef) (lines : Lines) → Any starts lines → LinesNameOnly Named lines → P (λ n. expand_graph chart ends_of n (graph starts lines)) (λ n. expand_graph other ends_of n (graph starts lines))
    any_kept starts lines d w = graph_kept starts lines w

    any_drawn : (content : Woven) → IsDrawn Any any_kept content
    any_drawn (Basic held) = tt
    any_drawn (HighLevel (graph starts lines)) = tt

    pub entry_kept : (table : Table) (name : List ℕ) (gates : GateMap) → HasEntry table Named name → P (λ n. expand_entry ends_of table chart gates n (chart_at table name)) (λ n. expand_entry ends_of table other gates n (chart_at table name))
    entry_kept table name gates w = drawn_entry_kept Any any_kept table name gates w (any_drawn w.entry.content)

  -- where walks keep it too
  module _ (walk_kept : (g : Shape) (l k : PartsFamily) → Q l k → P (λ n. tree.walk n g (l (suc n))) (λ n. tree.walk n g (k (suc n)))) where
    mutual
      pub lines_kept : (lines : Lines) → LinesNameOnly Named lines → Q (λ n. expand_lines chart ends_of n lines) (λ n. expand_lines other ends_of n lines)
      lines_kept no_lines w = kept.nothing
      lines_kept (line_and (line label place node next) rest) (w, v) = kept.then (λ n. expand_node chart ends_of n node) (λ n. expand_node other ends_of n node) (λ n. expand_lines chart ends_of n rest) (λ n. expand_lines other ends_of n rest) (node_kept node w) (lines_kept rest v)

      pub node_kept : (node : Node) → NodeNamesOnly Named node → P (λ n. expand_node chart ends_of n node) (λ n. expand_node other ends_of n node)
      node_kept Ends w = kept.in_row (λ n. nothing n) (λ n. nothing n) kept.nothing
      node_kept Connect w = kept.in_row (λ n. nothing n) (λ n. nothing n) kept.nothing
      node_kept (Condition names) w = kept.in_row (λ n. nothing n) (λ n. nothing n) kept.nothing
      node_kept (graphs.Refer e) w = expression_kept no_gates e w
      node_kept (Frames held) w = kept.aside (λ n. expand_frames chart ends_of n held) (λ n. expand_frames other ends_of n held) (frames_kept held w)

      pub frames_kept : (held : Graphs) → FramesNameOnly Named held → Q (λ n. expand_frames chart ends_of n held) (λ n. expand_frames other ends_of n held)
      frames_kept no_graphs w = kept.nothing
      frames_kept (graph_and (graph starts lines) rest) (w, v) =
          kept.then (λ n. expand_graph chart ends_of n (graph starts lines)) (λ n. expand_graph other ends_of n (graph starts lines)) (λ n. expand_frames chart ends_of n rest) (λ n. expand_frames other ends_of n rest) (walk_kept (shape_of (graph starts lines)) (λ n. expand_lines chart ends_of n lines) (λ n. expand_lines other ends_of n lines) (lines_kept lines w)) (frames_kept rest v)

    pub walks_kept : (starts : List LabelRef) (lines : Lines) → LinesNameOnly Named lines → P (λ n. expand_graph chart ends_of n (graph starts lines)) (λ n. expand_graph other ends_of n (graph starts lines))
    walks_kept starts lines w = walk_kept (shape_of (graph starts lines)) (λ n. expand_lines chart ends_of n lines) (λ n. expand_lines other ends_of n lines) (lines_kept lines w)
