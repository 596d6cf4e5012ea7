-- What is asked of a body or a graph whose term is made: that the called gates of each level have their ends and no others, that inline
-- expressions have as many operands as their form takes, that each event can be named where it stands, and that each walk goes through a
-- net whose nodes have the terms of the graph's. Events and walks are numbered from n on.
use Rattle.std.specs.Prelude.{◌≡◌, ◌+◌, ℕ, zero, suc, List, [], ◌∷◌, Some, true}
use Rattle.msc_base.specs.declared.label.Far.{Far}
use Rattle.msc_unfolding.specs.Unfoldings.{Happening}
use Rattle.chart_term.specs.Terms.{Tree}
use Rattle.hmsc_graph.specs.declared.shape.Shape.{Shape}
use Rattle.graph_shapes.specs.GraphShapes.{shape_of}
use Rattle.chart_forms.specs.BuiltBodies.{has_operands}
use Rattle.msc_tree.specs.Expressions.{Expression, Empty, Chart, Alt, Par, Seq, Opt, Expressions, none, more}
use Rattle.msc_tree.specs.Expressions as expression
use Rattle.msc_tree.specs.Graphs as tree
use Rattle.msc_tree.specs.Graphs.{Graph, graph, Lines, no_lines, line_and, line, Node, Ends, Connect, Condition, Frames, Graphs, no_graphs, graph_and}
use Rattle.msc_meaning.specs.Bodies.{EventNode, Body, level, WovenItems, no_items, item_and, WovenItem, Single, Coregion, Inline, Refer, Bodies, no_bodies, body_and}
use Rattle.msc_meaning.specs.Calls.{calls}
use Rattle.msc_meaning.specs.ChartUnfoldings.{gates_of, under, refined_under, refining_under}
use Rattle.msc_meaning.specs.FarEnds.{GateMap, no_gates, Around, Gates, gates_referred, inside, far_end, happening}
use Rattle.msc_meaning.specs.InnerEvents.{GateEnd, AreEnds}
use Rattle.msc_meaning.specs.MeaningLaws.{HaveOneEnd}
use Rattle.msc_meaning.specs.Refinements.{Refining, refining, refinings, without_decomposed}
use Rattle.msc_meaning.specs.Tables.{Table, ChartEntry, chart_at, Woven, Basic, HighLevel, Refinement, refinements}
use Rattle.expanded_terms.specs.ExpandedTerms.{Charts, Leaves, charts_to, expression_count, item_count, items_count, level_count, node_count, graph_count, lines_terms}

-- one at least
abbrev pub HasParts : Expressions → Type 0
HasParts none = ⊥
HasParts (more x xs) = Unit {0}

-- the ends of the called gates of a level, which are one list
pub record AreEndsOf (table : Table) (ends_of : WovenItems → List GateEnd) (held : WovenItems) : Type 0 where
  pub there : AreEnds table held (calls held) (ends_of held)
  pub one : HaveOneEnd table held (calls held)

-- Named: the event can be named; IsWalk: the walk of that number is one through that graph, whose nodes have these terms; IsFitChart: the
-- chart of that name is fit where its gates lead there
module _ (table : Table) (ends_of : WovenItems → List GateEnd) (leaves : Leaves) (Named : Happening → Type 0) (IsWalk : ℕ → Shape → List Tree → Type 0) (charts : Charts) (IsFitChart : List ℕ → GateMap → ℕ → Type 0) where
  abbrev pub AreFitEvents : List GateEnd → Around → List EventNode → Type 0
  AreFitEvents es around [] = Unit {0}
  AreFitEvents es around (k ∷ ks) = Named (happening es around k) × AreFitEvents es around ks

  abbrev mutual
    pub IsFitExpression : GateMap → ℕ → Expression → Type 0
    IsFitExpression gates n Empty = Unit {0}
    IsFitExpression gates n (Chart name) = IsFitChart name gates n
    IsFitExpression gates n (Alt parts) = HasParts parts × AreFitExpressions gates n parts
    IsFitExpression gates n (Par parts) = AreFitExpressions gates n parts
    IsFitExpression gates n (Seq parts) = AreFitExpressions gates n parts
    IsFitExpression gates n (Opt part) = IsFitExpression gates n part
    IsFitExpression gates n (expression.Loop lower upper part) = IsFitExpression gates n part

    pub AreFitExpressions : GateMap → ℕ → Expressions → Type 0
    AreFitExpressions gates n none = Unit {0}
    AreFitExpressions gates n (more x xs) = IsFitExpression gates n x × AreFitExpressions gates (n + expression_count charts x) xs

  abbrev mutual
    pub IsFitLevel : Around → ℕ → Body → Type 0
    IsFitLevel around n (level cover held pairs) = AreEndsOf table ends_of held × AreFitItems (gates_of held (ends_of held)) around n held

    pub AreFitItems : Gates → Around → ℕ → WovenItems → Type 0
    AreFitItems gates around n no_items = Unit {0}
    AreFitItems gates around n (item_and x xs) = IsFitItem gates around n x × AreFitItems gates around (n + item_count charts x) xs

    pub IsFitItem : Gates → Around → ℕ → WovenItem → Type 0
    IsFitItem gates around n (Single e) = Named (happening gates.ends around e)
    IsFitItem gates around n (Coregion es) = AreFitEvents gates.ends around es
    IsFitItem gates around n (Inline form part operands) = (has_operands form operands ≡ true) × AreFitOperands (inside gates part.name around) n operands
    IsFitItem gates around n (Refer part) = IsFitExpression (gates_referred gates part.name part.joins around.gates) n part.expression

    pub AreFitOperands : Around → ℕ → Bodies → Type 0
    AreFitOperands around n no_bodies = Unit {0}
    AreFitOperands around n (body_and b bs) = IsFitLevel around n b × AreFitOperands around (n + level_count charts b) bs

  abbrev pub AreFitRefinings : (EventNode → Far) → ℕ → List Refining → Type 0
  AreFitRefinings far_of n [] = Unit {0}
  AreFitRefinings far_of n (refining (level cover held pairs) ms ∷ rs) =
      (AreEndsOf table ends_of held × AreFitItems (gates_of held (ends_of held)) (refining_under far_of ms) n held) × AreFitRefinings far_of (n + items_count charts held) rs

  abbrev mutual
    pub IsFitGraph : ℕ → Graph → Type 0
    IsFitGraph n (graph starts lines) = IsWalk n (shape_of (graph starts lines)) (lines_terms charts leaves ends_of (suc n) lines) × AreFitLines (suc n) lines

    pub AreFitLines : ℕ → Lines → Type 0
    AreFitLines n no_lines = Unit {0}
    AreFitLines n (line_and (line label place node next) rest) = IsFitNode n node × AreFitLines (n + node_count charts node) rest

    pub IsFitNode : ℕ → Node → Type 0
    IsFitNode n Ends = Unit {0}
    IsFitNode n Connect = Unit {0}
    IsFitNode n (Condition names) = Unit {0}
    IsFitNode n (tree.Refer expression) = IsFitExpression no_gates n expression
    IsFitNode n (Frames held) = AreFitFrames n held

    pub AreFitFrames : ℕ → Graphs → Type 0
    AreFitFrames n no_graphs = Unit {0}
    AreFitFrames n (graph_and drawn rest) = IsFitGraph n drawn × AreFitFrames (n + graph_count charts drawn) rest

  abbrev pub IsFitWoven : GateMap → ℕ → List Refinement → Woven → Type 0
  IsFitWoven gates n [] (Basic held) = IsFitLevel (under gates) n held
  IsFitWoven gates n (r ∷ rs) (Basic (level cover held pairs)) =
      AreEndsOf table ends_of held
      × AreFitItems (gates_of held (ends_of held)) (refined_under gates pairs (refinings table held (r ∷ rs))) n (without_decomposed (r ∷ rs) held)
      × AreFitRefinings (far_end (ends_of held) (refined_under gates pairs (refinings table held (r ∷ rs)))) (n + items_count charts (without_decomposed (r ∷ rs) held)) (refinings table held (r ∷ rs))
  IsFitWoven gates n rs (HighLevel drawn) = IsFitGraph n drawn

  -- the chart has an entry, which is fit where each chart that it names is
  pub record HasFitEntry (name : List ℕ) (gates : GateMap) (n : ℕ) : Type 0 where
    pub entry : ChartEntry
    pub is : chart_at table name ≡ Some entry
    pub fit : IsFitWoven gates n (refinements entry.decls) entry.content

-- the chart is fit, and its references stand in each other less than so deep
module _ (table : Table) (ends_of : WovenItems → List GateEnd) (leaves : Leaves) (Named : Happening → Type 0) (IsWalk : ℕ → Shape → List Tree → Type 0) where
  abbrev pub IsFitTo : ℕ → List ℕ → GateMap → ℕ → Type 0
  IsFitTo zero name gates n = ⊥
  IsFitTo (suc k) name gates n = HasFitEntry table ends_of leaves Named IsWalk (charts_to leaves ends_of table k) (IsFitTo k) name gates n
