-- What is asked of a chart of a table, in two halves: of its text with the charts that it names, whatever its gates; and of each event and
-- each walk of its expansion.
use Rattle.std.specs.Prelude.{◌≡◌, ℕ, zero, suc, List, [], ◌∷◌, Some, true}
use Rattle.msc_base.specs.declared.label.Label.{Label}
use Rattle.msc_base.specs.Orders.{Among}
use Rattle.msc_tree.specs.Expressions.{Expression, Empty, Chart, Alt, Par, Seq, Opt, Expressions, none, more}
use Rattle.msc_tree.specs.Expressions as expression
use Rattle.msc_tree.specs.Graphs as tree
use Rattle.msc_tree.specs.Graphs.{graph, Lines, no_lines, line_and, line, Node, Ends, Connect, Condition, Frames, Graphs, no_graphs, graph_and}
use Rattle.msc_meaning.specs.Bodies.{Body, level, WovenItems, no_items, item_and, WovenItem, Single, Coregion, Inline, Refer, Bodies, no_bodies, body_and}
use Rattle.msc_meaning.specs.FarEnds.{GateMap}
use Rattle.msc_meaning.specs.InnerEvents.{GateEnd}
use Rattle.msc_meaning.specs.Refinements.{Refining, refining, refinings, without_decomposed}
use Rattle.msc_meaning.specs.Tables.{Table, ChartEntry, chart_at, Woven, Basic, HighLevel, Refinement, refinements}
use Rattle.chart_forms.specs.BuiltBodies.{has_operands}
use Rattle.chart_term.specs.Tables.{Tables}
use Rattle.expansion_tree.specs.Expansions.{all_events_in, events_in}
use Rattle.expansion_tree.specs.Walks.{EachWalk, EachWalkIn}
use Rattle.expanded_charts.specs.Expanding.{NumberedEvent, expand_charts, expand_lines}
use Rattle.expansion_terms.specs.ExpansionTerms.{part_terms}
use Rattle.expanded_terms.specs.ExpandedTerms.{Leaves, charts_to}
use Rattle.expanded_terms.specs.ExpansionLaws.{event_by}
use Rattle.expanded_terms.specs.GraphWalks.{IsGraphWalk}
use Rattle.expanded_terms.specs.FitBodies.{HasParts, AreEndsOf, AreFitLines, IsFitTo}
use Rattle.expanded_terms.specs.NamedEvents.{IsNameable}

-- ---- by the text; IsWholeChart: so is the chart of that name

module _ (table : Table) (ends_of : WovenItems → List GateEnd) (IsWholeChart : List ℕ → Type 0) where
  abbrev mutual
    pub IsWholeExpression : Expression → Type 0
    IsWholeExpression Empty = Unit {0}
    IsWholeExpression (Chart name) = IsWholeChart name
    IsWholeExpression (Alt parts) = HasParts parts × AreWholeExpressions parts
    IsWholeExpression (Par parts) = AreWholeExpressions parts
    IsWholeExpression (Seq parts) = AreWholeExpressions parts
    IsWholeExpression (Opt part) = IsWholeExpression part
    IsWholeExpression (expression.Loop lower upper part) = IsWholeExpression part

    pub AreWholeExpressions : Expressions → Type 0
    AreWholeExpressions none = Unit {0}
    AreWholeExpressions (more x xs) = IsWholeExpression x × AreWholeExpressions xs

  abbrev mutual
    pub IsWholeLevel : Body → Type 0
    IsWholeLevel (level cover held pairs) = AreEndsOf table ends_of held × AreWholeItems held

    pub AreWholeItems : WovenItems → Type 0
    AreWholeItems no_items = Unit {0}
    AreWholeItems (item_and x xs) = IsWholeItem x × AreWholeItems xs

    pub IsWholeItem : WovenItem → Type 0
    IsWholeItem (Single k) = Unit {0}
    IsWholeItem (Coregion ks) = Unit {0}
    IsWholeItem (Inline form part operands) = (has_operands form operands ≡ true) × AreWholeOperands operands
    IsWholeItem (Refer part) = IsWholeExpression part.expression

    pub AreWholeOperands : Bodies → Type 0
    AreWholeOperands no_bodies = Unit {0}
    AreWholeOperands (body_and b bs) = IsWholeLevel b × AreWholeOperands bs

  abbrev pub AreWholeRefinings : List Refining → Type 0
  AreWholeRefinings [] = Unit {0}
  AreWholeRefinings (refining b ms ∷ rs) = IsWholeLevel b × AreWholeRefinings rs

  abbrev mutual
    pub AreWholeLines : Lines → Type 0
    AreWholeLines no_lines = Unit {0}
    AreWholeLines (line_and (line label place node next) rest) = IsWholeNode node × AreWholeLines rest

    pub IsWholeNode : Node → Type 0
    IsWholeNode Ends = Unit {0}
    IsWholeNode Connect = Unit {0}
    IsWholeNode (Condition names) = Unit {0}
    IsWholeNode (tree.Refer expression) = IsWholeExpression expression
    IsWholeNode (Frames held) = AreWholeFrames held

    pub AreWholeFrames : Graphs → Type 0
    AreWholeFrames no_graphs = Unit {0}
    AreWholeFrames (graph_and (graph starts lines) rest) = AreWholeLines lines × AreWholeFrames rest

  -- the whole level, and what is left of it beside its refining charts; or the lines of the graph
  abbrev pub IsWholeWoven : List Refinement → Woven → Type 0
  IsWholeWoven [] (Basic held) = IsWholeLevel held
  IsWholeWoven (r ∷ rs) (Basic (level cover held pairs)) = AreEndsOf table ends_of held × AreWholeItems (without_decomposed (r ∷ rs) held) × AreWholeRefinings (refinings table held (r ∷ rs))
  IsWholeWoven rs (HighLevel (graph starts lines)) = AreWholeLines lines

pub record HasWholeEntry (table : Table) (ends_of : WovenItems → List GateEnd) (IsWholeChart : List ℕ → Type 0) (name : List ℕ) : Type 0 where
  pub entry : ChartEntry
  pub is : chart_at table name ≡ Some entry
  pub whole : IsWholeWoven table ends_of IsWholeChart (refinements entry.decls) entry.content

abbrev pub IsWholeTo : Table → (WovenItems → List GateEnd) → ℕ → List ℕ → Type 0
IsWholeTo table ends_of zero name = ⊥
IsWholeTo table ends_of (suc k) name = HasWholeEntry table ends_of (IsWholeTo table ends_of k) name

-- both halves make it fit, over tables with the nets of its walks
pub record WholeChartsAreFit : Type 0 where
  pub fit : (names : List (List ℕ)) (labels : List Label) (w : Tables) (leaves : Leaves) (table : Table) (ends_of : WovenItems → List GateEnd) (depth : ℕ) (name : List ℕ) (gates : GateMap) (n : ℕ) → IsWholeTo table ends_of depth name
      → ((e : NumberedEvent) → Among e (events_in (expand_charts ends_of table depth name gates n).part) → IsNameable names labels e.happening)
      → EachWalk (λ m g xs. IsGraphWalk w g (part_terms (event_by leaves) leaves.walk xs) (leaves.walk m)) (expand_charts ends_of table depth name gates n).part
      → IsFitTo table ends_of leaves (IsNameable names labels) (λ m g nodes. IsGraphWalk w g nodes (leaves.walk m)) depth name gates n
  -- the same of the lines of a graph
  pub lines : (names : List (List ℕ)) (labels : List Label) (w : Tables) (leaves : Leaves) (table : Table) (ends_of : WovenItems → List GateEnd) (depth : ℕ) (n : ℕ) (held : Lines) → AreWholeLines table ends_of (IsWholeTo table ends_of depth) held
      → ((e : NumberedEvent) → Among e (all_events_in (expand_lines (expand_charts ends_of table depth) ends_of n held).parts) → IsNameable names labels e.happening)
      → EachWalkIn (λ m g xs. IsGraphWalk w g (part_terms (event_by leaves) leaves.walk xs) (leaves.walk m)) (expand_lines (expand_charts ends_of table depth) ends_of n held).parts
      → AreFitLines table ends_of leaves (IsNameable names labels) (λ m g nodes. IsGraphWalk w g nodes (leaves.walk m)) (charts_to leaves ends_of table depth)
      (IsFitTo table ends_of leaves (IsNameable names labels) (λ m g nodes. IsGraphWalk w g nodes (leaves.walk m)) depth) n held
