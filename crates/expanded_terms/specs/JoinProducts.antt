-- What joins add to the size of a reference: the inner events of the one gate times those of the other, counted in the expansion; and that
-- a chart and all that it names have few pairs, by their levels alone.
use Rattle.std.specs.Prelude.{◌≡◌, ◌≤◌, ℕ, zero, suc, ◌+◌, ◌*◌, List, [], ◌∷◌, Option, None, Some, length, true}
use Rattle.msc_unfolding.specs.Unfoldings.{Tag, On}
use Rattle.chart_term.specs.Terms.{weight}
use Rattle.term_meaning.specs.Portions.{Shown}
use Rattle.msc_tree.specs.declared.reference.Join.{Join}
use Rattle.msc_tree.specs.declared.reference.JoinEnd.{JoinEnd}
use Rattle.msc_tree.specs.declared.reference.JoinEnd.TheVariants as join_end
use Rattle.msc_tree.specs.Expressions.{Expression, Empty, Chart, Alt, Par, Seq, Opt, Expressions, none, more}
use Rattle.msc_tree.specs.Expressions as expression
use Rattle.msc_tree.specs.Graphs as tree
use Rattle.msc_tree.specs.Graphs.{graph, Lines, no_lines, line_and, line, Node, Ends, Connect, Condition, Frames, Graphs, no_graphs, graph_and}
use Rattle.msc_meaning.specs.Bodies.{ReferencePart, Body, level, WovenItems, no_items, item_and, WovenItem, Single, Coregion, Inline, Refer, Bodies, no_bodies, body_and}
use Rattle.msc_meaning.specs.Calls.{calls}
use Rattle.msc_meaning.specs.FarEnds.{GateMap}
use Rattle.msc_meaning.specs.InnerEvents.{GateEnd}
use Rattle.msc_meaning.specs.Tables.{Table, ChartEntry, chart_at, body_at, Woven, Basic, HighLevel, Refinement, refinements}
use Rattle.chart_forms.specs.TableSizes.{size_to}
use Rattle.gate_ends.specs.FoundEnds.{inner_to}
use Rattle.gate_ends.specs.JoinCounts.{reference_count}
use Rattle.expanded_terms.specs.ExpandedSizes.{AreLeavesLight}
use Rattle.expanded_terms.specs.ExpandedTerms.{Leaves, Charts, charts_to, items_shown}
use Rattle.expanded_terms.specs.FewPairs.{HasFewOwn}
use Rattle.chart_forms.specs.BuiltBodies.{has_operands}
use Rattle.expanded_terms.specs.NetWeights.{held_to}
use Rattle.expanded_terms.specs.TagNumbers.{numbers_with}

-- how many numbers have the tag
abbrev pub often : Tag → Shown → ℕ
often t sh = length (numbers_with t sh)

abbrev pub join_product : Shown → List ℕ → List ℕ → JoinEnd → ℕ
join_product sh own g (join_end.Env h) = 0
join_product sh own g (join_end.Reference name h) = often (On own g) sh * often (On name h) sh

abbrev pub joins_product : Shown → Option (List ℕ) → List Join → ℕ
joins_product sh None js = 0
joins_product sh (Some own) [] = 0
joins_product sh (Some own) (j ∷ js) = join_product sh own j.gate j.to + joins_product sh (Some own) js

abbrev pub product_in : Charts → WovenItems → ReferencePart → ℕ
product_in charts whole part = joins_product (items_shown charts (calls whole) 0 whole) part.name part.joins

-- ---- few pairs; Few: so has the chart of that name

module _ (Few : List ℕ → Type 0) where
  abbrev mutual
    pub IsFewExpression : Expression → Type 0
    IsFewExpression Empty = Unit {0}
    IsFewExpression (Chart name) = Few name
    IsFewExpression (Alt parts) = AreFewExpressions parts
    IsFewExpression (Par parts) = AreFewExpressions parts
    IsFewExpression (Seq parts) = AreFewExpressions parts
    IsFewExpression (Opt part) = IsFewExpression part
    IsFewExpression (expression.Loop lower upper part) = IsFewExpression part

    pub AreFewExpressions : Expressions → Type 0
    AreFewExpressions none = Unit {0}
    AreFewExpressions (more x xs) = IsFewExpression x × AreFewExpressions xs

  abbrev mutual
    pub IsFewLevel : Body → Type 0
    IsFewLevel (level cover held pairs) = HasFewOwn held pairs × AreFewItems held

    pub AreFewItems : WovenItems → Type 0
    AreFewItems no_items = Unit {0}
    AreFewItems (item_and x xs) = IsFewItem x × AreFewItems xs

    pub IsFewItem : WovenItem → Type 0
    IsFewItem (Single k) = Unit {0}
    IsFewItem (Coregion ks) = Unit {0}
    IsFewItem (Inline form part operands) = (has_operands form operands ≡ true) × AreFewOperands operands
    IsFewItem (Refer part) = IsFewExpression part.expression

    pub AreFewOperands : Bodies → Type 0
    AreFewOperands no_bodies = Unit {0}
    AreFewOperands (body_and b bs) = IsFewLevel b × AreFewOperands bs

  -- the body of a refining chart, where it is there
  abbrev pub IsFewBody : Option Body → Type 0
  IsFewBody None = Unit {0}
  IsFewBody (Some held) = IsFewLevel held

  abbrev pub AreFewRefined : Table → List Refinement → Type 0
  AreFewRefined table [] = Unit {0}
  AreFewRefined table (r ∷ rs) = IsFewBody (body_at table r.chart) × AreFewRefined table rs

  abbrev mutual
    pub AreFewLines : Lines → Type 0
    AreFewLines no_lines = Unit {0}
    AreFewLines (line_and (line label place node next) rest) = IsFewNode node × AreFewLines rest

    pub IsFewNode : Node → Type 0
    IsFewNode Ends = Unit {0}
    IsFewNode Connect = Unit {0}
    IsFewNode (Condition names) = Unit {0}
    IsFewNode (tree.Refer expression) = IsFewExpression expression
    IsFewNode (Frames held) = AreFewFrames held

    pub AreFewFrames : Graphs → Type 0
    AreFewFrames no_graphs = Unit {0}
    AreFewFrames (graph_and (graph starts lines) rest) = AreFewLines lines × AreFewFrames rest

  abbrev pub IsFewWoven : Table → List Refinement → Woven → Type 0
  IsFewWoven table [] (Basic held) = IsFewLevel held
  IsFewWoven table (r ∷ rs) (Basic held) = IsFewLevel held × AreFewRefined table (r ∷ rs)
  IsFewWoven table rs (HighLevel (graph starts lines)) = AreFewLines lines

  abbrev pub IsFewEntry : Table → Option ChartEntry → Type 0
  IsFewEntry table None = ⊥
  IsFewEntry table (Some entry) = IsFewWoven table (refinements entry.decls) entry.content

abbrev pub IsFewTo : Table → ℕ → List ℕ → Type 0
IsFewTo table zero name = ⊥
IsFewTo table (suc k) name = IsFewEntry (IsFewTo table k) table (chart_at table name)

-- then its term weighs, with the terms of the nodes of its walks, no more than its expanded size, and so no more than with the inner events of gates counted in the table
pub record ChartsAreLight : Type 0 where
  pub light : (leaves : Leaves) (ends_of : WovenItems → List GateEnd) (table : Table) (depth : ℕ) (name : List ℕ) (gates : GateMap) (n : ℕ)
      → AreLeavesLight leaves → IsFewTo table depth name
      → weight ((charts_to leaves ends_of table depth).term name gates n) + held_to leaves ends_of table depth name gates n ≤ size_to (λ k. product_in (charts_to leaves ends_of table k)) table depth name
  pub counted : (leaves : Leaves) (ends_of : WovenItems → List GateEnd) (table : Table) (depth : ℕ) (name : List ℕ) (gates : GateMap) (n : ℕ)
      → AreLeavesLight leaves → IsFewTo table depth name
      → weight ((charts_to leaves ends_of table depth).term name gates n) + held_to leaves ends_of table depth name gates n ≤ size_to (λ k. reference_count (inner_to table k)) table depth name
