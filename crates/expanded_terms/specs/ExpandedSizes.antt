-- That each level has few pairs: no more than its events, what these are ordered with, the open gates of its parts, and the products of its
-- joins leave room for. Then a chart's term weighs no more than the chart's expanded size.
use Rattle.std.specs.Prelude.{◌≡◌, ◌≤◌, ℕ, zero, suc, ◌+◌, List, [], ◌∷◌, Option, None, Some, length, true, if◌then◌else◌}
use Rattle.msc_unfolding.specs.Unfoldings.{Tag, Own, Via, On, Happening}
use Rattle.chart_term.specs.Terms.{weight}
use Rattle.term_meaning.specs.Portions.{Shown}
use Rattle.chart_forms.specs.TableSizes.{size_to}
use Rattle.general_ordering.specs.OrderCounts.{order_count, orders_count}
use Rattle.msc_tree.specs.Expressions.{Expression, Empty, Chart, Alt, Par, Seq, Opt, Expressions, none, more}
use Rattle.msc_tree.specs.Expressions as expression
use Rattle.msc_tree.specs.Graphs as tree
use Rattle.msc_tree.specs.Graphs.{graph, Lines, no_lines, line_and, line, Node, Ends, Connect, Condition, Frames, Graphs, no_graphs, graph_and}
use Rattle.msc_meaning.specs.Bodies.{EventNode, ReferencePart, Body, level, WovenItems, no_items, item_and, WovenItem, Single, Coregion, Inline, Refer, Bodies, no_bodies, body_and, events}
use Rattle.msc_meaning.specs.Calls.{calls}
use Rattle.msc_meaning.specs.FarEnds.{GateMap}
use Rattle.msc_meaning.specs.InnerEvents.{GateEnd}
use Rattle.msc_meaning.specs.Refinements.{Refining, refining, refinings, is_decomposed, without_decomposed}
use Rattle.msc_meaning.specs.Tables.{Table, ChartEntry, chart_at, Woven, Basic, HighLevel, Refinement, refinements}
use Rattle.msc_meaning.specs.Ties.{ties}
use Rattle.expanded_terms.specs.ExpandedTerms.{Leaves, graph_count, node_count, Charts, charts_to, expression_shown, level_shown, items_shown, operands_shown, refined_shown, woven_shown, expression_count, items_count, item_count, level_count}
use Rattle.chart_forms.specs.BuiltBodies.{has_operands}
use Rattle.expanded_terms.specs.NetWeights.{held_to}
use Rattle.expanded_terms.specs.TagNumbers.{tied_numbers}

-- ---- open gates

abbrev pub gates_in : Tag → ℕ
gates_in (Own n) = 0
gates_in (Via g) = 1
gates_in (On name g) = 0

-- how many tags are gates that nothing is tied to yet
abbrev pub open_gates : Shown → ℕ
open_gates [] = 0
open_gates (p ∷ sh) = gates_in p.1 + open_gates sh

-- ---- room for pairs

module _ (charts : Charts) (product : WovenItems → ReferencePart → ℕ) where
  abbrev pub events_room : List EventNode → ℕ
  events_room ns = length ns + length ns + orders_count ns

  abbrev pub item_room : WovenItems → ℕ → WovenItem → ℕ
  item_room whole n (Single e) = 2 + order_count e.event
  item_room whole n (Coregion es) = events_room es
  item_room whole n (Inline form part operands) = open_gates (operands_shown charts n operands)
  item_room whole n (Refer part) = 1 + open_gates (expression_shown charts n part.expression) + product whole part

  abbrev pub items_room : WovenItems → ℕ → WovenItems → ℕ
  items_room whole n no_items = 0
  items_room whole n (item_and x xs) = item_room whole n x + items_room whole (n + item_count charts x) xs

-- for each event of a decomposed instance what it counts in the size, as it isn't in the term
abbrev pub decomposed_room : List Refinement → List EventNode → ℕ
decomposed_room rs [] = 0
decomposed_room rs (e ∷ es) = (if is_decomposed rs e then 3 + order_count e.event else 0) + decomposed_room rs es

-- so many pairs, and so many gates that stay open, have room
pub record HaveRoom (pairs gates room : ℕ) : Type 0 where
  pub some : 1 ≤ pairs → 1 + pairs + gates ≤ room
  pub any : gates ≤ room

-- HasFew: the chart of that name has few pairs, its events numbered from n on
module _ (charts : Charts) (product : WovenItems → ReferencePart → ℕ) (ends_of : WovenItems → List GateEnd) (HasFew : List ℕ → ℕ → Type 0) where
  abbrev mutual
    pub HasFewInExpression : ℕ → Expression → Type 0
    HasFewInExpression n Empty = Unit {0}
    HasFewInExpression n (Chart name) = HasFew name n
    HasFewInExpression n (Alt parts) = HaveFewInExpressions n parts
    HasFewInExpression n (Par parts) = HaveFewInExpressions n parts
    HasFewInExpression n (Seq parts) = HaveFewInExpressions n parts
    HasFewInExpression n (Opt part) = HasFewInExpression n part
    HasFewInExpression n (expression.Loop lower upper part) = HasFewInExpression n part

    pub HaveFewInExpressions : ℕ → Expressions → Type 0
    HaveFewInExpressions n none = Unit {0}
    HaveFewInExpressions n (more x xs) = HasFewInExpression n x × HaveFewInExpressions (n + expression_count charts x) xs

  abbrev mutual
    pub HasFewPairs : ℕ → Body → Type 0
    HasFewPairs n (level cover held pairs) =
        HaveRoom (length (tied_numbers (items_shown charts (calls held) n held) (ties held pairs (calls held) (ends_of held)))) (open_gates (level_shown charts n (level cover held pairs))) (items_room charts product held n held)
        × HaveFewPairs n held

    pub HaveFewPairs : ℕ → WovenItems → Type 0
    HaveFewPairs n no_items = Unit {0}
    HaveFewPairs n (item_and x xs) = HasFewWithin n x × HaveFewPairs (n + item_count charts x) xs

    pub HasFewWithin : ℕ → WovenItem → Type 0
    HasFewWithin n (Single k) = Unit {0}
    HasFewWithin n (Coregion ks) = Unit {0}
    HasFewWithin n (Inline form part operands) = (has_operands form operands ≡ true) × EachHasFew n operands
    HasFewWithin n (Refer part) = HasFewInExpression n part.expression

    pub EachHasFew : ℕ → Bodies → Type 0
    EachHasFew n no_bodies = Unit {0}
    EachHasFew n (body_and b bs) = HasFewPairs n b × EachHasFew (n + level_count charts b) bs

  -- each refining chart is a level by itself
  abbrev pub HaveFewInRefinings : ℕ → List Refining → Type 0
  HaveFewInRefinings n [] = Unit {0}
  HaveFewInRefinings n (refining (level cover held pairs) ms ∷ rs) = HasFewPairs n (level cover held pairs) × HaveFewInRefinings (n + items_count charts held) rs

  abbrev mutual
    pub HaveFewInLines : ℕ → Lines → Type 0
    HaveFewInLines n no_lines = Unit {0}
    HaveFewInLines n (line_and (line label place node next) rest) = HasFewInNode n node × HaveFewInLines (n + node_count charts node) rest

    pub HasFewInNode : ℕ → Node → Type 0
    HasFewInNode n Ends = Unit {0}
    HasFewInNode n Connect = Unit {0}
    HasFewInNode n (Condition names) = Unit {0}
    HasFewInNode n (tree.Refer expression) = HasFewInExpression n expression
    HasFewInNode n (Frames held) = HaveFewInFrames n held

    pub HaveFewInFrames : ℕ → Graphs → Type 0
    HaveFewInFrames n no_graphs = Unit {0}
    HaveFewInFrames n (graph_and (graph starts lines) rest) = HaveFewInLines (suc n) lines × HaveFewInFrames (n + graph_count charts (graph starts lines)) rest

  -- the pairs of a whole body have the room of what is left of it, and of the events that it leaves to its refining charts
  abbrev pub HasFewInWoven : Table → ℕ → List Refinement → Woven → Type 0
  HasFewInWoven table n [] (Basic held) = HasFewPairs n held
  HasFewInWoven table n (r ∷ rs) (Basic (level cover held pairs)) =
      HaveRoom (length (tied_numbers (refined_shown charts table n (r ∷ rs) held) (ties held pairs (calls held) (ends_of held)))) (open_gates (woven_shown charts table n (r ∷ rs) (Basic (level cover held pairs))))
      (items_room charts product held n (without_decomposed (r ∷ rs) held) + decomposed_room (r ∷ rs) (events held))
      × HaveFewPairs n (without_decomposed (r ∷ rs) held)
      × HaveFewInRefinings (n + items_count charts (without_decomposed (r ∷ rs) held)) (refinings table held (r ∷ rs))
  HasFewInWoven table n rs (HighLevel (graph starts lines)) = HaveFewInLines (suc n) lines

  abbrev pub HasFewInEntry : Table → ℕ → Option ChartEntry → Type 0
  HasFewInEntry table n None = ⊥
  HasFewInEntry table n (Some entry) = HasFewInWoven table n (refinements entry.decls) entry.content

module _ (leaves : Leaves) (product : ℕ → WovenItems → ReferencePart → ℕ) (ends_of : WovenItems → List GateEnd) (table : Table) where
  abbrev pub HasFewTo : ℕ → List ℕ → ℕ → Type 0
  HasFewTo zero name n = ⊥
  HasFewTo (suc k) name n = HasFewInEntry (charts_to leaves ends_of table k) (product k) ends_of (HasFewTo k) table n (chart_at table name)

-- each event and each walk weighs 1 at most
pub record AreLeavesLight (leaves : Leaves) : Type 0 where
  pub events : (i : ℕ) (h : Happening) → weight (leaves.event i h) ≤ 1
  pub walks : (i : ℕ) → weight (leaves.walk i) ≤ 1

-- the term of a chart weighs, with the terms of the nodes of its walks, no more than the chart's expanded size, where each level has few pairs
pub record ExpandedTermsWeigh : Type 0 where
  pub weighs : (leaves : Leaves) (product : ℕ → WovenItems → ReferencePart → ℕ) (ends_of : WovenItems → List GateEnd) (table : Table) (depth : ℕ) (name : List ℕ) (gates : GateMap) (n : ℕ)
      → AreLeavesLight leaves → HasFewTo leaves product ends_of table depth name n
      → weight ((charts_to leaves ends_of table depth).term name gates n) + held_to leaves ends_of table depth name gates n ≤ size_to product table depth name
