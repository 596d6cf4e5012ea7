-- The loops with a bound above the limit, at any depth of a chart's text, and in the expressions of its nodes.
use Rattle.std.specs.Prelude.{ℕ, Bool, false, ◌||◌, List, [], ◌++◌, Option, Some, None, nat_lt}
use Rattle.std.specs.List.{flat_map}
use Rattle.chart_text.specs.Gathering.{place_if}
use Rattle.chart_text.specs.Texts.{Passage, a_head, a_statement, an_item, an_operand, chart_text}
use Rattle.graph_text.specs.GraphTexts.{GraphPart, a_graph, a_line, graph_text}
use Rattle.msc_base.specs.Lists.{IsAmong}
use Rattle.msc_base.specs.declared.limits.TheConstants.Limits.{LOOP_BOUND}
use Rattle.msc_base.specs.declared.place.Place.{Place}
use Rattle.msc_tree.specs.declared.reference.InlineForm.{InlineForm}
use Rattle.msc_tree.specs.declared.reference.InlineForm.TheVariants as inline
use Rattle.msc_tree.specs.Charts.{Chart}
use Rattle.msc_tree.specs.Expressions.{Expression, Expressions, none, more}
use Rattle.msc_tree.specs.Expressions as expression
use Rattle.msc_tree.specs.Graphs.{Node}
use Rattle.msc_tree.specs.Graphs as graph
use Rattle.msc_tree.specs.Statements.{Form, Single, Coregion, Condition, Inline, Refer, Stop}

abbrev is_high : ℕ → Bool
is_high bound = nat_lt LOOP_BOUND bound

abbrev is_end_high : Option ℕ → Bool
is_end_high None = false
is_end_high (Some bound) = is_high bound

-- one of the bounds of a loop is above the limit; other forms have none
abbrev pub has_high_bound : InlineForm → ℕ → Option ℕ → Bool
has_high_bound inline.Loop lower upper = is_high lower || is_end_high upper
has_high_bound inline.Alt lower upper = false
has_high_bound inline.Opt lower upper = false
has_high_bound inline.Par lower upper = false
has_high_bound inline.Exc lower upper = false

-- a loop of an expression, at any depth
abbrev mutual
  pub has_high_loop : Expression → Bool
  has_high_loop expression.Empty = false
  has_high_loop (expression.Chart name) = false
  has_high_loop (expression.Alt parts) = have_high_loop parts
  has_high_loop (expression.Par parts) = have_high_loop parts
  has_high_loop (expression.Seq parts) = have_high_loop parts
  has_high_loop (expression.Opt part) = has_high_loop part
  has_high_loop (expression.Loop lower upper part) = has_high_bound inline.Loop lower upper || has_high_loop part

  pub have_high_loop : Expressions → Bool
  have_high_loop none = false
  have_high_loop (more x xs) = has_high_loop x || have_high_loop xs

-- an item by itself; that of a reference has the place of the reference
abbrev pub high_item : Place → Form → List Place
high_item place (Inline head held) = place_if (has_high_bound head.form head.lower head.upper) place
high_item place (Single e) = []
high_item place (Coregion es) = []
high_item place (Condition names shared) = []
high_item place (Refer reference) = place_if (has_high_loop reference.expression) place
high_item place Stop = []

-- the places of such loops, by the passages of the text
abbrev pub high_bounds : Passage → List Place
high_bounds (a_head decl) = []
high_bounds (a_statement depth scope x) = []
high_bounds (an_item s place form) = high_item place form
high_bounds (an_operand s x) = []

-- a node; its expression has the place of its line
abbrev pub high_node : Place → Node → List Place
high_node place (graph.Refer e) = place_if (has_high_loop e) place
high_node place graph.Ends = []
high_node place graph.Connect = []
high_node place (graph.Condition names) = []
high_node place (graph.Frames held) = []

-- a part of a graph by itself
abbrev pub high_part : GraphPart → List Place
high_part (a_graph depth drawn) = []
high_part (a_line depth place node) = high_node place node

-- the places of a chart
abbrev pub high_chart : Chart → List Place
high_chart chart = flat_map high_bounds (chart_text chart) ++ flat_map high_part (graph_text chart.content)

-- such a loop stands there
abbrev pub HasHighBound : Chart → Place → Type 0
HasHighBound chart p = IsAmong (high_chart chart) p
