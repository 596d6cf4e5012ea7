-- The choices of a chart, side by side with the parts of its expansion.
use Rattle.std.specs.Prelude.{ℕ, List, [], ◌∷◌, ◌++◌, Option, Some}
use Rattle.std.proofs.Common.{◌≡◌, ◌∙◌, ap, refl, subst, sym}
use Rattle.std.proofs.lemmas.Option.{same_Some}
use Rattle.msc_base.specs.declared.label.Label.{Label}
use Rattle.msc_base.specs.declared.label.Pair.{Pair}
use Rattle.msc_tree.specs.Graphs.{Graph}
use Rattle.msc_meaning.specs.Bodies.{Body, WovenItems, level}
use Rattle.msc_meaning.specs.Calls.{calls}
use Rattle.msc_meaning.specs.ChartUnfoldings.{gates_of, refined_under, under}
use Rattle.msc_meaning.specs.FarEnds.{Around, far_end, no_gates}
use Rattle.msc_meaning.specs.Refinements.{Refining, refinings, without_decomposed}
use Rattle.msc_meaning.specs.Tables.{Basic, ChartEntry, HighLevel, Refinement, Table, Woven, chart_at, refinements}
use Rattle.msc_meaning.specs.Ties.{ties}
use Rattle.gate_ends.specs.EndLaws.{EndsAreFound}
use Rattle.gate_ends.specs.FoundEnds.{table_ends}
use Rattle.expansion_tree.specs.Expansions.{Expansion, map_events}
use Rattle.expansion_tree.specs.Numbered as numbered
use Rattle.expansion_order.specs.Ranks.{CanBeRanked}
use Rattle.expanded_charts.specs.Expanding.{Expanded, ExpandedParts, NumberedEvent, expand_charts, expand_entry, expand_items, expand_refinings, expand_woven, tied_pairs}
use Rattle.expanded_terms.specs.PlacedTerms.{EventsArePlaced}
use Rattle.expanded_terms.specs.WholeCharts.{HasWholeEntry, IsWholeTo, IsWholeWoven}
use Rattle.node_ranks.specs.NamedCharts.{HasEntry, IsNestedTo, WovenNamesOnly}
use Rattle.node_ranks.specs.NodeRanks.{NodesAreRanked}
use Rattle.node_ranks.proofs.Placed.{charts_placed}
use Rattle.made_terms.specs.DrawnWalks.{WalksAreDrawn}
use Rattle.table_terms.specs.TableTerms.{chart_expansion, chart_numbering, numbered_chart}
use Rattle.table_terms.proofs.NumberedCharts.{chart_same, named_once}
use Rattle.choice_meaning.specs.Choices.{woven_choices}
use Rattle.choice_parts.specs.ChoiceParts.{woven_parts}
use Rattle.choice_terms.specs.ChoiceLaws.{ChoicesHaveParts, IsJudgedChart}
use Rattle.choice_terms.specs.JudgedParts.{AreChoiceParts, no_choice}
use Rattle.choice_terms.proofs.FoundParts.{items_found, level_found}
use Rattle.choice_terms.proofs.GoodCharts.{good_chart}
use Rattle.choice_terms.proofs.ItemPlaces.{refinings_placed}
use Rattle.choice_terms.proofs.PartFacts.{IsGoodPart, f, left_row}
use Rattle.choice_terms.proofs.RowOperands.{AreLaws}

module _ (laws : AreLaws) (placing : EventsArePlaced) (drawn : WalksAreDrawn) (nodes : NodesAreRanked) (found : EndsAreFound) (table : Table) (name : List ℕ) (chart : ChartEntry) (is : chart_at table name ≡ Some chart) (h : IsJudgedChart table name) where
  abbrev names : List (List ℕ)
  names = (chart_numbering table name).names

  abbrev labels : List Label
  labels = (chart_numbering table name).labels

  abbrev woven : List Refinement → Woven → Expanded
  woven rs w = expand_woven (expand_charts (table_ends table) table 255) (table_ends table) table no_gates 0 rs w

  -- what is asked of its content
  abbrev IsWhole : List Refinement → Woven → Type 0
  IsWhole rs w = IsWholeWoven table (table_ends table) (IsWholeTo table (table_ends table) 255) rs w

  abbrev Names : List Refinement → Woven → Type 0
  Names rs w = WovenNamesOnly (IsNestedTo table 255) table rs w

  abbrev Good : Expanded → Type 0
  Good e = IsGoodPart names labels e.part

  abbrev Ranked : Expanded → Type 0
  Ranked e = CanBeRanked (map_events (f names labels) e.part)

  abbrev Found : List Refinement → Woven → numbered.Expansion → Type 0
  Found rs w y = AreChoiceParts names labels table (woven_choices rs w) (woven_parts rs w y)

  left_found : (r : Refinement) (rs : List Refinement) (held : WovenItems) (cover : List (List ℕ)) (pairs : List Pair) → IsWhole (r ∷ rs) (Basic (level cover held pairs)) → Names (r ∷ rs) (Basic (level cover held pairs)) → Good (woven (r ∷ rs) (Basic (level cover held pairs)))
      → Ranked (woven (r ∷ rs) (Basic (level cover held pairs))) → Found (r ∷ rs) (Basic (level cover held pairs)) (map_events (f names labels) (woven (r ∷ rs) (Basic (level cover held pairs))).part)
  left_found r rs held cover pairs there only good ranked =
      items_found laws names labels (named_once table name).names (named_once table name).labels table (table_ends table) 255 (IsNestedTo table 255) (charts_placed (table_ends table) table 255)
      around held pairs there.0 0 (without_decomposed (r ∷ rs) held) [] fine.shown ps refl there.1 only.0 (left_row names labels ps left.parts fine.parts good ranked) (λ p i. elim i [ ])
      (λ p i. ((refinings_placed (table_ends table) (expand_charts (table_ends table) table 255) (IsNestedTo table 255) (charts_placed (table_ends table) table 255) (far_end (table_ends table held) around) refined only.1 left.next).shown p i).0)
    where
      refined : List Refining
      refined = refinings table held (r ∷ rs)

      around : Around
      around = refined_under no_gates pairs refined

      left : ExpandedParts
      left = expand_items (expand_charts (table_ends table) table 255) (table_ends table) (gates_of held (table_ends table held)) around 0 (without_decomposed (r ∷ rs) held)

      fine : ExpandedParts
      fine = expand_refinings (expand_charts (table_ends table) table 255) (table_ends table) (far_end (table_ends table held) around) left.next refined

      ps : List Pair
      ps = tied_pairs (left.shown ++ fine.shown) (ties held pairs (calls held) (table_ends table held))

  basic_found : (rs : List Refinement) (body : Body) → IsWhole rs (Basic body) → Names rs (Basic body) → Good (woven rs (Basic body)) → Ranked (woven rs (Basic body)) → Found rs (Basic body) (map_events (f names labels) (woven rs (Basic body)).part)
  basic_found [] body there only good ranked =
      level_found laws names labels (named_once table name).names (named_once table name).labels table (table_ends table) 255 (IsNestedTo table 255) (charts_placed (table_ends table) table 255) (under no_gates) 0 body there only good ranked
  basic_found (r ∷ rs) (level cover held pairs) there only good ranked = left_found r rs held cover pairs there only good ranked

  -- a graph has no choices
  graph_found : (rs : List Refinement) (drawn_one : Graph) (y : numbered.Expansion) → Found rs (HighLevel drawn_one) y
  graph_found [] d y = no_choice
  graph_found (r ∷ rs) d y = no_choice

  -- ---- by the chart's content

  abbrev own : List Refinement
  own = refinements chart.decls

  at_content : chart_expansion table name ≡ (woven own chart.content).part
  at_content = ap (λ (o : Option ChartEntry). (expand_entry (table_ends table) table (expand_charts (table_ends table) table 255) no_gates 0 o).part) is

  by_content : (w : Woven) → chart.content ≡ w → IsWhole own w → Names own w → Ranked (woven own w) → Found own w (map_events (f names labels) (woven own w).part)
  by_content (Basic body) q there only ranked =
      let same : chart_expansion table name ≡ (woven own (Basic body)).part = at_content ∙ ap (λ (w : Woven). (woven own w).part) q in
      basic_found own body there only (subst (λ (x : Expansion NumberedEvent). IsGoodPart names labels x) same (good_chart placing drawn nodes found table name h chart is body q)) ranked
  by_content (HighLevel d) q there only ranked = graph_found own d (map_events (f names labels) (woven own (HighLevel d)).part)

  there : IsWhole own chart.content
  there = let w : HasWholeEntry table (table_ends table) (IsWholeTo table (table_ends table) 255) name = h.whole in
      subst (λ (c : ChartEntry). IsWhole (refinements c.decls) c.content) (same_Some w.entry chart (sym w.is ∙ is)) w.whole

  only : Names own chart.content
  only = let w : HasEntry table (IsNestedTo table 255) name = h.graphs.nested in
      subst (λ (c : ChartEntry). Names (refinements c.decls) c.content) (same_Some w.entry chart (sym w.is ∙ is)) w.names

  numbered_same : numbered_chart table name ≡ map_events (f names labels) (woven own chart.content).part
  numbered_same = chart_same table name ∙ ap (λ (x : Expansion NumberedEvent). map_events (f names labels) x) at_content

  chart_found : Found own chart.content (numbered_chart table name)
  chart_found = subst (λ (y : numbered.Expansion). Found own chart.content y) (sym numbered_same)
      (by_content chart.content refl there only (subst (λ (y : numbered.Expansion). CanBeRanked y) numbered_same h.ranked))

pub choices_have_parts : AreLaws → EventsArePlaced → WalksAreDrawn → NodesAreRanked → EndsAreFound → ChoicesHaveParts
choices_have_parts laws placing drawn nodes found table name chart is h = chart_found laws placing drawn nodes found table name chart is h
