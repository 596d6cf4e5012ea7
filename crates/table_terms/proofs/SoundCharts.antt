-- The term of a chart, and its nets, are sound.
use Rattle.std.specs.Prelude.{ℕ, ◌<◌, ◌≤◌, List, [], length}
use Rattle.std.proofs.Common.{◌≡◌, refl, sym, subst, arith}
use Rattle.msc_base.specs.declared.label.Label.{Label}
use Rattle.msc_base.specs.declared.limits.TheConstants.Limits.{EXPANDED_NESTING, NODE_LINES}
use Rattle.msc_base.specs.Orders.{Among}
use Rattle.std.proofs.lemmas.List.{length-map}
use Rattle.hmsc_graph.specs.declared.shape.Shape.{Shape}
use Rattle.hmsc_graph.specs.declared.shape.ShapeLine.{ShapeLine}
use Rattle.term_laws.specs.FullSoundness.{AreSoundNets, IsFullySound}
use Rattle.term_tables.specs.NetValues.{NetsValue}
use Rattle.msc_tree.specs.Graphs.{graph, Lines}
use Rattle.msc_meaning.specs.FarEnds.{no_gates}
use Rattle.msc_meaning.specs.Tables.{Table, Woven, Basic, HighLevel, refinements}
use Rattle.expansion_tree.specs.Expansions.{Expansion, events_in, map_all_events, map_events}
use Rattle.expansion_tree.specs.Numbered as numbered
use Rattle.expansion_tree.specs.Walks.{EachWalk}
use Rattle.expansion_tree.specs.declared.tree.ExpandedEvent.{ExpandedEvent}
use Rattle.expansion_order.specs.Ranks.{CanBeRanked}
use Rattle.expanded_charts.specs.Expanding.{NumberedEvent, expand_charts, expand_lines}
use Rattle.expanded_charts.specs.Numbering.{event_by}
use Rattle.gate_ends.specs.EndLaws.{EndsAreFound}
use Rattle.gate_ends.specs.FoundEnds.{table_ends}
use Rattle.expansion_terms.specs.MadeTerms.{HasWholeGraphs, IsWholeGraph, made, parts_count}
use Rattle.expanded_terms.specs.ExpansionNumbers.{CountFrom, numbers_by}
use Rattle.expanded_terms.specs.GateTies.{IsQuietTable}
use Rattle.expanded_terms.specs.GraphWalks.{IsWholeNet}
use Rattle.expanded_terms.specs.RankedTerms.{EachTie, IsOwn, expanded_number}
use Rattle.expanded_terms.proofs.GateTies.{gate_ties_free, outside_ties}
use Rattle.expanded_terms.proofs.RankedChartTerms.{chart_counted, chart_labelled, numbered_event, numbered_expansion, own_ties}
use Rattle.expanded_terms.proofs.TiesWithin.{ties_within}
use Rattle.node_ranks.specs.NamedCharts.{WovenNamesOnly}
use Rattle.node_ranks.specs.NodeRanks.{AreRankedAlone, EachPart, NodesAreRanked}
use Rattle.made_terms.specs.DrawnWalks.{AreEnding, IsDrawnGraph, IsEndingTo, WalksAreDrawn, woven_graphs}
use Rattle.made_terms.specs.MadeTerms.{AreEndsEmpty, CanBeMade, IsSoundGraph, MadeTermsAreSound}
use Rattle.table_terms.specs.SoundGraphs.{HasSoundGraphs, IsJudgedContent, IsJudgedTo}
use Rattle.table_terms.specs.TableTerms.{chart_expansion, chart_made, chart_numbering, numbered_chart}
use Rattle.table_terms.proofs.ChartWalks.{line_names, walk_is}
use Rattle.table_terms.proofs.EachWalks.{both_walks, each_walk, each_walk_in}
use Rattle.table_terms.proofs.InstanceNumbers.{has_columns, keeps, tells_own}
use Rattle.table_terms.proofs.NumberedCharts.{chart_has, chart_nameable, chart_same, number_kept}

-- each label is that of one line; there is a part for each line, and in those of end lines nothing happens
pub record IsLabelledGraph (g : Shape) (xs : numbered.Expansions) : Type 0 where
  pub whole : IsWholeNet g
  pub each : parts_count xs ≡ length g.lines
  pub ends : AreEndsEmpty g.lines xs

sound_of : (m : ℕ) (g : Shape) (xs : numbered.Expansions) → IsLabelledGraph g xs → EachPart CanBeRanked xs → IsSoundGraph g xs
sound_of m g xs h r = record { net = h.whole.net; each = h.each; ends = h.ends; ranked = r }

few_lines : (g : Shape) → IsWholeNet g → length g.lines ≤ NODE_LINES
few_lines g h = let few = h.net.few in let many = length-map g.lines (λ (line : ShapeLine). line.ends) in omega (arith, few, many)

whole_of : (m : ℕ) (g : Shape) (xs : numbered.Expansions) → IsLabelledGraph g xs → IsWholeGraph g xs
whole_of m g xs h = record { faultless = h.whole.faultless; few = few_lines g h.whole; each = h.each }

pub none_ending : AreEnding []
none_ending g i = elim i [ ]

-- ---- the graphs of a chart's expansion, under any numbers of its instances and labels

module _ (drawn : WalksAreDrawn) (f : NumberedEvent → ExpandedEvent) (table : Table) (name : List ℕ) where
  abbrev lines_at : Lines → numbered.Expansions
  lines_at lines = map_all_events f (expand_lines (expand_charts (table_ends table) table 255) (table_ends table) 1 lines).parts

  drawn_labelled : (m : ℕ) (g : Shape) (xs : numbered.Expansions) → IsDrawnGraph g xs → IsLabelledGraph g xs
  drawn_labelled m g xs h = record { whole = h.ending.whole; each = h.each; ends = h.ends }

  pub labelled : IsJudgedTo table EXPANDED_NESTING name → EachWalk (λ m g xs. IsLabelledGraph g xs) (map_events f (chart_expansion table name))
  labelled j = by j.has.entry.content refl j.content
    where
      by : (w : Woven) → j.has.entry.content ≡ w → IsJudgedContent w → EachWalk (λ m g xs. IsLabelledGraph g xs) (map_events f (chart_expansion table name))
      by (Basic held) q c = each_walk (λ m g xs. IsDrawnGraph g xs) (λ m g xs. IsLabelledGraph g xs) drawn_labelled (map_events f (chart_expansion table name))
          (drawn.walks f (table_ends table) table 255 name no_gates 0 j.has (subst (λ (w : Woven). AreEnding (woven_graphs w)) (sym q) none_ending))
      by (HighLevel (graph starts lines)) q c =
          let names = line_names (IsEndingTo table 255) table (refinements j.has.entry.decls) starts lines (subst (λ (w : Woven). WovenNamesOnly (IsEndingTo table 255) table (refinements j.has.entry.decls) w) q j.has.names) in
          let parts = drawn.parts f (table_ends table) table 255 1 lines in
          subst (λ (x : Expansion NumberedEvent). EachWalk (λ m g xs. IsLabelledGraph g xs) (map_events f x)) (sym (walk_is (table_ends table) table no_gates 0 255 name j.has.entry j.has.is starts lines q))
          ((record { whole = c.0; each = parts.each; ends = parts.ends }), each_walk_in (λ m g xs. IsDrawnGraph g xs) (λ m g xs. IsLabelledGraph g xs) drawn_labelled (lines_at lines) (drawn.lines f (table_ends table) table 255 1 lines names c.1))

-- ---- ranks of nodes

module _ (table : Table) where
  ranked_alone : (name : List ℕ) → HasSoundGraphs table name → AreRankedAlone (table_ends table) table EXPANDED_NESTING EXPANDED_NESTING
  ranked_alone name h k other l w = record {
    numbering = event_by (chart_numbering table other);
    keeps = keeps (chart_numbering table other);
    shares = has_columns (chart_numbering table other) (events_in (chart_expansion table other));
    ranked = h.ranked k other l w;
  }

-- ---- the chart

module _ (table : Table) (name : List ℕ) where
  abbrev pub the_names : List (List ℕ)
  the_names = (chart_numbering table name).names

  abbrev pub the_labels : List Label
  the_labels = (chart_numbering table name).labels

  abbrev pub the_event : NumberedEvent → ExpandedEvent
  the_event = event_by (chart_numbering table name)

  abbrev the_tables : NetsValue
  the_tables = record { labels = the_labels; tables = [] }

  -- ties of events of what they tie
  tied_by_names : EndsAreFound → IsQuietTable table → EachTie IsOwn (numbered_expansion the_names the_labels table (table_ends table) EXPANDED_NESTING name)
  tied_by_names law quiet =
      let g = numbered_event the_names the_labels in
      let same = number_kept the_names the_labels in
      own_ties g same (chart_expansion table name) (ties_within (table_ends table) table EXPANDED_NESTING name no_gates 0)
      (outside_ties g same (chart_expansion table name) (gate_ties_free law table (table_ends table) quiet EXPANDED_NESTING name no_gates 0))

  pub labelled_chart : WalksAreDrawn → HasSoundGraphs table name → EachWalk (λ m g xs. IsLabelledGraph g xs) (numbered_chart table name)
  labelled_chart drawn h = labelled drawn the_event table name h.judged

  pub whole_chart : WalksAreDrawn → HasSoundGraphs table name → HasWholeGraphs (numbered_chart table name)
  whole_chart drawn h = each_walk (λ m g xs. IsLabelledGraph g xs) (λ m g xs. IsWholeGraph g xs) whole_of (numbered_chart table name) (labelled_chart drawn h)

  pub sound_graphs : WalksAreDrawn → NodesAreRanked → HasSoundGraphs table name → EachWalk (λ m g xs. IsSoundGraph g xs) (numbered_chart table name)
  sound_graphs drawn nodes h = both_walks (λ m g xs. IsLabelledGraph g xs) (λ m g xs. EachPart CanBeRanked xs) (λ m g xs. IsSoundGraph g xs) sound_of (numbered_chart table name) (labelled_chart drawn h)
      (nodes.walks (table_ends table) table EXPANDED_NESTING EXPANDED_NESTING name no_gates 0 the_event (omega arith) h.nested (ranked_alone table name h) (keeps (chart_numbering table name))
      (tells_own (chart_numbering table name) (events_in (chart_expansion table name)) (chart_has table name)))

  pub counted : CountFrom 0 (numbers_by expanded_number (numbered_chart table name))
  counted = subst (λ (y : numbered.Expansion). CountFrom 0 (numbers_by expanded_number y)) (sym (chart_same table name)) (chart_counted the_tables the_names table (table_ends table) EXPANDED_NESTING name)

  pub can_be_made : WalksAreDrawn → NodesAreRanked → EndsAreFound → HasSoundGraphs table name → IsQuietTable table → CanBeMade (length the_labels) 0 (numbered_chart table name)
  can_be_made drawn nodes law h quiet = record {
    counted = counted;
    labelled = subst (λ (y : numbered.Expansion). (e : ExpandedEvent) → Among e (events_in y) → e.label < length the_labels) (sym (chart_same table name)) (chart_labelled the_tables the_names table (table_ends table) EXPANDED_NESTING name (chart_nameable table name));
    tied = subst (λ (y : numbered.Expansion). EachTie IsOwn y) (sym (chart_same table name)) (tied_by_names law quiet);
    graphs = sound_graphs drawn nodes h;
  }

  pub chart_sound : WalksAreDrawn → NodesAreRanked → EndsAreFound → MadeTermsAreSound → HasSoundGraphs table name → IsQuietTable table → CanBeRanked (numbered_chart table name) → IsFullySound (length the_labels) (chart_made table name).tables (chart_made table name).term
  chart_sound drawn nodes law sound h quiet can = sound.judged (length the_labels) 0 (numbered_chart table name) (can_be_made drawn nodes law h quiet) can

  pub nets_sound : WalksAreDrawn → NodesAreRanked → EndsAreFound → MadeTermsAreSound → HasSoundGraphs table name → IsQuietTable table → AreSoundNets (length the_labels) (made [] (numbered_chart table name)).tables
  nets_sound drawn nodes law sound h quiet = sound.nets (length the_labels) 0 [] (numbered_chart table name) tt (can_be_made drawn nodes law h quiet)
