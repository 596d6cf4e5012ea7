-- The term of a chart means the chart.
use Rattle.std.specs.Prelude.{ℕ, List, [], ◌∷◌, Some, length}
use Rattle.std.proofs.Common.{◌≡◌, ◌∙◌, refl, sym, ap, subst}
use Rattle.std.proofs.Math.Path.{fun_ext}
use Rattle.std.proofs.lemmas.Option.{same_Some}
use Rattle.msc_base.specs.declared.label.LabelRef.{LabelRef}
use Rattle.msc_base.specs.declared.limits.TheConstants.Limits.{EXPANDED_NESTING}
use Rattle.msc_base.specs.Orders.{Among, later}
use Rattle.hmsc_graph.specs.declared.shape.Shape.{Shape}
use Rattle.hmsc_graph.specs.Graphs.{Any}
use Rattle.chart_term.specs.Tables.{Tables}
use Rattle.chart_term.specs.Terms.{Tree}
use Rattle.term_laws.specs.FullSoundness.{AreSoundNets}
use Rattle.term_meaning.specs.Meanings.{Means}
use Rattle.term_tables.specs.NetValues.{NetsValue}
use Rattle.msc_tree.specs.Graphs.{graph, Lines}
use Rattle.graph_shapes.specs.GraphLists.{frames_in}
use Rattle.graph_shapes.specs.GraphShapes.{shape_of}
use Rattle.msc_meaning.specs.FarEnds.{no_gates}
use Rattle.msc_meaning.specs.Bodies.{Body}
use Rattle.msc_meaning.specs.Meanings.{Finished, Begun}
use Rattle.msc_meaning.specs.Tables.{ChartEntry, Table, chart_at, Woven, Basic, HighLevel, refinements}
use Rattle.expansion_tree.specs.Expansions.{Expansion, Event, InRow, Aside, OneOf, Exception, Turns, Tied, Walk, Expansions, all_events_in, events_in, map_all_events, map_events}
use Rattle.expansion_tree.specs.Numbered as numbered
use Rattle.expansion_tree.specs.Walks.{EachWalk, EachWalkIn}
use Rattle.expansion_tree.specs.declared.tree.ExpandedEvent.{ExpandedEvent}
use Rattle.expanded_charts.specs.Expanding.{NumberedEvent, expand_charts, expand_lines}
use Rattle.gate_ends.specs.FoundEnds.{table_ends}
use Rattle.expansion_terms.specs.ExpansionTerms.{event_term, numbered_term, part_terms}
use Rattle.expansion_terms.specs.MadeTerms.{AreWalksMade, IsWalkOf, MadeTermsAgree, judged, made, made_all, net_of_shape, newest_walk, walk_at}
use Rattle.expanded_terms.specs.ExpandedLaws.{ExpandedTermsMean, IsBasicChart}
use Rattle.expanded_terms.specs.ExpandedTerms.{Leaves, charts_to, lines_terms}
use Rattle.expanded_terms.specs.ExpansionLaws as by_leaves
use Rattle.expanded_terms.specs.ExpansionLaws.{ExpansionsHaveTerms}
use Rattle.expanded_terms.specs.GraphWalks.{IsGraphWalk, IsWholeNet}
use Rattle.expanded_terms.specs.NamedEvents.{IsNameable, named_leaves}
use Rattle.expanded_terms.specs.WholeCharts.{AreWholeLines, IsWholeTo, IsWholeWoven, WholeChartsAreFit}
use Rattle.expanded_terms.proofs.RankedChartTerms.{mapped_parts, mapped_term, numbered_event}
use Rattle.node_ranks.specs.NamedCharts.{LinesNameOnly, WovenNamesOnly}
use Rattle.made_terms.specs.DrawnWalks.{AreEnding, IsDrawnGraph, IsEndingTo, WalksAreDrawn, woven_graphs}
use Rattle.made_terms.proofs.WalkNumbers.{nums, walks_once}
use Rattle.expanded_terms.specs.ExpansionNumbers.{CountFrom}
use Rattle.table_terms.specs.SoundGraphs.{IsJudgedContent, IsJudgedTo}
use Rattle.table_terms.specs.TableTerms.{chart_expansion, chart_numbering, numbered_chart}
use Rattle.table_terms.proofs.ChartWalks.{IsTiedPart, line_names, tied_is, walk_is, whole_lines}
use Rattle.table_terms.proofs.EachWalks.{all_walks_mapped, both_walks, both_walks_in, walks_mapped}
use Rattle.table_terms.proofs.NumberedCharts.{chart_nameable, chart_same, event_same, named_once}
use Rattle.table_terms.proofs.SoundCharts.{none_ending, the_event, the_labels, the_names}

-- the judged term is made as the other is, but for the walk of a judged graph; the tables are the same
pub judged_tables : (t : Tables) (x : numbered.Expansion) → (judged t x).tables ≡ (made t x).tables
judged_tables t (Event e) = refl
judged_tables t (InRow xs) = refl
judged_tables t (Aside xs) = refl
judged_tables t (OneOf xs) = refl
judged_tables t (Exception x) = refl
judged_tables t (Turns n lower upper x) = refl
judged_tables t (Tied x ps) = refl
judged_tables t (Walk n g xs) = refl

pub judged_tied : (t : Tables) (x : numbered.Expansion) (y : Expansion NumberedEvent) (f : NumberedEvent → ExpandedEvent) → x ≡ map_events f y → IsTiedPart y → (judged t x).term ≡ (made t x).term
judged_tied t x y f e p =
    let same : x ≡ Tied (map_events f p.inner) p.pairs = e ∙ ap (λ (y : Expansion NumberedEvent). map_events f y) p.is in
    subst (λ (y : numbered.Expansion). (judged t y).term ≡ (made t y).term) (sym same) refl

module _ (agree : MadeTermsAgree) (have : ExpansionsHaveTerms) (table : Table) (name : List ℕ) (counted : CountFrom 0 (nums (numbered_chart table name))) where
  abbrev nx : numbered.Expansion
  nx = numbered_chart table name

  abbrev walk : ℕ → Tree
  walk = walk_at (made [] nx).walks

  abbrev w : Tables
  w = (made [] nx).tables

  abbrev v : NetsValue
  v = record { labels = the_labels table name; tables = w }

  abbrev pub the_leaves : Leaves
  the_leaves = named_leaves (the_names table name) (the_labels table name) walk

  abbrev IsWalkIn : ℕ → Shape → numbered.Expansions → Type 0
  IsWalkIn m s xs = IsWalkOf w s (part_terms event_term walk xs) (walk m)

  -- of walks in the expansion itself
  abbrev IsGraph : ℕ → Shape → Expansions NumberedEvent → Type 0
  IsGraph m s xs = IsGraphWalk w s (part_terms (by_leaves.event_by the_leaves) walk xs) (walk m)

  are_made : AreWalksMade walk (made [] nx).walks
  are_made = agree.found (made [] nx).walks (walks_once [] 0 nx counted)

  are_walks : EachWalk IsWalkIn nx
  are_walks = agree.walks [] nx walk are_made

  terms_of_parts : (xs : Expansions NumberedEvent) → part_terms event_term walk (map_all_events (the_event table name) xs) ≡ part_terms (by_leaves.event_by the_leaves) walk xs
  terms_of_parts xs =
      ap (λ (f : NumberedEvent → ExpandedEvent). part_terms event_term walk (map_all_events f xs)) (fun_ext (event_same (chart_numbering table name)))
      ∙ mapped_parts (numbered_event (the_names table name) (the_labels table name)) walk xs

  to_graph : (m : ℕ) (s : Shape) (xs : Expansions NumberedEvent) → IsWalkIn m s (map_all_events (the_event table name) xs) → IsDrawnGraph s (map_all_events (the_event table name) xs) → IsGraph m s xs
  to_graph m s xs a d = record { walk = subst (λ (ys : List Tree). IsWalkOf w s ys (walk m)) (terms_of_parts xs) a; whole = d.ending.whole; leads = d.ending.leads }

  -- the same chart by either of two entries
  one_entry : (c d : ChartEntry) → chart_at table name ≡ Some c → chart_at table name ≡ Some d → c ≡ d
  one_entry c d p q = same_Some c d (sym p ∙ q)

  -- ---- a basic chart

  -- its term is that of the chart with all that it names
  pub basic_term : IsTiedPart (chart_expansion table name) → (judged [] nx).term ≡ (charts_to the_leaves (table_ends table) table EXPANDED_NESTING).term name no_gates 0
  basic_term p =
      judged_tied [] nx (chart_expansion table name) (the_event table name) refl p
      ∙ agree.term [] nx walk are_made
      ∙ ap (numbered_term walk) (chart_same table name)
      ∙ mapped_term (numbered_event (the_names table name) (the_labels table name)) walk (chart_expansion table name)
      ∙ have.term the_leaves (table_ends table) table EXPANDED_NESTING name no_gates 0

  -- ---- a high-level chart

  module _ (j : IsJudgedTo table EXPANDED_NESTING name) (starts : List LabelRef) (lines : Lines) (q : j.has.entry.content ≡ HighLevel (graph starts lines)) where
    abbrev shape : Shape
    shape = shape_of (graph starts lines)

    abbrev parts : Expansions NumberedEvent
    parts = (expand_lines (expand_charts (table_ends table) table 255) (table_ends table) 1 lines).parts

    abbrev numbered_parts : numbered.Expansions
    numbered_parts = map_all_events (the_event table name) parts

    expansion_is : chart_expansion table name ≡ Walk 0 shape parts
    expansion_is = walk_is (table_ends table) table no_gates 0 255 name j.has.entry j.has.is starts lines q

    numbered_is : nx ≡ Walk 0 shape numbered_parts
    numbered_is = ap (λ (x : Expansion NumberedEvent). map_events (the_event table name) x) expansion_is

    tables_are : w ≡ record { net = net_of_shape shape; nodes = (made_all [] numbered_parts).terms } ∷ (made_all [] numbered_parts).tables
    tables_are = ap (λ (y : numbered.Expansion). (made [] y).tables) numbered_is

    pub walk_term : (judged [] nx).term ≡ newest_walk Any w
    walk_term = ap (λ (y : numbered.Expansion). (judged [] y).term) numbered_is ∙ sym (ap (newest_walk Any) tables_are)

    inner_made : AreWalksMade walk (made_all [] numbered_parts).walks
    inner_made p i = subst (λ (ws : List (ℕ × Tree)). AreWalksMade walk ws) (ap (λ (y : numbered.Expansion). (made [] y).walks) numbered_is) are_made p (later i)

    nodes_are : (made_all [] numbered_parts).terms ≡ lines_terms (charts_to the_leaves (table_ends table) table 255) the_leaves (table_ends table) 1 lines
    nodes_are = agree.terms [] numbered_parts walk inner_made ∙ terms_of_parts parts ∙ have.lines the_leaves (table_ends table) table 255 1 lines

    names_only : LinesNameOnly (IsEndingTo table 255) lines
    names_only = line_names (IsEndingTo table 255) table (refinements j.has.entry.decls) starts lines (subst (λ (w : Woven). WovenNamesOnly (IsEndingTo table 255) table (refinements j.has.entry.decls) w) q j.has.names)

    content : IsWholeNet shape × AreEnding (frames_in lines)
    content = subst IsJudgedContent q j.content

    lines_nameable : (e : NumberedEvent) → Among e (all_events_in parts) → IsNameable (the_names table name) (the_labels table name) e.happening
    lines_nameable e i = chart_nameable table name e (subst (λ (x : Expansion NumberedEvent). Among e (events_in x)) (sym expansion_is) i)

    inner_walks : EachWalk IsWalkIn (Walk 0 shape numbered_parts)
    inner_walks = subst (λ (y : numbered.Expansion). EachWalk IsWalkIn y) numbered_is are_walks

  -- ---- what they mean

  module _ (fit : WholeChartsAreFit) (mean : ExpandedTermsMean) (drawn : WalksAreDrawn) (nets : AreSoundNets (length (the_labels table name)) w) (j : IsJudgedTo table EXPANDED_NESTING name) (whole : IsWholeTo table (table_ends table) EXPANDED_NESTING name) where
    basic_means : (b : Body) → j.has.entry.content ≡ Basic b → Means v (the_names table name) (judged [] nx).term (Finished table name) (Begun table name)
    basic_means b q = subst (λ (x : Tree). Means v (the_names table name) x (Finished table name) (Begun table name)) (sym (basic_term (tied_is (table_ends table) table no_gates 0 255 name j.has.entry j.has.is b q)))
        (mean.means v (the_names table name) walk table (table_ends table) EXPANDED_NESTING name (named_once table name).names (named_once table name).labels nets
        (fit.fit (the_names table name) (the_labels table name) w the_leaves table (table_ends table) EXPANDED_NESTING name no_gates 0 whole (chart_nameable table name) graphs) basic)
      where
        graphs : EachWalk IsGraph (chart_expansion table name)
        graphs = both_walks (λ m s xs. IsWalkIn m s (map_all_events (the_event table name) xs)) (λ m s xs. IsDrawnGraph s (map_all_events (the_event table name) xs)) IsGraph to_graph (chart_expansion table name)
            (walks_mapped (the_event table name) IsWalkIn (chart_expansion table name) are_walks)
            (walks_mapped (the_event table name) (λ m s xs. IsDrawnGraph s xs) (chart_expansion table name)
            (drawn.walks (the_event table name) (table_ends table) table 255 name no_gates 0 j.has (subst (λ (w : Woven). AreEnding (woven_graphs w)) (sym q) none_ending)))

        basic : IsBasicChart table name
        basic entry starts lines is high = clash (sym q ∙ ap (λ (c : ChartEntry). c.content) (one_entry j.has.entry entry j.has.is is) ∙ high)
          where
            clash : Basic b ≡ HighLevel (graph starts lines) → ⊥
            clash e = cc

    module _ (starts : List LabelRef) (lines : Lines) (q : j.has.entry.content ≡ HighLevel (graph starts lines)) where
      lines_whole : AreWholeLines table (table_ends table) (IsWholeTo table (table_ends table) 255) lines
      lines_whole = whole_lines table (table_ends table) (IsWholeTo table (table_ends table) 255) (refinements whole.entry.decls) starts lines
          (subst (λ (w : Woven). IsWholeWoven table (table_ends table) (IsWholeTo table (table_ends table) 255) (refinements whole.entry.decls) w) (ap (λ (c : ChartEntry). c.content) (one_entry whole.entry j.has.entry whole.is j.has.is) ∙ q) whole.whole)

      lines_graphs : EachWalkIn IsGraph (parts j starts lines q)
      lines_graphs = both_walks_in (λ m s xs. IsWalkIn m s (map_all_events (the_event table name) xs)) (λ m s xs. IsDrawnGraph s (map_all_events (the_event table name) xs)) IsGraph to_graph (parts j starts lines q)
          (all_walks_mapped (the_event table name) IsWalkIn (parts j starts lines q) (inner_walks j starts lines q).1)
          (all_walks_mapped (the_event table name) (λ m s xs. IsDrawnGraph s xs) (parts j starts lines q) (drawn.lines (the_event table name) (table_ends table) table 255 1 lines (names_only j starts lines q) (content j starts lines q).1))

      graph_means : Means v (the_names table name) (judged [] nx).term (Finished table name) (Begun table name)
      graph_means = subst (λ (x : Tree). Means v (the_names table name) x (Finished table name) (Begun table name)) (sym (walk_term j starts lines q))
          (mean.judged v (the_names table name) walk table (table_ends table) 255 name j.has.entry starts lines (named_once table name).names (named_once table name).labels nets j.has.is q (record {
            fit = fit.lines (the_names table name) (the_labels table name) w the_leaves table (table_ends table) 255 1 lines lines_whole (lines_nameable j starts lines q) lines_graphs;
            whole = (content j starts lines q).0;
            older = (made_all [] (numbered_parts j starts lines q)).tables;
            newest = (tables_are j starts lines q) ∙ ap (λ (ys : List Tree). record { net = net_of_shape (shape j starts lines q); nodes = ys } ∷ (made_all [] (numbered_parts j starts lines q)).tables) (nodes_are j starts lines q);
          }))

    pub chart_means : Means v (the_names table name) (judged [] nx).term (Finished table name) (Begun table name)
    chart_means = by j.has.entry.content refl
      where
        by : (w : Woven) → j.has.entry.content ≡ w → Means v (the_names table name) (judged [] nx).term (Finished table name) (Begun table name)
        by (Basic b) q = basic_means b q
        by (HighLevel (graph starts lines)) q = graph_means starts lines q
