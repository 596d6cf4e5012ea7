-- The expansion of a basic chart with sound graphs is a good part, by the names of its instances and its labels.
use Rattle.std.specs.List.{slice_get}
use Rattle.std.specs.Prelude.{◌<◌, ◌≤◌, ℕ, Bool, true, false, List, Option, None, Some, length, nat_lt}
use Rattle.std.proofs.Common.{◌≡◌, ◌∙◌, ap, arith, refl, subst, sym}
use Rattle.std.proofs.lemmas.Bool.Decides.{Decides-ltb}
use Rattle.std.proofs.lemmas.Option.{same_Some, slice_get_within}
use Rattle.msc_base.specs.declared.label.Label.{Label}
use Rattle.msc_base.specs.declared.limits.TheConstants.Limits.{EXPANDED_NESTING, INSTANCES}
use Rattle.msc_base.specs.Orders.{Among}
use Rattle.chart_term.specs.Terms.{TermEvent}
use Rattle.term_laws.specs.Placing.{IsPlaced}
use Rattle.msc_meaning.specs.Bodies.{Body}
use Rattle.msc_meaning.specs.FarEnds.{no_gates}
use Rattle.msc_meaning.specs.Tables.{Basic, ChartEntry, Table, Woven, chart_at}
use Rattle.gate_ends.specs.EndLaws.{EndsAreFound}
use Rattle.gate_ends.specs.FoundEnds.{table_ends}
use Rattle.expansion_tree.specs.Expansions.{events_in, map_events}
use Rattle.expansion_tree.specs.Numbered as numbered
use Rattle.expansion_tree.specs.Walks.{EachWalk}
use Rattle.expansion_tree.specs.declared.tree.ExpandedEvent.{ExpandedEvent}
use Rattle.expanded_charts.specs.Expanding.{NumberedEvent}
use Rattle.expansion_terms.specs.MadeTerms.{HasWholeGraphs}
use Rattle.expansion_terms.specs.Stored.{IsStored}
use Rattle.expanded_terms.specs.NamedEvents.{IsNameable, event_at, name_number, number_of_label, second_number}
use Rattle.expanded_terms.specs.PlacedTerms.{EventsArePlaced, places}
use Rattle.expanded_terms.proofs.RankedChartTerms.{mapped_events, numbered_event}
use Rattle.node_ranks.specs.NodeRanks.{NodesAreRanked}
use Rattle.node_ranks.proofs.ListParts.{map_among}
use Rattle.made_terms.specs.DrawnWalks.{AreEnding, IsDrawnGraph, WalksAreDrawn, woven_graphs}
use Rattle.made_terms.specs.MadeTerms.{CanBeMade}
use Rattle.table_terms.specs.SoundGraphs.{IsJudgedTo}
use Rattle.table_terms.specs.TableTerms.{chart_expansion, chart_numbering}
use Rattle.table_terms.proofs.NumberedCharts.{chart_nameable, chart_same}
use Rattle.table_terms.proofs.SoundCharts.{can_be_made, none_ending, whole_chart}
use Rattle.choice_terms.specs.ChoiceLaws.{IsJudgedChart}
use Rattle.choice_terms.proofs.PartFacts.{IsGoodPart, at_term}

-- ---- events have room in a term

abbrev as_expanded : TermEvent → ExpandedEvent
as_expanded d = record { number = d.number; at = d.at; also = d.also; label = d.label }

two_stored : (n l i j : ℕ) → i < INSTANCES → j < INSTANCES → (i ≡ j → ⊥) → IsStored (as_expanded (event_at n l i (Some j)))
two_stored n l i j a b c = by (nat_lt j i) refl
  where
    by : (t : Bool) → nat_lt j i ≡ t → IsStored (as_expanded (event_at n l i (Some j)))
    by true e = let less = (Decides-ltb j i).0 e in rw e (record { at = b; also = λ x q. let r : i ≡ x = same_Some i x q in (omega (arith, less, r), omega (arith, a, r)) })
    by false e = let low = other (λ k. clash (sym e ∙ (Decides-ltb j i).1 k)) in rw e (record { at = a; also = λ x q. let r : j ≡ x = same_Some j x q in (omega (arith, low, r), omega (arith, b, r)) })
      where
        clash : false ≡ true → ⊥
        clash q = cc

        other : (j < i → ⊥) → i < j
        other f = omega (arith, f, c)

module _ (names : List (List ℕ)) (labels : List Label) (few : length names ≤ INSTANCES) where
  below : (k : ℕ) (i : List ℕ) → slice_get names k ≡ Some i → k < INSTANCES
  below k i e = let l = slice_get_within names k i e in omega (arith, l, few)

  event_stored : (e : NumberedEvent) → IsNameable names labels e.happening → (e.happening.also ≡ Some e.happening.label.at → ⊥) → IsStored (numbered_event names labels e)
  event_stored e h apart = by e.happening.also refl
    where
      by : (o : Option (List ℕ)) → e.happening.also ≡ o → IsStored (as_expanded (event_at e.number (number_of_label names labels e.happening.label) (name_number names labels e.happening.label.at) (second_number names labels o)))
      by None q = record { at = below (name_number names labels e.happening.label.at) e.happening.label.at h.at; also = λ x u. absurd cc }
      by (Some j) q = two_stored e.number (number_of_label names labels e.happening.label) (name_number names labels e.happening.label.at) (name_number names labels j)
          (below (name_number names labels e.happening.label.at) e.happening.label.at h.at) (below (name_number names labels j) j (h.also j q)) differ
        where
          differ : name_number names labels e.happening.label.at ≡ name_number names labels j → ⊥
          differ same = apart (q ∙ (sym (h.also j q) ∙ (ap (λ (k : ℕ). slice_get names k) (sym same) ∙ h.at)))

-- ---- a chart

module _ (placing : EventsArePlaced) (drawn : WalksAreDrawn) (nodes : NodesAreRanked) (found : EndsAreFound) (table : Table) (name : List ℕ) (h : IsJudgedChart table name) where
  abbrev names : List (List ℕ)
  names = (chart_numbering table name).names

  abbrev labels : List Label
  labels = (chart_numbering table name).labels

  abbrev event : NumberedEvent → ExpandedEvent
  event = numbered_event names labels

  abbrev numbered_one : numbered.Expansion
  numbered_one = map_events event (chart_expansion table name)

  made : CanBeMade (length labels) 0 numbered_one
  made = subst (λ (y : numbered.Expansion). CanBeMade (length labels) 0 y) (chart_same table name) (can_be_made table name drawn nodes found h.graphs h.quiet)

  whole : HasWholeGraphs numbered_one
  whole = subst (λ (y : numbered.Expansion). HasWholeGraphs y) (chart_same table name) (whole_chart table name drawn h.graphs)

  -- an event by numbers is one of the chart's
  of_event : (P : ExpandedEvent → Type 0) → ((e : NumberedEvent) → Among e (events_in (chart_expansion table name)) → P (event e)) → (d : ExpandedEvent) → Among d (events_in numbered_one) → P d
  of_event P g d i =
      let (e, q, j) = map_among event (events_in (chart_expansion table name)) d (subst (λ (l : List ExpandedEvent). Among d l) (mapped_events event (chart_expansion table name)) i) in
      subst P q (g e j)

  one_stored : (e : NumberedEvent) → Among e (events_in (chart_expansion table name)) → IsStored (event e)
  one_stored e i = event_stored names labels h.room.few e (chart_nameable table name e i) (h.room.apart e i)

  one_placed : (e : NumberedEvent) → Among e (events_in (chart_expansion table name)) → IsPlaced (places names labels) (at_term names labels (event e))
  one_placed e i = placing.placed names labels e.number e.happening (record { label = (chart_nameable table name e i).label; child = h.placed e i })

  module _ (chart : ChartEntry) (is : chart_at table name ≡ Some chart) (body : Body) (basic : chart.content ≡ Basic body) where
    walks : EachWalk (λ m g xs. IsDrawnGraph g xs) numbered_one
    walks =
        let judged : IsJudgedTo table EXPANDED_NESTING name = h.graphs.judged in
        let same : judged.has.entry ≡ chart = same_Some judged.has.entry chart (sym judged.has.is ∙ is) in
        let content : judged.has.entry.content ≡ Basic body = ap (λ (c : ChartEntry). c.content) same ∙ basic in
        drawn.walks event (table_ends table) table 255 name no_gates 0 judged.has (subst (λ (w : Woven). AreEnding (woven_graphs w)) (sym content) none_ending)

    pub good_chart : IsGoodPart names labels (chart_expansion table name)
    good_chart = record {
      events = record {
        start = 0;
        counted = made.counted;
        labelled = made.labelled;
        stored = of_event IsStored one_stored;
        placed = of_event (λ (d : ExpandedEvent). IsPlaced (places names labels) (at_term names labels d)) one_placed;
        named = chart_nameable table name;
      };
      tied = made.tied;
      sound = made.graphs;
      drawn = walks;
      whole = whole;
    }
