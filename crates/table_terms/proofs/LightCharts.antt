-- The term of a chart weighs no more than its expanded size.
use Rattle.std.specs.Prelude.{ℕ, ◌==◌, ◌+◌, ◌≤◌, Bool, true, false, List, [], ◌∷◌, ◌++◌, Option, Some, None}
use Rattle.std.specs.Option.{unwrap_or}
use Rattle.std.proofs.Common.{◌≡◌, refl, sym, ap, subst, inl, inr, arith}
use Rattle.msc_base.specs.declared.label.Label.{Label}
use Rattle.msc_base.specs.declared.limits.TheConstants.Limits.{EXPANDED_NESTING}
use Rattle.msc_base.specs.Orders.{Among, first, later}
use Rattle.hmsc_graph.specs.Graphs.{Any, End, Goal}
use Rattle.chart_forms.specs.TableSizes.{counted_size}
use Rattle.chart_term.specs.Tables.{Tables, net_count}
use Rattle.chart_term.specs.Terms.{Tree, Nil, weight}
use Rattle.term_laws.specs.FullSoundness.{fresh_walk}
use Rattle.graph_walks.proofs.GraphMade.{walk_is}
use Rattle.msc_tree.specs.Graphs.{graph}
use Rattle.gate_ends.specs.FoundEnds.{table_ends}
use Rattle.sound_terms.specs.TableLaws.{weight_all}
use Rattle.msc_meaning.specs.FarEnds.{no_gates}
use Rattle.msc_meaning.specs.Tables.{Table, Woven, Basic, HighLevel}
use Rattle.expansion_tree.specs.Expansions as tree
use Rattle.expansion_tree.specs.Expansions.{Event, InRow, Aside, OneOf, Exception, Turns, Tied, Walk, no_parts, part_and, map_all_events, map_events}
use Rattle.expanded_charts.specs.Expanding.{NumberedEvent}
use Rattle.expansion_order.proofs.Drawn.{among_left, among_right}
use Rattle.expansion_terms.specs.ExpansionTerms.{event_term}
use Rattle.expansion_tree.specs.Numbered.{Expansion, Expansions}
use Rattle.expansion_terms.specs.MadeTerms.{AreWalksMade, MadeTermsAgree, made, made_all, net_behind, newest_walk, walk_at, walk_if}
use Rattle.expanded_terms.specs.ExpandedTerms.{Leaves, charts_to}
use Rattle.expanded_terms.specs.ExpansionLaws.{ExpansionsHaveTerms, ExpansionsHold, event_by}
use Rattle.expanded_terms.specs.NamedEvents.{named_leaves}
use Rattle.expanded_terms.specs.NetWeights.{all_held_in, held_in, held_to, nets_weight}
use Rattle.expanded_terms.specs.ExpansionNumbers.{CountFrom}
use Rattle.expanded_terms.specs.JoinProducts.{ChartsAreLight, IsFewTo}
use Rattle.expanded_terms.proofs.RankedChartTerms.{mapped_parts, numbered_event}
use Rattle.expanded_terms.proofs.TermWeights.{some_weight}
use Rattle.expanded_terms.proofs.TiesWithin.{split_among}
use Rattle.made_terms.proofs.WalkNumbers.{nums, walks_once}
use Rattle.table_terms.specs.SoundGraphs.{IsJudgedTo}
use Rattle.table_terms.specs.TableTerms.{chart_expansion, chart_made, numbered_chart}
use Rattle.table_terms.proofs.ChartWalks.{tied_is}
use Rattle.table_terms.proofs.MeantCharts.{basic_term, judged_tables, the_leaves, walk_term}
use Rattle.table_terms.proofs.NumberedCharts.{chart_same}
use Rattle.table_terms.proofs.SoundCharts.{the_labels, the_names}

-- ---- walks weigh 1

newest_light : (goal : Goal) (w : Tables) → weight (newest_walk goal w) ≤ 1
newest_light goal [] = omega arith
newest_light goal (e ∷ es) = by (fresh_walk (e ∷ es) (net_count es) goal) refl
  where
    by : (o : Option Tree) → fresh_walk (e ∷ es) (net_count es) goal ≡ o → weight (unwrap_or o Nil) ≤ 1
    by None q = omega arith
    by (Some x) q = walk_is (λ (x : Tree). weight x ≤ 1) (e ∷ es) (net_count es) goal x (omega arith) (λ c. omega arith) q

abbrev AreLight : List (ℕ × Tree) → Type 0
AreLight ws = (p : ℕ × Tree) → Among p ws → weight p.1 ≤ 1

mutual
  made_light : (t : Tables) (x : Expansion) → AreLight (made t x).walks
  made_light t (Event e) p i = elim i [ ]
  made_light t (InRow xs) p i = all_light t xs p i
  made_light t (Aside xs) p i = all_light t xs p i
  made_light t (OneOf xs) p i = all_light t xs p i
  made_light t (Exception x) p i = made_light t x p i
  made_light t (Turns n lower upper x) p i = made_light t x p i
  made_light t (Tied x ps) p i = made_light t x p i
  made_light t (Walk n g xs) _ first = newest_light End (net_behind g (made_all t xs))
  made_light t (Walk n g xs) p (later i) = all_light t xs p i

  all_light : (t : Tables) (xs : Expansions) → AreLight (made_all t xs).walks
  all_light t no_parts p i = elim i [ ]
  all_light t (part_and x xs) p i = elim (split_among (made t x).walks (made_all (made t x).tables xs).walks p i) [
    | inl j ↦ made_light t x p j
    | inr j ↦ all_light (made t x).tables xs p j
  ]

found_light : (ws : List (ℕ × Tree)) → AreLight ws → (k : ℕ) → weight (walk_at ws k) ≤ 1
found_light [] h k = omega arith
found_light (p ∷ ws) h k = by (p.0 == k) (h p first) (found_light ws (λ q i. h q (later i)) k)
  where
    by : (b : Bool) → weight p.1 ≤ 1 → weight (walk_at ws k) ≤ 1 → weight (walk_if b p.1 (walk_at ws k)) ≤ 1
    by true a c = a
    by false a c = c

-- ---- what the nets hold is what the walks of the expansion hold

module _ (agree : MadeTermsAgree) (walk : ℕ → Tree) where
  walks_left : (ws vs : List (ℕ × Tree)) → AreWalksMade walk (ws ++ vs) → AreWalksMade walk ws
  walks_left ws vs h p i = h p (among_left p ws vs i)

  walks_right : (ws vs : List (ℕ × Tree)) → AreWalksMade walk (ws ++ vs) → AreWalksMade walk vs
  walks_right ws vs h p i = h p (among_right p ws vs i)

  mutual
    nets_made : (t : Tables) (x : Expansion) → AreWalksMade walk (made t x).walks → nets_weight (made t x).tables ≡ nets_weight t + held_in event_term walk x
    nets_made t (Event e) h = omega arith
    nets_made t (InRow xs) h = all_nets t xs h
    nets_made t (Aside xs) h = all_nets t xs h
    nets_made t (OneOf xs) h = all_nets t xs h
    nets_made t (Exception x) h = nets_made t x h
    nets_made t (Turns n lower upper x) h = nets_made t x h
    nets_made t (Tied x ps) h = nets_made t x h
    nets_made t (Walk n g xs) h =
        let own : AreWalksMade walk (made_all t xs).walks = λ p i. h p (later i) in
        let nodes = ap weight_all (agree.terms t xs walk own) in
        omega (arith, nodes, all_nets t xs own)

    all_nets : (t : Tables) (xs : Expansions) → AreWalksMade walk (made_all t xs).walks → nets_weight (made_all t xs).tables ≡ nets_weight t + all_held_in event_term walk xs
    all_nets t no_parts h = omega arith
    all_nets t (part_and x xs) h =
        let m = made t x in
        omega (arith, nets_made t x (walks_left m.walks (made_all m.tables xs).walks h), all_nets m.tables xs (walks_right m.walks (made_all m.tables xs).walks h))

-- events by their numbers hold as much
module _ (names : List (List ℕ)) (labels : List Label) (walk : ℕ → Tree) where
  mutual
    mapped_held : (x : tree.Expansion NumberedEvent) → held_in event_term walk (map_events (numbered_event names labels) x) ≡ held_in (event_by (named_leaves names labels walk)) walk x
    mapped_held (Event e) = refl
    mapped_held (InRow xs) = all_mapped_held xs
    mapped_held (Aside xs) = all_mapped_held xs
    mapped_held (OneOf xs) = all_mapped_held xs
    mapped_held (Exception x) = mapped_held x
    mapped_held (Turns n lower upper x) = mapped_held x
    mapped_held (Tied x ps) = mapped_held x
    mapped_held (Walk n g xs) = let nodes = ap weight_all (mapped_parts (numbered_event names labels) walk xs) in omega (arith, nodes, all_mapped_held xs)

    all_mapped_held : (xs : tree.Expansions NumberedEvent) → all_held_in event_term walk (map_all_events (numbered_event names labels) xs) ≡ all_held_in (event_by (named_leaves names labels walk)) walk xs
    all_mapped_held no_parts = refl
    all_mapped_held (part_and x xs) = omega (arith, mapped_held x, all_mapped_held xs)

-- ---- the chart

module _ (agree : MadeTermsAgree) (have : ExpansionsHaveTerms) (hold : ExpansionsHold) (light : ChartsAreLight) (table : Table) (name : List ℕ) (counted : CountFrom 0 (nums (numbered_chart table name))) (j : IsJudgedTo table EXPANDED_NESTING name)
    (few : IsFewTo table EXPANDED_NESTING name) where
  abbrev ws : List (ℕ × Tree)
  ws = (made [] (numbered_chart table name)).walks

  abbrev by_names : Leaves
  by_names = the_leaves agree have table name counted

  abbrev made_held : ℕ
  made_held = held_to by_names (table_ends table) table EXPANDED_NESTING name no_gates 0

  nets_held : nets_weight (chart_made table name).tables ≡ made_held
  nets_held =
      let tables = ap nets_weight (judged_tables [] (numbered_chart table name)) in
      let nets = nets_made agree (walk_at ws) [] (numbered_chart table name) (agree.found ws (walks_once [] 0 (numbered_chart table name) counted)) in
      let same = ap (λ (x : Expansion). held_in event_term (walk_at ws) x) (chart_same table name) in
      let mapped = mapped_held (the_names table name) (the_labels table name) (walk_at ws) (chart_expansion table name) in
      omega (arith, tables, nets, same, mapped, hold.held by_names (table_ends table) table EXPANDED_NESTING name no_gates 0)

  -- as another chart would come to that names it
  named_light : weight ((charts_to by_names (table_ends table) table EXPANDED_NESTING).term name no_gates 0) + made_held ≤ counted_size table name
  named_light = light.counted by_names (table_ends table) table EXPANDED_NESTING name no_gates 0 (record { events = λ i k. omega arith; walks = found_light ws (made_light [] (numbered_chart table name)) }) few

  basic_light : weight (chart_made table name).term ≡ weight ((charts_to by_names (table_ends table) table EXPANDED_NESTING).term name no_gates 0) → weight (chart_made table name).term + nets_weight (chart_made table name).tables ≤ counted_size table name
  basic_light same = omega (arith, same, nets_held, named_light)

  walk_light : weight (chart_made table name).term ≤ 1 → weight (chart_made table name).term + nets_weight (chart_made table name).tables ≤ counted_size table name
  walk_light one = omega (arith, one, some_weight ((charts_to by_names (table_ends table) table EXPANDED_NESTING).term name no_gates 0), nets_held, named_light)

  pub chart_light : weight (chart_made table name).term + nets_weight (chart_made table name).tables ≤ counted_size table name
  chart_light = by j.has.entry.content refl
    where
      by : (w : Woven) → j.has.entry.content ≡ w → weight (chart_made table name).term + nets_weight (chart_made table name).tables ≤ counted_size table name
      by (Basic b) q = basic_light (ap weight (basic_term agree have table name counted (tied_is (table_ends table) table no_gates 0 255 name j.has.entry j.has.is b q)))
      by (HighLevel (graph starts lines)) q = walk_light (subst (λ (x : Tree). weight x ≤ 1) (sym (walk_term agree have table name counted j starts lines q)) (newest_light Any (made [] (numbered_chart table name)).tables))
