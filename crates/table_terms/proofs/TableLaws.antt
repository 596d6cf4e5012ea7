-- The laws of the term of a chart of a table, from those of expansions.
use Rattle.std.specs.Prelude.{◌≤◌, ◌+◌, List, [], length}
use Rattle.std.proofs.Common.{◌≡◌, ◌∙◌, sym, ap, subst}
use Rattle.msc_base.specs.Orders.{Among}
use Rattle.chart_forms.specs.TableSizes.{counted_size}
use Rattle.chart_term.specs.Tables.{Tables}
use Rattle.chart_term.specs.Terms.{Tree, weight}
use Rattle.sound_terms.proofs.Mapped.{map_among}
use Rattle.term_laws.specs.FullSoundness.{IsFullySound}
use Rattle.term_laws.specs.Placing.{HaveOnePlace, IsPlaced}
use Rattle.term_meaning.specs.Meanings.{Means}
use Rattle.term_tables.specs.NetValues.{NetsValue}
use Rattle.msc_meaning.specs.Meanings.{Finished, Begun}
use Rattle.expansion_tree.specs.Expansions.{events_in}
use Rattle.expansion_tree.specs.Numbered as numbered
use Rattle.expansion_tree.specs.declared.tree.ExpandedEvent.{ExpandedEvent}
use Rattle.expanded_charts.specs.Expanding.{NumberedEvent}
use Rattle.gate_ends.specs.EndLaws.{EndsAreFound}
use Rattle.expansion_terms.specs.MadeTerms.{MadeTermsAgree, made}
use Rattle.expanded_terms.specs.ExpandedLaws.{ExpandedTermsMean}
use Rattle.expanded_terms.specs.ExpansionLaws.{ExpansionsHaveTerms, ExpansionsHold}
use Rattle.expanded_terms.specs.JoinProducts.{ChartsAreLight}
use Rattle.expanded_terms.specs.NamedEvents.{event_named}
use Rattle.expanded_terms.specs.NetWeights.{nets_weight}
use Rattle.expanded_terms.specs.PlacedTerms.{EventsArePlaced, places}
use Rattle.expanded_terms.specs.WholeCharts.{WholeChartsAreFit}
use Rattle.expanded_terms.proofs.RankedChartTerms.{mapped_events, numbered_event}
use Rattle.node_ranks.specs.NodeRanks.{NodesAreRanked}
use Rattle.made_terms.specs.DrawnWalks.{WalksAreDrawn}
use Rattle.made_terms.specs.MadeTerms.{MadeTermsAreSound}
use Rattle.table_terms.specs.TableLaws.{TableTermsAreLight, TableTermsArePlaced, TableTermsAreSound, TableTermsMean}
use Rattle.table_terms.specs.TableTerms.{chart_expansion, chart_made, numbered_chart}
use Rattle.table_terms.proofs.LightCharts.{chart_light}
use Rattle.table_terms.proofs.MeantCharts.{chart_means, judged_tables}
use Rattle.table_terms.proofs.NumberedCharts.{chart_nameable, chart_same}
use Rattle.table_terms.proofs.PlacedTerms.{judged_placed}
use Rattle.table_terms.proofs.SoundCharts.{chart_sound, counted, nets_sound, the_labels, the_names}

pub table_terms_mean : MadeTermsAgree → ExpandedTermsMean → ExpansionsHaveTerms → WholeChartsAreFit → WalksAreDrawn → NodesAreRanked → EndsAreFound → MadeTermsAreSound → TableTermsMean
table_terms_mean agree mean have fit drawn nodes law sound table name v x h quiet whole is =
    subst (λ (v : NetsValue). Means v (the_names table name) x (Finished table name) (Begun table name)) (sym (is.nets ∙ ap (λ (t : Tables). record { labels = the_labels table name; tables = t }) (judged_tables [] (numbered_chart table name))))
    (subst (λ (x : Tree). Means (record { labels = the_labels table name; tables = (made [] (numbered_chart table name)).tables }) (the_names table name) x (Finished table name) (Begun table name)) (sym is.term)
    (chart_means agree have table name (counted table name) fit mean drawn (nets_sound table name drawn nodes law sound h quiet) h.judged whole))

pub table_terms_are_sound : WalksAreDrawn → NodesAreRanked → EndsAreFound → MadeTermsAreSound → TableTermsAreSound
table_terms_are_sound drawn nodes law sound table name v x h quiet is can =
    subst (λ (v : NetsValue). IsFullySound (length v.labels) v.tables x) (sym is.nets)
    (subst (λ (x : Tree). IsFullySound (length (the_labels table name)) (chart_made table name).tables x) (sym is.term) (chart_sound table name drawn nodes law sound h quiet can))

pub table_terms_are_light : MadeTermsAgree → ChartsAreLight → ExpansionsHaveTerms → ExpansionsHold → TableTermsAreLight
table_terms_are_light agree light have hold table name v x h is few =
    subst (λ (v : NetsValue). weight x + nets_weight v.tables ≤ counted_size table name) (sym is.nets)
    (subst (λ (x : Tree). weight x + nets_weight (chart_made table name).tables ≤ counted_size table name) (sym is.term) (chart_light agree have hold light table name (counted table name) h.judged few))

pub table_terms_are_placed : EventsArePlaced → TableTermsArePlaced
table_terms_are_placed law table name v x h child = subst (λ (v : NetsValue). HaveOnePlace v.tables x) (sym h.nets) (subst (λ (x : Tree). HaveOnePlace (chart_made table name).tables x) (sym h.term) made_placed)
  where
    there : (e : NumberedEvent) → Among e (events_in (chart_expansion table name)) → IsPlaced (places (the_names table name) (the_labels table name)) (event_named (the_names table name) (the_labels table name) e.number e.happening)
    there e i = law.placed (the_names table name) (the_labels table name) e.number e.happening (record { label = (chart_nameable table name e i).label; child = child e i })

    of_event : (d : ExpandedEvent) → (e : NumberedEvent) × (numbered_event (the_names table name) (the_labels table name) e ≡ d) × Among e (events_in (chart_expansion table name)) → IsPlaced (places (the_names table name) (the_labels table name)) (record { number = d.number; at = d.at; also = d.also; label = d.label })
    of_event d (e, q, i) = subst (λ (d : ExpandedEvent). IsPlaced (places (the_names table name) (the_labels table name)) (record { number = d.number; at = d.at; also = d.also; label = d.label })) q (there e i)

    events_there : (d : ExpandedEvent) → Among d (events_in (numbered_chart table name)) → IsPlaced (places (the_names table name) (the_labels table name)) (record { number = d.number; at = d.at; also = d.also; label = d.label })
    events_there d i = of_event d (map_among (numbered_event (the_names table name) (the_labels table name)) (events_in (chart_expansion table name))
        (subst (λ (es : List ExpandedEvent). Among d es) (ap (λ (y : numbered.Expansion). events_in y) (chart_same table name) ∙ mapped_events (numbered_event (the_names table name) (the_labels table name)) (chart_expansion table name)) i))

    made_placed : HaveOnePlace (chart_made table name).tables (chart_made table name).term
    made_placed =
        let p = judged_placed (places (the_names table name) (the_labels table name)) [] (numbered_chart table name) events_there tt in
        record { places = places (the_names table name) (the_labels table name); nets = p.0; term = p.1 }
