-- What is told of all charts of a table, by what is known of their links.
use Rattle.std.proofs.Common.{◌≡◌, ◌↔◌, ◌∙◌, inl, inr, IfOk, Result, Ok, Err, ℕ, List, [], ◌∷◌, map, Option, refl, sym, subst}
use Rattle.chart_links.specs.References.{IsCalled}
use Rattle.chart_links.specs.Summaries.{Summary}
use Rattle.chart_links.specs.Tables.{AreTables}
use Rattle.gate_ends.specs.LevelGates.{HasNames}
use Rattle.msc_base.specs.Lists.{IsAmong}
use Rattle.msc_base.specs.Places.{IsLeast}
use Rattle.msc_base.specs.declared.place.Place.{Place}
use Rattle.msc_meaning.specs.Tables.{ChartEntry}
use Rattle.msc_meaning.specs.Views.{entry_view, table_view}
use Rattle.msc_meaning.specs.declared.body.ChartEntry as rust_chart
use Rattle.refinement_rules.specs.Judging.{EntryBreaks, TableBreaks}
use Rattle.refinement_rules.specs.RefinementRules.{BreaksRefinementRule}
use Rattle.refinement_rules.specs.Walks.{OneHolds}
use Rattle.refinement_rules.specs.declared.faults.RefinementRule.{RefinementRule}
use Rattle.refinement_rules.proofs.BodyFacts.{charts_called}
use Rattle.refinement_rules.proofs.TableSense.{table_breaks}
use Rattle.refinement_rules.proofs.Walked.{least_same, one_made}

called_of : (links : List Summary) (name : List ℕ) → IsAmong (map (λ (s : Summary). s.name) links) name → IsCalled links name
called_of [] name h = absurd h
called_of (s ∷ links) name (inl e) = record { chart = s; among = inl refl; called = sym e }
called_of (s ∷ links) name (inr h) = let c = called_of links name h in record { chart = c.chart; among = inr c.among; called = c.called }

-- of the charts as the code holds them
pub table_least : (charts : List rust_chart.ChartEntry) (names known reach expanded : List (List ℕ)) (r : RefinementRule) (o : Option Place)
    → IsLeast (OneHolds (λ (c : rust_chart.ChartEntry). EntryBreaks (table_view charts) names known reach expanded r (entry_view c)) charts) o → IsLeast (TableBreaks (table_view charts) names known reach expanded r) o
table_least charts names known reach expanded r o =
    let P = EntryBreaks (table_view charts) names known reach expanded r in
    least_same (OneHolds (λ (c : rust_chart.ChartEntry). P (entry_view c)) charts) (TableBreaks (table_view charts) names known reach expanded r) o (one_made entry_view P charts)

pub rule_least : (links : List Summary) (charts : List rust_chart.ChartEntry) (own names known reach expanded : List (List ℕ)) (r : RefinementRule) (o : Option Place) → HasNames charts own → map (λ (s : Summary). s.name) links ≡ own
    → AreTables links names known reach expanded → IsLeast (TableBreaks (table_view charts) names known reach expanded r) o → IsLeast (BreaksRefinementRule links (table_view charts) r) o
rule_least links charts own names known reach expanded r o named same t =
    least_same (TableBreaks (table_view charts) names known reach expanded r) (BreaksRefinementRule links (table_view charts) r) o
    (λ q. table_breaks links names known reach expanded t (table_view charts) (λ c m. called_of links c.name (subst (λ (l : List (List ℕ)). IsAmong l c.name) (sym same) (charts_called charts own named c m))) q r)
