-- The terms of charts of accepted tables serve the checker of certificates.
use Rattle.std.specs.Prelude.{ℕ, ◌≡◌, List, [], ◌∷◌, Some, length}
use Rattle.msc_base.specs.declared.limits.TheConstants.Limits.{EXPANDED_NESTING}
use Rattle.chart_cycles.specs.Cycles.{AreOrdered, IsOrdered}
use Rattle.chart_term.specs.Terms.{Tree}
use Rattle.empty_terms.specs.ChartTerms.{IsChartTerm, SoundTermsServe}
use Rattle.msc_acceptance.specs.AcceptedCharts.{EachChart, IsAcceptedTable}
use Rattle.msc_meaning.specs.Tables.{ChartEntry, Table, chart_at}
use Rattle.table_terms.specs.TableTerms.{IsTermOf}
use Rattle.term_tables.specs.NetValues.{NetsValue}
use Rattle.unbegun_terms.specs.UnbegunLaws.{TermsAreUnbegun}
use Rattle.chart_judge.specs.ChartsTold.{ChartsHaveTerms}
use Rattle.chart_judge.proofs.TableEntries.{name_has}
use Rattle.chart_judge.proofs.WholeTables.{all_quiet}
use Rattle.chart_certificates.specs.TermLaws.{ChartTermsServe}

each_ordered : (table : Table) (depth : ℕ) (charts : List ChartEntry) → AreOrdered table depth charts → EachChart (λ c. IsOrdered table depth c.name) charts
each_ordered table depth [] h = tt
each_ordered table depth (c ∷ charts) h = (h.0, each_ordered table depth charts h.1)

pub chart_terms : ChartsHaveTerms → SoundTermsServe → TermsAreUnbegun → ChartTermsServe
chart_terms terms serve unbegun = record {
  room = terms.room;
  graphs = terms.graphs;
  one = terms.one;
  serves = serves;
}
  where
    serves : (table : Table) (name : List ℕ) (chart : ChartEntry) (v : NetsValue) (x : Tree) → chart_at table name ≡ Some chart → IsAcceptedTable table → IsTermOf table name v x → IsChartTerm v.tables x
    serves table name chart v x is accepted made =
        serve (length v.labels) v.tables x (terms.sound table name chart v x is accepted made).full (unbegun.term table name v x made)
        (unbegun.nets table name v x (terms.graphs table name chart is accepted) (all_quiet table accepted.gates accepted.there) made
        (name_has (IsOrdered table EXPANDED_NESTING) table name chart (each_ordered table EXPANDED_NESTING table accepted.ordered) is))
