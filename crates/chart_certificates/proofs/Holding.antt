-- A certificate holds for the events of a log exactly where it holds for their numbers.
use Rattle.std.specs.Prelude.{ℕ, ◌↔◌, Bool, List, IsTrue}
use Rattle.std.proofs.Common.{sym, subst}
use Rattle.line_events.specs.declared.event.LineEvent.{LineEvent}
use Rattle.msc_meaning.specs.Tables.{Table}
use Rattle.chart_term.specs.Tables.{terms_over}
use Rattle.chart_term.specs.Terms.{Tree}
use Rattle.term_tables.specs.NetValues.{NetsValue}
use Rattle.certificates.specs.Certificates.{Certificate, Holds}
use Rattle.empty_terms.specs.ChartTerms.{IsChartTerm}
use Rattle.numbered_log.specs.Numbers.{numbers_in}
use Rattle.chart_certificates.specs.ChartCertificates.{HoldsFor}
use Rattle.chart_certificates.specs.Logging.{ChartRunValue, IsRunOn}
use Rattle.chart_certificates.specs.TermLaws.{ChartTermsServe}

pub run_serves : ChartTermsServe → (r : ChartRunValue) → ((table : Table) × (name : List ℕ) × (events : List LineEvent) × IsRunOn table name events r) → IsChartTerm r.nets.tables r.term
run_serves laws r (table, name, events, h) = laws.serves table name h.has.chart r.nets r.term h.has.is h.accepted h.has.made

pub holds_for : ChartTermsServe → (table : Table) (name : List ℕ) (events : List LineEvent) (r : ChartRunValue) (c : Certificate) (b : Bool) → IsRunOn table name events r
    → IsTrue b ↔ Holds (terms_over r.nets.tables) r.term r.numbers c → IsTrue b ↔ HoldsFor table name events c
holds_for laws table name events r c b run h = (
  λ t. record { tables = r.nets; term = r.term; has = run.has; holds = subst (λ (l : List ℕ). Holds (terms_over r.nets.tables) r.term l c) run.numbers (h.0 t) },
  λ g. h.1 (back g),
)
  where
    back : HoldsFor table name events c → Holds (terms_over r.nets.tables) r.term r.numbers c
    back g =
        let same = laws.one table name g.tables r.nets g.term r.term g.has.made run.has.made in
        subst (λ (l : List ℕ). Holds (terms_over r.nets.tables) r.term l c) (sym run.numbers)
        (subst (λ (y : Tree). Holds (terms_over r.nets.tables) y (numbers_in r.nets.labels events) c) same.1
        (subst (λ (v : NetsValue). Holds (terms_over v.tables) g.term (numbers_in v.labels events) c) same.0 g.holds))

pub ruleset holding = (run_serves, holds_for)
