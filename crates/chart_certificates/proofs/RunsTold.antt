-- A certificate holds exactly where the log conforms.
use Rattle.std.specs.Prelude.{ℕ, ◌≡◌, List, [], ◌∷◌, Option, Some, None, length, map}
use Rattle.std.specs.List.{slice_get}
use Rattle.std.proofs.Common.{◌∙◌, ap, ap₂, arith, refl, sym, subst}
use Rattle.std.proofs.lemmas.Option.{slice_get_within}
use Rattle.msc_base.specs.declared.label.Label.{Label}
use Rattle.msc_base.specs.Patterns.{Position, event_at}
use Rattle.label_table.specs.Labels.{label_number}
use Rattle.line_events.specs.declared.event.LineEvent.{LineEvent}
use Rattle.msc_acceptance.specs.AcceptedCharts.{IsAcceptedTable}
use Rattle.msc_meaning.specs.Meanings.{Begun, Conforms, Finished}
use Rattle.msc_meaning.specs.Tables.{ChartEntry, Table, chart_at}
use Rattle.msc_unfolding.specs.Unfoldings.{Unfolding, plain}
use Rattle.certificates.specs.CertificateLaws.{CertificatesAreExact}
use Rattle.chart_term.specs.TermPatterns.{Shape, numbered}
use Rattle.chart_term.specs.TermRuns.{labels as numbers_at}
use Rattle.chart_term.specs.Terms.{Tree}
use Rattle.term_laws.specs.Residuals.{IsFinishedRun}
use Rattle.term_tables.specs.NetValues.{NetsValue}
use Rattle.term_meaning.specs.Meanings.{Means}
use Rattle.term_meaning.specs.Naming.{IsNamed}
use Rattle.term_meaning.specs.Standings.{Stands}
use Rattle.trace_judge.specs.Logs.{AreNumbers, IsTermRun, labels_of}
use Rattle.verdict_meaning.proofs.Meaning.{runs}
use Rattle.empty_terms.specs.ChartTerms.{IsChartTerm}
use Rattle.table_terms.specs.TableTerms.{IsTermOf, chart_made, chart_numbering, chart_tables}
use Rattle.numbered_log.specs.Numbers.{number_in, number_or, numbers_in}
use Rattle.chart_judge.specs.ChartVerdicts.{HasTerm}
use Rattle.chart_judge.specs.ChartsTold.{ChartsHaveTerms}
use Rattle.chart_certificates.specs.ChartCertificates.{HoldsFor}
use Rattle.chart_certificates.specs.RunsTold.{CertificatesTellRuns, HasCertificate}
use Rattle.chart_certificates.specs.TermLaws.{ChartTermsServe}

-- a number that is a label's in the table is the number of that label
is_known : (table : List Label) (l k : Label) → slice_get table (number_in table l) ≡ Some k → label_number table l ≡ Some (number_in table l)
is_known table l k is = by (label_number table l) is
  where
    by : (o : Option ℕ) → slice_get table (number_or o (length table)) ≡ Some k → o ≡ Some (number_or o (length table))
    by None e = let past = slice_get_within table (length table) k e in absurd (omega (arith, past))
    by (Some n) e = refl

-- labels that have numbers have those
pub are_numbers_in : (table : List Label) (events : List LineEvent) (numbers : List ℕ) → AreNumbers table (labels_of events) numbers → numbers ≡ numbers_in table events
are_numbers_in table [] [] a = refl
are_numbers_in table [] (n ∷ numbers) a = absurd a
are_numbers_in table (e ∷ events) [] a = absurd a
are_numbers_in table (e ∷ events) (n ∷ numbers) (is, rest) = ap₂ (λ (m : ℕ) (ms : List ℕ). m ∷ ms) (sym (ap (λ (o : Option ℕ). number_or o (length table)) is)) (are_numbers_in table events numbers rest)

module _ (table : List Label) (names : List (List ℕ)) (s : Shape) (u : Unfolding) (h : Stands numbered plain (IsNamed table names) s u) where
  -- each number in a run of a pattern that stands for an unfolding is a label's
  known_numbers : (l : List (Position s)) (events : List LineEvent) → numbers_at s l ≡ numbers_in table events → AreNumbers table (labels_of events) (numbers_in table events)
  known_numbers [] [] e = tt
  known_numbers [] (d ∷ events) e = cc
  known_numbers (i ∷ l) [] e = cc
  known_numbers (i ∷ l) (d ∷ events) e =
      let here : (event_at numbered s i).label ≡ number_in table d.label = cc in
      let rest : numbers_at s l ≡ numbers_in table events = cc in
      (is_known table d.label (event_at plain u (h.to i)).label (subst (λ (n : ℕ). slice_get table n ≡ Some (event_at plain u (h.to i)).label) here (h.event i).label), known_numbers l events rest)

module _ (table : Table) (name : List ℕ) (v : NetsValue) (names : List (List ℕ)) (x : Tree) (means : Means v names x (Finished table name) (Begun table name)) (events : List LineEvent) where
  run_there : IsFinishedRun v.tables x (numbers_in v.labels events) → Conforms table name (labels_of events)
  run_there r =
      let of = means.finished_ones.each r.pattern r.has in
      let are = known_numbers v.labels names r.pattern of.of of.stands r.run.order events r.run.are in
      (runs v names x means.once (Finished table name) means.finished_ones (labels_of events)).to (record { numbers = numbers_in v.labels events; are = are; run = r })

  run_here : Conforms table name (labels_of events) → IsFinishedRun v.tables x (numbers_in v.labels events)
  run_here c =
      let r : IsTermRun v x (labels_of events) = (runs v names x means.once (Finished table name) means.finished_ones (labels_of events)).from c in
      subst (IsFinishedRun v.tables x) (are_numbers_in v.labels events r.numbers r.are) r.run

pub certificates_tell_runs : ChartsHaveTerms → ChartTermsServe → CertificatesAreExact → CertificatesTellRuns
certificates_tell_runs terms serve law table name chart events is accepted = record { to = there; from = here }
  where
    there : HasCertificate table name events → Conforms table name (labels_of events)
    there c =
        let has = c.holds.has in
        let v = c.holds.tables in
        let x = c.holds.term in
        let serves = serve.serves table name has.chart v x has.is accepted has.made in
        let means = terms.means table name has.chart v x has.is accepted has.made in
        run_there table name v (chart_numbering table name).names x means events
        ((law.exact v.tables x (numbers_in v.labels events) serves.nodes serves.unbegun).to (record { certificate = c.certificate; holds = c.holds.holds }))

    here : Conforms table name (labels_of events) → HasCertificate table name events
    here c =
        let v = chart_tables table name in
        let x = (chart_made table name).term in
        let made : IsTermOf table name v x = record { term = refl; nets = refl } in
        let serves = serve.serves table name chart v x is accepted made in
        let means = terms.means table name chart v x is accepted made in
        let found = (law.exact v.tables x (numbers_in v.labels events) serves.nodes serves.unbegun).from (run_here table name v (chart_numbering table name).names x means events c) in
        record { certificate = found.certificate; holds = record { tables = v; term = x; has = record { chart = chart; is = is; made = made }; holds = found.holds } }
