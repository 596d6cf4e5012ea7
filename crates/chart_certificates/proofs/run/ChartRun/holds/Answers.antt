use Rattle.std.proofs.Common.{◌≡◌, rules, sym, subst}
use Rattle.term_tables.specs.NetValues.{NetsValue}
use Rattle.empty_terms.specs.ChartTerms.{IsChartTerm}
use Rattle.chart_certificates.specs.Logging.{ChartRunValue}
use Rattle.chart_certificates.proofs.Holding.{run_serves}
use Rattle.chart_certificates.proofs.run.ChartRun.holds.Goals as goal

pub check_certificate-requires : goal.check_certificate-requires
check_certificate-requires c =
    let shared : c.deref.result.now ≡ c.self.inside.nets.value = search rules in
    subst (λ (v : NetsValue). IsChartTerm v.tables c.self.inside.term) (sym shared)
    (subst (λ (r : ChartRunValue). IsChartTerm r.nets.tables r.term) (sym c.self.view_is) (run_serves c.chart_terms_serve.ensures c.args.self.now c.requires))
