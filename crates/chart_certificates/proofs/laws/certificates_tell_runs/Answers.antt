use Rattle.chart_certificates.proofs.RunsTold.{certificates_tell_runs}
use Rattle.chart_certificates.proofs.laws.certificates_tell_runs.Goals as goal

pub returns : goal.returns
returns c = certificates_tell_runs c.charts_have_terms.ensures c.chart_terms_serve.ensures c.certificates_are_exact.ensures
