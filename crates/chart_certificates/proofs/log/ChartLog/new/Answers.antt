use Rattle.msc_meaning.specs.Views.{table_view}
use Rattle.chart_certificates.proofs.log.ChartLog.new.Goals as goal

pub term_of-requires-clause-graphs : goal.term_of-requires-clause-graphs
term_of-requires-clause-graphs c = c.chart_terms_serve.ensures.graphs (table_view c.args.accepted.now) c.args.name.now c.requires.there.0 c.requires.there.1 c.requires.accepted
