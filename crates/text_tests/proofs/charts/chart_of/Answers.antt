use Rattle.msc_base.specs.declared.limits.TheConstants.Limits.{NESTING}
use Rattle.msc_tree.specs.Views.{document_view}
use Rattle.text_tests.proofs.TestFacts.{last_formed}
use Rattle.text_tests.proofs.charts.chart_of.Goals as goal

pub returns-in-Ok : goal.returns-in-Ok
returns-in-Ok c =
    last_formed c.in-Ok.document.charts.items c.pop.new.self.items c.pop.result c.pop.ensures.items (c.documents_are_exact.ensures.formed NESTING _ (document_view c.in-Ok.document) c.in-Ok.ensures.ok)
