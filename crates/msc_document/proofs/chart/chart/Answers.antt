use Rattle.std.proofs.Common.{subst}
use Rattle.msc_tree.specs.Charts.{Chart}
use Rattle.msc_tree.specs.Views.{chart_view}
use Rattle.token_grammar.specs.Answers.{Gives}
use Rattle.token_grammar.specs.Languages.{Read}
use Rattle.msc_document.proofs.ChartForms.{chart_is}
use Rattle.msc_document.proofs.chart.chart.Goals as goal

pub returns : goal.returns
returns c = subst (λ (r : Read Chart). Gives (λ x. (chart_view x.0, x.1.now)) c.chart_parts.result r) (chart_is c.args.levels c.args.tokens.now) c.chart_parts.ensures
