use Rattle.std.proofs.Common.{subst}
use Rattle.msc_tree.specs.Charts.{Document}
use Rattle.msc_tree.specs.Views.{document_view}
use Rattle.token_grammar.specs.Answers.{Gives}
use Rattle.token_grammar.specs.Languages.{Read}
use Rattle.msc_document.proofs.ChartForms.{some_is}
use Rattle.msc_document.proofs.document.document.Goals as goal

pub returns-in-Some : goal.returns-in-Some
returns-in-Some c =
    subst (λ (r : Read Document). Gives (λ x. (document_view x.0, x.1.now)) c.some_document.result r)
    (some_is c.args.levels c.in-Some.field-0.0.now c.args.tokens.now c.in-Some.field-0.1.now c.in-Some.ensures.cases.0) c.some_document.ensures
