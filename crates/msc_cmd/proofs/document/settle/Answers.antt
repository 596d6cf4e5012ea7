use Rattle.std.proofs.Common.{◌≡◌, rules, subst}
use Rattle.msc_tree.specs.Views.{document_view}
use Rattle.msc_cmd.specs.declared.document_text.DocumentText.{DocumentText}
use Rattle.msc_cmd.specs.declared.document_text.DocumentText.TheVariants.{Read, Refused}
use Rattle.msc_cmd.specs.DocumentTexts.{IsTheText}
use Rattle.msc_cmd.specs.Intakes.{IsFormedText}
use Rattle.msc_cmd.proofs.Settling.{only_faulty, settled_read}
use Rattle.msc_cmd.proofs.document.settle.Goals as goal

pub come_to-requires-clause-formed : goal.come_to-requires-clause-formed
come_to-requires-clause-formed c =
    let is : c.args.text ≡ Read c.in-Read.document = search rules in
    (subst (λ (t : DocumentText). IsFormedText t) is c.requires).0

pub come_to-requires-clause-graphs : goal.come_to-requires-clause-graphs
come_to-requires-clause-graphs c =
    let is : c.args.text ≡ Read c.in-Read.document = search rules in
    (subst (λ (t : DocumentText). IsFormedText t) is c.requires).1

pub returns-in-Read : goal.returns-in-Read
returns-in-Read c =
    let is : c.args.text ≡ Read c.in-Read.document = search rules in
    λ bytes h. settled_read bytes (document_view c.in-Read.document) c.come_to.result c.come_to.ensures (subst (λ (t : DocumentText). IsTheText bytes t) is h)

pub returns-in-Refused : goal.returns-in-Refused
returns-in-Refused c =
    let is : c.args.text ≡ Refused c.in-Refused.broken c.in-Refused.place = search rules in
    λ bytes h. only_faulty bytes c.in-Refused.broken c.in-Refused.place (subst (λ (t : DocumentText). IsTheText bytes t) is h)
