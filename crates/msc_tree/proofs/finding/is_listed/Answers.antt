use Rattle.std.proofs.Common.{sym, ap, ◌∙◌}
use Rattle.std.specs.Option.{is_some}
use Rattle.msc_base.proofs.NameFacts.{number_of_one, one_of_number}
use Rattle.msc_tree.proofs.finding.is_listed.Goals as goal

pub returns : goal.returns
returns c =
    let same = c.is_some.ensures ∙ ap is_some c.number_in.ensures in
    (λ t. one_of_number c.args.names.now c.args.name.now (sym same ∙ t), λ h. same ∙ number_of_one c.args.names.now c.args.name.now h)
