use Rattle.std.specs.List.{list_any}
use Rattle.std.specs.Str.{bytes_eq}
use Rattle.std.proofs.Common.{ap, sym, ◌∙◌}
use Rattle.msc_base.proofs.NameFacts.{one_from_any, any_from_one}
use Rattle.msc_tree.proofs.few_names.ManyNames.has.Goals as goal

pub returns : goal.returns
returns c =
    let names = c.self.view_is in
    let same = c.has.ensures.test ∙ (ap (λ n. list_any (bytes_eq n) c.self.inside.table) c.bytes.ensures.bytes ∙ (c.self.invariant c.args.name.now ∙ ap (list_any (bytes_eq c.args.name.now)) names)) in
    (λ t. one_from_any c.args.self.now c.args.name.now (sym same ∙ t), λ h. same ∙ any_from_one c.args.self.now c.args.name.now h)
