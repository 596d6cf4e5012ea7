use Rattle.std.proofs.Common.{rules, ◌≡◌, sym, ◌∙◌}
use Rattle.std.specs.List.{position}
use Rattle.std.specs.Option.{is_some}
use Rattle.std.specs.Str.{bytes_eq}
use Rattle.msc_base.proofs.NameFacts.{any_from_one, numbered, one_from_any}
use Rattle.msc_base.proofs.name_table.NameTable.has.Goals as goal

pub returns-clause-test : goal.returns-clause-test
returns-clause-test c =
    let is : c.is_some.result ≡ is_some (position (bytes_eq c.args.name.now) c.args.self.now) = search rules in
    is ∙ numbered (bytes_eq c.args.name.now) c.args.self.now

pub returns-clause-is : goal.returns-clause-is
returns-clause-is c =
    let test = returns-clause-test c in
    (λ h. one_from_any c.args.self.now c.args.name.now (sym test ∙ h), λ o. test ∙ any_from_one c.args.self.now c.args.name.now o)
