use Rattle.std.proofs.Common.{◌∙◌, sym, subst, rules}
use Rattle.msc_base.specs.Names.{IsName}
use Rattle.token_grammar.proofs.FirstNames.{first_name, no_first_name}
use Rattle.token_grammar.proofs.parts.taken_name.Goals as goal

pub returns-in-Ok-clause-token : goal.returns-in-Ok-clause-token
returns-in-Ok-clause-token c =
    first_name c.args.tokens.now c.in-Some.first.now c.in-Some.rest.now c.in-Some.ensures.cases.0 (subst IsName (c.in-Ok.ensures.ok ∙ c.bytes.ensures) c.in-Ok.ensures.name)

pub returns-in-Err-NotAName-clause-token : goal.returns-in-Err-NotAName-clause-token
returns-in-Err-NotAName-clause-token c =
    no_first_name c.args.tokens.now c.in-Some.first.now c.in-Some.rest.now c.in-Some.ensures.cases.0 (λ h. c.in-Err-NotAName.ensures.refused (search rules) (subst IsName (sym c.bytes.ensures) h))
