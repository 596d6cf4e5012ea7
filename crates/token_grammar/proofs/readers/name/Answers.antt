use Rattle.token_grammar.specs.Languages.{names}
use Rattle.token_grammar.proofs.GivenNames.{given_name}
use Rattle.token_grammar.proofs.readers.name.Goals as goal

pub returns-clause-name : goal.returns-clause-name
returns-clause-name c = given_name (λ x. (x.0.now, x.1.now)) c.args.tokens.now c.first_if.result (c.first_if.ensures names c.starts_with_name.ensures)
