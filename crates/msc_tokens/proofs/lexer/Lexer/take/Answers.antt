use Rattle.std.proofs.Common.{rules, ◌≡◌, ◌++◌, refl, Some}
use Rattle.msc_tokens.specs.Lexing.{refusal_of}
use Rattle.msc_tokens.proofs.Answering.{fed_stays}
use Rattle.msc_tokens.proofs.lexer.Lexer.take.Goals as goal

pub returns-in-Some-clause-fed : goal.returns-in-Some-clause-fed
returns-in-Some-clause-fed c =
    let refused : refusal_of c.args.self.now ≡ Some c.in-Some.fault = search rules in
    λ bytes h. fed_stays bytes c.args.piece.now (bytes ++ c.args.piece.now) c.args.self.now _ c.in-Some.fault refused (search rules) (search rules) refl h
