use Rattle.std.proofs.Common.{◌≡◌, rules, subst}
use Rattle.token_grammar.specs.Languages.{texts}
use Rattle.event_log.specs.Meanings.{StatesVersion}
use Rattle.msc_base.specs.Only.{Never, Only}
use Rattle.event_log.proofs.text_line.read_tokens.Goals as goal

pub returns-in-None : goal.returns-in-None
returns-in-None g c =
    let no_version : c.args.number ≡ 1 → Never (StatesVersion (texts c.as_slice.result.now)) = search rules in
    let no_event : Never (g.M.LineMeaning.rules.tokens_are c.args.version (texts c.args.tokens.now.tokens)) = search rules in
    (subst (λ ts. c.args.number ≡ 1 → Never (StatesVersion (texts ts))) c.as_slice.ensures no_version, no_event)

pub returns-in-Some-2 : goal.returns-in-Some-2
returns-in-Some-2 g c =
    let no_version : c.args.number ≡ 1 → Never (StatesVersion (texts c.as_slice.result.now)) = search rules in
    let only : Only (g.M.LineMeaning.rules.tokens_are c.args.version (texts c.args.tokens.now.tokens)) c.in-Some-2.event = search rules in
    (subst (λ ts. c.args.number ≡ 1 → Never (StatesVersion (texts ts))) c.as_slice.ensures no_version, only)
