use Rattle.std.proofs.Common.{rules}
use Rattle.token_grammar.specs.Languages.{texts}
use Rattle.event_log.specs.Objects.{IsAllowed}
use Rattle.event_log.proofs.Spelling.{refusal, allowed_event, barred_event, not_both}
use Rattle.event_log.proofs.text_line.event_of_tokens.Goals as goal

pub returns-then-is_allowed : goal.returns-then-is_allowed
returns-then-is_allowed c =
    let allowed : IsAllowed c.args.version c.in-Ok.label.kind = search rules in
    allowed_event c.args.version (texts c.args.tokens.now.tokens) c.in-Ok.label c.in-Ok.ensures.ok c.in-Ok.ensures.only allowed

pub returns-else-is_allowed : goal.returns-else-is_allowed
returns-else-is_allowed c =
    let barred : IsAllowed c.args.version c.in-Ok.label.kind → ⊥ = λ is. not_both c.is_allowed.result (c.is_allowed.ensures.1 is) c.if-is_allowed.false in
    barred_event c.args.version (texts c.args.tokens.now.tokens) c.in-Ok.label c.in-Ok.ensures.only barred

pub returns-in_default : goal.returns-in_default
returns-in_default c = λ label e. c.in-Err.ensures.none (refusal c.in-Err.fault c.in_default.not-NoMemory) label e.reads
