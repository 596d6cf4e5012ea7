use Rattle.std.proofs.Common.{rules}
use Rattle.msc_tokens.specs.Spelling.{Spells}
use Rattle.msc_events.specs.LogEvents.{ReadsText}
use Rattle.msc_base.specs.Only.{Never, Only}
use Rattle.event_log.proofs.Spelling.{spelled_answer}
use Rattle.event_log.proofs.object.text_of.Goals as goal

pub returns-in_default : goal.returns-in_default
returns-in_default c =
    let none : Never (Spells c.args.bytes.now) = search rules in
    λ text e. none e.tokens e.spells

pub returns : goal.returns
returns c =
    let only : Only (Spells c.args.bytes.now) c.in-Some.tokens.tokens = search rules in
    spelled_answer (ReadsText c.args.kind) c.args.bytes.now c.in-Some.tokens.tokens c.text_of_tokens.result only c.text_of_tokens.ensures
