use Rattle.std.proofs.Common.{List}
use Rattle.msc_tokens.specs.declared.token.Token.{Token}
use Rattle.msc_tokens.specs.Spelling.{Spells}
use Rattle.event_log.proofs.Spelling.{named}
use Rattle.event_log.proofs.text_line.tokens_of.Goals as goal

pub returns-in_default : goal.returns-in_default
returns-in_default c = named c.in-Err.fault ((others : List Token) → Spells c.args.bytes.now others → ⊥) c.in_default.not-NoMemory c.in-Err.ensures.none
