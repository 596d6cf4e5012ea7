use Rattle.std.proofs.Common.{◌<◌, length, rules}
use Rattle.msc_tokens.specs.Spelling.{Spells}
use Rattle.msc_base.specs.Only.{Never, Only}
use Rattle.event_log.proofs.Spelling.{says_spelled, says_unspelled}
use Rattle.event_log.proofs.text_line.read_text_line.Goals as goal

pub returns-in_default : goal.returns-in_default
returns-in_default g c =
    let none : Never (Spells c.args.bytes.now) = search rules in
    says_unspelled g.M.LineMeaning.rules c.args.version c.args.number c.args.bytes.now none

pub returns : goal.returns
returns g c =
    let only : Only (Spells c.args.bytes.now) c.in-Some.tokens.tokens = search rules in
    let some : 0 < length c.in-Some.tokens.tokens = search rules in
    says_spelled g.M.LineMeaning.rules c.args.version c.args.number c.args.bytes.now c.in-Some.tokens.tokens c.read_tokens.result only some c.read_tokens.ensures
