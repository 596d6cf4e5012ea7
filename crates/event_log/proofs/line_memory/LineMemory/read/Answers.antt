use Rattle.std.proofs.Common.{◌<◌, rules, sym, subst}
use Rattle.event_log.specs.Meanings.{LineSays}
use Rattle.event_log.specs.Memories.{IsNumberIn}
use Rattle.event_log.specs.declared.line_memory.NumberedLine.{NumberedLine}
use Rattle.event_log.proofs.Remembering.{says_behind}
use Rattle.event_log.proofs.line_memory.LineMemory.read.Goals as goal

-- a line that is looked up isn't the first
pub returns-in-Some-clause-says : goal.returns-in-Some-clause-says
returns-in-Some-clause-says g c =
    let behind : 1 < c.args.number = search rules in
    subst (λ (m : NumberedLine _). LineSays g.M.LineMeaning.rules c.args.self.now.form c.args.self.now.version c.args.number c.args.bytes.now m.says) (sym c.in_ok-known.ensures) (c.in-Some.ensures.says c.args.number behind)

pub returns-in-Some-clause-number : goal.returns-in-Some-clause-number
returns-in-Some-clause-number g c = subst (λ (m : NumberedLine _). IsNumberIn g.M.LineMeaning.rules c.args.self.now.labels m.says m.number) (sym c.in_ok-known.ensures) c.in-Some.ensures.number

pub remember-requires-clause-says : goal.remember-requires-clause-says
remember-requires-clause-says g c =
    let behind : 1 < c.args.number = search rules in
    says_behind g.M.LineMeaning.rules c.args.self.now.form c.args.self.now.version c.args.number c.args.bytes.now c.in_ok-line.line.says behind c.in_ok-line.ensures.says
