use Rattle.std.proofs.Common.{subst}
use Rattle.event_log.specs.Meanings.{LineSays}
use Rattle.event_log.specs.Memories.{LineSort}
use Rattle.event_log.proofs.line_memory.LineMemory.read_anew.Goals as goal

pub returns-clause-says : goal.returns-clause-says
returns-clause-says g c = subst (λ (s : LineSort). LineSays g.M.LineMeaning.rules s.form s.version c.args.number c.args.bytes.now c.in_ok-says.says) c.self.view_is c.in_ok-says.ensures
