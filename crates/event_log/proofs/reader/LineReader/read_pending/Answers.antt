use Rattle.std.proofs.Common.{map, rules, ap, subst}
use Rattle.event_log.specs.Meanings.{LineSays}
use Rattle.event_log.specs.RuledStates.{ReaderState}
use Rattle.event_log.proofs.WholeLines.{refuses_there}
use Rattle.event_log.proofs.reader.LineReader.read_pending.Goals as goal

pub returns-clause-fault : goal.returns-clause-fault
returns-clause-fault g c =
    let line = c.in_ok-line.line.says in
    let i = c.self.inside in
    let bytes : LineSays g.M.LineMeaning.rules i.memory.form i.memory.version i.number c.as_slice-bytes.result.now line = search rules in
    let fields : LineSays g.M.LineMeaning.rules i.memory.form i.memory.version i.number i.line.items line = subst (λ l. LineSays g.M.LineMeaning.rules i.memory.form i.memory.version i.number l line) c.as_slice-bytes.ensures.value bytes in
    let says : LineSays g.M.LineMeaning.rules c.args.self.now.form c.args.self.now.version c.args.self.now.number c.args.self.now.line line =
    subst (λ (s : ReaderState _ _). LineSays g.M.LineMeaning.rules s.form s.version s.number s.line line) c.self.view_is fields in
    let before : ReaderState _ _ = record { form = c.read.new.self.form; version = c.read.new.self.version; labels = c.read.new.self.labels; number = i.number; count = i.count; read = i.read; met = i.met; line = i.line.items; waiting = map g.M.LineMeaning.event_of i.waiting.items; fault = i.fault; finished = i.finished } in
    refuses_there g.M.LineMeaning.rules before c.args.self.now line c.take_line.result (ap (λ (s : ReaderState _ _). s.number) c.self.view_is) (ap (λ (s : ReaderState _ _). s.read) c.self.view_is) (ap (λ (s : ReaderState _ _). s.met) c.self.view_is) says c.take_line.ensures.fault
