use Rattle.std.proofs.Common.{map, ◌+◌, length, rules, subst, ap}
use Rattle.event_log.specs.Meanings.{LineSays}
use Rattle.event_log.specs.RuledStates.{ReaderState, whole}
use Rattle.event_log.proofs.WholeLines.{refuses_there}
use Rattle.event_log.proofs.reader.LineReader.read_whole.Goals as goal

pub returns-clause-fault : goal.returns-clause-fault
returns-clause-fault g c =
    let line = c.in_ok-line.line.says in
    let i = c.self.inside in
    let fields : LineSays g.M.LineMeaning.rules i.memory.form i.memory.version i.number c.args.line.now line = search rules in
    let says : LineSays g.M.LineMeaning.rules c.args.self.now.form c.args.self.now.version c.args.self.now.number c.args.line.now line =
    subst (λ (s : ReaderState _ _). LineSays g.M.LineMeaning.rules s.form s.version s.number c.args.line.now line) c.self.view_is fields in
    let before : ReaderState _ _ = record { form = c.read.new.self.form; version = c.read.new.self.version; labels = c.read.new.self.labels; number = i.number; count = i.count + length c.args.line.now + 1; read = i.read; met = i.met; line = i.line.items; waiting = map g.M.LineMeaning.event_of i.waiting.items; fault = i.fault; finished = i.finished } in
    refuses_there g.M.LineMeaning.rules before (whole c.args.self.now c.args.line.now) line c.take_line.result (ap (λ (s : ReaderState _ _). s.number) c.self.view_is) (ap (λ (s : ReaderState _ _). s.read) c.self.view_is) (ap (λ (s : ReaderState _ _). s.met) c.self.view_is) says c.take_line.ensures.fault
