use Rattle.std.proofs.Common.{true, refl, ap}
use Rattle.event_log.specs.RuledStates.{ReaderState}
use Rattle.event_log.proofs.Answers.{end_same, fed_is}
use Rattle.event_log.proofs.reader.LineReader.end.Goals as goal

pub returns-clause-fed : goal.returns-clause-fed
returns-clause-fed g c =
    let fault = c.whole_fault-fault.result in
    λ form b n h.
    fed_is g.M.LineMeaning.rules fault true form b n _ refl refl
    (end_same g.M.LineMeaning.rules fault form b n c.whole_fault-fault.new.self _
    (record { form_is = ap (λ (t : ReaderState _ _). t.form) c.self.view_is; waiting_is = ap (λ (t : ReaderState _ _). t.waiting) c.self.view_is })
    (c.whole_fault-fault.ensures.holds form b n h))
