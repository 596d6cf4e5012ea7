use Rattle.std.proofs.Common.{◌≡◌, true, sym, ap, ◌∙◌}
use Rattle.event_log.specs.RuledStates.{ReaderState, fault_in}
use Rattle.event_log.proofs.Answers.{fed_answer, event_stays_whole}
use Rattle.event_log.proofs.reader.LineReader.finish.Goals as goal

pub returns-then-self-clause-decided : goal.returns-then-self-clause-decided
returns-then-self-clause-decided g c =
    let s = c.args.self.now in
    let is : c.self.inside.finished ≡ true = c.if-self.true in
    let finished : s.finished ≡ true = sym (ap (λ (t : ReaderState _ _). t.finished) c.self.view_is) ∙ is in
    λ form b n h. fed_answer g.M.LineMeaning.rules (fault_in c.answer.result) true form b n s (sym c.answer.ensures) finished h

pub returns-clause-decided : goal.returns-clause-decided
returns-clause-decided g c =
    let u = c.end.new.self in
    λ form b n h. fed_answer g.M.LineMeaning.rules (fault_in c.answer-2.result) true form b n u (sym c.answer-2.ensures) c.end.ensures.finished (c.end.ensures.fed form b n h)

pub returns-then-self-clause-stays : goal.returns-then-self-clause-stays
returns-then-self-clause-stays g c = event_stays_whole g.M.LineMeaning.rules

pub returns-clause-stays : goal.returns-clause-stays
returns-clause-stays g c = event_stays_whole g.M.LineMeaning.rules
