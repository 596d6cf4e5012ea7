use Rattle.std.proofs.Common.{◌≡◌, Some, None, false, rules, sym, ap, ◌∙◌}
use Rattle.event_log.specs.RuledStates.{ReaderState}
use Rattle.event_log.proofs.Feeding.{holds_end}
use Rattle.event_log.proofs.Answers.{is_fed}
use Rattle.event_log.proofs.reader.LineReader.whole_fault.Goals as goal

pub returns-in-Some-clause-holds : goal.returns-in-Some-clause-holds
returns-in-Some-clause-holds g c =
    let s = c.args.self.now in
    let x = c.in-Some.fault in
    let is : s.fault ≡ Some x = sym (ap (λ (t : ReaderState _ _). t.fault) c.self.view_is) ∙ c.in-Some.is in
    λ form b n h. holds_end g.M.LineMeaning.rules form b n x s (is_fed g.M.LineMeaning.rules (Some x) false form b n s is c.requires h)

pub returns-in-Ok-clause-holds : goal.returns-in-Ok-clause-holds
returns-in-Ok-clause-holds g c =
    let s = c.args.self.now in
    let none : c.self.inside.fault ≡ None = search rules in
    let is : s.fault ≡ None = sym (ap (λ (t : ReaderState _ _). t.fault) c.self.view_is) ∙ none in
    λ form b n h. c.in-Ok.ensures.ok form b n (is_fed g.M.LineMeaning.rules None false form b n s is c.requires h)
