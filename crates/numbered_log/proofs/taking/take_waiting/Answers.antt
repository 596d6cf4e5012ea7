use Rattle.std.proofs.Common.{◌≡◌, ◌∙◌, Bool, List, None, not, rules, subst}
use Rattle.event_log.specs.Logs.{log_rules, HoldsEvent}
use Rattle.label_table.specs.Labels.{label_number}
use Rattle.msc_base.specs.Only.{Never, Only}
use Rattle.msc_base.specs.declared.label.Label.{Label}
use Rattle.log_judge.proofs.Takings.{event_taken, all_taken}
use Rattle.numbered_log.specs.States.{AreOf}
use Rattle.numbered_log.proofs.NumberedLogs.{numbered}
use Rattle.numbered_log.proofs.taking.take_waiting.Goals as goal

pub loop-event-preserved : goal.loop-event-preserved
loop-event-preserved c =
    let table = c.args.reader.now.labels in
    let s = c.loop-event.reader in
    let u = c.next_event.new.self in
    let same = c.loop-event.invariant.finished in
    record {
      finished = c.next_event.ensures.finished ∙ same;
      labels = c.next_event.ensures.labels ∙ c.loop-event.invariant.labels;
      has = λ form b h.
          event_taken log_rules (AreOf table) form (not c.args.reader.now.finished) b s u c.loop-event.numbers.items c.push_event.new.numbers.items c.in-Some.event.event (λ n f. c.in-Some.ensures.fed form b n f)
          (λ n f. subst (λ (t : Bool). Only (HoldsEvent form (not t) b n) c.in-Some.event.event) same (c.in-Some.ensures.event form b n f)) c.next_event.ensures.fault
          (λ events f. numbered table events c.loop-event.numbers.items c.push_event.new.numbers.items c.in-Some.event.event c.in-Some.event.number c.args.none
          (subst (λ (labels : List Label). c.in-Some.event.number ≡ label_number labels c.in-Some.event.event.label) c.loop-event.invariant.labels c.in-Some.ensures.number) c.requires.none c.in_ok-push_event.ensures f)
          (c.loop-event.invariant.has form b h);
    }

pub returns-clause-all : goal.returns-clause-all
returns-clause-all c =
    let none : c.next_event.result ≡ None = search rules in
    λ form b h.
    all_taken log_rules (AreOf c.args.reader.now.labels) form (not c.args.reader.now.finished) b c.loop-event.reader c.next_event.new.self c.loop-event.numbers.items
    (λ n f w. subst (λ (t : Bool). Never (HoldsEvent form (not t) b n)) c.loop-event.invariant.finished (c.next_event.ensures.none form b n f none w)) (c.next_event.ensures.last none) (c.loop-event.invariant.has form b h)
