use Rattle.std.proofs.Common.{◌≡◌, ◌∙◌, ℕ, Bool, List, None, not, rules, sym, subst}
use Rattle.event_log.specs.Logs.{log_rules, HoldsEvent}
use Rattle.msc_base.specs.Only.{Never, Only}
use Rattle.event_log.specs.States.{Fed}
use Rattle.msc_base.specs.declared.label.Label.{Label}
use Rattle.term_tables.specs.NetValues.{label_number}
use Rattle.trace_judge.specs.Tracks as track
use Rattle.log_judge.proofs.Few.{held_few}
use Rattle.log_judge.proofs.Takings.{event_taken, all_taken}
use Rattle.log_judge.proofs.taking.take_waiting.Goals as goal

pub take_event-requires-clause-room : goal.take_event-requires-clause-room
take_event-requires-clause-room g c =
    let k = c.loop-event.invariant.counted in
    held_few log_rules k.form _ k.bytes c.loop-event.track.events c.in-Some.event.event (c.in-Some.ensures.event k.form k.bytes c.loop-event.track.events k.fed).holds

pub take_event-requires-clause-number : goal.take_event-requires-clause-number
take_event-requires-clause-number g c =
    subst (λ (labels : List Label). c.in-Some.event.number ≡ label_number labels c.in-Some.event.event.label) (c.loop-event.invariant.labels ∙ c.requires.labels) c.in-Some.ensures.number

pub loop-event-preserved : goal.loop-event-preserved
loop-event-preserved g c =
    let s = c.loop-event.reader in
    let u = c.next_event.new.self in
    let same = c.loop-event.invariant.finished in
    let k = c.loop-event.invariant.counted in
    record {
      serves = c.take_event.ensures.serves;
      counted = record { form = k.form; bytes = k.bytes; fed = subst (λ (n : ℕ). Fed k.form k.bytes n u) (sym c.in_ok-take_event.ensures.count) (c.in-Some.ensures.fed k.form k.bytes c.loop-event.track.events k.fed) };
      finished = c.next_event.ensures.finished ∙ same;
      labels = c.next_event.ensures.labels ∙ c.loop-event.invariant.labels;
      has = λ x form budget b h.
          event_taken log_rules (track.Fed g.S.Store.holds c.args.nets.now x budget) form (not c.args.reader.now.finished) b s u c.loop-event.track c.take_event.new.track c.in-Some.event.event (λ n f. c.in-Some.ensures.fed form b n f)
          (λ n f. subst (λ (t : Bool). Only (HoldsEvent form (not t) b n) c.in-Some.event.event) same (c.in-Some.ensures.event form b n f)) c.next_event.ensures.fault (λ events f. c.in_ok-take_event.ensures.fed x budget events f)
          (c.loop-event.invariant.has x form budget b h);
      follows = λ x budget h. c.take_event.ensures.follows x budget (c.loop-event.invariant.follows x budget h);
    }

pub returns-in_err-take_event-clause-follows : goal.returns-in_err-take_event-clause-follows
returns-in_err-take_event-clause-follows g c = λ x budget h. c.take_event.ensures.follows x budget (c.loop-event.invariant.follows x budget h)

pub returns-clause-follows : goal.returns-clause-follows
returns-clause-follows g c = λ x budget h. c.loop-event.invariant.follows x budget h

pub returns-clause-all : goal.returns-clause-all
returns-clause-all g c =
    let none : c.next_event.result ≡ None = search rules in
    λ x form budget b h.
    all_taken log_rules (track.Fed g.S.Store.holds c.args.nets.now x budget) form (not c.args.reader.now.finished) b c.loop-event.reader c.next_event.new.self c.loop-event.track
    (λ n f w. subst (λ (t : Bool). Never (HoldsEvent form (not t) b n)) c.loop-event.invariant.finished (c.next_event.ensures.none form b n f none w)) (c.next_event.ensures.last none) (c.loop-event.invariant.has x form budget b h)
