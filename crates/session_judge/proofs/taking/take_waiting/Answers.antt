use Rattle.std.proofs.Common.{◌≡◌, ◌∙◌, ℕ, Bool, List, None, not, rules, sym, ap, subst, refl}
use Rattle.event_log.specs.RuledLogs.{HoldsEvent}
use Rattle.event_log.specs.RuledStates.{Fed}
use Rattle.msc_base.specs.Only.{Never, Only}
use Rattle.msc_base.specs.declared.label.Label.{Label}
use Rattle.session_log.specs.Sessions.{session_rules}
use Rattle.term_tables.specs.NetValues.{NetsValue, label_number}
use Rattle.log_judge.proofs.Few.{held_few}
use Rattle.log_judge.proofs.Takings.{event_taken, all_taken}
use Rattle.session_judge.specs.Tracks.{HaveTaken}
use Rattle.session_judge.proofs.Judging.{stays_made}
use Rattle.session_judge.proofs.taking.take_waiting.Goals as goal

pub loop-event-init : goal.loop-event-init
loop-event-init g c = record { counted = c.requires.counted; finished = refl; labels = refl; made = record { nets = refl; term = refl; budget = refl }; has = λ form b h. h }

pub take-requires-clause-room : goal.take-requires-clause-room
take-requires-clause-room g c =
    let k = c.loop-event.invariant.counted in
    (k.handed, held_few session_rules k.counted.form _ k.counted.bytes k.handed c.in-Some.event.event (c.in-Some.ensures.event k.counted.form k.counted.bytes k.handed k.counted.fed).holds, k.few)

pub take-requires-clause-number : goal.take-requires-clause-number
take-requires-clause-number g c =
    let i = c.loop-event.invariant in
    subst (λ (labels : List Label). c.in-Some.event.number ≡ label_number labels c.in-Some.event.event.label) (i.labels ∙ c.requires.labels ∙ ap (λ (v : NetsValue). v.labels) (sym i.made.nets)) c.in-Some.ensures.number.0

pub loop-event-preserved : goal.loop-event-preserved
loop-event-preserved g c =
    let i = c.loop-event.invariant in
    let s = c.loop-event.reader in
    let u = c.next_event.new.self in
    let same = i.finished in
    let k = i.counted in
    record {
      counted = record {
        handed = _;
        counted = record { form = k.counted.form; bytes = k.counted.bytes; fed = c.in-Some.ensures.fed k.counted.form k.counted.bytes k.handed k.counted.fed };
        few = c.in_ok-take.ensures.few k.handed k.few;
      };
      finished = c.next_event.ensures.finished ∙ same;
      labels = c.next_event.ensures.labels ∙ i.labels;
      made = stays_made c.args.tracks.now c.loop-event.tracks c.take.new.self i.made c.take.ensures.made;
      has = λ form b h.
          event_taken session_rules (HaveTaken g.S.Store.holds) form (not c.args.reader.now.finished) b s u c.loop-event.tracks c.take.new.self c.in-Some.event.event (λ n f. c.in-Some.ensures.fed form b n f)
          (λ n f. subst (λ (t : Bool). Only (HoldsEvent session_rules form (not t) b n) c.in-Some.event.event) same (c.in-Some.ensures.event form b n f)) c.next_event.ensures.fault (λ events f. c.in_ok-take.ensures.taken events f)
          (i.has form b h);
    }

pub returns-in_err-take-clause-made : goal.returns-in_err-take-clause-made
returns-in_err-take-clause-made g c = stays_made c.args.tracks.now c.loop-event.tracks c.take.new.self c.loop-event.invariant.made c.take.ensures.made

pub returns-clause-all : goal.returns-clause-all
returns-clause-all g c =
    let none : c.next_event.result ≡ None = search rules in
    λ form b h.
    all_taken session_rules (HaveTaken g.S.Store.holds) form (not c.args.reader.now.finished) b c.loop-event.reader c.next_event.new.self c.loop-event.tracks
    (λ n f w. subst (λ (t : Bool). Never (HoldsEvent session_rules form (not t) b n)) c.loop-event.invariant.finished (c.next_event.ensures.none form b n f none w)) (c.next_event.ensures.last none) (c.loop-event.invariant.has form b h)
