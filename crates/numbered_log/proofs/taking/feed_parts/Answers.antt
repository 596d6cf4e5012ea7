use Rattle.std.proofs.Common.{◌++◌, Bool, true, List, not, sym, subst}
use Rattle.msc_base.specs.declared.label.Label.{Label}
use Rattle.event_log.specs.Logs.{log_rules}
use Rattle.log_judge.proofs.Takings.{piece_taken}
use Rattle.numbered_log.specs.States.{AreOf, TakesSome, TakesAll}
use Rattle.numbered_log.proofs.taking.feed_parts.Goals as goal

pub returns-in_ok-take_waiting-in-Ok-clause-ok : goal.returns-in_ok-take_waiting-in-Ok-clause-ok
returns-in_ok-take_waiting-in-Ok-clause-ok c = λ form bytes h.
    let table = c.args.reader.now.labels in
    let all = bytes ++ c.args.piece.now in
    let some = piece_taken log_rules (AreOf table) form true bytes all c.args.reader.now c.feed.new.self c.args.numbers.now.items (λ n f. c.feed.ensures.fed form bytes n f) (λ n e. c.feed.ensures.stays form bytes n e) (sym c.in-Ok.ensures.fault) h in
    let there = subst (λ (t : Bool). TakesSome table form (not t) all c.feed.new.self c.args.numbers.now.items) (sym c.feed.ensures.open) some in
    let named = subst (λ (l : List Label). TakesSome l form (not c.feed.new.self.finished) all c.feed.new.self c.args.numbers.now.items) (sym c.feed.ensures.labels) there in
    let taken = c.in_ok-take_waiting-in-Ok.ensures.all form all named in
    subst (λ (l : List Label). TakesAll l form true all c.take_waiting.new.reader c.take_waiting.new.numbers.items) c.feed.ensures.labels
    (subst (λ (t : Bool). TakesAll c.feed.new.self.labels form (not t) all c.take_waiting.new.reader c.take_waiting.new.numbers.items) c.feed.ensures.open taken)
