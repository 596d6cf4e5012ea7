use Rattle.std.proofs.Common.{All, map, ◌≡◌, ◌+◌, ◌++◌, MatchOption, refl, sym, ap, ◌∙◌, subst, option_to_list}
use Rattle.event_log.specs.RuledStates.{ReaderState, Fed}
use Rattle.event_log.proofs.Answers.{with_waiting, next_fed, next_is, fed_none}
use Rattle.event_log.proofs.Numbers.{events_behind, front_numbered, nothing_waits}
use Rattle.event_log.proofs.reader.LineReader.next_event.Goals as goal

pub returns-clause-fed : goal.returns-clause-fed
returns-clause-fed g c =
    let s = c.args.self.now in
    let o = c.pop_front.result in
    let left = map g.M.LineMeaning.event_of c.pop_front.new.self.items in
    let is : s.waiting ≡ map g.M.LineMeaning.event_of (option_to_list o) ++ left = sym (ap (λ (u : ReaderState _ _). u.waiting) c.self.view_is) ∙ events_behind g.M.LineMeaning.event_of o c.self.inside.waiting.items c.pop_front.new.self.items c.pop_front.ensures.items in
    λ form b n h.
    subst (λ (v : ReaderState _ _). MatchOption o (Fed g.M.LineMeaning.rules form b n (with_waiting g.M.LineMeaning.rules v left)) (λ _. Fed g.M.LineMeaning.rules form b (n + 1) (with_waiting g.M.LineMeaning.rules v left))) (sym c.self.view_is)
    (next_fed g.M.LineMeaning.rules g.M.LineMeaning.event_of o s (with_waiting g.M.LineMeaning.rules s left) is refl form b n h)

pub returns-clause-event : goal.returns-clause-event
returns-clause-event g c =
    let s = c.args.self.now in
    let o = c.pop_front.result in
    let left = map g.M.LineMeaning.event_of c.pop_front.new.self.items in
    let is : s.waiting ≡ map g.M.LineMeaning.event_of (option_to_list o) ++ left = sym (ap (λ (u : ReaderState _ _). u.waiting) c.self.view_is) ∙ events_behind g.M.LineMeaning.event_of o c.self.inside.waiting.items c.pop_front.new.self.items c.pop_front.ensures.items in
    next_is g.M.LineMeaning.rules g.M.LineMeaning.event_of o s (with_waiting g.M.LineMeaning.rules s left) is

pub returns-clause-waiting : goal.returns-clause-waiting
returns-clause-waiting g c = sym (ap (λ (u : ReaderState _ _). u.waiting) c.self.view_is) ∙ events_behind g.M.LineMeaning.event_of c.pop_front.result c.self.inside.waiting.items c.pop_front.new.self.items c.pop_front.ensures.items

pub returns-clause-number : goal.returns-clause-number
returns-clause-number g c = front_numbered (g.M.LineMeaning.is_numbered c.args.self.now.labels c.args.self.now.met) c.pop_front.result c.self.inside.waiting.items c.pop_front.new.self.items c.pop_front.ensures.items
    (subst (λ (u : ReaderState _ _). All (g.M.LineMeaning.is_numbered u.labels u.met) c.self.inside.waiting.items) c.self.view_is (c.self.invariant.3))

pub returns-clause-none : goal.returns-clause-none
returns-clause-none g c =
    let s = c.args.self.now in
    let waiting : s.waiting ≡ map g.M.LineMeaning.event_of c.self.inside.waiting.items = sym (ap (λ (u : ReaderState _ _). u.waiting) c.self.view_is) in
    λ form b n h none no_want.
    fed_none g.M.LineMeaning.rules s (waiting ∙ ap (λ es. map g.M.LineMeaning.event_of es) (nothing_waits c.pop_front.result c.self.inside.waiting.items c.pop_front.new.self.items none c.pop_front.ensures.items c.pop_front.ensures.rest)) no_want form b n h
