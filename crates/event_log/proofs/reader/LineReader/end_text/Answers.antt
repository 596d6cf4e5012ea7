use Rattle.std.proofs.Common.{◌≡◌, ◌<◌, length, rules, sym, ap, ◌∙◌, subst}
use Rattle.event_log.specs.RuledStates.{ReaderState}
use Rattle.event_log.proofs.Answers.{ends_empty, ends_line, end_fails}
use Rattle.event_log.proofs.reader.LineReader.end_text.Goals as goal

pub returns-then-is_empty-clause-ok : goal.returns-then-is_empty-clause-ok
returns-then-is_empty-clause-ok g c =
    let none : length c.self.inside.line.items ≡ 0 = search rules in
    λ form b n h. ends_empty g.M.LineMeaning.rules form b n c.args.self.now h (sym (ap (λ (s : ReaderState _ _). length s.line) c.self.view_is) ∙ none)

pub returns-clause-ok : goal.returns-clause-ok
returns-clause-ok g c =
    let some : 0 < length c.self.inside.line.items = search rules in
    ends_line g.M.LineMeaning.rules c.args.self.now c.read_pending.new.self c.read_pending.result c.read_pending.ensures.ok (subst (λ (s : ReaderState _ _). 0 < length s.line) c.self.view_is some)

pub returns-clause-err : goal.returns-clause-err
returns-clause-err g c =
    let some : 0 < length c.self.inside.line.items = search rules in
    end_fails g.M.LineMeaning.rules c.args.self.now c.read_pending.new.self c.read_pending.result c.read_pending.ensures.err c.read_pending.ensures.fault (subst (λ (s : ReaderState _ _). 0 < length s.line) c.self.view_is some)
