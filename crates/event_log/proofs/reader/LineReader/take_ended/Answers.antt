use Rattle.std.proofs.Common.{◌≡◌, ◌+◌, ◌++◌, ◌∷◌, [], length, OnOk, IfErr, Some, false, Err, rules, arith, subst, sym, append_assoc, ap, ◌∙◌}
use Rattle.event_log.specs.RuledStates.{ReaderState, IsGoing, HoldsAt, Grows}
use Rattle.event_log.proofs.Feeding.{append_fails, going_grows, line_going, line_fails}
use Rattle.event_log.proofs.reader.LineReader.take_ended.Goals as goal

pub returns-in_err-append-clause-err : goal.returns-in_err-append-clause-err
returns-in_err-append-clause-err g c =
    let f = c.args.prefix.now in
    let is : c.from_residual.result ≡ Err c.in_err-append.field-0.0 = search rules in
    λ form b n more h. subst (λ r. IfErr r (λ x. HoldsAt g.M.LineMeaning.rules (Some x) false form (b ++ (f ++ 10 ∷ more)) n c.append.new.self)) (c.in_err-append.was ∙ sym is)
    (append_fails g.M.LineMeaning.rules c.args.self.now c.append.new.self f c.append.result c.append.ensures.err c.append.ensures.fault c.requires.free (omega arith) form b n (10 ∷ more) h)

pub returns-clause-ok : goal.returns-clause-ok
returns-clause-ok g c =
    let f = c.args.prefix.now in
    let grown : Grows c.args.self.now f c.append.new.self = search rules in
    let count : c.append.new.self.count ≡ c.args.self.now.count + length f = ap (λ (s : ReaderState _ _). s.count) grown.is in
    λ form b n h.
    let going : IsGoing g.M.LineMeaning.rules form (b ++ f) n c.append.new.self = going_grows g.M.LineMeaning.rules form b f n c.args.self.now c.append.new.self h grown c.requires.free (omega arith) in
    subst (λ t. OnOk c.end_line.result (IsGoing g.M.LineMeaning.rules form t n c.end_line.new.self)) (append_assoc b f (10 ∷ []))
    (line_going g.M.LineMeaning.rules c.append.new.self c.end_line.new.self c.end_line.result c.end_line.ensures.ok (omega (arith, c.requires.room, count)) form (b ++ f) n going)

pub returns-clause-err : goal.returns-clause-err
returns-clause-err g c =
    let f = c.args.prefix.now in
    let grown : Grows c.args.self.now f c.append.new.self = search rules in
    let count : c.append.new.self.count ≡ c.args.self.now.count + length f = ap (λ (s : ReaderState _ _). s.count) grown.is in
    λ form b n more h.
    let going : IsGoing g.M.LineMeaning.rules form (b ++ f) n c.append.new.self = going_grows g.M.LineMeaning.rules form b f n c.args.self.now c.append.new.self h grown c.requires.free (omega arith) in
    subst (λ t. IfErr c.end_line.result (λ x. HoldsAt g.M.LineMeaning.rules (Some x) false form t n c.end_line.new.self)) (append_assoc b f (10 ∷ more))
    (line_fails g.M.LineMeaning.rules c.append.new.self c.end_line.new.self c.end_line.result c.end_line.ensures.err c.end_line.ensures.fault (omega (arith, c.requires.room, count)) form (b ++ f) n more going)
