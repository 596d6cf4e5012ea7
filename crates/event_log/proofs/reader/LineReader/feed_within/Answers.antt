use Rattle.std.proofs.Common.{◌≡◌, ◌+◌, ◌<◌, ◌++◌, ◌∷◌, ◌≢◌, length, drop, All, IfErr, Some, false, Err, rules, arith, subst, sym, refl, ap, ◌∙◌, slice_index, length-append}
use Rattle.event_log.specs.RuledStates.{HoldsAt}
use Rattle.event_log.proofs.Feeding.{taken_none, taken_line, taken_fails, taken_rest, rest_fails, append_going, append_fails, cut_there}
use Rattle.event_log.proofs.reader.LineReader.feed_within.Goals as goal

pub returns-in_err-take_ended-clause-err : goal.returns-in_err-take_ended-clause-err
returns-in_err-take_ended-clause-err g c =
    let s = c.loop-end.self in
    let rest = c.loop-end.rest.now in
    let prefix = c.split_at.result.0.now in
    let behind = c.split_at.result.1.now in
    let is : c.from_residual.result ≡ Err c.in_err-take_ended.field-0.0 = search rules in
    let within : c.in-Some.end < length rest = search rules in
    let ten : slice_index rest c.in-Some.end ≡ 10 = search rules in
    let cut : rest ≡ prefix ++ 10 ∷ drop 1 behind = cut_there c.in-Some.end rest prefix behind (drop 1 behind) within c.split_at.ensures.front c.split_at.ensures.back refl ten in
    λ form b n h. subst (λ r. IfErr r (λ x. HoldsAt g.M.LineMeaning.rules (Some x) false form (b ++ c.args.piece.now) n c.take_ended.new.self)) (c.in_err-take_ended.was ∙ sym is)
    (taken_fails g.M.LineMeaning.rules c.args.self.now s c.take_ended.new.self c.args.piece.now rest prefix (drop 1 behind) c.take_ended.result c.loop-end.invariant.has cut c.take_ended.ensures.err form b n h)

pub loop-end-preserved : goal.loop-end-preserved
loop-end-preserved g c =
    let s = c.loop-end.self in
    let u = c.take_ended.new.self in
    let rest = c.loop-end.rest.now in
    let prefix = c.split_at.result.0.now in
    let behind = c.split_at.result.1.now in
    let after = c.split_at-in-Some.result.1.now in
    let within : c.in-Some.end < length rest = search rules in
    let ten : slice_index rest c.in-Some.end ≡ 10 = search rules in
    let cut : rest ≡ prefix ++ 10 ∷ after = cut_there c.in-Some.end rest prefix behind after within c.split_at.ensures.front c.split_at.ensures.back c.split_at-in-Some.ensures.back ten in
    let count : u.count ≡ s.count + length prefix + 1 = search rules in
    record {
      has = taken_line g.M.LineMeaning.rules c.args.self.now s u c.args.piece.now rest prefix after c.take_ended.result c.in_ok-take_ended.field-0 c.in_ok-take_ended.was c.loop-end.invariant.has cut
          c.take_ended.ensures.ok count c.take_ended.ensures.fault c.take_ended.ensures.finished;
      room = omega (arith, count, c.loop-end.invariant.room, ap length cut, length-append prefix (10 ∷ after));
      labels = c.take_ended.ensures.labels ∙ c.loop-end.invariant.labels;
    }

pub returns-clause-ok : goal.returns-clause-ok
returns-clause-ok g c =
    let s = c.loop-end.self in
    let rest = c.loop-end.rest.now in
    let free : All (λ b. b ≢ 10) rest = search rules in
    taken_rest g.M.LineMeaning.rules c.args.self.now s c.append.new.self c.args.piece.now rest c.append.result c.loop-end.invariant.has
    (append_going g.M.LineMeaning.rules s c.append.new.self rest c.append.result c.append.ensures.ok free c.loop-end.invariant.room)

pub returns-clause-err : goal.returns-clause-err
returns-clause-err g c =
    let s = c.loop-end.self in
    let rest = c.loop-end.rest.now in
    let free : All (λ b. b ≢ 10) rest = search rules in
    rest_fails g.M.LineMeaning.rules c.args.self.now s c.append.new.self c.args.piece.now rest c.append.result c.loop-end.invariant.has
    (append_fails g.M.LineMeaning.rules s c.append.new.self rest c.append.result c.append.ensures.err c.append.ensures.fault free c.loop-end.invariant.room)

pub loop-end-init : goal.loop-end-init
loop-end-init g c = record { has = taken_none g.M.LineMeaning.rules _ _; room = c.requires; labels = refl }
