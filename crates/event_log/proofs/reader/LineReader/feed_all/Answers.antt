use Rattle.std.proofs.Common.{◌≡◌, ◌<◌, ◌≤◌, ◌++◌, ◌+◌, length, rules, arith, sym, ap, ◌∙◌, subst, IfErr, OnOk, Some, false, true, Err}
use Rattle.msc_base.specs.declared.limits.TheConstants.Limits.{LOG_BYTES}
use Rattle.event_log.specs.RuledStates.{ReaderState, IsGoing, IsSettled, HoldsAt}
use Rattle.event_log.specs.declared.event.LogFault.TheVariants.{LogLimit}
use Rattle.event_log.proofs.Answers.{split_there, front_fails, limit_reached}
use Rattle.event_log.proofs.reader.LineReader.feed_all.Goals as goal

pub returns-in_err-feed_within-clause-err : goal.returns-in_err-feed_within-clause-err
returns-in_err-feed_within-clause-err g c =
    let piece = c.args.piece.now in
    let prefix = c.split_at.result.0.now in
    let back = c.split_at.result.1.now in
    let u = c.feed_within-2.new.self in
    let is : c.from_residual.result ≡ Err c.in_err-feed_within.field-0.0 = search rules in
    let cut : piece ≡ prefix ++ back = split_there _ piece prefix back c.split_at.ensures.front c.split_at.ensures.back in
    λ form b n h. subst (λ r. IfErr r (λ x. HoldsAt g.M.LineMeaning.rules (Some x) false form (b ++ piece) n u)) (c.in_err-feed_within.was ∙ sym is)
    (front_fails g.M.LineMeaning.rules form b piece prefix back n u c.feed_within-2.result cut (c.feed_within-2.ensures.err form b n h))

pub returns-clause-err : goal.returns-clause-err
returns-clause-err g c =
    let piece = c.args.piece.now in
    let prefix = c.split_at.result.0.now in
    let back = c.split_at.result.1.now in
    let u = c.feed_within-2.new.self in
    let cut : piece ≡ prefix ++ back = split_there _ piece prefix back c.split_at.ensures.front c.split_at.ensures.back in
    let some : 0 < length back = omega arith in
    let before : c.self.inside.count ≡ c.args.self.now.count = ap (λ (s : ReaderState _ _). s.count) c.self.view_is in
    let count : u.count ≡ c.args.self.now.count + length prefix = search rules in
    let full : LOG_BYTES ≤ u.count = omega (arith, before, count, c.split_at.ensures.front_len) in
    λ form b n h.
    let going : IsGoing g.M.LineMeaning.rules form (b ++ prefix) n u = subst (λ r. OnOk r (IsGoing g.M.LineMeaning.rules form (b ++ prefix) n u)) c.in_ok-feed_within.was (c.feed_within-2.ensures.ok form b n h) in
    subst (λ k. IsSettled g.M.LineMeaning.rules form true (b ++ piece) n (Some (LogLimit k)) u) (sym (ap (λ (s : ReaderState _ _). s.number) c.self-2.view_is))
    (limit_reached g.M.LineMeaning.rules form b piece prefix back n u going cut some full)
