use Rattle.std.proofs.Common.{◌<◌, ◌≤◌, ◌++◌, ◌∷◌, length, rules, ap, sym, subst, Some, true}
use Rattle.msc_base.specs.declared.limits.TheConstants.Limits.{LINE_BYTES}
use Rattle.event_log.specs.RuledStates.{ReaderState, IsSettled}
use Rattle.event_log.specs.declared.event.LogFault.TheVariants.{LongLine}
use Rattle.event_log.proofs.WholeLines.{whole_going, whole_fails, whole_long}
use Rattle.event_log.proofs.reader.LineReader.take_whole.Goals as goal

pub returns-then-line-clause-err : goal.returns-then-line-clause-err
returns-then-line-clause-err g c =
    let s = c.args.self.now in
    let long : LINE_BYTES < length c.args.line.now = search rules in
    λ form b n more h.
    subst (λ k. IsSettled g.M.LineMeaning.rules form true (b ++ (c.args.line.now ++ 10 ∷ more)) n (Some (LongLine k)) s) (sym (ap (λ (t : ReaderState _ _). t.number) c.self.view_is))
    (whole_long g.M.LineMeaning.rules s c.args.line.now c.requires.none long c.requires.free c.requires.room form b n more h)

pub returns-clause-ok : goal.returns-clause-ok
returns-clause-ok g c =
    let short : length c.args.line.now ≤ LINE_BYTES = search rules in
    whole_going g.M.LineMeaning.rules c.args.self.now c.read_whole.new.self c.args.line.now c.read_whole.result c.requires.none short c.requires.free c.requires.room c.read_whole.ensures.ok

pub returns-clause-err : goal.returns-clause-err
returns-clause-err g c =
    let short : length c.args.line.now ≤ LINE_BYTES = search rules in
    whole_fails g.M.LineMeaning.rules c.args.self.now c.read_whole.new.self c.args.line.now c.read_whole.result c.requires.none short c.requires.free c.requires.room c.read_whole.ensures.err c.read_whole.ensures.fault
