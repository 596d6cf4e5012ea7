use Rattle.std.proofs.Common.{◌<◌, ◌≤◌, max, sym, subst, arith, Some}
use Rattle.pattern_marks.specs.HeldMeetings.{IsSpan}
use Rattle.pattern_marks.specs.declared.ties.Span.{Span}
use Rattle.pattern_marks.proofs.Tying.{before_lower, sought_first, sought_next, sought_within, span_first, span_last, span_next}
use Rattle.pattern_marks.proofs.ties.Meetings.span.Goals as goal

pub loop-latest-init : goal.loop-latest-init
loop-latest-init c = record {
  sought = sought_first c.args.self.now c.args.number c.latest-latest.result c.requires c.latest-latest.ensures;
  span = span_first c.args.self.now c.args.number c.args.from c.latest-latest.result c.requires c.latest-latest.ensures;
}

pub event-met-requires : goal.event-met-requires
event-met-requires c = let low : c.args.from < c.loop-latest.latest = omega arith in sought_within c.args.self.now.met c.args.number c.loop-latest.latest c.args.from c.loop-latest.invariant.sought low

pub loop-latest-smaller : goal.loop-latest-smaller
loop-latest-smaller c = let low : c.args.from < c.loop-latest.latest = omega arith in before_lower c.args.self.now c.loop-latest.latest c.args.from _ c.requires low c.event-met.ensures

pub loop-latest-preserved : goal.loop-latest-preserved
loop-latest-preserved c =
    let low : c.args.from < c.loop-latest.latest = omega arith in
    record {
      sought = sought_next c.args.self.now c.args.number c.loop-latest.latest c.args.from _ c.requires low c.loop-latest.invariant.sought c.event-met.ensures;
      span = subst (λ (s : Span). IsSpan c.args.self.now.met c.args.number (max c.args.from c.event-met.result.before) (Some s)) (sym c.widened.ensures)
          (span_next c.args.self.now c.args.number c.args.from c.loop-latest.latest c.event-met.result c.loop-latest.span c.requires low c.loop-latest.invariant.sought c.event-met.ensures c.loop-latest.invariant.span);
    }

pub returns : goal.returns
returns c = let high : c.loop-latest.latest ≤ c.args.from = omega arith in span_last c.args.self.now.met c.args.number c.args.from c.loop-latest.latest c.loop-latest.span high c.loop-latest.invariant.span
