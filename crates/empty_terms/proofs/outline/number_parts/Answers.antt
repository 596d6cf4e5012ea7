use Rattle.std.proofs.Common.{arith, length}
use Rattle.empty_terms.proofs.Numbering.{grows_on}
use Rattle.empty_terms.proofs.outline.number_parts.Goals as goal

pub loop-preserved : goal.loop-preserved
loop-preserved c = record {
  few = omega (arith, c.loop.invariant.few, c.in_ok-look_into.ensures.count, c.in_ok-look_into.ensures.grows.longer);
  later = omega (arith, c.loop.invariant.later, c.in_ok-look_into.ensures.count);
  known = c.in_ok-look_into.ensures.known;
  grows = grows_on (length c.args.firsts.now.items) (length c.loop.firsts.items) c.args.terms.now c.loop.terms c.look_into.new.terms c.loop.invariant.later c.loop.invariant.grows c.in_ok-look_into.ensures.grows;
}
