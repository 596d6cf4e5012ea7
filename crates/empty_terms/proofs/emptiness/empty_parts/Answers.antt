use Rattle.std.proofs.Common.{Bool, List, sym, subst, arith}
use Rattle.chart_term.specs.Tables.{terms_over}
use Rattle.empty_terms.specs.Answers.{AreWalksTold}
use Rattle.empty_terms.proofs.emptiness.empty_parts.Goals as goal

pub loop-net-preserved : goal.loop-net-preserved
loop-net-preserved c =
    let r = c.in_ok-end.ensures.told c.loop-net.invariant.known c.loop-net.invariant.told in
    record {
      within = c.in_ok-end.ensures.start;
      count = omega (arith, c.in_ok-end.ensures.count, c.loop-net.invariant.count);
      walks = omega (arith, c.in_ok-end.ensures.walks, c.loop-net.invariant.walks);
      told = r.0;
      known = r.1;
    }

pub returns-clause-told : goal.returns-clause-told
returns-clause-told c =
    let w = c.args.nets.now.tables in
    c.tell.ensures.told w (subst (λ (l : List Bool). AreWalksTold (terms_over w) l) (sym c.as_slice.ensures.value) c.loop-net.invariant.known) c.loop-net.invariant.told
