use Rattle.std.proofs.Common.{◌≡◌, ◌∙◌, rules, sym, subst}
use Rattle.term_tables.specs.NetValues.{NetsValue}
use Rattle.log_judge.specs.Taking.{TakesLog}
use Rattle.log_judge.proofs.LogJudging.{judged_is}
use Rattle.log_judge.proofs.judge.Judge.finish.Goals as goal

pub returns-clause-verdict : goal.returns-clause-verdict
returns-clause-verdict g c = λ v x form budget bytes h.
    let e = c.in_ok-ended.ensures.taken v x form budget bytes h in
    let nets : c.deref.result.now ≡ c.in_ok-ended.ended.nets.value = search rules in
    judged_is g.S.Store.holds v x form budget bytes c.deref.result.now c.in_ok-ended.ended.track c.in_ok-verdict.verdict (λ y m es i. c.in_ok-verdict.ensures.verdict y m es i) (λ y m es i. c.in_ok-verdict.ensures.runs y m es i)
    (subst (λ (w : NetsValue). TakesLog g.S.Store.holds w x form budget bytes c.in_ok-ended.ended.track) (sym (nets ∙ e.nets_are)) e.takes) (nets ∙ e.nets_are)
