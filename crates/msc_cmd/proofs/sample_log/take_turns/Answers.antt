use Rattle.std.proofs.Common.{◌≡◌, ◌+◌, ◌++◌, ◌∙◌, Bool, ℕ, List, Result, Err, IfErr, false, if◌then◌else◌, ap, arith, rules, subst, sym}
use Rattle.event_log.specs.declared.event.LogForm.TheVariants.{Lines}
use Rattle.msc_base.specs.declared.limits.TheConstants.Limits.{BUDGET_DEFAULT}
use Rattle.log_judge.specs.Judged.{IsJudgeFault}
use Rattle.chart_judge.specs.Judging.{IsJudging}
use Rattle.log_judge.specs.declared.fault.JudgeFault.{JudgeFault}
use Rattle.msc_cmd.specs.Samples.{drawn_in, means_yes, sample_log, sample_name, turn_lines}
use Rattle.msc_cmd.proofs.SampleLogs.{count_next, drawn_next, log_has_more, log_next, one_or_none}
use Rattle.msc_cmd.proofs.sample_log.take_turns.Goals as goal

pub loop-preserved : goal.loop-preserved
loop-preserved c =
    let number : c.next_drawn-drawn.result ≡ drawn_in (c.loop.counter + 1) c.args.seed = c.next_drawn-drawn.ensures.next ∙ drawn_next c.loop.counter c.args.seed c.loop.drawn c.loop.invariant.drawn in
    let lines : c.as_bytes.result.now ≡ turn_lines (means_yes c.next_drawn-drawn.result) = c.as_bytes.ensures.value ∙ c.turn_lines.ensures ∙ ap turn_lines c.means_yes-answer.ensures in
    let log : sample_log c.loop.counter c.args.seed ++ c.as_bytes.result.now ≡ sample_log (c.loop.counter + 1) c.args.seed =
    ap (λ (bs : List ℕ). sample_log c.loop.counter c.args.seed ++ bs) lines ∙ log_next c.loop.counter c.args.seed c.next_drawn-drawn.result number in
    let one = one_or_none c.means_yes-answer.result in
    record {
      drawn = number;
      small = c.next_drawn-drawn.ensures.small;
      answered = c.counted-yes.ensures ∙ ap (λ (b : Bool). c.loop.yes + (if b then 1 else 0)) c.means_yes-answer.ensures
          ∙ count_next c.loop.counter c.args.seed c.next_drawn-drawn.result c.loop.yes number c.loop.invariant.answered;
      few = omega (arith, c.counted-yes.ensures, one, c.loop.invariant.few);
      judging = λ table h.
          subst (λ (bs : List ℕ). IsJudging table sample_name Lines BUDGET_DEFAULT bs c.feed.new.self) log
          (c.in_ok-feed.ensures.fed table sample_name Lines BUDGET_DEFAULT (sample_log c.loop.counter c.args.seed) (c.loop.invariant.judging table h));
    }

pub returns-in_err-feed-clause-refused : goal.returns-in_err-feed-clause-refused
returns-in_err-feed-clause-refused c = λ table h.
    let failed : c.from_residual.result ≡ Err c.in_err-feed.field-0.0 = search rules in
    let number : c.next_drawn-drawn.result ≡ drawn_in (c.loop.counter + 1) c.args.seed = c.next_drawn-drawn.ensures.next ∙ drawn_next c.loop.counter c.args.seed c.loop.drawn c.loop.invariant.drawn in
    let lines : c.as_bytes.result.now ≡ turn_lines (means_yes c.next_drawn-drawn.result) = c.as_bytes.ensures.value ∙ c.turn_lines.ensures ∙ ap turn_lines c.means_yes-answer.ensures in
    let log : sample_log c.loop.counter c.args.seed ++ c.as_bytes.result.now ≡ sample_log (c.loop.counter + 1) c.args.seed =
    ap (λ (bs : List ℕ). sample_log c.loop.counter c.args.seed ++ bs) lines ∙ log_next c.loop.counter c.args.seed c.next_drawn-drawn.result number in
    let later = log_has_more (c.loop.counter + 1) c.args.turns c.args.seed (search (rules, arith)) in
    subst (λ (r : Result ℕ JudgeFault). IfErr r (IsJudgeFault Lines false (sample_log c.args.turns c.args.seed))) (sym failed)
    (subst (λ (bs : List ℕ). IsJudgeFault Lines false bs c.in_err-feed.field-0.0) (ap (λ (bs : List ℕ). bs ++ later.rest) log ∙ sym later.are)
    (c.in_err-feed.ensures.refused table sample_name Lines BUDGET_DEFAULT (sample_log c.loop.counter c.args.seed) (c.loop.invariant.judging table h) later.rest))

pub returns-clause-fed : goal.returns-clause-fed
returns-clause-fed c = λ table h.
    let all : c.loop.counter ≡ c.args.turns = search (rules, arith) in
    subst (λ (n : ℕ). IsJudging table sample_name Lines BUDGET_DEFAULT (sample_log n c.args.seed) c.loop.judge) all (c.loop.invariant.judging table h)
