use Rattle.std.proofs.Common.{◌≡◌, ◌≤◌, []}
use Rattle.event_log.specs.declared.event.LogForm.TheVariants.{Lines}
use Rattle.msc_base.specs.declared.limits.TheConstants.Limits.{BUDGET_DEFAULT}
use Rattle.msc_meaning.specs.Tables.{Table}
use Rattle.chart_judge.specs.Judging.{IsJudging}
use Rattle.msc_requests.specs.declared.request.TheConstants.{MOST_SEED}
use Rattle.msc_cmd.specs.Samples.{drawn_in, sample_log, sample_name, yes_count}
use Rattle.msc_cmd.proofs.sample_log.take_turns.Given as goal

abbrev pub invariant-loop : goal.invariant-loop
invariant-loop l = record {
  drawn : l.drawn ≡ drawn_in l.counter l.seed;
  small : l.drawn ≤ MOST_SEED;
  answered : l.yes ≡ yes_count l.counter l.seed;
  few : l.yes ≤ l.counter;
  judging : (table : Table) → IsJudging table sample_name Lines BUDGET_DEFAULT [] l.fn.judge → IsJudging table sample_name Lines BUDGET_DEFAULT (sample_log l.counter l.seed) l.judge;
}
