-- What follows where a term means a set of unfoldings, from the laws of sets and verdicts.
use Rattle.msc_unfolding.specs.Unfoldings.{Unfolding}
use Rattle.trace_judge.specs.Laws.{SetsTellRuns, VerdictsTellRuns}
use Rattle.verdict_meaning.specs.MeaningTells.{MeaningTells}
use Rattle.verdict_meaning.specs.NumberedRuns.{StandingRuns}
use Rattle.verdict_meaning.proofs.Labelled.{run_there, run_here}
use Rattle.verdict_meaning.proofs.Meaning.{runs, begins, empty_set, ending_set, verdict_tells}

pub meaning_tells : SetsTellRuns → VerdictsTellRuns → (finished unfolds : Unfolding → Type 0) → MeaningTells finished unfolds
meaning_tells sets verdicts finished unfolds = record {
  runs = λ v names x m labels. runs v names x m.once finished m.finished_ones labels;
  begins = λ v names x m labels. begins v names x m.once unfolds m.all_ones labels;
  empty = λ v names x m s labels set r. empty_set v names x m.once sets unfolds m.all_ones s labels set r;
  ends = λ v names x m s labels set r. ending_set v names x m.once sets finished m.finished_ones s labels set r;
  verdict = λ v names x m s budget events verdict h. verdict_tells v names x m.once verdicts finished unfolds m.finished_ones m.all_ones s budget events verdict h;
}

pub standing_runs : StandingRuns
standing_runs = record {
  runs = λ table names s u once h labels. record { to = run_there table names s u h labels; from = run_here table names s u h once labels };
}
