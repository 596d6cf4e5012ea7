-- Serves private contracts alone.
-- What became of the log of a sample.
use Rattle.std.specs.Prelude.{ℕ, ◌≡◌, ◌≤◌, Bool, true, false, Some}
use Rattle.event_log.specs.Faults.{IsLogFault}
use Rattle.event_log.specs.States.{IsFaultOf}
use Rattle.event_log.specs.declared.event.LogForm.TheVariants.{Lines}
use Rattle.msc_base.specs.declared.limits.TheConstants.Limits.{BUDGET_DEFAULT}
use Rattle.msc_base.specs.declared.verdict.Verdict.{Verdict}
use Rattle.msc_base.specs.declared.verdict.Verdict.TheVariants.{Conforms, Fails, Early, TooLarge}
use Rattle.msc_meaning.specs.Tables.{Table}
use Rattle.chart_judge.specs.Judging.{IsVerdictOn}
use Rattle.chart_judge.specs.LargestWeights.{IsLargestOn}
use Rattle.msc_cmd.specs.Samples.{sample_log, sample_name, yes_count}
use Rattle.msc_cmd.specs.declared.sample_log.Sampled.{Sampled}
use Rattle.msc_cmd.specs.declared.sample_log.Sampled.TheVariants.{Told, Refused}

-- the verdict on it, how many turns are answered yes, and the largest weight
pub record IsToldSample (turns seed : ℕ) (table : Table) (verdict : Verdict) (yeses largest : ℕ) : Type 0 where
  pub verdict_is : IsVerdictOn table sample_name Lines BUDGET_DEFAULT (sample_log turns seed) verdict
  pub yeses_are : yeses ≡ yes_count turns seed
  pub largest_is : IsLargestOn table sample_name Lines BUDGET_DEFAULT (sample_log turns seed) largest

-- it was told, or refused for this fault
abbrev pub IsSampled : ℕ → ℕ → Table → Sampled → Type 0
IsSampled turns seed table (Told verdict yeses largest) = IsToldSample turns seed table verdict yeses largest
IsSampled turns seed table (Refused fault) = IsLogFault fault × IsFaultOf Lines false (sample_log turns seed) (Some fault)

-- no more turns are answered yes than there are, and a fault that is told is no want of memory
abbrev pub CanBeTold : ℕ → Sampled → Type 0
CanBeTold turns (Told verdict yeses largest) = yeses ≤ turns
CanBeTold turns (Refused fault) = IsLogFault fault

abbrev pub does_conform : Verdict → Bool
does_conform (Conforms events) = true
does_conform (Fails event line) = false
does_conform (Early events) = false
does_conform (TooLarge event) = false
