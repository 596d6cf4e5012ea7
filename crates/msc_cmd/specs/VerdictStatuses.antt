-- The statuses of verdicts.
use Rattle.std.specs.Prelude.{ℕ}
use Rattle.msc_base.specs.declared.verdict.Verdict.{Verdict}
use Rattle.msc_base.specs.declared.verdict.Verdict.TheVariants.{Conforms, Fails, Early, TooLarge}

abbrev pub status_of : Verdict → ℕ
status_of (Conforms events) = 0
status_of (Fails event line) = 1
status_of (Early events) = 3
status_of (TooLarge event) = 6
