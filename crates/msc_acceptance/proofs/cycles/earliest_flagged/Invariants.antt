use Rattle.std.proofs.Common.{◌≡◌, drop}
use Rattle.msc_base.proofs.Narrowing.{Narrows}
use Rattle.msc_acceptance.specs.Deciding.{IsFlagged}
use Rattle.msc_acceptance.proofs.cycles.earliest_flagged.Given as goal

abbrev pub invariant-loop-flag : goal.invariant-loop-flag
invariant-loop-flag l = (l.number ≡ l.flag-index) × Narrows (IsFlagged l.stands l.flags) (IsFlagged (drop l.number l.stands) (drop l.flag-index l.flags)) l.best
