use Rattle.std.proofs.Common.{◌≤◌, length}
use Rattle.expansion_terms.proofs.RowSteps.{IsRunOf}
use Rattle.expansion_terms.proofs.rows.row_of.Given as goal

abbrev pub invariant-loop-index : goal.invariant-loop-index
invariant-loop-index l = record { within : l.index ≤ length l.parts; part : IsRunOf l.parts l.terms l.index l.run }

abbrev pub decreases-loop-index : goal.decreases-loop-index
decreases-loop-index l = l.index
