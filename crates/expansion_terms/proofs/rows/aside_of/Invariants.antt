use Rattle.std.proofs.Common.{◌≡◌, ◌≤◌, drop, length}
use Rattle.expansion_terms.specs.MadeTerms.{side_by_side}
use Rattle.expansion_terms.proofs.rows.aside_of.Given as goal

abbrev pub invariant-loop-index : goal.invariant-loop-index
invariant-loop-index l = record { within : l.index ≤ length l.terms; part : l.rest ≡ side_by_side (drop l.index l.terms) }

abbrev pub decreases-loop-index : goal.decreases-loop-index
decreases-loop-index l = l.index
