use Rattle.std.proofs.Common.{◌≡◌, drop}
use Rattle.join_sizes.specs.Counted.{any_tied}
use Rattle.level_gathering.specs.ReferenceViews.{references_view}
use Rattle.join_sizes.proofs.counting.any_ties.Given as goal

abbrev pub invariant-loop-reference : goal.invariant-loop-reference
invariant-loop-reference l = any_tied (references_view (drop l.reference-index l.references)) ≡ any_tied (references_view l.references)
