use Rattle.std.proofs.Common.{◌≡◌, ◌||◌, drop}
use Rattle.refinement_rules.specs.Judging.{some_among}
use Rattle.refinement_rules.proofs.local.names_refined.Given as goal

abbrev pub invariant-loop-name : goal.invariant-loop-name
invariant-loop-name l = (l.one || some_among l.refined (drop l.name-index l.names)) ≡ some_among l.refined l.names
