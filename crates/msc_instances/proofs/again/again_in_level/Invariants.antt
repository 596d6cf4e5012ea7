use Rattle.std.proofs.Common.{drop, map}
use Rattle.msc_instances.specs.PartViews.{part_view}
use Rattle.msc_instances.proofs.PartSteps.{IsOnward}
use Rattle.msc_instances.proofs.again.again_in_level.Given as goal

abbrev pub invariant-loop-part : goal.invariant-loop-part
invariant-loop-part l = IsOnward l.fn.so_far (map part_view l.parts) (map part_view (drop l.part-index l.parts)) l.met l.best
