use Rattle.std.proofs.Common.{◌≡◌, ◌⊎◌, List, [], Some, subst}
use Rattle.msc_base.specs.Places.{IsLeast}
use Rattle.msc_instances.specs.Parts.{NamedPart, NamesAgain}
use Rattle.msc_instances.proofs.PartSteps.{levels_step}
use Rattle.msc_instances.proofs.again.named_again.Goals as goal

pub loop-level-preserved : goal.loop-level-preserved
loop-level-preserved c =
    let least : IsLeast (λ p. (c.loop-level.best ≡ Some p) ⊎ NamesAgain [] c.level-item.result p) c.in_ok-best.best =
    subst (λ (ps : List NamedPart). IsLeast (λ p. (c.loop-level.best ≡ Some p) ⊎ NamesAgain [] ps p) c.in_ok-best.best) c.as_slice.ensures c.in_ok-best.ensures in
    levels_step c.args.levels.now c.args.levels.now c.loop-level.level-index c.level-item.result c.loop-level.best c.in_ok-best.best c.loop-level.invariant c.loop-level-test.true c.level-item.is least
