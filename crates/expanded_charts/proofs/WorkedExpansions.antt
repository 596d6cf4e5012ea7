use Rattle.std.proofs.Common.{refl}
use Rattle.expanded_charts.specs.WorkedExpansions.{ChartsExpand}

pub charts_expand : ChartsExpand
charts_expand = record { twice = refl; gate = refl }
