use Rattle.std.proofs.Common.{◌≡◌, [], take}
use Rattle.msc_meaning.specs.Tables.{declared, refinements_of}
use Rattle.level_surroundings.specs.DecomposedInstances.{refinements_view}
use Rattle.level_surroundings.proofs.decomposed.listed.Given as goal

abbrev pub invariant-loop-decl : goal.invariant-loop-decl
invariant-loop-decl l = record { seen : l.seen ≡ declared [] (take l.decl-index l.decls); list : refinements_view l.list.items ≡ refinements_of l.decls l.seen }
