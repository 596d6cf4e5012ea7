use Rattle.std.proofs.Common.{drop}
use Rattle.msc_base.proofs.Narrowing.{Narrows}
use Rattle.msc_instances.specs.Parts.{SomeNamesAgain}
use Rattle.msc_instances.proofs.again.named_again.Given as goal

abbrev pub invariant-loop-level : goal.invariant-loop-level
invariant-loop-level l = Narrows (SomeNamesAgain l.levels) (SomeNamesAgain (drop l.level-index l.levels)) l.best
