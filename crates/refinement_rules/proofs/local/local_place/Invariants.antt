use Rattle.std.proofs.Common.{drop}
use Rattle.msc_base.proofs.Narrowing.{Narrows}
use Rattle.msc_base.specs.Lists.{IsAmong}
use Rattle.msc_meaning.specs.Views.{item_view}
use Rattle.msc_meaning.specs.declared.body.Item as code
use Rattle.refinement_rules.specs.Judging.{ItemLocal}
use Rattle.refinement_rules.specs.Walks.{OneHolds, SoFarOr}
use Rattle.refinement_rules.proofs.local.local_place.Given as goal

abbrev pub invariant-loop-item : goal.invariant-loop-item
invariant-loop-item l = Narrows (SoFarOr l.fn.so_far (OneHolds (λ (x : code.Item). ItemLocal (IsAmong l.refined) (item_view x)) l.items)) (OneHolds (λ (x : code.Item). ItemLocal (IsAmong l.refined) (item_view x)) (drop l.item-index l.items)) l.best
