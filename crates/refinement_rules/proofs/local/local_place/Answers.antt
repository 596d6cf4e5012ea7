use Rattle.msc_base.specs.Lists.{IsAmong}
use Rattle.msc_meaning.specs.Views.{item_view}
use Rattle.msc_meaning.specs.declared.body.Item as code
use Rattle.refinement_rules.specs.Judging.{ItemLocal}
use Rattle.refinement_rules.specs.Walks.{OneHolds, SoFarOr}
use Rattle.refinement_rules.proofs.Walked.{place_end, place_step, places_start}
use Rattle.refinement_rules.proofs.local.local_place.Goals as goal

pub loop-item-init : goal.loop-item-init
loop-item-init c = places_start c.args.so_far (OneHolds (λ (x : code.Item). ItemLocal (IsAmong c.args.refined.now) (item_view x)) c.args.items.now)

pub loop-item-preserved : goal.loop-item-preserved
loop-item-preserved c =
    place_step (λ (x : code.Item). ItemLocal (IsAmong c.args.refined.now) (item_view x)) (SoFarOr c.args.so_far (OneHolds (λ (x : code.Item). ItemLocal (IsAmong c.args.refined.now) (item_view x)) c.args.items.now)) c.args.items.now c.loop-item.item-index c.item-item.result c.loop-item.best c.item_place-best.result c.loop-item-test.true c.item-item.is
    c.item_place-best.ensures c.loop-item.invariant

pub returns : goal.returns
returns c = place_end (λ (x : code.Item). ItemLocal (IsAmong c.args.refined.now) (item_view x)) (SoFarOr c.args.so_far (OneHolds (λ (x : code.Item). ItemLocal (IsAmong c.args.refined.now) (item_view x)) c.args.items.now)) c.args.items.now c.loop-item.item-index c.loop-item.best c.loop-item-test.false c.loop-item.invariant
