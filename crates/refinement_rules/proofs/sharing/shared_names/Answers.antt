use Rattle.std.proofs.Common.{List, ℕ, subst}
use Rattle.msc_base.specs.Lists.{IsAmong}
use Rattle.msc_meaning.specs.Views.{item_view}
use Rattle.msc_meaning.specs.declared.body.Item as code
use Rattle.refinement_rules.proofs.Walked.{grown_none, grown_step, grown_whole}
use Rattle.refinement_rules.specs.Judging.{ItemShares}
use Rattle.refinement_rules.proofs.sharing.shared_names.Goals as goal

pub loop-item-init : goal.loop-item-init
loop-item-init c =
    grown_none (λ (x : code.Item). ItemShares (IsAmong c.args.refined.now) (item_view x)) (IsAmong c.new-shared.result) c.args.items.now (λ n h. subst (λ (l : List (List ℕ)). IsAmong l n) c.new-shared.ensures h)

pub loop-item-preserved : goal.loop-item-preserved
loop-item-preserved c =
    grown_step (λ (x : code.Item). ItemShares (IsAmong c.args.refined.now) (item_view x)) (λ n. ⊥) (IsAmong c.loop-item.shared) (IsAmong c.add_item.new.shared) c.args.items.now c.loop-item.item-index c.item-item.result
    c.loop-item-test.true c.item-item.is c.in_ok-add_item.ensures c.loop-item.invariant

pub returns : goal.returns
returns c =
    grown_whole (λ (x : code.Item). ItemShares (IsAmong c.args.refined.now) (item_view x)) (λ n. ⊥) (IsAmong c.loop-item.shared) c.args.items.now c.loop-item.item-index (λ n h. h) c.loop-item-test.false c.loop-item.invariant
