use Rattle.msc_base.specs.Lists.{IsAmong}
use Rattle.msc_meaning.specs.Views.{item_view}
use Rattle.msc_meaning.specs.declared.body.Item as code
use Rattle.refinement_rules.proofs.Walked.{IsWalked}
use Rattle.refinement_rules.specs.Judging.{ItemShares}
use Rattle.refinement_rules.proofs.sharing.shared_names.Given as goal

abbrev pub invariant-loop-item : goal.invariant-loop-item
invariant-loop-item l = IsWalked (λ (x : code.Item). ItemShares (IsAmong l.refined) (item_view x)) (λ n. ⊥) (IsAmong l.shared) l.items l.item-index
