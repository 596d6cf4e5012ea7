use Rattle.std.proofs.Common.{◌≡◌, List, ℕ}
use Rattle.msc_base.specs.Lists.{IsAmong}
use Rattle.refinement_rules.proofs.Walked.{IsWalked}
use Rattle.refinement_rules.proofs.sharing.add_each.Given as goal

abbrev pub invariant-loop-name : goal.invariant-loop-name
invariant-loop-name l = IsWalked (λ (m n : List ℕ). (n ≡ m) × IsAmong l.refined n) (IsAmong l.initial.shared) (IsAmong l.shared) l.names l.name-index
