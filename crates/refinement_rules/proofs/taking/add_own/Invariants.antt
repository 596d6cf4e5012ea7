use Rattle.refinement_rules.specs.Walks.{HasBit}
use Rattle.msc_base.specs.Lists.{IsAmong}
use Rattle.refinement_rules.specs.Judging.{OwnNumber}
use Rattle.refinement_rules.proofs.Walked.{IsWalked}
use Rattle.refinement_rules.proofs.taking.add_own.Given as goal

abbrev pub invariant-loop-name : goal.invariant-loop-name
invariant-loop-name l = IsWalked (OwnNumber l.tables.known (IsAmong l.refined)) (HasBit l.initial.set) (HasBit l.set) l.names l.name-index
