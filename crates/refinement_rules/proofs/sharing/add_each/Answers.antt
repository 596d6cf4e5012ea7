use Rattle.std.proofs.Common.{◌≡◌, List, ℕ}
use Rattle.msc_base.specs.Lists.{IsAmong}
use Rattle.refinement_rules.proofs.Walked.{grown_end, grown_start, grown_step}
use Rattle.refinement_rules.proofs.sharing.add_each.Goals as goal

pub loop-name-init : goal.loop-name-init
loop-name-init c = grown_start (λ (m n : List ℕ). (n ≡ m) × IsAmong c.args.refined.now n) (IsAmong c.args.shared.now) c.args.names.now

pub loop-name-preserved : goal.loop-name-preserved
loop-name-preserved c =
    grown_step (λ (m n : List ℕ). (n ≡ m) × IsAmong c.args.refined.now n) (IsAmong c.args.shared.now) (IsAmong c.loop-name.shared) (IsAmong c.add_one.new.shared) c.args.names.now c.loop-name.name-index c.name-item.result
    c.loop-name-test.true c.name-item.is c.in_ok-add_one.ensures c.loop-name.invariant

pub returns : goal.returns
returns c = grown_end (λ (m n : List ℕ). (n ≡ m) × IsAmong c.args.refined.now n) (IsAmong c.args.shared.now) (IsAmong c.loop-name.shared) c.args.names.now c.loop-name.name-index c.loop-name-test.false c.loop-name.invariant
