use Rattle.refinement_rules.specs.Walks.{HasBit}
use Rattle.msc_base.specs.Lists.{IsAmong}
use Rattle.refinement_rules.specs.Judging.{OwnNumber}
use Rattle.refinement_rules.proofs.Walked.{grown_end, grown_start, grown_step}
use Rattle.refinement_rules.proofs.taking.add_own.Goals as goal

pub loop-name-init : goal.loop-name-init
loop-name-init c = grown_start (OwnNumber c.args.tables.now.known (IsAmong c.args.refined.now)) (HasBit c.args.set.now) c.args.names.now

pub loop-name-preserved : goal.loop-name-preserved
loop-name-preserved c =
    grown_step (OwnNumber c.args.tables.now.known (IsAmong c.args.refined.now)) (HasBit c.args.set.now) (HasBit c.loop-name.set) (HasBit c.add_own_one.new.set) c.args.names.now c.loop-name.name-index c.name-item.result c.loop-name-test.true c.name-item.is
    c.in_ok-add_own_one.ensures c.loop-name.invariant

pub returns : goal.returns
returns c = grown_end (OwnNumber c.args.tables.now.known (IsAmong c.args.refined.now)) (HasBit c.args.set.now) (HasBit c.loop-name.set) c.args.names.now c.loop-name.name-index c.loop-name-test.false c.loop-name.invariant
