use Rattle.std.proofs.Common.{◌∙◌, sym}
use Rattle.msc_base.specs.Lists.{IsAmong}
use Rattle.refinement_rules.proofs.SetSteps.{cover_added}
use Rattle.refinement_rules.proofs.sharing.add_cover.Goals as goal

pub returns-in_ok-add_each : goal.returns-in_ok-add_each
returns-in_ok-add_each c =
    cover_added (IsAmong c.args.shared.now) (IsAmong c.add_each.new.shared) c.args.refined.now c.args.cover.now (sym c.has_two.ensures ∙ c.if-has_two.true) c.in_ok-add_each.ensures
