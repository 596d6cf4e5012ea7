use Rattle.refinement_rules.proofs.SetSteps.{refined_added}
use Rattle.refinement_rules.proofs.sharing.add_one.Goals as goal

pub returns-in_ok-add : goal.returns-in_ok-add
returns-in_ok-add c =
    refined_added c.args.shared.now c.add.new.self c.args.refined.now c.bytes-text.result.now c.args.name.now (c.has.ensures.is.0 c.if-has.true) c.bytes-text.ensures.bytes c.in_ok-add.ensures.ok
