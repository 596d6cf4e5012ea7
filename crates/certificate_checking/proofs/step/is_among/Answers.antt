use Rattle.certificate_checking.proofs.Stops.{any_is_in}
use Rattle.certificate_checking.proofs.step.is_among.Goals as goal

pub returns : goal.returns
returns c = any_is_in c.args.node c.args.nodes.now c.is_one_of.result c.is_one_of.ensures
