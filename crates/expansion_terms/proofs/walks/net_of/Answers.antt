use Rattle.std.proofs.Common.{subst}
use Rattle.hmsc_graph.specs.Shapes.{IsFaultOf}
use Rattle.msc_rules.specs.declared.rule.Rule.TheVariants.{LabelNamedTwice}
use Rattle.expansion_terms.proofs.NetShapes.{net_is, no_fault}
use Rattle.expansion_terms.proofs.walks.net_of.Goals as goal

pub unreachable-requires-in-Err-TwiceLabel : goal.unreachable-requires-in-Err-TwiceLabel
unreachable-requires-in-Err-TwiceLabel c =
    no_fault c.args.shape.now c.requires.faultless LabelNamedTwice c.in-Err-TwiceLabel.field-0-0 (subst (IsFaultOf c.args.shape.now) c.in-Err-TwiceLabel.field-0-is c.in-Err-TwiceLabel.ensures.fault).broken

pub returns-in-Ok : goal.returns-in-Ok
returns-in-Ok c = net_is c.args.shape.now c.in-Ok.net c.in-Ok.ensures.ok
