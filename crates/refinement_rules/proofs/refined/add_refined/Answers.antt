use Rattle.refinement_rules.proofs.SetSteps.{name_decomposed, none_decomposes}
use Rattle.refinement_rules.proofs.refined.add_refined.Goals as goal

pub returns-in-Some : goal.returns-in-Some
returns-in-Some c = name_decomposed c.add.result c.args.table.now c.add.new.self c.bytes.result.now c.args.decl.now c.in-Some.field-0 c.in-Some.is c.bytes.ensures.bytes c.add.ensures.ok

pub returns-in-None : goal.returns-in-None
returns-in-None c = none_decomposes c.args.table.now c.args.decl.now c.in-None.is
