use Rattle.std.proofs.Common.{◌∙◌}
use Rattle.term_laws.specs.Values.{block_of}
use Rattle.term_permission.proofs.Within.{permit-ready}
use Rattle.term_permission.proofs.permission.permit.Goals as goal

pub returns-clause-ready : goal.returns-clause-ready
returns-clause-ready c = permit-ready c.args.nets.now.tables (block_of c.args.block.now) c.args.term.now c.in_ok-left-2.left c.requires.term (c.in_ok-left-2.ensures ∙ c.in_ok-left.ensures)
