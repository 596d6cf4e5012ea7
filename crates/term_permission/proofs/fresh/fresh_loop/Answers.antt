use Rattle.term_permission.proofs.Within.{fresh-ready}
use Rattle.term_permission.proofs.fresh.fresh_loop.Goals as goal

pub returns-clause-ready : goal.returns-clause-ready
returns-clause-ready c = fresh-ready c.args.nets.now.tables c.args.body c.args.lower c.args.upper c.in_ok-term.term c.requires.body c.in_ok-term.ensures
