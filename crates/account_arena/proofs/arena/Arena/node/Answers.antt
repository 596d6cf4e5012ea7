use Rattle.account_arena.proofs.Adding.{looked}
use Rattle.account_arena.proofs.arena.Arena.node.Goals as goal

pub returns-clause-account : goal.returns-clause-account
returns-clause-account c = (looked c.args.self.now c.self.inside.nodes.items c.args.number c.index.result.now c.self.view_is c.self.invariant c.requires c.index.ensures).0

pub returns-clause-older : goal.returns-clause-older
returns-clause-older c = (looked c.args.self.now c.self.inside.nodes.items c.args.number c.index.result.now c.self.view_is c.self.invariant c.requires c.index.ensures).1
