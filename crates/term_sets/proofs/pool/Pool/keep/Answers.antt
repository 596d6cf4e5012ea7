use Rattle.term_sets.proofs.Pooling.{keeps_of}
use Rattle.term_sets.proofs.pool.Pool.keep.Goals as goal

pub returns-clause-keeps : goal.returns-clause-keeps
returns-clause-keeps c = keeps_of c.self.inside.memory c.keep.new.self c.self.inside.held c.self.inside.budget c.self.inside.too_large c.args.self.now c.args.set c.self.view_is c.self.invariant.there c.keep.ensures.bounds c.keep.ensures.sets c.keep.ensures.moves
