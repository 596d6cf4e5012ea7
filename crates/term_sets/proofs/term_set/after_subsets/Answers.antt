use Rattle.std.proofs.Common.{arith}
use Rattle.term_laws.specs.Permission.{permits_of}
use Rattle.term_sets.proofs.Leaving.{label_leaves, label_leaves_more}
use Rattle.term_sets.proofs.term_set.after_subsets.Goals as goal

pub returns-in-None-clause-found : goal.returns-in-None-clause-found
returns-in-None-clause-found c = λ label e. let t = rw c.in-None.is at c.in_ok-left.ensures in label_leaves_more c.args.nets.now label c.args.number e c.args.terms.now c.args.most (t (permits_of c.args.nets.now.tables))

pub weight-weight-requires : goal.weight-weight-requires
weight-weight-requires c = let t = rw c.in-Some.is at c.in_ok-left.ensures in omega (arith, (t (permits_of c.args.nets.now.tables)).within, c.requires)

pub returns-in-Some-clause-found : goal.returns-in-Some-clause-found
returns-in-Some-clause-found c = λ label e. let t = rw c.in-Some.is at c.in_ok-left.ensures in label_leaves c.args.nets.now label c.args.number e c.args.terms.now c.args.most c.in-Some.left c.weight-weight.ensures.rising (t (permits_of c.args.nets.now.tables))
