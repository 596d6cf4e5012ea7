use Rattle.calculus_tests.proofs.SampleTerms.{new_ready, ready_over, sample_loop}
use Rattle.calculus_tests.proofs.samples.repeated.Goals as goal

pub fresh_loop-requires-clause-tables : goal.fresh_loop-requires-clause-tables
fresh_loop-requires-clause-tables c = new_ready c.new-nets.result c.new-nets.ensures

pub fresh_loop-requires-clause-body : goal.fresh_loop-requires-clause-body
fresh_loop-requires-clause-body c = ready_over c.new-nets.result c.args.body c.new-nets.ensures c.requires

pub returns : goal.returns
returns c = sample_loop c.new-nets.result c.args.body c.args.lower c.args.upper c.in_ok-term.term c.new-nets.ensures c.requires c.in_ok-term.ensures.fresh c.in_ok-term.ensures.ready
