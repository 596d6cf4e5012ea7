use Rattle.std.proofs.Common.{◌∙◌, sym}
use Rattle.std.proofs.lemmas.Bool.{true≢false}
use Rattle.term_sets.proofs.Gathering.{all_ready, none_ends, some_ready}
use Rattle.term_sets.proofs.successors.one_may_end.Goals as goal

pub may_end-requires-clause-tables : goal.may_end-requires-clause-tables
may_end-requires-clause-tables c = some_ready c.args.nets.now c.args.set.now (λ e. true≢false (sym (c.is_empty.ensures.1 e) ∙ c.if-is_empty.false)) c.requires

pub may_end-requires-clause-terms : goal.may_end-requires-clause-terms
may_end-requires-clause-terms c = all_ready c.args.nets.now c.args.set.now c.requires

pub returns-then-is_empty : goal.returns-then-is_empty
returns-then-is_empty c = none_ends c.args.nets.now c.args.set.now (c.is_empty.ensures.0 c.if-is_empty.true)
