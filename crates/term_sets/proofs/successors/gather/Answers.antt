use Rattle.std.proofs.Common.{◌∙◌, sym}
use Rattle.std.proofs.lemmas.Bool.{true≢false}
use Rattle.term_sets.proofs.Gathering.{all_placed, all_ready, gathered, some_ready}
use Rattle.term_sets.proofs.successors.gather.Goals as goal

pub after-requires-clause-tables : goal.after-requires-clause-tables
after-requires-clause-tables c = some_ready c.args.nets.now c.args.set.now (λ e. true≢false (sym (c.is_empty.ensures.1 e) ∙ c.if-is_empty.false)) c.requires.sound

pub after-requires-clause-terms : goal.after-requires-clause-terms
after-requires-clause-terms c = all_ready c.args.nets.now c.args.set.now c.requires.sound

pub after-requires-clause-placed : goal.after-requires-clause-placed
after-requires-clause-placed c = all_placed c.args.nets.now c.args.set.now c.requires.sound

pub returns-clause-found : goal.returns-clause-found
returns-clause-found c = λ a q. gathered c.args.nets.now a c.args.set.now c.args.budget c.requires.sound c.in_ok-found.found (c.in_ok-found.ensures.found a (sym q ∙ c.in-Some.is))
