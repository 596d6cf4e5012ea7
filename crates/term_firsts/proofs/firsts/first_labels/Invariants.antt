use Rattle.term_firsts.proofs.Entering.{Searches}
use Rattle.term_firsts.proofs.firsts.first_labels.Given as goal

abbrev pub invariant-loop : goal.invariant-loop
invariant-loop l = Searches l.nets.tables l.term l.search
