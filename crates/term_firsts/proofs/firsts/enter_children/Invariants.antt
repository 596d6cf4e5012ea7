use Rattle.term_firsts.proofs.Entering.{EntersFirst}
use Rattle.term_firsts.proofs.firsts.enter_children.Given as goal

abbrev pub invariant-loop-index : goal.invariant-loop-index
invariant-loop-index l = EntersFirst l.nets.tables l.term l.index l.initial.search l.search
