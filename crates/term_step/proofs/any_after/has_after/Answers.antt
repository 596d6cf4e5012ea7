use Rattle.term_step.proofs.Searching.{found_any}
use Rattle.term_step.proofs.any_after.has_after.Goals as goal

pub returns : goal.returns
returns c label labelled = found_any c.args.nets.now label c.args.term.now c.args.number labelled c.new-found.result c.search.new.found c.new-found.ensures.terms c.new-found.ensures.most c.in_ok-all.all c.in_ok-all.ensures
