use Rattle.term_firsts.proofs.Entering.{enter_inner, on_ok}
use Rattle.term_firsts.proofs.firsts.enter.Goals as goal

pub returns : goal.returns
returns c = on_ok c.enter_children.result c.enter_children.ensures (λ h. enter_inner c.args.nets.now.tables c.args.term.now c.args.search.now c.enter_children.new.search c.in_default.ensures.none h)
