use Rattle.std.proofs.Common.{◌∙◌, sym}
use Rattle.term_firsts.proofs.Entering.{enter_inner_child, on_ok}
use Rattle.term_firsts.proofs.firsts.enter_child.Goals as goal

pub returns-in-Some : goal.returns-in-Some
returns-in-Some c = on_ok c.wait.result c.wait.ensures (λ a. enter_inner_child c.args.nets.now.tables c.requires.tables c.args.term.now c.in-Some.inner c.args.index c.args.search.now c.wait.new.self c.requires.term (sym c.in_ok-inner.ensures ∙ c.in-Some.is) a)
