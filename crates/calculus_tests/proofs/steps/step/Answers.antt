use Rattle.std.proofs.Common.{◌∙◌, sym}
use Rattle.calculus_tests.proofs.SampleTerms.{left_list}
use Rattle.calculus_tests.proofs.steps.step.Goals as goal

pub returns : goal.returns
returns c =
    left_list c.args.nets.now c.args.label.now c.args.set.now 1000000 c.in_ok-found.found c.in-Some-found.left c.in_ok-next.next c.requires.tables c.requires.set
    (c.in_ok-found.ensures.left c.args.label.now (sym c.label.ensures.number ∙ c.in-Some.is)) c.in-Some-found.is c.in_ok-next.ensures.list
