use Rattle.calculus_tests.proofs.SampleTerms.{sample_aside, two_samples}
use Rattle.calculus_tests.proofs.samples.aside.Goals as goal

pub returns : goal.returns
returns c = sample_aside c.in_ok-term.term c.in_ok-two.field-0 c.in_ok-term.ensures (two_samples c.in_ok-two.field-0 c.args.first c.args.second c.in_ok-two.ensures c.requires.first c.requires.second)
