use Rattle.calculus_tests.proofs.SampleTerms.{sample_choice, two_samples}
use Rattle.calculus_tests.proofs.samples.either.Goals as goal

pub returns : goal.returns
returns c = sample_choice c.in_ok-term.term c.in_ok-two.field-0 c.in_ok-term.ensures (two_samples c.in_ok-two.field-0 c.args.first c.args.second c.in_ok-two.ensures c.requires.first c.requires.second)
