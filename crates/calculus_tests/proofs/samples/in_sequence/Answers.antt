use Rattle.calculus_tests.proofs.SampleTerms.{sample_row, two_samples}
use Rattle.calculus_tests.proofs.samples.in_sequence.Goals as goal

pub returns : goal.returns
returns c = sample_row c.in_ok-term.term c.in_ok-two.field-0 c.in_ok-term.ensures (two_samples c.in_ok-two.field-0 c.args.first c.args.second c.in_ok-two.ensures c.requires.first c.requires.second)
