use Rattle.command_tests.proofs.SoundTerms.{sample_aside}
use Rattle.command_tests.proofs.traces.coregion.Goals as goal

pub returns : goal.returns
returns c = sample_aside c.in_ok-term.term c.loop-number.parts c.in_ok-term.ensures c.loop-number.invariant
