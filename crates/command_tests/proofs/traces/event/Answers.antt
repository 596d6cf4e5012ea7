use Rattle.std.proofs.Common.{arith, refl}
use Rattle.command_tests.proofs.SoundTerms.{sample_event}
use Rattle.command_tests.proofs.traces.event.Goals as goal

pub returns : goal.returns
returns c = sample_event c.in_ok-term.term _ c.in_ok-term.ensures (omega (arith)) refl
