use Rattle.command_tests.proofs.Empty.{sound_nil}
use Rattle.command_tests.proofs.judging.empty.Goals as goal

pub new-requires-clause-sound : goal.new-requires-clause-sound
new-requires-clause-sound c = sound_nil c.new-nets.result c.in_ok-term.term c.new-nets.ensures c.in_ok-term.ensures
