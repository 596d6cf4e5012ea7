use Rattle.command_tests.proofs.SoundTerms.{sound_here}
use Rattle.command_tests.proofs.traces.judged.Goals as goal

pub new-requires-clause-sound : goal.new-requires-clause-sound
new-requires-clause-sound g c = sound_here c.in_ok-nets.nets c.args.term c.in_ok-nets.ensures.nets c.in_ok-nets.ensures.labels c.requires.sample

pub feed-requires-clause-first : goal.feed-requires-clause-first
feed-requires-clause-first g c = c.in_ok-track.ensures.fed.count
