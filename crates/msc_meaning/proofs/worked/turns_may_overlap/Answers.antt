use Rattle.msc_meaning.proofs.WorkedTurns.{loop_unfolds, overlapping_turns_conform, one_turn_stops_early, references_unfold, overlapping_references_conform}
use Rattle.msc_meaning.proofs.worked.turns_may_overlap.Goals as goal

pub returns-clause-loops : goal.returns-clause-loops
returns-clause-loops c = loop_unfolds

pub returns-clause-overlapping : goal.returns-clause-overlapping
returns-clause-overlapping c = overlapping_turns_conform

pub returns-clause-one_turn : goal.returns-clause-one_turn
returns-clause-one_turn c = one_turn_stops_early

pub returns-clause-references : goal.returns-clause-references
returns-clause-references c = references_unfold

pub returns-clause-overlapping_references : goal.returns-clause-overlapping_references
returns-clause-overlapping_references c = overlapping_references_conform
