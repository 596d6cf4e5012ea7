use Rattle.std.proofs.Common.{◌≡◌, take, flat_map}
use Rattle.msc_cmd.specs.SessionOutcomes.{answer_line}
use Rattle.msc_cmd.proofs.sessions.answer_lines.Given as goal

abbrev pub invariant-loop-answer : goal.invariant-loop-answer
invariant-loop-answer l = l.bytes.items ≡ flat_map answer_line (take l.answer-index l.answers)
