use Rattle.std.proofs.Common.{◌+◌, ◌≤◌, length}
use Rattle.certificate_texts.specs.Readings.{text_lines}
use Rattle.certificate_texts.proofs.Loops.{IsAt}
use Rattle.certificate_texts.proofs.reading.read_lines.Given as goal

abbrev pub invariant-loop-rest : goal.invariant-loop-rest
invariant-loop-rest l = record {
  at : IsAt (text_lines l.bytes) l.held.items l.missing l.rest l.number;
  room : l.number + length l.rest ≤ length l.bytes + 1;
}

abbrev pub decreases-loop-rest : goal.decreases-loop-rest
decreases-loop-rest l = length l.rest
