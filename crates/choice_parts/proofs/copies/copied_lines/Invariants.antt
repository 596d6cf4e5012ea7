use Rattle.std.proofs.Common.{◌≡◌, take}
use Rattle.choice_parts.proofs.copies.copied_lines.Given as goal

abbrev pub invariant-loop-line : goal.invariant-loop-line
invariant-loop-line l = l.copied ≡ take l.line-index l.lines
