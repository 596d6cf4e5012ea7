use Rattle.std.proofs.Common.{◌≡◌, take}
use Rattle.certificate_texts.specs.Texts.{bytes_of_lines, lines_of}
use Rattle.certificate_texts.proofs.text.bytes_of.Given as goal

abbrev pub invariant-loop-line : goal.invariant-loop-line
invariant-loop-line l = l.out.items ≡ bytes_of_lines (lines_of (take l.line-index l.lines))
