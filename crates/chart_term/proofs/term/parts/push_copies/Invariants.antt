use Rattle.std.proofs.Common.{◌≡◌, ◌++◌, take}
use Rattle.chart_term.proofs.term.parts.push_copies.Given as goal

abbrev pub invariant-loop-part : goal.invariant-loop-part
invariant-loop-part l = l.out.items ≡ l.initial.out.items ++ take l.part-index l.parts
