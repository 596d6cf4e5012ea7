use Rattle.std.proofs.Common.{◌≡◌, map, take}
use Rattle.chart_term.specs.Rows.{parts_of}
use Rattle.chart_term.specs.Terms.{Turn}
use Rattle.chart_term.proofs.term.PartList.from_terms.Given as goal

abbrev pub invariant-loop-term : goal.invariant-loop-term
invariant-loop-term l = parts_of l.parts.items ≡ map Turn (take l.term-index l.term-items)
