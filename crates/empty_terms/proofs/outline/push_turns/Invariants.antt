use Rattle.std.proofs.Common.{◌≡◌, ◌++◌, take}
use Rattle.chart_term.specs.NormalForms.{begun}
use Rattle.empty_terms.proofs.outline.push_turns.Given as goal

abbrev pub invariant-loop-index : goal.invariant-loop-index
invariant-loop-index l = l.terms ≡ l.fn.terms ++ take l.index (begun l.parts)
