use Rattle.std.proofs.Common.{◌≡◌, take, slice_get, Some}
use Rattle.chart_term.specs.NormalForms.{begun}
use Rattle.chart_term.specs.Terms.{Tree}
use Rattle.msc_base.specs.Lists.{IsAmong}
use Rattle.term_sets.proofs.subsets.stands_before.Given as goal

abbrev pub invariant-loop-before : goal.invariant-loop-before
invariant-loop-before l = (x : Tree) → slice_get (begun l.parts) l.index ≡ Some x → IsAmong (take l.before (begun l.parts)) x → ⊥
