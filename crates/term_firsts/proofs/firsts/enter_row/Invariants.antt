use Rattle.std.proofs.Common.{◌≡◌}
use Rattle.msc_base.specs.Patterns.{seq}
use Rattle.msc_base.specs.declared.limits.TheConstants.Limits.{INSTANCES}
use Rattle.chart_term.specs.NormalForms.{begun}
use Rattle.chart_term.specs.Tables.{Tables}
use Rattle.chart_term.specs.Terms.{Join, trees}
use Rattle.term_permission.specs.Ready.{IsReady}
use Rattle.term_firsts.specs.Firsts.{EntersSome}
use Rattle.term_firsts.proofs.firsts.enter_row.Given as goal

abbrev pub invariant-loop-index : goal.invariant-loop-index
invariant-loop-index l = record {
  size : l.held.size ≡ INSTANCES;
  some : (w : Tables) → IsReady w (Join seq (trees (begun l.parts))) → EntersSome w (begun l.parts) l.index l.held.nodes l.initial.search l.search;
}
