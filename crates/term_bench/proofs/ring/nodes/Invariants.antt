use Rattle.std.proofs.Common.{◌≡◌, [], length}
use Rattle.chart_term.specs.Properties.{Each}
use Rattle.term_permission.specs.Ready.{IsReady}
use Rattle.term_bench.specs.Homes.{IsHome}
use Rattle.term_bench.proofs.ring.nodes.Given as goal

abbrev pub invariant-loop-number : goal.invariant-loop-number
invariant-loop-number l = record {
  size : length l.nodes ≡ l.number;
  ready : Each (IsReady []) l.nodes;
  home : Each IsHome l.nodes;
}
