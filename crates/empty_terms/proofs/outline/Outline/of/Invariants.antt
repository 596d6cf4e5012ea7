use Rattle.std.proofs.Common.{◌≡◌, length}
use Rattle.empty_terms.specs.Outlines.{IsOutlined}
use Rattle.empty_terms.proofs.outline.Outline.of.Given as goal

abbrev pub invariant-loop-behind : goal.invariant-loop-behind
invariant-loop-behind l = record {
  outlined : IsOutlined l.nets.tables l.term l.outline;
  each : length l.outline.roots.items ≡ l.behind;
}
