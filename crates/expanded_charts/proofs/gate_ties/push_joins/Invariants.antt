use Rattle.std.specs.List.{flat_map}
use Rattle.std.proofs.Common.{◌≡◌, ◌++◌, take}
use Rattle.msc_tree.specs.declared.reference.Join.{Join}
use Rattle.msc_meaning.specs.Ties.{join_tie}
use Rattle.expanded_charts.specs.GateTies.{ties_view}
use Rattle.expanded_charts.proofs.gate_ties.push_joins.Given as goal

abbrev pub invariant-loop-join : goal.invariant-loop-join
invariant-loop-join l = ties_view l.ties.items ≡ ties_view l.fn.ties.items ++ flat_map (λ (j : Join). join_tie l.level.ends l.own j.gate j.to) (take l.join-index l.joins)
