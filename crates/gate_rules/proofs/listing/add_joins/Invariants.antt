use Rattle.std.proofs.Common.{◌≡◌, ◌++◌, drop, map}
use Rattle.gate_rules.specs.Callers.{callers_view, part_view}
use Rattle.gate_rules.specs.GateRules.{by_join}
use Rattle.gate_rules.proofs.listing.add_joins.Given as goal

abbrev pub invariant-loop-join : goal.invariant-loop-join
invariant-loop-join l = callers_view l.callers.items ++ map (by_join (part_view l.reference)) (drop l.join-index l.join-items) ≡ callers_view l.initial.callers.items ++ map (by_join (part_view l.reference)) l.join-items
