-- Serves private contracts alone.
-- The rules that a caller breaks.
use Rattle.std.specs.Prelude.{Bool}
use Rattle.gate_rules.specs.declared.faults.GateRule.{GateRule}
use Rattle.gate_rules.specs.declared.faults.GateRule.TheVariants as rule
use Rattle.gate_rules.specs.declared.judging.Broken.{Broken}

abbrev pub is_broken : Broken → GateRule → Bool
is_broken broken rule.NoGate = broken.no_gate
is_broken broken rule.GateTwice = broken.twice
is_broken broken rule.GateWays = broken.ways
is_broken broken rule.GateSplit = broken.split
is_broken broken rule.GateOnLoop = broken.on_loop
