-- What is said of each rule is said of all.
use Rattle.std.proofs.Common.{◌≡◌, Bool}
use Rattle.gate_rules.specs.declared.faults.GateRule.{GateRule}
use Rattle.gate_rules.specs.declared.faults.GateRule.TheVariants as rule
use Rattle.gate_rules.specs.declared.judging.Broken.{Broken}
use Rattle.gate_rules.specs.Judging.{is_broken}

pub each_rule : (b : Broken) (f : GateRule → Bool) → b.no_gate ≡ f rule.NoGate → b.twice ≡ f rule.GateTwice → b.ways ≡ f rule.GateWays → b.split ≡ f rule.GateSplit → b.on_loop ≡ f rule.GateOnLoop
    → (r : GateRule) → is_broken b r ≡ f r
each_rule b f n t w s l rule.NoGate = n
each_rule b f n t w s l rule.GateTwice = t
each_rule b f n t w s l rule.GateWays = w
each_rule b f n t w s l rule.GateSplit = s
each_rule b f n t w s l rule.GateOnLoop = l
