-- Serves private contracts alone.
-- The places that are noted, by rules.
use Rattle.std.specs.Prelude.{◌≡◌, List, ◌++◌}
use Rattle.msc_base.specs.declared.place.Place.{Place}
use Rattle.gate_rules.specs.declared.faults.GateRule.{GateRule}
use Rattle.gate_rules.specs.declared.faults.GateRule.TheVariants as rule
use Rattle.gate_rules.specs.declared.noted.Noted.{Noted}

abbrev pub noted_by : Noted → GateRule → List Place
noted_by noted rule.NoGate = noted.no_gate
noted_by noted rule.GateTwice = noted.twice
noted_by noted rule.GateWays = noted.ways
noted_by noted rule.GateSplit = noted.split
noted_by noted rule.GateOnLoop = noted.on_loop

-- for each rule the places that are told of it are noted, behind those that were
pub record IsNoted (told : GateRule → List Place) (old new : Noted) : Type 0 where
  pub each : (r : GateRule) → noted_by new r ≡ noted_by old r ++ told r
