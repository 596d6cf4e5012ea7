-- Where a table keeps the rules on gates, the called gates of its levels are as meanings, terms and sizes ask.
use Rattle.std.specs.Prelude.{◌≡◌, []}
use Rattle.msc_base.specs.Orders.{Among, Once}
use Rattle.msc_base.specs.declared.limits.TheConstants.Limits.{EXPANDED_NESTING}
use Rattle.msc_base.specs.declared.place.Place.{Place}
use Rattle.msc_meaning.specs.Bodies.{Body, WovenItems}
use Rattle.msc_meaning.specs.BodyLevels.{EachLevel, body_levels}
use Rattle.msc_meaning.specs.Calls.{Call, calls}
use Rattle.msc_meaning.specs.MeaningLaws.{HaveEnds, HaveOneEnd}
use Rattle.msc_meaning.specs.Tables.{Table, ChartEntry, Basic}
use Rattle.gate_ends.specs.FoundEnds.{AreAll, GoesTo, chart_gates, inner_of, level_names, looped}
use Rattle.gate_ends.specs.LevelGates.{event_tags, items_in}
use Rattle.gate_rules.specs.declared.faults.GateRule.{GateRule}
use Rattle.gate_rules.specs.GateRules.{BreaksGateRule}

-- each called gate of a level has inner events, of one instance and direction and in no loop, and one event at most calls it
pub record HasGates (table : Table) (held : WovenItems) : Type 0 where
  pub there : HaveEnds table held (calls held)
  pub one : HaveOneEnd table held (calls held)
  pub outside : (c : Call) → Among c (calls held) → looped (inner_of (chart_gates table) held c.name c.gate) ≡ []
  pub once : Once (event_tags (calls held))

-- so it is on each level of a chart of a table that breaks no rule, where the charts that it names are no deeper than the limit
pub record LevelsHaveGates : Type 0 where
  pub have : (table : Table) → ((rule : GateRule) (p : Place) → BreaksGateRule table rule p → ⊥) → (c : ChartEntry) → Among c table → (body : Body) → c.content ≡ Basic body
      → AreAll (GoesTo table EXPANDED_NESTING) (level_names body) → EachLevel (λ l. HasGates table (items_in l.body)) (body_levels body)
