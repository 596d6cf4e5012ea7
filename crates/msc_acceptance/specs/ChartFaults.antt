-- Where what charts are woven to breaks a rule: columns that cross, messages without partner, gates, decomposed instances, names of events,
-- a cyclic order.
use Rattle.std.specs.Prelude.{◌≡◌, ℕ, List, map}
use Rattle.chart_cycles.specs.Cycles.{IsOrdered}
use Rattle.msc_base.specs.Lists.{IsAmong}
use Rattle.msc_base.specs.declared.limits.TheConstants.Limits.{EXPANDED_NESTING}
use Rattle.msc_base.specs.declared.place.Place.{Place}
use Rattle.msc_tree.specs.Charts.{Chart, Content, Basic, HighLevel}
use Rattle.msc_tree.specs.Statements.{statements}
use Rattle.msc_meaning.specs.Bodies.{Body}
use Rattle.msc_meaning.specs.Crossings.{ColumnsCross}
use Rattle.msc_meaning.specs.Partners.{LacksPartner}
use Rattle.msc_meaning.specs.Pieces.{statements_pieces}
use Rattle.msc_meaning.specs.Tables as table
use Rattle.msc_meaning.specs.WovenTables.{AreEntriesOf, IsWovenContent}
use Rattle.chart_links.specs.Summaries.{summary_of}
use Rattle.gate_rules.specs.GateRules.{BreaksGateRule}
use Rattle.gate_rules.specs.declared.faults.GateRule.{GateRule}
use Rattle.general_ordering.specs.EventNames.{BreaksNameRule, EventNameRule}
use Rattle.msc_instances.specs.Instances.{instances}
use Rattle.refinement_rules.specs.RefinementRules.{BreaksRefinementRule}
use Rattle.refinement_rules.specs.declared.faults.RefinementRule.{RefinementRule}

-- the chart is a basic one, and its text is woven to that body
abbrev pub IsBodyOf : Chart → Body → Type 0
IsBodyOf chart body = IsWovenContent (instances chart) chart.content (table.Basic body)

abbrev pub ContentCrosses : List (List ℕ) → Content → Place → Type 0
ContentCrosses names (Basic held) place = ColumnsCross names (statements_pieces names 0 (statements held)) place
ContentCrosses names (HighLevel drawn) place = ⊥

-- at that place columns of the chart cross
abbrev pub CrossesAt : Chart → Place → Type 0
CrossesAt chart place = ContentCrosses (instances chart) chart.content place

-- at that place an output or an input stands that has no partner in what the chart is woven to
pub record IsAloneAt (chart : Chart) (place : Place) : Type 0 where
  pub body : Body
  pub woven : IsBodyOf chart body
  pub alone : LacksPartner body place

-- at that place an event of what the chart is woven to breaks a rule on the names of events
pub record IsMisnamedAt (rule : EventNameRule) (chart : Chart) (place : Place) : Type 0 where
  pub body : Body
  pub woven : IsBodyOf chart body
  pub misnamed : BreaksNameRule rule body place

-- at that place what the charts are woven to breaks a rule on gates
pub record BreaksGatesAt (rule : GateRule) (charts : List Chart) (place : Place) : Type 0 where
  pub table : table.Table
  pub woven : AreEntriesOf instances charts table
  pub breaks : BreaksGateRule table rule place

-- at that place what the charts are woven to breaks a rule on decomposed instances
pub record BreaksRefinementAt (rule : RefinementRule) (charts : List Chart) (place : Place) : Type 0 where
  pub table : table.Table
  pub woven : AreEntriesOf instances charts table
  pub breaks : BreaksRefinementRule (map summary_of charts) table rule place

-- one of the charts stands there, and the events of its expansion, with those of the charts that it names, can't happen in any order
pub record IsCyclicAt (charts : List Chart) (place : Place) : Type 0 where
  pub table : table.Table
  pub woven : AreEntriesOf instances charts table
  pub chart : Chart
  pub among : IsAmong charts chart
  pub there : chart.place ≡ place
  pub cyclic : IsOrdered table EXPANDED_NESTING chart.name → ⊥
