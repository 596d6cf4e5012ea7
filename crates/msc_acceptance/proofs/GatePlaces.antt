-- Where the charts of a document break the rules on gates: where those of its one table do.
use Rattle.std.proofs.Common.{List, Option, subst}
use Rattle.gate_rules.specs.GateRules.{BreaksGateRule}
use Rattle.gate_rules.specs.declared.faults.GatePlaces.{GatePlaces}
use Rattle.gate_rules.specs.declared.faults.GateRule.{GateRule}
use Rattle.gate_rules.specs.declared.faults.GateRule.TheVariants as gate
use Rattle.msc_acceptance.proofs.GroupLaws.{five_best}
use Rattle.msc_acceptance.proofs.OneTable.{one_table}
use Rattle.msc_acceptance.specs.Acceptance.{BreaksOf}
use Rattle.msc_acceptance.specs.ChartFaults.{BreaksGatesAt}
use Rattle.msc_acceptance.specs.Deciding.{AreGatePlaces, gates}
use Rattle.level_pieces.proofs.LeastLaws.{least_same}
use Rattle.msc_base.specs.Places.{IsLeast}
use Rattle.msc_base.specs.declared.place.Place.{Place}
use Rattle.msc_instances.specs.Instances.{instances}
use Rattle.msc_meaning.specs.Tables.{Table}
use Rattle.msc_meaning.specs.WovenTables.{AreEntriesOf}
use Rattle.msc_rules.specs.FirstFaults.{IsBest, earlier_of, fault_of}
use Rattle.msc_rules.specs.Rules.{number_of}
use Rattle.msc_rules.specs.declared.rule.Rule.TheVariants.{GateOnLoop, GateSplit, GateTwice, GateWays, NoGate}
use Rattle.msc_tree.specs.Charts.{Chart}

module _ (charts : List Chart) (table : Table) (are : AreEntriesOf instances charts table) where
  pub table_gates : (rule : GateRule) (q : Place) → BreaksGateRule table rule q → BreaksGatesAt rule charts q
  table_gates rule q g = record { table = table; woven = are; breaks = g }

  chart_gates : (rule : GateRule) (q : Place) → BreaksGatesAt rule charts q → BreaksGateRule table rule q
  chart_gates rule q g = subst (λ (t : Table). BreaksGateRule t rule q) (one_table charts g.table table g.woven are) g.breaks

  least_gate : (rule : GateRule) (place : Option Place) → IsLeast (BreaksGateRule table rule) place → IsLeast (BreaksGatesAt rule charts) place
  least_gate rule place h = least_same (BreaksGateRule table rule) (BreaksGatesAt rule charts) place (table_gates rule) (chart_gates rule) h

  pub gates_best : (places : GatePlaces) → AreGatePlaces table places
      → IsBest number_of (BreaksOf charts) gates (earlier_of number_of (earlier_of number_of (earlier_of number_of (earlier_of number_of (fault_of NoGate places.no_gate) (fault_of GateTwice places.twice)) (fault_of GateWays places.ways)) (fault_of GateSplit places.split)) (fault_of GateOnLoop places.on_loop))
  gates_best places h = five_best charts NoGate GateTwice GateWays GateSplit GateOnLoop places.no_gate places.twice places.ways places.split places.on_loop
      (least_gate gate.NoGate places.no_gate h.no_gate) (least_gate gate.GateTwice places.twice h.twice) (least_gate gate.GateWays places.ways h.ways) (least_gate gate.GateSplit places.split h.split) (least_gate gate.GateOnLoop places.on_loop h.on_loop)
