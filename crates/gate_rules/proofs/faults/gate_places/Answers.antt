use Rattle.msc_meaning.specs.Views.{table_view}
use Rattle.gate_rules.specs.GateRules.{table_places}
use Rattle.gate_rules.specs.Noted.{noted_by}
use Rattle.gate_rules.specs.declared.faults.GateRule.TheVariants.{GateOnLoop, GateSplit, GateTwice, GateWays, NoGate}
use Rattle.gate_rules.proofs.NotedLaws.{least_told}
use Rattle.gate_rules.proofs.faults.gate_places.Goals as goal

pub returns-clause-no_gate : goal.returns-clause-no_gate
returns-clause-no_gate c =
    least_told (noted_by c.new-noted.result NoGate) (noted_by c.note_charts.new.noted NoGate) (table_places (table_view c.args.charts.now) NoGate (table_view c.args.charts.now)) c.earliest.result.no_gate
    (c.new-noted.ensures NoGate) (c.in_ok-note_charts.ensures.each NoGate) c.earliest.ensures.no_gate

pub returns-clause-twice : goal.returns-clause-twice
returns-clause-twice c =
    least_told (noted_by c.new-noted.result GateTwice) (noted_by c.note_charts.new.noted GateTwice) (table_places (table_view c.args.charts.now) GateTwice (table_view c.args.charts.now)) c.earliest.result.twice
    (c.new-noted.ensures GateTwice) (c.in_ok-note_charts.ensures.each GateTwice) c.earliest.ensures.twice

pub returns-clause-ways : goal.returns-clause-ways
returns-clause-ways c =
    least_told (noted_by c.new-noted.result GateWays) (noted_by c.note_charts.new.noted GateWays) (table_places (table_view c.args.charts.now) GateWays (table_view c.args.charts.now)) c.earliest.result.ways
    (c.new-noted.ensures GateWays) (c.in_ok-note_charts.ensures.each GateWays) c.earliest.ensures.ways

pub returns-clause-split : goal.returns-clause-split
returns-clause-split c =
    least_told (noted_by c.new-noted.result GateSplit) (noted_by c.note_charts.new.noted GateSplit) (table_places (table_view c.args.charts.now) GateSplit (table_view c.args.charts.now)) c.earliest.result.split
    (c.new-noted.ensures GateSplit) (c.in_ok-note_charts.ensures.each GateSplit) c.earliest.ensures.split

pub returns-clause-on_loop : goal.returns-clause-on_loop
returns-clause-on_loop c =
    least_told (noted_by c.new-noted.result GateOnLoop) (noted_by c.note_charts.new.noted GateOnLoop) (table_places (table_view c.args.charts.now) GateOnLoop (table_view c.args.charts.now)) c.earliest.result.on_loop
    (c.new-noted.ensures GateOnLoop) (c.in_ok-note_charts.ensures.each GateOnLoop) c.earliest.ensures.on_loop
