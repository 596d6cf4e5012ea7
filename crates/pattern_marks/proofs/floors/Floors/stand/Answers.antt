use Rattle.chart_term.specs.Views.{event_of}
use Rattle.pattern_marks.proofs.Raising.{stood_one, stood_two}
use Rattle.pattern_marks.proofs.floors.Floors.stand.Goals as goal

pub returns-in_ok-raise-in-Some : goal.returns-in_ok-raise-in-Some
returns-in_ok-raise-in-Some c =
    stood_two (event_of c.args.event) c.in-Some.second c.args.place c.args.self.now c.raise.new.self c.raise-in-Some.new.self c.in-Some.is
    (c.is_above.ensures.0 c.if-not-is_above.false) c.in_ok-raise.ensures c.in_ok-raise-in-Some.ensures

pub returns-in-None : goal.returns-in-None
returns-in-None c =
    stood_one (event_of c.args.event) c.args.place c.args.self.now c.raise.new.self c.in-None.is
    (c.is_above.ensures.0 c.if-not-is_above.false) c.in_ok-raise.ensures
