use Rattle.pattern_marks.proofs.Holding.{ended_linked, on_end, on_event}
use Rattle.pattern_marks.proofs.ties.Meetings.take.Goals as goal

pub tie_goes-requires : goal.tie_goes-requires
tie_goes-requires c = ended_linked c.in-Some.from c.args.self.now c.end.new.self c.requires c.in-Some.ensures

pub returns-in_ok-meet-in-Event : goal.returns-in_ok-meet-in-Event
returns-in_ok-meet-in-Event c = on_event c.args.outline.now.terms c.args.mark c.in-Event.event c.in-Event.place c.args.self.now c.meet.new.self c.in-Event.is c.requires c.in_ok-meet-in-Event.ensures

pub returns-in-Some : goal.returns-in-Some
returns-in-Some c = on_end c.args.outline.now.terms c.args.mark c.in-CloseTie.number c.in-Some.from c.tie_goes.result c.args.self.now c.end.new.self c.in-CloseTie.is c.requires c.in-Some.ensures c.tie_goes.ensures
