use Rattle.std.proofs.Common.{ap}
use Rattle.pattern_marks.specs.Marks.{tie_pairs}
use Rattle.pattern_marks.proofs.Tying.{tie_none, tie_tied}
use Rattle.pattern_marks.proofs.ties.Meetings.tie_goes.Goals as goal

pub returns-in-Tied : goal.returns-in-Tied
returns-in-Tied c = tie_tied c.args.outline.now.terms c.args.number c.args.from c.args.self.now.met _ _ _ c.go_forward.result c.term.ensures c.in-Tied.ensures c.go_forward.ensures

pub returns-in-Nil : goal.returns-in-Nil
returns-in-Nil c = tie_none c.args.outline.now.terms c.args.number c.args.from c.args.self.now.met _ c.term.ensures (ap tie_pairs c.in-Nil.ensures)

pub returns-in-Event : goal.returns-in-Event
returns-in-Event c = tie_none c.args.outline.now.terms c.args.number c.args.from c.args.self.now.met _ c.term.ensures (ap tie_pairs c.in-Event.ensures)

pub returns-in-Seq : goal.returns-in-Seq
returns-in-Seq c = tie_none c.args.outline.now.terms c.args.number c.args.from c.args.self.now.met _ c.term.ensures (ap tie_pairs c.in-Seq.ensures.0)

pub returns-in-Par : goal.returns-in-Par
returns-in-Par c = tie_none c.args.outline.now.terms c.args.number c.args.from c.args.self.now.met _ c.term.ensures (ap tie_pairs c.in-Par.ensures.0)

pub returns-in-Choice : goal.returns-in-Choice
returns-in-Choice c = tie_none c.args.outline.now.terms c.args.number c.args.from c.args.self.now.met _ c.term.ensures (ap tie_pairs c.in-Choice.ensures.0)

pub returns-in-Loop : goal.returns-in-Loop
returns-in-Loop c = tie_none c.args.outline.now.terms c.args.number c.args.from c.args.self.now.met _ c.term.ensures (ap tie_pairs c.in-Loop.ensures)

pub returns-in-Walk : goal.returns-in-Walk
returns-in-Walk c = tie_none c.args.outline.now.terms c.args.number c.args.from c.args.self.now.met _ c.term.ensures (ap tie_pairs c.in-Walk.ensures)
