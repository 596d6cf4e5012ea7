use Rattle.std.proofs.Common.{◌≡◌, ◌∙◌, sym}
use Rattle.chart_term.specs.NormalForms.{begun}
use Rattle.chart_term.specs.Rows.{part_of}
use Rattle.term_laws.specs.Permission.{permits_of}
use Rattle.term_permission.proofs.PermitLoops.{ready-loop}
use Rattle.term_permission.proofs.PermitRows.{ready-part}
use Rattle.term_firsts.proofs.Entering.{aside_child, choice_child, row_child}
use Rattle.term_firsts.proofs.children.child_at.Goals as goal

pub returns-in_ok-part-in-Seq : goal.returns-in_ok-part-in-Seq
returns-in_ok-part-in-Seq c = c.in_ok-part-in-Seq.ensures ∙ sym (row_child (permits_of c.args.nets.now.tables) c.args.term.now (begun c.in-Seq.parts.now) c.args.index c.in-Seq.ensures.0)

pub returns-in_ok-part-in-Par : goal.returns-in_ok-part-in-Par
returns-in_ok-part-in-Par c = c.in_ok-part-in-Par.ensures ∙ sym (aside_child (permits_of c.args.nets.now.tables) c.args.term.now (begun c.in-Par.parts.now) c.args.index c.in-Par.ensures.0)

pub returns-in_ok-part-in-Choice : goal.returns-in_ok-part-in-Choice
returns-in_ok-part-in-Choice c = c.in_ok-part-in-Choice.ensures ∙ sym (choice_child (permits_of c.args.nets.now.tables) c.args.term.now (begun c.in-Choice.parts.now) c.args.index c.in-Choice.ensures.0)

pub turn_at-requires-clause-part : goal.turn_at-requires-clause-part
turn_at-requires-clause-part c = ready-part c.args.nets.now.tables c.in-Loop.row.now c.args.index (part_of c.at.result.now) c.at.ensures (ready-loop c.args.nets.now.tables c.args.term.now c.in-Loop.body.now c.in-Loop.lower c.in-Loop.upper c.in-Loop.row.now c.in-Loop.ensures c.requires.term).parts
