use Rattle.std.proofs.Common.{sym, ◌∙◌}
use Rattle.chart_term.specs.Rows.{part_of}
use Rattle.term_step.proofs.Passes.{gap-none}
use Rattle.term_step.proofs.descent.turn_of.Goals as goal

pub returns-then-not-may_have : goal.returns-then-not-may_have
returns-then-not-may_have c = gap-none c.args.nets.now.tables c.args.label c.args.body.now c.args.upper (part_of c.args.part.now) (sym c.is_gap.ensures ∙ c.if-is_gap.true) (c.may_have.ensures c.if-not-may_have.true)
