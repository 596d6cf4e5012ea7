use Rattle.std.proofs.Common.{arith}
use Rattle.chart_term.specs.NormalForms.{begun}
use Rattle.chart_term.proofs.Turns.{begun-length, longer}
use Rattle.std.proofs.lemmas.Result.{on_ok_weaker}
use Rattle.chart_term.proofs.choices.push_opened.Goals as goal

pub returns-in-Some-clause-longer : goal.returns-in-Some-clause-longer
returns-in-Some-clause-longer c = on_ok_weaker c.push_turns.result (longer c.args.list.now c.push_turns.new.list (begun c.in-Some.turns.now) (omega (arith, begun-length c.in-Some.turns.now c.in-Some.ensures.1, c.in-Some.ensures.2))) c.push_turns.ensures
