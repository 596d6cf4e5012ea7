use Rattle.std.proofs.Common.{◌∙◌, Some, ap}
use Rattle.msc_tree.specs.Views.{expression_view}
use Rattle.gate_tables.specs.GateFacts.{Facts}
use Rattle.gate_tables.proofs.CalledEnds.{charts_known}
use Rattle.gate_tables.proofs.inner_facts.expression_facts.Goals as goal

pub returns-in_ok-copy-in-Some : goal.returns-in_ok-copy-in-Some
returns-in_ok-copy-in-Some c = λ table depth are.
    ap (λ (f : Facts). Some f) c.in_ok-copy-in-Some.ensures ∙ c.in-Some.ensures ∙ charts_known table depth c.args.gates.now (expression_view c.args.expression.now) c.args.gate.now are

pub returns-in-None : goal.returns-in-None
returns-in-None c = λ table depth are. c.in-None.ensures ∙ charts_known table depth c.args.gates.now (expression_view c.args.expression.now) c.args.gate.now are
