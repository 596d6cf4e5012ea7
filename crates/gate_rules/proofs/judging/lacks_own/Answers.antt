use Rattle.std.proofs.Common.{◌≡◌, ◌||◌, List, ℕ, option_map, sym, ap, ap₂, ◌∙◌}
use Rattle.gate_ends.specs.FoundEnds.{GateEvents, chart_gates, expression_inner}
use Rattle.gate_tables.specs.FactViews.{facts_view}
use Rattle.gate_tables.specs.GateFacts.{facts_of}
use Rattle.msc_base.specs.declared.limits.TheConstants.Limits.{EXPANDED_NESTING}
use Rattle.msc_meaning.specs.Views.{table_view}
use Rattle.msc_tree.specs.Expressions.{Expression}
use Rattle.msc_tree.specs.Views.{expression_view}
use Rattle.gate_rules.specs.declared.caller.Caller as code
use Rattle.gate_rules.specs.Callers.{caller_view}
use Rattle.gate_rules.specs.GateRules.{lacks_own}
use Rattle.gate_rules.proofs.FactLaws.{none_is}
use Rattle.gate_rules.proofs.judging.lacks_own.Goals as goal

pub returns-in_ok-facts-in-Join : goal.returns-in_ok-facts-in-Join
returns-in_ok-facts-in-Join c =
    let table = table_view c.args.table.charts.now in
    let expression : Expression = expression_view c.in-Join.reference.now.expr in
    let inner : GateEvents = expression_inner (chart_gates table) expression c.in-Join.join.now.gate in
    let known : option_map facts_view c.in_ok-facts-in-Join.facts ≡ facts_of inner =
    c.in_ok-facts-in-Join.ensures table EXPANDED_NESTING c.requires ∙ ap (λ (g : List ℕ). facts_of (expression_inner (chart_gates table) expression g)) c.bytes.ensures.bytes in
    c.either.ensures
    ∙ (ap₂ (λ a b. a || b) (none_is c.in_ok-facts-in-Join.facts inner c.is_none.result c.is_none.ensures known) c.joins_nameless.ensures
    ∙ ap (λ (x : code.Caller). lacks_own table (caller_view x)) (sym c.in-Join.is))
