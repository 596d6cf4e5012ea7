use Rattle.std.proofs.Common.{◌≡◌, Option, ap, option_map, ◌∙◌}
use Rattle.gate_ends.specs.FoundEnds.{event_count, expression_inner, inner_to}
use Rattle.gate_tables.specs.FactViews.{facts_view}
use Rattle.gate_tables.specs.GateFacts.{facts_of}
use Rattle.gate_tables.specs.declared.facts.GateFacts.{GateFacts}
use Rattle.join_sizes.specs.Counted.{capped, counted}
use Rattle.msc_meaning.specs.Views.{table_view}
use Rattle.msc_tree.specs.Views.{expression_view}
use Rattle.join_sizes.proofs.Counts.{facts_counted}
use Rattle.join_sizes.proofs.counting.expression_count.Goals as goal

pub returns : goal.returns
returns c =
    let table = table_view c.args.table.charts.now in
    let events = expression_inner (inner_to table c.args.table.depth) (expression_view c.args.expression.now) in
    let known : counted (option_map facts_view c.in_ok-found.found) ≡ counted (facts_of (events c.bytes.result.now)) = ap counted (c.in_ok-found.ensures table c.args.table.depth c.requires) in
    let here : counted (option_map facts_view c.in_ok-found.found) ≡ capped (event_count (events c.args.gate.now)) = rw (← c.bytes.ensures.bytes) (known ∙ facts_counted (events c.bytes.result.now)) in
    c.count_of.ensures ∙ ap (λ (o : Option GateFacts). counted (option_map facts_view o)) c.as_ref.ensures.value ∙ here
