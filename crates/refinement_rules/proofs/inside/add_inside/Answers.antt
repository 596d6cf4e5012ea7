use Rattle.msc_meaning.specs.Views.{table_view}
use Rattle.refinement_rules.specs.Judging.{InsideBy}
use Rattle.refinement_rules.proofs.InsideFacts.{inside_added}
use Rattle.refinement_rules.proofs.inside.add_inside.Goals as goal

pub returns-in_ok-add : goal.returns-in_ok-add
returns-in_ok-add c =
    let k = c.args.tables.now in
    inside_added c.args.inside.now c.add.new.self c.bytes.result.now c.args.name.now (InsideBy (table_view c.args.table.charts.now) k.names k.reach.items) (c.is_inside.ensures.0 c.if-is_inside.true) c.bytes.ensures.bytes c.in_ok-add.ensures.ok
