use Rattle.std.proofs.Common.{◌≡◌, ◌∙◌, [], get_or}
use Rattle.std.proofs.lemmas.List.{get_or_default}
use Rattle.chart_links.proofs.SetFacts.{row_added, row_skipped}
use Rattle.chart_links.proofs.sets.add_numbers.Goals as goal

pub returns-in_ok-unite : goal.returns-in_ok-unite
returns-in_ok-unite c =
    let rows = c.args.rows.now in
    let is : c.index-rows-row.result ≡ get_or rows c.args.row [] = c.index-rows-row.is ∙ get_or_default rows c.args.row c.index-rows-row.result [] c.if-row-rows.true in
    row_added rows c.args.row c.index-rows-row.result c.args.set.now c.unite.new.self is c.in_ok-unite.ensures

pub returns-else-row-rows : goal.returns-else-row-rows
returns-else-row-rows c = row_skipped c.args.rows.now c.args.row c.args.set.now c.if-row-rows.false
