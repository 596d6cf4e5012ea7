use Rattle.std.proofs.Common.{◌≡◌, ◌∙◌, ◌↔◌, Bool, IsTrue, [], get_or, length, subst, sym}
use Rattle.std.proofs.lemmas.Bool.{le-ltb}
use Rattle.chart_links.specs.Sets.{MeetsRow}
use Rattle.std.proofs.lemmas.List.{get_or_default}
use Rattle.chart_links.proofs.SetFacts.{meets_is, meets_none}
use Rattle.chart_links.proofs.sets.meets_row.Goals as goal

pub returns-then-row-rows : goal.returns-then-row-rows
returns-then-row-rows c =
    let rows = c.args.rows.now in
    let is : c.index-rows-row.result ≡ get_or rows c.args.row [] = c.index-rows-row.is ∙ get_or_default rows c.args.row c.index-rows-row.result [] c.if-row-rows.true in
    meets_is rows c.args.row c.index-rows-row.result c.args.set.now c.meets.result is c.meets.ensures

pub returns-else-row-rows : goal.returns-else-row-rows
returns-else-row-rows c =
    let rows = c.args.rows.now in
    subst (λ (b : Bool). IsTrue b ↔ MeetsRow rows c.args.row c.args.set.now) (sym (le-ltb c.args.row (length rows) c.if-row-rows.false)) (meets_none rows c.args.row c.args.set.now c.if-row-rows.false)
