use Rattle.std.proofs.Common.{◌≡◌, ◌∙◌, [], get_or, sym}
use Rattle.std.proofs.lemmas.Bool.{true≢false}
use Rattle.std.proofs.lemmas.List.{get_or_default}
use Rattle.chart_links.proofs.SetFacts.{no_row_other, none_other, other_is, other_met, others_more}
use Rattle.chart_links.proofs.sets.meets_other.Goals as goal

pub returns-then-row-rows : goal.returns-then-row-rows
returns-then-row-rows c = no_row_other c.args.rows.now c.args.count c.args.row c.args.set.now c.if-row-rows.true

pub returns-then-is_other : goal.returns-then-is_other
returns-then-is_other c =
    let rows = c.args.rows.now in
    let row = c.args.row in
    let k = c.loop-number.number in
    let is : c.index-rows-row.result ≡ get_or rows row [] = c.index-rows-row.is ∙ get_or_default rows row c.index-rows-row.result [] c.if-row-rows.false in
    other_met rows c.args.count row c.args.set.now k c.loop-number-test.true ((other_is rows row c.index-rows-row.result c.args.set.now k c.is_other.result is c.is_other.ensures).0 c.if-is_other.true)

pub loop-number-preserved : goal.loop-number-preserved
loop-number-preserved c =
    let rows = c.args.rows.now in
    let row = c.args.row in
    let k = c.loop-number.number in
    let is : c.index-rows-row.result ≡ get_or rows row [] = c.index-rows-row.is ∙ get_or_default rows row c.index-rows-row.result [] c.if-row-rows.false in
    others_more rows row c.args.set.now k (λ h. true≢false (sym ((other_is rows row c.index-rows-row.result c.args.set.now k c.is_other.result is c.is_other.ensures).1 h) ∙ c.if-is_other.false)) c.loop-number.invariant

pub returns : goal.returns
returns c = none_other c.args.rows.now c.args.count c.loop-number.number c.args.row c.args.set.now c.loop-number-test.false c.loop-number.invariant
