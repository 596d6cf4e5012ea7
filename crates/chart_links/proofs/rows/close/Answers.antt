use Rattle.std.proofs.Common.{◌≡◌, ◌<◌, ℕ, List, [], get_or, length, rules, subst, ◌∙◌, arith}
use Rattle.std.proofs.lemmas.List.{get_or_default}
use Rattle.chart_links.specs.Rows.{IsPassed}
use Rattle.chart_links.proofs.RowFacts.{closing_end, closing_start, closing_step}
use Rattle.chart_links.proofs.rows.close.Goals as goal

pub loop-middle-init : goal.loop-middle-init
loop-middle-init c = closing_start c.args.rows.now.items

pub loop-middle-preserved : goal.loop-middle-preserved
loop-middle-preserved c =
    let rows = c.loop-middle.rows.items in
    let k = c.loop-middle.middle in
    let len : c.len-middle-end.result ≡ length c.args.rows.now.items = search rules in
    let low : k < length rows = omega (arith, len, c.loop-middle-test.true, c.loop-middle.invariant.len) in
    let row : c.in_ok-through.through ≡ get_or rows k [] = c.in_ok-through.ensures ∙ c.index.ensures ∙ get_or_default rows k c.index.result.now [] low in
    closing_step c.args.rows.now.items rows c.pass.new.rows.items k c.loop-middle.invariant (subst (λ (l : List ℕ). IsPassed k l rows c.pass.new.rows.items) row c.in_ok-pass.ensures)

pub returns : goal.returns
returns c =
    let len : c.len-middle-end.result ≡ length c.args.rows.now.items = search rules in
    closing_end c.args.rows.now.items c.loop-middle.rows.items c.loop-middle.middle (omega (arith, len, c.loop-middle-test.false)) c.loop-middle.invariant
