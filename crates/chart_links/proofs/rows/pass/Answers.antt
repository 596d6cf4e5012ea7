use Rattle.chart_links.proofs.RowFacts.{passed_all}
use Rattle.std.proofs.Common.{◌≡◌, length, rules, arith}
use Rattle.chart_links.proofs.rows.pass.Goals as goal

pub returns : goal.returns
returns c =
    let len : c.len-number-end.result ≡ length c.args.rows.now.items = search rules in
    passed_all c.args.middle c.loop-number.number c.args.through.now c.args.rows.now.items c.loop-number.rows.items (omega (arith, len, c.loop-number-test.false)) c.loop-number.invariant.len c.loop-number.invariant.done
