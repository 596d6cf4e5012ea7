use Rattle.std.proofs.Common.{rules, arith, ◌≡◌, List, ℕ, sym, subst, take}
use Rattle.msc_meaning.specs.Views.{body_view, table_view}
use Rattle.gate_ends.specs.FoundEnds.{AreAll, GoesTo, level_names}
use Rattle.gate_tables.specs.ChartTables.{HasFacts}
use Rattle.gate_tables.specs.KeptMaps.{kept_gate}
use Rattle.gate_ends.specs.NameViews.{names_view}
use Rattle.gate_tables.proofs.ChartTables.{all_more, all_stay, grows_on, no_body, on_both, one_at, with_body}
use Rattle.gate_tables.proofs.tables.+tables.Goals as goal

pub add_chart-returns-in-None-clause-grows : goal.add_chart-returns-in-None-clause-grows
add_chart-returns-in-None-clause-grows t c =
    let table = table_view c.args.table.charts.now in
    on_both c.set.result (λ at has. no_body table c.args.table.depth c.args.known.now c.set.new.self c.args.name.now (kept_gate c.new.result) c.requires.known c.new.ensures (sym c.in-None.ensures) at has) c.set.ensures.at c.set.ensures.has

pub add_body-returns-clause-grows : goal.add_body-returns-clause-grows
add_body-returns-clause-grows t c =
    let table = table_view c.args.table.charts.now in
    let known = c.add_charts.new.known in
    let names : names_view c.as_slice.result.now ≡ level_names (body_view c.args.body.now) = search rules in
    let all : AreAll (HasFacts known) (level_names (body_view c.args.body.now)) = subst (λ (ns : List (List ℕ)). AreAll (HasFacts known) ns) names c.in_ok-add_charts.ensures.has in
    on_both c.set.result
    (λ at has. grows_on table c.args.table.depth c.args.known.now known c.set.new.self c.in_ok-add_charts.ensures.grows
    (with_body table c.args.table.depth c.args.depth known c.set.new.self c.args.name.now (body_view c.args.body.now) (kept_gate c.in_ok-kept.kept) c.in_ok-add_charts.ensures.grows.right c.requires.at c.requires.low c.requires.deep all c.in_ok-kept.ensures at has))
    c.set.ensures.at c.set.ensures.has

pub add_charts-add_chart-requires : goal.add_charts-add_chart-requires
add_charts-add_chart-requires t c =
    let table = table_view c.args.table.charts.now in
    let here : GoesTo table c.args.depth c.name-item.result.now = one_at (GoesTo table c.args.depth) c.args.names.now c.loop-name.name-index c.name-item.result c.loop-name-test.true c.name-item.is c.requires.deep in
    (omega (arith, c.decreases), (c.requires.named, (omega (arith, c.requires.low), (subst (λ (n : List ℕ). GoesTo table c.args.depth n) (sym c.bytes.ensures.bytes) here, c.loop-name.invariant.grows.right))))

pub add_charts-loop-name-preserved : goal.add_charts-loop-name-preserved
add_charts-loop-name-preserved t c =
    let table = table_view c.args.table.charts.now in
    let known = c.add_chart.new.known in
    let i = c.loop-name.name-index in
    record {
      grows = grows_on table c.args.table.depth c.args.known.now c.loop-name.known known c.loop-name.invariant.grows c.in_ok-add_chart.ensures.grows;
      has = all_more (HasFacts known) c.args.names.now i c.name-item.result c.loop-name-test.true c.name-item.is (all_stay table c.args.table.depth c.loop-name.known known (names_view (take i c.args.names.now)) c.in_ok-add_chart.ensures.grows c.loop-name.invariant.has)
          (subst (HasFacts known) c.bytes.ensures.bytes c.in_ok-add_chart.ensures.has);
    }
