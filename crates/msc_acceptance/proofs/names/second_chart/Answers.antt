use Rattle.std.proofs.Common.{rules, ◌≡◌, ◌+◌, [], List, ℕ, Bool, drop, map, ap, subst, sym, ◌∙◌}
use Rattle.std.specs.List.{list_any}
use Rattle.std.specs.Str.{bytes_eq}
use Rattle.msc_base.specs.NameTables.{with_name}
use Rattle.msc_base.specs.Places.{earliest_if}
use Rattle.msc_base.proofs.Narrowing.{Narrows}
use Rattle.msc_acceptance.specs.Rules.{IsNamedAgain}
use Rattle.msc_tree.specs.Views.{chart_view}
use Rattle.msc_acceptance.proofs.WalkLaws.{walk_step}
use Rattle.msc_acceptance.proofs.names.second_chart.Goals as goal

pub loop-chart-preserved : goal.loop-chart-preserved
loop-chart-preserved c =
    let list = c.args.charts.now in
    let seen : List (List ℕ) = c.loop-chart.seen in
    let own : List ℕ = c.chart-item.result.name in
    let next : c.earlier_if-best.result ≡ earliest_if (list_any (bytes_eq own) seen) c.loop-chart.best c.chart-item.result.place =
    c.earlier_if-best.ensures ∙ ap (λ (b : Bool). earliest_if b c.loop-chart.best c.chart-item.result.place) (c.has-again.ensures.test ∙ ap (λ (n : List ℕ). list_any (bytes_eq n) seen) c.bytes.ensures.bytes) in
    let added : c.add.new.self ≡ with_name seen c.bytes-in-loop-chart.result.now = search rules in
    let more : c.add.new.self ≡ with_name seen own = added ∙ ap (with_name seen) c.bytes-in-loop-chart.ensures.bytes in
    subst (λ (t : List (List ℕ)). Narrows (IsNamedAgain [] (map chart_view list)) (IsNamedAgain t (map chart_view (drop (c.loop-chart.chart-index + 1) list))) c.earlier_if-best.result) (sym more)
    (walk_step (IsNamedAgain [] (map chart_view list)) (IsNamedAgain seen) (IsNamedAgain (with_name seen own) (map chart_view (drop (c.loop-chart.chart-index + 1) list))) list c.loop-chart.chart-index c.chart-item.result
    (list_any (bytes_eq own) seen) c.loop-chart.best c.earlier_if-best.result c.loop-chart-test.true c.chart-item.is (λ q h. h) (λ q h. h) next c.loop-chart.invariant)
