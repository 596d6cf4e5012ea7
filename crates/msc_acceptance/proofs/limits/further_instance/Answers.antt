use Rattle.std.proofs.Common.{rules, ◌≡◌, ◌+◌, [], List, ℕ, Bool, drop, fold, length, map, ap, ap₂, subst, sym, ◌∙◌}
use Rattle.msc_base.specs.NameTables.{with_name}
use Rattle.msc_base.specs.Places.{earliest_if}
use Rattle.msc_base.specs.declared.limits.TheConstants.Limits.{INSTANCES}
use Rattle.msc_base.proofs.Narrowing.{Narrows}
use Rattle.msc_instances.specs.Instances.{instances}
use Rattle.msc_acceptance.specs.Rules.{HasFurther, passes}
use Rattle.msc_tree.specs.Views.{chart_view}
use Rattle.msc_acceptance.proofs.ChartLists.{own_of}
use Rattle.msc_acceptance.proofs.WalkLaws.{walk_step}
use Rattle.msc_acceptance.proofs.limits.further_instance.Goals as goal

pub loop-chart-preserved : goal.loop-chart-preserved
loop-chart-preserved c =
    let list = c.args.charts.now in
    let seen : List (List ℕ) = c.loop-chart.seen in
    let own : List (List ℕ) = instances (chart_view c.chart-item.result) in
    let names : c.as_slice.result.now ≡ own = c.as_slice.ensures ∙ own_of instances list c.args.lists.now c.loop-chart.chart-index c.loop-chart.number c.chart-item.result c.index-lists-number.result c.index-lists-number.result c.requires c.loop-chart.invariant.number c.loop-chart-test.true c.chart-item.is c.index-lists-number.is in
    let added : c.add_names.new.table ≡ fold with_name seen c.as_slice.result.now = search rules in
    let more : c.add_names.new.table ≡ fold with_name seen own = added ∙ ap (λ (ns : List (List ℕ)). fold with_name seen ns) names in
    let so : c.has_passed-so.result ≡ passes INSTANCES (length seen) (length (fold with_name seen own)) =
    c.has_passed-so.ensures ∙ ap₂ (λ (a b : ℕ). passes INSTANCES a b) c.len-before.ensures (ap length more) in
    let next : c.earlier_if-best.result ≡ earliest_if (passes INSTANCES (length seen) (length (fold with_name seen own))) c.loop-chart.best c.chart-item.result.place =
    c.earlier_if-best.ensures ∙ ap (λ (b : Bool). earliest_if b c.loop-chart.best c.chart-item.result.place) so in
    let narrows = subst (λ (t : List (List ℕ)). Narrows (HasFurther [] (map chart_view list)) (HasFurther t (map chart_view (drop (c.loop-chart.chart-index + 1) list))) c.earlier_if-best.result) (sym more)
    (walk_step (HasFurther [] (map chart_view list)) (HasFurther seen) (HasFurther (fold with_name seen own) (map chart_view (drop (c.loop-chart.chart-index + 1) list))) list c.loop-chart.chart-index c.chart-item.result
    (passes INSTANCES (length seen) (length (fold with_name seen own))) c.loop-chart.best c.earlier_if-best.result c.loop-chart-test.true c.chart-item.is (λ q h. h) (λ q h. h) next c.loop-chart.invariant.narrows) in
    record { number = ap (λ (n : ℕ). n + 1) c.loop-chart.invariant.number; narrows = narrows }
