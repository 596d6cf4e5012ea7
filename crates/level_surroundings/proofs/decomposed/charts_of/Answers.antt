use Rattle.std.proofs.Common.{◌≡◌, ◌∷◌, ◌-◌, ◌<◌, List, arith, drop, length, subst, sym}
use Rattle.msc_tree.specs.declared.chart.Decl.{Decl}
use Rattle.level_surroundings.specs.DecomposedInstances.{HasCharts}
use Rattle.level_surroundings.proofs.Dropped.{drop_less, item_at}
use Rattle.level_surroundings.proofs.decomposed.charts_of.Goals as goal

pub loop-index-preserved : goal.loop-index-preserved
loop-index-preserved c =
    let decls = c.args.decls.now in
    let below : c.loop-index.index - 1 < length decls = omega (arith, c.loop-index.invariant.within) in
    let before : drop (c.loop-index.index - 1) decls ≡ c.index-decls-index.result ∷ drop c.loop-index.index decls =
    drop_less decls (c.loop-index.index - 1) c.loop-index.index c.index-decls-index.result (item_at decls (c.loop-index.index - 1) c.index-decls-index.result below c.index-decls-index.is) (omega arith) in
    record {
      within = omega (arith, c.loop-index.invariant.within);
      charts = subst (λ (ds : List Decl). HasCharts c.add_chart.new.charts ds) (sym before) (c.in_ok-add_chart.ensures (drop c.loop-index.index decls) c.loop-index.invariant.charts);
    }
