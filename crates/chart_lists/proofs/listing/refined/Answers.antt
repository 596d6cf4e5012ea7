use Rattle.std.proofs.Common.{◌≡◌, ◌&&◌, IfOk, List, ℕ, Option, true, false, is_some, subst, sym, ◌∙◌}
use Rattle.std.specs.Str.{bytes_eq}
use Rattle.chart_lists.proofs.ListLaws.{refined_here, refined_past}
use Rattle.chart_lists.proofs.listing.refined.Goals as goal

pub returns-then-is_refined : goal.returns-then-is_refined
returns-then-is_refined c =
    let so : (bytes_eq c.decl-item.result.name c.args.instance.now && is_some c.decl-item.result.refined) ≡ true = sym c.is_refined.ensures ∙ c.if-is_refined.true in
    subst (λ (o : Option (List ℕ)). IfOk c.copy_name.result (λ chart. chart ≡ o)) (refined_here c.args.decls.now c.loop-decl.decl-index c.decl-item.result c.args.instance.now c.loop-decl-test.true c.decl-item.is so c.loop-decl.invariant) c.copy_name.ensures

pub loop-decl-preserved : goal.loop-decl-preserved
loop-decl-preserved c =
    let so : (bytes_eq c.decl-item.result.name c.args.instance.now && is_some c.decl-item.result.refined) ≡ false = sym c.is_refined.ensures ∙ c.if-is_refined.false in
    refined_past c.args.decls.now c.loop-decl.decl-index c.decl-item.result c.args.instance.now c.loop-decl-test.true c.decl-item.is so c.loop-decl.invariant
