use Rattle.std.proofs.Common.{◌↔◌, IfOk, IsTrue, List, ℕ, Bool, Option, subst, sym}
use Rattle.msc_meaning.specs.ItemViews.{items_view}
use Rattle.msc_meaning.specs.Views.{table_view}
use Rattle.refinement_rules.specs.Judging.{MismatchBy, OfRefining}
use Rattle.refinement_rules.proofs.mismatching.decl_differs.Goals as goal

pub returns-in-Some : goal.returns-in-Some
returns-in-Some c =
    subst (λ (o : Option (List ℕ)). IfOk c.differs.result (λ (told : Bool). IsTrue told ↔ OfRefining (MismatchBy (table_view c.args.table.charts.now) (items_view c.args.items.now) c.args.decl.now.name) o)) (sym c.in-Some.is) c.differs.ensures
