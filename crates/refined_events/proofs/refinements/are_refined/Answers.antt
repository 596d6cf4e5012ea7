use Rattle.std.proofs.Common.{◌≡◌, ◌∙◌, None, sym}
use Rattle.refined_events.proofs.Unrefined.{end_unrefined, none_named, none_refined, some_none}
use Rattle.refined_events.proofs.Walks.{decl_among}
use Rattle.refined_events.proofs.refinements.are_refined.Goals as goal

pub returns-then-is_some-clause-some : goal.returns-then-is_some-clause-some
returns-then-is_some-clause-some c = λ e none.
    let is : c.decl-item.result.refined ≡ None = none_named c.args.decls.now c.decl-item.result none (decl_among c.args.decls.now c.loop-decl.decl-index c.decl-item.result c.loop-decl-test.true c.decl-item.is) in
    some_none c.decl-item.result.refined (sym c.is_some.ensures ∙ c.if-is_some.true) is

pub returns-clause-none : goal.returns-clause-none
returns-clause-none c = λ e. none_refined c.args.decls.now (c.loop-decl.invariant (end_unrefined c.args.decls.now c.loop-decl.decl-index c.loop-decl-test.false))
