use Rattle.std.proofs.Common.{sym, subst, List}
use Rattle.msc_tree.specs.Statements.{Reference}
use Rattle.msc_tree.specs.Views.{reference_view}
use Rattle.msc_tree.specs.declared.reference.Join.{Join}
use Rattle.shared_parts.specs.PartRules.{AreAlikeJoins}
use Rattle.shared_parts.proofs.SameFacts.{references_are}
use Rattle.shared_parts.proofs.alike.alike_references.Goals as goal

pub returns-then-same_expression : goal.returns-then-same_expression
returns-then-same_expression c =
    let a : Reference = reference_view c.args.a.now in
    let b : Reference = reference_view c.args.b.now in
    let are = references_are a b in (
      λ t. are.0 (
        c.same_expression.ensures.0 c.if-same_expression.true,
        subst (λ (js : List Join). AreAlikeJoins js b.joins) c.as_slice.ensures (subst (λ (ks : List Join). AreAlikeJoins c.as_slice.result.now ks) c.as_slice-then-same_expression.ensures (c.same_joins.ensures.0 t)),
      ),
      λ h. c.same_joins.ensures.1
          (subst (λ (js : List Join). AreAlikeJoins js c.as_slice-then-same_expression.result.now) (sym c.as_slice.ensures) (subst (λ (ks : List Join). AreAlikeJoins a.joins ks) (sym c.as_slice-then-same_expression.ensures) (are.1 h).1)),
    )
