use Rattle.std.proofs.Common.{◌≡◌, ◌∙◌, ap, map, subst, sym, List}
use Rattle.msc_tree.specs.Statements.{Form, Inline, InlineHead, operands}
use Rattle.msc_tree.specs.Views.{inline_view, operand_view}
use Rattle.msc_tree.specs.declared.statement.RawInline.{RawInline}
use Rattle.msc_tree.specs.declared.statement.RawOperand.{RawOperand}
use Rattle.shared_parts.specs.PartRules.{AreAlike}
use Rattle.shared_parts.proofs.SameFacts.{inline_is, inlines_are}
use Rattle.shared_parts.proofs.alike.alike_inlines.Goals as goal

abbrev head_of : RawInline → InlineHead
head_of i = record { form = i.form; lower = i.lower; upper = i.upper; name = i.name; shared = i.shared }

pub returns : goal.returns
returns c =
    let a : inline_view c.args.a.now ≡ Inline (head_of c.args.a.now) (operands (map operand_view c.as_slice.result.now)) =
    inline_is c.args.a.now ∙ ap (λ (l : List RawOperand). Inline (head_of c.args.a.now) (operands (map operand_view l))) (sym c.as_slice.ensures.value) in
    let b : inline_view c.args.b.now ≡ Inline (head_of c.args.b.now) (operands (map operand_view c.as_slice-2.result.now)) =
    inline_is c.args.b.now ∙ ap (λ (l : List RawOperand). Inline (head_of c.args.b.now) (operands (map operand_view l))) (sym c.as_slice-2.ensures.value) in
    let are = inlines_are (head_of c.args.a.now) (head_of c.args.b.now) (operands (map operand_view c.as_slice.result.now)) (operands (map operand_view c.as_slice-2.result.now)) in (
      λ t. let all = c.all_three.ensures.0 t in let bounds = c.same_bounds.ensures.0 all.1 in
          subst (λ (f : Form). AreAlike f (inline_view c.args.b.now)) (sym a) (subst (λ (g : Form). AreAlike (Inline (head_of c.args.a.now) (operands (map operand_view c.as_slice.result.now))) g) (sym b)
          (are.0 (c.same_form.ensures.0 all.0, bounds.0, bounds.1, c.as_many.ensures.0 all.2))),
      λ h. let all = are.1 (subst (λ (f : Form). AreAlike f (Inline (head_of c.args.b.now) (operands (map operand_view c.as_slice-2.result.now)))) a (subst (λ (g : Form). AreAlike (inline_view c.args.a.now) g) b h)) in
          c.all_three.ensures.1 (c.same_form.ensures.1 all.0, c.same_bounds.ensures.1 (all.1, all.2), c.as_many.ensures.1 all.3),
    )
