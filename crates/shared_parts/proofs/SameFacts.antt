-- Forms and expressions that are alike, by their fields.
use Rattle.std.proofs.Common.{◌≡◌, ◌↔◌, IsTrue, Bool, Vec, List, [], ◌∷◌, length, map, refl, sym, ap, ap₂, ◌∙◌}
use Rattle.std.specs.Global.{Global}
use Rattle.msc_tree.specs.Expressions.{Expression, Alt, Par, Seq, expressions}
use Rattle.msc_tree.specs.Statements.{Form, InlineHead, Inline, Item, Operand, Operands, Statement, Refer, Reference, operands}
use Rattle.msc_tree.specs.Views.{expression_step, expression_view, form_step, inline_step, inline_view, item_step, operand_step, operand_view, statement_step}
use Rattle.msc_tree.specs.declared.expression.RefExpr.{RefExpr, fold-roll-RefExpr}
use Rattle.msc_tree.specs.declared.expression.RefExpr.TheOpen.{RefExpr-F}
use Rattle.msc_tree.specs.declared.expression.RefExpr.TheVariants as raw
use Rattle.msc_tree.specs.declared.statement.RawInline.{RawInline, fold_out-RawInline}
use Rattle.msc_tree.specs.declared.statement.RawOperand.{RawOperand}
use Rattle.level_pieces.proofs.ReadLaws.{operands_count}
use Rattle.msc_meaning.specs.Levels.{operand_number}
use Rattle.shared_parts.specs.PartRules.{AreAlike, AreAlikeJoins, inlines, references}

pub inlines_are : (head other : InlineHead) (held others : Operands)
    → ((head.form ≡ other.form) × (head.lower ≡ other.lower) × (head.upper ≡ other.upper) × (operand_number held ≡ operand_number others)) ↔ AreAlike (Inline head held) (Inline other others)
inlines_are head other held others = (λ h. inlines h.0 h.1 h.2 h.3, of)
  where
    of : AreAlike (Inline head held) (Inline other others) → (head.form ≡ other.form) × (head.lower ≡ other.lower) × (head.upper ≡ other.upper) × (operand_number held ≡ operand_number others)
    of (inlines form lower upper number) = (form, lower, upper, number)

pub references_are : (reference other : Reference) → ((reference.expression ≡ other.expression) × AreAlikeJoins reference.joins other.joins) ↔ AreAlike (Refer reference) (Refer other)
references_are reference other = (λ h. references h.0 h.1, of)
  where
    of : AreAlike (Refer reference) (Refer other) → (reference.expression ≡ other.expression) × AreAlikeJoins reference.joins other.joins
    of (references expression joins) = (expression, joins)

-- ---- expressions of several parts

parts_are : (xs ys : List Expression) → expressions xs ≡ expressions ys → xs ≡ ys
parts_are [] [] e = refl
parts_are [] (y ∷ ys) e = cc
parts_are (x ∷ xs) [] e = cc
parts_are (x ∷ xs) (y ∷ ys) e = ap₂ (λ (a : Expression) (l : List Expression). a ∷ l) (let h : x ≡ y = cc in h) (parts_are xs ys (let t : expressions xs ≡ expressions ys = cc in t))

pub alt_is : (parts : Vec RefExpr Global) → expression_view (raw.Alt parts) ≡ Alt (expressions (map expression_view parts.items))
alt_is parts = ap expression_view (sym (raw.rolls-Alt parts)) ∙ fold-roll-RefExpr Expression expression_step (RefExpr-F.Alt parts)

pub par_is : (parts : Vec RefExpr Global) → expression_view (raw.Par parts) ≡ Par (expressions (map expression_view parts.items))
par_is parts = ap expression_view (sym (raw.rolls-Par parts)) ∙ fold-roll-RefExpr Expression expression_step (RefExpr-F.Par parts)

pub seq_is : (parts : Vec RefExpr Global) → expression_view (raw.Seq parts) ≡ Seq (expressions (map expression_view parts.items))
seq_is parts = ap expression_view (sym (raw.rolls-Seq parts)) ∙ fold-roll-RefExpr Expression expression_step (RefExpr-F.Seq parts)

module _ (e : Expression) (b : Bool) (xs ys : List Expression) (same : IsTrue b ↔ (xs ≡ ys)) where
  pub alt_same : e ≡ Alt (expressions xs) → IsTrue b ↔ (e ≡ Alt (expressions ys))
  alt_same is = (
    λ t. is ∙ ap (λ (l : List Expression). Alt (expressions l)) (same.0 t),
    λ h. same.1 (parts_are xs ys (let all : Alt (expressions xs) ≡ Alt (expressions ys) = sym is ∙ h in let k : expressions xs ≡ expressions ys = cc in k)),
  )

  pub par_same : e ≡ Par (expressions xs) → IsTrue b ↔ (e ≡ Par (expressions ys))
  par_same is = (
    λ t. is ∙ ap (λ (l : List Expression). Par (expressions l)) (same.0 t),
    λ h. same.1 (parts_are xs ys (let all : Par (expressions xs) ≡ Par (expressions ys) = sym is ∙ h in let k : expressions xs ≡ expressions ys = cc in k)),
  )

  pub seq_same : e ≡ Seq (expressions xs) → IsTrue b ↔ (e ≡ Seq (expressions ys))
  seq_same is = (
    λ t. is ∙ ap (λ (l : List Expression). Seq (expressions l)) (same.0 t),
    λ h. same.1 (parts_are xs ys (let all : Seq (expressions xs) ≡ Seq (expressions ys) = sym is ∙ h in let k : expressions xs ≡ expressions ys = cc in k)),
  )

-- ---- how many operands there are

pub many_are : (xs ys : List RawOperand) → (length xs ≡ length ys) ↔ (operand_number (operands (map operand_view xs)) ≡ operand_number (operands (map operand_view ys)))
many_are xs ys =
    let a : length xs ≡ operand_number (operands (map operand_view xs)) = operands_count xs (operands (map operand_view xs)) refl in
    let b : length ys ≡ operand_number (operands (map operand_view ys)) = operands_count ys (operands (map operand_view ys)) refl in
    (λ e. sym a ∙ e ∙ b, λ e. a ∙ e ∙ sym b)

-- an inline expression by its fields
pub inline_is : (i : RawInline) → inline_view i ≡ Inline (record { form = i.form; lower = i.lower; upper = i.upper; name = i.name; shared = i.shared }) (operands (map operand_view i.operands.items))
inline_is i = fold_out-RawInline Form Operand Statement Form Item form_step operand_step statement_step inline_step item_step i
