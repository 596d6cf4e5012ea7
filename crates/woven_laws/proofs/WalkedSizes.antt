-- What statements count, level by level: the same as passage by passage.
use Rattle.std.proofs.Common.{◌≡◌, ℕ, ◌+◌, ◌∷◌, refl, arith}
use Rattle.chart_forms.specs.ChartSizes.{event_size, events_size, item_size}
use Rattle.chart_text.proofs.GatheringLaws.{summed_append}
use Rattle.chart_text.specs.Gathering.{summed}
use Rattle.chart_text.specs.Texts.{Passage, Standing, a_head, a_statement, an_item, an_operand, Scope, form_text, inside, items_text, operand_held, operands_text, statement_held, statements_text}
use Rattle.msc_base.specs.declared.place.Place.{Place}
use Rattle.msc_tree.specs.Expressions.{Expression}
use Rattle.msc_tree.specs.Statements.{placed, Form, Single, Coregion, Condition, Inline, Refer, Stop, Items, no_items, item_and, Operand, InColumn, Outside, Operands, no_operands, operand_and, Statement, Column, Covered, Heading, Ended, Statements, no_statements, statement_and}

-- what the expression of a reference counts
module _ (count : Expression → ℕ) where
  abbrev mutual
    pub form_size : Form → ℕ
    form_size (Inline head held) = 2 + operands_size held
    form_size (Single e) = event_size e
    form_size (Coregion es) = 1 + events_size es
    form_size (Condition names shared) = 0
    form_size (Refer reference) = 2 + count reference.expression
    form_size Stop = 0

    pub items_size : Items → ℕ
    items_size no_items = 0
    items_size (item_and (placed place form) xs) = form_size form + items_size xs

    pub operand_size : Operand → ℕ
    operand_size (InColumn held) = items_size held
    operand_size (Outside held) = statements_size held

    pub operands_size : Operands → ℕ
    operands_size no_operands = 0
    operands_size (operand_and x xs) = 1 + operand_size x + operands_size xs

    pub statement_size : Statement → ℕ
    statement_size (Column decl held) = items_size held
    statement_size (Covered cover held) = items_size held
    statement_size (Heading decl) = 0
    statement_size (Ended name) = 0

    pub statements_size : Statements → ℕ
    statements_size no_statements = 0
    statements_size (statement_and x xs) = statement_size x + statements_size xs

  -- ---- by passages

  -- a reference counts 2 and its expression
  abbrev pub reference_count : Form → ℕ
  reference_count (Refer reference) = 2 + count reference.expression
  reference_count (Single e) = 0
  reference_count (Coregion es) = 0
  reference_count (Condition names shared) = 0
  reference_count (Inline head held) = 0
  reference_count Stop = 0

  abbrev pub passage_count : Passage → ℕ
  passage_count (a_head decl) = 0
  passage_count (a_statement depth scope x) = 0
  passage_count (an_item s place form) = item_size form + reference_count form
  passage_count (an_operand s x) = 1

  mutual
    form_walked : (s : Standing) (place : Place) (f : Form) → summed passage_count (an_item s place f ∷ form_text s f) ≡ form_size f
    form_walked s place (Single e) = omega arith
    form_walked s place (Coregion es) = omega arith
    form_walked s place (Condition names shared) = omega arith
    form_walked s place (Inline head held) = let e = operands_walked (inside s head.shared) held in omega (arith, e)
    form_walked s place (Refer reference) = omega arith
    form_walked s place Stop = omega arith

    items_walked : (s : Standing) (xs : Items) → summed passage_count (items_text s xs) ≡ items_size xs
    items_walked s no_items = refl
    items_walked s (item_and (placed place f) xs) =
        let e = summed_append passage_count (an_item s place f ∷ form_text s f) (items_text s xs) in
        let h = form_walked s place f in
        let r = items_walked s xs in
        omega (arith, e, h, r)

    operands_walked : (s : Standing) (xs : Operands) → summed passage_count (operands_text s xs) ≡ operands_size xs
    operands_walked s no_operands = refl
    operands_walked s (operand_and x xs) =
        let e = summed_append passage_count (an_operand s x ∷ operand_held s x) (operands_text s xs) in
        let h = operand_walked s x in
        let r = operands_walked s xs in
        omega (arith, e, h, r)

    operand_walked : (s : Standing) (x : Operand) → summed passage_count (operand_held s x) ≡ operand_size x
    operand_walked s (InColumn held) = items_walked s held
    operand_walked s (Outside held) = statements_walked s.depth s.scope held

    statement_walked : (depth : ℕ) (scope : Scope) (x : Statement) → summed passage_count (statement_held depth scope x) ≡ statement_size x
    statement_walked depth scope (Column decl held) = items_walked _ held
    statement_walked depth scope (Covered cover held) = items_walked _ held
    statement_walked depth scope (Heading decl) = refl
    statement_walked depth scope (Ended name) = refl

    pub statements_walked : (depth : ℕ) (scope : Scope) (xs : Statements) → summed passage_count (statements_text depth scope xs) ≡ statements_size xs
    statements_walked depth scope no_statements = refl
    statements_walked depth scope (statement_and x xs) =
        let e = summed_append passage_count (a_statement depth scope x ∷ statement_held depth scope x) (statements_text depth scope xs) in
        let h = statement_walked depth scope x in
        let r = statements_walked depth scope xs in
        omega (arith, e, h, r)
