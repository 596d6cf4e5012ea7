-- What holds of each passage of a text holds of each part of it; and, where it asks of a standing no more than that it is at one instance,
-- of the same text at another standing.
use Rattle.std.proofs.Common.{◌≡◌, ◌&&◌, ℕ, Bool, true, false, List, [], ◌∷◌, ◌++◌, refl}
use Rattle.chart_text.specs.Texts.{Standing, Passage, a_statement, an_item, an_operand, Scope, behind_colon, form_text, in_column, inside, items_text, operand_held, operands_text, statement_held, statements_text}
use Rattle.chart_text.specs.WellFormed.{Each, are_well_formed_events, is_at_one, is_well_formed_event, is_well_formed_item}
use Rattle.msc_base.specs.declared.place.Place.{Place}
use Rattle.msc_tree.specs.declared.chart.Cover.TheVariants.{All, Listed}
use Rattle.msc_tree.specs.Statements.{placed, Form, Single, Coregion, Condition, Inline, Refer, Stop, Items, no_items, item_and, Operand, InColumn, Outside, Operands, no_operands, operand_and, Statement, Column, Covered, Heading, Ended, Statements, no_statements, statement_and}

-- the other is at one instance where the first is
abbrev pub IsNoLess : Standing → Standing → Type 0
IsNoLess s t = is_at_one s.side ≡ true → is_at_one t.side ≡ true

-- it asks of a standing no more
pub record IsMovable (P : Passage → Type 0) : Type 0 where
  pub item : (s t : Standing) (place : Place) (f : Form) → IsNoLess s t → P (an_item s place f) → P (an_item t place f)
  pub statement : (m n : ℕ) (v w : Scope) (x : Statement) → P (a_statement m v x) → P (a_statement n w x)
  pub operand : (s t : Standing) (x : Operand) → P (an_operand s x) → P (an_operand t x)

-- ---- two tests

pub both : (a b : Bool) → a ≡ true → b ≡ true → (a && b) ≡ true
both true b h k = k
both false b h k = cc

pub left_test : (a b : Bool) → (a && b) ≡ true → a ≡ true
left_test true b h = refl
left_test false b h = h

pub right_test : (a b : Bool) → (a && b) ≡ true → b ≡ true
right_test true b h = h
right_test false b h = cc

-- that a text is well formed
pub formed_item : (s t : Standing) (f : Form) → IsNoLess s t → is_well_formed_item s.side f ≡ true → is_well_formed_item t.side f ≡ true
formed_item s t (Single e) b h =
    let own = is_well_formed_event e in
    both (is_at_one t.side) own (b (left_test (is_at_one s.side) own h)) (right_test (is_at_one s.side) own h)
formed_item s t (Coregion es) b h =
    let own = are_well_formed_events es in
    both (is_at_one t.side) own (b (left_test (is_at_one s.side) own h)) (right_test (is_at_one s.side) own h)
formed_item s t (Inline head held) b h = h
formed_item s t (Condition names shared) b h = h
formed_item s t (Refer reference) b h = h
formed_item s t Stop b h = h

module _ (P : Passage → Type 0) where
  pub each_left : (xs ys : List Passage) → Each P (xs ++ ys) → Each P xs
  each_left [] ys h = tt
  each_left (x ∷ xs) ys h = (h.0, each_left xs ys h.1)

  pub each_right : (xs ys : List Passage) → Each P (xs ++ ys) → Each P ys
  each_right [] ys h = h
  each_right (x ∷ xs) ys h = each_right xs ys h.1

  pub each_behind : (xs ys : List Passage) → Each P xs → Each P ys → Each P (xs ++ ys)
  each_behind [] ys h k = k
  each_behind (x ∷ xs) ys h k = (h.0, each_behind xs ys h.1 k)

module _ (P : Passage → Type 0) (movable : IsMovable P) where
  mutual
    pub form_moved : (s t : Standing) (f : Form) → IsNoLess s t → Each P (form_text s f) → Each P (form_text t f)
    form_moved s t (Inline head held) b h = operands_moved (inside s head.shared) (inside t head.shared) held b h
    form_moved s t (Single e) b h = tt
    form_moved s t (Coregion es) b h = tt
    form_moved s t (Condition names shared) b h = tt
    form_moved s t (Refer reference) b h = tt
    form_moved s t Stop b h = tt

    pub items_moved : (s t : Standing) (xs : Items) → IsNoLess s t → Each P (items_text s xs) → Each P (items_text t xs)
    items_moved s t no_items b h = tt
    items_moved s t (item_and (placed place f) xs) b h =
        let own = each_left P (an_item s place f ∷ form_text s f) (items_text s xs) h in
        let rest = each_right P (an_item s place f ∷ form_text s f) (items_text s xs) h in
        each_behind P (an_item t place f ∷ form_text t f) (items_text t xs) (movable.item s t place f b own.0, form_moved s t f b own.1) (items_moved s t xs b rest)

    pub operands_moved : (s t : Standing) (xs : Operands) → IsNoLess s t → Each P (operands_text s xs) → Each P (operands_text t xs)
    operands_moved s t no_operands b h = tt
    operands_moved s t (operand_and x xs) b h =
        let own = each_left P (an_operand s x ∷ operand_held s x) (operands_text s xs) h in
        let rest = each_right P (an_operand s x ∷ operand_held s x) (operands_text s xs) h in
        each_behind P (an_operand t x ∷ operand_held t x) (operands_text t xs) (movable.operand s t x own.0, operand_moved s t x b own.1) (operands_moved s t xs b rest)

    pub operand_moved : (s t : Standing) (x : Operand) → IsNoLess s t → Each P (operand_held s x) → Each P (operand_held t x)
    operand_moved s t (InColumn held) b h = items_moved s t held b h
    operand_moved s t (Outside held) b h = statements_moved s.depth t.depth s.scope t.scope held h

    statement_moved : (m n : ℕ) (v w : Scope) (x : Statement) → Each P (statement_held m v x) → Each P (statement_held n w x)
    statement_moved m n v w (Column decl held) h =
        items_moved (record { depth = m; side = in_column decl.name; scope = v }) (record { depth = n; side = in_column decl.name; scope = w }) held (λ e. e) h
    statement_moved m n v w (Covered All held) h =
        items_moved (record { depth = m; side = behind_colon v All; scope = v }) (record { depth = n; side = behind_colon w All; scope = w }) held (λ e. e) h
    statement_moved m n v w (Covered (Listed names) held) h =
        items_moved (record { depth = m; side = behind_colon v (Listed names); scope = v }) (record { depth = n; side = behind_colon w (Listed names); scope = w }) held (λ e. e) h
    statement_moved m n v w (Heading decl) h = tt
    statement_moved m n v w (Ended name) h = tt

    pub statements_moved : (m n : ℕ) (v w : Scope) (xs : Statements) → Each P (statements_text m v xs) → Each P (statements_text n w xs)
    statements_moved m n v w no_statements h = tt
    statements_moved m n v w (statement_and x xs) h =
        let own = each_left P (a_statement m v x ∷ statement_held m v x) (statements_text m v xs) h in
        let rest = each_right P (a_statement m v x ∷ statement_held m v x) (statements_text m v xs) h in
        each_behind P (a_statement n w x ∷ statement_held n w x) (statements_text n w xs) (movable.statement m n v w x own.0, statement_moved m n v w x own.1) (statements_moved m n v w xs rest)
