-- What is left of the parts of items and operands behind some of them.
use Rattle.std.specs.Prelude.{◌≡◌, ◌≤◌, ◌<◌, ◌+◌, ◌++◌, ℕ, true, false, List, [], ◌∷◌, length}
use Rattle.std.proofs.Common.{◌∙◌, ap, ap₂, arith, drop, get_or, refl, sym}
use Rattle.std.proofs.lemmas.List.{drop_all}
use Rattle.list_facts.proofs.Reading.{drop_read}
use Rattle.msc_base.specs.declared.label.Pair.{Pair}
use Rattle.general_ordering.proofs.ViewFacts.{body_is, inline_is}
use Rattle.msc_meaning.specs.Bodies as body
use Rattle.msc_meaning.specs.Bodies.{Bodies, Coregion, Inline, Refer, Single, WovenItem, WovenItems, body_and, item_and, no_bodies, no_items}
use Rattle.msc_meaning.specs.ItemViews.{bodies_view, inline_view, items_view}
use Rattle.msc_meaning.specs.Refinements.{without_decomposed}
use Rattle.msc_meaning.specs.Tables.{Basic, Refinement}
use Rattle.msc_meaning.specs.Views.{body_view, item_view}
use Rattle.msc_meaning.specs.declared.body.Body.{Body, out-Body}
use Rattle.msc_meaning.specs.declared.body.InlineItem.{InlineItem, out-InlineItem}
use Rattle.msc_meaning.specs.declared.body.Item.{Item}
use Rattle.expansion_tree.specs.Expansions.{no_parts, part_and}
use Rattle.expansion_tree.specs.Numbered as numbered
use Rattle.expansion_tree.specs.Views.{expansion_view, expansions_view}
use Rattle.expansion_tree.specs.declared.tree.Expansion.{Expansion}
use Rattle.choice_parts.specs.ChoiceParts.{item_parts, items_parts, left_row_in, level_parts, operands_in, operands_parts, own_parts, pairs_in, part_behind, part_list, row_in, woven_parts}
use Rattle.chart_choices.specs.Making.{is_left}

abbrev items_of : body.Body → WovenItems
items_of (body.level cover held pairs) = held

-- ---- where a part is left

pub items_at : (items : List Item) (i : ℕ) (x : Item) (rest : List Expansion) (y : Expansion) (behind : List Expansion) (ps : List Pair) → i < length items → x ≡ get_or items i x → rest ≡ y ∷ behind
    → items_parts (items_view (drop i items)) (expansions_view rest) ps ≡ item_parts (item_view x) (expansion_view y) (expansions_view behind) ps ++ items_parts (items_view (drop (i + 1) items)) (expansions_view behind) ps
items_at items i x rest y behind ps l e h = ap₂ (λ (xs : List Item) (ys : List Expansion). items_parts (items_view xs) (expansions_view ys) ps) (drop_read items i x l e) h

pub operands_at : (bodies : List Body) (i : ℕ) (b : Body) (rest : List Expansion) (y : Expansion) (behind : List Expansion) → i < length bodies → b ≡ get_or bodies i b → rest ≡ y ∷ behind
    → operands_parts (bodies_view (drop i bodies)) (expansions_view rest) ≡ level_parts (body_view b) (expansion_view y) ++ operands_parts (bodies_view (drop (i + 1) bodies)) (expansions_view behind)
operands_at bodies i b rest y behind l e h = ap₂ (λ (bs : List Body) (ys : List Expansion). operands_parts (bodies_view bs) (expansions_view ys)) (drop_read bodies i b l e) h

pub parts_at : (ys : List Expansion) (i : ℕ) (y : Expansion) → i < length ys → y ≡ get_or ys i y → part_list (expansions_view (drop i ys)) ≡ expansion_view y ∷ part_list (expansions_view (drop (i + 1) ys))
parts_at ys i y l e = ap (λ (zs : List Expansion). part_list (expansions_view zs)) (drop_read ys i y l e)

-- of items without the events of decomposed instances
left_out : (rs : List Refinement) (x : WovenItem) (xs : WovenItems) → is_left rs x ≡ true → without_decomposed rs (item_and x xs) ≡ without_decomposed rs xs
left_out rs (Single n) xs e = rw e refl
left_out rs (Coregion ns) xs e = absurd cc
left_out rs (Inline form part operands) xs e = absurd cc
left_out rs (Refer part) xs e = absurd cc

left_in : (rs : List Refinement) (x : WovenItem) (xs : WovenItems) (y : numbered.Expansion) (ys : numbered.Expansions) (ps : List Pair) → is_left rs x ≡ false
    → items_parts (without_decomposed rs (item_and x xs)) (part_and y ys) ps ≡ item_parts x y ys ps ++ items_parts (without_decomposed rs xs) ys ps
left_in rs (Single n) xs y ys ps e = rw e refl
left_in rs (Coregion ns) xs y ys ps e = refl
left_in rs (Inline form part operands) xs y ys ps e = refl
left_in rs (Refer part) xs y ys ps e = refl

pub left_over : (rs : List Refinement) (items : List Item) (i : ℕ) (x : Item) (ys : numbered.Expansions) (ps : List Pair) → i < length items → x ≡ get_or items i x → is_left rs (item_view x) ≡ true
    → items_parts (without_decomposed rs (items_view (drop i items))) ys ps ≡ items_parts (without_decomposed rs (items_view (drop (i + 1) items))) ys ps
left_over rs items i x ys ps l e out = ap (λ (xs : List Item). items_parts (without_decomposed rs (items_view xs)) ys ps) (drop_read items i x l e) ∙ ap (λ (xs : WovenItems). items_parts xs ys ps) (left_out rs (item_view x) (items_view (drop (i + 1) items)) out)

pub left_at : (rs : List Refinement) (items : List Item) (i : ℕ) (x : Item) (rest : List Expansion) (y : Expansion) (behind : List Expansion) (ps : List Pair) → i < length items → x ≡ get_or items i x → is_left rs (item_view x) ≡ false → rest ≡ y ∷ behind
    → items_parts (without_decomposed rs (items_view (drop i items))) (expansions_view rest) ps ≡ item_parts (item_view x) (expansion_view y) (expansions_view behind) ps ++ items_parts (without_decomposed rs (items_view (drop (i + 1) items))) (expansions_view behind) ps
left_at rs items i x rest y behind ps l e out h = ap₂ (λ (xs : List Item) (ys : List Expansion). items_parts (without_decomposed rs (items_view xs)) (expansions_view ys) ps) (drop_read items i x l e) h ∙ left_in rs (item_view x) (items_view (drop (i + 1) items)) (expansion_view y) (expansions_view behind) ps out

-- ---- what levels and inline expressions have

pub level_items : (b : Body) (y : numbered.Expansion) (items : List Item) (row : List Expansion) (ps : List Pair) → items ≡ (out-Body b).items.items → expansions_view row ≡ row_in y → ps ≡ pairs_in y
    → level_parts (body_view b) y ≡ items_parts (items_view items) (expansions_view row) ps
level_items b y items row ps e r p =
    ap (λ (h : body.Body). level_parts h y) (body_is b) ∙ (ap (λ (xs : List Item). items_parts (items_view xs) (row_in y) (pairs_in y)) (sym e)
    ∙ (ap (λ (zs : numbered.Expansions). items_parts (items_view items) zs (pairs_in y)) (sym r) ∙ ap (λ (qs : List Pair). items_parts (items_view items) (expansions_view row) qs) (sym p)))

pub inline_parts : (i : InlineItem) (y : numbered.Expansion) (operands : List Expansion) (ys : numbered.Expansions) (ps : List Pair) → expansions_view operands ≡ operands_in (out-InlineItem i).form y
    → item_parts (inline_view i) y ys ps ≡ own_parts (out-InlineItem i).form (out-InlineItem i).place (expansions_view operands) (part_behind ys ps) ++ operands_parts (bodies_view (out-InlineItem i).operands.items) (expansions_view operands)
inline_parts i y operands ys ps e =
    ap (λ (x : WovenItem). item_parts x y ys ps) (inline_is i)
    ∙ ap (λ (zs : numbered.Expansions). own_parts (out-InlineItem i).form (out-InlineItem i).place zs (part_behind ys ps) ++ operands_parts (bodies_view (out-InlineItem i).operands.items) zs) (sym e)

-- those of a basic chart, where it has no refining charts, and where it has
pub whole_parts : (rs : List Refinement) (b : Body) (y : numbered.Expansion) → rs ≡ [] → woven_parts rs (Basic (body_view b)) y ≡ level_parts (body_view b) y
whole_parts rs b y e = ap (λ (qs : List Refinement). woven_parts qs (Basic (body_view b)) y) e

some_left : (rs : List Refinement) (h : body.Body) (y : numbered.Expansion) → (rs ≡ [] → ⊥) → woven_parts rs (Basic h) y ≡ items_parts (without_decomposed rs (items_of h)) (left_row_in y) (pairs_in y)
some_left [] h y n = absurd (n refl)
some_left (r ∷ rs) (body.level cover held pairs) y n = refl

pub left_parts : (rs ds : List Refinement) (b : Body) (y : numbered.Expansion) (items : List Item) (row : List Expansion) (ps : List Pair) → ds ≡ rs → (rs ≡ [] → ⊥) → items ≡ (out-Body b).items.items → expansions_view row ≡ left_row_in y → ps ≡ pairs_in y
    → woven_parts rs (Basic (body_view b)) y ≡ items_parts (without_decomposed ds (items_view items)) (expansions_view row) ps
left_parts rs ds b y items row ps d n e r p =
    some_left rs (body_view b) y n ∙ (ap (λ (h : body.Body). items_parts (without_decomposed rs (items_of h)) (left_row_in y) (pairs_in y)) (body_is b)
    ∙ (ap (λ (xs : List Item). items_parts (without_decomposed rs (items_view xs)) (left_row_in y) (pairs_in y)) (sym e)
    ∙ (ap (λ (zs : numbered.Expansions). items_parts (without_decomposed rs (items_view items)) zs (pairs_in y)) (sym r)
    ∙ (ap (λ (qs : List Pair). items_parts (without_decomposed rs (items_view items)) (expansions_view row) qs) (sym p)
    ∙ ap (λ (qs : List Refinement). items_parts (without_decomposed qs (items_view items)) (expansions_view row) ps) (sym d)))))

-- ---- where none is

no_part_left : (xs : WovenItems) (ps : List Pair) → items_parts xs no_parts ps ≡ []
no_part_left no_items ps = refl
no_part_left (item_and x xs) ps = refl

no_operand_left : (bs : Bodies) → operands_parts bs no_parts ≡ []
no_operand_left no_bodies = refl
no_operand_left (body_and b bs) = refl

pub empty_list : {A : Type 0} (xs : List A) → length xs ≡ 0 → xs ≡ []
empty_list [] e = refl
empty_list (x ∷ xs) e = absurd (omega (arith, e))

pub items_none : (xs : WovenItems) (rest : List Expansion) (ps : List Pair) → length rest ≡ 0 → items_parts xs (expansions_view rest) ps ≡ []
items_none xs rest ps e = ap (λ (ys : List Expansion). items_parts xs (expansions_view ys) ps) (empty_list rest e) ∙ no_part_left xs ps

pub operands_none : (bs : Bodies) (rest : List Expansion) → length rest ≡ 0 → operands_parts bs (expansions_view rest) ≡ []
operands_none bs rest e = ap (λ (ys : List Expansion). operands_parts bs (expansions_view ys)) (empty_list rest e) ∙ no_operand_left bs

pub items_end : (items : List Item) (i : ℕ) (ys : numbered.Expansions) (ps : List Pair) → length items ≤ i → items_parts (items_view (drop i items)) ys ps ≡ []
items_end items i ys ps l = ap (λ (xs : List Item). items_parts (items_view xs) ys ps) (drop_all i items l)

pub operands_end : (bodies : List Body) (i : ℕ) (ys : numbered.Expansions) → length bodies ≤ i → operands_parts (bodies_view (drop i bodies)) ys ≡ []
operands_end bodies i ys l = ap (λ (bs : List Body). operands_parts (bodies_view bs) ys) (drop_all i bodies l)

pub left_end : (rs : List Refinement) (items : List Item) (i : ℕ) (ys : numbered.Expansions) (ps : List Pair) → length items ≤ i → items_parts (without_decomposed rs (items_view (drop i items))) ys ps ≡ []
left_end rs items i ys ps l = ap (λ (xs : List Item). items_parts (without_decomposed rs (items_view xs)) ys ps) (drop_all i items l)

pub parts_end : (ys : List Expansion) (i : ℕ) → length ys ≤ i → part_list (expansions_view (drop i ys)) ≡ []
parts_end ys i l = ap (λ (zs : List Expansion). part_list (expansions_view zs)) (drop_all i ys l)
