-- Charts without inline expressions and references: no rule on parts is broken there.
use Rattle.std.proofs.Common.{◌≡◌, inl, inr, ℕ, ◌+◌, Bool, true, false, cond, List, [], ◌∷◌, ◌++◌, Option, None, refl, ap, ◌∙◌, subst, map}
use Rattle.std.specs.List.{flat_map}
use Rattle.std.specs.Prelude.{⊤}
use Rattle.std.proofs.lemmas.Bool.{and_parts, and_from}
use Rattle.level_pieces.specs.ItemParts.{has_events}
use Rattle.level_weaving.specs.Exceptions.{IsMisplaced, inner_exceptions, inner_item, outer_exceptions, outer_form, outer_pieces}
use Rattle.chart_text.specs.Texts.{Passage, Scope, Standing, Whole, a_head, a_statement, an_item, an_operand, chart_text, content_text, form_text, items_text, statement_held, statements_text}
use Rattle.msc_base.specs.Lists.{IsAmong}
use Rattle.msc_base.specs.Places.{IsLeast}
use Rattle.msc_base.specs.declared.place.Place.{Place}
use Rattle.list_facts.proofs.Joining.{both_nil}
use Rattle.msc_instances.specs.Instances.{instances}
use Rattle.msc_meaning.specs.LevelItems.{is_item, is_part_of, level_items, with_piece, with_pieces}
use Rattle.msc_meaning.specs.Pieces.{Piece, form_count, items_pieces, statement_count, statement_pieces, statements_pieces}
use Rattle.msc_tree.specs.Charts.{Basic, Chart, Content, HighLevel}
use Rattle.msc_tree.specs.Statements.{Form, Single, Coregion, Condition, Inline, Refer, Stop, Items, no_items, item_and, placed, Statement, Column, Covered, Heading, Ended, Statements, no_statements, statement_and, statements}
use Rattle.shared_parts.proofs.LevelLaws.{break_items, event_keeps, level_joined}
use Rattle.shared_parts.specs.Noting.{AreAllJoined, ItemBreaks, OneHolds}
use Rattle.shared_parts.specs.PartRules.{ChartBreaksPartRule, ContentBreaksPartRule}
use Rattle.shared_parts.specs.declared.faults.PartRule.{PartRule}
use Rattle.msc_acceptance.specs.SingleItems.{are_single, is_single, is_single_chart, is_single_passage}

-- ---- pieces

-- each of them is neither an inline expression nor a reference
abbrev AreSingle : List Piece → Type 0
AreSingle [] = ⊤
AreSingle (p ∷ ps) = (is_single p.form ≡ true) × AreSingle ps

both_single : (ps qs : List Piece) → AreSingle ps → AreSingle qs → AreSingle (ps ++ qs)
both_single [] qs g h = h
both_single (p ∷ ps) qs g h = (g.0, both_single ps qs g.1 h)

single_left : (xs ys : List Passage) → are_single (xs ++ ys) ≡ true → are_single xs ≡ true
single_left [] ys h = refl
single_left (x ∷ xs) ys h = and_from (is_single_passage x) (are_single xs) ((and_parts (is_single_passage x) (are_single (xs ++ ys)) h).0) (single_left xs ys ((and_parts (is_single_passage x) (are_single (xs ++ ys)) h).1))

single_right : (xs ys : List Passage) → are_single (xs ++ ys) ≡ true → are_single ys ≡ true
single_right [] ys h = h
single_right (x ∷ xs) ys h = single_right xs ys ((and_parts (is_single_passage x) (are_single (xs ++ ys)) h).1)

module _ (cover : List (List ℕ)) where
  items_single : (t : Standing) (column : Option (List ℕ)) (leads : List (List ℕ)) (n : ℕ) (xs : Items) → are_single (items_text t xs) ≡ true → AreSingle (items_pieces column leads n xs)
  items_single t column leads n no_items h = tt
  items_single t column leads n (item_and (placed place form) xs) h = (
    (and_parts (is_single form) (are_single (form_text t form)) (single_left (an_item t place form ∷ form_text t form) (items_text t xs) h)).0,
    items_single t column leads (n + form_count form) xs (single_right (an_item t place form ∷ form_text t form) (items_text t xs) h),
  )

  statement_single : (n depth : ℕ) (scope : Scope) (x : Statement) → are_single (statement_held depth scope x) ≡ true → AreSingle (statement_pieces cover n x)
  statement_single n depth scope (Column decl held) h = items_single _ _ _ n held h
  statement_single n depth scope (Covered names held) h = items_single _ _ _ n held h
  statement_single n depth scope (Heading decl) h = tt
  statement_single n depth scope (Ended name) h = tt

  statements_single : (n depth : ℕ) (scope : Scope) (xs : Statements) → are_single (statements_text depth scope xs) ≡ true → AreSingle (statements_pieces cover n xs)
  statements_single n depth scope no_statements h = tt
  statements_single n depth scope (statement_and x xs) h =
      both_single (statement_pieces cover n x) (statements_pieces cover (n + statement_count x) xs)
      (statement_single n depth scope x (single_left (statement_held depth scope x) (statements_text depth scope xs) h))
      (statements_single (n + statement_count x) depth scope xs (single_right (statement_held depth scope x) (statements_text depth scope xs) h))

-- ---- their items

-- each begins with an event or a coregion
abbrev BeginWithEvents : List (List Piece) → Type 0
BeginWithEvents [] = ⊤
BeginWithEvents ([] ∷ xs) = ⊥
BeginWithEvents ((p ∷ ps) ∷ xs) = (has_events p.form ≡ true) × BeginWithEvents xs

single_events : (form : Form) → is_single form ≡ true → is_item form ≡ true → has_events form ≡ true
single_events (Single event) s i = refl
single_events (Coregion held) s i = refl
single_events (Condition names shared) s i = cc
single_events (Inline head held) s i = cc
single_events (Refer reference) s i = cc
single_events Stop s i = cc

with_one : (xs : List (List Piece)) (p : Piece) → has_events p.form ≡ true → BeginWithEvents xs → BeginWithEvents (with_piece xs p)
with_one [] p e h = (e, tt)
with_one ([] ∷ xs) p e h = absurd h
with_one ((q ∷ qs) ∷ xs) p e h = by (is_part_of p (q ∷ qs)) (with_one xs p e h.1)
  where
    by : (b : Bool) → BeginWithEvents (with_piece xs p) → BeginWithEvents (cond b ((q ∷ qs ++ p ∷ []) ∷ xs) ((q ∷ qs) ∷ with_piece xs p))
    by true rest = h
    by false rest = (h.0, rest)

with_all : (xs : List (List Piece)) (ps : List Piece) → AreSingle ps → BeginWithEvents xs → BeginWithEvents (with_pieces xs ps)
with_all xs [] s h = h
with_all xs (p ∷ ps) s h = by (is_item p.form) refl (λ e. with_all (with_piece xs p) ps s.1 (with_one xs p (single_events p.form s.0 e) h)) (with_all xs ps s.1 h)
  where
    by : (b : Bool) → is_item p.form ≡ b → (is_item p.form ≡ true → BeginWithEvents (with_pieces (with_piece xs p) ps)) → BeginWithEvents (with_pieces xs ps) → BeginWithEvents (with_pieces (cond b (with_piece xs p) xs) ps)
    by true e one other = one e
    by false e one other = other

events_keep : (rule : PartRule) (cover : List (List ℕ)) (xs : List (List Piece)) (q : Place) → AreAllJoined xs → BeginWithEvents xs → OneHolds (ItemBreaks rule cover) xs q → ⊥
events_keep rule cover [] q j h b = b
events_keep rule cover ([] ∷ xs) q j h b = absurd h
events_keep rule cover ((p ∷ ps) ∷ xs) q j h (inl b) = event_keeps rule cover p ps q j.0 h.0 b
events_keep rule cover ((p ∷ ps) ∷ xs) q j h (inr b) = events_keep rule cover xs q j.1 h.1 b

-- ---- charts

content_keeps : (rule : PartRule) (names : List (List ℕ)) (x : Content) (q : Place) → are_single (content_text x) ≡ true → ContentBreaksPartRule rule names x q → ⊥
content_keeps rule names (Basic held) q s b =
    let ps = statements_pieces names 0 (statements held) in
    events_keep rule names (level_items ps) q (level_joined ps) (with_all [] ps (statements_single names 0 0 Whole (statements held) s) tt) (break_items rule names ps q b)
content_keeps rule names (HighLevel drawn) q s b = b

content_single : (c : Chart) → is_single_chart c ≡ true → are_single (content_text c.content) ≡ true
content_single c s = single_right (map a_head c.decls) (content_text c.content) s

-- no part breaks a rule
pub parts_kept : (rule : PartRule) (c : Chart) → is_single_chart c ≡ true → IsLeast (ChartBreaksPartRule rule c) None
parts_kept rule c s = λ q b. content_keeps rule (instances c) c.content q (content_single c s) b

no_place : (all : Bool) (place : Place) (form : Form) → is_single form ≡ true → outer_form all place form ≡ []
no_place all place (Single event) s = refl
no_place all place (Coregion held) s = refl
no_place all place (Condition names shared) s = refl
no_place all place (Inline head held) s = cc
no_place all place (Refer reference) s = refl
no_place all place Stop s = refl

no_places : (names : List (List ℕ)) (ps : List Piece) → AreSingle ps → outer_pieces names ps ≡ []
no_places names [] s = refl
no_places names (p ∷ ps) s = ap (λ (l : List Place). l ++ outer_pieces names ps) (no_place _ p.place p.form s.0) ∙ no_places names ps s.1

content_placed : (names : List (List ℕ)) (x : Content) → are_single (content_text x) ≡ true → outer_exceptions names x ≡ []
content_placed names (Basic held) s = no_places names (statements_pieces names 0 (statements held)) (statements_single names 0 0 Whole (statements held) s)
content_placed names (HighLevel drawn) s = refl

-- ---- inside operands

no_inner : (depth : ℕ) (place : Place) (form : Form) → is_single form ≡ true → inner_item depth place form ≡ []
no_inner depth place (Single event) s = refl
no_inner depth place (Coregion held) s = refl
no_inner depth place (Condition names shared) s = refl
no_inner depth place (Inline head held) s = cc
no_inner depth place (Refer reference) s = refl
no_inner depth place Stop s = refl

passage_free : (x : Passage) → is_single_passage x ≡ true → inner_exceptions x ≡ []
passage_free (a_head decl) s = refl
passage_free (a_statement depth scope x) s = refl
passage_free (an_item t place form) s = no_inner t.depth place form s
passage_free (an_operand t x) s = refl

text_free : (xs : List Passage) → are_single xs ≡ true → flat_map inner_exceptions xs ≡ []
text_free [] s = refl
text_free (x ∷ xs) s =
    both_nil (inner_exceptions x) (flat_map inner_exceptions xs) (passage_free x ((and_parts (is_single_passage x) (are_single xs) s).0)) (text_free xs ((and_parts (is_single_passage x) (are_single xs) s).1))

-- no exception is misplaced
pub exceptions_kept : (c : Chart) → is_single_chart c ≡ true → IsLeast (IsMisplaced c) None
exceptions_kept c s = λ q b.
    subst (λ (l : List Place). IsAmong l q)
    (both_nil (flat_map inner_exceptions (chart_text c)) (outer_exceptions (instances c) c.content) (text_free (chart_text c) s) (content_placed (instances c) c.content (content_single c s))) b
