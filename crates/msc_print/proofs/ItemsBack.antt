-- Items and statements that were read are written so that they read back, with no more levels open.
use Rattle.std.proofs.Common.{ℕ, ◌≡◌, ◌∙◌, ◌++◌, List, [], ◌∷◌, Option, Some, None, map, refl, ap, inl, suc, zero, append-nil, append_assoc, option_map, codes}
use Rattle.msc_base.specs.declared.place.Place.{Place}
use Rattle.msc_tokens.specs.declared.token.Token.{Token}
use Rattle.msc_tokens.specs.Places.{first_place}
use Rattle.msc_tree.specs.declared.chart.Cover.{Cover}
use Rattle.msc_tree.specs.declared.chart.Cover.TheVariants.{All, Listed}
use Rattle.msc_tree.specs.declared.reference.Join.{Join}
use Rattle.msc_tree.specs.declared.reference.InlineForm.{InlineForm}
use Rattle.msc_tree.specs.declared.reference.InlineForm.TheVariants.{Alt, Opt, Par, Loop, Exc}
use Rattle.msc_tree.specs.Expressions.{Expression}
use Rattle.msc_tree.specs.Statements.{Reference, Item, Single, Coregion, Condition, Inline, Refer, Stop, Items, Operand, InColumn, Outside, Operands, Statement, Column, Covered, Statements, items, operands, statements}
use Rattle.msc_tree.specs.Statements as tree
use Rattle.token_grammar.specs.Languages.{just, texts}
use Rattle.token_grammar.specs.Grammars.{Grammar, Inner, shut, inner, inside, seq, or, read_as, chain, until, optional, behind, opens}
use Rattle.token_grammar.specs.Parts.{name, ending, kept, all_or_none, all_of, placed, lead, leads, other_leads, name_list}
use Rattle.msc_events.specs.Declarations.{decl, declaration}
use Rattle.msc_events.specs.Events.{single, coregion, stop}
use Rattle.msc_events.specs.Multis.{shared_in, condition, joins}
use Rattle.msc_expression.specs.declared.bounds.Bounds.{Bounds}
use Rattle.msc_expression.specs.Bounds.{with_bounds}
use Rattle.msc_expression.specs.ExpressionGrammar.{expression}
use Rattle.msc_document.specs.Inlines.{each, after, closing, firsts, several, Naming, body, Tail, taken_once, alt_tail, par_tail, opt_tail, exc_tail, loop_tail, inline_item, form, inline}
use Rattle.msc_document.specs.Inlines as inlines
use Rattle.msc_document.specs.DocumentGrammar.{naming, reference_parts, reference_of, reference, multi_of, event_of, column_operand, column_event, LedLine, happen, list, declare, finish, lead_statement, covered_of, some, outside_operand, outside_event, outside_multi, covered_in, covered, statement}
use Rattle.msc_print.specs.Words.{Words, all_words, name_words, end_words}
use Rattle.msc_print.specs.ExpressionWords.{bound_words, expression_words}
use Rattle.msc_tree.specs.Forms.{form_text}
use Rattle.msc_print.specs.StatementWords.{begun_words, bounds_in, decl_words, item_words, items_words, joins_words, known_words, naming_words, operand_words, operands_words, other_operand_words, refined_words, reference_words, shared_words, statement_words, statements_words}
use Rattle.msc_print.specs.Unplaced.{unplaced_decl, unplaced_join, unplaced_item, unplaced_items, unplaced_operand, unplaced_operands, unplaced_reference, unplaced_statement, unplaced_statements}
use Rattle.msc_print.proofs.Backs.{Back, Any, same, both, Filled, FitsFixed, cut, pair_is, back_seq, back_or, back_as, back_so, back_behind, back_placed, back_placed_word, back_opens, back_each, back_until, back_chain, back_optional, each_tidy, but_plain}
use Rattle.msc_print.proofs.BoundsBack.{bounds_read, bounds_proper, bounds_tidy, writes_bounds}
use Rattle.msc_print.proofs.Tidy.{Tidy, Proper}
use Rattle.msc_print.proofs.ExpressionsBack.{expression_back}
use Rattle.msc_print.proofs.PartsBack.{ending_back, name_back, names_back, chart_in, decl_back, declaration_back, single_back, coregion_back, stop_back, shared_in_back, condition_back, joins_back}
use Rattle.msc_events.specs.declared.orientation.Orientation.{Orientation}
use Rattle.msc_events.specs.declared.orientation.Orientation.TheVariants as written

-- ---- lists as trees

items_are : (is : List Item) → items_words (items is) ≡ all_words item_words is
items_are [] = refl
items_are (i ∷ is) = ap (λ (w : Words). item_words i ++ w) (items_are is)

items_shown : (is : List Item) → unplaced_items (items is) ≡ items (map unplaced_item is)
items_shown [] = refl
items_shown (i ∷ is) = ap (λ (l : Items). tree.item_and (unplaced_item i) l) (items_shown is)

statements_are : (ss : List Statement) → statements_words (statements ss) ≡ all_words statement_words ss
statements_are [] = refl
statements_are (s ∷ ss) = ap (λ (w : Words). statement_words s ++ w) (statements_are ss)

statements_shown : (ss : List Statement) → unplaced_statements (statements ss) ≡ statements (map unplaced_statement ss)
statements_shown [] = refl
statements_shown (s ∷ ss) = ap (λ (l : Statements). tree.statement_and (unplaced_statement s) l) (statements_shown ss)

pub list_back : {A B : Type 0} (R : Grammar A) {P : A → Type 0} {w : A → Words} {f : A → B} → Back R P w f → Back (each R) Any (all_words w) (map f)
list_back R r = record { back = λ x ls h. (tt, back_each R r x ls h); tidy = λ x ls h proper. each_tidy R r x ls h proper }

abbrev named_words : Naming → Words
named_words p = naming_words p.0 ++ (shared_words p.1 ++ end_words)

abbrev naming_in : Option (List ℕ) × (Option Cover × Unit {0}) → Naming
naming_in c = (c.0, c.1.0)

naming_back : (orientation : Orientation) → Back (naming orientation) Any named_words same
naming_back orientation = back_as (λ p. (p.0, p.1.0)) (optional kept name (shared_in orientation ending)) Any named_words same naming_in
    (back_optional kept name (shared_in orientation ending) Any naming_words same same name_back (shared_in_back orientation ending ending_back) tt (λ a m. tt) refl (λ a m. refl) refl (λ a. refl)) (λ a m. tt) (λ a m. refl) (λ a. refl)

-- ---- references

abbrev parts_words : Expression × (List Join × Option Cover) → Words
parts_words p = expression_words p.0 ++ (joins_words p.1.0 ++ (shared_words p.1.1 ++ end_words))

abbrev parts_in : Expression × (List Join × (Option Cover × Unit {0})) → Expression × (List Join × Option Cover)
parts_in c = (c.0, (c.1.0, c.1.1.0))

reference_parts_back : (orientation : Orientation) (n : ℕ) → Back (reference_parts orientation (expression n)) Any parts_words (both same (both (map unplaced_join) same))
reference_parts_back orientation n = back_as (λ p. (p.0, (p.1.0, p.1.1.0))) (seq (expression n) (optional all_or_none joins (shared_in orientation ending))) Any parts_words (both same (both (map unplaced_join) same)) parts_in
    (back_seq (expression n) _ (expression_back n) (back_optional all_or_none joins (shared_in orientation ending) Any joins_words (map unplaced_join) all_or_none joins_back (shared_in_back orientation ending ending_back)
    tt (λ a m. tt) refl (λ a m. refl) refl (λ a. refl))) (λ a m. tt) (λ a m. refl) (λ a. refl)

reference_back : (orientation : Orientation) (n : ℕ) → Back (reference orientation (expression n)) Any (λ p. reference_words p.1) (λ p. unplaced_reference p.1)
reference_back orientation n = back_so (reference orientation (expression n)) Any (λ p. reference_words p.1) (λ p. unplaced_reference p.1) same (back_placed (just (codes "reference")) (codes "reference") _ refl (back_or _ _
    (back_as (λ p. reference_of (Some p.0) p.1) (seq name (behind (just (codes ":")) (reference_parts orientation (expression n)))) Any rest unplaced_reference (λ c. reference_of (Some c.0) c.1)
    (back_seq name _ name_back (back_behind (just (codes ":")) (codes ":") _ refl (reference_parts_back orientation n))) (λ a m. tt) (λ a m. refl) (λ a. refl))
    (back_as (reference_of None) (reference_parts orientation (expression n)) Any rest unplaced_reference (λ c. reference_of None c) (reference_parts_back orientation n) (λ a m. tt) (λ a m. refl) (λ a. refl))))
    (λ a m. tt) (λ a m. refl) (λ a. refl)
  where
    rest : Reference → Words
    rest r = known_words r.name ++ (expression_words r.expression ++ (joins_words r.joins ++ (shared_words r.shared ++ end_words)))

-- ---- inline expressions, where f makes an operand of what is read

module _ {A : Type 0} (f : A → Operand) (orientation : Orientation) where
  abbrev shown : A → Operand
  shown a = unplaced_operand (f a)

  others_are : (text : List ℕ) (ls : List A) → other_operand_words text (operands (map f ls)) ≡ all_words (λ a. text ∷ (end_words ++ operand_words (f a))) ls
  others_are text [] = refl
  others_are text (a ∷ ls) = ap (λ (w : Words). text ∷ (end_words ++ (operand_words (f a) ++ w))) (others_are text ls)

  operands_shown : (ls : List A) → unplaced_operands (operands (map f ls)) ≡ operands (map shown ls)
  operands_shown [] = refl
  operands_shown (a ∷ ls) = ap (λ (l : Operands). tree.operand_and (unplaced_operand (f a)) l) (operands_shown ls)

  abbrev last : List ℕ → Words
  last text = text ∷ codes "end" ∷ end_words

  abbrev held_words : List ℕ → List A → Words
  held_words text ls = operands_words text (operands (map f ls)) ++ last text

  abbrev Held : Grammar A → Type 0
  Held R = Back R Any (λ a. operand_words (f a)) shown

  -- "end" end behind the form's word
  closing_back : (text : List ℕ) → FitsFixed (just text) text → Back (behind (just text) closing) Any (λ u. last text) same
  closing_back text is = back_behind (just text) text closing is (back_behind (just (codes "end")) (codes "end") ending refl ending_back)

  several_back : (text : List ℕ) → FitsFixed (just text) text → (R : Grammar A) → Held R → Back (several (just text) R) Any (held_words text) (map shown)
  several_back text is R r = back_as firsts (seq R (until (behind (just text) (after ending R)) (behind (just text) closing))) Any (held_words text) (map shown) (λ c. c.0 ∷ c.1.0)
      (back_seq R _ r (back_until (behind (just text) (after ending R))
      (back_behind (just text) text _ is (back_as (λ p. p.1) (seq ending R) Any (λ a. end_words ++ operand_words (f a)) shown (λ c. c.1) (back_seq ending R ending_back r) (λ a m. tt) (λ a m. refl) (λ a. refl)))
      (behind (just text) closing) (closing_back text is)))
      (λ p m. tt) (λ p m. regroup (operand_words (f p.0)) (other_operand_words text (operands (map f p.1.0))) ∙ ap (λ (w : Words). operand_words (f p.0) ++ (w ++ last text)) (others_are text p.1.0)) (λ p. refl)
    where
      regroup : (a b : Words) → (a ++ b) ++ last text ≡ a ++ (b ++ last text)
      regroup a b = simp append_assoc

  single_operand_back : (text : List ℕ) → FitsFixed (just text) text → (R : Grammar A) → Held R → Back (inlines.single (just text) R) Any (held_words text) (map shown)
  single_operand_back text is R r = back_as (λ p. p.0 ∷ []) (seq R (behind (just text) closing)) Any (held_words text) (map shown) (λ c. c.0 ∷ [])
      (back_seq R _ r (closing_back text is)) (λ p m. tt) (λ p m. ap (λ (w : Words). w ++ last text) (append-nil (operand_words (f p.0)))) (λ p. refl)

  -- behind a form's word, and behind the bounds of a loop
  abbrev level_words : List ℕ → Naming × List A → Words
  level_words text p = begun_words p.0.0 p.0.1 ++ held_words text p.1

  abbrev Level : Inner A → Type 1
  Level P = (Q : Grammar A → Grammar (List A)) (text : List ℕ) → ((R : Grammar A) → Held R → Back (Q R) Any (held_words text) (map shown)) →
      Back (opens (just (codes "begin")) (inside (λ p. body (naming orientation) (Q p)) P)) Any (level_words text) (both same (map shown))

  level_shut : Level shut
  level_shut Q text q = record { back = λ x a h. absurd h; tidy = λ x a h proper. absurd h }

  level_inner : (R : Grammar A) → Held R → Level (inner R)
  level_inner R r Q text q = back_so (opens (just (codes "begin")) (inner (body (naming orientation) (Q R)))) Any (level_words text) (both same (map shown)) same
      (back_opens (just (codes "begin")) (codes "begin") (body (naming orientation) (Q R)) refl (back_seq (naming orientation) (Q R) (naming_back orientation) (q R r))) (λ p m. tt) (λ p m. refl) (λ p. refl)

  -- the tail of a form, with the bounds that are written
  abbrev tail_words : InlineForm → Tail A → Words
  tail_words kind p = bounds_in kind p.0.lower p.0.upper ++ level_words (form_text kind) p.1

  abbrev tail_shown : Tail A → Bounds × (Naming × List Operand)
  tail_shown p = (p.0, both same (map shown) p.1)

  abbrev at_once : Naming × List Operand → Bounds × (Naming × List Operand)
  at_once c = (inlines.once, c)

  once_back : (kind : InlineForm) (T : Grammar (Naming × List A)) → ((l : ℕ) (u : Option ℕ) → bounds_in kind l u ≡ []) → Back T Any (level_words (form_text kind)) (both same (map shown)) → Back (read_as taken_once T) Any (tail_words kind) tail_shown
  once_back kind T none r = back_as taken_once T Any (tail_words kind) tail_shown at_once r (λ p m. tt) (λ p m. ap (λ (w : Words). w ++ level_words (form_text kind) p) (none 1 (Some 1))) (λ p. refl)

  loop_back : (T : Grammar (Naming × List A)) → Back T Any (level_words (codes "loop")) (both same (map shown)) → Back (with_bounds T) Any (tail_words Loop) tail_shown
  loop_back T r = record { back = read; tidy = keeps }
    where
      keeps : (x : List Token) (q : Tail A) → (with_bounds T).reads x q → Proper x → Tidy (tail_words Loop q)
      keeps x (b, p) h proper =
          let s = bounds_read T b p x h in
          let inner = bounds_proper T b p x h proper in
          bounds_tidy b.lower b.upper (level_words (codes "loop") p) s.0 s.1 (r.tidy inner.0 p inner.1 inner.2)

      read : (x : List Token) (q : Tail A) → (with_bounds T).reads x q → Any q × ((t : List Token) → texts t ≡ tail_words Loop q → (c : Tail A) × (with_bounds T).reads t c × (tail_shown c ≡ tail_shown q))
      read x (b, p) h =
          let s = bounds_read T b p x h in
          let known = r.back s.2.0 p s.2.1 in (
            tt,
            λ t e.
                let c = cut t (bound_words b.lower b.upper) (level_words (codes "loop") p) e in
                let back = known.1 c.1 c.4 in
                ((b, back.0), ((Some b, back.0), inl ((b, back.0), (c.0, c.1, c.2, writes_bounds b s.0 s.1 c.0 c.3, back.1), refl), refl), pair_is b b (both same (map shown) back.0) (both same (map shown) p) refl back.2),
          )

  form_back : (kind : InlineForm) (T : Grammar (Tail A)) → FitsFixed (just (form_text kind)) (form_text kind) → Back T Any (tail_words kind) tail_shown → Back (form f kind (just (form_text kind)) T) Any item_words unplaced_item
  form_back kind T is r = back_as (inline_item f kind) (placed (just (form_text kind)) T) Any item_words unplaced_item
      (λ c. tree.placed first_place (Inline (record { form = kind; lower = c.0.lower; upper = c.0.upper; name = c.1.0.0; shared = c.1.0.1 }) (operands c.1.1)))
      (back_placed (just (form_text kind)) (form_text kind) T is r) (λ p m. tt)
      (λ p m. regroup (form_text kind) (bounds_in kind p.1.0.lower p.1.0.upper) (begun_words p.1.1.0.0 p.1.1.0.1) (operands_words (form_text kind) (operands (map f p.1.1.1))) (last (form_text kind)))
      (λ p. ap (λ (l : Operands). tree.placed first_place (Inline (record { form = kind; lower = p.1.0.lower; upper = p.1.0.upper; name = p.1.1.0.0; shared = p.1.1.0.1 }) l)) (operands_shown p.1.1.1))
    where
      regroup : (word : List ℕ) (a b c d : Words) → (word ∷ (a ++ b)) ++ (c ++ d) ≡ word ∷ (a ++ (b ++ (c ++ d)))
      regroup word a b c d = simp append_assoc

  inline_back : (P : Inner A) → Level P → Back (inline f (naming orientation) P) Any item_words unplaced_item
  inline_back P level =
      back_or _ _ (form_back Alt (alt_tail (naming orientation) P) refl (once_back Alt _ (λ l u. refl) (level (several (just (codes "alt"))) (codes "alt") (several_back (codes "alt") refl))))
      (back_or _ _ (form_back Par (par_tail (naming orientation) P) refl (once_back Par _ (λ l u. refl) (level (several (just (codes "par"))) (codes "par") (several_back (codes "par") refl))))
      (back_or _ _ (form_back Opt (opt_tail (naming orientation) P) refl (once_back Opt _ (λ l u. refl) (level (inlines.single (just (codes "opt"))) (codes "opt") (single_operand_back (codes "opt") refl))))
      (back_or _ _ (form_back Exc (exc_tail (naming orientation) P) refl (once_back Exc _ (λ l u. refl) (level (inlines.single (just (codes "exc"))) (codes "exc") (single_operand_back (codes "exc") refl))))
      (form_back Loop (loop_tail (naming orientation) P) refl (loop_back _ (level (inlines.single (just (codes "loop"))) (codes "loop") (single_operand_back (codes "loop") refl)))))))

  -- ---- items

  multi_back : (n : ℕ) (P : Inner A) → Level P → Back (multi_of orientation f (expression n) P) Any item_words unplaced_item
  multi_back n P level = back_or _ _
      (back_as (λ p. tree.placed p.0 (Condition p.1 p.2)) (condition orientation) Any item_words unplaced_item (λ c. tree.placed first_place (Condition c.0 c.1)) (condition_back orientation) (λ p m. tt) (λ p m. refl) (λ p. refl))
      (back_or _ _ (inline_back P level)
      (back_as (λ p. tree.placed p.0 (Refer p.1)) (reference orientation (expression n)) Any item_words unplaced_item (λ c. tree.placed first_place (Refer c)) (reference_back orientation n) (λ p m. tt) (λ p m. refl) (λ p. refl)))

  event_back : (n : ℕ) (P : Inner A) → Level P → Back (event_of orientation f (expression n) P) Any item_words unplaced_item
  event_back n P level =
      back_or _ _ (back_as (λ e. tree.placed e.place (Single e)) single Any item_words unplaced_item (λ c. tree.placed first_place (Single c)) single_back (λ e m. tt) (λ e m. refl) (λ e. refl))
      (back_or _ _ (back_as (λ p. tree.placed p.0 (Coregion p.1)) coregion Any item_words unplaced_item (λ c. tree.placed first_place (Coregion c)) coregion_back (λ p m. tt) (λ p m. refl) (λ p. refl))
      (back_or _ _ (multi_back n P level)
      (back_as (λ place. tree.placed place Stop) stop Any item_words unplaced_item (λ c. tree.placed first_place Stop) stop_back (λ p m. tt) (λ p m. refl) (λ p. refl))))

-- ---- columns

column_held : (R : Grammar Item) → Back R Any item_words unplaced_item → Back (each R) Any (λ held. operand_words (column_operand held)) (λ held. unplaced_operand (column_operand held))
column_held R r = back_so (each R) Any (λ held. operand_words (column_operand held)) (λ held. unplaced_operand (column_operand held)) (λ c. InColumn (items c)) (list_back R r) (λ a m. tt) (λ a m. items_are a) (λ a. ap InColumn (items_shown a))

pub column_event_back : (n : ℕ) → Back (column_event n) Any item_words unplaced_item
unfolding column_event
column_event_back zero = event_back column_operand written.Column 0 shut (level_shut column_operand written.Column)
column_event_back (suc n) = event_back column_operand written.Column (suc n) (inner (each (column_event n))) (level_inner column_operand written.Column (each (column_event n)) (column_held (column_event n) (column_event_back n)))

-- ---- elsewhere

abbrev line_words : LedLine → Words
line_words (happen held) = codes ":" ∷ items_words (items held)
line_words (list others held) = codes "," ∷ (name_words others ++ codes ":" ∷ items_words (items held))
line_words (declare d) = codes ":" ∷ codes "instance" ∷ (d.0 ++ (refined_words (chart_in d.1) ++ end_words))
line_words finish = codes ":" ∷ codes "endinstance" ∷ end_words

abbrev at_first : Option (List ℕ) → Option (Place × List ℕ)
at_first = option_map (λ n. (first_place, n))

abbrev line_shown : LedLine → LedLine
line_shown (happen held) = happen (map unplaced_item held)
line_shown (list others held) = list others (map unplaced_item held)
line_shown (declare d) = declare (d.0, at_first (chart_in d.1))
line_shown finish = finish

abbrev Known : LedLine → Type 0
Known (happen held) = Unit {0}
Known (list others held) = Filled others
Known (declare d) = Unit {0}
Known finish = Unit {0}

lead_is : (at : List ℕ × Place) (l : LedLine) → Known l → statement_words (lead_statement at l) ≡ at.0 ∷ line_words l
lead_is at (happen held) m = refl
lead_is at (list [] held) m = absurd m
lead_is at (list (o ∷ os) held) m = refl
lead_is at (declare (k, None)) m = refl
lead_is at (declare (k, Some r)) m = refl
lead_is at finish m = refl

lead_shown : (at : List ℕ × Place) (l : LedLine) → unplaced_statement (lead_statement at l) ≡ lead_statement (at.0, first_place) (line_shown l)
lead_shown at (happen held) = ap (λ (is : Items). Covered (Listed (at.0 ∷ [])) is) (items_shown held)
lead_shown at (list others held) = ap (λ (is : Items). Covered (Listed (at.0 ∷ others)) is) (items_shown held)
lead_shown at (declare (k, None)) = refl
lead_shown at (declare (k, Some r)) = refl
lead_shown at finish = refl

-- not a list of instances
abbrev Plain : LedLine → Type 0
Plain (happen held) = Unit {0}
Plain (list others held) = ⊥
Plain (declare d) = Unit {0}
Plain finish = Unit {0}

-- behind the colon
abbrev rest : LedLine → Words
rest (happen held) = items_words (items held)
rest (list others held) = []
rest (declare d) = codes "instance" ∷ (d.0 ++ (refined_words (chart_in d.1) ++ end_words))
rest finish = codes "endinstance" ∷ end_words

plain_known : (l : LedLine) → Plain l → Known l
plain_known (happen held) m = tt
plain_known (list others held) m = absurd m
plain_known (declare d) m = tt
plain_known finish m = tt

colon_is : (l : LedLine) → Plain l → line_words l ≡ codes ":" ∷ rest l
colon_is (happen held) m = refl
colon_is (list others held) m = absurd m
colon_is (declare d) m = refl
colon_is finish m = refl

covered_back : (E M : Grammar (List Item)) → Back E Any (all_words item_words) (map unplaced_item) → Back M Any (all_words item_words) (map unplaced_item) → Back (covered_of E M) Any statement_words unplaced_statement
covered_back E M e m = back_or _ _
    (back_as (λ p. lead_statement p.0 p.1) (seq lead _) Any statement_words unplaced_statement (λ c. lead_statement (c.0, first_place) c.1)
    (back_seq lead _ (back_placed_word leads (but_plain other_leads)) (back_or _ _
    (back_so (behind (just (codes ":")) (or (read_as happen E) (or (read_as declare declaration) (read_as (λ e. finish) (behind (just (codes "endinstance")) ending))))) Known line_words line_shown same (back_behind (just (codes ":")) (codes ":") _ refl (back_or _ _
    (back_as happen E Plain rest line_shown (λ c. happen c) e (λ a n. tt) (λ a n. items_are a) (λ a. refl))
    (back_or _ _ (back_as declare declaration Plain rest line_shown (λ c. declare (c.0, at_first c.1)) declaration_back (λ a n. tt) (λ a n. refl) (λ a. refl))
    (back_as (λ u. finish) (behind (just (codes "endinstance")) ending) Plain rest line_shown (λ c. finish) (back_behind (just (codes "endinstance")) (codes "endinstance") ending refl ending_back) (λ a n. tt) (λ a n. refl) (λ a. refl)))))
    plain_known colon_is (λ a. refl))
    (back_as (λ p. list p.0 p.1) (behind (just (codes ",")) (seq name_list (behind (just (codes ":")) M))) Known line_words line_shown (λ c. list c.0 c.1)
    (back_behind (just (codes ",")) (codes ",") _ refl (back_seq name_list _ names_back (back_behind (just (codes ":")) (codes ":") M refl m))) (λ a n. n.0) (λ a n. ap (λ (w : Words). codes "," ∷ (name_words a.0 ++ codes ":" ∷ w)) (items_are a.1)) (λ a. refl))))
    (λ p n. tt) (λ p n. lead_is p.0 p.1 n.1) (λ p. lead_shown p.0 p.1))
    (back_as (λ held. Covered All (items held)) (behind (just (codes "all")) (behind (just (codes ":")) M)) Any statement_words unplaced_statement (λ c. Covered All (items c))
    (back_behind (just (codes "all")) (codes "all") _ refl (back_behind (just (codes ":")) (codes ":") M refl m)) (λ a n. tt) (λ a n. ap (λ (w : Words). codes "all" ∷ codes ":" ∷ w) (items_are a)) (λ a. ap (λ (is : Items). Covered All is) (items_shown a)))

some_back : (R : Grammar Item) → Back R Any item_words unplaced_item → Back (some R) Any (all_words item_words) (map unplaced_item)
some_back R r = back_as all_of (chain R R) Any (all_words item_words) (map unplaced_item) (λ c. c.0 ∷ c.1) (back_chain R r R r) (λ a m. tt) (λ a m. refl) (λ a. refl)

outside_held : (R : Grammar Statement) → Back R Any statement_words unplaced_statement → Back (each R) Any (λ held. operand_words (outside_operand held)) (λ held. unplaced_operand (outside_operand held))
outside_held R r = back_so (each R) Any (λ held. operand_words (outside_operand held)) (λ held. unplaced_operand (outside_operand held)) (λ c. Outside (statements c)) (list_back R r) (λ a m. tt) (λ a m. statements_are a) (λ a. ap Outside (statements_shown a))

covered_in_back : (n : ℕ) (P : Inner (List Statement)) → Level outside_operand written.Covered P → Back (covered_in (expression n) P) Any statement_words unplaced_statement
covered_in_back n P level = covered_back (some (outside_event (expression n) P)) (some (outside_multi (expression n) P))
    (some_back _ (event_back outside_operand written.Covered n P level)) (some_back _ (multi_back outside_operand written.Covered n P level))

pub covered_statement_back : (n : ℕ) → Back (covered n) Any statement_words unplaced_statement
unfolding covered
covered_statement_back zero = covered_in_back 0 shut (level_shut outside_operand written.Covered)
covered_statement_back (suc n) = covered_in_back (suc n) (inner (each (covered n))) (level_inner outside_operand written.Covered (each (covered n)) (outside_held (covered n) (covered_statement_back n)))

pub statement_back : (n : ℕ) → Back (statement n) Any statement_words unplaced_statement
statement_back n = back_or _ _
    (back_as (λ p. Column p.0 (items p.1.1.0)) (behind (just (codes "instance")) (seq decl (seq ending (seq (each (column_event n)) (behind (just (codes "endinstance")) ending))))) Any statement_words unplaced_statement (λ c. Column c.0 (items c.1.1.0))
    (back_behind (just (codes "instance")) (codes "instance") _ refl (back_seq decl _ decl_back (back_seq ending _ ending_back (back_seq (each (column_event n)) _ (list_back (column_event n) (column_event_back n)) (back_behind (just (codes "endinstance")) (codes "endinstance") ending refl ending_back)))))
    (λ p m. tt) (λ p m. ap (λ (w : Words). codes "instance" ∷ (decl_words p.0 ++ (end_words ++ (w ++ codes "endinstance" ∷ end_words)))) (items_are p.1.1.0)) (λ p. ap (λ (is : Items). Column (unplaced_decl p.0) is) (items_shown p.1.1.0)))
    (covered_statement_back n)
