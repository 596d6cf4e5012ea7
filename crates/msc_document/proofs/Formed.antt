-- What is read of a text is well formed: its events and coregions stand at one instance, what they create is an instance, its inline
-- expressions have as many operands as their forms take, what is put together in the expressions of its references has two parts at least.
use Rattle.std.specs.Prelude.{⊤}
use Rattle.std.proofs.Common.{ℕ, zero, suc, ◌≡◌, ◌++◌, true, List, [], ◌∷◌, map, codes, refl}
use Rattle.msc_base.specs.declared.place.Place.{Place}
use Rattle.msc_tree.specs.declared.chart.Cover.TheVariants.{All}
use Rattle.msc_tree.specs.declared.reference.InlineForm.{InlineForm}
use Rattle.msc_tree.specs.declared.reference.InlineForm.TheVariants.{Alt, Opt, Par, Loop, Exc}
use Rattle.msc_tree.specs.Charts.{Chart, Basic, HighLevel}
use Rattle.msc_tree.specs.Expressions.{Expression}
use Rattle.msc_tree.specs.Statements.{Item, Operand, Statement, InColumn, Outside, Column, Covered, Heading, Ended, items, operands, statements, Single, Coregion, Condition, Refer, Stop, Inline}
use Rattle.msc_tree.specs.Statements as tree
use Rattle.token_grammar.specs.Languages.{Set, just}
use Rattle.token_grammar.specs.Grammars.{Grammar, Inner, shut, inner, seq, or, read_as, behind}
use Rattle.token_grammar.specs.Parts.{ending, lead, name, name_list}
use Rattle.chart_text.specs.Texts.{Scope, Whole, Side, Standing, Passage, a_head, inside, items_text, item_text, operands_text, operand_held, statement_held, statements_text, content_text}
use Rattle.chart_text.proofs.StandingLaws.{both, each_behind}
use Rattle.chart_text.specs.WellFormed.{are_well_formed_events, is_at_one, is_well_formed, is_well_formed_event, takes, AreWellFormed, IsWellFormed, AreAllWellFormed}
use Rattle.msc_events.specs.Declarations.{decl, declaration, head, heading, declared_by}
use Rattle.msc_events.specs.Events.{stop}
use Rattle.msc_events.specs.Multis.{condition}
use Rattle.msc_events.specs.declared.orientation.Orientation.{Orientation}
use Rattle.msc_events.specs.declared.orientation.Orientation.TheVariants as written
use Rattle.msc_expression.specs.ExpressionGrammar.{expression}
use Rattle.msc_expression.specs.GraphGrammar.{chart_graph}
use Rattle.msc_document.specs.Inlines as Inlines
use Rattle.msc_document.specs.Inlines.{Naming, Tail, each, several, body, alt_tail, par_tail, opt_tail, exc_tail, loop_tail, taken_once, inline, inline_item, form}
use Rattle.msc_document.specs.FormedDocuments.{DocumentsAreWellFormed}
use Rattle.msc_document.specs.DocumentGrammar.{naming, multi_of, event_of, column_operand, column_event, LedLine, happen, list, declare, finish, lead_statement, some, outside_operand, outside_event, outside_multi, covered_in, covered, statement, content, chart, chart_of, perhaps, document, chart_end}
use Rattle.msc_document.proofs.Giving.{Gives, Each, Within, IsSome, IsOne, anything, weaker, read_gives, or_gives, seq_gives, behind_gives, placed_gives, bounded_gives, each_gives, some_gives, opens_gives, several_gives, single_gives}
use Rattle.msc_document.proofs.FormedEvents.{coregion_formed, single_formed}
use Rattle.msc_document.proofs.FormedExpressions.{HasParts, expression_formed, reference_formed}

formed_behind : (xs ys : List Passage) → AreWellFormed xs → AreWellFormed ys → AreWellFormed (xs ++ ys)
formed_behind xs ys h k = each_behind (λ p. is_well_formed p ≡ true) xs ys h k

-- ---- inline expressions, by what their operands hold

-- what stands at such a side is well formed
abbrev IsFormedAt : (Side → Type 0) → Item → Type 0
IsFormedAt At item = (s : Standing) → At s.side → AreWellFormed (item_text s item)

module _ {A : Type 0} (f : A → Operand) (At : Side → Type 0) where
  abbrev IsHeld : A → Type 0
  IsHeld a = (s : Standing) → At s.side → AreWellFormed (operand_held s (f a))

  held_formed : (as_ : List A) (s : Standing) → At s.side → Each IsHeld as_ → AreWellFormed (operands_text s (operands (map f as_)))
  held_formed [] s at h = tt
  held_formed (a ∷ as_) s at h = (refl, formed_behind (operand_held s (f a)) (operands_text s (operands (map f as_))) (h.0 s at) (held_formed as_ s at h.1))

  -- the operands are held well, and as many as the form takes
  abbrev IsTail : InlineForm → Tail A → Type 0
  IsTail kind t = Each IsHeld t.1.1 × (takes kind (operands (map f t.1.1)) ≡ true)

  one_taken : (kind : InlineForm) (a : A) → takes kind (operands (f a ∷ [])) ≡ true
  one_taken Alt a = refl
  one_taken Par a = refl
  one_taken Opt a = refl
  one_taken Exc a = refl
  one_taken Loop a = refl

  of_one : (kind : InlineForm) (n : Naming) (as_ : List A) → Each IsHeld as_ × IsOne as_ → Each IsHeld as_ × (takes kind (operands (map f as_)) ≡ true)
  of_one kind n [] h = absurd h.1
  of_one kind n (a ∷ []) h = (h.0, one_taken kind a)
  of_one kind n (a ∷ b ∷ as_) h = absurd h.1

  of_alt : (as_ : List A) → Each IsHeld as_ × IsSome as_ → Each IsHeld as_ × (takes Alt (operands (map f as_)) ≡ true)
  of_alt [] h = absurd h.1
  of_alt (a ∷ as_) h = (h.0, refl)

  of_par : (as_ : List A) → Each IsHeld as_ × IsSome as_ → Each IsHeld as_ × (takes Par (operands (map f as_)) ≡ true)
  of_par [] h = absurd h.1
  of_par (a ∷ as_) h = (h.0, refl)

  module _ (H : Grammar Naming) (P : Inner A) (w : Within P IsHeld) where
    body_of : {R : Grammar (List A)} {Q : List A → Type 0} → Gives R Q → Gives (body H R) (λ p. Q p.1)
    body_of r = weaker (seq_gives (anything H) r) (λ p h. h.1)

    alt_formed : Gives (alt_tail H P) (IsTail Alt)
    alt_formed = read_gives taken_once (opens_gives (just (codes "begin")) (λ p. body H (several (just (codes "alt")) p))
        (λ R r. weaker (body_of (several_gives (just (codes "alt")) r)) (λ p h. of_alt p.1 h)) P w)

    par_formed : Gives (par_tail H P) (IsTail Par)
    par_formed = read_gives taken_once (opens_gives (just (codes "begin")) (λ p. body H (several (just (codes "par")) p))
        (λ R r. weaker (body_of (several_gives (just (codes "par")) r)) (λ p h. of_par p.1 h)) P w)

    opt_formed : Gives (opt_tail H P) (IsTail Opt)
    opt_formed = read_gives taken_once (opens_gives (just (codes "begin")) (λ p. body H (Inlines.single (just (codes "opt")) p))
        (λ R r. weaker (body_of (single_gives (just (codes "opt")) r)) (λ p h. of_one Opt p.0 p.1 h)) P w)

    exc_formed : Gives (exc_tail H P) (IsTail Exc)
    exc_formed = read_gives taken_once (opens_gives (just (codes "begin")) (λ p. body H (Inlines.single (just (codes "exc")) p))
        (λ R r. weaker (body_of (single_gives (just (codes "exc")) r)) (λ p h. of_one Exc p.0 p.1 h)) P w)

    loop_formed : Gives (loop_tail H P) (IsTail Loop)
    loop_formed = bounded_gives (opens_gives (just (codes "begin")) (λ p. body H (Inlines.single (just (codes "loop")) p))
        (λ R r. weaker (body_of (single_gives (just (codes "loop")) r)) (λ p h. of_one Loop p.0 p.1 h)) P w)

    form_formed : (kind : InlineForm) (words : Set) {T : Grammar (Tail A)} → Gives T (IsTail kind) → Gives (form f kind words T) (IsFormedAt At)
    form_formed kind words t = read_gives (inline_item f kind) (weaker (placed_gives words t)
        (λ p h s at. (h.1, held_formed p.1.1.1 (inside s p.1.1.0.1) at h.0)))

    inline_formed : Gives (inline f H P) (IsFormedAt At)
    inline_formed = or_gives (form_formed Alt (just (codes "alt")) alt_formed) (or_gives (form_formed Par (just (codes "par")) par_formed)
        (or_gives (form_formed Opt (just (codes "opt")) opt_formed) (or_gives (form_formed Exc (just (codes "exc")) exc_formed) (form_formed Loop (just (codes "loop")) loop_formed))))

  -- ---- items

  multi_formed : (orientation : Orientation) (X : Grammar Expression) → Gives X HasParts → (P : Inner A) → Within P IsHeld → Gives (multi_of orientation f X P) (IsFormedAt At)
  multi_formed orientation X x P w = or_gives (read_gives (λ p. tree.placed p.0 (Condition p.1 p.2)) (weaker (anything (condition orientation)) (λ p h s at. (refl, tt))))
      (or_gives (inline_formed (naming orientation) P w) (read_gives (λ p. tree.placed p.0 (Refer p.1)) (weaker (reference_formed orientation x) (λ p h s at. (h, tt)))))

  event_formed : ((side : Side) → At side → is_at_one side ≡ true) → (orientation : Orientation) (X : Grammar Expression) → Gives X HasParts → (P : Inner A) → Within P IsHeld
      → Gives (event_of orientation f X P) (IsFormedAt At)
  event_formed one orientation X x P w = or_gives (read_gives (λ e. tree.placed e.place (Single e)) (weaker single_formed (λ e h s at. (both (is_at_one s.side) (is_well_formed_event e) (one s.side at) h, tt))))
      (or_gives (read_gives (λ p. tree.placed p.0 (Coregion p.1)) (weaker coregion_formed (λ p h s at. (both (is_at_one s.side) (are_well_formed_events p.1) (one s.side at) h, tt))))
      (or_gives (multi_formed orientation X x P w) (read_gives (λ place. tree.placed place Stop) (weaker (anything stop) (λ p h s at. (refl, tt))))))

items_formed : (At : Side → Type 0) (held : List Item) (s : Standing) → At s.side → Each (IsFormedAt At) held → AreWellFormed (items_text s (items held))
items_formed At [] s at h = tt
items_formed At (x ∷ xs) s at h = formed_behind (item_text s x) (items_text s (items xs)) (h.0 s at) (items_formed At xs s at h.1)

-- ---- columns

abbrev AtOne : Side → Type 0
AtOne side = is_at_one side ≡ true

column_formed : (n : ℕ) → Gives (column_event n) (IsFormedAt AtOne)
unfolding column_event
column_formed zero = event_formed column_operand AtOne (λ side h. h) written.Column (expression zero) (expression_formed zero) shut tt
column_formed (suc n) = event_formed column_operand AtOne (λ side h. h) written.Column (expression (suc n)) (expression_formed (suc n)) (inner (each (column_event n)))
    (weaker (each_gives (column_formed n)) (λ held h s at. items_formed AtOne held s at h))

-- ---- statements

abbrev Anywhere : Side → Type 0
Anywhere side = ⊤

abbrev IsFormedStatement : Statement → Type 0
IsFormedStatement x = (depth : ℕ) (scope : Scope) → AreWellFormed (statement_held depth scope x)

statements_formed : (held : List Statement) (depth : ℕ) (scope : Scope) → Each IsFormedStatement held → AreWellFormed (statements_text depth scope (statements held))
statements_formed [] depth scope h = tt
statements_formed (x ∷ xs) depth scope h = (refl, formed_behind (statement_held depth scope x) (statements_text depth scope (statements xs)) (h.0 depth scope) (statements_formed xs depth scope h.1))

module _ (X : Grammar Expression) (P : Inner (List Statement)) where
  -- what stands behind a lead
  abbrev behind_lead : Grammar LedLine
  behind_lead = or (behind (just (codes ":")) (or (read_as happen (some (outside_event X P))) (or (read_as declare declaration) (read_as (λ e. finish) (behind (just (codes "endinstance")) ending)))))
      (read_as (λ p. list p.0 p.1) (behind (just (codes ",")) (seq name_list (behind (just (codes ":")) (some (outside_multi X P))))))

  covered_formed : Gives X HasParts → Within P (Each IsFormedStatement) → Gives (covered_in X P) IsFormedStatement
  covered_formed x w = or_gives (read_gives (λ p. lead_statement p.0 p.1) (weaker (seq_gives (anything lead) lines) (λ p h. h.1 p.0)))
      (read_gives (λ held. Covered All (items held)) (behind_gives (just (codes "all")) (behind_gives (just (codes ":"))
      (weaker (some_gives multis) (λ held h depth scope. items_formed Anywhere held _ tt h)))))
    where
      inner_held : (At : Side → Type 0) (I : Inner (List Statement)) → Within I (Each IsFormedStatement) → Within I (IsHeld outside_operand At)
      inner_held At shut v = tt
      inner_held At (inner R) v = weaker v (λ held h s at. statements_formed held s.depth s.scope h)

      events : Gives (outside_event X P) (IsFormedAt AtOne)
      events = event_formed outside_operand AtOne (λ side h. h) written.Covered X x P (inner_held AtOne P w)

      multis : Gives (outside_multi X P) (IsFormedAt Anywhere)
      multis = multi_formed outside_operand Anywhere written.Covered X x P (inner_held Anywhere P w)

      lines : Gives behind_lead (λ (line : LedLine). (at : List ℕ × Place) → IsFormedStatement (lead_statement at line))
      lines = or_gives (behind_gives (just (codes ":")) (or_gives (read_gives happen (weaker (some_gives events) (λ held h at depth scope. items_formed AtOne held _ refl h)))
          (or_gives (read_gives declare (weaker (anything declaration) (λ d h at depth scope. tt))) (read_gives (λ e. finish) (weaker (anything (behind (just (codes "endinstance")) ending)) (λ e h at depth scope. tt))))))
          (read_gives (λ p. list p.0 p.1) (behind_gives (just (codes ",")) (weaker (seq_gives (anything name_list) (behind_gives (just (codes ":")) (some_gives multis)))
          (λ p h at depth scope. items_formed Anywhere p.1 _ tt h.1))))

statements_read : (n : ℕ) → Gives (covered n) IsFormedStatement
unfolding covered
statements_read zero = covered_formed (expression zero) shut (expression_formed zero) tt
statements_read (suc n) = covered_formed (expression (suc n)) (inner (each (covered n))) (expression_formed (suc n)) (each_gives (statements_read n))

statement_formed : (n : ℕ) → Gives (statement n) IsFormedStatement
statement_formed n = or_gives (read_gives (λ p. Column p.0 (items p.1.1.0)) (behind_gives (just (codes "instance"))
    (weaker (seq_gives (anything decl) (seq_gives (anything ending) (seq_gives (each_gives (column_formed n)) (anything (behind (just (codes "endinstance")) ending)))))
    (λ p h depth scope. items_formed AtOne p.1.1.0 _ refl h.1.1.0))))
    (statements_read n)

-- ---- charts and documents

heads_formed : (decls : List _) (more : List Passage) → AreWellFormed more → AreWellFormed (map a_head decls ++ more)
heads_formed [] more h = h
heads_formed (d ∷ ds) more h = (refl, heads_formed ds more h)

content_formed : (n : ℕ) → Gives (content n) (λ c. AreWellFormed (content_text c))
content_formed n = or_gives (read_gives (λ p. Basic p.0) (weaker (seq_gives (each_gives (statement_formed n)) (anything chart_end)) (λ p h. statements_formed p.0 0 Whole h.0)))
    (read_gives (λ p. HighLevel p.0) (weaker (anything (chart_graph n chart_end)) (λ p h. tt)))

chart_formed : (n : ℕ) → Gives (chart n) IsWellFormed
chart_formed n = read_gives (λ p. chart_of p.0 p.1.0 (declared_by p.1.1.1.0) p.1.1.1.1) (weaker (placed_gives (just (codes "msc"))
    (seq_gives (anything name) (seq_gives (anything ending) (seq_gives (anything (each head)) (content_formed n)))))
    (λ p h. heads_formed _ (content_text p.1.1.1.1) h.1.1.1))

each_chart : (charts : List Chart) → Each IsWellFormed charts → AreAllWellFormed charts
each_chart [] h = tt
each_chart (c ∷ cs) h = (h.0, each_chart cs h.1)

document_formed : (n : ℕ) → Gives (document n) (λ d. AreAllWellFormed d.charts)
document_formed n = read_gives (λ p. record { heading = p.0; charts = p.1.0 }) (weaker (seq_gives (anything (perhaps heading))
    (seq_gives (each_gives (chart_formed n)) (anything (perhaps (behind (just (codes "endmscdocument")) ending))))) (λ p h. each_chart p.1.0 h.1.0))

pub documents_are_well_formed : DocumentsAreWellFormed
documents_are_well_formed n tokens d h = (document_formed n).gives tokens d h
