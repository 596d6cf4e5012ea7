-- Readers of the productions of a document.
use Rattle.std.specs.Prelude.{ℕ, zero, suc, List, [], ◌∷◌, ◌++◌, length, Option, Some, None, Ok, Bool, option_map, codes, if◌then◌else◌}
use Rattle.msc_base.specs.declared.place.Place.{Place}
use Rattle.msc_tokens.specs.declared.token.Token.{Token}
use Rattle.msc_tree.specs.declared.chart.Cover.{Cover}
use Rattle.msc_tree.specs.declared.chart.Cover.TheVariants.{All, Listed}
use Rattle.msc_tree.specs.Forms.{form_text}
use Rattle.msc_tree.specs.declared.reference.InlineForm.{InlineForm}
use Rattle.msc_tree.specs.declared.reference.InlineForm.TheVariants.{Alt, Opt, Par, Loop, Exc}
use Rattle.msc_tree.specs.declared.reference.Join.{Join}
use Rattle.msc_tree.specs.declared.chart.Heading.{Heading}
use Rattle.msc_tree.specs.Charts.{Chart, Content, Document, Basic, HighLevel}
use Rattle.msc_tree.specs.Expressions.{Expression}
use Rattle.msc_tree.specs.Statements.{Item, Operand, Statement, Reference, Single, Coregion, Condition, Refer, Stop, Column, Covered, item_list}
use Rattle.msc_tree.specs.Statements as tree
use Rattle.token_grammar.specs.Languages.{Set, Read, just, names, ◌>>=◌, word_at, each_at, chain_at, tail_at, seq_at, either_at, map_at, until_at, optional_at, behind_at, second_at, opens_at}
use Rattle.token_grammar.specs.Rows.{goes_on}
use Rattle.token_grammar.specs.Parts.{kept, all_or_none, leads}
use Rattle.token_grammar.specs.PartReaders.{name_at, lead_at, name_list_at, ending_at, placed_at}
use Rattle.msc_events.specs.Declarations.{declared_by}
use Rattle.msc_events.specs.DeclarationReaders.{heading_at, decl_at, declaration_at, head_at, head_words}
use Rattle.msc_events.specs.EventReaders.{single_at, single_words, coregion_at, stop_at}
use Rattle.msc_events.specs.MultiReaders.{shared_in_at, condition_at, joins_at}
use Rattle.msc_expression.specs.Bounds.{loop_bounds_at}
use Rattle.msc_expression.specs.ExpressionReaders.{expression_at}
use Rattle.msc_expression.specs.GraphReaders.{chart_graph_at}
use Rattle.msc_document.specs.Inlines.{Naming, Tail, taken_once, inline_item, firsts}
use Rattle.msc_document.specs.DocumentGrammar.{LedLine, happen, list, declare, finish, lead_statement, reference_of, column_operand, outside_operand, chart_of}
use Rattle.msc_events.specs.declared.orientation.Orientation.{Orientation}
use Rattle.msc_events.specs.declared.orientation.Orientation.TheVariants as written

-- what an end begins with
abbrev pub end_words : Set
end_words = just (codes "comment") ++ just (codes ";")

-- the name behind `begin`, where there is one
abbrev pub some_name_at : List Token → Read (Option (List ℕ))
some_name_at = optional_at names kept name_at

abbrev pub naming_at : Orientation → List Token → Read Naming
naming_at orientation = map_at (λ p. (p.0, p.1.0)) (seq_at some_name_at (seq_at (shared_in_at orientation) ending_at))

-- ---- references

abbrev pub some_joins_at : List Token → Read (List Join)
some_joins_at = optional_at (just (codes "via")) all_or_none joins_at

abbrev pub reference_parts_at : Orientation → (List Token → Read Expression) → List Token → Read (Expression × (List Join × Option Cover))
reference_parts_at orientation x = map_at (λ p. (p.0, (p.1.0, p.1.1.0))) (seq_at x (seq_at some_joins_at (seq_at (shared_in_at orientation) ending_at)))

abbrev pub named_reference_at : Orientation → (List Token → Read Expression) → List Token → Read Reference
named_reference_at orientation x = map_at (λ p. reference_of (Some p.0) p.1) (seq_at name_at (behind_at (just (codes ":")) (reference_parts_at orientation x)))

abbrev pub unnamed_reference_at : Orientation → (List Token → Read Expression) → List Token → Read Reference
unnamed_reference_at orientation x = map_at (reference_of None) (reference_parts_at orientation x)

abbrev pub reference_at : Orientation → (List Token → Read Expression) → List Token → Read (Place × Reference)
reference_at orientation x = placed_at (just (codes "reference")) (second_at names (just (codes ":")) (named_reference_at orientation x) (unnamed_reference_at orientation x))

-- ---- operands

abbrev pub closing_at : List Token → Read (Unit {0})
closing_at = behind_at (just (codes "end")) ending_at

-- behind an end and another operand with its word
abbrev pub next_part_at : {A : Type 0} → (List Token → Read A) → List Token → Read A
next_part_at p = map_at (λ x. x.1) (seq_at ending_at p)

-- operands, where p reads one with the word behind it
abbrev pub several_at : {A : Type 0} → (List Token → Read A) → List Token → Read (List A)
several_at p = map_at firsts (seq_at p (until_at end_words (next_part_at p) closing_at))

abbrev pub single_operand_at : {A : Type 0} → (List Token → Read A) → List Token → Read (List A)
single_operand_at p = map_at (λ x. x.0 ∷ []) (seq_at p closing_at)

abbrev pub form_word : InlineForm → Set
form_word form = just (form_text form)

-- what stands behind the word of a form that begins an inline expression
abbrev pub form_seconds : InlineForm → Set
form_seconds Loop = just (codes "<") ++ just (codes "begin")
form_seconds _ = just (codes "begin")

-- the operands of a form
abbrev pub operands_at : {A : Type 0} → InlineForm → (List Token → Read A) → List Token → Read (List A)
operands_at Alt p = several_at p
operands_at Par p = several_at p
operands_at _ p = single_operand_at p

abbrev pub body_at : {A : Type 0} → Orientation → InlineForm → (List Token → Read A) → List Token → Read (Naming × List A)
body_at orientation form p = seq_at (naming_at orientation) (operands_at form p)

-- behind the word of a form, where the reader of an operand with the word behind it is handed in, one level deeper
abbrev pub tail_of_at : {A : Type 0} → Orientation → InlineForm → Option (List Token → Read A) → List Token → Read (Tail A)
tail_of_at orientation Loop p = seq_at loop_bounds_at (opens_at (just (codes "begin")) (option_map (body_at orientation Loop) p))
tail_of_at orientation form p = map_at taken_once (opens_at (just (codes "begin")) (option_map (body_at orientation form) p))

abbrev pub form_at : {A : Type 0} → (A → Operand) → InlineForm → (List Token → Read (Tail A)) → List Token → Read Item
form_at f form p = map_at (inline_item f form) (placed_at (form_word form) p)

-- an inline expression, where what stands behind the word of each form is handed in
abbrev pub inline_at : {A : Type 0} → (A → Operand) → (InlineForm → List Token → Read (Tail A)) → List Token → Read Item
inline_at f p = either_at (form_word Alt) (form_at f Alt (p Alt)) (either_at (form_word Par) (form_at f Par (p Par)) (either_at (form_word Opt) (form_at f Opt (p Opt))
    (either_at (form_word Exc) (form_at f Exc (p Exc)) (form_at f Loop (p Loop)))))

-- ---- items

abbrev pub form_words : Set
form_words = form_word Alt ++ (form_word Par ++ (form_word Opt ++ (form_word Exc ++ form_word Loop)))

abbrev pub single_item_at : List Token → Read Item
single_item_at = map_at (λ e. tree.placed e.place (Single e)) single_at

abbrev pub coregion_item_at : List Token → Read Item
coregion_item_at = map_at (λ p. tree.placed p.0 (Coregion p.1)) coregion_at

abbrev pub stop_item_at : List Token → Read Item
stop_item_at = map_at (λ place. tree.placed place Stop) stop_at

abbrev pub condition_item_at : Orientation → List Token → Read Item
condition_item_at orientation = map_at (λ p. tree.placed p.0 (Condition p.1 p.2)) (condition_at orientation)

abbrev pub reference_item_at : Orientation → (List Token → Read Expression) → List Token → Read Item
reference_item_at orientation x = map_at (λ p. tree.placed p.0 (Refer p.1)) (reference_at orientation x)

abbrev pub multi_at : {A : Type 0} → Orientation → (A → Operand) → (List Token → Read Expression) → (InlineForm → List Token → Read (Tail A)) → List Token → Read Item
multi_at orientation f x p = either_at (just (codes "condition")) (condition_item_at orientation) (either_at form_words (inline_at f p) (reference_item_at orientation x))

abbrev pub multi_words : Set
multi_words = just (codes "condition") ++ (form_words ++ just (codes "reference"))

abbrev pub event_at : {A : Type 0} → Orientation → (A → Operand) → (List Token → Read Expression) → (InlineForm → List Token → Read (Tail A)) → List Token → Read Item
event_at orientation f x p = either_at single_words single_item_at (either_at (just (codes "concurrent")) coregion_item_at (either_at multi_words (multi_at orientation f x p) stop_item_at))

abbrev pub event_words : Set
event_words = single_words ++ (just (codes "concurrent") ++ (multi_words ++ just (codes "stop")))

-- ---- up to a word

-- at most so many, while they go on
abbrev pub going_at : {A : Type 0} → (List Token → Bool) → (List Token → Read A) → ℕ → List Token → Read (List A)
going_at goes p zero ts = Ok ([], ts)
going_at goes p (suc k) ts = if goes ts then (p ts >>= λ a. going_at goes p k a.1 >>= λ r. Ok (a.0 ∷ r.0, r.1)) else Ok ([], ts)

-- the word of the form of which the operand is, and outside operands this one
abbrev pub closer_word : List ℕ → Option InlineForm → Set
closer_word text None = just text
closer_word text (Some form) = form_word form

abbrev pub closer_seconds : Option InlineForm → Set
closer_seconds None = []
closer_seconds (Some form) = form_seconds form

-- ---- columns

-- the tokens go on with an event of the column
abbrev pub column_goes_on : Option InlineForm → List Token → Bool
column_goes_on closer = goes_on event_words (closer_word (codes "endinstance") closer) (closer_seconds closer)

-- events and the word behind them
abbrev pub column_at : Option InlineForm → (List Token → Read Item) → List Token → Read (List Item)
column_at closer e = map_at (λ x. x.0) (seq_at (λ ts. going_at (column_goes_on closer) e (length ts) ts) (word_at (closer_word (codes "endinstance") closer)))

-- what stands behind the word of a form, with so many levels left
unfoldable pub column_tails_at : ℕ → InlineForm → List Token → Read (Tail (List Item))
column_tails_at zero form = tail_of_at written.Column form None
column_tails_at (suc n) form = tail_of_at written.Column form (Some (column_at (Some form) (event_at written.Column column_operand (expression_at n) (column_tails_at n))))

abbrev pub column_event_at : ℕ → List Token → Read Item
column_event_at n = event_at written.Column column_operand (expression_at n) (column_tails_at n)

-- ---- elsewhere

-- what may go on behind a statement's items: nothing, events or multis
pub data State : Type 0 where
  idle : State
  events : State
  multis : State

abbrev pub cover_kind : Cover → State
cover_kind (Listed (n ∷ [])) = events
cover_kind _ = multis

abbrev pub kind : Statement → State
kind (Covered cover held) = cover_kind cover
kind _ = idle

-- with other items behind
abbrev pub long : Statement → List Item → Statement
long (Covered cover held) more = Covered cover (tree.items (item_list held ++ more))
long s more = s

abbrev pub alone : Item → List Item
alone i = i ∷ []

-- behind a lead and a colon: an event, a declaration or an end
abbrev pub colon_line_at : (List Token → Read Item) → List Token → Read LedLine
colon_line_at e = behind_at (just (codes ":")) (either_at event_words (map_at happen (map_at alone e)) (either_at (just (codes "instance")) (map_at declare declaration_at)
    (map_at (λ x. finish) (behind_at (just (codes "endinstance")) ending_at))))

-- behind a lead and a comma: names, and a multi
abbrev pub list_line_at : (List Token → Read Item) → List Token → Read LedLine
list_line_at m = map_at (λ p. list p.0 p.1) (behind_at (just (codes ",")) (seq_at name_list_at (behind_at (just (codes ":")) (map_at alone m))))

-- a statement up to its first item
abbrev pub opening_at : (List Token → Read Item) → (List Token → Read Item) → List Token → Read Statement
opening_at e m = either_at leads (map_at (λ p. lead_statement p.0 p.1) (seq_at lead_at (either_at (just (codes ":")) (colon_line_at e) (list_line_at m))))
    (map_at (λ held. Covered All (tree.items held)) (behind_at (just (codes "all")) (behind_at (just (codes ":")) (map_at alone m))))

abbrev pub opening_words : Set
opening_words = leads ++ just (codes "all")

abbrev pub more_words : State → Set
more_words idle = []
more_words events = event_words
more_words multis = multi_words

-- what goes on behind the form's word
abbrev pub more_seconds : Option InlineForm → State → Set
more_seconds closer idle = []
more_seconds closer _ = closer_seconds closer

abbrev pub statement_goes_on : Option InlineForm → State → List Token → Bool
statement_goes_on closer state = goes_on (more_words state) (closer_word (codes "endmsc") closer) (more_seconds closer state)

abbrev pub more_at : (List Token → Read Item) → (List Token → Read Item) → State → List Token → Read Item
more_at e m multis = m
more_at e m _ = e

-- a statement, where o reads it up to its first item
abbrev pub statement_at : Option InlineForm → (List Token → Read Statement) → (List Token → Read Item) → (List Token → Read Item) → List Token → Read Statement
statement_at closer o e m ts = o ts >>= λ s. going_at (statement_goes_on closer (kind s.0)) (more_at e m (kind s.0)) (length s.1) s.1 >>= λ held. Ok (long s.0 held.0, held.1)

-- statements and the word behind them, where their first words are given
abbrev pub statements_at : Option InlineForm → Set → (List Token → Read Statement) → (List Token → Read Item) → (List Token → Read Item) → List Token → Read (List Statement)
statements_at closer words o e m = map_at (λ x. x.0) (seq_at (λ ts. each_at words (statement_at closer o e m) (length ts) ts) (word_at (closer_word (codes "endmsc") closer)))

abbrev pub Tails : Type 0
Tails = InlineForm → List Token → Read (Tail (List Statement))

abbrev pub outside_event_at : ℕ → Tails → List Token → Read Item
outside_event_at n p = event_at written.Covered outside_operand (expression_at n) p

abbrev pub outside_multi_at : ℕ → Tails → List Token → Read Item
outside_multi_at n p = multi_at written.Covered outside_operand (expression_at n) p

-- the statements of an operand, with the form's word behind them
abbrev pub outside_at : InlineForm → ℕ → Tails → List Token → Read (List Statement)
outside_at form n p = statements_at (Some form) opening_words (opening_at (outside_event_at n p) (outside_multi_at n p)) (outside_event_at n p) (outside_multi_at n p)

-- what stands behind the word of a form, with so many levels left
unfoldable pub outside_tails_at : ℕ → Tails
outside_tails_at zero form = tail_of_at written.Covered form None
outside_tails_at (suc n) form = tail_of_at written.Covered form (Some (outside_at form n (outside_tails_at n)))

abbrev pub covered_opening_at : ℕ → List Token → Read Statement
covered_opening_at n = opening_at (outside_event_at n (outside_tails_at n)) (outside_multi_at n (outside_tails_at n))

-- ---- charts

-- the column of an instance
abbrev pub instance_at : ℕ → List Token → Read Statement
instance_at n = map_at (λ p. Column p.0 (tree.items p.1.1.0)) (behind_at (just (codes "instance")) (seq_at decl_at (seq_at ending_at (seq_at (column_at None (column_event_at n)) ending_at))))

-- a statement of a chart up to its first item, or a whole column
abbrev pub chart_opening_at : ℕ → List Token → Read Statement
chart_opening_at n = either_at (just (codes "instance")) (instance_at n) (covered_opening_at n)

abbrev pub chart_words : Set
chart_words = just (codes "instance") ++ opening_words

-- the statements of a chart, and "endmsc"
abbrev pub chart_statements_at : ℕ → List Token → Read (List Statement)
chart_statements_at n = statements_at None chart_words (chart_opening_at n) (outside_event_at n (outside_tails_at n)) (outside_multi_at n (outside_tails_at n))

abbrev pub chart_end_at : List Token → Read (Unit {0})
chart_end_at = behind_at (just (codes "endmsc")) ending_at

abbrev pub content_at : ℕ → List Token → Read Content
content_at n = either_at (chart_words ++ just (codes "endmsc")) (map_at (λ p. Basic p.0) (seq_at (chart_statements_at n) ending_at)) (map_at (λ p. HighLevel p.0) (seq_at (chart_graph_at n) chart_end_at))

abbrev pub chart_at : ℕ → List Token → Read Chart
chart_at n = map_at (λ p. chart_of p.0 p.1.0 (declared_by p.1.1.1.0) p.1.1.1.1) (placed_at (just (codes "msc")) (seq_at name_at (seq_at ending_at (until_at head_words head_at (content_at n)))))

-- ---- documents with at least one token

-- what a heading, charts and the end of a document make
abbrev pub Parts : Type 0
Parts = (Option Heading × List Chart) × Option (Unit {0})

abbrev pub parts_of : Parts → Document
parts_of p = record { heading = p.0.0; charts = p.0.1 }

abbrev pub document_end_at : List Token → Read (Unit {0})
document_end_at = behind_at (just (codes "endmscdocument")) ending_at

abbrev pub headed : (Heading × List Chart) × Option (Unit {0}) → Parts
headed p = ((Some p.0.0, p.0.1), p.1)

abbrev pub unheaded : (Chart × List Chart) × Option (Unit {0}) → Parts
unheaded p = ((None, p.0.0 ∷ p.0.1), p.1)

abbrev pub ended : Unit {0} → Parts
ended e = ((None, []), Some e)

-- a document that isn't empty
abbrev pub parts_at : ℕ → List Token → Read Parts
parts_at n = either_at (just (codes "mscdocument")) (map_at headed (tail_at (just (codes "endmscdocument")) (chain_at (just (codes "msc")) heading_at (chart_at n)) document_end_at))
    (either_at (just (codes "msc")) (map_at unheaded (tail_at (just (codes "endmscdocument")) (chain_at (just (codes "msc")) (chart_at n) (chart_at n)) document_end_at)) (map_at ended document_end_at))

abbrev pub empty_document : Document
empty_document = record { heading = None; charts = [] }

abbrev pub document_at : ℕ → List Token → Read Document
document_at n [] = Ok (empty_document, [])
document_at n (t ∷ ts) = map_at parts_of (parts_at n) (t ∷ ts)
