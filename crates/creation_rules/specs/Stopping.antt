-- What stands behind the stop of its instance, in the column of the instance at one level: the body of the chart, or one operand of an
-- inline expression (Z.120, clause 4.11). Conditions aren't items of columns.
use Rattle.std.specs.Prelude.{◌&&◌, ℕ, Bool, true, false, not, fold, length, List, [], ◌++◌, nat_eq}
use Rattle.std.specs.List.{flat_map, list_any}
use Rattle.std.specs.Str.{bytes_eq}
use Rattle.chart_text.specs.Gathering.{place_if}
use Rattle.chart_text.specs.Texts.{Passage, a_head, a_statement, an_item, an_operand, Scope, Whole, Within, Side, in_column, Standing, behind_colon, own_scope, chart_text}
use Rattle.msc_base.specs.Lists.{IsAmong}
use Rattle.msc_base.specs.NameTables.{with_name}
use Rattle.msc_base.specs.declared.place.Place.{Place}
use Rattle.msc_tree.specs.Charts.{Chart, Content, Basic, HighLevel}
use Rattle.msc_tree.specs.Statements.{Item, placed, Form, Single, Coregion, Condition, Inline, Refer, Stop, Items, no_items, item_and, Operand, InColumn, Outside, Statement, Column, Covered, Heading, Ended, Statements, no_statements, statement_and, statements}

-- ---- one item; these instances have stopped before

abbrev pub is_item : Form → Bool
is_item (Condition names shared) = false
is_item (Single event) = true
is_item (Coregion events) = true
is_item (Inline head held) = true
is_item (Refer reference) = true
is_item Stop = true

-- one of the instances in whose columns it stands has stopped
abbrev pub is_stopped : List (List ℕ) → Scope → Bool
is_stopped stopped Whole = not (nat_eq (length stopped) 0)
is_stopped stopped (Within names) = list_any (λ n. list_any (bytes_eq n) stopped) names

-- the item, a second stop too, where it stands behind a stop
abbrev pub item_behind : List (List ℕ) → Side → Item → List Place
item_behind stopped side (placed place form) = place_if (is_item form && is_stopped stopped (own_scope side)) place

-- a stop stands at one instance, so never at all of them
abbrev pub with_stop : List (List ℕ) → Scope → List (List ℕ)
with_stop stopped Whole = stopped
with_stop stopped (Within names) = fold with_name stopped names

abbrev pub form_stops : List (List ℕ) → Side → Form → List (List ℕ)
form_stops stopped side Stop = with_stop stopped (own_scope side)
form_stops stopped side (Single event) = stopped
form_stops stopped side (Coregion events) = stopped
form_stops stopped side (Condition names shared) = stopped
form_stops stopped side (Inline head held) = stopped
form_stops stopped side (Refer reference) = stopped

-- those that have stopped behind it
abbrev pub item_stops : List (List ℕ) → Side → Item → List (List ℕ)
item_stops stopped side (placed place form) = form_stops stopped side form

-- ---- items and statements of one level, in the order of the text

abbrev pub items_behind : List (List ℕ) → Side → Items → List Place
items_behind stopped side no_items = []
items_behind stopped side (item_and x xs) = item_behind stopped side x ++ items_behind (item_stops stopped side x) side xs

abbrev pub items_stops : List (List ℕ) → Side → Items → List (List ℕ)
items_stops stopped side no_items = stopped
items_stops stopped side (item_and x xs) = items_stops (item_stops stopped side x) side xs

abbrev pub statement_behind : List (List ℕ) → Scope → Statement → List Place
statement_behind stopped scope (Column decl held) = items_behind stopped (in_column decl.name) held
statement_behind stopped scope (Covered cover held) = items_behind stopped (behind_colon scope cover) held
statement_behind stopped scope (Heading decl) = []
statement_behind stopped scope (Ended name) = []

abbrev pub statement_stops : List (List ℕ) → Scope → Statement → List (List ℕ)
statement_stops stopped scope (Column decl held) = items_stops stopped (in_column decl.name) held
statement_stops stopped scope (Covered cover held) = items_stops stopped (behind_colon scope cover) held
statement_stops stopped scope (Heading decl) = stopped
statement_stops stopped scope (Ended name) = stopped

abbrev pub statements_behind : List (List ℕ) → Scope → Statements → List Place
statements_behind stopped scope no_statements = []
statements_behind stopped scope (statement_and x xs) = statement_behind stopped scope x ++ statements_behind (statement_stops stopped scope x) scope xs

-- ---- levels: none has stopped at the start of one

abbrev pub operand_behind : Standing → Operand → List Place
operand_behind s (InColumn held) = items_behind [] s.side held
operand_behind s (Outside held) = statements_behind [] s.scope held

abbrev pub passage_behind : Passage → List Place
passage_behind (a_head decl) = []
passage_behind (a_statement depth scope x) = []
passage_behind (an_item s place form) = []
passage_behind (an_operand s x) = operand_behind s x

abbrev pub outermost_behind : Content → List Place
outermost_behind (Basic held) = statements_behind [] Whole (statements held)
outermost_behind (HighLevel drawn) = []

abbrev pub chart_behind : Chart → List Place
chart_behind chart = outermost_behind chart.content ++ flat_map passage_behind (chart_text chart)

-- at that place of the chart an item stands behind the stop of its instance
abbrev pub ChartGoesOn : Chart → Place → Type 0
ChartGoesOn chart p = IsAmong (chart_behind chart) p
