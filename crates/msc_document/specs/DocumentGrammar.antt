-- How a document is written, production by production (Z.120, clauses 3, 4, 7.2 and 7.3).
-- A production that ends with a part that may be missing takes what stands behind it: `[ x ] y` is `optional`.
use Rattle.std.specs.Prelude.{ℕ, zero, suc, ◌≡◌, ◌⊎◌, List, [], ◌∷◌, Option, Some, None, codes}
use Rattle.msc_base.specs.declared.place.Place.{Place}
use Rattle.msc_tree.specs.declared.chart.Cover.{Cover}
use Rattle.msc_tree.specs.declared.chart.Cover.TheVariants.{All, Listed}
use Rattle.msc_tree.specs.declared.reference.Join.{Join}
use Rattle.msc_tree.specs.Charts.{Chart, Content, Document, Basic, HighLevel}
use Rattle.msc_tree.specs.Expressions.{Expression}
use Rattle.msc_tree.specs.Statements.{Item, Operand, Statement, Reference, Single, Coregion, Condition, Refer, Stop, InColumn, Outside, Column, Covered, Heading, Ended, items, statements}
use Rattle.msc_tree.specs.Statements as tree
use Rattle.token_grammar.specs.Languages.{just}
use Rattle.token_grammar.specs.Grammars.{Grammar, Inner, shut, inner, seq, or, read_as, chain, optional, behind}
use Rattle.token_grammar.specs.Parts.{name, ending, kept, all_or_none, all_of, placed, lead, name_list}
use Rattle.msc_events.specs.Declarations.{heading, decl, decl_of, declaration, head, declared_by}
use Rattle.msc_events.specs.Events.{single, coregion, stop}
use Rattle.msc_events.specs.Multis.{shared_in, condition, joins}
use Rattle.msc_events.specs.declared.head_parts.Heads.{Heads}
use Rattle.msc_expression.specs.ExpressionGrammar.{expression}
use Rattle.msc_expression.specs.GraphGrammar.{chart_graph}
use Rattle.msc_document.specs.Inlines.{each, Naming, inline}
use Rattle.msc_events.specs.declared.orientation.Orientation.{Orientation}
use Rattle.msc_events.specs.declared.orientation.Orientation.TheVariants as written

-- behind `begin`: [ name ] [ shared ] end; the shared list stands only in a column
abbrev pub naming : Orientation → Grammar Naming
naming orientation = read_as (λ p. (p.0, p.1.0)) (optional kept name (shared_in orientation ending))

-- ---- references

-- expr [ joins ] [ shared ] end
abbrev pub reference_parts : Orientation → Grammar Expression → Grammar (Expression × (List Join × Option Cover))
reference_parts orientation X = read_as (λ p. (p.0, (p.1.0, p.1.1.0))) (seq X (optional all_or_none joins (shared_in orientation ending)))

abbrev pub reference_of : Option (List ℕ) → Expression × (List Join × Option Cover) → Reference
reference_of reference_name p = record { name = reference_name; expression = p.0; joins = p.1.0; shared = p.1.1 }

-- "reference" [ name ":" ] expr [ joins ] [ shared ] end, with its place
abbrev pub reference : Orientation → Grammar Expression → Grammar (Place × Reference)
reference orientation X = placed (just (codes "reference"))
    (or (read_as (λ p. reference_of (Some p.0) p.1) (seq name (behind (just (codes ":")) (reference_parts orientation X)))) (read_as (reference_of None) (reference_parts orientation X)))

-- ---- items, with so many levels left: X are expressions, and P operands one level deeper

-- multi = "condition" .. | inline | "reference" ..
abbrev pub multi_of : {A : Type 0} → Orientation → (A → Operand) → Grammar Expression → Inner A → Grammar Item
multi_of orientation f X P = or (read_as (λ p. tree.placed p.0 (Condition p.1 p.2)) (condition orientation)) (or (inline f (naming orientation) P)
    (read_as (λ p. tree.placed p.0 (Refer p.1)) (reference orientation X)))

-- event = single | coregion | multi | "stop" end
abbrev pub event_of : {A : Type 0} → Orientation → (A → Operand) → Grammar Expression → Inner A → Grammar Item
event_of orientation f X P = or (read_as (λ e. tree.placed e.place (Single e)) single) (or (read_as (λ p. tree.placed p.0 (Coregion p.1)) coregion)
    (or (multi_of orientation f X P) (read_as (λ place. tree.placed place Stop) stop)))

-- ---- columns

abbrev pub column_operand : List Item → Operand
column_operand held = InColumn (items held)

-- an event in a column, with at most so many levels open
unfoldable pub column_event : ℕ → Grammar Item
column_event zero = event_of written.Column column_operand (expression zero) shut
column_event (suc n) = event_of written.Column column_operand (expression (suc n)) (inner (each (column_event n)))

-- ---- elsewhere

-- behind a lead
pub data LedLine : Type 0 where
  -- ":" event { event }
  happen : List Item → LedLine
  -- "," names ":" multi { multi }
  list : List (List ℕ) → List Item → LedLine
  -- ":" "instance" [ name [ name ] ] [ "decomposed" "as" name ] end
  declare : List (List ℕ) × Option (Place × List ℕ) → LedLine
  -- ":" "endinstance" end
  finish : LedLine

-- what a lead and what stands behind it say
abbrev pub lead_statement : List ℕ × Place → LedLine → Statement
lead_statement at (happen held) = Covered (Listed (at.0 ∷ [])) (items held)
lead_statement at (list others held) = Covered (Listed (at.0 ∷ others)) (items held)
lead_statement at (declare d) = Heading (decl_of at d.0 d.1)
lead_statement at finish = Ended at.0

-- covered = lead ":" event { event }
--   | lead "," names ":" multi { multi }
--   | "all" ":" multi { multi }
--   | lead ":" "instance" [ name [ name ] ] [ "decomposed" "as" name ] end
--   | lead ":" "endinstance" end
-- where E are the events and M the multis
abbrev pub covered_of : Grammar (List Item) → Grammar (List Item) → Grammar Statement
covered_of E M = or (read_as (λ p. lead_statement p.0 p.1) (seq lead
    (or (behind (just (codes ":")) (or (read_as happen E) (or (read_as declare declaration) (read_as (λ e. finish) (behind (just (codes "endinstance")) ending)))))
    (read_as (λ p. list p.0 p.1) (behind (just (codes ",")) (seq name_list (behind (just (codes ":")) M)))))))
    (read_as (λ held. Covered All (items held)) (behind (just (codes "all")) (behind (just (codes ":")) M)))

-- one, and any number of others
abbrev pub some : {A : Type 0} → Grammar A → Grammar (List A)
some R = read_as all_of (chain R R)

abbrev pub outside_operand : List Statement → Operand
outside_operand held = Outside (statements held)

abbrev pub outside_event : Grammar Expression → Inner (List Statement) → Grammar Item
outside_event = event_of written.Covered outside_operand

abbrev pub outside_multi : Grammar Expression → Inner (List Statement) → Grammar Item
outside_multi = multi_of written.Covered outside_operand

abbrev pub covered_in : Grammar Expression → Inner (List Statement) → Grammar Statement
covered_in X P = covered_of (some (outside_event X P)) (some (outside_multi X P))

-- with at most so many levels open
unfoldable pub covered : ℕ → Grammar Statement
covered zero = covered_in (expression zero) shut
covered (suc n) = covered_in (expression (suc n)) (inner (each (covered n)))

-- ---- charts

-- statement = "instance" decl end { event } "endinstance" end | covered
abbrev pub statement : ℕ → Grammar Statement
statement n = or (read_as (λ p. Column p.0 (items p.1.1.0)) (behind (just (codes "instance")) (seq decl (seq ending (seq (each (column_event n)) (behind (just (codes "endinstance")) ending))))))
    (covered n)

abbrev pub chart_end : Grammar (Unit {0})
chart_end = behind (just (codes "endmsc")) ending

-- ( { statement } | graph ) "endmsc" end
abbrev pub content : ℕ → Grammar Content
content n = or (read_as (λ p. Basic p.0) (seq (each (statement n)) chart_end)) (read_as (λ p. HighLevel p.0) (chart_graph n chart_end))

abbrev pub chart_of : Place → List ℕ → Heads → Content → Chart
chart_of place chart_name heads content = record { name = chart_name; place = place; decls = heads.decls; messages = heads.messages; timers = heads.timers; content = content }

-- chart = "msc" name end { head } ( { statement } | graph ) "endmsc" end
abbrev pub chart : ℕ → Grammar Chart
chart n = read_as (λ p. chart_of p.0 p.1.0 (declared_by p.1.1.1.0) p.1.1.1.1) (placed (just (codes "msc")) (seq name (seq ending (seq (each head) (content n)))))

-- ---- documents

-- a part that may be missing, and nothing behind it
abbrev pub perhaps : {A : Type 0} → Grammar A → Grammar (Option A)
perhaps {A = A} R = record { reads = λ x v. (x ≡ []) × (v ≡ None) ⊎ (a : A) × R.reads x a × (v ≡ Some a); brink = R.brink }

-- document = [ "mscdocument" name [ "related" "to" name ] end ] { chart } [ "endmscdocument" end ]
abbrev pub document : ℕ → Grammar Document
document n = read_as (λ p. record { heading = p.0; charts = p.1.0 }) (seq (perhaps heading) (seq (each (chart n)) (perhaps (behind (just (codes "endmscdocument")) ending))))
