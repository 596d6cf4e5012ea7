-- How an inline expression is written (Z.120, clause 7.2), whatever stands in its operands.
-- A level is opened by `begin`.
use Rattle.std.specs.Prelude.{ℕ, List, [], ◌∷◌, map, Option, Some, codes}
use Rattle.msc_base.specs.declared.place.Place.{Place}
use Rattle.msc_tree.specs.declared.chart.Cover.{Cover}
use Rattle.msc_tree.specs.declared.reference.InlineForm.{InlineForm}
use Rattle.msc_tree.specs.declared.reference.InlineForm.TheVariants.{Alt, Opt, Par, Loop, Exc}
use Rattle.msc_tree.specs.Statements.{Item, Inline, Operand, operands}
use Rattle.msc_tree.specs.Statements as tree
use Rattle.token_grammar.specs.Languages.{Set, just}
use Rattle.token_grammar.specs.Languages as rules
use Rattle.token_grammar.specs.Grammars.{Grammar, Inner, inside, seq, or, read_as, until, behind, behind_each, opens}
use Rattle.token_grammar.specs.Parts.{ending, placed}
use Rattle.msc_expression.specs.declared.bounds.Bounds.{Bounds}
use Rattle.msc_expression.specs.Bounds.{with_bounds}

-- { R }
abbrev pub each : {A : Type 0} → Grammar A → Grammar (List A)
each R = record { reads = rules.each R.reads; brink = behind_each R R.brink }

-- the first part is dropped
abbrev pub after : {A B : Type 0} → Grammar A → Grammar B → Grammar B
after R S = read_as (λ p. p.1) (seq R S)

-- the second part is dropped
abbrev pub before : {A B : Type 0} → Grammar A → Grammar B → Grammar A
before R S = read_as (λ p. p.0) (seq R S)

-- "end" end
abbrev pub closing : Grammar (Unit {0})
closing = behind (just (codes "end")) ending

abbrev pub firsts : {A B : Type 0} → A × (List A × B) → List A
firsts p = p.0 ∷ p.1.0

-- operand { W end operand } W "end" end
abbrev pub several : {A : Type 0} → Set → Grammar A → Grammar (List A)
several w P = read_as firsts (seq P (until (behind w (after ending P)) (behind w closing)))

-- operand W "end" end
abbrev pub single : {A : Type 0} → Set → Grammar A → Grammar (List A)
single w P = read_as (λ p. p.0 ∷ []) (seq P (behind w closing))

-- the name and the shared list
abbrev pub Naming : Type 0
Naming = Option (List ℕ) × Option Cover

-- behind `begin`: the name and the shared list with their end, and operands up to the last end
abbrev pub body : {A : Type 0} → Grammar Naming → Grammar (List A) → Grammar (Naming × List A)
body H P = seq H P

-- how often the operands are taken, the name and the shared list, and the operands
abbrev pub Tail : Type 0 → Type 0
Tail A = Bounds × (Naming × List A)

abbrev pub once : Bounds
once = record { lower = 1; upper = Some 1 }

abbrev pub taken_once : {A : Type 0} → A → Bounds × A
taken_once a = (once, a)

-- Each form behind its word, where H is the name and the shared list, and P an operand one level deeper.
module _ {A : Type 0} (H : Grammar Naming) (P : Inner A) where
  abbrev pub alt_tail : Grammar (Tail A)
  alt_tail = read_as taken_once (opens (just (codes "begin")) (inside (λ p. body H (several (just (codes "alt")) p)) P))

  abbrev pub par_tail : Grammar (Tail A)
  par_tail = read_as taken_once (opens (just (codes "begin")) (inside (λ p. body H (several (just (codes "par")) p)) P))

  abbrev pub opt_tail : Grammar (Tail A)
  opt_tail = read_as taken_once (opens (just (codes "begin")) (inside (λ p. body H (single (just (codes "opt")) p)) P))

  abbrev pub exc_tail : Grammar (Tail A)
  exc_tail = read_as taken_once (opens (just (codes "begin")) (inside (λ p. body H (single (just (codes "exc")) p)) P))

  abbrev pub loop_tail : Grammar (Tail A)
  loop_tail = with_bounds (opens (just (codes "begin")) (inside (λ p. body H (single (just (codes "loop")) p)) P))

abbrev pub inline_item : {A : Type 0} → (A → Operand) → InlineForm → Place × Tail A → Item
inline_item f form p =
    tree.placed p.0 (Inline (record { form = form; lower = p.1.0.lower; upper = p.1.0.upper; name = p.1.1.0.0; shared = p.1.1.0.1 }) (operands (map f p.1.1.1)))

-- a form's word and what stands behind it
abbrev pub form : {A : Type 0} → (A → Operand) → InlineForm → Set → Grammar (Tail A) → Grammar Item
form f kind w T = read_as (inline_item f kind) (placed w T)

-- inline = "alt" .. | "par" .. | "opt" .. | "exc" .. | "loop" ..
abbrev pub inline : {A : Type 0} → (A → Operand) → Grammar Naming → Inner A → Grammar Item
inline f H P = or (form f Alt (just (codes "alt")) (alt_tail H P)) (or (form f Par (just (codes "par")) (par_tail H P)) (or (form f Opt (just (codes "opt")) (opt_tail H P))
    (or (form f Exc (just (codes "exc")) (exc_tail H P)) (form f Loop (just (codes "loop")) (loop_tail H P)))))
