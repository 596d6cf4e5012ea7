-- The tokens of items, inline expressions and statements.
use Rattle.std.specs.Prelude.{ℕ, List, [], ◌∷◌, ◌++◌, Option, codes}
use Rattle.msc_tree.specs.Forms.{form_text}
use Rattle.msc_tree.specs.declared.chart.Cover.{Cover}
use Rattle.msc_tree.specs.declared.chart.Cover.TheVariants.{All, Listed}
use Rattle.msc_tree.specs.declared.chart.Decl.{Decl}
use Rattle.msc_tree.specs.declared.reference.InlineForm.{InlineForm}
use Rattle.msc_tree.specs.declared.reference.InlineForm.TheVariants as form
use Rattle.msc_tree.specs.declared.reference.Join.{Join}
use Rattle.msc_tree.specs.declared.reference.JoinEnd.{JoinEnd}
use Rattle.msc_tree.specs.declared.reference.JoinEnd.TheVariants as join_end
use Rattle.msc_tree.specs.Statements.{InlineHead, Reference, Item, placed, Form, Single, Coregion, Condition, Inline, Refer, Stop, Items, no_items, item_and, Operand, InColumn, Outside, Operands, no_operands, operand_and, Statement, Column, Covered, Heading, Ended, Statements, no_statements, statement_and}
use Rattle.msc_print.specs.Words.{Words, alone, separated_words, name_words, if_any, end_words}
use Rattle.msc_print.specs.ExpressionWords.{expression_words, bound_words}
use Rattle.msc_print.specs.EventWords.{event_words, coregion_words}

-- [ "decomposed" "as" name ]
abbrev pub refined_words : Option (List ℕ) → Words
refined_words = if_any (λ chart. codes "decomposed" ∷ codes "as" ∷ chart ∷ [])

-- [ ":" name [ name ] ]
abbrev pub kind_words : List (List ℕ) → Words
kind_words [] = []
kind_words (kind ∷ more) = codes ":" ∷ kind ∷ more

-- name [ ":" name [ name ] ] [ "decomposed" "as" name ]
abbrev pub decl_words : Decl → Words
decl_words d = d.name ∷ (kind_words d.kind ++ refined_words d.refined)

-- "shared" [ "all" | names ]
abbrev pub cover_words : Cover → Words
cover_words All = codes "shared" ∷ codes "all" ∷ []
cover_words (Listed names) = codes "shared" ∷ name_words names

abbrev pub shared_words : Option Cover → Words
shared_words = if_any cover_words

-- "condition" names [ shared ] end
abbrev pub condition_words : List (List ℕ) → Option Cover → Words
condition_words names shared = codes "condition" ∷ (name_words names ++ (shared_words shared ++ end_words))

-- ---- references

abbrev pub join_end_words : JoinEnd → Words
join_end_words (join_end.Env gate) = codes "env" ∷ codes "via" ∷ gate ∷ []
join_end_words (join_end.Reference reference gate) = codes "reference" ∷ reference ∷ codes "via" ∷ gate ∷ []

-- name "to" join_end
abbrev pub join_words : Join → Words
join_words j = j.gate ∷ codes "to" ∷ join_end_words j.to

-- [ "via" join { "," join } ]
abbrev pub joins_words : List Join → Words
joins_words [] = []
joins_words (j ∷ js) = codes "via" ∷ separated_words (codes ",") join_words (j ∷ js)

-- [ name ":" ]
abbrev pub known_words : Option (List ℕ) → Words
known_words = if_any (λ known. known ∷ codes ":" ∷ [])

-- "reference" [ name ":" ] expr [ joins ] [ shared ] end
abbrev pub reference_words : Reference → Words
reference_words r = codes "reference" ∷ (known_words r.name ++ (expression_words r.expression ++ (joins_words r.joins ++ (shared_words r.shared ++ end_words))))

-- ---- items, operands and statements

-- the bounds of a loop; no other form has any
abbrev pub bounds_in : InlineForm → ℕ → Option ℕ → Words
bounds_in form.Loop lower upper = bound_words lower upper
bounds_in _ lower upper = []

abbrev pub naming_words : Option (List ℕ) → Words
naming_words = if_any alone

-- "begin" [ name ] [ shared ] end
abbrev pub begun_words : Option (List ℕ) → Option Cover → Words
begun_words known shared = codes "begin" ∷ (naming_words known ++ (shared_words shared ++ end_words))

-- W [ bounds ] "begin" [ name ] [ shared ] end
abbrev pub head_words : InlineHead → Words
head_words h = form_text h.form ∷ (bounds_in h.form h.lower h.upper ++ begun_words h.name h.shared)

-- name ":" "instance" [ name [ name ] ] [ "decomposed" "as" name ] end
abbrev pub heading_words : Decl → Words
heading_words d = d.name ∷ codes ":" ∷ codes "instance" ∷ (d.kind ++ (refined_words d.refined ++ end_words))

-- name ":" "endinstance" end
abbrev pub ended_words : List ℕ → Words
ended_words instance_name = instance_name ∷ codes ":" ∷ codes "endinstance" ∷ end_words

-- what stands left of the colon
abbrev pub left_words : Cover → Words
left_words All = codes "all" ∷ []
left_words (Listed names) = name_words names

-- "instance" decl end { event } "endinstance" end, where the events have these tokens
abbrev pub column_words : Decl → Words → Words
column_words decl events = codes "instance" ∷ (decl_words decl ++ (end_words ++ (events ++ codes "endinstance" ∷ end_words)))

-- the covered instances, ":" and their items, which have these tokens
abbrev pub covered_words : Cover → Words → Words
covered_words cover items = left_words cover ++ codes ":" ∷ items

abbrev mutual
  pub item_words : Item → Words
  item_words (placed place form) = what_words form

  pub what_words : Form → Words
  what_words (Single event) = event_words event
  what_words (Coregion events) = coregion_words events
  what_words (Condition names shared) = condition_words names shared
  what_words (Inline head operands) = head_words head ++ (operands_words (form_text head.form) operands ++ form_text head.form ∷ codes "end" ∷ end_words)
  what_words (Refer reference) = reference_words reference
  what_words Stop = codes "stop" ∷ end_words

  pub items_words : Items → Words
  items_words no_items = []
  items_words (item_and item items) = item_words item ++ items_words items

  pub operand_words : Operand → Words
  operand_words (InColumn items) = items_words items
  operand_words (Outside statements) = statements_words statements

  -- operands, with the form's word and an end between them
  pub operands_words : List ℕ → Operands → Words
  operands_words word no_operands = []
  operands_words word (operand_and operand operands) = operand_words operand ++ other_operand_words word operands

  pub other_operand_words : List ℕ → Operands → Words
  other_operand_words word no_operands = []
  other_operand_words word (operand_and operand operands) = word ∷ (end_words ++ (operand_words operand ++ other_operand_words word operands))

  pub statement_words : Statement → Words
  statement_words (Column decl items) = column_words decl (items_words items)
  statement_words (Covered cover items) = covered_words cover (items_words items)
  statement_words (Heading decl) = heading_words decl
  statement_words (Ended instance_name) = ended_words instance_name

  pub statements_words : Statements → Words
  statements_words no_statements = []
  statements_words (statement_and statement statements) = statement_words statement ++ statements_words statements
