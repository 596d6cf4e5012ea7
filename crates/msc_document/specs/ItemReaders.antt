-- Serves private contracts alone.
-- Readers of items in the form that the code has: one for columns and elsewhere, with operands as they are held.
use Rattle.std.specs.Prelude.{ℕ, List, [], ◌∷◌, ◌++◌, length, map, Bool, Some, Ok, codes}
use Rattle.msc_base.specs.declared.place.Place.{Place}
use Rattle.msc_tokens.specs.declared.token.Token.{Token}
use Rattle.msc_tree.specs.declared.reference.InlineForm.{InlineForm}
use Rattle.msc_tree.specs.declared.reference.InlineForm.TheVariants.{Alt, Opt, Par, Loop, Exc}
use Rattle.msc_tree.specs.Statements.{Item, Operand, Inline, operands}
use Rattle.msc_tree.specs.Statements as tree
use Rattle.msc_tree.specs.Views.{operand_view}
use Rattle.token_grammar.specs.Languages.{Read, ◌>>=◌, just, seq_at, either_at, map_at}
use Rattle.token_grammar.specs.PartReaders.{placed_at, more_at}
use Rattle.msc_events.specs.EventReaders.{single_words}
use Rattle.msc_expression.specs.Bounds.{loop_bounds_at}
use Rattle.msc_expression.specs.ExpressionReaders.{expression_at}
use Rattle.msc_expression.specs.Levels.{within_at}
use Rattle.msc_document.specs.Inlines.{Tail, Naming, taken_once}
use Rattle.msc_document.specs.declared.item.InlineBody.{InlineBody}
use Rattle.msc_document.specs.DocumentGrammar.{column_operand, outside_operand}
use Rattle.msc_document.specs.DocumentReaders.{end_words, closing_at, next_part_at, going_at, form_word, form_words, multi_words, body_at, single_item_at, coregion_item_at, stop_item_at, condition_item_at, reference_item_at, column_at, column_event_at, outside_at, outside_tails_at}
use Rattle.msc_events.specs.declared.orientation.Orientation.{Orientation}
use Rattle.msc_events.specs.declared.orientation.Orientation.TheVariants as written

-- an operand with its form's word behind it
abbrev pub operand_at : Orientation → InlineForm → ℕ → List Token → Read Operand
operand_at written.Column form n = map_at column_operand (column_at (Some form) (column_event_at n))
operand_at written.Covered form n = map_at outside_operand (outside_at form n (outside_tails_at n))

-- what a contract sees of what stands in the level
abbrev pub body_view : InlineBody → Naming × List Operand
body_view b = ((b.name, b.shared), map operand_view b.operands.items)

-- behind `begin`
abbrev pub inline_body_at : Orientation → InlineForm → ℕ → List Token → Read (Naming × List Operand)
inline_body_at orientation form n = body_at orientation form (operand_at orientation form n)

-- behind `begin`, where so many levels are left before it
abbrev pub level_at : Orientation → InlineForm → ℕ → List Token → Read (Naming × List Operand)
level_at orientation form n = within_at (just (codes "begin")) (inline_body_at orientation form) n

-- behind the word of a form
abbrev pub inline_tail_at : Orientation → InlineForm → ℕ → List Token → Read (Tail Operand)
inline_tail_at orientation Loop n = seq_at loop_bounds_at (level_at orientation Loop n)
inline_tail_at orientation form n = map_at taken_once (level_at orientation form n)

abbrev pub inline_parts : InlineForm → Tail Operand → tree.Form
inline_parts form p = Inline (record { form = form; lower = p.0.lower; upper = p.0.upper; name = p.1.0.0; shared = p.1.0.1 }) (operands p.1.1)

abbrev pub item_of : InlineForm → Place × Tail Operand → Item
item_of form p = tree.placed p.0 (inline_parts form p.1)

abbrev pub inline_form_at : Orientation → InlineForm → ℕ → List Token → Read Item
inline_form_at orientation form n = map_at (item_of form) (placed_at (form_word form) (inline_tail_at orientation form n))

abbrev pub inline_item_at : Orientation → ℕ → List Token → Read Item
inline_item_at orientation n = either_at (form_word Alt) (inline_form_at orientation Alt n) (either_at (form_word Par) (inline_form_at orientation Par n) (either_at (form_word Opt) (inline_form_at orientation Opt n)
    (either_at (form_word Exc) (inline_form_at orientation Exc n) (inline_form_at orientation Loop n))))

abbrev pub multi_item_at : Orientation → ℕ → List Token → Read Item
multi_item_at orientation n = either_at (just (codes "condition")) (condition_item_at orientation) (either_at form_words (inline_item_at orientation n) (reference_item_at orientation (expression_at n)))

abbrev pub event_item_at : Orientation → ℕ → List Token → Read Item
event_item_at orientation n = either_at single_words single_item_at (either_at (just (codes "concurrent")) coregion_item_at (either_at multi_words (multi_item_at orientation n) stop_item_at))

-- ---- loops

-- at most so many while they go on, behind those that there are
abbrev pub more_going_at : {A : Type 0} → (List Token → Bool) → (List Token → Read A) → List A → ℕ → List Token → Read (List A)
more_going_at goes q prefix k ts = going_at goes q k ts >>= λ x. Ok (prefix ++ x.0, x.1)

-- operands one by one, and the last end
abbrev pub listed_operands_at : {A : Type 0} → (List Token → Read A) → List Token → Read (List A)
listed_operands_at q ts = q ts >>= λ x. more_at end_words (next_part_at q) (x.0 ∷ []) (length x.1) x.1 >>= λ y. closing_at y.1 >>= λ z. Ok (y.0, z.1)
