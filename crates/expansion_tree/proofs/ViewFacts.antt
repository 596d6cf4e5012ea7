-- What the plain trees are of the types' values.
use Rattle.std.specs.Prelude.{ℕ, List, Option}
use Rattle.std.proofs.Common.{◌≡◌, ◌∙◌, sym, ap}
use Rattle.msc_base.specs.declared.label.Pair.{Pair}
use Rattle.hmsc_graph.specs.declared.shape.Shape.{Shape}
use Rattle.expansion_tree.specs.Expansions as plain
use Rattle.expansion_tree.specs.Numbered as numbered
use Rattle.expansion_tree.specs.Views.{expansion_step, expansion_view, expansions_view}
use Rattle.expansion_tree.specs.declared.tree.ExpandedEvent.{ExpandedEvent}
use Rattle.expansion_tree.specs.declared.tree.Expansion.{fold-roll-Expansion}
use Rattle.expansion_tree.specs.declared.tree.Expansion.TheVariants as tree
use Rattle.expansion_tree.specs.declared.tree.Expansion.TheOpen.{Expansion-F}

pub event_is : (e : ExpandedEvent) → expansion_view (tree.Event e) ≡ plain.Event e
event_is e = ap expansion_view (sym (tree.rolls-Event e)) ∙ fold-roll-Expansion numbered.Expansion expansion_step (Expansion-F.Event e)

pub row_is : (parts : _) → expansion_view (tree.InRow parts) ≡ plain.InRow (expansions_view parts.items)
row_is parts = ap expansion_view (sym (tree.rolls-InRow parts)) ∙ fold-roll-Expansion numbered.Expansion expansion_step (Expansion-F.InRow parts)

pub aside_is : (parts : _) → expansion_view (tree.Aside parts) ≡ plain.Aside (expansions_view parts.items)
aside_is parts = ap expansion_view (sym (tree.rolls-Aside parts)) ∙ fold-roll-Expansion numbered.Expansion expansion_step (Expansion-F.Aside parts)

pub choice_is : (parts : _) → expansion_view (tree.OneOf parts) ≡ plain.OneOf (expansions_view parts.items)
choice_is parts = ap expansion_view (sym (tree.rolls-OneOf parts)) ∙ fold-roll-Expansion numbered.Expansion expansion_step (Expansion-F.OneOf parts)

pub exception_is : (inner : _) → expansion_view (tree.Exception inner) ≡ plain.Exception (expansion_view inner.value)
exception_is inner = ap expansion_view (sym (tree.rolls-Exception inner)) ∙ fold-roll-Expansion numbered.Expansion expansion_step (Expansion-F.Exception inner)

pub turns_is : (n lower : ℕ) (upper : Option ℕ) (inner : _) → expansion_view (tree.Turns n lower upper inner) ≡ plain.Turns n lower upper (expansion_view inner.value)
turns_is n lower upper inner = ap expansion_view (sym (tree.rolls-Turns n lower upper inner)) ∙ fold-roll-Expansion numbered.Expansion expansion_step (Expansion-F.Turns n lower upper inner)

pub tied_is : (inner : _) (pairs : List Pair) → expansion_view (tree.Tied inner pairs) ≡ plain.Tied (expansion_view inner.value) pairs
tied_is inner pairs = ap expansion_view (sym (tree.rolls-Tied inner pairs)) ∙ fold-roll-Expansion numbered.Expansion expansion_step (Expansion-F.Tied inner pairs)

pub walk_is : (n : ℕ) (shape : Shape) (parts : _) → expansion_view (tree.Walk n shape parts) ≡ plain.Walk n shape (expansions_view parts.items)
walk_is n shape parts = ap expansion_view (sym (tree.rolls-Walk n shape parts)) ∙ fold-roll-Expansion numbered.Expansion expansion_step (Expansion-F.Walk n shape parts)
