-- What the text of an event consists of: its name, and the list in parentheses behind it (`label_of` of msc_tree writes them one behind the other).
use Rattle.std.specs.Prelude.{ℕ, Bool, true, false, ◌&&◌, List, [], ◌∷◌, Option, None, Some}
use Rattle.std.specs.Str.{bytes_eq}
use Rattle.msc_tree.specs.declared.event.RawEvent.{RawEvent}
use Rattle.gate_tables.specs.declared.messages.MessageText as code

pub record MessageText : Type 0 where
  pub name : List ℕ
  pub parameters : Option (List (List ℕ))

abbrev pub text_parts : RawEvent → MessageText
text_parts e = record { name = e.text; parameters = e.parameters }

abbrev pub message_view : code.MessageText → MessageText
message_view m = record { name = m.name.now; parameters = m.parameters.now }

abbrev pub are_same_items : List (List ℕ) → List (List ℕ) → Bool
are_same_items [] [] = true
are_same_items [] (y ∷ ys) = false
are_same_items (x ∷ xs) [] = false
are_same_items (x ∷ xs) (y ∷ ys) = bytes_eq x y && are_same_items xs ys

abbrev pub are_same_lists : Option (List (List ℕ)) → Option (List (List ℕ)) → Bool
are_same_lists None None = true
are_same_lists None (Some ys) = false
are_same_lists (Some xs) None = false
are_same_lists (Some xs) (Some ys) = are_same_items xs ys

-- the same name, and the same list or none
abbrev pub is_same_text : MessageText → MessageText → Bool
is_same_text a b = bytes_eq a.name b.name && are_same_lists a.parameters b.parameters
