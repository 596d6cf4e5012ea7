-- Readers of the small productions.
use Rattle.std.specs.Prelude.{ℕ, List, [], ◌∷◌, ◌++◌, Option, Ok, codes}
use Rattle.msc_base.specs.declared.place.Place.{Place}
use Rattle.msc_tokens.specs.declared.token.Token.{Token}
use Rattle.token_grammar.specs.Classes.{string}
use Rattle.token_grammar.specs.Languages.{Set, Read, just, names, names_or_strings, numbers, ◌>>=◌, word_at, each_at, seq_at, map_at, chain_at, optional_at, behind_at, bytes_at}
use Rattle.token_grammar.specs.Parts.{dropped, kept, all_or_none, all_of, leads}
use Rattle.token_grammar.specs.Messages.{Message}
use Rattle.token_grammar.specs.declared.messages.MessageParts.{MessageParts}

abbrev pub name_at : List Token → Read (List ℕ)
name_at = bytes_at names

abbrev pub placed_name_at : List Token → Read (List ℕ × Place)
placed_name_at = map_at (λ t. (t.bytes, t.place)) (word_at names)

abbrev pub lead_at : List Token → Read (List ℕ × Place)
lead_at = map_at (λ t. (t.bytes, t.place)) (word_at leads)

abbrev pub placed_at : {A : Type 0} → Set → (List Token → Read A) → List Token → Read (Place × A)
placed_at words q = map_at (λ p. (p.0.place, p.1)) (seq_at (word_at words) q)

abbrev pub digits_at : List Token → Read (List ℕ)
digits_at = bytes_at numbers

abbrev pub mark_at : List ℕ → List Token → Read (List ℕ)
mark_at text = bytes_at (just text)

abbrev pub comment_at : List Token → Read (Unit {0})
comment_at = optional_at (just (codes "comment")) dropped (behind_at (just (codes "comment")) (bytes_at (string ∷ [])))

abbrev pub ending_at : List Token → Read (Unit {0})
ending_at = map_at (λ p. p.0) (seq_at comment_at (mark_at (codes ";")))

abbrev pub separated_at : {A : Type 0} → List ℕ → (List Token → Read A) → List Token → Read (List A)
separated_at text q = map_at all_of (chain_at (just text) q (behind_at (just text) q))

-- at most so many others, behind those that there are
abbrev pub more_at : {A : Type 0} → Set → (List Token → Read A) → List A → ℕ → List Token → Read (List A)
more_at s q prefix k ts = each_at s q k ts >>= λ x. Ok (prefix ++ x.0, x.1)

abbrev pub comma_name_at : List Token → Read (List ℕ)
comma_name_at = behind_at (just (codes ",")) name_at

abbrev pub more_names_at : List (List ℕ) → ℕ → List Token → Read (List (List ℕ))
more_names_at = more_at (just (codes ",")) comma_name_at

abbrev pub name_list_at : List Token → Read (List (List ℕ))
name_list_at = separated_at (codes ",") name_at

-- ---- messages

abbrev pub item_at : List Token → Read (List ℕ)
item_at = bytes_at names_or_strings

abbrev pub comma_item_at : List Token → Read (List ℕ)
comma_item_at = behind_at (just (codes ",")) item_at

abbrev pub items_at : List Token → Read (List (List ℕ))
items_at = separated_at (codes ",") item_at

abbrev pub more_items_at : List (List ℕ) → ℕ → List Token → Read (List (List ℕ))
more_items_at = more_at (just (codes ",")) comma_item_at

-- the items, where there are any
abbrev pub inside_at : List Token → Read (List (List ℕ))
inside_at = optional_at names_or_strings all_or_none items_at

abbrev pub parameters_at : List Token → Read (List (List ℕ))
parameters_at = behind_at (just (codes "(")) (map_at (λ p. p.0) (seq_at inside_at (mark_at (codes ")"))))

abbrev pub pairing_at : List Token → Read (Option (List ℕ))
pairing_at = optional_at (just (codes ",")) kept (behind_at (just (codes ",")) name_at)

abbrev pub list_at : List Token → Read (Option (List (List ℕ)))
list_at = optional_at (just (codes "(")) kept parameters_at

abbrev pub message_at : List Token → Read Message
message_at = map_at (λ p. (p.0, p.1.0, p.1.1)) (seq_at name_at (seq_at pairing_at list_at))

-- what a contract sees of a message
abbrev pub message_view : MessageParts → Message
message_view m = (m.text, m.pairing, m.parameters)
