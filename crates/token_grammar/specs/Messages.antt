-- How messages and timers are written (Z.120, clauses 4.3 and 4.8).
use Rattle.std.specs.Prelude.{ℕ, List, [], ◌∷◌, Option, codes}
use Rattle.token_grammar.specs.Classes.{exactly}
use Rattle.token_grammar.specs.Languages.{Set, just, names_or_strings}
use Rattle.token_grammar.specs.Grammars.{Grammar, seq, read_as, optional, behind, bytes_of}
use Rattle.token_grammar.specs.Parts.{name, mark, kept, all_or_none, separated}

-- item = name | string
abbrev pub item : Grammar (List ℕ)
item = bytes_of names_or_strings

-- "(" [ item { "," item } ] ")"
abbrev pub parameters : Grammar (List (List ℕ))
parameters = behind (just (codes "(")) (read_as (λ p. p.0) (optional all_or_none (separated (codes ",") item) (mark (codes ")"))))

-- the name, the name that serves the pairing alone, and the parameters
abbrev pub Message : Type 0
Message = List ℕ × Option (List ℕ) × Option (List (List ℕ))

-- message = name [ "," name ] [ parameters ], and what stands behind it
abbrev pub message : {A : Type 0} → Grammar A → Grammar (Message × A)
message next = read_as (λ p. ((p.0, p.1.0, p.1.1.0), p.1.1.1)) (seq name (optional kept (behind (just (codes ",")) name) (optional kept parameters next)))

-- both spellings of a timer's words
abbrev pub start_words : Set
start_words = exactly (codes "starttimer") ∷ exactly (codes "set") ∷ []

abbrev pub stop_words : Set
stop_words = exactly (codes "stoptimer") ∷ exactly (codes "reset") ∷ []
