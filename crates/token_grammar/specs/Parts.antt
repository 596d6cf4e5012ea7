-- Small productions that all parts of the notation share.
use Rattle.std.specs.Prelude.{ℕ, List, [], ◌∷◌, Option, Some, None, codes}
use Rattle.msc_base.specs.declared.place.Place.{Place}
use Rattle.token_grammar.specs.Classes.{string, name_but}
use Rattle.token_grammar.specs.Languages.{Set, just, names, numbers}
use Rattle.token_grammar.specs.Grammars.{Grammar, word, seq, read_as, chain, optional, behind, bytes_of}

abbrev pub name : Grammar (List ℕ)
name = bytes_of names

-- a name with its place
abbrev pub placed_name : Grammar (List ℕ × Place)
placed_name = read_as (λ t. (t.bytes, t.place)) (word names)

-- words that begin other statements of the notation
abbrev pub other_leads : List (List ℕ)
other_leads = codes "call" ∷ codes "create" ∷ codes "data" ∷ codes "endmethod" ∷ codes "endsuspension" ∷ codes "gate" ∷ codes "language"
    ∷ codes "method" ∷ codes "receive" ∷ codes "replyin" ∷ codes "replyout" ∷ codes "stop" ∷ codes "suspension" ∷ codes "variables" ∷ []

-- the names that may stand left of a statement's colon
abbrev pub leads : Set
leads = name_but other_leads ∷ []

abbrev pub lead : Grammar (List ℕ × Place)
lead = read_as (λ t. (t.bytes, t.place)) (word leads)

-- digits, and at least one
abbrev pub digits : Grammar (List ℕ)
digits = bytes_of numbers

abbrev pub mark : List ℕ → Grammar (List ℕ)
mark text = bytes_of (just text)

-- a part that may be missing counts as itself, or is dropped, or is a list that may be empty
abbrev pub kept : {A : Type 0} → Option A → Option A
kept part = part

abbrev pub dropped : {A : Type 0} → Option A → Unit {0}
dropped part = tt

abbrev pub all_or_none : {A : Type 0} → Option (List A) → List A
all_or_none None = []
all_or_none (Some list) = list

-- behind a word, with the word's place
abbrev pub placed : {A : Type 0} → Set → Grammar A → Grammar (Place × A)
placed words R = read_as (λ p. (p.0.place, p.1)) (seq (word words) R)

-- end = [ "comment" string ] ";"
abbrev pub ending : Grammar (Unit {0})
ending = read_as (λ p. p.0) (optional dropped (behind (just (codes "comment")) (bytes_of (string ∷ []))) (mark (codes ";")))

abbrev pub all_of : {A : Type 0} → A × List A → List A
all_of p = p.0 ∷ p.1

-- one, and any number of others, with this text between them
abbrev pub separated : {A : Type 0} → List ℕ → Grammar A → Grammar (List A)
separated text R = read_as all_of (chain R (behind (just text) R))

-- names = name { "," name }
abbrev pub name_list : Grammar (List (List ℕ))
name_list = separated (codes ",") name
