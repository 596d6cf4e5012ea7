-- Lists of tokens, as their texts.
use Rattle.std.specs.Prelude.{ℕ, Bool, true, false, List, [], ◌∷◌, ◌++◌, Option, Some, None, codes}
use Rattle.std.specs.List.{flat_map}

abbrev pub Words : Type 0
Words = List (List ℕ)

-- a text alone
abbrev pub alone : List ℕ → Words
alone text = text ∷ []

-- one after another
abbrev pub all_words : {A : Type 0} → (A → Words) → List A → Words
all_words f xs = flat_map f xs

-- each with this text in front
abbrev pub each_behind : {A : Type 0} → List ℕ → (A → Words) → List A → Words
each_behind text f [] = []
each_behind text f (x ∷ xs) = text ∷ (f x ++ each_behind text f xs)

-- with this text between them
abbrev pub separated_words : {A : Type 0} → List ℕ → (A → Words) → List A → Words
separated_words text f [] = []
separated_words text f (x ∷ xs) = f x ++ each_behind text f xs

-- names, or items of a list, with commas between them
abbrev pub name_words : List (List ℕ) → Words
name_words = separated_words (codes ",") alone

-- the word and the names, where there is one
abbrev pub names_behind : List ℕ → List (List ℕ) → Words
names_behind word [] = []
names_behind word (x ∷ xs) = word ∷ name_words (x ∷ xs)

-- what is printed of a part that may be missing
abbrev pub if_any : {A : Type 0} → (A → Words) → Option A → Words
if_any f None = []
if_any f (Some x) = f x

abbrev pub end_words : Words
end_words = codes ";" ∷ []

-- what stands in front of a part, where it isn't the first
abbrev pub separator : Bool → Words → Words
separator true words = []
separator false words = words
