-- Relations between tokens and what they read as, and readers of a list's prefix.
use Rattle.std.specs.Prelude.{ℕ, ◌≡◌, ◌++◌, ◌⊎◌, ◌&&◌, Bool, true, false, List, [], ◌∷◌, length, map, Option, Some, None, Result, Ok, Err, if◌then◌else◌, suc, zero}
use Rattle.std.specs.List.{list_any, list_all}
use Rattle.msc_tokens.specs.declared.token.Token.{Token}
use Rattle.token_grammar.specs.Classes.{Class, exactly, name_but, string, number, fits, differ, covers}

-- ---- sets of classes

abbrev pub Set : Type 0
Set = List Class

-- this text alone
abbrev pub just : List ℕ → Set
just text = exactly text ∷ []

abbrev pub names : Set
names = name_but [] ∷ []

abbrev pub strings : Set
strings = string ∷ []

abbrev pub numbers : Set
numbers = number ∷ []

abbrev pub names_or_strings : Set
names_or_strings = name_but [] ∷ string ∷ []

-- a token with these bytes is of one of the classes
abbrev pub any_fits : Set → List ℕ → Bool
any_fits s bytes = list_any (λ k. fits k bytes) s

-- the token is of one of the classes
abbrev pub among : Set → Token → Bool
among s t = any_fits s t.bytes

-- no token is of a class of both
abbrev pub apart : Set → Set → Bool
apart s t = list_all (λ k. list_all (λ j. differ k j) t) s

-- each class of the first is within one of the second
abbrev pub within : Set → Set → Bool
within s t = list_all (λ k. list_any (λ j. covers k j) t) s

abbrev pub starts : Set → List Token → Bool
starts s [] = false
starts s (t ∷ ts) = among s t

-- the bytes of each token
abbrev pub texts : List Token → List (List ℕ)
texts tokens = map (λ t. t.bytes) tokens

-- ---- what tokens read as

abbrev pub Language : Type 0 → Type 1
Language A = List Token → A → Type 0

abbrev pub word : Set → Language Token
word s x t = (x ≡ t ∷ []) × (among s t ≡ true)

abbrev pub seq : {A B : Type 0} → Language A → Language B → Language (A × B)
seq R S x p = (y : List Token) × (z : List Token) × (x ≡ y ++ z) × R y p.0 × S z p.1

abbrev pub or : {A : Type 0} → Language A → Language A → Language A
or R S x a = R x a ⊎ S x a

abbrev pub read_as : {A B : Type 0} → (A → B) → Language A → Language B
read_as {A = A} f R x b = (a : A) × R x a × (b ≡ f a)

-- any number of them
abbrev pub each : {B : Type 0} → Language B → Language (List B)
each S x [] = x ≡ []
each S x (b ∷ bs) = (y : List Token) × (z : List Token) × (x ≡ y ++ z) × S y b × each S z bs

-- one, and any number of others behind it
abbrev pub chain : {A B : Type 0} → Language A → Language B → Language (A × List B)
chain R S x p = (y : List Token) × (z : List Token) × (x ≡ y ++ z) × R y p.0 × each S z p.1

-- a word that opens a level, and what stands in the level
abbrev pub opens : {A : Type 0} → Set → Language A → Language A
opens s R x a = (t : Token) × (z : List Token) × (x ≡ t ∷ z) × (among s t ≡ true) × R z a

abbrev pub never : {A : Type 0} → Language A
never x a = ⊥

-- ---- the same, where the number says how many levels may be opened

abbrev pub Layered : Type 0 → Type 1
Layered A = ℕ → List Token → A → Type 0

abbrev pub Word : Set → Layered Token
Word s n = word s

abbrev pub Seq : {A B : Type 0} → Layered A → Layered B → Layered (A × B)
Seq R S n = seq (R n) (S n)

abbrev pub Either : {A : Type 0} → Layered A → Layered A → Layered A
Either R S n = or (R n) (S n)

abbrev pub Map : {A B : Type 0} → (A → B) → Layered A → Layered B
Map f R n = read_as f (R n)

abbrev pub Each : {B : Type 0} → Layered B → Layered (List B)
Each S n = each (S n)

abbrev pub Chain : {A B : Type 0} → Layered A → Layered B → Layered (A × List B)
Chain R S n = chain (R n) (S n)

abbrev pub Opens : {A : Type 0} → Set → Layered A → Layered A
Opens s R zero = never
Opens s R (suc n) = opens s (R n)

-- ---- readers

-- where a reader stops: how many tokens are left at the token that is refused, or opens a level too many
pub data Stop : Type 0 where
  refused : ℕ → Stop
  deep : ℕ → Stop

abbrev pub Read : Type 0 → Type 0
Read A = Result (A × List Token) Stop

infixl 10 ◌>>=◌
abbrev pub ◌>>=◌ : {A B : Type 0} → Read A → (A × List Token → Read B) → Read B
(Ok x) >>= f = f x
(Err e) >>= f = Err e

abbrev pub word_at : Set → List Token → Read Token
word_at s [] = Err (refused 0)
word_at s (t ∷ ts) = if among s t then Ok (t, ts) else Err (refused (length (t ∷ ts)))

abbrev pub seq_at : {A B : Type 0} → (List Token → Read A) → (List Token → Read B) → List Token → Read (A × B)
seq_at p q ts = p ts >>= λ x. q x.1 >>= λ y. Ok ((x.0, y.0), y.1)

abbrev pub either_at : {A : Type 0} → Set → (List Token → Read A) → (List Token → Read A) → List Token → Read A
either_at s p q ts = if starts s ts then p ts else q ts

abbrev pub map_at : {A B : Type 0} → (A → B) → (List Token → Read A) → List Token → Read B
map_at f p ts = p ts >>= λ x. Ok (f x.0, x.1)

-- at most k of them
abbrev pub each_at : {B : Type 0} → Set → (List Token → Read B) → ℕ → List Token → Read (List B)
each_at s q zero ts = Ok ([], ts)
each_at s q (suc k) ts = if starts s ts then (q ts >>= λ x. each_at s q k x.1 >>= λ y. Ok (x.0 ∷ y.0, y.1)) else Ok ([], ts)

abbrev pub chain_at : {A B : Type 0} → Set → (List Token → Read A) → (List Token → Read B) → List Token → Read (A × List B)
chain_at s p q ts = p ts >>= λ x. each_at s q (length x.1) x.1 >>= λ y. Ok ((x.0, y.0), y.1)

-- behind a word that opens a level, where there is one more
abbrev pub opens_at : {A : Type 0} → Set → Option (List Token → Read A) → List Token → Read A
opens_at s p [] = Err (refused 0)
opens_at s None (t ∷ ts) = Err (if among s t then deep (length (t ∷ ts)) else refused (length (t ∷ ts)))
opens_at s (Some p) (t ∷ ts) = if among s t then p ts else Err (refused (length (t ∷ ts)))

-- any number of them, and then what ends them
abbrev pub until : {A B : Type 0} → Language A → Language B → Language (List A × B)
until R S x p = (y : List Token) × (z : List Token) × (x ≡ y ++ z) × each R y p.0 × S z p.1

abbrev pub Until : {A B : Type 0} → Layered A → Layered B → Layered (List A × B)
Until R S n = until (R n) (S n)

abbrev pub until_at : {A B : Type 0} → Set → (List Token → Read A) → (List Token → Read B) → List Token → Read (List A × B)
until_at s q p ts = each_at s q (length ts) ts >>= λ x. p x.1 >>= λ y. Ok ((x.0, y.0), y.1)

-- where the first token is of the set
abbrev pub only_at : {A : Type 0} → Set → (List Token → Read A) → List Token → Read A
only_at s p ts = if starts s ts then p ts else Err (refused (length ts))

-- the second token decides
abbrev pub second : Set → Set → List Token → Bool
second s t [] = false
second s t (c ∷ ts) = among s c && starts t ts

abbrev pub second_at : {A : Type 0} → Set → Set → (List Token → Read A) → (List Token → Read A) → List Token → Read A
second_at s t p q ts = if second s t ts then p ts else q ts

-- with or without a part behind it
abbrev pub tail : {A B : Type 0} → Language A → Language B → Language (A × Option B)
tail R S x (a, None) = R x a
tail R S x (a, Some b) = seq R S x (a, b)

abbrev pub Tail : {A B : Type 0} → Layered A → Layered B → Layered (A × Option B)
Tail R S n = tail (R n) (S n)

abbrev pub tail_at : {A B : Type 0} → Set → (List Token → Read A) → (List Token → Read B) → List Token → Read (A × Option B)
tail_at s p q ts = p ts >>= λ x. if starts s x.1 then (q x.1 >>= λ y. Ok ((x.0, Some y.0), y.1)) else Ok ((x.0, None), x.1)

-- what can't stand behind it
abbrev pub tail_ends : {A B : Type 0} → (A → Set) → Set → (B → Set) → A × Option B → Set
tail_ends C G D (a, None) = G ++ C a
tail_ends C G D (a, Some b) = D b

-- where the first token is of the set, and what it counts as
abbrev pub optional_at : {A V : Type 0} → Set → (Option A → V) → (List Token → Read A) → List Token → Read V
optional_at s v p ts = if starts s ts then (p ts >>= λ x. Ok (v (Some x.0), x.1)) else Ok (v None, ts)

-- behind a word, which is dropped
abbrev pub behind_at : {A : Type 0} → Set → (List Token → Read A) → List Token → Read A
behind_at s p = map_at (λ x. x.1) (seq_at (word_at s) p)

-- the bytes of the first token
abbrev pub bytes_at : Set → List Token → Read (List ℕ)
bytes_at s = map_at (λ t. t.bytes) (word_at s)
