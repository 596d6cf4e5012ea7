-- What a grammar is written in: which tokens read as which value, and which tokens end with one that opens a level too many.
use Rattle.std.specs.Prelude.{ℕ, zero, suc, ◌≡◌, ◌++◌, ◌⊎◌, true, List, [], ◌∷◌, Option, Some, None}
use Rattle.msc_tokens.specs.declared.token.Token.{Token}
use Rattle.token_grammar.specs.Languages.{Set, among}
use Rattle.token_grammar.specs.Languages as rules

pub record Grammar (A : Type 0) : Type 1 where
  -- these tokens read as this value
  pub reads : List Token → A → Type 0
  -- these tokens are in order, and the last of them opens a level more than there may be
  pub brink : List Token → Type 0

abbrev pub word : Set → Grammar Token
word s = record { reads = rules.word s; brink = λ p. ⊥ }

abbrev pub seq : {A B : Type 0} → Grammar A → Grammar B → Grammar (A × B)
seq {A = A} R S = record {
  reads = rules.seq R.reads S.reads;
  brink = λ p. R.brink p ⊎ ((y : List Token) × (z : List Token) × (a : A) × (p ≡ y ++ z) × R.reads y a × S.brink z);
}

abbrev pub or : {A : Type 0} → Grammar A → Grammar A → Grammar A
or R S = record { reads = rules.or R.reads S.reads; brink = λ p. R.brink p ⊎ S.brink p }

abbrev pub read_as : {A B : Type 0} → (A → B) → Grammar A → Grammar B
read_as f R = record { reads = rules.read_as f R.reads; brink = R.brink }

-- some of them, and then an opening
abbrev pub behind_each : {A : Type 0} → Grammar A → (List Token → Type 0) → List Token → Type 0
behind_each {A = A} R K p = (y : List Token) × (z : List Token) × (bs : List A) × (p ≡ y ++ z) × rules.each R.reads y bs × K z

-- one, and any number of others behind it
abbrev pub chain : {A B : Type 0} → Grammar A → Grammar B → Grammar (A × List B)
chain {A = A} R S = record {
  reads = rules.chain R.reads S.reads;
  brink = λ p. R.brink p ⊎ ((y : List Token) × (z : List Token) × (a : A) × (p ≡ y ++ z) × R.reads y a × behind_each S S.brink z);
}

-- any number of them, and then what ends them
abbrev pub until : {A B : Type 0} → Grammar A → Grammar B → Grammar (List A × B)
until R S = record { reads = rules.until R.reads S.reads; brink = λ p. behind_each R R.brink p ⊎ behind_each R S.brink p }

-- with or without a part behind it
abbrev pub tail : {A B : Type 0} → Grammar A → Grammar B → Grammar (A × Option B)
tail R S = record { reads = rules.tail R.reads S.reads; brink = (seq R S).brink }

-- what stands one level deeper, where there is one more level
pub data Inner (A : Type 0) : Type 1 where
  shut : Inner A
  inner : Grammar A → Inner A

-- a word that opens a level, and what stands in the level
abbrev pub opens : {A : Type 0} → Set → Inner A → Grammar A
opens s shut = record { reads = rules.never; brink = λ p. (t : Token) × (p ≡ t ∷ []) × (among s t ≡ true) }
opens s (inner R) = record {
  reads = rules.opens s R.reads;
  brink = λ p. (t : Token) × (z : List Token) × (p ≡ t ∷ z) × (among s t ≡ true) × R.brink z;
}

-- with or without the first part
abbrev pub maybe : {A B : Type 0} → Grammar A → Grammar B → Grammar (Option A × B)
maybe R S = or (read_as (λ p. (Some p.0, p.1)) (seq R S)) (read_as (λ b. (None, b)) S)

-- with or without the first part, where v says what it counts as
abbrev pub optional : {A B V : Type 0} → (Option A → V) → Grammar A → Grammar B → Grammar (V × B)
optional v R S = read_as (λ p. (v p.0, p.1)) (maybe R S)

-- behind a word, which is dropped
abbrev pub behind : {A : Type 0} → Set → Grammar A → Grammar A
behind s R = read_as (λ p. p.1) (seq (word s) R)

-- the bytes of one token
abbrev pub bytes_of : Set → Grammar (List ℕ)
bytes_of s = read_as (λ t. t.bytes) (word s)

-- what stands in a level, one level up
abbrev pub below : {A : Type 0} → (ℕ → Grammar A) → ℕ → Inner A
below R zero = shut
below R (suc n) = inner (R n)

abbrev pub inside : {A B : Type 0} → (Grammar A → Grammar B) → Inner A → Inner B
inside f shut = shut
inside f (inner R) = inner (f R)
