-- What a list of tokens parses as: the value that it reads as, or its first refusal.
use Rattle.std.specs.Prelude.{ℕ, suc, ◌≡◌, ◌++◌, List, [], ◌∷◌, length}
use Rattle.msc_tokens.specs.declared.token.Token.{Token}
use Rattle.token_grammar.specs.Grammars.{Grammar}

module _ {A : Type 0} (R : ℕ → Grammar A) where
  -- the tokens begin something that reads with so many levels
  pub record BeginsReading (n : ℕ) (prefix : List Token) : Type 0 where
    pub more : List Token
    pub value : A
    pub reads : (R n).reads (prefix ++ more) value

  -- no token of them opens a level too many
  abbrev pub Level : ℕ → List Token → Type 0
  Level n prefix = (p q : List Token) → prefix ≡ p ++ q → (R n).brink p → ⊥

  -- The tokens before the last `left` ones begin something, and none opens a level too many; with the first of those
  -- they begin nothing, however many levels there may be. Where no token is left, they are themselves nothing.
  pub record IsRefused (levels : ℕ) (tokens : List Token) (left : ℕ) : Type 0 where
    pub prefix : List Token
    pub rest : List Token
    pub cut : tokens ≡ prefix ++ rest
    pub counted : left ≡ length rest
    pub begins : BeginsReading (suc levels) prefix
    pub level : Level levels prefix
    pub stops : (n : ℕ) (token : Token) (behind : List Token) → rest ≡ token ∷ behind → BeginsReading n (prefix ++ token ∷ []) → ⊥
    pub ends : rest ≡ [] → (n : ℕ) (value : A) → (R n).reads prefix value → ⊥

  -- the first of the last `left` tokens opens a level too many, and none before it does
  pub record IsTooDeep (levels : ℕ) (tokens : List Token) (left : ℕ) : Type 0 where
    pub prefix : List Token
    pub token : Token
    pub rest : List Token
    pub cut : tokens ≡ prefix ++ token ∷ rest
    pub counted : left ≡ length (token ∷ rest)
    pub opens : (R levels).brink (prefix ++ token ∷ [])
    pub level : Level levels prefix

  -- tokens read as at most one value
  abbrev pub OneReading : Type 0
  OneReading = (m n : ℕ) (tokens : List Token) (a b : A) → (R m).reads tokens a → (R n).reads tokens b → a ≡ b
