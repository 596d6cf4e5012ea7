-- What a fault says of tokens that a grammar doesn't read.
use Rattle.std.specs.Prelude.{ℕ, ◌≡◌, ◌⊎◌, List}
use Rattle.msc_base.specs.declared.place.Place.{Place}
use Rattle.msc_tokens.specs.declared.token.Token.{Token}
use Rattle.token_grammar.specs.Grammars.{Grammar}
use Rattle.token_grammar.specs.Parsing.{IsRefused, IsTooDeep}
use Rattle.token_grammar.specs.Refused.{fault_at}
use Rattle.token_grammar.specs.declared.fault.ParseFault.{ParseFault}
use Rattle.token_grammar.specs.declared.fault.ParseFault.TheVariants.{Syntax, Unsupported, TooDeep, NoMemory}

-- a refusal of the tokens, and no want of memory
abbrev pub IsRefusal : ParseFault → Type 0
IsRefusal (Syntax at) = Unit {0}
IsRefusal (Unsupported form at) = Unit {0}
IsRefusal (TooDeep at) = Unit {0}
IsRefusal NoMemory = ⊥

-- The fault is at the first token such that the tokens up to and with it begin nothing, whatever the number of levels.
-- Where all of them begin something and are nothing, it is at the end. No token before it opens a level too many.
pub record RefusesAt {A : Type 0} (R : ℕ → Grammar A) (levels : ℕ) (tokens : List Token) (end : Place) (fault : ParseFault) : Type 0 where
  pub left : ℕ
  pub first : IsRefused R levels tokens left
  pub at : fault ≡ fault_at first.rest end

-- the same of a grammar without levels
abbrev pub RefusedAt : {A : Type 0} → Grammar A → List Token → Place → ParseFault → Type 0
RefusedAt R tokens end fault = RefusesAt (λ levels. R) 0 tokens end fault

-- the fault is at the first token that opens a level too many
pub record OpensAt {A : Type 0} (R : ℕ → Grammar A) (levels : ℕ) (tokens : List Token) (fault : ParseFault) : Type 0 where
  pub left : ℕ
  pub first : IsTooDeep R levels tokens left
  pub at : fault ≡ TooDeep first.token.place

abbrev pub IsFault : {A : Type 0} → (ℕ → Grammar A) → ℕ → List Token → Place → ParseFault → Type 0
IsFault R levels tokens end fault = RefusesAt R levels tokens end fault ⊎ OpensAt R levels tokens fault
