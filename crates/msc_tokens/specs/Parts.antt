-- Tokens that are taken out part by part.
use Rattle.std.specs.Prelude.{◌≡◌, ◌++◌, ℕ, List}
use Rattle.msc_tokens.specs.declared.token.Token.{Token}
use Rattle.msc_tokens.specs.Machine.{State, state_of}

-- the state, with these tokens before its own
abbrev pub behind : List Token → State → State
behind taken s = record s { tokens = taken ++ s.tokens }

-- the text has come to these bytes, and these tokens were taken out
pub record Cuts (bytes : List ℕ) (taken : List Token) (s : State) : Type 0 where
  pub are : state_of bytes ≡ behind taken s
