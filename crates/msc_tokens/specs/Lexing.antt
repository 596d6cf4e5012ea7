-- What a lexer has been fed, and what it answers.
use Rattle.std.specs.Prelude.{ℕ, ◌≡◌, List, length, Option, Some, None, IfSome, Result, Err}
use Rattle.msc_tokens.specs.declared.token_list.TokenList.{TokenList}
use Rattle.msc_tokens.specs.declared.fault.LexFault.{LexFault}
use Rattle.msc_tokens.specs.declared.fault.LexFault.TheVariants.{NoMemory}
use Rattle.msc_tokens.specs.Machine.{State, state_of, settled, ended}

-- how many bytes were fed, and where the text stands; after want of memory that isn't known
pub record Lexing : Type 0 where
  pub count : ℕ
  pub state : Option State

-- these are the bytes that were fed
pub record Fed (bytes : List ℕ) (l : Lexing) : Type 0 where
  pub counted : l.count ≡ length bytes
  pub stands : IfSome l.state (λ s. s ≡ state_of bytes)

abbrev pub refusal_at : Option State → Option LexFault
refusal_at None = Some NoMemory
refusal_at (Some s) = settled s.mode s.start

-- what the lexer answers from now on to all calls
abbrev pub refusal_of : Lexing → Option LexFault
refusal_of l = refusal_at l.state

abbrev pub ended_at : Option State → Result TokenList LexFault
ended_at None = Err NoMemory
ended_at (Some s) = ended s.mode s

-- what the text is if it ends here
abbrev pub ended_of : Lexing → Result TokenList LexFault
ended_of l = ended_at l.state
