-- What it is that a reader of a grammar is exact.
use Rattle.std.specs.Prelude.{ℕ, List, [], ◌∷◌, length, Ok, Err}
use Rattle.msc_tokens.specs.declared.token.Token.{Token}
use Rattle.token_grammar.specs.Grammars.{Grammar}
use Rattle.token_grammar.specs.Languages.{Read, refused, deep}
use Rattle.token_grammar.specs.Parsing.{IsRefused, IsTooDeep}

-- Where the reader takes all tokens, they read as its value. Otherwise the first token that it leaves is the first that
-- can't stand there, or that opens a level too many.
abbrev pub IsExact : {A : Type 0} → (ℕ → Grammar A) → ℕ → List Token → Read A → Type 0
IsExact R n tokens (Ok (a, [])) = (R n).reads tokens a
IsExact R n tokens (Ok (a, t ∷ rest)) = IsRefused R n tokens (length (t ∷ rest))
IsExact R n tokens (Err (refused left)) = IsRefused R n tokens left
IsExact R n tokens (Err (deep left)) = IsTooDeep R n tokens left
