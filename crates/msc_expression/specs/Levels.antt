-- Readers of a word that opens a level.
use Rattle.std.specs.Prelude.{ℕ, ◌==◌, ◌-◌, List, Some, None, Ok, if◌then◌else◌}
use Rattle.msc_tokens.specs.declared.token.Token.{Token}
use Rattle.token_grammar.specs.Languages.{Set, Read, ◌>>=◌, opens_at}

-- how many levels may be opened behind the word
abbrev pub open_at : Set → ℕ → List Token → Read ℕ
open_at s n = opens_at s (if n == 0 then None else Some (λ ts. Ok (n - 1, ts)))

-- the word, and what is read with the levels behind it
abbrev pub within_at : {A : Type 0} → Set → (ℕ → List Token → Read A) → ℕ → List Token → Read A
within_at s f n ts = open_at s n ts >>= λ x. f x.0 x.1
