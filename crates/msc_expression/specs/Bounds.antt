-- The bounds of a loop: how they are written, and their readers.
use Rattle.std.specs.Prelude.{ℕ, List, Option, Some, None, codes, min, ◌+◌}
use Rattle.std.specs.Str.Parse.{digits_value}
use Rattle.msc_base.specs.declared.limits.TheConstants.Limits.{LOOP_BOUND}
use Rattle.msc_tokens.specs.declared.token.Token.{Token}
use Rattle.token_grammar.specs.Languages.{Read, just, seq_at, either_at, map_at, optional_at, behind_at}
use Rattle.token_grammar.specs.Grammars.{Grammar, seq, or, read_as, optional, behind}
use Rattle.token_grammar.specs.Parts.{digits, mark, kept as as_written}
use Rattle.token_grammar.specs.PartReaders.{digits_at, mark_at}
use Rattle.msc_expression.specs.declared.bounds.Bounds.{Bounds}

-- the number, where it is within the limit, and one above the limit otherwise
abbrev pub kept : List ℕ → ℕ
kept text = min (digits_value 10 text) (LOOP_BOUND + 1)

abbrev pub bound : Grammar ℕ
bound = read_as kept digits

-- "inf" | digits
abbrev pub upper_bound : Grammar (Option ℕ)
upper_bound = or (read_as (λ t. None) (mark (codes "inf"))) (read_as Some bound)

-- a single bound is the lower and the upper one
abbrev pub bounds_of : ℕ → Option (Option ℕ) → Bounds
bounds_of lower None = record { lower = lower; upper = Some lower }
bounds_of lower (Some upper) = record { lower = lower; upper = upper }

-- bounds = "<" digits [ "," ( "inf" | digits ) ] ">"
abbrev pub bounds : Grammar Bounds
bounds = behind (just (codes "<")) (read_as (λ p. bounds_of p.0 p.1.0) (seq bound (optional as_written (behind (just (codes ",")) upper_bound) (mark (codes ">")))))

-- a loop without bounds is taken once at least, and as often as one likes
abbrev pub or_once : Option Bounds → Bounds
or_once None = record { lower = 1; upper = None }
or_once (Some b) = b

-- [ bounds ] and what stands behind it
abbrev pub with_bounds : {A : Type 0} → Grammar A → Grammar (Bounds × A)
with_bounds = optional or_once bounds

-- ---- readers

abbrev pub bound_at : List Token → Read ℕ
bound_at = map_at kept digits_at

abbrev pub upper_bound_at : List Token → Read (Option ℕ)
upper_bound_at = either_at (just (codes "inf")) (map_at (λ t. None) (mark_at (codes "inf"))) (map_at Some bound_at)

abbrev pub comma_bound_at : List Token → Read (Option (Option ℕ))
comma_bound_at = optional_at (just (codes ",")) as_written (behind_at (just (codes ",")) upper_bound_at)

abbrev pub bounds_at : List Token → Read Bounds
bounds_at = behind_at (just (codes "<")) (map_at (λ p. bounds_of p.0 p.1.0) (seq_at bound_at (seq_at comma_bound_at (mark_at (codes ">")))))

abbrev pub loop_bounds_at : List Token → Read Bounds
loop_bounds_at = optional_at (just (codes "<")) or_once bounds_at
