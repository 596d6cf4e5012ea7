-- Serves private contracts alone.
-- A text as it is written, token by token.
use Rattle.std.specs.Prelude.{ℕ, Bool, true, List, [], ◌∷◌, ◌++◌, ◌||◌, if◌then◌else◌}
use Rattle.msc_print.specs.Words.{Words}
use Rattle.msc_print.specs.Layout.{ends_line, joins_before, joins_behind}

-- what was written, and whether the next token stands close to it, whatever token it is
pub record Sheet : Type 0 where
  pub bytes : List ℕ
  pub close : Bool

abbrev pub blank : Sheet
blank = record { bytes = []; close = true }

-- what stands in front of the next token
abbrev pub lead_in : Bool → List ℕ → List ℕ
lead_in close text = if close then [] else (if joins_before text then [] else 32 ∷ [])

-- what ends a line behind the token
abbrev pub line_end : List ℕ → List ℕ
line_end text = if ends_line text then 10 ∷ [] else []

-- with one token more
unfoldable pub put : Sheet → List ℕ → Sheet
put s text = record { bytes = s.bytes ++ (lead_in s.close text ++ (text ++ line_end text)); close = ends_line text || joins_behind text }

-- with these tokens too
abbrev pub put_all : Sheet → Words → Sheet
put_all s [] = s
put_all s (text ∷ rest) = put_all (put s text) rest
