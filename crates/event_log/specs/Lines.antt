-- How a log is cut into lines.
use Rattle.std.specs.Prelude.{ℕ, ◌+◌, Bool, true, false, List, [], ◌∷◌, ◌++◌, nat_eq, nat_le, length, take, if◌then◌else◌}
use Rattle.msc_base.specs.declared.limits.TheConstants.Limits.{LINE_BYTES, LOG_BYTES}

-- the lines that have their line end, and what stands behind the last of them
pub record Cut : Type 0 where
  pub ended : List (List ℕ)
  pub tail : List ℕ

-- one byte more: a line feed ends the line, and any other byte belongs to it
abbrev pub with_byte : Cut → ℕ → Cut
with_byte c b = (if nat_eq b 10 then record { ended = c.ended ++ c.tail ∷ []; tail = [] } else record { ended = c.ended; tail = c.tail ++ b ∷ [] })

abbrev pub with_bytes : Cut → List ℕ → Cut
with_bytes c [] = c
with_bytes c (b ∷ bs) = with_bytes (with_byte c b) bs

abbrev pub nothing_cut : Cut
nothing_cut = record { ended = []; tail = [] }

abbrev pub cut_of : List ℕ → Cut
cut_of bytes = with_bytes nothing_cut bytes

-- the last line of a whole text may lack its line end
abbrev pub last_line : List ℕ → List (List ℕ)
last_line [] = []
last_line (b ∷ bs) = (b ∷ bs) ∷ []

-- where a text may go on, a line without its end is decided only by being too long
abbrev pub long_line : List ℕ → List (List ℕ)
long_line tail = (if nat_le (LINE_BYTES + 1) (length tail) then tail ∷ [] else [])

-- what of the tail is decided, in a text that may go on and in a whole one
abbrev pub decided_tail : Bool → List ℕ → List (List ℕ)
decided_tail true tail = long_line tail
decided_tail false tail = last_line tail

-- the decided lines of a text that may go on, or of a whole one
abbrev pub decided : Bool → List ℕ → List (List ℕ)
decided goes_on bytes = (cut_of bytes).ended ++ decided_tail goes_on (cut_of bytes).tail

-- whether the bytes are no more than a log may have
abbrev pub is_within : List ℕ → Bool
is_within bytes = nat_le (length bytes) LOG_BYTES

-- the decided lines up to the limit of bytes, behind which the text is cut off
abbrev pub lines_of : Bool → List ℕ → List (List ℕ)
lines_of goes_on bytes = (if is_within bytes then decided goes_on bytes else decided true (take LOG_BYTES bytes))
