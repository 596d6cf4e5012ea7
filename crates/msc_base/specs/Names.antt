-- What a word and a name are.
use Rattle.std.specs.Prelude.{◌≡◌, ◌≤◌, ◌⊎◌, ℕ, Bool, ◌==◌, ◌||◌, ◌&&◌, nat_le, List, [], ◌∷◌, length, codes, All, Any}
use Rattle.msc_base.specs.declared.limits.TheConstants.Limits.{NAME_BYTES}
use Rattle.msc_base.specs.Lists.{IsAmong}

abbrev pub IsLetterOrDigit : ℕ → Type 0
IsLetterOrDigit b = ((48 ≤ b) × (b ≤ 57)) ⊎ ((65 ≤ b) × (b ≤ 90)) ⊎ ((97 ≤ b) × (b ≤ 122))

-- a letter, a digit, `_` or `.`
abbrev pub IsWordByte : ℕ → Type 0
IsWordByte b = IsLetterOrDigit b ⊎ (b ≡ 95) ⊎ (b ≡ 46)

-- the tests of both
abbrev pub is_letter_or_digit : ℕ → Bool
is_letter_or_digit b = (nat_le 48 b && nat_le b 57) || ((nat_le 65 b && nat_le b 90) || (nat_le 97 b && nat_le b 122))

abbrev pub is_word_byte : ℕ → Bool
is_word_byte b = is_letter_or_digit b || (b == 95 || b == 46)

-- word bytes alone, one of them a letter or a digit, and no more than a name may have
pub record IsWord (bytes : List ℕ) : Type 0 where
  pub bytes_are : All IsWordByte bytes
  pub has_one : Any IsLetterOrDigit bytes
  pub short : length bytes ≤ NAME_BYTES

-- the reserved words, in the order of the alphabet, in groups
abbrev pub reserved_to_decomposed : List (List ℕ)
reserved_to_decomposed = codes "action" ∷ codes "after" ∷ codes "all" ∷ codes "alt" ∷ codes "before" ∷ codes "begin" ∷ codes "comment"
    ∷ codes "concurrent" ∷ codes "condition" ∷ codes "decomposed" ∷ []

abbrev pub reserved_to_inst : List (List ℕ)
reserved_to_inst = codes "endconcurrent" ∷ codes "endexpr" ∷ codes "endinstance" ∷ codes "endmsc" ∷ codes "endmscdocument" ∷ codes "env"
    ∷ codes "exc" ∷ codes "expr" ∷ codes "found" ∷ codes "from" ∷ codes "in" ∷ codes "inst" ∷ []

abbrev pub reserved_to_out : List (List ℕ)
reserved_to_out = codes "instance" ∷ codes "label" ∷ codes "loop" ∷ codes "lost" ∷ codes "msc" ∷ codes "mscdocument" ∷ codes "msg"
    ∷ codes "opt" ∷ codes "otherwise" ∷ codes "out" ∷ []

abbrev pub reserved_to_when : List (List ℕ)
reserved_to_when = codes "par" ∷ codes "reference" ∷ codes "reset" ∷ codes "seq" ∷ codes "set" ∷ codes "shared" ∷ codes "starttimer"
    ∷ codes "stoptimer" ∷ codes "timeout" ∷ codes "timer" ∷ codes "to" ∷ codes "via" ∷ codes "when" ∷ []

-- one of the reserved words
abbrev pub IsReserved : List ℕ → Type 0
IsReserved bytes = IsAmong reserved_to_decomposed bytes ⊎ IsAmong reserved_to_inst bytes ⊎ IsAmong reserved_to_out bytes ⊎ IsAmong reserved_to_when bytes

-- a name is a word that isn't reserved
pub record IsName (bytes : List ℕ) : Type 0 where
  pub word : IsWord bytes
  pub free : IsReserved bytes → ⊥
