-- Classes of tokens: one text, the names, the strings, the numbers. A token's bytes decide its classes.
use Rattle.std.specs.Prelude.{ℕ, Bool, true, false, not, ◌&&◌, ◌||◌, List, [], ◌∷◌, length, nat_eq, nat_lt, ◌+◌}
use Rattle.std.specs.List.{list_all, list_any}
use Rattle.std.specs.Str.{bytes_eq}
use Rattle.msc_base.specs.declared.limits.TheConstants.Limits.{NAME_BYTES}
use Rattle.msc_base.specs.Names.{is_letter_or_digit, is_word_byte, reserved_to_decomposed, reserved_to_inst, reserved_to_out, reserved_to_when}
use Rattle.msc_tokens.specs.declared.token.Token.{Token}
use Rattle.msc_tokens.specs.declared.token.TokenKind.TheVariants.{Mark}
use Rattle.msc_tokens.specs.Places.{first_place}

abbrev pub is_digit : ℕ → Bool
is_digit b = nat_lt 47 b && nat_lt b 58

-- one of these texts
abbrev pub is_one_of : List (List ℕ) → List ℕ → Bool
is_one_of ws bytes = list_any (bytes_eq bytes) ws

abbrev pub is_reserved : List ℕ → Bool
is_reserved bytes = is_one_of reserved_to_decomposed bytes || (is_one_of reserved_to_inst bytes || (is_one_of reserved_to_out bytes || is_one_of reserved_to_when bytes))

-- word bytes alone, one of them a letter or a digit, and no more than a name may have
abbrev pub is_word : List ℕ → Bool
is_word bytes = list_all is_word_byte bytes && (list_any is_letter_or_digit bytes && nat_lt (length bytes) (NAME_BYTES + 1))

-- a name is a word that isn't reserved
abbrev pub is_name : List ℕ → Bool
is_name bytes = is_word bytes && not (is_reserved bytes)

-- of all tokens a string alone begins with an apostrophe
abbrev pub is_string : List ℕ → Bool
is_string [] = false
is_string (b ∷ bytes) = nat_eq b 39

-- digits alone, and at least one
abbrev pub is_number : List ℕ → Bool
is_number [] = false
is_number (b ∷ bytes) = list_all is_digit (b ∷ bytes)

pub data Class : Type 0 where
  -- this text alone
  exactly : List ℕ → Class
  -- a name, but none of these
  name_but : List (List ℕ) → Class
  -- a string
  string : Class
  -- a number
  number : Class

-- a token with these bytes is of the class
abbrev pub fits : Class → List ℕ → Bool
fits (exactly text) bytes = bytes_eq bytes text
fits (name_but texts) bytes = is_name bytes && not (is_one_of texts bytes)
fits string bytes = is_string bytes
fits number bytes = is_number bytes

-- no token is of both classes
abbrev pub differ : Class → Class → Bool
differ (exactly text) k = not (fits k text)
differ k (exactly text) = not (fits k text)
differ (name_but texts) string = true
differ string (name_but texts) = true
differ number string = true
differ string number = true
differ _ _ = false

-- each token of the first class is of the second
abbrev pub covers : Class → Class → Bool
covers (exactly text) k = fits k text
covers (name_but texts) (name_but others) = list_all (λ w. is_one_of texts w) others
covers string string = true
covers number number = true
covers _ _ = false

-- a token with these bytes
abbrev pub token_of : List ℕ → Token
token_of bytes = record { kind = Mark; bytes = bytes; place = first_place }
