-- Tests of bytes, as the lexer makes them.
use Rattle.std.specs.Prelude.{ℕ, Bool, ◌==◌, ◌||◌, ◌&&◌, nat_le, false, List, [], ◌∷◌, if◌then◌else◌}
use Rattle.std.specs.List.{list_any}
use Rattle.msc_base.specs.Names.{is_letter_or_digit, is_word_byte}
use Rattle.msc_tokens.specs.declared.byte_class.ByteClass.{ByteClass}
use Rattle.msc_tokens.specs.declared.byte_class.ByteClass.TheVariants as class

abbrev pub is_blank : ℕ → Bool
is_blank b = b == 9 || (b == 10 || (b == 13 || b == 32))

abbrev pub is_inside : ℕ → Bool
is_inside b = b == 9 || (b == 10 || (b == 13 || ((nat_le 32 b && nat_le b 126) || nat_le 128 b)))

abbrev pub is_mark_byte : ℕ → Bool
is_mark_byte b = b == 59 || (b == 58 || (b == 44 || (b == 40 || (b == 41 || (b == 60 || (b == 62 || (b == 91 || (b == 93 || (b == 64 || (b == 38 || b == 61))))))))))

abbrev pub is_pair : ℕ → ℕ → Bool
is_pair b c = (b == 58 && c == 61) || ((b == 60 && c == 60) || (b == 62 && c == 62))

-- the mark makes a longer one with the byte
abbrev pub makes_pair : List ℕ → ℕ → Bool
makes_pair [] c = false
makes_pair (b ∷ bs) c = is_pair b c

abbrev pub has_letter : List ℕ → Bool
has_letter = list_any is_letter_or_digit

-- what a byte can begin
abbrev pub class_of : ℕ → ByteClass
class_of b = if is_blank b then class.Blank
    else if is_word_byte b then class.Word
    else if b == 39 then class.Apostrophe
    else if b == 47 then class.Slash
    else if is_mark_byte b then class.Mark
    else class.Other
