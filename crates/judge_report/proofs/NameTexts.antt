-- The bytes of a name are ASCII, and need no escape.
use Rattle.std.proofs.Common.{◌≡◌, ◌<◌, ℕ, true, List, [], ◌∷◌, refl, arith, All}
use Rattle.std.proofs.lemmas.Bool.{and_from}
use Rattle.std.proofs.lemmas.Bool.Decides.{nat_tests}
use Rattle.std.proofs.lemmas.List.Elements.{All-tail}
use Rattle.std.proofs.lemmas.Str.{IsUtf8-from_ascii}
use Rattle.std.proofs.lemmas.Str.Ascii.{IsAscii-cons, IsAscii-nil}
use Rattle.std.specs.Str.{IsAscii, IsUtf8}
use Rattle.msc_base.specs.Names.{IsName, IsWordByte}
use Rattle.judge_report.specs.Texts.{needs_no_escape, needs_no_escape_byte}

word_byte_plain : (b : ℕ) → IsWordByte b → needs_no_escape_byte b ≡ true
word_byte_plain b h = grind (arith, nat_tests)

word_bytes_plain : (bs : List ℕ) → All IsWordByte bs → needs_no_escape bs ≡ true
word_bytes_plain [] h = refl
word_bytes_plain (b ∷ bs) h = and_from (needs_no_escape_byte b) (needs_no_escape bs) (word_byte_plain b (h 0 0 (omega arith))) (word_bytes_plain bs (All-tail IsWordByte b bs h))

pub name_plain : (name : List ℕ) → IsName name → needs_no_escape name ≡ true
name_plain name h = word_bytes_plain name h.word.bytes_are

word_byte_ascii : (b : ℕ) → IsWordByte b → b < 128
word_byte_ascii b h = grind arith

word_bytes_ascii : (bs : List ℕ) → All IsWordByte bs → IsAscii bs
word_bytes_ascii [] h = IsAscii-nil
word_bytes_ascii (b ∷ bs) h = IsAscii-cons b bs (word_byte_ascii b (h 0 0 (omega arith))) (word_bytes_ascii bs (All-tail IsWordByte b bs h))

pub name_utf8 : (name : List ℕ) → IsName name → IsUtf8 name
name_utf8 name h = IsUtf8-from_ascii name (word_bytes_ascii name h.word.bytes_are)
