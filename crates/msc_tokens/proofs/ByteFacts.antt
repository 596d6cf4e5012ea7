-- The tests of bytes tell what the bytes are.
use Rattle.std.proofs.Common.{◌≡◌, ℕ, Bool, true, false, cond, ◌==◌, List, arith, refl, sym, ◌∙◌, subst, Any, eqb-true}
use Rattle.std.specs.Bool.{Decides}
use Rattle.std.proofs.lemmas.Bool.Decides.{nat_tests}
use Rattle.std.proofs.lemmas.List.Folds.{Any-from_list_any, list_any-from_Any}
use Rattle.std.proofs.lemmas.Bool.{true≢false}
use Rattle.msc_base.specs.Names.{IsLetterOrDigit, IsWordByte, is_letter_or_digit, is_word_byte}
use Rattle.msc_tokens.specs.declared.byte_class.ByteClass.{ByteClass}
use Rattle.msc_tokens.specs.declared.byte_class.ByteClass.TheVariants as class
use Rattle.msc_tokens.specs.ByteTests.{is_blank, is_inside, is_mark_byte, is_pair, has_letter, class_of}
pub use Rattle.msc_base.proofs.WordBytes.{letter_test, word_test}
use Rattle.msc_tokens.specs.Spelling.{IsBlank, IsInside, IsMark, IsPair, BeginsNothing}

pub blank_test : (b : ℕ) → Decides (is_blank b) (IsBlank b)
blank_test b = (λ e. grind (arith, nat_tests), λ h. grind (arith, nat_tests))

pub inside_test : (b : ℕ) → Decides (is_inside b) (IsInside b)
inside_test b = (λ e. grind (arith, nat_tests), λ h. grind (arith, nat_tests))

pub mark_test : (b : ℕ) → Decides (is_mark_byte b) (IsMark b)
mark_test b = (λ e. grind (arith, nat_tests), λ h. grind (arith, nat_tests))

pub pair_test : (b c : ℕ) → Decides (is_pair b c) (IsPair b c)
pair_test b c = (λ e. grind (arith, nat_tests), λ h. grind (arith, nat_tests))

pub letters_test : (bs : List ℕ) → Decides (has_letter bs) (Any IsLetterOrDigit bs)
letters_test bs = (
  λ e. let a = Any-from_list_any is_letter_or_digit bs e in (a.0, a.1, a.2, a.3, (letter_test a.1).0 a.4),
  λ h. list_any-from_Any is_letter_or_digit bs (h.0, h.1, h.2, h.3, (letter_test h.1).1 h.4),
)

-- a test that fails
pub test_false : (r : Bool) (P : Type 0) → Decides r P → (P → ⊥) → r ≡ false
test_false true P d free = absurd (free (d.0 refl))
test_false false P d free = refl

pub not_when_false : (r : Bool) (P : Type 0) → Decides r P → r ≡ false → P → ⊥
not_when_false r P d e h = true≢false (sym (d.1 h) ∙ e)

abbrev Tells : ByteClass → Bool → Bool → Bool → Bool → Bool → Type 0
Tells class.Blank b1 b2 b3 b4 b5 = b1 ≡ true
Tells class.Word b1 b2 b3 b4 b5 = b2 ≡ true
Tells class.Apostrophe b1 b2 b3 b4 b5 = b3 ≡ true
Tells class.Slash b1 b2 b3 b4 b5 = b4 ≡ true
Tells class.Mark b1 b2 b3 b4 b5 = b5 ≡ true
Tells class.Other b1 b2 b3 b4 b5 = (b1 ≡ false) × (b2 ≡ false) × (b3 ≡ false) × (b4 ≡ false) × (b5 ≡ false)

tells : (b1 b2 b3 b4 b5 : Bool) → Tells (cond b1 class.Blank (cond b2 class.Word (cond b3 class.Apostrophe (cond b4 class.Slash (cond b5 class.Mark class.Other))))) b1 b2 b3 b4 b5
tells true b2 b3 b4 b5 = refl
tells false true b3 b4 b5 = refl
tells false false true b4 b5 = refl
tells false false false true b5 = refl
tells false false false false true = refl
tells false false false false false = (refl, refl, refl, refl, refl)

class_tells : (b : ℕ) (k : ByteClass) → class_of b ≡ k → Tells k (is_blank b) (is_word_byte b) (b == 39) (b == 47) (is_mark_byte b)
class_tells b k e = subst (λ (c : ByteClass). Tells c (is_blank b) (is_word_byte b) (b == 39) (b == 47) (is_mark_byte b)) e (tells (is_blank b) (is_word_byte b) (b == 39) (b == 47) (is_mark_byte b))

pub blank_class : (b : ℕ) → class_of b ≡ class.Blank → IsBlank b
blank_class b e = (blank_test b).0 (class_tells b class.Blank e)

pub word_class : (b : ℕ) → class_of b ≡ class.Word → IsWordByte b
word_class b e = (word_test b).0 (class_tells b class.Word e)

pub apostrophe_class : (b : ℕ) → class_of b ≡ class.Apostrophe → b ≡ 39
apostrophe_class b e = eqb-true b 39 (class_tells b class.Apostrophe e)

pub slash_class : (b : ℕ) → class_of b ≡ class.Slash → b ≡ 47
slash_class b e = eqb-true b 47 (class_tells b class.Slash e)

pub mark_class : (b : ℕ) → class_of b ≡ class.Mark → IsMark b
mark_class b e = (mark_test b).0 (class_tells b class.Mark e)

pub equal_test : (b c : ℕ) → Decides (b == c) (b ≡ c)
equal_test b c = (λ e. grind (arith, nat_tests), λ h. grind (arith, nat_tests))

pub other_class : (b : ℕ) → class_of b ≡ class.Other → BeginsNothing b
other_class b e = let t = class_tells b class.Other e in record {
  no_blank = not_when_false (is_blank b) (IsBlank b) (blank_test b) t.0;
  no_word = not_when_false (is_word_byte b) (IsWordByte b) (word_test b) t.1;
  no_string = not_when_false (b == 39) (b ≡ 39) (equal_test b 39) t.2;
  no_note = not_when_false (b == 47) (b ≡ 47) (equal_test b 47) t.3;
  no_mark = not_when_false (is_mark_byte b) (IsMark b) (mark_test b) t.4;
}

pub class_is_blank : (b : ℕ) → IsBlank b → class_of b ≡ class.Blank
class_is_blank b h = rw ((blank_test b).1 h) refl

pub class_is_word : (b : ℕ) → IsWordByte b → class_of b ≡ class.Word
class_is_word b h =
    let blank : is_blank b ≡ false = test_false (is_blank b) (IsBlank b) (blank_test b) (λ k. grind arith) in
    rw (blank, (word_test b).1 h) refl

pub class_is_mark : (b : ℕ) → IsMark b → class_of b ≡ class.Mark
class_is_mark b h =
    let blank : is_blank b ≡ false = test_false (is_blank b) (IsBlank b) (blank_test b) (λ k. grind arith) in
    let word : is_word_byte b ≡ false = test_false (is_word_byte b) (IsWordByte b) (word_test b) (λ k. grind arith) in
    let string : (b == 39) ≡ false = test_false (b == 39) (b ≡ 39) (equal_test b 39) (λ k. grind arith) in
    let note : (b == 47) ≡ false = test_false (b == 47) (b ≡ 47) (equal_test b 47) (λ k. grind arith) in
    rw (blank, word, string, note, (mark_test b).1 h) refl

pub class_is_other : (b : ℕ) → BeginsNothing b → class_of b ≡ class.Other
class_is_other b h =
    let blank : is_blank b ≡ false = test_false (is_blank b) (IsBlank b) (blank_test b) h.no_blank in
    let word : is_word_byte b ≡ false = test_false (is_word_byte b) (IsWordByte b) (word_test b) h.no_word in
    let string : (b == 39) ≡ false = test_false (b == 39) (b ≡ 39) (equal_test b 39) h.no_string in
    let note : (b == 47) ≡ false = test_false (b == 47) (b ≡ 47) (equal_test b 47) h.no_note in
    let mark : is_mark_byte b ≡ false = test_false (is_mark_byte b) (IsMark b) (mark_test b) h.no_mark in
    rw (blank, word, string, note, mark) refl

-- a `*` may stand inside, and is no `/`
pub star_inside : IsInside 42
star_inside = (inside_test 42).0 refl

pub star_no_slash : ◌≡◌ {A = ℕ} 42 47 → ⊥
star_no_slash e = omega (arith, e)
