-- The tests of bytes tell whether a word may have them.
use Rattle.std.proofs.Common.{ℕ, arith}
use Rattle.std.specs.Bool.{Decides}
use Rattle.std.proofs.lemmas.Bool.Decides.{nat_tests}
use Rattle.msc_base.specs.Names.{is_letter_or_digit, is_word_byte, IsLetterOrDigit, IsWordByte}

pub letter_test : (b : ℕ) → Decides (is_letter_or_digit b) (IsLetterOrDigit b)
letter_test b = (λ e. grind (arith, nat_tests), λ h. grind (arith, nat_tests))

pub word_test : (b : ℕ) → Decides (is_word_byte b) (IsWordByte b)
word_test b = (λ e. grind (arith, nat_tests), λ h. grind (arith, nat_tests))
