-- What is told needs no escape in a JSON string.
use Rattle.std.proofs.Common.{◌≡◌, ◌≤◌, ◌<◌, ◌+◌, ◌^◌, ◌%◌, ◌∙◌, ℕ, true, false, ◌==◌, List, [], ◌∷◌, ◌++◌, codes, refl, arith}
use Rattle.std.proofs.lemmas.Bool.{and_from, and_parts}
use Rattle.std.proofs.lemmas.Bool.Decides.{nat_tests}
use Rattle.std.proofs.lemmas.List.Folds.{list_all-append}
use Rattle.std.proofs.lemmas.Fmt.{decimal_by_steps}
use Rattle.std.specs.Prelude.{nat_lt}
use Rattle.std.specs.Fmt.{decimal}
use Rattle.serde_json.specs.Data.{string}
use Rattle.serde_json.specs.Written.{compact_text}
use Rattle.serde_json.proofs.OnLiterals.{serde_json_on_literals}
use Rattle.msc_base.specs.declared.place.Place.{Place}
use Rattle.msc_rules.specs.declared.rule.Form.{Form}
use Rattle.msc_rules.specs.declared.rule.Form.TheVariants.{Guard}
use Rattle.msc_rules.specs.declared.rule.Rule.{Rule}
use Rattle.msc_rules.specs.declared.rule.Rule.TheVariants.{Unsupported}
use Rattle.msc_rules.specs.Rules.{rule_text}
use Rattle.event_log.specs.Faults.{fault_text}
use Rattle.event_log.specs.declared.event.LogFault.{LogFault}
use Rattle.event_log.specs.declared.event.LogFault.TheVariants.{Syntax, LongLine, LogLimit, TooManySessions, Version, NoMemory}
use Rattle.judge_report.specs.Texts.{needs_no_escape, needs_no_escape_byte, document_words, log_words, line_number}

-- a byte is none of those that are escaped
record EscapesNone (b : ℕ) : Type 0 where
  quote : (b == 34) ≡ false
  backslash : (b == 92) ≡ false
  backspace : (b == 8) ≡ false
  form_feed : (b == 12) ≡ false
  line_feed : (b == 10) ≡ false
  carriage_return : (b == 13) ≡ false
  tab : (b == 9) ≡ false
  control : nat_lt b 32 ≡ false

escapes_none : (b : ℕ) → needs_no_escape_byte b ≡ true → EscapesNone b
escapes_none b h = record {
  quote = grind (arith, nat_tests);
  backslash = grind (arith, nat_tests);
  backspace = grind (arith, nat_tests);
  form_feed = grind (arith, nat_tests);
  line_feed = grind (arith, nat_tests);
  carriage_return = grind (arith, nat_tests);
  tab = grind (arith, nat_tests);
  control = grind (arith, nat_tests);
}

-- words after plain words
pub plain_append : (a b : List ℕ) → needs_no_escape a ≡ true → needs_no_escape b ≡ true → needs_no_escape (a ++ b) ≡ true
plain_append a b h k = list_all-append needs_no_escape_byte a b ∙ and_from (needs_no_escape a) (needs_no_escape b) h k

-- a digit stands for itself
plain_digit : (b : ℕ) → 48 ≤ b → b ≤ 57 → needs_no_escape_byte b ≡ true
plain_digit b low high = grind (arith, nat_tests)

plain_one : (n : ℕ) → n < 10 → needs_no_escape ((48 + n) ∷ []) ≡ true
plain_one n lt = and_from _ true (plain_digit (48 + n) (omega arith) (omega arith)) refl

pub plain_decimal : (n : ℕ) → n < 2 ^ 64 → needs_no_escape (decimal n) ≡ true
plain_decimal n small =
    decimal_by_steps (λ m ds. needs_no_escape ds ≡ true) plain_one (λ m ds le h. plain_append ds _ h (plain_one (m % 10) (omega arith))) n small

form_plain : (form : Form) → needs_no_escape (rule_text (Unsupported form)) ≡ true
form_plain Guard = refl
form_plain _ = refl

pub rule_plain : (rule : Rule) → needs_no_escape (rule_text rule) ≡ true
rule_plain (Unsupported form) = form_plain form
rule_plain _ = refl

-- words, a number and words behind them
number_plain : (prefix back : List ℕ) (n : ℕ) → needs_no_escape prefix ≡ true → n < 2 ^ 64 → needs_no_escape back ≡ true → needs_no_escape (prefix ++ (decimal n ++ back)) ≡ true
number_plain prefix back n f small b = plain_append prefix (decimal n ++ back) f (plain_append (decimal n) back (plain_decimal n small) b)

pub document_plain : (rule : Rule) (place : Place) → place.line < 2 ^ 64 → place.column < 2 ^ 64 → needs_no_escape (document_words rule place) ≡ true
document_plain rule place l c =
    number_plain (codes "document refused at ") (codes ":" ++ (decimal place.column ++ (codes ": " ++ rule_text rule))) place.line refl l
    (number_plain (codes ":") (codes ": " ++ rule_text rule) place.column refl c (plain_append (codes ": ") (rule_text rule) refl (rule_plain rule)))

fault_plain : (fault : LogFault) → needs_no_escape (fault_text fault) ≡ true
fault_plain (Syntax line) = refl
fault_plain (LongLine line) = refl
fault_plain (LogLimit line) = refl
fault_plain (TooManySessions line) = refl
fault_plain (Version line) = refl
fault_plain NoMemory = refl

pub log_plain : (fault : LogFault) → line_number fault < 2 ^ 64 → needs_no_escape (log_words fault) ≡ true
log_plain fault l =
    number_plain (codes "log refused at line ") (codes ": " ++ fault_text fault) (line_number fault) refl l (plain_append (codes ": ") (fault_text fault) refl (fault_plain fault))

-- plain words stand as they are in a JSON string
pub quoted_plain : (words : List ℕ) → needs_no_escape words ≡ true → compact_text (string words) ≡ 34 ∷ (words ++ 34 ∷ [])
unfolding serde_json_on_literals
quoted_plain [] h = refl
quoted_plain (b ∷ bs) h =
    let parts = and_parts (needs_no_escape_byte b) (needs_no_escape bs) h in
    let rest = quoted_plain bs parts.1 in
    let e = escapes_none b parts.0 in
    rw (e.quote, e.backslash, e.backspace, e.form_feed, e.line_feed, e.carriage_return, e.tab, e.control) cc
