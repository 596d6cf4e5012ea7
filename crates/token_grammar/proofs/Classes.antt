-- What the classes of a token tell of each other.
use Rattle.std.proofs.Common.{◌+◌, ℕ, ◌≡◌, ◌∙◌, ◌&&◌, ◌||◌, Bool, true, false, not, nat_eq, nat_lt, List, [], ◌∷◌, length, refl, sym, ap, inl, inr, subst, arith, Any}
use Rattle.std.specs.Bool.{Decides}
use Rattle.std.specs.List.{list_any, list_all}
use Rattle.std.specs.Str.{bytes_eq}
use Rattle.std.proofs.lemmas.Bool.{and_parts, not-true, or_cases, and_from}
use Rattle.std.proofs.lemmas.Bool.Decides.{eqb_tells, Decides-and, Decides-or, Decides-not, Decides-by_and, Decides-ltb}
use Rattle.std.proofs.lemmas.List.Folds.{Any-from_list_any, list_any-from_Any}
use Rattle.std.proofs.lemmas.Slice.Eq.{bytes_eq-Decides}
use Rattle.msc_base.specs.declared.limits.TheConstants.Limits.{NAME_BYTES}
use Rattle.msc_base.specs.Names.{IsLetterOrDigit, IsWordByte, IsWord, IsReserved, IsName, reserved_to_decomposed, reserved_to_inst, reserved_to_out, reserved_to_when, is_letter_or_digit, is_word_byte}
use Rattle.msc_base.specs.Lists.{IsAmong}
use Rattle.msc_base.proofs.WordBytes.{letter_test, word_test}
use Rattle.token_grammar.specs.Classes.{Class, exactly, name_but, string, number, fits, differ, covers, is_digit, is_one_of, is_reserved, is_word, is_name, is_string, is_number}

both : true ≡ false → ⊥
both e = cc

at_text : (k : Class) (text bytes : List ℕ) → not (fits k text) ≡ true → bytes_eq bytes text ≡ true → fits k bytes ≡ false
at_text k text bytes h m = subst (λ (b : List ℕ). fits k b ≡ false) (sym ((bytes_eq-Decides bytes text).0 m)) (not-true (fits k text) h)

-- where a token of one class is no such text
not_text : (k : Class) (text bytes : List ℕ) → not (fits k text) ≡ true → fits k bytes ≡ true → bytes_eq bytes text ≡ false
not_text k text bytes h m = step (bytes_eq bytes text) refl
  where
    step : (b : Bool) → bytes_eq bytes text ≡ b → b ≡ false
    step true e = absurd (both (sym m ∙ at_text k text bytes h e))
    step false e = refl

not_at : (test : ℕ → Bool) (m b : ℕ) → test m ≡ false → test b ≡ true → nat_eq b m ≡ false
not_at test m b none h = elim (eqb_tells b m) [
  | inl e ↦ absurd (both (sym (subst (λ (c : ℕ). test c ≡ true) e.1 h) ∙ none))
  | inr e ↦ e.0
]

-- a name doesn't begin with an apostrophe, nor does a number
name_string : (texts : List (List ℕ)) (bytes : List ℕ) → fits (name_but texts) bytes ≡ true → is_string bytes ≡ false
name_string texts [] m = refl
name_string texts (b ∷ bytes) m =
    let named = and_parts (is_name (b ∷ bytes)) (not (is_one_of texts (b ∷ bytes))) m in
    let word = and_parts (is_word (b ∷ bytes)) (not (is_reserved (b ∷ bytes))) named.0 in
    let all = and_parts (list_all is_word_byte (b ∷ bytes)) (list_any is_letter_or_digit (b ∷ bytes) && nat_lt (length (b ∷ bytes)) (NAME_BYTES + 1)) word.0 in
    not_at is_word_byte 39 b refl (and_parts (is_word_byte b) (list_all is_word_byte bytes) all.0).0

number_string : (bytes : List ℕ) → is_number bytes ≡ true → is_string bytes ≡ false
number_string [] m = refl
number_string (b ∷ bytes) m = not_at is_digit 39 b refl (and_parts (is_digit b) (list_all is_digit bytes) m).0

turned : (x y : Bool) → (x ≡ true → y ≡ false) → y ≡ true → x ≡ false
turned true y h e = absurd (both (sym e ∙ h refl))
turned false y h e = refl

pub classes_differ : (k j : Class) (bytes : List ℕ) → differ k j ≡ true → fits k bytes ≡ true → fits j bytes ≡ false
classes_differ (exactly text) j bytes h m = at_text j text bytes h m
classes_differ (name_but texts) (exactly text) bytes h m = not_text (name_but texts) text bytes h m
classes_differ (name_but texts) (name_but others) bytes h m = cc
classes_differ (name_but texts) string bytes h m = name_string texts bytes m
classes_differ (name_but texts) number bytes h m = cc
classes_differ string (exactly text) bytes h m = not_text string text bytes h m
classes_differ string (name_but others) bytes h m = turned (fits (name_but others) bytes) (is_string bytes) (name_string others bytes) m
classes_differ string string bytes h m = cc
classes_differ string number bytes h m = turned (is_number bytes) (is_string bytes) (number_string bytes) m
classes_differ number (exactly text) bytes h m = not_text number text bytes h m
classes_differ number (name_but others) bytes h m = cc
classes_differ number string bytes h m = number_string bytes m
classes_differ number number bytes h m = cc

-- what is one of the others is one of the texts
one_of_all : (texts others : List (List ℕ)) (bytes : List ℕ) → list_all (λ w. is_one_of texts w) others ≡ true → is_one_of others bytes ≡ true → is_one_of texts bytes ≡ true
one_of_all texts [] bytes h m = cc
one_of_all texts (w ∷ others) bytes h m =
    let e = and_parts (is_one_of texts w) (list_all (λ v. is_one_of texts v) others) h in
    elim (or_cases (bytes_eq bytes w) (is_one_of others bytes) m) [
      | inl here ↦ subst (λ (b : List ℕ). is_one_of texts b ≡ true) (sym ((bytes_eq-Decides bytes w).0 here)) e.0
      | inr there ↦ one_of_all texts others bytes e.1 there
    ]

not_one : (a b : Bool) → (b ≡ true → a ≡ true) → not a ≡ true → not b ≡ true
not_one a true h n = absurd (both (sym n ∙ ap not (h refl)))
not_one a false h n = refl

pub class_covers : (k j : Class) (bytes : List ℕ) → covers k j ≡ true → fits k bytes ≡ true → fits j bytes ≡ true
class_covers (exactly text) j bytes h m = subst (λ (b : List ℕ). fits j b ≡ true) (sym ((bytes_eq-Decides bytes text).0 m)) h
class_covers (name_but texts) (exactly text) bytes h m = cc
class_covers (name_but texts) (name_but others) bytes h m =
    let e = and_parts (is_name bytes) (not (is_one_of texts bytes)) m in
    and_from (is_name bytes) (not (is_one_of others bytes)) e.0 (not_one (is_one_of texts bytes) (is_one_of others bytes) (one_of_all texts others bytes h) e.1)
class_covers (name_but texts) string bytes h m = cc
class_covers (name_but texts) number bytes h m = cc
class_covers string (exactly text) bytes h m = cc
class_covers string (name_but others) bytes h m = cc
class_covers string string bytes h m = m
class_covers string number bytes h m = cc
class_covers number (exactly text) bytes h m = cc
class_covers number (name_but others) bytes h m = cc
class_covers number string bytes h m = cc
class_covers number number bytes h m = m

-- ---- the tests of words and names say what the definitions say

any_decides : {X : Type 0} (p : X → Bool) (P : X → Type 0) → ((x : X) → Decides (p x) (P x)) → (xs : List X) → Decides (list_any p xs) (Any P xs)
any_decides p P each xs = (
  λ e. let h = Any-from_list_any p xs e in (h.0, h.1, h.2, h.3, (each h.1).0 h.4),
  λ h. list_any-from_Any p xs (h.0, h.1, h.2, h.3, (each h.1).1 h.4),
)

pub one_of_decides : (ws : List (List ℕ)) (bytes : List ℕ) → Decides (is_one_of ws bytes) (IsAmong ws bytes)
one_of_decides [] bytes = (λ e. absurd (both (sym e)), λ h. absurd h)
one_of_decides (w ∷ ws) bytes = Decides-or (bytes_eq bytes w) (is_one_of ws bytes) (bytes_eq-Decides bytes w) (one_of_decides ws bytes)

reserved_decides : (bytes : List ℕ) → Decides (is_reserved bytes) (IsReserved bytes)
reserved_decides bytes =
    Decides-or (is_one_of reserved_to_decomposed bytes) (is_one_of reserved_to_inst bytes || (is_one_of reserved_to_out bytes || is_one_of reserved_to_when bytes)) (one_of_decides reserved_to_decomposed bytes)
    (Decides-or (is_one_of reserved_to_inst bytes) (is_one_of reserved_to_out bytes || is_one_of reserved_to_when bytes) (one_of_decides reserved_to_inst bytes)
    (Decides-or (is_one_of reserved_to_out bytes) (is_one_of reserved_to_when bytes) (one_of_decides reserved_to_out bytes) (one_of_decides reserved_to_when bytes)))

word_decides : (bytes : List ℕ) → Decides (is_word bytes) (IsWord bytes)
word_decides bytes =
    let parts = Decides-and (list_all is_word_byte bytes) (list_any is_letter_or_digit bytes && nat_lt (length bytes) (NAME_BYTES + 1))
    (Decides-by_and is_word_byte IsWordByte (list_all is_word_byte) word_test refl (λ _ _. refl) bytes)
    (Decides-and (list_any is_letter_or_digit bytes) (nat_lt (length bytes) (NAME_BYTES + 1)) (any_decides is_letter_or_digit IsLetterOrDigit letter_test bytes) (Decides-ltb (length bytes) (NAME_BYTES + 1))) in
    (λ e. let h = parts.0 e in record { bytes_are = h.0; has_one = h.1.0; short = omega (arith, h.1.1) }, λ w. parts.1 (w.bytes_are, (w.has_one, omega (arith, w.short))))

pub name_decides : (bytes : List ℕ) → Decides (is_name bytes) (IsName bytes)
name_decides bytes =
    let parts = Decides-and (is_word bytes) (not (is_reserved bytes)) (word_decides bytes) (Decides-not (is_reserved bytes) (reserved_decides bytes)) in
    (λ e. let h = parts.0 e in record { word = h.0; free = h.1 }, λ n. parts.1 (n.word, n.free))
