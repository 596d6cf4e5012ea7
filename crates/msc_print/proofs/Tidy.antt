-- Texts of tokens in which `<` and `>` stand only round the bounds of a loop.
use Rattle.std.proofs.Common.{◌+◌, ℕ, Bool, true, ◌≡◌, ◌∙◌, ◌++◌, ◌||◌, ◌&&◌, List, [], ◌∷◌, length, inl, inr, refl, sym, ap, subst, codes, arith, nat_lt}
use Rattle.std.proofs.lemmas.Bool.{and_parts, or_cases}
use Rattle.std.proofs.lemmas.Bool.Decides.{nat_tests, Decides-by_and}
use Rattle.std.proofs.lemmas.List.Folds.{Any-from_list_any}
use Rattle.std.specs.List.{list_all, list_any}
use Rattle.msc_base.specs.declared.limits.TheConstants.Limits.{NAME_BYTES}
use Rattle.msc_base.specs.Names.{IsWord, IsWordByte, is_letter_or_digit, is_word_byte}
use Rattle.msc_base.specs.Lists.{IsAmong}
use Rattle.msc_tokens.specs.declared.token.Token.{Token}
use Rattle.msc_tokens.specs.Spelling.{IsMark}
use Rattle.msc_base.proofs.WordBytes.{letter_test, word_test}
use Rattle.token_grammar.specs.Classes.{is_word, is_name, is_string, is_one_of}
use Rattle.token_grammar.proofs.Classes.{name_decides, one_of_decides}
use Rattle.msc_print.specs.Words.{Words}
use Rattle.msc_print.specs.Texts.{IsText, word, mark, Parts, AreTexts}

-- the first byte, where there is one
abbrev pub first : List ℕ → ℕ
first [] = 0
first (b ∷ bs) = b

pub data Tidy : Words → Type 0 where
  done : Tidy []
  then : (w : List ℕ) (rest : Words) → IsText w → (first w ≡ 60 → ⊥) → (first w ≡ 62 → ⊥) → Tidy rest → Tidy (w ∷ rest)
  bounded : (l u : List ℕ) (rest : Words) → IsWord l → IsWord u → Tidy rest → Tidy (codes "<" ∷ l ∷ codes "," ∷ u ∷ codes ">" ∷ rest)

pub tidy_append : (u v : Words) → Tidy u → Tidy v → Tidy (u ++ v)
tidy_append _ v done k = k
tidy_append _ v (then w rest t no_open no_close h) k = then w (rest ++ v) t no_open no_close (tidy_append rest v h k)
tidy_append _ v (bounded l u rest lw uw h) k = bounded l u (rest ++ v) lw uw (tidy_append rest v h k)

word_first : (w : List ℕ) → IsWord w → IsWordByte (first w)
word_first [] h = let within = h.has_one.2 in absurd (omega arith)
word_first (b ∷ w) h = h.bytes_are 0 0 (omega arith)

word_no_open : (w : List ℕ) → IsWord w → first w ≡ 60 → ⊥
word_no_open w h e = let byte : IsWordByte 60 = subst IsWordByte e (word_first w h) in grind arith

word_no_close : (w : List ℕ) → IsWord w → first w ≡ 62 → ⊥
word_no_close w h e = let byte : IsWordByte 62 = subst IsWordByte e (word_first w h) in grind arith

-- texts with different first bytes differ
differs : (v w : List ℕ) → (first v ≡ first w → ⊥) → v ≡ w → ⊥
differs v w apart e = apart (ap first e)

other_parts : (w : List ℕ) (rest : Words) → (first w ≡ 60 → ⊥) → (first w ≡ 62 → ⊥) → Parts w rest
other_parts w [] no_open no_close = tt
other_parts w (v ∷ rest) no_open no_close = (λ e k. differs w (codes "<") no_open e, λ e k. differs w (codes ">") no_close e)

no_close_open : codes ">" ≡ codes "<" → ⊥
no_close_open = differs (codes ">") (codes "<") (λ e. omega arith)

no_open_close : codes "<" ≡ codes ">" → ⊥
no_open_close = differs (codes "<") (codes ">") (λ e. omega arith)

first_no_close : (ws : Words) → Tidy ws → Parts (codes ">") ws
first_no_close _ done = tt
first_no_close _ (then w rest t no_open no_close h) = (λ e k. no_close_open e, λ e k. differs w (codes ">") no_close k)
first_no_close _ (bounded l u rest lw uw h) = (λ e k. no_close_open e, λ e k. no_open_close k)

pub tidy_texts : (ws : Words) → Tidy ws → AreTexts ws
tidy_texts _ done = tt
tidy_texts _ (then w rest t no_open no_close h) = (t, other_parts w rest no_open no_close, tidy_texts rest h)
tidy_texts _ (bounded l u rest lw uw h) =
    let last : AreTexts (codes ">" ∷ rest) = (mark 62 refl (inr (inr (inr (inr (inr (inr (inl refl))))))), first_no_close rest h, tidy_texts rest h) in
    let upper : AreTexts (u ∷ codes ">" ∷ rest) = (word uw, other_parts u (codes ">" ∷ rest) (word_no_open u uw) (word_no_close u uw), last) in
    let comma : AreTexts (codes "," ∷ u ∷ codes ">" ∷ rest) = (mark 44 refl (inr (inr (inl refl))), other_parts (codes ",") (u ∷ codes ">" ∷ rest) (λ e. omega arith) (λ e. omega arith), upper) in
    let lower : AreTexts (l ∷ codes "," ∷ u ∷ codes ">" ∷ rest) = (word lw, other_parts l (codes "," ∷ u ∷ codes ">" ∷ rest) (word_no_open l lw) (word_no_close l lw), comma) in
    (mark 60 refl (inr (inr (inr (inr (inr (inl refl)))))), (λ e k. differs l (codes "<") (word_no_open l lw) k, λ e k. no_open_close e), lower)

-- ---- words

pub word_of : (w : List ℕ) → is_word w ≡ true → IsWord w
word_of w h =
    let p = and_parts (list_all is_word_byte w) (list_any is_letter_or_digit w && nat_lt (length w) (NAME_BYTES + 1)) h in
    let q = and_parts (list_any is_letter_or_digit w) (nat_lt (length w) (NAME_BYTES + 1)) p.1 in
    let some = Any-from_list_any is_letter_or_digit w q.0 in
    let few : nat_lt (length w) (NAME_BYTES + 1) ≡ true = q.1 in
    record { bytes_are = (Decides-by_and is_word_byte IsWordByte (list_all is_word_byte) word_test refl (λ _ _. refl) w).0 p.0; has_one = (some.0, some.1, some.2, some.3, (letter_test (some.1)).0 some.4); short = grind (arith, nat_tests) }

-- a text that stands alone
pub word_tidy : (w : List ℕ) (rest : Words) → IsWord w → Tidy rest → Tidy (w ∷ rest)
word_tidy w rest h k = then w rest (word h) (word_no_open w h) (word_no_close w h) k

-- words and marks of the notation
abbrev pub is_fixed : List ℕ → Bool
is_fixed w = is_word w || is_one_of (codes ";" ∷ codes "," ∷ codes ":" ∷ codes "(" ∷ codes ")" ∷ []) w

pub fixed_tidy : (w : List ℕ) (rest : Words) → is_fixed w ≡ true → Tidy rest → Tidy (w ∷ rest)
fixed_tidy w rest is k = elim (or_cases (is_word w) (is_one_of (codes ";" ∷ codes "," ∷ codes ":" ∷ codes "(" ∷ codes ")" ∷ []) w) is) [
  | inl h ↦ word_tidy w rest (word_of w h) k
  | inr h ↦ by ((one_of_decides (codes ";" ∷ codes "," ∷ codes ":" ∷ codes "(" ∷ codes ")" ∷ []) w).0 h)
]
  where
    marked : (b : ℕ) → w ≡ b ∷ [] → IsMark b → (b ≡ 60 → ⊥) → (b ≡ 62 → ⊥) → Tidy (w ∷ rest)
    marked b e m no_open no_close = then w rest (mark b e m) (λ i. no_open (sym (ap first e) ∙ i)) (λ i. no_close (sym (ap first e) ∙ i)) k

    by : IsAmong (codes ";" ∷ codes "," ∷ codes ":" ∷ codes "(" ∷ codes ")" ∷ []) w → Tidy (w ∷ rest)
    by (inl e) = marked 59 e (inl refl) (λ i. omega arith) (λ i. omega arith)
    by (inr (inl e)) = marked 44 e (inr (inr (inl refl))) (λ i. omega arith) (λ i. omega arith)
    by (inr (inr (inl e))) = marked 58 e (inr (inl refl)) (λ i. omega arith) (λ i. omega arith)
    by (inr (inr (inr (inl e)))) = marked 40 e (inr (inr (inr (inl refl)))) (λ i. omega arith) (λ i. omega arith)
    by (inr (inr (inr (inr (inl e))))) = marked 41 e (inr (inr (inr (inr (inl refl))))) (λ i. omega arith) (λ i. omega arith)
    by (inr (inr (inr (inr (inr e))))) = absurd e

-- ---- tokens of a text

-- what begins as a string is one
abbrev pub Proper : List Token → Type 0
Proper [] = Unit {0}
Proper (t ∷ ts) = (is_string t.bytes ≡ true → IsText t.bytes) × Proper ts

pub proper_append : (y z : List Token) → Proper (y ++ z) → Proper y × Proper z
proper_append [] z p = (tt, p)
proper_append (t ∷ y) z p = let r = proper_append y z p.1 in ((p.0, r.0), r.1)

pub name_tidy : (w : List ℕ) (rest : Words) → is_name w ≡ true → Tidy rest → Tidy (w ∷ rest)
name_tidy w rest h k = word_tidy w rest ((name_decides w).0 h).word k

string_first : (w : List ℕ) → is_string w ≡ true → first w ≡ 39
string_first [] h = absurd cc
string_first (b ∷ w) h = grind (arith, nat_tests)

pub string_tidy : (w : List ℕ) (rest : Words) → is_string w ≡ true → IsText w → Tidy rest → Tidy (w ∷ rest)
string_tidy w rest h t k = then w rest t (λ e. let i : 39 ≡ 60 = sym (string_first w h) ∙ e in omega arith) (λ e. let i : 39 ≡ 62 = sym (string_first w h) ∙ e in omega arith) k

-- between two fixed texts
pub fixed_around : (left right : List ℕ) (ws : Words) → is_fixed left ≡ true → is_fixed right ≡ true → Tidy ws → Tidy (left ∷ (ws ++ right ∷ []))
fixed_around left right ws is closes h = fixed_tidy left (ws ++ right ∷ []) is (tidy_append ws (right ∷ []) h (fixed_tidy right [] closes done))
