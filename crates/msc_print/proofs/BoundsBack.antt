-- The bounds of a loop that were read are written so that they read back.
use Rattle.std.proofs.Common.{◌+◌, ℕ, ◌&&◌, ◌++◌, nat_lt, ◌≡◌, ◌∙◌, ◌≤◌, ◌<◌, true, List, [], ◌∷◌, length, refl, sym, ap, subst, inl, inr, Option, Some, None, MatchOption, arith, codes}
use Rattle.std.specs.Fmt.{decimal}
use Rattle.std.specs.Char.{digit_value}
use Rattle.std.specs.List.{list_all, list_any}
use Rattle.std.proofs.lemmas.Bool.{and_from}
use Rattle.msc_base.specs.Names.{IsWord, is_letter_or_digit, is_word_byte}
use Rattle.msc_print.specs.Words.{Words}
use Rattle.msc_print.proofs.Tidy.{Tidy, bounded, Proper, proper_append, word_of}
use Rattle.std.specs.Str.Parse.{AllDigits}
use Rattle.std.proofs.lemmas.Bool.Decides.{nat_tests}
use Rattle.std.proofs.lemmas.Str.Parse.{digit_from_value}
use Rattle.std.proofs.lemmas.Fmt.{decimal_is_IsNumeral, length-decimal-le}
use Rattle.msc_base.specs.declared.limits.TheConstants.Limits.{LOOP_BOUND, NAME_BYTES}
use Rattle.msc_tokens.specs.declared.token.Token.{Token}
use Rattle.token_grammar.specs.Classes.{is_digit, is_number, is_word}
use Rattle.token_grammar.specs.Languages.{just, numbers}
use Rattle.token_grammar.specs.Grammars.{Grammar, read_as, seq, optional, maybe, behind}
use Rattle.token_grammar.specs.Parts.{mark, kept as as_written}
use Rattle.msc_expression.specs.declared.bounds.Bounds.{Bounds}
use Rattle.msc_expression.specs.Bounds.{kept, bound, upper_bound, bounds_of, bounds, or_once, with_bounds}
use Rattle.msc_print.specs.ExpressionWords.{upper_word, bound_words}
use Rattle.msc_print.proofs.Written.{Writes, writes_seq, writes_bytes, writes_behind}

abbrev pub Small : ℕ → Type 0
Small n = n ≤ LOOP_BOUND + 1

abbrev pub SmallUpper : Option ℕ → Type 0
SmallUpper None = Unit {0}
SmallUpper (Some n) = Small n

pub kept_small : (text : List ℕ) → Small (kept text)
kept_small text = omega arith

digit_fits : (c : ℕ) → digit_value c < 10 → is_digit c ≡ true
digit_fits c h = let r = digit_from_value c h in grind (arith, nat_tests)

digits_fit : (ds : List ℕ) → AllDigits 10 ds → list_all is_digit ds ≡ true
digits_fit [] h = refl
digits_fit (c ∷ cs) h = rw (digit_fits c h.0) (digits_fit cs h.1)

number_fits : (ds : List ℕ) → 0 < length ds → AllDigits 10 ds → is_number ds ≡ true
number_fits [] some h = absurd (omega arith)
number_fits (c ∷ cs) some h = digits_fit (c ∷ cs) h

decimal_number : (n : ℕ) → Small n → is_number (decimal n) ≡ true
decimal_number n s = let numeral = (decimal_is_IsNumeral n (omega arith)).0 in number_fits (decimal n) numeral.0 numeral.1

writes_bound : (n : ℕ) → Small n → Writes bound n (decimal n ∷ [])
writes_bound n s =
    let value = (decimal_is_IsNumeral n (omega arith)).1 in
    let same : n ≡ kept (decimal n) = rw value (omega arith) in
    λ t e. (decimal n, writes_bytes numbers (decimal n) (rw (decimal_number n s) refl) t e, same)

writes_upper : (u : Option ℕ) → SmallUpper u → Writes upper_bound u (upper_word u ∷ [])
writes_upper None s = λ t e. inl (codes "inf", writes_bytes (just (codes "inf")) (codes "inf") refl t e, refl)
writes_upper (Some n) s = λ t e. inr (n, writes_bound n s t e, refl)

abbrev part : Grammar (Option (Option ℕ) × List ℕ)
part = optional as_written (behind (just (codes ",")) upper_bound) (mark (codes ">"))

abbrev stated : ℕ × (Option (Option ℕ) × List ℕ) → Bounds
stated p = bounds_of p.0 p.1.0

pub writes_bounds : (b : Bounds) → Small b.lower → SmallUpper b.upper → Writes bounds b (bound_words b.lower b.upper)
writes_bounds b sl su =
    let l = b.lower in
    let u = b.upper in
    let comma = writes_behind upper_bound (codes ",") u (upper_word u ∷ []) refl (writes_upper u su) in
    let close = writes_bytes (just (codes ">")) (codes ">") refl in
    let tail : Writes (optional as_written (behind (just (codes ",")) upper_bound) (mark (codes ">"))) (Some u, codes ">") (codes "," ∷ upper_word u ∷ codes ">" ∷ []) =
    λ t e. ((Some u, codes ">"), inl ((u, codes ">"), writes_seq (behind (just (codes ",")) upper_bound) (mark (codes ">")) u (codes ">") (codes "," ∷ upper_word u ∷ []) (codes ">" ∷ []) comma close t e, refl), refl) in
    writes_behind (read_as stated (seq bound part)) (codes "<") b (decimal l ∷ codes "," ∷ upper_word u ∷ codes ">" ∷ []) refl
    (λ t e. (
      (l, (Some u, codes ">")),
      writes_seq bound (optional as_written (behind (just (codes ",")) upper_bound) (mark (codes ">"))) l (Some u, codes ">") (decimal l ∷ []) (codes "," ∷ upper_word u ∷ codes ">" ∷ [])
          (writes_bound l sl) tail t e,
      refl,
    ))

-- ---- bounds that were read are small

upper_small : (x : List Token) (u : Option ℕ) → upper_bound.reads x u → SmallUpper u
upper_small x u (inl h) = subst SmallUpper (sym h.2) tt
upper_small x u (inr h) = subst SmallUpper (sym h.2) (subst Small (sym h.1.2) (kept_small h.1.0))

stated_small : (l : ℕ) (o : Option (Option ℕ)) → Small l → MatchOption o (Unit {0}) SmallUpper → Small (bounds_of l o).lower × SmallUpper (bounds_of l o).upper
stated_small l None sl so = (sl, sl)
stated_small l (Some u) sl so = (sl, so)

part_small : (z : List Token) (q : Option (Option ℕ) × List ℕ) → part.reads z q → MatchOption q.0 (Unit {0}) SmallUpper
part_small z q h = subst (λ (w : Option (Option ℕ) × List ℕ). MatchOption w.0 (Unit {0}) SmallUpper) (sym h.2) (by h.1)
  where
    by : (maybe (behind (just (codes ",")) upper_bound) (mark (codes ">"))).reads z h.0 → MatchOption h.0.0 (Unit {0}) SmallUpper
    by (inl k) =
        let c = k.1.3 in
        subst (λ (w : Option (Option ℕ) × List ℕ). MatchOption w.0 (Unit {0}) SmallUpper) (sym k.2) (subst SmallUpper (sym c.2) (upper_small c.1.1 c.0.1 c.1.4))
    by (inr k) = subst (λ (w : Option (Option ℕ) × List ℕ). MatchOption w.0 (Unit {0}) SmallUpper) (sym k.2) tt

bounds_small : (x : List Token) (b : Bounds) → bounds.reads x b → Small b.lower × SmallUpper b.upper
bounds_small x b h =
    let r = h.1.4 in
    let c = r.1 in
    let lower = subst Small (sym c.3.2) (kept_small c.3.0) in
    subst (λ (w : Bounds). Small w.lower × SmallUpper w.upper) (sym (h.2 ∙ r.2)) (stated_small r.0.0 r.0.1.0 lower (part_small c.1 r.0.1 c.4))

abbrev Read : {A : Type 0} → Grammar A → Bounds × A → Type 0
Read P w = Small w.0.lower × SmallUpper w.0.upper × ((y : List Token) × P.reads y w.1)

-- bounds that were read, or that were missing, and the part behind them
pub bounds_read : {A : Type 0} (P : Grammar A) (b : Bounds) (p : A) (x : List Token) → (with_bounds P).reads x (b, p) → Small b.lower × SmallUpper b.upper × ((y : List Token) × P.reads y p)
bounds_read {A = A} P b p x h = by h.1
  where
    by : (maybe bounds P).reads x h.0 → Small b.lower × SmallUpper b.upper × ((y : List Token) × P.reads y p)
    by (inl k) =
        let s = bounds_small k.1.0 k.0.0 k.1.3 in
        subst (Read P) (sym (h.2 ∙ ap (λ w. (or_once w.0, w.1)) k.2)) (s.0, s.1, (k.1.1, k.1.4))
    by (inr k) = subst (Read P) (sym (h.2 ∙ ap (λ w. (or_once w.0, w.1)) k.2)) (omega arith, tt, (x, k.1))

-- ---- the texts of bounds

digit_byte : (c : ℕ) → digit_value c < 10 → is_word_byte c ≡ true
digit_byte c h = let r = digit_from_value c h in grind (arith, nat_tests)

digit_letter : (c : ℕ) → digit_value c < 10 → is_letter_or_digit c ≡ true
digit_letter c h = let r = digit_from_value c h in grind (arith, nat_tests)

digits_bytes : (ds : List ℕ) → AllDigits 10 ds → list_all is_word_byte ds ≡ true
digits_bytes [] h = refl
digits_bytes (c ∷ cs) h = and_from (is_word_byte c) (list_all is_word_byte cs) (digit_byte c h.0) (digits_bytes cs h.1)

digits_word : (ds : List ℕ) → 0 < length ds → AllDigits 10 ds → length ds ≤ 7 → is_word ds ≡ true
digits_word [] some h short = absurd (omega arith)
digits_word (c ∷ cs) some h short =
    let few : nat_lt (length (c ∷ cs)) (NAME_BYTES + 1) ≡ true = grind (arith, nat_tests) in
    let one : list_any is_letter_or_digit (c ∷ cs) ≡ true = rw (digit_letter c h.0) refl in
    and_from (list_all is_word_byte (c ∷ cs)) (list_any is_letter_or_digit (c ∷ cs) && nat_lt (length (c ∷ cs)) (NAME_BYTES + 1)) (digits_bytes (c ∷ cs) h)
    (and_from (list_any is_letter_or_digit (c ∷ cs)) (nat_lt (length (c ∷ cs)) (NAME_BYTES + 1)) one few)

decimal_word : (n : ℕ) → Small n → IsWord (decimal n)
decimal_word n s =
    let numeral = (decimal_is_IsNumeral n (omega arith)).0 in
    word_of (decimal n) (digits_word (decimal n) numeral.0 numeral.1 (length-decimal-le 7 n (omega arith) (omega arith) (omega arith)))

upper_is_word : (u : Option ℕ) → SmallUpper u → IsWord (upper_word u)
upper_is_word None s = word_of (codes "inf") refl
upper_is_word (Some n) s = decimal_word n s

pub bounds_tidy : (l : ℕ) (u : Option ℕ) (rest : Words) → Small l → SmallUpper u → Tidy rest → Tidy (bound_words l u ++ rest)
bounds_tidy l u rest sl su h = bounded (decimal l) (upper_word u) rest (decimal_word l sl) (upper_is_word u su) h

abbrev ReadProper : {A : Type 0} → Grammar A → Bounds × A → Type 0
ReadProper P w = (y : List Token) × P.reads y w.1 × Proper y

-- the part behind the bounds of a text
pub bounds_proper : {A : Type 0} (P : Grammar A) (b : Bounds) (p : A) (x : List Token) → (with_bounds P).reads x (b, p) → Proper x → (y : List Token) × P.reads y p × Proper y
bounds_proper {A = A} P b p x h proper = by h.1
  where
    by : (maybe bounds P).reads x h.0 → (y : List Token) × P.reads y p × Proper y
    by (inl k) =
        let known = proper_append k.1.0 k.1.1 (subst Proper k.1.2 proper) in
        subst (ReadProper P) (sym (h.2 ∙ ap (λ w. (or_once w.0, w.1)) k.2)) (k.1.1, k.1.4, known.1)
    by (inr k) = subst (ReadProper P) (sym (h.2 ∙ ap (λ w. (or_once w.0, w.1)) k.2)) (x, k.1, proper)
