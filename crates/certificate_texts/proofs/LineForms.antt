-- A line is told by its bytes.
use Rattle.std.proofs.Common.{◌≡◌, ◌≢◌, ◌∙◌, ◌<◌, ◌+◌, ◌^◌, ℕ, Bool, true, not, ◌&&◌, nat_eq, codes, List, [], ◌∷◌, ◌++◌, drop, get_or, map, if◌then◌else◌, All, arith, sym, ap, ap₂, refl}
use Rattle.std.specs.Fmt.{decimal}
use Rattle.std.proofs.lemmas.Bool.{and_parts}
use Rattle.std.proofs.lemmas.Bool.Decides.{nat_tests}
use Rattle.std.proofs.lemmas.List.Elements.{All-nil, All-cons, All-append, All-from_get_or, All-head, All-tail}
use Rattle.certificates.specs.Lines.{Line, EmptyLine, EventLine, PartsLine, BranchLine, InnerLine, TurnsLine, WalkLine, NodeLine}
use Rattle.certificate_texts.specs.Codes.{kind, number, line_from, line_again}
use Rattle.certificate_texts.specs.Numbers.{digits_number}
use Rattle.certificate_texts.specs.Readings.{IsShort}
use Rattle.certificate_texts.specs.Texts.{line_bytes}
use Rattle.certificate_texts.proofs.Digits.{number_again, number_written, digit_from}

-- its kind, by the sum of its first two bytes
abbrev kind_by : ℕ → ℕ
kind_by m =
    if nat_eq m 210 then 0
    else if nat_eq m 219 then 1
    else if nat_eq m 209 then 2
    else if nat_eq m 212 then 3
    else if nat_eq m 215 then 4
    else if nat_eq m 233 then 5
    else if nat_eq m 216 then 6
    else 7

abbrev kind_in : List ℕ → ℕ
kind_in bytes = kind_by (get_or bytes 0 0 + get_or bytes 1 0)

kind_is : (l : Line) → kind_in (line_bytes l) ≡ kind l
kind_is EmptyLine = refl
kind_is (EventLine n) = refl
kind_is (PartsLine n) = refl
kind_is (BranchLine n) = refl
kind_is InnerLine = refl
kind_is (TurnsLine n) = refl
kind_is (WalkLine n) = refl
kind_is (NodeLine n) = refl

-- the bytes of the word in front of its number
abbrev word_length : ℕ → ℕ
word_length k =
    if nat_eq k 1 then 6
    else if nat_eq k 2 then 6
    else if nat_eq k 3 then 7
    else if nat_eq k 5 then 6
    else 5

abbrev number_in : ℕ → List ℕ → ℕ
number_in k bytes = digits_number 0 (drop (word_length k) bytes)

number_is : (l : Line) → IsShort l → number_in (kind l) (line_bytes l) ≡ number l
number_is EmptyLine s = refl
number_is (EventLine n) s = number_again n s
number_is (PartsLine n) s = number_again n s
number_is (BranchLine n) s = number_again n s
number_is InnerLine s = refl
number_is (TurnsLine n) s = number_again n s
number_is (WalkLine n) s = number_again n s
number_is (NodeLine n) s = number_again n s

-- the line that bytes are, if they are one
abbrev pub line_in : List ℕ → Line
line_in bytes = line_from (kind_in bytes) (number_in (kind_in bytes) bytes)

pub line_in_is : (bytes : List ℕ) (l : Line) → bytes ≡ line_bytes l → IsShort l → line_in bytes ≡ l
line_in_is bytes l e s =
    let kinds : kind_in bytes ≡ kind l = ap kind_in e ∙ kind_is l in
    ap₂ line_from kinds (ap₂ number_in kinds e ∙ number_is l s) ∙ line_again l

pub same_line : (l m : Line) → IsShort l → IsShort m → line_bytes l ≡ line_bytes m → l ≡ m
same_line l m s t e = sym (line_in_is (line_bytes l) l refl s) ∙ line_in_is (line_bytes l) m e t

cons_head : (x y : List ℕ) (xs ys : List (List ℕ)) → x ∷ xs ≡ y ∷ ys → x ≡ y
cons_head x y xs ys e = cc

cons_tail : (x y : List ℕ) (xs ys : List (List ℕ)) → x ∷ xs ≡ y ∷ ys → xs ≡ ys
cons_tail x y xs ys e = cc

pub same_lines : (ls ms : List Line) → All IsShort ls → All IsShort ms → map line_bytes ls ≡ map line_bytes ms → ls ≡ ms
same_lines [] [] s t e = refl
same_lines [] (m ∷ ms) s t e = absurd (cc)
same_lines (l ∷ ls) [] s t e = absurd (cc)
same_lines (l ∷ ls) (m ∷ ms) s t e =
    ap₂ (λ k ks. k ∷ ks)
    (same_line l m (All-head IsShort l ls s) (All-head IsShort m ms t) (cons_head (line_bytes l) (line_bytes m) (map line_bytes ls) (map line_bytes ms) e))
    (same_lines ls ms (All-tail IsShort l ls s) (All-tail IsShort m ms t) (cons_tail (line_bytes l) (line_bytes m) (map line_bytes ls) (map line_bytes ms) e))

-- ---- no line feed stands in a line

abbrev pub NoFeed : ℕ → Type 0
NoFeed b = b ≢ 10

digits_free : (n : ℕ) → n < 10 ^ 10 → All NoFeed (decimal n)
digits_free n small =
    let w = number_written (decimal n) n small refl in
    All-from_get_or NoFeed (decimal n) 0 (λ i lt. let from = digit_from (decimal n) i w.digits lt in omega arith)

abbrev has_none : List ℕ → Bool
has_none [] = true
has_none (b ∷ bs) = not (nat_eq b 10) && has_none bs

no_feed : (b : ℕ) → not (nat_eq b 10) ≡ true → NoFeed b
no_feed b t = grind (arith, nat_tests)

free_word : (bs : List ℕ) → has_none bs ≡ true → All NoFeed bs
free_word [] t = All-nil NoFeed
free_word (b ∷ bs) t = let parts = and_parts (not (nat_eq b 10)) (has_none bs) t in All-cons NoFeed b bs (no_feed b parts.0) (free_word bs parts.1)

with_digits : (word : List ℕ) (n : ℕ) → has_none word ≡ true → n < 10 ^ 10 → All NoFeed (word ++ decimal n)
with_digits word n w small = All-append NoFeed word (decimal n) (free_word word w) (digits_free n small)

pub free_line : (l : Line) → IsShort l → All NoFeed (line_bytes l)
free_line EmptyLine s = free_word (codes "empty") refl
free_line (EventLine n) s = with_digits (codes "event ") n refl s
free_line (PartsLine n) s = with_digits (codes "parts ") n refl s
free_line (BranchLine n) s = with_digits (codes "branch ") n refl s
free_line InnerLine s = free_word (codes "inner") refl
free_line (TurnsLine n) s = with_digits (codes "turns ") n refl s
free_line (WalkLine n) s = with_digits (codes "walk ") n refl s
free_line (NodeLine n) s = with_digits (codes "node ") n refl s
