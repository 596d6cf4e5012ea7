-- How a text is cut into lines, one after another.
use Rattle.std.proofs.Common.{◌≡◌, ◌≢◌, ◌∙◌, ◌≤◌, ◌<◌, ◌+◌, ◌-◌, ◌++◌, ℕ, zero, suc, Bool, true, false, nat_eq, List, [], ◌∷◌, length, take, drop, get_or, slice_index, Option, Some, None, MatchOption, All, if◌then◌else◌, arith, sym, ap, refl, append_assoc, length-append, length-drop, take-append-drop}
use Rattle.std.specs.Prelude.{count_by}
use Rattle.std.proofs.Math.Seq.{drop-length}
use Rattle.std.proofs.lemmas.Bool.Decides.{Decides-eqb}
use Rattle.std.proofs.lemmas.List.{drop_more, take_all}
use Rattle.std.proofs.lemmas.List.Elements.{All-nil, All-cons, All-from_get_or}
use Rattle.std.proofs.lemmas.List.Sums.{sum_by-cons}
use Rattle.memchr.specs.Find.{IsFirstByte, is_byte}
use Rattle.event_log.specs.Lines.{Cut, with_byte, with_bytes, nothing_cut, cut_of, last_line}
use Rattle.event_log.proofs.Cuts.{with_append, with_free, whole_line}
use Rattle.certificate_texts.specs.Readings.{text_lines}
use Rattle.certificate_texts.proofs.LineForms.{NoFeed}

-- ---- the first line feed

taken_free : (n : ℕ) (bytes : List ℕ) → n ≤ length bytes → ((i : ℕ) → i < n → get_or bytes i 0 ≢ 10) → All NoFeed (take n bytes)
taken_free zero bytes le free = All-nil NoFeed
taken_free (suc n) [] le free = absurd (omega arith)
taken_free (suc n) (b ∷ bytes) le free = All-cons NoFeed b (take n bytes) (free 0 (omega arith)) (taken_free n bytes (omega arith) (λ i lt. free (suc i) (omega arith)))

pub first_feed : (bytes : List ℕ) (found : Option ℕ) → IsFirstByte (is_byte 10) bytes found
    → MatchOption found (All NoFeed bytes) (λ n. (n < length bytes) × All NoFeed (take n bytes) × (slice_index bytes n ≡ 10))
first_feed bytes None none = All-from_get_or NoFeed bytes 0 (λ i lt is. none i (omega arith) lt (ap (is_byte 10) is))
first_feed bytes (Some n) first = (
  first.0.high,
  taken_free n bytes (omega (arith, first.0.high)) (λ i lt is. first.0.before i (omega arith) lt (ap (is_byte 10) is)),
  (Decides-eqb (slice_index bytes n) 10).0 first.1,
)

-- ---- line by line

-- lines that have ended stand in front of those that follow
abbrev behind : List (List ℕ) → Cut → Cut
behind ls c = record { ended = ls ++ c.ended; tail = c.tail }

same_ended : (ls ks : List (List ℕ)) (t : List ℕ) → ls ≡ ks → ◌≡◌ {A = Cut} (record { ended = ls; tail = t }) (record { ended = ks; tail = t })
same_ended ls ks t e = ap (λ js. record { ended = js; tail = t }) e

byte_behind : (ls : List (List ℕ)) (c : Cut) (b : ℕ) (t : Bool) → nat_eq b 10 ≡ t → with_byte (behind ls c) b ≡ behind ls (with_byte c b)
byte_behind ls c b true e = rw e (same_ended ((ls ++ c.ended) ++ c.tail ∷ []) (ls ++ (c.ended ++ c.tail ∷ [])) [] (append_assoc ls c.ended (c.tail ∷ [])))
byte_behind ls c b false e = rw e refl

bytes_behind : (ls : List (List ℕ)) (c : Cut) (bs : List ℕ) → with_bytes (behind ls c) bs ≡ behind ls (with_bytes c bs)
bytes_behind ls c [] = refl
bytes_behind ls c (b ∷ bs) = ap (λ d. with_bytes d bs) (byte_behind ls c b (nat_eq b 10) refl) ∙ bytes_behind ls (with_byte c b) bs

-- what a cut has as lines
abbrev all_lines : Cut → List (List ℕ)
all_lines c = c.ended ++ last_line c.tail

free_cut : (line : List ℕ) → All NoFeed line → cut_of line ≡ record { ended = []; tail = line }
free_cut line free = with_free nothing_cut line free

-- a line with its line end is the first line
pub line_first : (line rest : List ℕ) → All NoFeed line → text_lines (line ++ 10 ∷ rest) ≡ line ∷ text_lines rest
line_first line rest free =
    let one : cut_of (line ++ 10 ∷ rest) ≡ with_bytes (record { ended = []; tail = line }) (10 ∷ rest) =
    with_append nothing_cut line (10 ∷ rest) ∙ ap (λ c. with_bytes c (10 ∷ rest)) (free_cut line free) in
    let two : with_bytes (record { ended = []; tail = line }) (10 ∷ rest) ≡ behind (line ∷ []) (cut_of rest) = bytes_behind (line ∷ []) nothing_cut rest in
    ap all_lines (one ∙ two)

-- a text without line ends is one line
pub line_alone : (line : List ℕ) → All NoFeed line → 0 < length line → text_lines line ≡ line ∷ []
line_alone line free some = ap all_lines (free_cut line free) ∙ whole_line line some

split_at_feed : (text : List ℕ) (end : ℕ) → end < length text → get_or text end 0 ≡ 10 → text ≡ take end text ++ 10 ∷ drop (end + 1) text
split_at_feed text end lt is =
    sym (take-append-drop end text) ∙ ap (λ ts. take end text ++ ts) (drop_more text end 0 lt ∙ ap (λ b. b ∷ drop (end + 1) text) is)

pub cut_first : (text : List ℕ) (end : ℕ) → end < length text → All NoFeed (take end text) → get_or text end 0 ≡ 10 → text_lines text ≡ take end text ∷ text_lines (drop (end + 1) text)
cut_first text end lt free is = ap text_lines (split_at_feed text end lt is) ∙ line_first (take end text) (drop (end + 1) text) free

pub cut_alone : (text : List ℕ) → All NoFeed text → 0 < length text → text_lines text ≡ text ∷ text_lines (drop (length text) text)
cut_alone text free some = line_alone text free some ∙ ap (λ (r : List ℕ). text ∷ text_lines r) (sym (drop-length text))

-- the rest of a text as code takes it
pub rest_taken : (text : List ℕ) (k : ℕ) → text_lines (take (length text - k) (drop k text)) ≡ text_lines (drop k text)
rest_taken text k = ap (λ (r : List ℕ). text_lines r) (take_all (length text - k) (drop k text) (omega (arith, length-drop k text)))

-- ---- how many lines have ended

abbrev pub is_feed : ℕ → Bool
is_feed b = nat_eq b 10

byte_ended : (c : Cut) (b : ℕ) (t : Bool) → nat_eq b 10 ≡ t → length (with_byte c b).ended ≡ length c.ended + (if t then 1 else 0)
byte_ended c b true e = rw e (length-append c.ended (c.tail ∷ []))
byte_ended c b false e = rw e (omega arith)

bytes_ended : (c : Cut) (bs : List ℕ) → length (with_bytes c bs).ended ≡ length c.ended + count_by is_feed bs
bytes_ended c [] = omega arith
bytes_ended c (b ∷ bs) =
    let here = byte_ended c b (nat_eq b 10) refl in
    let rest = bytes_ended (with_byte c b) bs in
    let all = sum_by-cons (λ x. if is_feed x then 1 else 0) b bs in
    omega (arith, here, rest, all)

pub ended_count : (bytes : List ℕ) → length (cut_of bytes).ended ≡ count_by is_feed bytes
ended_count bytes = let h = bytes_ended nothing_cut bytes in omega (arith, h)
