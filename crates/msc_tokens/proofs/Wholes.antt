-- A machine takes whole tokens.
use Rattle.std.proofs.Common.{◌≡◌, ◌<◌, ◌≤◌, ◌+◌, Bool, true, false, cond, nat_lt, nat_eq, List, ℕ, length, ◌++◌, [], ◌∷◌, All, arith, sym, refl, ap, ap₂, ◌∙◌, append_assoc, append-nil, length-append, length-take, take, drop, subst, suc, get_or}
use Rattle.std.specs.Prelude.{fold}
use Rattle.std.proofs.lemmas.List.Elements.{All-head, All-tail, All-nil, All-cons}
use Rattle.std.proofs.lemmas.Bool.Decides.{Decides-ltb, nat_tests}
use Rattle.msc_base.specs.declared.limits.TheConstants.Limits.{NAME_BYTES}
use Rattle.msc_base.specs.declared.place.Place.{Place}
use Rattle.msc_base.specs.Names.{IsWordByte, is_word_byte}
use Rattle.msc_tokens.specs.declared.token.Token.{Token}
use Rattle.msc_tokens.specs.declared.token.TokenKind.TheVariants as kind
use Rattle.msc_tokens.specs.declared.byte_class.ByteClass.{ByteClass}
use Rattle.msc_tokens.specs.declared.byte_class.ByteClass.TheVariants as class
use Rattle.msc_tokens.specs.declared.mode.Mode.{Mode}
use Rattle.msc_tokens.specs.declared.mode.Mode.TheVariants as mode
use Rattle.msc_tokens.specs.ByteTests.{has_letter, is_mark_byte, is_pair, class_of}
use Rattle.msc_tokens.specs.Places.{after_byte, past}
use Rattle.msc_tokens.specs.Machine.{State, in_mode, opened, grown, closed, begun_as, begun, next, step}
use Rattle.msc_tokens.specs.Wholes.{word_length, along, IsWhole}
use Rattle.msc_tokens.proofs.ByteFacts.{word_test, mark_test, class_is_word, class_is_mark}

-- ---- how long a word is

pub word_goes_on : (bs : List ℕ) (b : ℕ) (others : List ℕ) → bs ≡ b ∷ others → is_word_byte b ≡ true → word_length bs ≡ word_length others + 1
word_goes_on bs b others e h = ap word_length e ∙ ap (λ (t : Bool). cond t (suc (word_length others)) 0) h ∙ omega arith

pub word_stops : (bs : List ℕ) (b : ℕ) (others : List ℕ) → bs ≡ b ∷ others → is_word_byte b ≡ false → word_length bs ≡ 0
word_stops bs b others e h = ap word_length e ∙ ap (λ (t : Bool). cond t (suc (word_length others)) 0) h

pub no_bytes : (bs : List ℕ) → length bs ≡ 0 → word_length bs ≡ 0
no_bytes [] e = refl
no_bytes (b ∷ bs) e = absurd (omega arith)

-- ---- places in one line

no_line_end : (b : ℕ) → IsWordByte b → nat_eq b 10 ≡ false
no_line_end b h = grind (arith, nat_tests)

on_line : (p : Place) (b : ℕ) → nat_eq b 10 ≡ false → after_byte p b ≡ along p 1
on_line p b h = ap (λ (t : Bool). let q : Place = record { byte = p.byte + 1; line = cond t (p.line + 1) p.line; column = cond t 1 (p.column + 1) } in q) h

along_none : (p : Place) → along p 0 ≡ p
along_none p = ap₂ (λ (x y : ℕ). let q : Place = record { byte = x; line = p.line; column = y } in q) (omega arith) (omega arith)

along_twice : (p : Place) (m n k : ℕ) → m + n ≡ k → along (along p m) n ≡ along p k
along_twice p m n k e = ap₂ (λ (x y : ℕ). let q : Place = record { byte = x; line = p.line; column = y } in q) (omega (arith, e)) (omega (arith, e))

past_word : (v : List ℕ) (p : Place) → All IsWordByte v → past p v ≡ along p (length v)
past_word [] p h = sym (along_none p)
past_word (b ∷ v) p h =
    ap (λ (q : Place). past q v) (on_line p b (no_line_end b (All-head IsWordByte b v h)))
    ∙ past_word v (along p 1) (All-tail IsWordByte b v h)
    ∙ along_twice p 1 (length v) (length (b ∷ v)) (omega arith)

-- ---- words

abbrev pub stand : Mode → Place → List ℕ → Place → List Token → State
stand m start kept place tokens = record { mode = m; start = start; text = kept; place = place; tokens = tokens }

-- an open word takes the bytes of a word
pub word_runs : (v rest : List ℕ) (st : Place) (tx : List ℕ) (pl : Place) (tk : List Token) → All IsWordByte v → length tx + length v ≤ NAME_BYTES
    → fold step (stand mode.Word st tx pl tk) (v ++ rest) ≡ fold step (stand mode.Word st (tx ++ v) (past pl v) tk) rest
unfolding step
word_runs [] rest st tx pl tk h short = ap (λ (bs : List ℕ). fold step (stand mode.Word st bs pl tk) rest) (sym (append-nil tx))
word_runs (c ∷ v) rest st tx pl tk h short =
    let s : State = stand mode.Word st tx pl tk in
    let word : is_word_byte c ≡ true = (word_test c).1 (All-head IsWordByte c v h) in
    let room : nat_lt (length tx) NAME_BYTES ≡ true = (Decides-ltb (length tx) NAME_BYTES).1 (omega arith) in
    ap₂ (λ (b1 b2 : Bool). fold step (cond b1 (cond b2 (grown mode.Word s c) (in_mode mode.LongName s)) (cond (has_letter tx) (begun (closed kind.Word s) c) (in_mode mode.BadByte s))) (v ++ rest)) word room
    ∙ word_runs v rest st (tx ++ c ∷ []) (after_byte pl c) tk (All-tail IsWordByte c v h) (omega (arith, length-append tx (c ∷ [])))
    ∙ ap (λ (bs : List ℕ). fold step (stand mode.Word st bs (past pl (c ∷ v)) tk) rest) (append_assoc tx (c ∷ []) v)

-- an open word ends before a byte that no word has
pub word_ends : (c : ℕ) (rest : List ℕ) (st : Place) (tx : List ℕ) (pl : Place) (tk : List Token) → has_letter tx ≡ true → is_word_byte c ≡ false
    → fold step (stand mode.Word st tx pl tk) (c ∷ rest) ≡ fold step (closed kind.Word (stand mode.Word st tx pl tk)) (c ∷ rest)
unfolding step
word_ends c rest st tx pl tk letter free =
    let s : State = stand mode.Word st tx pl tk in
    ap₂ (λ (b1 b3 : Bool). fold step (cond b1 (cond (nat_lt (length tx) NAME_BYTES) (grown mode.Word s c) (in_mode mode.LongName s)) (cond b3 (begun (closed kind.Word s) c) (in_mode mode.BadByte s))) rest) free letter

-- where nothing is open a byte begins something
pub begins : (k : ByteClass) (c : ℕ) (bytes : List ℕ) (s : State) → s.mode ≡ mode.Between → class_of c ≡ k → fold step s (c ∷ bytes) ≡ fold step (begun_as k s c) bytes
unfolding step
begins k c bytes s between is = ap (λ (m : Mode). fold step (next m s c) bytes) between ∙ ap (λ (d : ByteClass). fold step (begun_as d s c) bytes) is

whole_word : (w : List ℕ) (c : ℕ) (rest : List ℕ) → All IsWordByte w → has_letter w ≡ true → length w ≤ NAME_BYTES → is_word_byte c ≡ false → IsWhole kind.Word w (c ∷ rest)
whole_word [] c rest h letter short free = absurd cc
whole_word (b ∷ v) c rest h letter short free = λ s between.
    begins class.Word b (v ++ c ∷ rest) s between (class_is_word b (All-head IsWordByte b v h))
    ∙ word_runs v (c ∷ rest) s.place (b ∷ []) (after_byte s.place b) s.tokens (All-tail IsWordByte b v h) (omega arith)
    ∙ word_ends c rest s.place (b ∷ v) (past s.place (b ∷ v)) s.tokens letter free
    ∙ ap (λ (p : Place). fold step (closed kind.Word (stand mode.Word s.place (b ∷ v) p s.tokens)) (c ∷ rest)) (past_word (b ∷ v) s.place h)

-- the bytes begin with word bytes, and then comes one that no word has, where there is any
word_bytes : (bs : List ℕ) → All IsWordByte (take (word_length bs) bs)
word_bytes [] = All-nil IsWordByte
word_bytes (b ∷ bs) = go (word_bytes bs) (is_word_byte b) refl
  where
    go : All IsWordByte (take (word_length bs) bs) → (t : Bool) → is_word_byte b ≡ t → All IsWordByte (take (cond t (suc (word_length bs)) 0) (b ∷ bs))
    go words true e = All-cons IsWordByte b (take (word_length bs) bs) ((word_test b).0 e) words
    go words false e = All-nil IsWordByte

abbrev ByteAt : List ℕ → ℕ → Type 0
ByteAt bs n = (c : ℕ) × (rest : List ℕ) × (drop n bs ≡ c ∷ rest) × (is_word_byte c ≡ false)

byte_behind : (bs : List ℕ) → word_length bs < length bs → ByteAt bs (word_length bs)
byte_behind [] longer = absurd (omega (arith, longer))
byte_behind (b ∷ bs) longer = go (λ h. byte_behind bs h) (is_word_byte b) refl longer
  where
    go : (word_length bs < length bs → ByteAt bs (word_length bs)) → (t : Bool) → is_word_byte b ≡ t → cond t (suc (word_length bs)) 0 < length (b ∷ bs)
        → ByteAt (b ∷ bs) (cond t (suc (word_length bs)) 0)
    go behind true e longer = behind (omega (arith, longer))
    go behind false e longer = (b, bs, refl, e)

first_word : (bs : List ℕ) → word_length bs < length bs → word_length bs ≤ NAME_BYTES → has_letter (take (word_length bs) bs) ≡ true
    → IsWhole kind.Word (take (word_length bs) bs) (drop (word_length bs) bs)
first_word bs longer short letter =
    let next = byte_behind bs longer in
    subst (λ (d : List ℕ). IsWhole kind.Word (take (word_length bs) bs) d) (sym next.2)
    (whole_word (take (word_length bs) bs) next.0 next.1 (word_bytes bs) letter (omega (arith, length-take (word_length bs) bs)) next.3)

pub word_is_whole : (bs : List ℕ) (n : ℕ) (w behind : List ℕ) → n ≡ word_length bs → n < length bs → n ≤ NAME_BYTES → w ≡ take n bs → behind ≡ drop n bs → has_letter w ≡ true
    → IsWhole kind.Word w behind
word_is_whole bs n w behind e longer short front back letter =
    let before : w ≡ take (word_length bs) bs = front ∙ ap (λ (k : ℕ). take k bs) e in
    let after : behind ≡ drop (word_length bs) bs = back ∙ ap (λ (k : ℕ). drop k bs) e in
    subst (λ (x : List ℕ). IsWhole kind.Word x behind) (sym before)
    (subst (λ (y : List ℕ). IsWhole kind.Word (take (word_length bs) bs) y) (sym after)
    (first_word bs (omega (arith, e, longer)) (omega (arith, e, short)) (sym (ap has_letter before) ∙ letter)))

-- ---- marks

mark_line_end : (b : ℕ) → is_mark_byte b ≡ true → nat_eq b 10 ≡ false
mark_line_end b h = grind (arith, nat_tests)

pair_line_end : (b c : ℕ) → is_pair b c ≡ true → nat_eq c 10 ≡ false
pair_line_end b c h = grind (arith, nat_tests)

one_mark : (b c : ℕ) (rest : List ℕ) → is_mark_byte b ≡ true → is_pair b c ≡ false → IsWhole kind.Mark (b ∷ []) (c ∷ rest)
unfolding step
one_mark b c rest mark alone = λ s between.
    begins class.Mark b (c ∷ rest) s between (class_is_mark b ((mark_test b).0 mark))
    ∙ ap (λ (t : Bool). fold step (cond t (closed kind.Mark (grown mode.Mark (opened mode.Mark s b) c)) (begun (closed kind.Mark (opened mode.Mark s b)) c)) rest) alone
    ∙ ap (λ (p : Place). fold step (closed kind.Mark (stand mode.Mark s.place (b ∷ []) p s.tokens)) (c ∷ rest)) (on_line s.place b (mark_line_end b mark))

two_marks : (b c : ℕ) (rest : List ℕ) → is_mark_byte b ≡ true → is_pair b c ≡ true → IsWhole kind.Mark (b ∷ c ∷ []) rest
unfolding step
two_marks b c rest mark pair = λ s between.
    begins class.Mark b (c ∷ rest) s between (class_is_mark b ((mark_test b).0 mark))
    ∙ ap (λ (t : Bool). fold step (cond t (closed kind.Mark (grown mode.Mark (opened mode.Mark s b) c)) (begun (closed kind.Mark (opened mode.Mark s b)) c)) rest) pair
    ∙ ap (λ (p : Place). fold step (closed kind.Mark (stand mode.Mark s.place (b ∷ c ∷ []) p s.tokens)) rest)
    (on_line (after_byte s.place b) c (pair_line_end b c pair) ∙ ap (λ (p : Place). along p 1) (on_line s.place b (mark_line_end b mark)) ∙ along_twice s.place 1 1 2 (omega arith))

first_mark : (bs : List ℕ) (t : Bool) → 2 ≤ length bs → is_mark_byte (get_or bs 0 0) ≡ true → is_pair (get_or bs 0 0) (get_or bs 1 0) ≡ t
    → IsWhole kind.Mark (take (cond t 2 1) bs) (drop (cond t 2 1) bs)
first_mark [] t long is pair = absurd (omega (arith, long))
first_mark (b ∷ []) t long is pair = absurd (omega (arith, long))
first_mark (b ∷ c ∷ rest) true long is pair = two_marks b c rest is pair
first_mark (b ∷ c ∷ rest) false long is pair = one_mark b c rest is pair

pub mark_is_whole : (bs : List ℕ) (t : Bool) (n : ℕ) (mark behind : List ℕ) → 2 ≤ length bs → is_mark_byte (get_or bs 0 0) ≡ true → is_pair (get_or bs 0 0) (get_or bs 1 0) ≡ t
    → n ≡ cond t 2 1 → mark ≡ take n bs → behind ≡ drop n bs → IsWhole kind.Mark mark behind
mark_is_whole bs t n mark behind long is pair e front back =
    subst (λ (x : List ℕ). IsWhole kind.Mark x behind) (sym (front ∙ ap (λ (k : ℕ). take k bs) e))
    (subst (λ (y : List ℕ). IsWhole kind.Mark (take (cond t 2 1) bs) y) (sym (back ∙ ap (λ (k : ℕ). drop k bs) e))
    (first_mark bs t long is pair))
