-- The machine takes a piece, and meets a fault.
use Rattle.std.proofs.Common.{◌≡◌, ◌==◌, ◌<◌, ◌≤◌, ◌+◌, Bool, true, false, cond, nat_lt, List, ℕ, length, ◌++◌, [], ◌∷◌, Result, Ok, Err, All, arith, sym, refl, ap, ap₂, ◌∙◌, append_assoc, append-nil, subst, length-append, eqb-true, ltb-true}
use Rattle.std.proofs.lemmas.List.Elements.{All-head, All-tail}
use Rattle.msc_base.specs.declared.limits.TheConstants.Limits.{NAME_BYTES}
use Rattle.msc_base.specs.declared.place.Place.{Place}
use Rattle.msc_base.specs.Names.{IsWordByte, is_word_byte}
use Rattle.msc_tokens.specs.declared.token.Token.{Token}
use Rattle.msc_tokens.specs.declared.token.TokenKind.TheVariants as kind
use Rattle.msc_tokens.specs.declared.token_list.TokenList.{TokenList}
use Rattle.msc_tokens.specs.declared.fault.LexFault.{LexFault}
use Rattle.msc_tokens.specs.declared.fault.LexFault.TheVariants as fault
use Rattle.msc_tokens.specs.declared.byte_class.ByteClass.{ByteClass}
use Rattle.msc_tokens.specs.declared.mode.Mode.{Mode}
use Rattle.msc_tokens.specs.declared.mode.Mode.TheVariants as mode
use Rattle.msc_tokens.specs.ByteTests.{is_inside, has_letter, is_pair, class_of}
use Rattle.msc_tokens.specs.Places.{after_byte, past}
use Rattle.msc_tokens.specs.Machine.{State, in_mode, grown, closed, refused, begun_as, begun, step, listed, ended}
use Rattle.msc_tokens.specs.Spelling.{IsInside, IsMark, IsPair, BeginsWith, IsApostrophe, IsSlash, StringPart, Plain, Doubled, held, AreParts, IsNoted}
use Rattle.msc_tokens.proofs.ByteFacts.{test_false, equal_test, word_test, inside_test, pair_test, star_inside}
use Rattle.msc_tokens.proofs.Soundness.{answer}
use Rattle.msc_tokens.proofs.Wholes.{begins as begins_at, word_runs as runs_in_word, word_ends as ends_word}
pub use Rattle.msc_tokens.proofs.Wholes.{stand}

-- a fault stays
pub bad_stays : (bytes : List ℕ) (st : Place) (tx : List ℕ) (pl : Place) (tk : List Token) → answer (stand mode.BadByte st tx pl tk) bytes ≡ Err (fault.BadByte st)
unfolding step
bad_stays [] st tx pl tk = refl
bad_stays (c ∷ bytes) st tx pl tk = bad_stays bytes st tx pl tk

pub long_stays : (bytes : List ℕ) (st : Place) (tx : List ℕ) (pl : Place) (tk : List Token) → answer (stand mode.LongName st tx pl tk) bytes ≡ Err (fault.LongName st)
unfolding step
long_stays [] st tx pl tk = refl
long_stays (c ∷ bytes) st tx pl tk = long_stays bytes st tx pl tk

-- a byte where nothing is open
pub begins : (k : ByteClass) (c : ℕ) (bytes : List ℕ) (st : Place) (tx : List ℕ) (pl : Place) (tk : List Token) → class_of c ≡ k
    → answer (stand mode.Between st tx pl tk) (c ∷ bytes) ≡ answer (begun_as k (stand mode.Between st tx pl tk) c) bytes
begins k c bytes st tx pl tk e = ap (λ (s : State). ended s.mode s) (begins_at k c bytes (stand mode.Between st tx pl tk) refl e)

-- an open word takes the bytes of a word
pub word_runs : (v rest : List ℕ) (st : Place) (tx : List ℕ) (pl : Place) (tk : List Token) → All IsWordByte v → length tx + length v ≤ NAME_BYTES
    → answer (stand mode.Word st tx pl tk) (v ++ rest) ≡ answer (stand mode.Word st (tx ++ v) (past pl v) tk) rest
word_runs v rest st tx pl tk h short = ap (λ (s : State). ended s.mode s) (runs_in_word v rest st tx pl tk h short)

pub word_ends : (rest : List ℕ) (st : Place) (tx : List ℕ) (pl : Place) (tk : List Token) → has_letter tx ≡ true → (BeginsWith IsWordByte rest → ⊥)
    → answer (stand mode.Word st tx pl tk) rest ≡ answer (closed kind.Word (stand mode.Word st tx pl tk)) rest
unfolding step
word_ends [] st tx pl tk letter free =
    ap (λ (b : Bool). let r : Result TokenList LexFault = cond b (Ok (listed (closed kind.Word (stand mode.Word st tx pl tk)))) (Err (fault.BadByte st)) in r) letter
word_ends (c ∷ rest) st tx pl tk letter free =
    ap (λ (s : State). ended s.mode s) (ends_word c rest st tx pl tk letter (test_false (is_word_byte c) (IsWordByte c) (word_test c) free))

pub word_fails : (rest : List ℕ) (st : Place) (tx : List ℕ) (pl : Place) (tk : List Token) → has_letter tx ≡ false → (BeginsWith IsWordByte rest → ⊥)
    → answer (stand mode.Word st tx pl tk) rest ≡ Err (fault.BadByte st)
unfolding step
word_fails [] st tx pl tk letter free =
    ap (λ (b : Bool). let r : Result TokenList LexFault = cond b (Ok (listed (closed kind.Word (stand mode.Word st tx pl tk)))) (Err (fault.BadByte st)) in r) letter
word_fails (c ∷ rest) st tx pl tk letter free =
    let s : State = stand mode.Word st tx pl tk in
    let word : is_word_byte c ≡ false = test_false (is_word_byte c) (IsWordByte c) (word_test c) free in
    ap₂ (λ (b1 b3 : Bool). answer (cond b1 (cond (nat_lt (length tx) NAME_BYTES) (grown mode.Word s c) (in_mode mode.LongName s)) (cond b3 (begun (closed kind.Word s) c) (in_mode mode.BadByte s))) rest) word letter
    ∙ bad_stays rest st tx pl tk

-- a word that is longer than a name may be
pub long_runs : (v rest : List ℕ) (st : Place) (tx : List ℕ) (pl : Place) (tk : List Token) → All IsWordByte v → length tx ≤ NAME_BYTES → NAME_BYTES + 1 ≤ length tx + length v
    → answer (stand mode.Word st tx pl tk) (v ++ rest) ≡ Err (fault.LongName st)
unfolding step
long_runs [] rest st tx pl tk h short long = absurd (omega arith)
long_runs (c ∷ v) rest st tx pl tk h short long =
    let later : (more : List ℕ) (p : Place) → length more ≤ NAME_BYTES → NAME_BYTES + 1 ≤ length more + length v → answer (stand mode.Word st more p tk) (v ++ rest) ≡ Err (fault.LongName st) =
    λ more p. long_runs v rest st more p tk (All-tail IsWordByte c v h) in
    ap (λ (b1 : Bool). by_tests b1 (nat_lt (length tx) NAME_BYTES)) word ∙ go later (nat_lt (length tx) NAME_BYTES) refl
  where
    word : is_word_byte c ≡ true
    word = (word_test c).1 (All-head IsWordByte c v h)

    by_tests : Bool → Bool → Result TokenList LexFault
    by_tests b1 b2 = answer (cond b1 (cond b2 (grown mode.Word (stand mode.Word st tx pl tk) c) (in_mode mode.LongName (stand mode.Word st tx pl tk)))
        (cond (has_letter tx) (begun (closed kind.Word (stand mode.Word st tx pl tk)) c) (in_mode mode.BadByte (stand mode.Word st tx pl tk)))) (v ++ rest)

    go : ((more : List ℕ) (p : Place) → length more ≤ NAME_BYTES → NAME_BYTES + 1 ≤ length more + length v → answer (stand mode.Word st more p tk) (v ++ rest) ≡ Err (fault.LongName st))
        → (b2 : Bool) → nat_lt (length tx) NAME_BYTES ≡ b2 → by_tests true b2 ≡ Err (fault.LongName st)
    go later true e =
        let room : length tx < NAME_BYTES = ltb-true (length tx) NAME_BYTES e in
        later (tx ++ c ∷ []) (after_byte pl c) (omega (arith, length-append tx (c ∷ []))) (omega (arith, length-append tx (c ∷ [])))
    go later false e = long_stays (v ++ rest) st tx pl tk

-- an open string takes its parts
pub parts_run : (ps : List StringPart) (rest : List ℕ) (st : Place) (tx : List ℕ) (pl : Place) (tk : List Token) → AreParts ps
    → answer (stand mode.Str st tx pl tk) (held ps ++ rest) ≡ answer (stand mode.Str st (tx ++ held ps) (past pl (held ps)) tk) rest
unfolding step
parts_run [] rest st tx pl tk h = ap (λ (bs : List ℕ). answer (stand mode.Str st bs pl tk) rest) (sym (append-nil tx))
parts_run (Plain b ∷ ps) rest st tx pl tk h =
    let s : State = stand mode.Str st tx pl tk in
    let other : (b == 39) ≡ false = test_false (b == 39) (b ≡ 39) (equal_test b 39) h.1 in
    let inside : is_inside b ≡ true = (inside_test b).1 h.0 in
    ap₂ (λ (b1 b2 : Bool). answer (cond b1 (grown mode.Quote s b) (cond b2 (grown mode.Str s b) (refused s))) (held ps ++ rest)) other inside
    ∙ parts_run ps rest st (tx ++ b ∷ []) (after_byte pl b) tk h.2
    ∙ ap (λ (bs : List ℕ). answer (stand mode.Str st bs (past pl (b ∷ held ps)) tk) rest) (append_assoc tx (b ∷ []) (held ps))
parts_run (Doubled ∷ ps) rest st tx pl tk h =
    parts_run ps rest st ((tx ++ 39 ∷ []) ++ 39 ∷ []) (after_byte (after_byte pl 39) 39) tk h
    ∙ ap (λ (bs : List ℕ). answer (stand mode.Str st bs (past pl (39 ∷ 39 ∷ held ps)) tk) rest)
    (append_assoc (tx ++ 39 ∷ []) (39 ∷ []) (held ps) ∙ append_assoc tx (39 ∷ []) (39 ∷ held ps))

pub quote_ends : (rest : List ℕ) (st : Place) (tx : List ℕ) (pl : Place) (tk : List Token) → (BeginsWith IsApostrophe rest → ⊥)
    → answer (stand mode.Quote st tx pl tk) rest ≡ answer (closed kind.Str (stand mode.Quote st tx pl tk)) rest
unfolding step
quote_ends [] st tx pl tk free = refl
quote_ends (c ∷ rest) st tx pl tk free =
    let s : State = stand mode.Quote st tx pl tk in
    let other : (c == 39) ≡ false = test_false (c == 39) (c ≡ 39) (equal_test c 39) free in
    ap (λ (b1 : Bool). answer (cond b1 (grown mode.Str s c) (begun (closed kind.Str s) c)) rest) other

-- a byte that a string can't hold
pub string_breaks : (b : ℕ) (rest : List ℕ) (st : Place) (tx : List ℕ) (pl : Place) (tk : List Token) → (IsInside b → ⊥)
    → answer (stand mode.Str st tx pl tk) (b ∷ rest) ≡ Err (fault.BadByte pl)
unfolding step
string_breaks b rest st tx pl tk free =
    let s : State = stand mode.Str st tx pl tk in
    let other : (b == 39) ≡ false = test_false (b == 39) (b ≡ 39) (equal_test b 39) (λ e. free (subst IsInside (sym e) ((inside_test 39).0 refl))) in
    let outside : is_inside b ≡ false = test_false (is_inside b) (IsInside b) (inside_test b) free in
    ap₂ (λ (b1 b2 : Bool). answer (cond b1 (grown mode.Quote s b) (cond b2 (grown mode.Str s b) (refused s))) rest) other outside
    ∙ bad_stays rest pl tx pl tk

-- a note behind a `*` or not
abbrev pub noting : Bool → Mode
noting true = mode.Star
noting false = mode.Note

note_step : (star : Bool) (b : ℕ) (bytes : List ℕ) (st : Place) (tx : List ℕ) (pl : Place) (tk : List Token) → IsInside b → (star ≡ true → IsSlash b → ⊥)
    → answer (stand (noting star) st tx pl tk) (b ∷ bytes) ≡ answer (stand (noting (b == 42)) st tx (after_byte pl b) tk) bytes
unfolding step
note_step false b bytes st tx pl tk inside free =
    ap (λ (b2 : Bool). answer (cond (b == 42) (stand mode.Star st tx (after_byte pl b) tk) (cond b2 (stand mode.Note st tx (after_byte pl b) tk) (refused (stand mode.Note st tx pl tk)))) bytes) ((inside_test b).1 inside)
    ∙ go (b == 42)
  where
    go : (b1 : Bool) → answer (cond b1 (stand mode.Star st tx (after_byte pl b) tk) (stand mode.Note st tx (after_byte pl b) tk)) bytes ≡ answer (stand (noting b1) st tx (after_byte pl b) tk) bytes
    go true = refl
    go false = refl
note_step true b bytes st tx pl tk inside free =
    ap₂ (λ (b0 b2 : Bool). answer (cond b0 (stand mode.Between st tx (after_byte pl b) tk) (cond (b == 42) (stand mode.Star st tx (after_byte pl b) tk) (cond b2 (stand mode.Note st tx (after_byte pl b) tk) (refused (stand mode.Star st tx pl tk))))) bytes)
    (test_false (b == 47) (b ≡ 47) (equal_test b 47) (free refl)) ((inside_test b).1 inside)
    ∙ go (b == 42)
  where
    go : (b1 : Bool) → answer (cond b1 (stand mode.Star st tx (after_byte pl b) tk) (stand mode.Note st tx (after_byte pl b) tk)) bytes ≡ answer (stand (noting b1) st tx (after_byte pl b) tk) bytes
    go true = refl
    go false = refl

-- an open note takes its bytes
pub note_runs : (bs rest : List ℕ) (star : Bool) (st : Place) (tx : List ℕ) (pl : Place) (tk : List Token) → IsNoted bs → (star ≡ true → BeginsWith IsSlash bs → ⊥)
    → (later : Bool) × (answer (stand (noting star) st tx pl tk) (bs ++ rest) ≡ answer (stand (noting later) st tx (past pl bs) tk) rest)
note_runs [] rest star st tx pl tk h free = (star, refl)
note_runs (b ∷ bs) rest star st tx pl tk h free =
    let more = note_runs bs rest (b == 42) st tx (after_byte pl b) tk h.2 (λ e. h.1 (eqb-true b 42 e)) in
    (more.0, note_step star b (bs ++ rest) st tx pl tk h.0 free ∙ more.1)

pub note_closes : (star : Bool) (rest : List ℕ) (st : Place) (tx : List ℕ) (pl : Place) (tk : List Token)
    → answer (stand (noting star) st tx pl tk) (42 ∷ 47 ∷ rest) ≡ answer (stand mode.Between st tx (past pl (42 ∷ 47 ∷ [])) tk) rest
unfolding step
note_closes true rest st tx pl tk = refl
note_closes false rest st tx pl tk = refl

pub note_stays : (star : Bool) (st : Place) (tx : List ℕ) (pl : Place) (tk : List Token) → answer (stand (noting star) st tx pl tk) [] ≡ Err (fault.OpenNote st)
note_stays true st tx pl tk = refl
note_stays false st tx pl tk = refl

-- a byte that a note can't hold
pub note_breaks : (star : Bool) (b : ℕ) (rest : List ℕ) (st : Place) (tx : List ℕ) (pl : Place) (tk : List Token) → (IsInside b → ⊥)
    → answer (stand (noting star) st tx pl tk) (b ∷ rest) ≡ Err (fault.BadByte pl)
unfolding step
note_breaks star b rest st tx pl tk free = go star
  where
    no_star : (b == 42) ≡ false
    no_star = test_false (b == 42) (b ≡ 42) (equal_test b 42) (λ e. free (subst IsInside (sym e) star_inside))

    no_slash : (b == 47) ≡ false
    no_slash = test_false (b == 47) (b ≡ 47) (equal_test b 47) (λ e. free (subst IsInside (sym e) ((inside_test 47).0 refl)))

    outside : is_inside b ≡ false
    outside = test_false (is_inside b) (IsInside b) (inside_test b) free

    go : (star : Bool) → answer (stand (noting star) st tx pl tk) (b ∷ rest) ≡ Err (fault.BadByte pl)
    go false =
        ap₂ (λ (b1 b2 : Bool). answer (cond b1 (stand mode.Star st tx (after_byte pl b) tk) (cond b2 (stand mode.Note st tx (after_byte pl b) tk) (refused (stand mode.Note st tx pl tk)))) rest) no_star outside
        ∙ bad_stays rest pl tx pl tk
    go true =
        ap (λ (b0 : Bool). answer (cond b0 (stand mode.Between st tx (after_byte pl b) tk) (cond (b == 42) (stand mode.Star st tx (after_byte pl b) tk) (cond (is_inside b) (stand mode.Note st tx (after_byte pl b) tk) (refused (stand mode.Star st tx pl tk))))) rest) no_slash
        ∙ ap₂ (λ (b1 b2 : Bool). answer (cond b1 (stand mode.Star st tx (after_byte pl b) tk) (cond b2 (stand mode.Note st tx (after_byte pl b) tk) (refused (stand mode.Star st tx pl tk)))) rest) no_star outside
        ∙ bad_stays rest pl tx pl tk

pub mark_ends : (b : ℕ) (rest : List ℕ) (st pl : Place) (tk : List Token) → (BeginsWith (IsPair b) rest → ⊥)
    → answer (stand mode.Mark st (b ∷ []) pl tk) rest ≡ answer (closed kind.Mark (stand mode.Mark st (b ∷ []) pl tk)) rest
unfolding step
mark_ends b [] st pl tk free = refl
mark_ends b (c ∷ rest) st pl tk free =
    let s : State = stand mode.Mark st (b ∷ []) pl tk in
    ap (λ (b1 : Bool). answer (cond b1 (closed kind.Mark (grown mode.Mark s c)) (begun (closed kind.Mark s) c)) rest) (test_false (is_pair b c) (IsPair b c) (pair_test b c) free)

pub mark_grows : (b c : ℕ) (rest : List ℕ) (st pl : Place) (tk : List Token) → IsPair b c
    → answer (stand mode.Mark st (b ∷ []) pl tk) (c ∷ rest) ≡ answer (closed kind.Mark (grown mode.Mark (stand mode.Mark st (b ∷ []) pl tk) c)) rest
unfolding step
mark_grows b c rest st pl tk is =
    let s : State = stand mode.Mark st (b ∷ []) pl tk in
    ap (λ (b1 : Bool). answer (cond b1 (closed kind.Mark (grown mode.Mark s c)) (begun (closed kind.Mark s) c)) rest) ((pair_test b c).1 is)

pub pair_mark : (b c : ℕ) → IsPair b c → IsMark b
pair_mark b c h = grind arith
