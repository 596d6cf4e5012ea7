-- What the machine answers is what the text is.
use Rattle.std.proofs.Common.{◌≡◌, ◌==◌, ◌<◌, ◌≤◌, Bool, true, false, cond, nat_lt, List, ℕ, length, ◌++◌, [], ◌∷◌, Result, Ok, Err, All, Any, arith, sym, refl, ap, ap₂, ◌∙◌, append_assoc, append-nil, subst, length-append, eqb-true, ltb-true, ltb-false}
use Rattle.std.specs.Prelude.{fold}
use Rattle.std.proofs.lemmas.List.Elements.{All-push, All-nil, All-cons}
use Rattle.msc_base.specs.declared.limits.TheConstants.Limits.{NAME_BYTES}
use Rattle.msc_base.specs.declared.place.Place.{Place}
use Rattle.msc_base.specs.Names.{IsWordByte, IsLetterOrDigit, is_word_byte}
use Rattle.msc_tokens.specs.declared.token.Token.{Token}
use Rattle.msc_tokens.specs.declared.token.TokenKind.{TokenKind}
use Rattle.msc_tokens.specs.declared.token.TokenKind.TheVariants as kind
use Rattle.msc_tokens.specs.declared.token_list.TokenList.{TokenList}
use Rattle.msc_tokens.specs.declared.fault.LexFault.{LexFault}
use Rattle.msc_tokens.specs.declared.fault.LexFault.TheVariants as fault
use Rattle.msc_tokens.specs.declared.byte_class.ByteClass.{ByteClass}
use Rattle.msc_tokens.specs.declared.byte_class.ByteClass.TheVariants as class
use Rattle.msc_tokens.specs.declared.mode.Mode.{Mode}
use Rattle.msc_tokens.specs.declared.mode.Mode.TheVariants as mode
use Rattle.msc_tokens.specs.ByteTests.{is_inside, has_letter, is_pair, makes_pair, class_of}
use Rattle.msc_tokens.specs.Places.{first_place, after_byte, past}
use Rattle.msc_tokens.specs.Machine.{State, in_mode, opened, passed, grown, closed, refused, begun_as, begun, next, step, first_state, listed, ended}
use Rattle.msc_tokens.specs.Spelling.{IsInside, IsMark, IsPair, IsSlash, IsStar, StringPart, Plain, Doubled, held, AreParts, IsNoted, TextPiece, Blank, Note, OneWord, OneString, OneMark, LongMark, text, token_of, IsPiece, Ends, BreaksSpelling, long_word, bad_word, bad_byte, lone_slash, open_string, open_note, bad_in_string, bad_in_note}
use Rattle.msc_tokens.proofs.ByteFacts.{not_when_false, equal_test, star_inside, star_no_slash, word_test, inside_test, pair_test, letters_test, blank_class, word_class, apostrophe_class, slash_class, mark_class, other_class}
use Rattle.msc_tokens.proofs.Cutting.{past-append, Reads, piece_more, broken_here}

-- what the machine answers where these bytes follow, and then the text ends
abbrev pub answer : State → List ℕ → Result TokenList LexFault
answer s bytes = ended (fold step s bytes).mode (fold step s bytes)

abbrev EndsInStar : List ℕ → Type 0
EndsInStar [] = ⊥
EndsInStar (b ∷ []) = IsStar b
EndsInStar (b ∷ c ∷ bs) = EndsInStar (c ∷ bs)

-- the open token is kept, and began there
record IsKept (s : State) (pend : List ℕ) (at : Place) : Type 0 where
  text_is : s.text ≡ pend
  start_is : s.start ≡ at
  place_is : s.place ≡ past at pend

-- what is known of the bytes that are open, which began at that place
abbrev Open : Mode → State → List ℕ → Place → Type 0
Open mode.Between s pend at = (pend ≡ []) × (s.place ≡ at)
Open mode.Word s pend at = IsKept s pend at × All IsWordByte pend × (0 < length pend) × (length pend ≤ NAME_BYTES)
Open mode.Str s pend at = (ps : List StringPart) × IsKept s pend at × AreParts ps × (pend ≡ 39 ∷ held ps)
Open mode.Quote s pend at = (ps : List StringPart) × IsKept s pend at × AreParts ps × (pend ≡ 39 ∷ (held ps ++ 39 ∷ []))
Open mode.Slash s pend at = (s.start ≡ at) × (s.place ≡ past at pend) × (pend ≡ 47 ∷ [])
Open mode.Note s pend at = (bs : List ℕ) × (s.start ≡ at) × (s.place ≡ past at pend) × IsNoted bs × (EndsInStar bs → ⊥) × (pend ≡ 47 ∷ 42 ∷ bs)
Open mode.Star s pend at = (bs : List ℕ) × (s.start ≡ at) × (s.place ≡ past at pend) × IsNoted (bs ++ 42 ∷ []) × (pend ≡ 47 ∷ 42 ∷ (bs ++ 42 ∷ []))
Open mode.Mark s pend at = (b : ℕ) × IsKept s pend at × IsMark b × (pend ≡ b ∷ [])
Open mode.BadByte s pend at = (more : List ℕ) → BreaksSpelling at (pend ++ more) (fault.BadByte s.start)
Open mode.LongName s pend at = (more : List ℕ) → BreaksSpelling at (pend ++ more) (fault.LongName s.start)

-- a text that ends where nothing is open
nothing_more : (s : State) → Reads s.place s.tokens [] (Ok (listed s))
nothing_more s = record { pieces = []; spelled = refl; cut = tt; tokens_are = sym (append-nil s.tokens); end_is = refl }

abbrev one_token : TokenKind → List ℕ → Place → List Token
one_token k bs p = (record { kind = k; bytes = bs; place = p }) ∷ []

-- the open token ends before the bytes that follow
ending : (x : TextPiece) (k : TokenKind) (s : State) (at : Place) (bytes : List ℕ) (a : Result TokenList LexFault) → IsPiece x → Ends x bytes
    → ((p : Place) → token_of p x ≡ one_token k (text x) p) → IsKept s (text x) at
    → Reads (closed k s).place (closed k s).tokens bytes a → Reads at s.tokens (text x ++ bytes) a
ending x k s at bytes a is ends one kept h = piece_more x at s.tokens bytes a is ends
    (subst (λ p. Reads p (s.tokens ++ token_of at x) bytes a) kept.place_is
    (subst (λ ts. Reads s.place (s.tokens ++ ts) bytes a) (tokens_are ∙ sym (one at)) h))
  where
    tokens_are : one_token k s.text s.start ≡ one_token k (text x) at
    tokens_are = ap₂ (one_token k) kept.text_is kept.start_is

-- the bytes that are open take one more
abbrev more_open : (at : Place) (before : List Token) (pend : List ℕ) (c : ℕ) (bytes : List ℕ) (a : Result TokenList LexFault)
    → Reads at before ((pend ++ c ∷ []) ++ bytes) a → Reads at before (pend ++ c ∷ bytes) a
more_open at before pend c bytes a h = subst (λ bs. Reads at before bs a) (append_assoc pend (c ∷ []) bytes) h

placed_more : (s : State) (pend : List ℕ) (at : Place) (c : ℕ) → s.place ≡ past at pend → after_byte s.place c ≡ past at (pend ++ c ∷ [])
placed_more s pend at c is = ap (λ p. after_byte p c) is ∙ sym (past-append at pend (c ∷ []))

kept_more : (m : Mode) (s : State) (pend : List ℕ) (at : Place) (c : ℕ) → IsKept s pend at → IsKept (grown m s c) (pend ++ c ∷ []) at
kept_more m s pend at c kept = record {
  text_is = ap (λ (bs : List ℕ). bs ++ c ∷ []) kept.text_is;
  start_is = kept.start_is;
  place_is = placed_more s pend at c kept.place_is;
}

-- what is known of all bytes that follow
abbrev Known : List ℕ → Type 0
Known bytes = (m : Mode) (s : State) (pend : List ℕ) (at : Place) → s.mode ≡ m → Open m s pend at → Reads at s.tokens (pend ++ bytes) (answer s bytes)

-- a byte where nothing is open
known_begun : (bytes : List ℕ) → Known bytes → (s : State) (c : ℕ) → Reads s.place s.tokens (c ∷ bytes) (answer (begun s c) bytes)
known_begun bytes known s c = go (class_of c) refl
  where
    go : (k : ByteClass) → class_of c ≡ k → Reads s.place s.tokens (c ∷ bytes) (answer (begun_as k s c) bytes)
    go class.Blank e = piece_more (Blank c) s.place s.tokens bytes (answer (passed mode.Between s c) bytes) (blank_class c e) tt
        (subst (λ ts. Reads (after_byte s.place c) ts bytes (answer (passed mode.Between s c) bytes)) (sym (append-nil s.tokens))
        (known mode.Between (passed mode.Between s c) [] (after_byte s.place c) refl (refl, refl)))
    go class.Word e = known mode.Word (opened mode.Word s c) (c ∷ []) s.place refl
        (record { text_is = refl; start_is = refl; place_is = refl }, All-cons IsWordByte c [] (word_class c e) (All-nil IsWordByte), omega arith, omega arith)
    go class.Apostrophe e = known mode.Str (opened mode.Str s c) (c ∷ []) s.place refl
        ([], record { text_is = refl; start_is = refl; place_is = refl }, tt, ap (λ (b : ℕ). b ∷ []) (apostrophe_class c e))
    go class.Slash e = known mode.Slash (opened mode.Slash s c) (c ∷ []) s.place refl (refl, refl, ap (λ (b : ℕ). b ∷ []) (slash_class c e))
    go class.Mark e = known mode.Mark (opened mode.Mark s c) (c ∷ []) s.place refl
        (c, record { text_is = refl; start_is = refl; place_is = refl }, mark_class c e, refl)
    go class.Other e = known mode.BadByte (refused s) (c ∷ []) s.place refl (λ more. bad_byte c more refl (other_class c e) refl)

-- only the prefix of a note's bytes says whether they close it
noted_front : (bs : List ℕ) → IsNoted (bs ++ 42 ∷ []) → IsNoted bs
noted_front [] h = tt
noted_front (b ∷ []) h = (h.0, λ s z. z, tt)
noted_front (b ∷ c ∷ bs) h = (h.0, h.1, noted_front (c ∷ bs) h.2)

noted_more : (bs : List ℕ) (c : ℕ) → IsNoted bs → IsInside c → (EndsInStar bs → IsSlash c → ⊥) → IsNoted (bs ++ c ∷ [])
noted_more [] c h inside free = (inside, λ s z. z, tt)
noted_more (b ∷ []) c h inside free = (h.0, free, (inside, λ s z. z, tt))
noted_more (b ∷ d ∷ bs) c h inside free = (h.0, h.1, noted_more (d ∷ bs) c h.2 inside free)

ends_in : (bs : List ℕ) (c : ℕ) → EndsInStar (bs ++ c ∷ []) → IsStar c
ends_in [] c h = h
ends_in (b ∷ []) c h = h
ends_in (b ∷ d ∷ bs) c h = ends_in (d ∷ bs) c h

held_more : (ps : List StringPart) (p : StringPart) → held (ps ++ p ∷ []) ≡ held ps ++ held (p ∷ [])
held_more [] p = refl
held_more (Plain b ∷ ps) p = ap (λ (bs : List ℕ). b ∷ bs) (held_more ps p)
held_more (Doubled ∷ ps) p = ap (λ (bs : List ℕ). 39 ∷ 39 ∷ bs) (held_more ps p)

parts_more : (ps : List StringPart) (p : StringPart) → AreParts ps → AreParts (p ∷ []) → AreParts (ps ++ p ∷ [])
parts_more [] p h k = k
parts_more (Plain b ∷ ps) p h k = (h.0, h.1, parts_more ps p h.2 k)
parts_more (Doubled ∷ ps) p h k = parts_more ps p h k

-- a byte behind an open word
known_in_word : (bytes : List ℕ) → Known bytes → (s : State) (c : ℕ) (pend : List ℕ) (at : Place) → Open mode.Word s pend at
    → Reads at s.tokens (pend ++ c ∷ bytes) (answer (next mode.Word s c) bytes)
known_in_word bytes known s c pend at h = go (is_word_byte c) refl (nat_lt (length s.text) NAME_BYTES) refl (has_letter s.text) refl
  where
    go : (b1 : Bool) → is_word_byte c ≡ b1 → (b2 : Bool) → nat_lt (length s.text) NAME_BYTES ≡ b2 → (b3 : Bool) → has_letter s.text ≡ b3
        → Reads at s.tokens (pend ++ c ∷ bytes) (answer (cond b1 (cond b2 (grown mode.Word s c) (in_mode mode.LongName s)) (cond b3 (begun (closed kind.Word s) c) (in_mode mode.BadByte s))) bytes)
    go true e1 true e2 b3 e3 =
        let short : length s.text < NAME_BYTES = ltb-true (length s.text) NAME_BYTES e2 in
        let counts : length s.text ≡ length pend = ap length h.0.text_is in
        more_open at s.tokens pend c bytes (answer (grown mode.Word s c) bytes)
        (known mode.Word (grown mode.Word s c) (pend ++ c ∷ []) at refl
        (kept_more mode.Word s pend at c h.0, All-push IsWordByte pend c h.1 ((word_test c).0 e1), omega (arith, length-append pend (c ∷ [])), omega (arith, length-append pend (c ∷ []))))
    go true e1 false e2 b3 e3 =
        let long : NAME_BYTES ≤ length s.text = ltb-false (length s.text) NAME_BYTES e2 in
        let counts : length s.text ≡ length pend = ap length h.0.text_is in
        more_open at s.tokens pend c bytes (answer (in_mode mode.LongName s) bytes)
        (known mode.LongName (in_mode mode.LongName s) (pend ++ c ∷ []) at refl
        (λ more. long_word (pend ++ c ∷ []) more refl (All-push IsWordByte pend c h.1 ((word_test c).0 e1)) (omega (arith, length-append pend (c ∷ []))) (ap fault.LongName h.0.start_is)))
    go false e1 b2 e2 true e3 =
        let one : Any IsLetterOrDigit pend = subst (Any IsLetterOrDigit) h.0.text_is ((letters_test s.text).0 e3) in
        ending (OneWord pend) kind.Word s at (c ∷ bytes) (answer (begun (closed kind.Word s) c) bytes)
        (record { bytes_are = h.1; has_one = one; short = h.3 }) (not_when_false (is_word_byte c) (IsWordByte c) (word_test c) e1) (λ p. refl) h.0
        (known_begun bytes known (closed kind.Word s) c)
    go false e1 b2 e2 false e3 =
        let none : Any IsLetterOrDigit pend → ⊥ = λ k. not_when_false (has_letter s.text) (Any IsLetterOrDigit s.text) (letters_test s.text) e3 (subst (Any IsLetterOrDigit) (sym h.0.text_is) k) in
        more_open at s.tokens pend c bytes (answer (in_mode mode.BadByte s) bytes)
        (known mode.BadByte (in_mode mode.BadByte s) (pend ++ c ∷ []) at refl
        (λ more. bad_word pend (c ∷ more) (append_assoc pend (c ∷ []) more) h.1 (not_when_false (is_word_byte c) (IsWordByte c) (word_test c) e1) h.2 h.3 none (ap fault.BadByte h.0.start_is)))

-- a byte inside a string
known_in_string : (bytes : List ℕ) → Known bytes → (s : State) (c : ℕ) (pend : List ℕ) (at : Place) → Open mode.Str s pend at
    → Reads at s.tokens (pend ++ c ∷ bytes) (answer (next mode.Str s c) bytes)
known_in_string bytes known s c pend at h = go (c == 39) refl (is_inside c) refl
  where
    go : (b1 : Bool) → (c == 39) ≡ b1 → (b2 : Bool) → is_inside c ≡ b2
        → Reads at s.tokens (pend ++ c ∷ bytes) (answer (cond b1 (grown mode.Quote s c) (cond b2 (grown mode.Str s c) (refused s))) bytes)
    go true e1 b2 e2 = more_open at s.tokens pend c bytes (answer (grown mode.Quote s c) bytes)
        (known mode.Quote (grown mode.Quote s c) (pend ++ c ∷ []) at refl
        (h.0, kept_more mode.Quote s pend at c h.1, h.2, ap₂ (λ (bs : List ℕ) (b : ℕ). bs ++ b ∷ []) h.3 (eqb-true c 39 e1)))
    go false e1 true e2 = more_open at s.tokens pend c bytes (answer (grown mode.Str s c) bytes)
        (known mode.Str (grown mode.Str s c) (pend ++ c ∷ []) at refl (
          h.0 ++ Plain c ∷ [],
          kept_more mode.Str s pend at c h.1,
          parts_more h.0 (Plain c) h.2 ((inside_test c).0 e2, not_when_false (c == 39) (c ≡ 39) (equal_test c 39) e1, tt),
          ap (λ (bs : List ℕ). bs ++ c ∷ []) h.3 ∙ ap (λ (bs : List ℕ). 39 ∷ bs) (sym (held_more h.0 (Plain c))),
        ))
    go false e1 false e2 = more_open at s.tokens pend c bytes (answer (refused s) bytes)
        (known mode.BadByte (refused s) (pend ++ c ∷ []) at refl
        (λ more. bad_in_string h.0 c more (append_assoc pend (c ∷ []) more ∙ ap (λ (bs : List ℕ). bs ++ c ∷ more) h.3) h.2
        (not_when_false (is_inside c) (IsInside c) (inside_test c) e2) (ap fault.BadByte (h.1.place_is ∙ ap (past at) h.3))))

-- a byte behind an apostrophe that may close a string
known_behind_quote : (bytes : List ℕ) → Known bytes → (s : State) (c : ℕ) (pend : List ℕ) (at : Place) → Open mode.Quote s pend at
    → Reads at s.tokens (pend ++ c ∷ bytes) (answer (next mode.Quote s c) bytes)
known_behind_quote bytes known s c pend at h = go (c == 39) refl
  where
    go : (b1 : Bool) → (c == 39) ≡ b1 → Reads at s.tokens (pend ++ c ∷ bytes) (answer (cond b1 (grown mode.Str s c) (begun (closed kind.Str s) c)) bytes)
    go true e1 = more_open at s.tokens pend c bytes (answer (grown mode.Str s c) bytes)
        (known mode.Str (grown mode.Str s c) (pend ++ c ∷ []) at refl (
          h.0 ++ Doubled ∷ [],
          kept_more mode.Str s pend at c h.1,
          parts_more h.0 Doubled h.2 tt,
          ap₂ (λ (bs : List ℕ) (b : ℕ). bs ++ b ∷ []) h.3 (eqb-true c 39 e1)
              ∙ ap (λ (bs : List ℕ). 39 ∷ bs) (append_assoc (held h.0) (39 ∷ []) (39 ∷ []) ∙ sym (held_more h.0 Doubled)),
        ))
    go false e1 = subst (λ (bs : List ℕ). Reads at s.tokens (bs ++ c ∷ bytes) (answer (begun (closed kind.Str s) c) bytes)) (sym h.3)
        (ending (OneString h.0) kind.Str s at (c ∷ bytes) (answer (begun (closed kind.Str s) c) bytes) h.2
        (not_when_false (c == 39) (c ≡ 39) (equal_test c 39) e1) (λ p. refl) (subst (λ (bs : List ℕ). IsKept s bs at) h.3 h.1)
        (known_begun bytes known (closed kind.Str s) c))

-- a byte behind a `/`
known_behind_slash : (bytes : List ℕ) → Known bytes → (s : State) (c : ℕ) (pend : List ℕ) (at : Place) → Open mode.Slash s pend at
    → Reads at s.tokens (pend ++ c ∷ bytes) (answer (next mode.Slash s c) bytes)
known_behind_slash bytes known s c pend at h = go (c == 42) refl
  where
    go : (b1 : Bool) → (c == 42) ≡ b1 → Reads at s.tokens (pend ++ c ∷ bytes) (answer (cond b1 (passed mode.Note s c) (in_mode mode.BadByte s)) bytes)
    go true e1 = more_open at s.tokens pend c bytes (answer (passed mode.Note s c) bytes)
        (known mode.Note (passed mode.Note s c) (pend ++ c ∷ []) at refl
        ([], h.0, placed_more s pend at c h.1, tt, λ z. z, ap₂ (λ (bs : List ℕ) (b : ℕ). bs ++ b ∷ []) h.2 (eqb-true c 42 e1)))
    go false e1 = more_open at s.tokens pend c bytes (answer (in_mode mode.BadByte s) bytes)
        (known mode.BadByte (in_mode mode.BadByte s) (pend ++ c ∷ []) at refl
        (λ more. lone_slash (c ∷ more) (append_assoc pend (c ∷ []) more ∙ ap (λ (bs : List ℕ). bs ++ c ∷ more) h.2)
        (not_when_false (c == 42) (c ≡ 42) (equal_test c 42) e1) (ap fault.BadByte h.0)))

-- a byte inside a note
known_in_note : (bytes : List ℕ) → Known bytes → (s : State) (c : ℕ) (pend : List ℕ) (at : Place) → Open mode.Note s pend at
    → Reads at s.tokens (pend ++ c ∷ bytes) (answer (next mode.Note s c) bytes)
known_in_note bytes known s c pend at h = go (c == 42) refl (is_inside c) refl
  where
    joined : pend ++ c ∷ [] ≡ 47 ∷ 42 ∷ (h.0 ++ c ∷ [])
    joined = ap (λ (bs : List ℕ). bs ++ c ∷ []) h.5

    go : (b1 : Bool) → (c == 42) ≡ b1 → (b2 : Bool) → is_inside c ≡ b2
        → Reads at s.tokens (pend ++ c ∷ bytes) (answer (cond b1 (passed mode.Star s c) (cond b2 (passed mode.Note s c) (refused s))) bytes)
    go true e1 b2 e2 =
        let star : c ≡ 42 = eqb-true c 42 e1 in
        more_open at s.tokens pend c bytes (answer (passed mode.Star s c) bytes)
        (known mode.Star (passed mode.Star s c) (pend ++ c ∷ []) at refl
        (h.0, h.1, placed_more s pend at c h.2, noted_more h.0 42 h.3 star_inside (λ k. absurd (h.4 k)), joined ∙ ap (λ (b : ℕ). 47 ∷ 42 ∷ (h.0 ++ b ∷ [])) star))
    go false e1 true e2 = more_open at s.tokens pend c bytes (answer (passed mode.Note s c) bytes)
        (known mode.Note (passed mode.Note s c) (pend ++ c ∷ []) at refl (
          h.0 ++ c ∷ [],
          h.1,
          placed_more s pend at c h.2,
          noted_more h.0 c h.3 ((inside_test c).0 e2) (λ k. absurd (h.4 k)),
          λ k. not_when_false (c == 42) (c ≡ 42) (equal_test c 42) e1 (ends_in h.0 c k),
          joined,
        ))
    go false e1 false e2 = more_open at s.tokens pend c bytes (answer (refused s) bytes)
        (known mode.BadByte (refused s) (pend ++ c ∷ []) at refl
        (λ more. bad_in_note h.0 c more (append_assoc pend (c ∷ []) more ∙ ap (λ (bs : List ℕ). bs ++ c ∷ more) h.5) h.3
        (not_when_false (is_inside c) (IsInside c) (inside_test c) e2) (ap fault.BadByte (h.2 ∙ ap (past at) h.5))))

-- a byte inside a note behind a `*`
known_behind_star : (bytes : List ℕ) → Known bytes → (s : State) (c : ℕ) (pend : List ℕ) (at : Place) → Open mode.Star s pend at
    → Reads at s.tokens (pend ++ c ∷ bytes) (answer (next mode.Star s c) bytes)
known_behind_star bytes known s c pend at h = go (c == 47) refl (c == 42) refl (is_inside c) refl
  where
    prefix : List ℕ
    prefix = h.0 ++ 42 ∷ []

    joined : pend ++ c ∷ [] ≡ 47 ∷ 42 ∷ ((h.0 ++ 42 ∷ []) ++ c ∷ [])
    joined = ap (λ (bs : List ℕ). bs ++ c ∷ []) h.4

    go : (b0 : Bool) → (c == 47) ≡ b0 → (b1 : Bool) → (c == 42) ≡ b1 → (b2 : Bool) → is_inside c ≡ b2
        → Reads at s.tokens (pend ++ c ∷ bytes) (answer (cond b0 (passed mode.Between s c) (cond b1 (passed mode.Star s c) (cond b2 (passed mode.Note s c) (refused s)))) bytes)
    go true e0 b1 e1 b2 e2 =
        let whole : pend ++ c ∷ [] ≡ text (Note h.0) =
        joined ∙ ap (λ (bs : List ℕ). 47 ∷ 42 ∷ bs) (append_assoc h.0 (42 ∷ []) (c ∷ []) ∙ ap (λ (b : ℕ). h.0 ++ 42 ∷ b ∷ []) (eqb-true c 47 e0)) in
        more_open at s.tokens pend c bytes (answer (passed mode.Between s c) bytes)
        (subst (λ (bs : List ℕ). Reads at s.tokens (bs ++ bytes) (answer (passed mode.Between s c) bytes)) (sym whole)
        (piece_more (Note h.0) at s.tokens bytes (answer (passed mode.Between s c) bytes) (noted_front h.0 h.3) tt
        (subst (λ ts. Reads (past at (text (Note h.0))) ts bytes (answer (passed mode.Between s c) bytes)) (sym (append-nil s.tokens))
        (known mode.Between (passed mode.Between s c) [] (past at (text (Note h.0))) refl
        (refl, placed_more s pend at c h.2 ∙ ap (past at) whole)))))
    go false e0 true e1 b2 e2 =
        let star : c ≡ 42 = eqb-true c 42 e1 in
        more_open at s.tokens pend c bytes (answer (passed mode.Star s c) bytes)
        (known mode.Star (passed mode.Star s c) (pend ++ c ∷ []) at refl (
          h.0 ++ 42 ∷ [],
          h.1,
          placed_more s pend at c h.2,
          noted_more (h.0 ++ 42 ∷ []) 42 h.3 star_inside (λ k z. star_no_slash z),
          joined ∙ ap (λ (b : ℕ). 47 ∷ 42 ∷ ((h.0 ++ 42 ∷ []) ++ b ∷ [])) star,
        ))
    go false e0 false e1 true e2 = more_open at s.tokens pend c bytes (answer (passed mode.Note s c) bytes)
        (known mode.Note (passed mode.Note s c) (pend ++ c ∷ []) at refl (
          (h.0 ++ 42 ∷ []) ++ c ∷ [],
          h.1,
          placed_more s pend at c h.2,
          noted_more (h.0 ++ 42 ∷ []) c h.3 ((inside_test c).0 e2) (λ k. not_when_false (c == 47) (c ≡ 47) (equal_test c 47) e0),
          λ k. not_when_false (c == 42) (c ≡ 42) (equal_test c 42) e1 (ends_in (h.0 ++ 42 ∷ []) c k),
          joined,
        ))
    go false e0 false e1 false e2 = more_open at s.tokens pend c bytes (answer (refused s) bytes)
        (known mode.BadByte (refused s) (pend ++ c ∷ []) at refl
        (λ more. bad_in_note (h.0 ++ 42 ∷ []) c more (append_assoc pend (c ∷ []) more ∙ ap (λ (bs : List ℕ). bs ++ c ∷ more) h.4) h.3
        (not_when_false (is_inside c) (IsInside c) (inside_test c) e2) (ap fault.BadByte (h.2 ∙ ap (past at) h.4))))

-- a byte behind a mark
known_behind_mark : (bytes : List ℕ) → Known bytes → (s : State) (c : ℕ) (pend : List ℕ) (at : Place) → Open mode.Mark s pend at
    → Reads at s.tokens (pend ++ c ∷ bytes) (answer (next mode.Mark s c) bytes)
known_behind_mark bytes known s c pend at h = go (makes_pair s.text c) refl
  where
    text_is : s.text ≡ h.0 ∷ []
    text_is = h.1.text_is ∙ h.3

    tested : makes_pair s.text c ≡ is_pair h.0 c
    tested = ap (λ (bs : List ℕ). makes_pair bs c) text_is

    kept : IsKept s (h.0 ∷ []) at
    kept = subst (λ (bs : List ℕ). IsKept s bs at) h.3 h.1

    go : (b1 : Bool) → makes_pair s.text c ≡ b1
        → Reads at s.tokens (pend ++ c ∷ bytes) (answer (cond b1 (closed kind.Mark (grown mode.Mark s c)) (begun (closed kind.Mark s) c)) bytes)
    go true e1 = subst (λ (bs : List ℕ). Reads at s.tokens (bs ++ c ∷ bytes) (answer (closed kind.Mark (grown mode.Mark s c)) bytes)) (sym h.3)
        (ending (LongMark h.0 c) kind.Mark (grown mode.Mark s c) at bytes (answer (closed kind.Mark (grown mode.Mark s c)) bytes)
        ((pair_test h.0 c).0 (sym tested ∙ e1)) tt (λ p. refl) (kept_more mode.Mark s (h.0 ∷ []) at c kept)
        (known mode.Between (closed kind.Mark (grown mode.Mark s c)) [] (after_byte s.place c) refl (refl, refl)))
    go false e1 = subst (λ (bs : List ℕ). Reads at s.tokens (bs ++ c ∷ bytes) (answer (begun (closed kind.Mark s) c) bytes)) (sym h.3)
        (ending (OneMark h.0) kind.Mark s at (c ∷ bytes) (answer (begun (closed kind.Mark s) c) bytes) h.2
        (not_when_false (is_pair h.0 c) (IsPair h.0 c) (pair_test h.0 c) (sym tested ∙ e1)) (λ p. refl) kept
        (known_begun bytes known (closed kind.Mark s) c))

-- a byte behind what is open
known_next : (bytes : List ℕ) → Known bytes → (m : Mode) (s : State) (c : ℕ) (pend : List ℕ) (at : Place) → s.mode ≡ m → Open m s pend at
    → Reads at s.tokens (pend ++ c ∷ bytes) (answer (next m s c) bytes)
known_next bytes known mode.Between s c pend at is h =
    subst (λ (bs : List ℕ). Reads at s.tokens (bs ++ c ∷ bytes) (answer (begun s c) bytes)) (sym h.0)
    (subst (λ (p : Place). Reads p s.tokens (c ∷ bytes) (answer (begun s c) bytes)) h.1 (known_begun bytes known s c))
known_next bytes known mode.Word s c pend at is h = known_in_word bytes known s c pend at h
known_next bytes known mode.Str s c pend at is h = known_in_string bytes known s c pend at h
known_next bytes known mode.Quote s c pend at is h = known_behind_quote bytes known s c pend at h
known_next bytes known mode.Slash s c pend at is h = known_behind_slash bytes known s c pend at h
known_next bytes known mode.Note s c pend at is h = known_in_note bytes known s c pend at h
known_next bytes known mode.Star s c pend at is h = known_behind_star bytes known s c pend at h
known_next bytes known mode.Mark s c pend at is h = known_behind_mark bytes known s c pend at h
known_next bytes known mode.BadByte s c pend at is h = more_open at s.tokens pend c bytes (answer s bytes)
    (known mode.BadByte s (pend ++ c ∷ []) at is (λ more. subst (λ (bs : List ℕ). BreaksSpelling at bs (fault.BadByte s.start)) (sym (append_assoc pend (c ∷ []) more)) (h (c ∷ more))))
known_next bytes known mode.LongName s c pend at is h = more_open at s.tokens pend c bytes (answer s bytes)
    (known mode.LongName s (pend ++ c ∷ []) at is (λ more. subst (λ (bs : List ℕ). BreaksSpelling at bs (fault.LongName s.start)) (sym (append_assoc pend (c ∷ []) more)) (h (c ∷ more))))

-- the text ends
known_end : (m : Mode) (s : State) (pend : List ℕ) (at : Place) → Open m s pend at → Reads at s.tokens (pend ++ []) (ended m s)
known_end mode.Between s pend at h =
    subst (λ (bs : List ℕ). Reads at s.tokens (bs ++ []) (Ok (listed s))) (sym h.0) (subst (λ (p : Place). Reads p s.tokens [] (Ok (listed s))) h.1 (nothing_more s))
known_end mode.Word s pend at h = go (has_letter s.text) refl
  where
    go : (b : Bool) → has_letter s.text ≡ b → Reads at s.tokens (pend ++ []) (cond b (Ok (listed (closed kind.Word s))) (Err (fault.BadByte s.start)))
    go true e =
        let one : Any IsLetterOrDigit pend = subst (Any IsLetterOrDigit) h.0.text_is ((letters_test s.text).0 e) in
        ending (OneWord pend) kind.Word s at [] (Ok (listed (closed kind.Word s))) (record { bytes_are = h.1; has_one = one; short = h.3 }) (λ z. z) (λ p. refl) h.0
        (nothing_more (closed kind.Word s))
    go false e =
        let none : Any IsLetterOrDigit pend → ⊥ = λ k. not_when_false (has_letter s.text) (Any IsLetterOrDigit s.text) (letters_test s.text) e (subst (Any IsLetterOrDigit) (sym h.0.text_is) k) in
        broken_here at (pend ++ []) (fault.BadByte s.start) (bad_word pend [] refl h.1 (λ z. z) h.2 h.3 none (ap fault.BadByte h.0.start_is))
known_end mode.Str s pend at h = broken_here at (pend ++ []) (fault.OpenString s.start) (open_string h.0 (append-nil pend ∙ h.3) h.2 (ap fault.OpenString h.1.start_is))
known_end mode.Quote s pend at h = subst (λ (bs : List ℕ). Reads at s.tokens (bs ++ []) (Ok (listed (closed kind.Str s)))) (sym h.3)
    (ending (OneString h.0) kind.Str s at [] (Ok (listed (closed kind.Str s))) h.2 (λ z. z) (λ p. refl) (subst (λ (bs : List ℕ). IsKept s bs at) h.3 h.1) (nothing_more (closed kind.Str s)))
known_end mode.Slash s pend at h = broken_here at (pend ++ []) (fault.BadByte s.start) (lone_slash [] (append-nil pend ∙ h.2) (λ z. z) (ap fault.BadByte h.0))
known_end mode.Note s pend at h = broken_here at (pend ++ []) (fault.OpenNote s.start) (open_note h.0 (append-nil pend ∙ h.5) h.3 (ap fault.OpenNote h.1))
known_end mode.Star s pend at h = broken_here at (pend ++ []) (fault.OpenNote s.start) (open_note (h.0 ++ 42 ∷ []) (append-nil pend ∙ h.4) h.3 (ap fault.OpenNote h.1))
known_end mode.Mark s pend at h = subst (λ (bs : List ℕ). Reads at s.tokens (bs ++ []) (Ok (listed (closed kind.Mark s)))) (sym h.3)
    (ending (OneMark h.0) kind.Mark s at [] (Ok (listed (closed kind.Mark s))) h.2 (λ z. z) (λ p. refl) (subst (λ (bs : List ℕ). IsKept s bs at) h.3 h.1) (nothing_more (closed kind.Mark s)))
known_end mode.BadByte s pend at h = broken_here at (pend ++ []) (fault.BadByte s.start) (h [])
known_end mode.LongName s pend at h = broken_here at (pend ++ []) (fault.LongName s.start) (h [])

known_all : (bytes : List ℕ) → Known bytes
unfolding step
known_all [] m s pend at is h = subst (λ (k : Mode). Reads at s.tokens (pend ++ []) (ended k s)) (sym is) (known_end m s pend at h)
known_all (c ∷ bytes) m s pend at is h =
    subst (λ (k : Mode). Reads at s.tokens (pend ++ c ∷ bytes) (answer (next k s c) bytes)) (sym is) (known_next bytes (known_all bytes) m s c pend at is h)

-- what the machine answers from the prefix of a text is what the text is
pub sound : (bytes : List ℕ) → Reads first_place [] bytes (answer first_state bytes)
sound bytes = known_all bytes mode.Between first_state [] first_place refl (refl, refl)
