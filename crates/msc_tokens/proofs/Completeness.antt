-- What a text is, the machine answers.
use Rattle.std.proofs.Common.{◌+◌, ◌≡◌, ◌==◌, ◌≤◌, Bool, false, cond, List, ℕ, length, ◌++◌, [], ◌∷◌, Result, Ok, Err, Any, arith, sym, refl, ap, ap₂, ◌∙◌, append_assoc, append-nil, subst}
use Rattle.std.proofs.lemmas.List.Elements.{All-head, All-tail}
use Rattle.std.proofs.lemmas.Bool.{false≢true}
use Rattle.msc_base.specs.declared.limits.TheConstants.Limits.{NAME_BYTES}
use Rattle.msc_base.specs.declared.place.Place.{Place}
use Rattle.msc_base.specs.Names.{IsWord, IsWordByte, IsLetterOrDigit}
use Rattle.msc_tokens.specs.declared.token.Token.{Token}
use Rattle.msc_tokens.specs.declared.token_list.TokenList.{TokenList}
use Rattle.msc_tokens.specs.declared.fault.LexFault.{LexFault}
use Rattle.msc_tokens.specs.declared.fault.LexFault.TheVariants as fault
use Rattle.msc_tokens.specs.declared.byte_class.ByteClass.TheVariants as class
use Rattle.msc_tokens.specs.declared.mode.Mode.TheVariants as mode
use Rattle.msc_tokens.specs.ByteTests.{has_letter}
use Rattle.msc_tokens.specs.Places.{first_place, after_byte, past}
use Rattle.msc_tokens.specs.Machine.{step, first_state}
use Rattle.msc_tokens.specs.Spelling.{BeginsWith, IsApostrophe, IsStar, StringPart, held, AreParts, IsNoted, TextPiece, Blank, Note, OneWord, OneString, OneMark, LongMark, text, bytes_of, token_of, tokens_from, IsPiece, Ends, IsWellCut, BreaksSpelling, long_word, bad_word, bad_byte, lone_slash, open_string, open_note, bad_in_string, bad_in_note, Spells, HasLexFault}
use Rattle.msc_tokens.proofs.ByteFacts.{test_false, equal_test, letters_test, class_is_blank, class_is_word, class_is_mark, class_is_other}
use Rattle.msc_tokens.proofs.Cutting.{past-append}
use Rattle.msc_tokens.proofs.Soundness.{answer}
use Rattle.msc_tokens.proofs.Running.{stand, bad_stays, begins, word_runs, word_ends, word_fails, long_runs, parts_run, quote_ends, string_breaks, note_runs, note_closes, note_stays, note_breaks, mark_ends, mark_grows, pair_mark}

-- the machine takes a piece, and stands behind it with its token
abbrev Takes : TextPiece → List ℕ → Place → List ℕ → Place → List Token → Type 0
Takes x rest st tx pl tk = (start : Place) × (kept : List ℕ)
    × (answer (stand mode.Between st tx pl tk) (text x ++ rest) ≡ answer (stand mode.Between start kept (past pl (text x)) (tk ++ token_of pl x)) rest)

slash_begins : (bytes : List ℕ) (st : Place) (tx : List ℕ) (pl : Place) (tk : List Token)
    → answer (stand mode.Between st tx pl tk) (47 ∷ 42 ∷ bytes) ≡ answer (stand mode.Note pl (47 ∷ []) (past pl (47 ∷ 42 ∷ [])) tk) bytes
unfolding step
slash_begins bytes st tx pl tk = refl

quote_begins : (bytes : List ℕ) (st : Place) (tx : List ℕ) (pl : Place) (tk : List Token)
    → answer (stand mode.Between st tx pl tk) (39 ∷ bytes) ≡ answer (stand mode.Str pl (39 ∷ []) (after_byte pl 39) tk) bytes
unfolding step
quote_begins bytes st tx pl tk = refl

quote_closes : (bytes : List ℕ) (st : Place) (tx : List ℕ) (pl : Place) (tk : List Token)
    → answer (stand mode.Str st tx pl tk) (39 ∷ bytes) ≡ answer (stand mode.Quote st (tx ++ 39 ∷ []) (after_byte pl 39) tk) bytes
unfolding step
quote_closes bytes st tx pl tk = refl

slash_fails : (rest : List ℕ) (st : Place) (tx : List ℕ) (pl : Place) (tk : List Token) → (BeginsWith IsStar rest → ⊥)
    → answer (stand mode.Between st tx pl tk) (47 ∷ rest) ≡ Err (fault.BadByte pl)
unfolding step
slash_fails [] st tx pl tk free = refl
slash_fails (c ∷ rest) st tx pl tk free =
    ap (λ (b1 : Bool). answer (cond b1 (stand mode.Note pl (47 ∷ []) (past pl (47 ∷ c ∷ [])) tk) (stand mode.BadByte pl (47 ∷ []) (after_byte pl 47) tk)) rest)
    (test_false (c == 42) (c ≡ 42) (equal_test c 42) free)
    ∙ bad_stays rest pl (47 ∷ []) (after_byte pl 47) tk

takes_note : (bs rest : List ℕ) (st : Place) (tx : List ℕ) (pl : Place) (tk : List Token) → IsNoted bs → Takes (Note bs) rest st tx pl tk
takes_note bs rest st tx pl tk h =
    let inside : Place = past pl (47 ∷ 42 ∷ []) in
    let more = note_runs bs (42 ∷ 47 ∷ rest) false pl (47 ∷ []) inside tk h (λ e. absurd (false≢true e)) in (
      pl,
      47 ∷ [],
      slash_begins ((bs ++ 42 ∷ 47 ∷ []) ++ rest) st tx pl tk
          ∙ ap (λ (bytes : List ℕ). answer (stand mode.Note pl (47 ∷ []) inside tk) bytes) (append_assoc bs (42 ∷ 47 ∷ []) rest)
          ∙ more.1
          ∙ note_closes more.0 rest pl (47 ∷ []) (past inside bs) tk
          ∙ ap₂ (λ (p : Place) (ts : List Token). answer (stand mode.Between pl (47 ∷ []) p ts) rest) (sym (past-append inside bs (42 ∷ 47 ∷ []))) (sym (append-nil tk)),
    )

takes_word : (w rest : List ℕ) (st : Place) (tx : List ℕ) (pl : Place) (tk : List Token) → IsWord w → (BeginsWith IsWordByte rest → ⊥) → Takes (OneWord w) rest st tx pl tk
takes_word [] rest st tx pl tk h free = absurd (omega (arith, h.has_one.2))
takes_word (c ∷ v) rest st tx pl tk h free = (
  pl,
  [],
  begins class.Word c (v ++ rest) st tx pl tk (class_is_word c (All-head IsWordByte c v h.bytes_are))
      ∙ word_runs v rest pl (c ∷ []) (after_byte pl c) tk (All-tail IsWordByte c v h.bytes_are) (let short : length (c ∷ v) ≤ NAME_BYTES = h.short in omega arith)
      ∙ word_ends rest pl (c ∷ v) (past pl (c ∷ v)) tk ((letters_test (c ∷ v)).1 h.has_one) free,
)

takes_string : (ps : List StringPart) (rest : List ℕ) (st : Place) (tx : List ℕ) (pl : Place) (tk : List Token) → AreParts ps → (BeginsWith IsApostrophe rest → ⊥) → Takes (OneString ps) rest st tx pl tk
takes_string ps rest st tx pl tk h free =
    let inside : Place = after_byte pl 39 in (
      pl,
      [],
      quote_begins ((held ps ++ 39 ∷ []) ++ rest) st tx pl tk
          ∙ ap (λ (bytes : List ℕ). answer (stand mode.Str pl (39 ∷ []) inside tk) bytes) (append_assoc (held ps) (39 ∷ []) rest)
          ∙ parts_run ps (39 ∷ rest) pl (39 ∷ []) inside tk h
          ∙ quote_closes rest pl (39 ∷ held ps) (past inside (held ps)) tk
          ∙ quote_ends rest pl (39 ∷ (held ps ++ 39 ∷ [])) (after_byte (past inside (held ps)) 39) tk free
          ∙ ap (λ (p : Place). answer (stand mode.Between pl [] p (tk ++ token_of pl (OneString ps))) rest) (sym (past-append inside (held ps) (39 ∷ []))),
    )

takes : (x : TextPiece) (rest : List ℕ) (st : Place) (tx : List ℕ) (pl : Place) (tk : List Token) → IsPiece x → Ends x rest → Takes x rest st tx pl tk
takes (Blank b) rest st tx pl tk is ends = (
  st,
  tx,
  begins class.Blank b rest st tx pl tk (class_is_blank b is) ∙ ap (λ (ts : List Token). answer (stand mode.Between st tx (after_byte pl b) ts) rest) (sym (append-nil tk)),
)
takes (Note bs) rest st tx pl tk is ends = takes_note bs rest st tx pl tk is
takes (OneWord w) rest st tx pl tk is ends = takes_word w rest st tx pl tk is ends
takes (OneString ps) rest st tx pl tk is ends = takes_string ps rest st tx pl tk is ends
takes (OneMark b) rest st tx pl tk is ends = (
  pl,
  [],
  begins class.Mark b rest st tx pl tk (class_is_mark b is) ∙ mark_ends b rest pl (after_byte pl b) tk ends,
)
takes (LongMark b c) rest st tx pl tk is ends = (
  pl,
  [],
  begins class.Mark b (c ∷ rest) st tx pl tk (class_is_mark b (pair_mark b c is)) ∙ mark_grows b c rest pl (after_byte pl b) tk is,
)

abbrev pub refused_as : LexFault → Result TokenList LexFault
refused_as f = Err f

abbrev pub list_of : List Token → Place → TokenList
list_of tokens end_place = record { tokens = tokens; end_place = end_place }

-- a row of pieces is answered by its tokens
row_answer : (pieces : List TextPiece) (st : Place) (tx : List ℕ) (pl : Place) (tk : List Token) → IsWellCut pieces []
    → answer (stand mode.Between st tx pl tk) (bytes_of pieces) ≡ Ok (list_of (tk ++ tokens_from pl pieces) (past pl (bytes_of pieces)))
row_answer [] st tx pl tk h = ap (λ (ts : List Token). let r : Result TokenList LexFault = Ok (list_of ts pl) in r) (sym (append-nil tk))
row_answer (x ∷ xs) st tx pl tk h =
    let t = takes x (bytes_of xs) st tx pl tk h.0 (subst (Ends x) (append-nil (bytes_of xs)) h.1) in
    t.2 ∙ row_answer xs t.0 t.1 (past pl (text x)) (tk ++ token_of pl x) h.2
    ∙ ap₂ (λ (ts : List Token) (p : Place). let r : Result TokenList LexFault = Ok (list_of ts p) in r)
    (append_assoc tk (token_of pl x) (tokens_from (past pl (text x)) xs)) (sym (past-append pl (text x) (bytes_of xs)))

-- what begins no piece is answered by its fault
break_answer : (rest : List ℕ) (f : LexFault) (st : Place) (tx : List ℕ) (pl : Place) (tk : List Token) → BreaksSpelling pl rest f
    → answer (stand mode.Between st tx pl tk) rest ≡ Err f
break_answer rest f st tx pl tk (long_word [] behind is all count f_is) = absurd (omega (arith, count))
break_answer rest f st tx pl tk (long_word (c ∷ v) behind is all count f_is) =
    let counted : length (c ∷ v) ≡ NAME_BYTES + 1 = count in
    ap (λ (bytes : List ℕ). answer (stand mode.Between st tx pl tk) bytes) is
    ∙ begins class.Word c (v ++ behind) st tx pl tk (class_is_word c (All-head IsWordByte c v all))
    ∙ long_runs v behind pl (c ∷ []) (after_byte pl c) tk (All-tail IsWordByte c v all) (omega arith) (omega arith)
    ∙ ap refused_as (sym f_is)
break_answer rest f st tx pl tk (bad_word [] behind is all free some short none f_is) = absurd (omega (arith, some))
break_answer rest f st tx pl tk (bad_word (c ∷ v) behind is all free some short none f_is) =
    let counted : length (c ∷ v) ≤ NAME_BYTES = short in
    ap (λ (bytes : List ℕ). answer (stand mode.Between st tx pl tk) bytes) is
    ∙ begins class.Word c (v ++ behind) st tx pl tk (class_is_word c (All-head IsWordByte c v all))
    ∙ word_runs v behind pl (c ∷ []) (after_byte pl c) tk (All-tail IsWordByte c v all) (omega arith)
    ∙ word_fails behind pl (c ∷ v) (past pl (c ∷ v)) tk (test_false (has_letter (c ∷ v)) (Any IsLetterOrDigit (c ∷ v)) (letters_test (c ∷ v)) none) free
    ∙ ap refused_as (sym f_is)
break_answer rest f st tx pl tk (bad_byte b behind is nothing f_is) =
    ap (λ (bytes : List ℕ). answer (stand mode.Between st tx pl tk) bytes) is
    ∙ begins class.Other b behind st tx pl tk (class_is_other b nothing)
    ∙ bad_stays behind pl tx pl tk
    ∙ ap refused_as (sym f_is)
break_answer rest f st tx pl tk (lone_slash behind is free f_is) =
    ap (λ (bytes : List ℕ). answer (stand mode.Between st tx pl tk) bytes) is
    ∙ slash_fails behind st tx pl tk free
    ∙ ap refused_as (sym f_is)
break_answer rest f st tx pl tk (open_string ps is are f_is) =
    ap (λ (bytes : List ℕ). answer (stand mode.Between st tx pl tk) bytes) (is ∙ ap (λ (bytes : List ℕ). 39 ∷ bytes) (sym (append-nil (held ps))))
    ∙ quote_begins (held ps ++ []) st tx pl tk
    ∙ parts_run ps [] pl (39 ∷ []) (after_byte pl 39) tk are
    ∙ ap refused_as (sym f_is)
break_answer rest f st tx pl tk (open_note bs is noted f_is) =
    let more = note_runs bs [] false pl (47 ∷ []) (past pl (47 ∷ 42 ∷ [])) tk noted (λ e. absurd (false≢true e)) in
    ap (λ (bytes : List ℕ). answer (stand mode.Between st tx pl tk) bytes) (is ∙ ap (λ (bytes : List ℕ). 47 ∷ 42 ∷ bytes) (sym (append-nil bs)))
    ∙ slash_begins (bs ++ []) st tx pl tk
    ∙ more.1
    ∙ note_stays more.0 pl (47 ∷ []) (past pl (47 ∷ 42 ∷ bs)) tk
    ∙ ap refused_as (sym f_is)
break_answer rest f st tx pl tk (bad_in_string ps b behind is are outside f_is) =
    ap (λ (bytes : List ℕ). answer (stand mode.Between st tx pl tk) bytes) is
    ∙ quote_begins (held ps ++ b ∷ behind) st tx pl tk
    ∙ parts_run ps (b ∷ behind) pl (39 ∷ []) (after_byte pl 39) tk are
    ∙ string_breaks b behind pl (39 ∷ held ps) (past pl (39 ∷ held ps)) tk outside
    ∙ ap refused_as (sym f_is)
break_answer rest f st tx pl tk (bad_in_note bs b behind is noted outside f_is) =
    let more = note_runs bs (b ∷ behind) false pl (47 ∷ []) (past pl (47 ∷ 42 ∷ [])) tk noted (λ e. absurd (false≢true e)) in
    ap (λ (bytes : List ℕ). answer (stand mode.Between st tx pl tk) bytes) is
    ∙ slash_begins (bs ++ b ∷ behind) st tx pl tk
    ∙ more.1
    ∙ note_breaks more.0 b behind pl (47 ∷ []) (past pl (47 ∷ 42 ∷ bs)) tk outside
    ∙ ap refused_as (sym f_is)

-- a row of pieces and what begins none is answered by the fault
broken_answer : (pieces : List TextPiece) (rest : List ℕ) (f : LexFault) (st : Place) (tx : List ℕ) (pl : Place) (tk : List Token) → IsWellCut pieces rest
    → BreaksSpelling (past pl (bytes_of pieces)) rest f → answer (stand mode.Between st tx pl tk) (bytes_of pieces ++ rest) ≡ Err f
broken_answer [] rest f st tx pl tk h breaks = break_answer rest f st tx pl tk breaks
broken_answer (x ∷ xs) rest f st tx pl tk h breaks =
    let t = takes x (bytes_of xs ++ rest) st tx pl tk h.0 h.1 in
    ap (λ (bytes : List ℕ). answer (stand mode.Between st tx pl tk) bytes) (append_assoc (text x) (bytes_of xs) rest)
    ∙ t.2
    ∙ broken_answer xs rest f t.0 t.1 (past pl (text x)) (tk ++ token_of pl x) h.2 (subst (λ (p : Place). BreaksSpelling p rest f) (past-append pl (text x) (bytes_of xs)) breaks)

-- the tokens of a text are what the machine answers
pub spells_answer : (bytes : List ℕ) (tokens : List Token) → Spells bytes tokens → answer first_state bytes ≡ Ok (list_of tokens (past first_place bytes))
spells_answer bytes tokens h =
    ap (λ (bs : List ℕ). answer first_state bs) h.spelled
    ∙ row_answer h.pieces first_place [] first_place [] h.cut
    ∙ ap₂ (λ (ts : List Token) (p : Place). let r : Result TokenList LexFault = Ok (list_of ts p) in r) (sym h.tokens_are) (ap (past first_place) (sym h.spelled))

-- the fault of a text is what the machine answers
pub fault_answer : (bytes : List ℕ) (f : LexFault) → HasLexFault bytes f → answer first_state bytes ≡ Err f
fault_answer bytes f h = ap (λ (bs : List ℕ). answer first_state bs) h.spelled ∙ broken_answer h.pieces h.rest f first_place [] first_place [] h.cut h.breaks
