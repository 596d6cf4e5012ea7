-- What the lexer answers of the bytes that it was fed.
use Rattle.std.proofs.Common.{◌≡◌, ◌<◌, ◌^◌, Bool, true, false, cond, nat_lt, List, ℕ, length, ◌++◌, [], ◌∷◌, Option, Some, None, Result, Ok, Err, IfOk, IfErr, MatchResult, All, arith, sym, refl, ap, ◌∙◌, append-nil, subst, length-append, IfSome, ◌+◌}
use Rattle.std.specs.Prelude.{fold}
use Rattle.std.proofs.lemmas.List.Elements.{All-nil, All-cons}
use Rattle.std.proofs.lemmas.Bool.{or_right}
use Rattle.msc_base.specs.declared.limits.TheConstants.Limits.{NAME_BYTES}
use Rattle.msc_base.specs.declared.place.Place.{Place}
use Rattle.msc_tokens.specs.declared.token.Token.{Token}
use Rattle.msc_tokens.specs.declared.token.TokenKind.TheVariants as kind
use Rattle.msc_tokens.specs.declared.token_list.TokenList.{TokenList}
use Rattle.msc_tokens.specs.declared.fault.LexFault.{LexFault}
use Rattle.msc_tokens.specs.declared.fault.LexFault.TheVariants as fault
use Rattle.msc_tokens.specs.declared.mode.Mode.{Mode}
use Rattle.msc_tokens.specs.declared.mode.Mode.TheVariants as mode
use Rattle.msc_tokens.specs.ByteTests.{has_letter}
use Rattle.msc_base.specs.Names.{is_letter_or_digit}
use Rattle.msc_tokens.specs.Faults.{IfNamed}
use Rattle.msc_tokens.specs.Places.{first_place, past}
use Rattle.msc_tokens.specs.Machine.{State, in_mode, grown, closed, step, first_state, state_of, settled, listed, ended}
use Rattle.msc_tokens.specs.Lexing.{Lexing, Fed, refusal_at, refusal_of, ended_at, ended_of}
use Rattle.msc_tokens.specs.Spelling.{Spells, HasLexFault, IsSettled}
use Rattle.msc_tokens.proofs.Cutting.{Reads, IsRow, IsBroken}
use Rattle.msc_tokens.proofs.Soundness.{answer, sound}
use Rattle.msc_tokens.proofs.Running.{stand, bad_stays, long_stays}
use Rattle.msc_tokens.proofs.Completeness.{list_of, spells_answer, fault_answer}

-- the tokens that the machine answers are the text's
pub answer_spells : (bytes : List ℕ) (list : TokenList) → answer first_state bytes ≡ Ok list → Spells bytes list.tokens
answer_spells bytes list e =
    let h : IsRow first_place [] bytes list = subst (Reads first_place [] bytes) e (sound bytes) in
    record { pieces = h.pieces; spelled = h.spelled; cut = h.cut; tokens_are = h.tokens_are }

pub answer_end : (bytes : List ℕ) (list : TokenList) → answer first_state bytes ≡ Ok list → list.end_place ≡ past first_place bytes
answer_end bytes list e =
    let h : IsRow first_place [] bytes list = subst (Reads first_place [] bytes) e (sound bytes) in h.end_is

-- the fault that the machine answers is the text's
pub answer_fault : (bytes : List ℕ) (f : LexFault) → answer first_state bytes ≡ Err f → HasLexFault bytes f
answer_fault bytes f e =
    let h : IsBroken first_place bytes f = subst (Reads first_place [] bytes) e (sound bytes) in
    record { pieces = h.pieces; rest = h.rest; spelled = h.spelled; cut = h.cut; breaks = h.breaks }

ok_err : (list : TokenList) (f : LexFault) (a : Result TokenList LexFault) → a ≡ Ok list → a ≡ Err f → ⊥
ok_err list f a e d = cc

same_list : (a b : TokenList) (r : Result TokenList LexFault) → r ≡ Ok a → r ≡ Ok b → a ≡ b
same_list a b r e d = cc

same_fault : (f g : LexFault) (r : Result TokenList LexFault) → r ≡ Err f → r ≡ Err g → f ≡ g
same_fault f g r e d = cc

pub one_list : (bytes : List ℕ) (list : TokenList) → answer first_state bytes ≡ Ok list → (others : List Token) → Spells bytes others → others ≡ list.tokens
one_list bytes list e others h = ap (λ (l : TokenList). l.tokens) (same_list (list_of others (past first_place bytes)) list (answer first_state bytes) (spells_answer bytes others h) e)

pub no_fault : (bytes : List ℕ) (list : TokenList) → answer first_state bytes ≡ Ok list → (f : LexFault) → HasLexFault bytes f → ⊥
no_fault bytes list e f h = ok_err list f (answer first_state bytes) e (fault_answer bytes f h)

pub one_fault : (bytes : List ℕ) (f : LexFault) → answer first_state bytes ≡ Err f → (others : LexFault) → HasLexFault bytes others → others ≡ f
one_fault bytes f e others h = same_fault others f (answer first_state bytes) (fault_answer bytes others h) e

pub no_tokens : (bytes : List ℕ) (f : LexFault) → answer first_state bytes ≡ Err f → (others : List Token) → Spells bytes others → ⊥
no_tokens bytes f e others h = ok_err (list_of others (past first_place bytes)) f (answer first_state bytes) (spells_answer bytes others h) e

-- bytes that follow others
fold_more : (s : State) (xs ys : List ℕ) → fold step s (xs ++ ys) ≡ fold step (fold step s xs) ys
fold_more s [] ys = refl
fold_more s (x ∷ xs) ys = fold_more (step s x) xs ys

answer_more : (bytes more : List ℕ) → answer first_state (bytes ++ more) ≡ answer (state_of bytes) more
answer_more bytes more = ap (λ (s : State). ended s.mode s) (fold_more first_state bytes more)

-- where a fault stands, no byte takes it away
fault_stays : (m : Mode) (f : LexFault) (more : List ℕ) (st : Place) (tx : List ℕ) (pl : Place) (tk : List Token) → settled m st ≡ Some f
    → answer (stand m st tx pl tk) more ≡ Err f
fault_stays mode.BadByte f more st tx pl tk e =
    let same : fault.BadByte st ≡ f = cc in subst (λ (g : LexFault). answer (stand mode.BadByte st tx pl tk) more ≡ Err g) same (bad_stays more st tx pl tk)
fault_stays mode.LongName f more st tx pl tk e =
    let same : fault.LongName st ≡ f = cc in subst (λ (g : LexFault). answer (stand mode.LongName st tx pl tk) more ≡ Err g) same (long_stays more st tx pl tk)
fault_stays mode.Between f more st tx pl tk e = cc
fault_stays mode.Word f more st tx pl tk e = cc
fault_stays mode.Str f more st tx pl tk e = cc
fault_stays mode.Quote f more st tx pl tk e = cc
fault_stays mode.Slash f more st tx pl tk e = cc
fault_stays mode.Note f more st tx pl tk e = cc
fault_stays mode.Star f more st tx pl tk e = cc
fault_stays mode.Mark f more st tx pl tk e = cc

letter_more : (bs : List ℕ) → has_letter (bs ++ 97 ∷ []) ≡ true
letter_more [] = refl
letter_more (b ∷ bs) = or_right (is_letter_or_digit b) (has_letter (bs ++ 97 ∷ [])) (letter_more bs)

-- the fault of all texts that go on from here
abbrev IsFinal : State → LexFault → Type 0
IsFinal s f = (more : List ℕ) → All (λ b. b < 2 ^ 8) more → answer s more ≡ Err f

abbrev IsByte : ℕ → Type 0
IsByte b = b < 2 ^ 8

none_bytes : All IsByte []
none_bytes = All-nil IsByte

one_byte : (b : ℕ) → b < 2 ^ 8 → All IsByte (b ∷ [])
one_byte b h = All-cons IsByte b [] h (All-nil IsByte)

two_bytes : (b c : ℕ) → b < 2 ^ 8 → c < 2 ^ 8 → All IsByte (b ∷ c ∷ [])
two_bytes b c h k = All-cons IsByte b (c ∷ []) h (one_byte c k)

-- an open word may go on or end
word_goes_on : (f : LexFault) (st : Place) (tx : List ℕ) (pl : Place) (tk : List Token) → IsFinal (stand mode.Word st tx pl tk) f → ⊥
unfolding step
word_goes_on f st tx pl tk h = go (has_letter tx) (nat_lt (length tx) NAME_BYTES) (h [] none_bytes) (h (97 ∷ []) (one_byte 97 (omega arith)))
  where
    go : (b1 b2 : Bool) → cond b1 (Ok (listed (closed kind.Word (stand mode.Word st tx pl tk)))) (Err (fault.BadByte st)) ≡ Err f
        → answer (cond b2 (grown mode.Word (stand mode.Word st tx pl tk) 97) (in_mode mode.LongName (stand mode.Word st tx pl tk))) [] ≡ Err f → ⊥
    go true b2 e d = cc
    go false true e d =
        let ends : answer (grown mode.Word (stand mode.Word st tx pl tk) 97) [] ≡ Ok (listed (closed kind.Word (grown mode.Word (stand mode.Word st tx pl tk) 97))) =
        ap (λ (b : Bool). let r : Result TokenList LexFault = cond b (Ok (listed (closed kind.Word (grown mode.Word (stand mode.Word st tx pl tk) 97)))) (Err (fault.BadByte st)) in r) (letter_more tx) in
        ok_err (listed (closed kind.Word (grown mode.Word (stand mode.Word st tx pl tk) 97))) f (answer (grown mode.Word (stand mode.Word st tx pl tk) 97) []) ends d
    go false false e d = cc

-- where no fault stands, two texts that go on from here have no fault in common
goes_on : (m : Mode) (f : LexFault) (st : Place) (tx : List ℕ) (pl : Place) (tk : List Token) → settled m st ≡ None → IsFinal (stand m st tx pl tk) f → ⊥
unfolding step
goes_on mode.Between f st tx pl tk e h = let end = h [] none_bytes in cc
goes_on mode.Word f st tx pl tk e h = word_goes_on f st tx pl tk h
goes_on mode.Str f st tx pl tk e h = let end = h (39 ∷ []) (one_byte 39 (omega arith)) in cc
goes_on mode.Quote f st tx pl tk e h = let end = h [] none_bytes in cc
goes_on mode.Slash f st tx pl tk e h = let end = h [] none_bytes in let later = h (42 ∷ []) (one_byte 42 (omega arith)) in cc
goes_on mode.Note f st tx pl tk e h = let end = h (42 ∷ 47 ∷ []) (two_bytes 42 47 (omega arith) (omega arith)) in cc
goes_on mode.Star f st tx pl tk e h = let end = h (47 ∷ []) (one_byte 47 (omega arith)) in cc
goes_on mode.Mark f st tx pl tk e h = let end = h [] none_bytes in cc
goes_on mode.BadByte f st tx pl tk e h = cc
goes_on mode.LongName f st tx pl tk e h = cc

-- a state and its parts
in_stand : (s : State) (f : LexFault) → settled s.mode s.start ≡ Some f → (more : List ℕ) → answer s more ≡ Err f
in_stand s f e more = fault_stays s.mode f more s.start s.text s.place s.tokens e

final_none : (s : State) (f : LexFault) → settled s.mode s.start ≡ None → IsFinal s f → ⊥
final_none s f e h = goes_on s.mode f s.start s.text s.place s.tokens e h

-- a settled state takes no byte
same_state : (m : Mode) (f : LexFault) (st : Place) (tx : List ℕ) (pl : Place) (tk : List Token) (c : ℕ) → settled m st ≡ Some f → step (stand m st tx pl tk) c ≡ stand m st tx pl tk
unfolding step
same_state mode.BadByte f st tx pl tk c e = refl
same_state mode.LongName f st tx pl tk c e = refl
same_state mode.Between f st tx pl tk c e = cc
same_state mode.Word f st tx pl tk c e = cc
same_state mode.Str f st tx pl tk c e = cc
same_state mode.Quote f st tx pl tk c e = cc
same_state mode.Slash f st tx pl tk c e = cc
same_state mode.Note f st tx pl tk c e = cc
same_state mode.Star f st tx pl tk c e = cc
same_state mode.Mark f st tx pl tk c e = cc

state_stays : (s : State) (f : LexFault) (bytes : List ℕ) → settled s.mode s.start ≡ Some f → fold step s bytes ≡ s
state_stays s f [] e = refl
state_stays s f (c ∷ bytes) e =
    ap (λ (t : State). fold step t bytes) (same_state s.mode f s.start s.text s.place s.tokens c e) ∙ state_stays s f bytes e

stands_still : (bytes piece : List ℕ) (o : Option State) (f : LexFault) → refusal_at o ≡ Some f → IfSome o (λ s. s ≡ state_of bytes) → IfSome o (λ s. s ≡ state_of (bytes ++ piece))
stands_still bytes piece None f e h = tt
stands_still bytes piece (Some s) f e h = sym (state_stays s f piece e) ∙ ap (λ (t : State). fold step t piece) h ∙ sym (fold_more first_state bytes piece)

-- after a refusal the lexer stands still
pub fed_stays : (bytes piece whole : List ℕ) (l m : Lexing) (f : LexFault) → refusal_of l ≡ Some f → m.count ≡ l.count + length piece → m.state ≡ l.state → whole ≡ bytes ++ piece → Fed bytes l → Fed whole m
fed_stays bytes piece whole l m f e count same is h = record {
  counted = omega (arith, ap length is, length-append bytes piece, h.counted);
  stands = subst (λ (bs : List ℕ). IfSome m.state (λ s. s ≡ state_of bs)) (sym is)
      (subst (λ (o : Option State). IfSome o (λ s. s ≡ state_of (bytes ++ piece))) (sym same) (stands_still bytes piece l.state f e h.stands));
}

-- what was fed, and what the lexer answers at its end
ended_at_fed : (bytes : List ℕ) (o : Option State) (r : Result TokenList LexFault) → IfSome o (λ s. s ≡ state_of bytes) → ended_at o ≡ r → (ended_at o ≡ Err fault.NoMemory → ⊥) → answer first_state bytes ≡ r
ended_at_fed bytes None r h e free = absurd (free refl)
ended_at_fed bytes (Some s) r h e free = ap (λ (t : State). ended t.mode t) (sym h) ∙ e

pub ended_ok : (bytes : List ℕ) (l : Lexing) (list : TokenList) → Fed bytes l → ended_of l ≡ Ok list → answer first_state bytes ≡ Ok list
ended_ok bytes l list h e = ended_at_fed bytes l.state (Ok list) h.stands e (λ d. cc)

pub named : (f : LexFault) (P : Type 0) → ((f ≡ fault.NoMemory → ⊥) → P) → IfNamed f P
named (fault.BadByte p) P h = h (λ e. cc)
named (fault.OpenString p) P h = h (λ e. cc)
named (fault.OpenNote p) P h = h (λ e. cc)
named (fault.LongName p) P h = h (λ e. cc)
named fault.NoMemory P h = tt

pub named_is : (f : LexFault) (P : Type 0) → (f ≡ fault.NoMemory → ⊥) → IfNamed f P → P
named_is (fault.BadByte p) P free h = h
named_is (fault.OpenString p) P free h = h
named_is (fault.OpenNote p) P free h = h
named_is (fault.LongName p) P free h = h
named_is fault.NoMemory P free h = absurd (free refl)

pub ended_err : (bytes : List ℕ) (l : Lexing) (f : LexFault) → Fed bytes l → ended_of l ≡ Err f → (f ≡ fault.NoMemory → ⊥) → answer first_state bytes ≡ Err f
ended_err bytes l f h e free = ended_at_fed bytes l.state (Err f) h.stands e (λ d. free (same_fault f fault.NoMemory (ended_of l) e d))

-- a refusal is the fault of each text that begins so
settled_at_fed : (bytes : List ℕ) (o : Option State) (f : LexFault) → IfSome o (λ s. s ≡ state_of bytes) → refusal_at o ≡ Some f → (f ≡ fault.NoMemory → ⊥)
    → (more : List ℕ) → answer first_state (bytes ++ more) ≡ Err f
settled_at_fed bytes None f h e free more = absurd (free (let same : fault.NoMemory ≡ f = cc in sym same))
settled_at_fed bytes (Some s) f h e free more = answer_more bytes more ∙ ap (λ (t : State). answer t more) (sym h) ∙ in_stand s f e more

pub refusal_settled : (bytes : List ℕ) (l : Lexing) (f : LexFault) → Fed bytes l → refusal_of l ≡ Some f → (f ≡ fault.NoMemory → ⊥) → IsSettled bytes f
refusal_settled bytes l f h e free more are = answer_fault (bytes ++ more) f (settled_at_fed bytes l.state f h.stands e free more)

pub refusal_only : (bytes : List ℕ) (l : Lexing) (f : LexFault) → Fed bytes l → refusal_of l ≡ Some f → (f ≡ fault.NoMemory → ⊥) → (others : LexFault) → IsSettled bytes others → others ≡ f
refusal_only bytes l f h e free others k = one_fault (bytes ++ []) f (settled_at_fed bytes l.state f h.stands e free []) others (k [] none_bytes)

open_at_fed : (bytes : List ℕ) (o : Option State) (f : LexFault) → IfSome o (λ s. s ≡ state_of bytes) → refusal_at o ≡ None → IsSettled bytes f → ⊥
open_at_fed bytes None f h e k = cc
open_at_fed bytes (Some s) f h e k =
    final_none s f e (λ more are. ap (λ (t : State). answer t more) h ∙ sym (answer_more bytes more) ∙ fault_answer (bytes ++ more) f (k more are))

-- without a refusal the texts that begin so have no fault in common
pub open_yet : (bytes : List ℕ) (l : Lexing) → Fed bytes l → refusal_of l ≡ None → (f : LexFault) → IsSettled bytes f → ⊥
open_yet bytes l h e f k = open_at_fed bytes l.state f h.stands e k

-- what `feed` tells of the bytes fed, this piece included
pub feed_fault : (bytes : List ℕ) (l : Lexing) (r : Result (Unit {0}) LexFault) → Fed bytes l → MatchResult r (λ _. refusal_of l ≡ None) (λ f. refusal_of l ≡ Some f)
    → IfErr r (λ f. IfNamed f (IsSettled bytes f))
feed_fault bytes l (Ok x) h told = tt
feed_fault bytes l (Err f) h told = named f (IsSettled bytes f) (refusal_settled bytes l f h told)

pub feed_only : (bytes : List ℕ) (l : Lexing) (r : Result (Unit {0}) LexFault) → Fed bytes l → MatchResult r (λ _. refusal_of l ≡ None) (λ f. refusal_of l ≡ Some f)
    → IfErr r (λ f. IfNamed f ((others : LexFault) → IsSettled bytes others → others ≡ f))
feed_only bytes l (Ok x) h told = tt
feed_only bytes l (Err f) h told = named f ((others : LexFault) → IsSettled bytes others → others ≡ f) (refusal_only bytes l f h told)

pub feed_open : (bytes : List ℕ) (l : Lexing) (r : Result (Unit {0}) LexFault) → Fed bytes l → MatchResult r (λ _. refusal_of l ≡ None) (λ f. refusal_of l ≡ Some f)
    → IfOk r (λ _. (f : LexFault) → IsSettled bytes f → ⊥)
feed_open bytes l (Ok x) h told = open_yet bytes l h told
feed_open bytes l (Err f) h told = tt

-- what the machine answers of these bytes, but for want of memory
abbrev pub IsAnswer : List ℕ → Result TokenList LexFault → Type 0
IsAnswer bytes (Ok list) = answer first_state bytes ≡ Ok list
IsAnswer bytes (Err f) = (f ≡ fault.NoMemory → ⊥) → answer first_state bytes ≡ Err f

pub answer_of : (bytes : List ℕ) (l : Lexing) (r : Result TokenList LexFault) → Fed bytes l → IfOk r (λ list. ended_of l ≡ Ok list) → IfErr r (λ f. IfNamed f (ended_of l ≡ Err f)) → IsAnswer bytes r
answer_of bytes l (Ok list) h ok err = ended_ok bytes l list h ok
answer_of bytes l (Err f) h ok err = λ free. ended_err bytes l f h (named_is f (ended_of l ≡ Err f) free err) free

pub tells_spells : (bytes : List ℕ) (r : Result TokenList LexFault) → IsAnswer bytes r → IfOk r (λ list. Spells bytes list.tokens)
tells_spells bytes (Ok list) e = answer_spells bytes list e
tells_spells bytes (Err f) e = tt

pub tells_end : (bytes : List ℕ) (r : Result TokenList LexFault) → IsAnswer bytes r → IfOk r (λ list. list.end_place ≡ past first_place bytes)
tells_end bytes (Ok list) e = answer_end bytes list e
tells_end bytes (Err f) e = tt

pub tells_only : (bytes : List ℕ) (r : Result TokenList LexFault) → IsAnswer bytes r → IfOk r (λ list. (others : List Token) → Spells bytes others → others ≡ list.tokens)
tells_only bytes (Ok list) e = one_list bytes list e
tells_only bytes (Err f) e = tt

pub tells_faultless : (bytes : List ℕ) (r : Result TokenList LexFault) → IsAnswer bytes r → IfOk r (λ list. (f : LexFault) → HasLexFault bytes f → ⊥)
tells_faultless bytes (Ok list) e = no_fault bytes list e
tells_faultless bytes (Err f) e = tt

pub tells_fault : (bytes : List ℕ) (r : Result TokenList LexFault) → IsAnswer bytes r → IfErr r (λ f. IfNamed f (HasLexFault bytes f))
tells_fault bytes (Ok list) e = tt
tells_fault bytes (Err f) e = named f (HasLexFault bytes f) (λ free. answer_fault bytes f (e free))

pub tells_only_fault : (bytes : List ℕ) (r : Result TokenList LexFault) → IsAnswer bytes r → IfErr r (λ f. IfNamed f ((others : LexFault) → HasLexFault bytes others → others ≡ f))
tells_only_fault bytes (Ok list) e = tt
tells_only_fault bytes (Err f) e = named f ((others : LexFault) → HasLexFault bytes others → others ≡ f) (λ free. one_fault bytes f (e free))

pub tells_none : (bytes : List ℕ) (r : Result TokenList LexFault) → IsAnswer bytes r → IfErr r (λ f. IfNamed f ((others : List Token) → Spells bytes others → ⊥))
tells_none bytes (Ok list) e = tt
tells_none bytes (Err f) e = named f ((others : List Token) → Spells bytes others → ⊥) (λ free. no_tokens bytes f (e free))

pub settled_here : (bytes : List ℕ) (f : LexFault) → IsSettled bytes f → HasLexFault bytes f
settled_here bytes f h = subst (λ (bs : List ℕ). HasLexFault bs f) (append-nil bytes) (h [] none_bytes)

-- a fault that `feed` tells is the text's
pub settled_answer : (bytes : List ℕ) (f : LexFault) → IfNamed f (IsSettled bytes f) → IsAnswer bytes (Err f)
settled_answer bytes f h = λ free. fault_answer bytes f (settled_here bytes f (named_is f (IsSettled bytes f) free h))
