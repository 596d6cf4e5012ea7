-- Tokens that are taken out part by part.
use Rattle.std.proofs.Common.{◌≡◌, ◌==◌, ◌∙◌, ◌++◌, Bool, true, false, cond, nat_lt, ℕ, List, [], ◌∷◌, length, Result, Ok, Err, IfOk, OnOk, refl, sym, ap, subst, append_assoc, append-nil}
use Rattle.std.specs.Prelude.{fold}
use Rattle.msc_base.specs.declared.limits.TheConstants.Limits.{NAME_BYTES}
use Rattle.msc_base.specs.Names.{is_word_byte}
use Rattle.msc_base.specs.declared.memory.NoMemory.{NoMemory}
use Rattle.msc_tokens.specs.declared.token.Token.{Token}
use Rattle.msc_tokens.specs.declared.token.TokenKind.{TokenKind}
use Rattle.msc_tokens.specs.declared.token.TokenKind.TheVariants as kind
use Rattle.msc_tokens.specs.declared.token_list.TokenList.{TokenList}
use Rattle.msc_tokens.specs.declared.fault.LexFault.{LexFault}
use Rattle.msc_tokens.specs.declared.fault.LexFault.TheVariants as fault
use Rattle.msc_tokens.specs.declared.byte_class.ByteClass.{ByteClass}
use Rattle.msc_tokens.specs.declared.byte_class.ByteClass.TheVariants as class
use Rattle.msc_tokens.specs.declared.mode.Mode.{Mode}
use Rattle.msc_tokens.specs.declared.mode.Mode.TheVariants as mode
use Rattle.msc_tokens.specs.ByteTests.{is_inside, has_letter, makes_pair, class_of}
use Rattle.msc_tokens.specs.Machine.{State, in_mode, grown, passed, closed, refused, begun_as, begun, next, step, first_state, listed, ended}
use Rattle.msc_tokens.specs.Parts.{behind, Cuts}
use Rattle.msc_tokens.specs.Spelling.{Spells}
use Rattle.msc_tokens.proofs.Answering.{answer_spells}

-- ---- a step changes no token that there is

module _ (front : List Token) where
  -- the same of a state with the tokens before
  abbrev Same : State → State → Type 0
  Same s t = s ≡ behind front t

  both : (b : Bool) (s t u v : State) → Same s u → Same t v → Same (cond b s t) (cond b u v)
  both true s t u v h k = h
  both false s t u v h k = k

  closed_behind : (k : TokenKind) (s : State) → Same (closed k (behind front s)) (closed k s)
  closed_behind k s = ap (λ (ts : List Token). record (closed k s) { tokens = ts }) (append_assoc front s.tokens ((record { kind = k; bytes = s.text; place = s.start }) ∷ []))

  begun_behind : (k : ByteClass) (s t : State) (c : ℕ) → Same s t → Same (begun_as k s c) (begun_as k t c)
  begun_behind class.Blank s t c e = ap (λ (u : State). passed mode.Between u c) e
  begun_behind class.Word s t c e = ap (λ (u : State). begun_as class.Word u c) e
  begun_behind class.Apostrophe s t c e = ap (λ (u : State). begun_as class.Apostrophe u c) e
  begun_behind class.Slash s t c e = ap (λ (u : State). begun_as class.Slash u c) e
  begun_behind class.Mark s t c e = ap (λ (u : State). begun_as class.Mark u c) e
  begun_behind class.Other s t c e = ap refused e

  next_behind : (m : Mode) (s : State) (c : ℕ) → Same (next m (behind front s) c) (next m s c)
  next_behind mode.Between s c = begun_behind (class_of c) (behind front s) s c refl
  next_behind mode.Word s c =
      both (is_word_byte c) _ _ _ _ (both (nat_lt (length s.text) NAME_BYTES) _ _ (grown mode.Word s c) (in_mode mode.LongName s) refl refl)
      (both (has_letter s.text) _ _ (begun (closed kind.Word s) c) (in_mode mode.BadByte s) (begun_behind (class_of c) _ (closed kind.Word s) c (closed_behind kind.Word s)) refl)
  next_behind mode.Str s c = both (c == 39) _ _ (grown mode.Quote s c) _ refl (both (is_inside c) _ _ (grown mode.Str s c) (refused s) refl refl)
  next_behind mode.Quote s c = both (c == 39) _ _ (grown mode.Str s c) (begun (closed kind.Str s) c) refl (begun_behind (class_of c) _ (closed kind.Str s) c (closed_behind kind.Str s))
  next_behind mode.Slash s c = both (c == 42) _ _ (passed mode.Note s c) (in_mode mode.BadByte s) refl refl
  next_behind mode.Note s c = both (c == 42) _ _ (passed mode.Star s c) _ refl (both (is_inside c) _ _ (passed mode.Note s c) (refused s) refl refl)
  next_behind mode.Star s c =
      both (c == 47) _ _ (passed mode.Between s c) _ refl (both (c == 42) _ _ (passed mode.Star s c) _ refl (both (is_inside c) _ _ (passed mode.Note s c) (refused s) refl refl))
  next_behind mode.Mark s c =
      both (makes_pair s.text c) _ _ (closed kind.Mark (grown mode.Mark s c)) (begun (closed kind.Mark s) c) (closed_behind kind.Mark (grown mode.Mark s c))
      (begun_behind (class_of c) _ (closed kind.Mark s) c (closed_behind kind.Mark s))
  next_behind mode.BadByte s c = refl
  next_behind mode.LongName s c = refl

  fold_behind : (s : State) (bytes : List ℕ) → Same (fold step (behind front s) bytes) (fold step s bytes)
  unfolding step
  fold_behind s [] = refl
  fold_behind s (c ∷ bytes) = ap (λ (t : State). fold step t bytes) (next_behind s.mode s c) ∙ fold_behind (next s.mode s c) bytes

  -- ---- the text ends

  abbrev SameEnd : Result TokenList LexFault → Result TokenList LexFault → Type 0
  SameEnd r (Ok list) = r ≡ Ok (record { tokens = front ++ list.tokens; end_place = list.end_place })
  SameEnd r (Err f) = r ≡ Err f

  closed_end : (k : TokenKind) (s : State) → SameEnd (Ok (listed (closed k (behind front s)))) (Ok (listed (closed k s)))
  closed_end k s = ap (λ (t : State). Ok (listed t)) (closed_behind k s)

  word_end : (b : Bool) (s : State) → SameEnd (cond b (Ok (listed (closed kind.Word (behind front s)))) (Err (fault.BadByte s.start))) (cond b (Ok (listed (closed kind.Word s))) (Err (fault.BadByte s.start)))
  word_end true s = closed_end kind.Word s
  word_end false s = refl

  ended_behind : (m : Mode) (s : State) → SameEnd (ended m (behind front s)) (ended m s)
  ended_behind mode.Between s = refl
  ended_behind mode.Word s = word_end (has_letter s.text) s
  ended_behind mode.Str s = refl
  ended_behind mode.Quote s = closed_end kind.Str s
  ended_behind mode.Slash s = refl
  ended_behind mode.Note s = refl
  ended_behind mode.Star s = refl
  ended_behind mode.Mark s = closed_end kind.Mark s
  ended_behind mode.BadByte s = refl
  ended_behind mode.LongName s = refl

fold_more : (s : State) (xs ys : List ℕ) → fold step s (xs ++ ys) ≡ fold step (fold step s xs) ys
fold_more s [] ys = refl
fold_more s (x ∷ xs) ys = fold_more (step s x) xs ys

-- one more piece has been fed
pub cuts_more : (bytes piece : List ℕ) (taken : List Token) (s t : State) → t ≡ fold step s piece → Cuts bytes taken s → Cuts (bytes ++ piece) taken t
cuts_more bytes piece taken s t e h = record {
  are = fold_more first_state bytes piece ∙ ap (λ (u : State). fold step u piece) h.are ∙ fold_behind taken s piece ∙ ap (behind taken) (sym e);
}

-- its tokens have been taken out
pub cuts_out : (bytes : List ℕ) (taken tokens : List Token) (s t : State) → tokens ≡ s.tokens → t ≡ record s { tokens = [] } → Cuts bytes taken s → Cuts bytes (taken ++ tokens) t
cuts_out bytes taken tokens s t e f h = record {
  are = h.are ∙ ap (λ (ts : List Token). record s { tokens = ts }) (ap (λ (ts : List Token). taken ++ ts) (sym e) ∙ sym (append-nil (taken ++ tokens))) ∙ ap (behind (taken ++ tokens)) (sym f);
}

-- the text has ended
pub ended_spells : (bytes : List ℕ) (taken : List Token) (s : State) (r : Result TokenList LexFault) → Cuts bytes taken s → IfOk r (λ list. ended s.mode s ≡ Ok list) → IfOk r (λ list. Spells bytes (taken ++ list.tokens))
ended_spells bytes taken s (Ok list) h e =
    answer_spells bytes (record { tokens = taken ++ list.tokens; end_place = list.end_place })
    (ap (λ (t : State). ended t.mode t) h.are ∙ subst (λ (r : Result TokenList LexFault). SameEnd taken (ended s.mode (behind taken s)) r) e (ended_behind taken s.mode s))
ended_spells bytes taken s (Err f) h e = tt

-- what holds in any case holds where all went well
pub where_ok : (r : Result (Unit {0}) NoMemory) (P : Type 0) → P → OnOk r P
where_ok (Ok u) P h = h
where_ok (Err e) P h = tt

pub where_err : (r : Result (Unit {0}) NoMemory) (e : NoMemory) (P : Type 0) → r ≡ Err e → OnOk r P
where_err (Ok u) e P same = cc
where_err (Err f) e P same = tt
