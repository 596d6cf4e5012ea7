-- One more piece at the prefix of a text.
use Rattle.std.proofs.Common.{◌≡◌, List, ℕ, ◌++◌, [], ◌∷◌, Result, Ok, Err, sym, refl, ap, ◌∙◌, append_assoc, append-nil, subst}
use Rattle.msc_base.specs.declared.place.Place.{Place}
use Rattle.msc_tokens.specs.declared.token.Token.{Token}
use Rattle.msc_tokens.specs.declared.token_list.TokenList.{TokenList}
use Rattle.msc_tokens.specs.declared.fault.LexFault.{LexFault}
use Rattle.msc_tokens.specs.Places.{after_byte, past}
use Rattle.msc_tokens.specs.Spelling.{TextPiece, text, bytes_of, token_of, tokens_from, IsPiece, Ends, IsWellCut, BreaksSpelling}

pub past-append : (p : Place) (xs ys : List ℕ) → past p (xs ++ ys) ≡ past (past p xs) ys
past-append p [] ys = refl
past-append p (x ∷ xs) ys = past-append (after_byte p x) xs ys

-- the bytes from a place on are a row of pieces, whose tokens stand behind those before
pub record IsRow (at : Place) (before : List Token) (bytes : List ℕ) (list : TokenList) : Type 0 where
  pub pieces : List TextPiece
  pub spelled : bytes ≡ bytes_of pieces
  pub cut : IsWellCut pieces []
  pub tokens_are : list.tokens ≡ before ++ tokens_from at pieces
  pub end_is : list.end_place ≡ past at bytes

-- the bytes from a place on are a row of pieces and a rest that begins none
pub record IsBroken (at : Place) (bytes : List ℕ) (fault : LexFault) : Type 0 where
  pub pieces : List TextPiece
  pub rest : List ℕ
  pub spelled : bytes ≡ bytes_of pieces ++ rest
  pub cut : IsWellCut pieces rest
  pub breaks : BreaksSpelling (past at (bytes_of pieces)) rest fault

-- what the bytes from a place on are
abbrev pub Reads : Place → List Token → List ℕ → Result TokenList LexFault → Type 0
Reads at before bytes (Ok list) = IsRow at before bytes list
Reads at before bytes (Err fault) = IsBroken at bytes fault

pub piece_more : (x : TextPiece) (at : Place) (before : List Token) (bytes : List ℕ) (a : Result TokenList LexFault) → IsPiece x → Ends x bytes
    → Reads (past at (text x)) (before ++ token_of at x) bytes a → Reads at before (text x ++ bytes) a
piece_more x at before bytes (Ok list) is ends h = record {
  pieces = x ∷ h.pieces;
  spelled = ap (λ bs. text x ++ bs) h.spelled;
  cut = (is, subst (Ends x) (h.spelled ∙ sym (append-nil (bytes_of h.pieces))) ends, h.cut);
  tokens_are = h.tokens_are ∙ append_assoc before (token_of at x) (tokens_from (past at (text x)) h.pieces);
  end_is = h.end_is ∙ sym (past-append at (text x) bytes);
}
piece_more x at before bytes (Err fault) is ends h = record {
  pieces = x ∷ h.pieces;
  rest = h.rest;
  spelled = ap (λ bs. text x ++ bs) h.spelled ∙ sym (append_assoc (text x) (bytes_of h.pieces) h.rest);
  cut = (is, subst (Ends x) h.spelled ends, h.cut);
  breaks = subst (λ p. BreaksSpelling p h.rest fault) (sym (past-append at (text x) (bytes_of h.pieces))) h.breaks;
}

-- a fault that stands at the prefix
pub broken_here : (at : Place) (bytes : List ℕ) (fault : LexFault) → BreaksSpelling at bytes fault → IsBroken at bytes fault
broken_here at bytes fault h = record { pieces = []; rest = bytes; spelled = refl; cut = tt; breaks = h }
