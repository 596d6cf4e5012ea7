-- Texts of tokens that are laid out are cut apart again.
use Rattle.std.proofs.Common.{ℕ, Bool, true, false, ◌≡◌, ◌∙◌, ◌++◌, ◌⊎◌, List, [], ◌∷◌, All, inl, inr, refl, sym, ap, subst, append-nil, codes, arith}
use Rattle.std.proofs.lemmas.Bool.{or_cases}
use Rattle.std.proofs.lemmas.List.{map-append}
use Rattle.std.proofs.lemmas.Slice.Eq.{bytes_eq-Decides}
use Rattle.std.specs.Str.{bytes_eq}
use Rattle.msc_base.specs.declared.place.Place.{Place}
use Rattle.msc_base.specs.Names.{IsWordByte}
use Rattle.msc_base.specs.Lists.{IsAmong}
use Rattle.msc_tokens.specs.declared.token.Token.{Token}
use Rattle.msc_tokens.specs.Places.{first_place, past}
use Rattle.msc_tokens.specs.Spelling.{IsBlank, IsPair, BeginsWith, TextPiece, Blank, OneWord, OneString, OneMark, text, bytes_of, token_of, tokens_from, IsPiece, Ends, IsWellCut}
use Rattle.token_grammar.specs.Classes.{is_one_of}
use Rattle.token_grammar.specs.Languages.{texts}
use Rattle.msc_print.specs.Words.{Words}
use Rattle.msc_print.specs.Layout.{ends_line, joins_before, joins_behind, gap, laid_out}
use Rattle.msc_print.specs.Texts.{IsText, word, quoted, mark, Parts, AreTexts, SpellsTexts}

abbrev piece_of : (w : List ℕ) → IsText w → TextPiece
piece_of w (word h) = OneWord w
piece_of w (quoted ps e h) = OneString ps
piece_of w (mark b e h) = OneMark b

pub text_is : (w : List ℕ) (t : IsText w) → w ≡ text (piece_of w t)
text_is w (word h) = refl
text_is w (quoted ps e h) = e
text_is w (mark b e h) = e

pub piece_is : (w : List ℕ) (t : IsText w) → IsPiece (piece_of w t)
piece_is w (word h) = h
piece_is w (quoted ps e h) = h
piece_is w (mark b e h) = h

pub token_is : (p : Place) (w : List ℕ) (t : IsText w) → texts (token_of p (piece_of w t)) ≡ w ∷ []
token_is p w (word h) = refl
token_is p w (quoted ps e h) = ap (λ (z : List ℕ). z ∷ []) (sym e)
token_is p w (mark b e h) = ap (λ (z : List ℕ). z ∷ []) (sym e)

-- ---- what stands behind a token

-- the first byte of a mark in front of which no blank stands
abbrev IsClosing : ℕ → Type 0
IsClosing c = (c ≡ 59) ⊎ (c ≡ 44) ⊎ (c ≡ 58) ⊎ (c ≡ 41) ⊎ (c ≡ 62)

ends_blank : (w : List ℕ) (t : IsText w) (g : ℕ) (rest : List ℕ) → IsBlank g → Ends (piece_of w t) (g ∷ rest)
ends_blank w (word h) g rest blank = λ k. grind arith
ends_blank w (quoted ps e h) g rest blank = λ k. grind arith
ends_blank w (mark b e h) g rest blank = λ k. grind arith

ends_closing : (w : List ℕ) (t : IsText w) (c : ℕ) (rest : List ℕ) → IsClosing c → (w ≡ codes ">" → c ≡ 62 → ⊥) → Ends (piece_of w t) (c ∷ rest)
ends_closing w (word h) c rest closing apart = λ k. grind arith
ends_closing w (quoted ps e h) c rest closing apart = λ k. grind arith
ends_closing w (mark b e h) c rest closing apart = λ k. by k
  where
    by : IsPair b c → ⊥
    by (inl k) = let first = k.0 in let next = k.1 in grind arith
    by (inr (inl k)) = let first = k.0 in let next = k.1 in grind arith
    by (inr (inr k)) = apart (e ∙ ap (λ (z : ℕ). z ∷ []) k.0) k.1

ends_last : (w : List ℕ) (t : IsText w) → Ends (piece_of w t) []
ends_last w (word h) = λ k. k
ends_last w (quoted ps e h) = λ k. k
ends_last w (mark b e h) = λ k. k

-- a text of one byte that no word has is a mark
pub one_byte : (b : ℕ) (w : List ℕ) (t : IsText w) → w ≡ b ∷ [] → (IsWordByte b → ⊥) → (b ≡ 39 → ⊥) → piece_of w t ≡ OneMark b
one_byte b w (word h) e no_word no_string = absurd (no_word ((subst (λ (z : List ℕ). All IsWordByte z) e h.bytes_are) 0 0 (omega arith)))
one_byte b w (quoted ps i h) e no_word no_string = absurd (no_string cc)
one_byte b w (mark c i h) e no_word no_string = let same : c ≡ b = cc in ap OneMark same

-- the texts begin with `<` only where the first of them is `<`
begins_open : (w : List ℕ) (t : IsText w) (rest : List ℕ) → (w ≡ codes "<" → ⊥) → BeginsWith (λ b. b ≡ 60) (w ++ rest) → ⊥
begins_open [] (word h) rest no_open k = let within = h.has_one.2 in omega arith
begins_open [] (quoted ps e h) rest no_open k = absurd cc
begins_open [] (mark b e h) rest no_open k = absurd cc
begins_open (c ∷ w) (word h) rest no_open k = let first : IsWordByte c = h.bytes_are 0 0 (omega arith) in grind arith
begins_open (c ∷ w) (quoted ps e h) rest no_open k = let first : c ≡ 39 = cc in omega arith
begins_open (c ∷ w) (mark b e h) rest no_open k = no_open (let first : c ≡ b = cc in let none : w ≡ [] = cc in rw (k, none) refl)

one_of : (ws : Words) (v : List ℕ) → is_one_of ws v ≡ true → IsAmong ws v
one_of [] v m = absurd cc
one_of (w ∷ ws) v m = elim (or_cases (bytes_eq v w) (is_one_of ws v) m) [ inl a ↦ inl ((bytes_eq-Decides v w).0 a) | inr b ↦ inr (one_of ws v b) ]

closing_mark : (v : List ℕ) → joins_before v ≡ true → (c : ℕ) × (v ≡ c ∷ []) × IsClosing c
closing_mark v m = by (one_of (codes ";" ∷ codes "," ∷ codes ":" ∷ codes ")" ∷ codes ">" ∷ []) v m)
  where
    by : IsAmong (codes ";" ∷ codes "," ∷ codes ":" ∷ codes ")" ∷ codes ">" ∷ []) v → (c : ℕ) × (v ≡ c ∷ []) × IsClosing c
    by (inl e) = (59, e, inl refl)
    by (inr (inl e)) = (44, e, inr (inl refl))
    by (inr (inr (inl e))) = (58, e, inr (inr (inl refl)))
    by (inr (inr (inr (inl e)))) = (41, e, inr (inr (inr (inl refl))))
    by (inr (inr (inr (inr (inl e))))) = (62, e, inr (inr (inr (inr refl))))
    by (inr (inr (inr (inr (inr k))))) = absurd k

no_pair : (x : List ℕ) → BeginsWith (IsPair 40) x → ⊥
no_pair [] k = k
no_pair (c ∷ x) k = grind arith

pair_opens : (x : List ℕ) → BeginsWith (IsPair 60) x → BeginsWith (λ b. b ≡ 60) x
pair_opens [] k = k
pair_opens (c ∷ x) (inl k) = let first = k.0 in absurd (omega arith)
pair_opens (c ∷ x) (inr (inl k)) = k.1
pair_opens (c ∷ x) (inr (inr k)) = let first = k.0 in absurd (omega arith)

ends_opening : (w : List ℕ) (t : IsText w) (v : List ℕ) (r : Words) → IsText v → joins_behind w ≡ true → (w ≡ codes "<" → v ≡ codes "<" → ⊥) → Ends (piece_of w t) (laid_out (v ∷ r))
ends_opening w t v r tv m apart = by (one_of (codes "(" ∷ codes "<" ∷ []) w m)
  where
    by : IsAmong (codes "(" ∷ codes "<" ∷ []) w → Ends (piece_of w t) (v ++ (gap v r ++ laid_out r))
    by (inl e) = subst (λ (p : TextPiece). Ends p (v ++ (gap v r ++ laid_out r))) (sym (one_byte 40 w t e (λ k. grind arith) (λ k. omega arith))) (no_pair (v ++ (gap v r ++ laid_out r)))
    by (inr (inl e)) = subst (λ (p : TextPiece). Ends p (v ++ (gap v r ++ laid_out r))) (sym (one_byte 60 w t e (λ k. grind arith) (λ k. omega arith)))
        (λ k. begins_open v tv (gap v r ++ laid_out r) (apart e) (pair_opens (v ++ (gap v r ++ laid_out r)) k))
    by (inr (inr k)) = absurd k

-- a blank or a line feed stands behind it, or what stands close doesn't make it longer
behind : (w : List ℕ) (t : IsText w) (rest : Words) → AreTexts rest → Parts w rest → ((g : ℕ) × IsBlank g × (gap w rest ≡ g ∷ [])) ⊎ ((gap w rest ≡ []) × Ends (piece_of w t) (laid_out rest))
behind w t [] a p = by (ends_line w) refl
  where
    by : (e : Bool) → ends_line w ≡ e → ((g : ℕ) × IsBlank g × (gap w [] ≡ g ∷ [])) ⊎ ((gap w [] ≡ []) × Ends (piece_of w t) [])
    by true i = inl (10, inr (inl refl), rw i refl)
    by false i = inr (rw i refl, ends_last w t)
behind w t (v ∷ r) a p = by (ends_line w) (joins_behind w) (joins_before v) refl refl refl
  where
    by : (e b j : Bool) → ends_line w ≡ e → joins_behind w ≡ b → joins_before v ≡ j → ((g : ℕ) × IsBlank g × (gap w (v ∷ r) ≡ g ∷ [])) ⊎ ((gap w (v ∷ r) ≡ []) × Ends (piece_of w t) (laid_out (v ∷ r)))
    by true b j i k l = inl (10, inr (inl refl), rw i refl)
    by false true j i k l = inr (rw (i, k) refl, ends_opening w t v r a.0 k p.0)
    by false false true i k l =
        let c = closing_mark v l in
        inr (rw (i, k, l) refl, subst (λ (z : List ℕ). Ends (piece_of w t) (z ++ (gap v r ++ laid_out r))) (sym c.1) (ends_closing w t c.0 (gap v r ++ laid_out r) c.2 (λ f h. p.1 f (c.1 ∙ ap (λ (z : ℕ). z ∷ []) h))))
    by false false false i k l = inl (32, inr (inr (inr refl)), rw (i, k, l) refl)

abbrev IsCut : Words → List TextPiece → Type 0
IsCut words pieces = (laid_out words ≡ bytes_of pieces) × IsWellCut pieces [] × ((p : Place) → texts (tokens_from p pieces) ≡ words)

build : (words : Words) → AreTexts words → (pieces : List TextPiece) × IsCut words pieces
build [] a = ([], (refl, tt, λ p. refl))
build (w ∷ rest) a = by (build rest a.2) (behind w a.0 rest a.2 a.1)
  where
    by : (pieces : List TextPiece) × IsCut rest pieces → ((g : ℕ) × IsBlank g × (gap w rest ≡ g ∷ [])) ⊎ ((gap w rest ≡ []) × Ends (piece_of w a.0) (laid_out rest)) → (pieces : List TextPiece) × IsCut (w ∷ rest) pieces
    by r (inl b) =
        let x = piece_of w a.0 in
        let next = λ (p : Place). past (past p (text x)) (b.0 ∷ []) in (
          x ∷ Blank b.0 ∷ r.0,
          (
            ap (λ (z : List ℕ). w ++ (z ++ laid_out rest)) b.2 ∙ ap (λ (z : List ℕ). w ++ (b.0 ∷ z)) r.1.0 ∙ ap (λ (z : List ℕ). z ++ (b.0 ∷ bytes_of r.0)) (text_is w a.0),
            (piece_is w a.0, ends_blank w a.0 b.0 (bytes_of r.0 ++ []) b.1, (b.1, tt, r.1.1)),
            λ p. map-append (λ (c : Token). c.bytes) (token_of p x) (tokens_from (next p) r.0) ∙ ap (λ (z : Words). z ++ texts (tokens_from (next p) r.0)) (token_is p w a.0) ∙ ap (λ (z : Words). w ∷ z) (r.1.2 (next p)),
          ),
        )
    by r (inr c) =
        let x = piece_of w a.0 in (
          x ∷ r.0,
          (
            ap (λ (z : List ℕ). w ++ (z ++ laid_out rest)) c.0 ∙ ap (λ (z : List ℕ). w ++ z) r.1.0 ∙ ap (λ (z : List ℕ). z ++ bytes_of r.0) (text_is w a.0),
            (piece_is w a.0, subst (λ (z : List ℕ). Ends x z) (r.1.0 ∙ sym (append-nil (bytes_of r.0))) c.1, r.1.1),
            λ p. map-append (λ (d : Token). d.bytes) (token_of p x) (tokens_from (past p (text x)) r.0) ∙ ap (λ (z : Words). z ++ texts (tokens_from (past p (text x)) r.0)) (token_is p w a.0) ∙ ap (λ (z : Words). w ∷ z) (r.1.2 (past p (text x))),
          ),
        )

pub spelled : (words : Words) → AreTexts words → SpellsTexts (laid_out words) words
spelled words a =
    let r = build words a in
    record { tokens = tokens_from first_place r.0; spells = record { pieces = r.0; spelled = r.1.0; cut = r.1.1; tokens_are = refl }; texts_are = r.1.2 first_place }
