-- Texts of tokens that stand in bytes one after another are cut apart again: blanks stand between them, or a mark.
use Rattle.std.proofs.Common.{ℕ, ◌≡◌, ◌∙◌, ◌++◌, ◌⊎◌, All, List, [], ◌∷◌, Option, Some, None, refl, sym, ap, subst, inl, inr, append-nil, append_assoc, arith, codes}
use Rattle.std.proofs.lemmas.List.{map-append}
use Rattle.msc_base.specs.Names.{IsWord, IsWordByte}
use Rattle.msc_base.specs.declared.place.Place.{Place}
use Rattle.msc_tokens.specs.declared.token.Token.{Token}
use Rattle.msc_tokens.specs.Places.{first_place, past}
use Rattle.msc_tokens.specs.Spelling.{StringPart, held, TextPiece, Blank, OneWord, OneString, OneMark, text, bytes_of, token_of, tokens_from, IsPiece, Ends, IsWellCut}
use Rattle.msc_tree.specs.Labels.{list_text, with_commas}
use Rattle.token_grammar.specs.Languages.{texts}
use Rattle.msc_print.specs.EventWords.{parameter_words}
use Rattle.msc_print.specs.Texts.{IsText, word, quoted, mark, AreTexts, SpellsTexts}
use Rattle.msc_print.specs.Words.{Words, alone, each_behind}

-- a blank, or a mark that makes no longer one
abbrev pub IsStop : ℕ → Type 0
IsStop b = (b ≡ 32) ⊎ (b ≡ 40) ⊎ (b ≡ 41) ⊎ (b ≡ 44) ⊎ (b ≡ 58) ⊎ (b ≡ 59)

abbrev pub Stops : List ℕ → Type 0
Stops [] = Unit {0}
Stops (b ∷ bytes) = IsStop b

-- what may stand close behind a text: a stop behind any, and anything behind `(` or `,`
abbrev pub Stands : List ℕ → List ℕ → Type 0
Stands w bytes = Stops bytes ⊎ (w ≡ codes "(") ⊎ (w ≡ codes ",")

-- the bytes are these texts, with blanks between them
pub data Laid : Words → List ℕ → Type 0 where
  none : Laid [] []
  blank : (ws : Words) (bytes : List ℕ) → Laid ws bytes → Laid ws (32 ∷ bytes)
  put : (w : List ℕ) (ws : Words) (bytes whole : List ℕ) → whole ≡ w ++ bytes → Stands w bytes → Laid ws bytes → Laid (w ∷ ws) whole

-- the text in front of these
pub put_in : (w : List ℕ) (ws : Words) (bytes : List ℕ) → Stands w bytes → Laid ws bytes → Laid (w ∷ ws) (w ++ bytes)
put_in w ws bytes s l = put w ws bytes (w ++ bytes) refl s l

-- ---- what stands behind a token

word_ends : (w : List ℕ) → IsWord w → (bytes : List ℕ) → Stands w bytes → Ends (OneWord w) bytes
word_ends w h [] s k = k
word_ends w h (c ∷ bytes) (inl s) k = grind arith
word_ends w h (c ∷ bytes) (inr (inl e)) k = let first : IsWordByte 40 = (subst (λ (z : List ℕ). All IsWordByte z) e h.bytes_are) 0 0 (omega arith) in grind arith
word_ends w h (c ∷ bytes) (inr (inr e)) k = let first : IsWordByte 44 = (subst (λ (z : List ℕ). All IsWordByte z) e h.bytes_are) 0 0 (omega arith) in grind arith

first_is : (b c : ℕ) (bs cs : List ℕ) → b ∷ bs ≡ c ∷ cs → b ≡ c
first_is b c bs cs e = cc

string_ends : (w : List ℕ) (ps : List StringPart) → w ≡ 39 ∷ (held ps ++ 39 ∷ []) → (bytes : List ℕ) → Stands w bytes → Ends (OneString ps) bytes
string_ends w ps is [] s k = k
string_ends w ps is (c ∷ bytes) (inl s) k = grind arith
string_ends w ps is (c ∷ bytes) (inr (inl e)) k = omega (arith, first_is 40 39 [] (held ps ++ 39 ∷ []) (sym e ∙ is))
string_ends w ps is (c ∷ bytes) (inr (inr e)) k = omega (arith, first_is 44 39 [] (held ps ++ 39 ∷ []) (sym e ∙ is))

mark_ends : (w : List ℕ) (b : ℕ) → w ≡ b ∷ [] → (bytes : List ℕ) → Stands w bytes → Ends (OneMark b) bytes
mark_ends w b is [] s k = k
mark_ends w b is (c ∷ bytes) (inl s) k = grind arith
mark_ends w b is (c ∷ bytes) (inr (inl e)) k = let one = first_is b 40 [] [] (sym is ∙ e) in grind arith
mark_ends w b is (c ∷ bytes) (inr (inr e)) k = let one = first_is b 44 [] [] (sym is ∙ e) in grind arith

-- ---- they are cut apart

pub record IsCut (ws : Words) (bytes : List ℕ) : Type 0 where
  pub pieces : List TextPiece
  pub spelled : bytes ≡ bytes_of pieces
  pub cut : IsWellCut pieces []
  pub are : (p : Place) → texts (tokens_from p pieces) ≡ ws

-- a piece in front of these
cut_piece : (w : List ℕ) (ws : Words) (bytes whole : List ℕ) (x : TextPiece) → whole ≡ w ++ bytes → w ≡ text x → IsPiece x → ((p : Place) → texts (token_of p x) ≡ w ∷ []) → Ends x bytes → IsCut ws bytes → IsCut (w ∷ ws) whole
cut_piece w ws bytes whole x is spells piece token ends r = record {
  pieces = x ∷ r.pieces;
  spelled = is ∙ ap (λ (z : List ℕ). w ++ z) r.spelled ∙ ap (λ (z : List ℕ). z ++ bytes_of r.pieces) spells;
  cut = (piece, subst (λ (z : List ℕ). Ends x z) (r.spelled ∙ sym (append-nil (bytes_of r.pieces))) ends, r.cut);
  are = λ p. map-append (λ (c : Token). c.bytes) (token_of p x) (tokens_from (past p (text x)) r.pieces)
      ∙ ap (λ (z : Words). z ++ texts (tokens_from (past p (text x)) r.pieces)) (token p) ∙ ap (λ (z : Words). w ∷ z) (r.are (past p (text x)));
}

cut_text : (w : List ℕ) (t : IsText w) (ws : Words) (bytes whole : List ℕ) → whole ≡ w ++ bytes → Stands w bytes → IsCut ws bytes → IsCut (w ∷ ws) whole
cut_text w (word h) ws bytes whole is s r = cut_piece w ws bytes whole (OneWord w) is refl h (λ p. refl) (word_ends w h bytes s) r
cut_text w (quoted ps e h) ws bytes whole is s r = cut_piece w ws bytes whole (OneString ps) is e h (λ p. ap (λ (z : List ℕ). z ∷ []) (sym e)) (string_ends w ps e bytes s) r
cut_text w (mark b e h) ws bytes whole is s r = cut_piece w ws bytes whole (OneMark b) is e h (λ p. ap (λ (z : List ℕ). z ∷ []) (sym e)) (mark_ends w b e bytes s) r

cut_laid : (ws : Words) (bytes : List ℕ) → Laid ws bytes → AreTexts ws → IsCut ws bytes
cut_laid _ _ none a = record { pieces = []; spelled = refl; cut = tt; are = λ p. refl }
cut_laid _ _ (blank ws bytes l) a =
    let r = cut_laid ws bytes l a in
    record { pieces = Blank 32 ∷ r.pieces; spelled = ap (λ (z : List ℕ). 32 ∷ z) r.spelled; cut = (inr (inr (inr refl)), tt, r.cut); are = λ p. r.are (past p (text (Blank 32))) }
cut_laid _ _ (put w ws bytes whole is s l) a = cut_text w a.0 ws bytes whole is s (cut_laid ws bytes l a.2)

pub laid_spelled : (ws : Words) (bytes : List ℕ) → Laid ws bytes → AreTexts ws → SpellsTexts bytes ws
laid_spelled ws bytes l a =
    let r = cut_laid ws bytes l a in
    record { tokens = tokens_from first_place r.pieces; spells = record { pieces = r.pieces; spelled = r.spelled; cut = r.cut; tokens_are = refl }; texts_are = r.are first_place }

-- ---- lists in parentheses

stops_commas : (items : List (List ℕ)) (bytes : List ℕ) → Stops (with_commas items ++ (codes ")" ++ bytes))
stops_commas [] bytes = inr (inr (inl refl))
stops_commas (item ∷ items) bytes = inr (inr (inr (inl refl)))

closed : (ws : Words) (bytes : List ℕ) → Stops bytes → Laid ws bytes → Laid (codes ")" ∷ ws) (codes ")" ++ bytes)
closed ws bytes s l = put_in (codes ")") ws bytes (inl s) l

others_laid : (items : List (List ℕ)) (ws : Words) (bytes : List ℕ) → Stops bytes → Laid ws bytes → Laid (each_behind (codes ",") alone items ++ codes ")" ∷ ws) (with_commas items ++ (codes ")" ++ bytes))
others_laid [] ws bytes s l = closed ws bytes s l
others_laid (item ∷ items) ws bytes s l =
    let rest = with_commas items ++ (codes ")" ++ bytes) in
    put (codes ",") _ (item ++ rest) _ (regroup (codes ",") item (with_commas items) (codes ")" ++ bytes)) (inr (inr refl))
    (put_in item _ rest (inl (stops_commas items bytes)) (others_laid items ws bytes s l))
  where
    regroup : (k a b c : List ℕ) → (k ++ (a ++ b)) ++ c ≡ k ++ (a ++ (b ++ c))
    regroup k a b c = simp append_assoc

-- a text with its list, if it has one
pub listed_laid : (w : List ℕ) (ps : Option (List (List ℕ))) (ws : Words) (bytes : List ℕ) → Stops bytes → Laid ws bytes → Laid (w ∷ (parameter_words ps ++ ws)) ((w ++ list_text ps) ++ bytes)
listed_laid w None ws bytes s l = put w ws bytes _ (ap (λ (z : List ℕ). z ++ bytes) (append-nil w)) (inl s) l
listed_laid w (Some []) ws bytes s l =
    put w _ (codes "(" ++ (codes ")" ++ bytes)) _ (append_assoc w (codes "()") bytes) (inl (inr (inl refl)))
    (put_in (codes "(") _ (codes ")" ++ bytes) (inr (inl refl)) (closed ws bytes s l))
listed_laid w (Some (item ∷ items)) ws bytes s l =
    let rest = with_commas items ++ (codes ")" ++ bytes) in
    subst (λ (z : Words). Laid (w ∷ codes "(" ∷ item ∷ z) ((w ++ list_text (Some (item ∷ items))) ++ bytes)) (sym (append_assoc (each_behind (codes ",") alone items) (codes ")" ∷ []) ws))
    (put w _ (codes "(" ++ (item ++ rest)) _ (regroup w (codes "(") item (with_commas items) (codes ")") bytes) (inl (inr (inl refl)))
    (put_in (codes "(") _ (item ++ rest) (inr (inl refl)) (put_in item _ rest (inl (stops_commas items bytes)) (others_laid items ws bytes s l))))
  where
    regroup : (a k b c l d : List ℕ) → (a ++ (k ++ ((b ++ c) ++ l))) ++ d ≡ a ++ (k ++ (b ++ (c ++ (l ++ d))))
    regroup a k b c l d = simp append_assoc
