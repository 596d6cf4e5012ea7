-- The canonical text of what a text reads as is a row of texts of tokens, laid out.
use Rattle.std.proofs.Common.{ℕ, ◌≡◌, true, List, [], ◌∷◌, refl, sym, subst, arith}
use Rattle.std.proofs.lemmas.Bool.Decides.{nat_tests}
use Rattle.msc_base.specs.declared.place.Place.{Place}
use Rattle.msc_tokens.specs.declared.token.Token.{Token}
use Rattle.msc_tokens.specs.Places.{first_place, past}
use Rattle.msc_tokens.specs.Spelling.{IsPair, TextPiece, Blank, Note, OneWord, OneString, OneMark, LongMark, text, tokens_from, IsWellCut, Spells}
use Rattle.msc_tree.specs.Charts.{Document}
use Rattle.token_grammar.specs.Classes.{is_string}
use Rattle.msc_document.specs.DocumentGrammar.{document}
use Rattle.msc_print.specs.ChartWords.{document_words}
use Rattle.msc_print.specs.Texts.{word, quoted, mark, AreTexts}
use Rattle.msc_print.proofs.Tidy.{Proper, tidy_texts}
use Rattle.msc_print.proofs.DocumentBack.{document_tidy}

long_mark : (b c : ℕ) → IsPair b c → is_string (b ∷ c ∷ []) ≡ true → ⊥
long_mark b c pair is = grind (arith, nat_tests)

proper_pieces : (p : Place) (xs : List TextPiece) (rest : List ℕ) → IsWellCut xs rest → Proper (tokens_from p xs)
proper_pieces p [] rest h = tt
proper_pieces p (Blank b ∷ xs) rest h = proper_pieces (past p (text (Blank b))) xs rest h.2
proper_pieces p (Note bs ∷ xs) rest h = proper_pieces (past p (text (Note bs))) xs rest h.2
proper_pieces p (OneWord w ∷ xs) rest h = (λ i. word h.0, proper_pieces (past p (text (OneWord w))) xs rest h.2)
proper_pieces p (OneString ps ∷ xs) rest h = (λ i. quoted ps refl h.0, proper_pieces (past p (text (OneString ps))) xs rest h.2)
proper_pieces p (OneMark b ∷ xs) rest h = (λ i. mark b refl h.0, proper_pieces (past p (text (OneMark b))) xs rest h.2)
proper_pieces p (LongMark b c ∷ xs) rest h = (λ i. absurd (long_mark b c h.0 i), proper_pieces (past p (text (LongMark b c))) xs rest h.2)

-- the tokens that bytes spell begin as strings only where they are strings
pub proper : (bytes : List ℕ) (tokens : List Token) → Spells bytes tokens → Proper tokens
proper bytes tokens h = subst Proper (sym h.tokens_are) (proper_pieces first_place h.pieces [] h.cut)

pub printed_texts : (n : ℕ) (bytes : List ℕ) (tokens : List Token) (d : Document) → Spells bytes tokens → (document n).reads tokens d → AreTexts (document_words d)
printed_texts n bytes tokens d spells reads = tidy_texts (document_words d) (document_tidy n tokens d reads (proper bytes tokens spells))
