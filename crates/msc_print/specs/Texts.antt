-- Texts of tokens that a lexer cuts apart again when they are laid out.
use Rattle.std.specs.Prelude.{ℕ, ◌≡◌, List, [], ◌∷◌, ◌++◌, codes}
use Rattle.msc_base.specs.Names.{IsWord}
use Rattle.msc_tokens.specs.declared.token.Token.{Token}
use Rattle.msc_tokens.specs.Spelling.{StringPart, held, AreParts, IsMark, Spells}
use Rattle.token_grammar.specs.Languages.{texts}
use Rattle.msc_print.specs.Words.{Words}

-- the text of a token: a word, a string, or a mark of one byte
pub data IsText (w : List ℕ) : Type 0 where
  word : IsWord w → IsText w
  quoted : (ps : List StringPart) → w ≡ 39 ∷ (held ps ++ 39 ∷ []) → AreParts ps → IsText w
  mark : (b : ℕ) → w ≡ b ∷ [] → IsMark b → IsText w

-- the first of these isn't `<` behind `<`, nor `>` behind `>`
abbrev pub Parts : List ℕ → Words → Type 0
Parts w [] = Unit {0}
Parts w (v ∷ rest) = (w ≡ codes "<" → v ≡ codes "<" → ⊥) × (w ≡ codes ">" → v ≡ codes ">" → ⊥)

-- each is the text of a token, and no two neighbours make a longer mark
abbrev pub AreTexts : Words → Type 0
AreTexts [] = Unit {0}
AreTexts (w ∷ rest) = IsText w × Parts w rest × AreTexts rest

-- the bytes spell tokens with these texts
pub record SpellsTexts (bytes : List ℕ) (words : Words) : Type 0 where
  pub tokens : List Token
  pub spells : Spells bytes tokens
  pub texts_are : texts tokens ≡ words
