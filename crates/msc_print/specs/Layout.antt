-- How tokens are laid out in a text: a line feed behind each semicolon, and a blank between two tokens of a line, but none
-- in front of `;` `,` `:` `)` `>` and none behind `(` `<`.
use Rattle.std.specs.Prelude.{ℕ, Bool, List, [], ◌∷◌, ◌++◌, codes, if◌then◌else◌}
use Rattle.token_grammar.specs.Classes.{is_one_of}
use Rattle.msc_print.specs.Words.{Words}

abbrev pub ends_line : List ℕ → Bool
ends_line text = is_one_of (codes ";" ∷ []) text

abbrev pub joins_before : List ℕ → Bool
joins_before text = is_one_of (codes ";" ∷ codes "," ∷ codes ":" ∷ codes ")" ∷ codes ">" ∷ []) text

abbrev pub joins_behind : List ℕ → Bool
joins_behind text = is_one_of (codes "(" ∷ codes "<" ∷ []) text

-- what stands between a token and those behind it
abbrev pub gap : List ℕ → Words → List ℕ
gap text [] = if ends_line text then 10 ∷ [] else []
gap text (other ∷ rest) = if ends_line text then 10 ∷ [] else (if joins_behind text then [] else (if joins_before other then [] else 32 ∷ []))

abbrev pub laid_out : Words → List ℕ
laid_out [] = []
laid_out (text ∷ rest) = text ++ (gap text rest ++ laid_out rest)
