-- Which line bytes are.
use Rattle.std.proofs.Common.{◌≡◌, ◌≢◌, ◌<◌, ◌^◌, ◌++◌, ℕ, false, nat_eq, Option, Some, None, MatchOption, List, length, take, codes, ap, sym, ◌∙◌, subst}
use Rattle.std.specs.Cmp.Lexicographic.{pointwise}
use Rattle.std.proofs.lemmas.Bool.Decides.{Decides-eqb}
use Rattle.std.proofs.lemmas.List.Prefix.{front_rest}
use Rattle.std.proofs.lemmas.Slice.Eq.{strip_prefix_is}
use Rattle.std.specs.Fmt.{decimal}
use Rattle.certificates.specs.Lines.{Line, EmptyLine, EventLine, PartsLine, BranchLine, InnerLine, TurnsLine, WalkLine, NodeLine}
use Rattle.certificate_texts.specs.declared.missing.Level.{Level}
use Rattle.certificate_texts.specs.Levels.{CannotFollow, IsLine, levels_behind}
use Rattle.certificate_texts.proofs.LineForms.{same_line}

-- the bytes aren't this word and a number
abbrev pub NotNumbered : List ℕ → List ℕ → Type 0
NotNumbered text word = (n : ℕ) → n < 10 ^ 10 → text ≢ word ++ decimal n

-- the bytes are this word and the number, or this word and none
abbrev pub IsNumbered : List ℕ → List ℕ → Option ℕ → Type 0
IsNumbered text word found = MatchOption found (NotNumbered text word) (λ n. (n < 10 ^ 10) × (text ≡ word ++ decimal n))

pub not_prefixed : (text word : List ℕ) → pointwise nat_eq (take (length word) text) word ≡ false → NotNumbered text word
not_prefixed text word h n small e = strip_prefix_is Decides-eqb text word None h (decimal n) e

pub prefixed : (text word digits : List ℕ) (found : Option ℕ) → text ≡ word ++ digits → MatchOption found ((n : ℕ) → n < 10 ^ 10 → digits ≢ decimal n) (λ n. (n < 10 ^ 10) × (digits ≡ decimal n)) → IsNumbered text word found
prefixed text word digits None e h = λ n small f. h n small (sym (front_rest text word digits e) ∙ front_rest text word (decimal n) f)
prefixed text word digits (Some n) e h = (h.0, e ∙ ap (λ ds. word ++ ds) h.1)

-- bytes that have none of the forms are no line
pub no_line : (text : List ℕ) → text ≢ codes "inner" → text ≢ codes "empty" → NotNumbered text (codes "event ") → NotNumbered text (codes "parts ") → NotNumbered text (codes "branch ")
    → NotNumbered text (codes "turns ") → NotNumbered text (codes "walk ") → NotNumbered text (codes "node ") → (l : Line) → IsLine text l → ⊥
no_line text inner empty event parts branch turns walk node EmptyLine h = empty h.are
no_line text inner empty event parts branch turns walk node (EventLine n) h = event n h.short h.are
no_line text inner empty event parts branch turns walk node (PartsLine n) h = parts n h.short h.are
no_line text inner empty event parts branch turns walk node (BranchLine n) h = branch n h.short h.are
no_line text inner empty event parts branch turns walk node InnerLine h = inner h.are
no_line text inner empty event parts branch turns walk node (TurnsLine n) h = turns n h.short h.are
no_line text inner empty event parts branch turns walk node (WalkLine n) h = walk n h.short h.are
no_line text inner empty event parts branch turns walk node (NodeLine n) h = node n h.short h.are

-- where a line can't stand, no line with its bytes can
pub cannot_follow : (levels : List Level) (text : List ℕ) (l : Line) → IsLine text l → levels_behind levels l ≡ None → CannotFollow levels text
cannot_follow levels text l h e m k = subst (λ n. levels_behind levels n ≡ None) (same_line l m h.short k.short (sym h.are ∙ k.are)) e

pub no_line_follows : (levels : List Level) (text : List ℕ) → ((l : Line) → IsLine text l → ⊥) → CannotFollow levels text
no_line_follows levels text none l h = absurd (none l h)
