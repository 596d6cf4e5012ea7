-- The bytes of one line more.
use Rattle.std.proofs.Common.{◌≡◌, ◌∙◌, ◌++◌, ◌+◌, ◌<◌, ℕ, suc, List, [], ◌∷◌, length, take, get_or, ap, refl, sym, append_assoc}
use Rattle.std.proofs.lemmas.List.{take_more}
use Rattle.certificate_texts.specs.declared.line.CertificateLine.{CertificateLine}
use Rattle.certificate_texts.specs.Texts.{bytes_of_lines, line_bytes, line_of, lines_of}

pub line_behind : (ls : List CertificateLine) (l : CertificateLine) → bytes_of_lines (lines_of (ls ++ l ∷ [])) ≡ bytes_of_lines (lines_of ls) ++ (line_bytes (line_of l) ++ 10 ∷ [])
line_behind [] l = refl
line_behind (k ∷ ls) l =
    ap (λ bs. line_bytes (line_of k) ++ (10 ∷ bs)) (line_behind ls l)
    ∙ sym (append_assoc (line_bytes (line_of k)) (10 ∷ bytes_of_lines (lines_of ls)) (line_bytes (line_of l) ++ 10 ∷ []))

-- the bytes of the lines up to one more
pub line_written : (ls : List CertificateLine) (i : ℕ) (d : CertificateLine) (before after : List ℕ) → i < length ls → before ≡ bytes_of_lines (lines_of (take i ls))
    → after ≡ before ++ (line_bytes (line_of (get_or ls i d)) ++ 10 ∷ []) → after ≡ bytes_of_lines (lines_of (take (i + 1) ls))
line_written ls i d before after lt b a =
    a ∙ ap (λ bs. bs ++ (line_bytes (line_of (get_or ls i d)) ++ 10 ∷ [])) b
    ∙ sym (ap (λ (ks : List CertificateLine). bytes_of_lines (lines_of ks)) (take_more ls i d lt) ∙ line_behind (take i ls) (get_or ls i d))

pub lines_behind : (ls : List CertificateLine) (l : CertificateLine) → lines_of (ls ++ l ∷ []) ≡ lines_of ls ++ line_of l ∷ []
lines_behind [] l = refl
lines_behind (k ∷ ls) l = ap (λ ks. line_of k ∷ ks) (lines_behind ls l)

pub lines_length : (ls : List CertificateLine) → length (lines_of ls) ≡ length ls
lines_length [] = refl
lines_length (l ∷ ls) = ap suc (lines_length ls)
