-- Tokens that are written on a blank page are laid out.
use Rattle.std.proofs.Common.{ℕ, Bool, true, false, ◌≡◌, ◌∙◌, ◌++◌, ◌||◌, List, [], ◌∷◌, refl, sym, ap, append-nil, append_assoc, if◌then◌else◌}
use Rattle.msc_print.specs.Words.{Words}
use Rattle.msc_print.specs.Layout.{ends_line, joins_before, joins_behind, gap, laid_out}
use Rattle.msc_print.specs.Pages.{Sheet, blank, lead_in, line_end, put, put_all}

-- what stands in front of the first of these tokens
abbrev lead : Bool → Words → List ℕ
lead close [] = []
lead close (text ∷ rest) = lead_in close text

abbrev gap_by : (ends behind : Bool) (rest : Words) → List ℕ
gap_by ends behind [] = if ends then 10 ∷ [] else []
gap_by ends behind (other ∷ rest) = if ends then 10 ∷ [] else (if behind then [] else (if joins_before other then [] else 32 ∷ []))

parts_of_gap : (ends behind : Bool) (rest : Words) → (if ends then 10 ∷ [] else []) ++ lead (ends || behind) rest ≡ gap_by ends behind rest
parts_of_gap true behind [] = refl
parts_of_gap true behind (other ∷ rest) = refl
parts_of_gap false behind [] = refl
parts_of_gap false true (other ∷ rest) = refl
parts_of_gap false false (other ∷ rest) = refl

gap_is : (text : List ℕ) (rest : Words) → line_end text ++ lead (ends_line text || joins_behind text) rest ≡ gap text rest
gap_is text [] = parts_of_gap (ends_line text) (joins_behind text) []
gap_is text (other ∷ rest) = parts_of_gap (ends_line text) (joins_behind text) (other ∷ rest)

-- a token is put by its three parts
pub put_parts : (s : Sheet) (text held a b c : List ℕ) (close behind : Bool) → record { bytes = held; close = close } ≡ s → a ≡ held ++ lead_in close text → b ≡ a ++ text → c ≡ b ++ line_end text →
    behind ≡ (ends_line text || joins_behind text) → record { bytes = c; close = behind } ≡ put s text
unfolding put
put_parts s text held a b c close behind es ea eb ec el = rw (← es, ec, eb, ea, el) (ap (λ (bytes : List ℕ). record { bytes = bytes; close = ends_line text || joins_behind text }) (shift held (lead_in close text) text (line_end text)))
  where
    shift : (w x y z : List ℕ) → ((w ++ x) ++ y) ++ z ≡ w ++ (x ++ (y ++ z))
    shift w x y z = simp append_assoc

regroup : (a b c d e f : List ℕ) → (a ++ (b ++ (c ++ d))) ++ (e ++ f) ≡ a ++ (b ++ (c ++ ((d ++ e) ++ f)))
regroup a b c d e f = simp append_assoc

put_is : (s : Sheet) (words : Words) → (put_all s words).bytes ≡ s.bytes ++ (lead s.close words ++ laid_out words)
unfolding put
put_is s [] = sym (append-nil s.bytes)
put_is s (text ∷ rest) =
    put_is (put s text) rest
    ∙ regroup s.bytes (lead_in s.close text) text (line_end text) (lead (ends_line text || joins_behind text) rest) (laid_out rest)
    ∙ ap (λ (g : List ℕ). s.bytes ++ (lead_in s.close text ++ (text ++ (g ++ laid_out rest)))) (gap_is text rest)

pub laid_out_is : (words : Words) → (put_all blank words).bytes ≡ laid_out words
laid_out_is [] = refl
laid_out_is (text ∷ rest) = put_is blank (text ∷ rest)
