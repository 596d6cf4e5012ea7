-- Names with a comma between each two, written one by one.
use Rattle.std.proofs.Common.{◌≡◌, ◌<◌, ◌+◌, ◌∙◌, ℕ, List, [], ◌∷◌, ◌++◌, length, take, get_or, flat_map, refl, sym, ap, append_assoc, append-nil}
use Rattle.judge_report.specs.Lists.{separated}
use Rattle.judge_report.proofs.ListTexts.{more_items}

-- a name behind a comma
abbrev pub behind_comma : List ℕ → List ℕ
behind_comma name = 44 ∷ name

first_and_others : (first : List ℕ) (others : List (List ℕ)) → separated (first ∷ others) ≡ first ++ flat_map behind_comma others
first_and_others first [] = sym (append-nil first)
first_and_others first (name ∷ others) = ap (λ (t : List ℕ). first ++ 44 ∷ t) (first_and_others name others)

-- a name more
pub others_more : (start : List ℕ) (others : List (List ℕ)) (i : ℕ) (name old new : List ℕ) → i < length others → name ≡ get_or others i name → old ≡ start ++ flat_map behind_comma (take i others) → new ≡ old ++ behind_comma name
    → new ≡ start ++ flat_map behind_comma (take (i + 1) others)
others_more start others i name old new lt is o n =
    n ∙ ap (λ (t : List ℕ). t ++ behind_comma name) o ∙ append_assoc start (flat_map behind_comma (take i others)) (behind_comma name)
    ∙ ap (λ (t : List ℕ). start ++ t) (more_items behind_comma others i name (flat_map behind_comma (take i others)) _ lt is refl refl)

-- all of them
pub names_all : (start first mid : List ℕ) (others names : List (List ℕ)) (new : List ℕ) → names ≡ first ∷ others → mid ≡ start ++ first → new ≡ mid ++ flat_map behind_comma others → new ≡ start ++ separated names
names_all start first mid others names new is m n =
    n ∙ ap (λ (t : List ℕ). t ++ flat_map behind_comma others) m ∙ append_assoc start first (flat_map behind_comma others) ∙ ap (λ (t : List ℕ). start ++ t) (sym (first_and_others first others)) ∙ ap (λ (ns : List (List ℕ)). start ++ separated ns) (sym is)

pub names_none : (old : List ℕ) (names : List (List ℕ)) → names ≡ [] → old ≡ old ++ separated names
names_none old names is = sym (append-nil old) ∙ ap (λ (ns : List (List ℕ)). old ++ separated ns) (sym is)
