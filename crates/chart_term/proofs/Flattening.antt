-- Joins and choices opened one part after another.
use Rattle.std.proofs.Common.{◌≡◌, ℕ, ◌+◌, ◌<◌, List, [], ◌∷◌, ◌++◌, ap, sym, ◌∙◌, append_assoc, append-nil, length, take, get_or}
use Rattle.std.proofs.lemmas.List.{take_more}
use Rattle.msc_base.specs.Patterns.{Mode}
use Rattle.chart_term.specs.NormalForms.{open_part, flat, open_choice, open_choices}
use Rattle.chart_term.specs.Terms.{Tree}
use Rattle.chart_term.proofs.Lists.{items-trees}

-- one more item of a list
pub taken_next : {A : Type 0} (xs : List A) (i : ℕ) (x : A) → i < length xs → x ≡ get_or xs i x → take (i + 1) xs ≡ take i xs ++ x ∷ []
taken_next xs i x lt e = take_more xs i x lt ∙ ap (λ y. take i xs ++ y ∷ []) (sym e)

flat-snoc : (m : Mode) (xs : List Tree) (x : Tree) → flat m (xs ++ x ∷ []) ≡ flat m xs ++ open_part m x
flat-snoc m [] x = append-nil (open_part m x)
flat-snoc m (y ∷ ys) x = ap (λ l. open_part m y ++ l) (flat-snoc m ys x) ∙ sym (append_assoc (open_part m y) (flat m ys) (open_part m x))

pub flat-next : (m : Mode) (xs : List Tree) (i : ℕ) (x : Tree) → i < length xs → x ≡ get_or xs i x → flat m (take (i + 1) xs) ≡ flat m (take i xs) ++ open_part m x
flat-next m xs i x lt e = ap (flat m) (taken_next xs i x lt e) ∙ flat-snoc m (take i xs) x

choices-snoc : (xs : List Tree) (x : Tree) → open_choices (xs ++ x ∷ []) ≡ open_choices xs ++ open_choice x
choices-snoc [] x = append-nil (open_choice x)
choices-snoc (y ∷ ys) x = ap (λ l. open_choice y ++ l) (choices-snoc ys x) ∙ sym (append_assoc (open_choice y) (open_choices ys) (open_choice x))

pub choices-next : (xs : List Tree) (i : ℕ) (x : Tree) → i < length xs → x ≡ get_or xs i x → open_choices (take (i + 1) xs) ≡ open_choices (take i xs) ++ open_choice x
choices-next xs i x lt e = ap open_choices (taken_next xs i x lt e) ∙ choices-snoc (take i xs) x

pub ruleset flats = (items-trees, flat-next, choices-next)
