-- Walks that append what they make of each item: one item more.
use Rattle.std.proofs.Common.{◌≡◌, ◌<◌, ◌+◌, ℕ, List, ◌∷◌, ◌++◌, drop, get_or, length, sym, ap, ◌∙◌}
use Rattle.std.proofs.lemmas.List.{append_assoc}
use Rattle.list_facts.proofs.Reading.{drop_read}

module _ {X A : Type 0} (each : List X → List A) (f : X → List A) (parts : (x : X) (xs : List X) → each (x ∷ xs) ≡ f x ++ each xs) where
  pub walk_more : (xs : List X) (i : ℕ) (x : X) (old new all : List A) → i < length xs → x ≡ get_or xs i x → new ≡ old ++ f x → old ++ each (drop i xs) ≡ all → new ++ each (drop (i + 1) xs) ≡ all
  walk_more xs i x old new all low is made before =
      ap (λ l. l ++ each (drop (i + 1) xs)) made
      ∙ append_assoc old (f x) (each (drop (i + 1) xs))
      ∙ ap (λ l. old ++ l) (sym (parts x (drop (i + 1) xs)) ∙ ap each (sym (drop_read xs i x low is)))
      ∙ before
