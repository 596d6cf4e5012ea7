-- The innermost level is the last of the list that code holds.
use Rattle.std.proofs.Common.{◌≡◌, ◌∙◌, List, [], ◌∷◌, ◌++◌, reverse, ap}
use Rattle.std.proofs.lemmas.List.{reverse-append}
use Rattle.certificate_texts.specs.declared.missing.Level.{Level}

pub pushed : (levels : List Level) (level : Level) → reverse (levels ++ level ∷ []) ≡ level ∷ reverse levels
pushed levels level = reverse-append levels (level ∷ [])

pub popped : (old left : List Level) (level : Level) → old ≡ left ++ level ∷ [] → reverse old ≡ level ∷ reverse left
popped old left level e = ap (λ (ls : List Level). reverse ls) e ∙ pushed left level
