-- Serves private contracts alone.
-- Items with a word that begins one of them and the end as well: the values of both ways to read them, and the reader.
use Rattle.std.specs.Prelude.{ℕ, zero, suc, ◌++◌, ◌⊎◌, List, [], ◌∷◌, map, length, Ok, Err, if◌then◌else◌}
use Rattle.std.proofs.Common.{inl, inr}
use Rattle.msc_tokens.specs.declared.token.Token.{Token}
use Rattle.token_grammar.specs.Languages.{Set, Read, refused, starts, ◌>>=◌, word_at, seq_at, until_at}

abbrev pub Item : Type 0 → Type 0 → Type 0
Item A B = A ⊎ (Token × B)

abbrev pub Row : Type 0 → Type 0 → Type 0
Row A B = B × (List A × Token)

-- the items of the rows, and the word that the end begins with
abbrev pub items : {A B : Type 0} → List A × Token → List (Row A B) → List (Item A B) × Token
items (os, t) [] = (map inl os, t)
items (os, t) ((b, z) ∷ rows) = (map inl os ++ inr (t, b) ∷ (items z rows).0, (items z rows).1)

abbrev pub unrow : {A B D : Type 0} → (List A × Token) × (List (Row A B) × D) → List (Item A B) × (Token × D)
unrow ((os, t), (rows, d)) = ((items (os, t) rows).0, ((items (os, t) rows).1, d))

-- the items up to the word
abbrev pub part_at : {A : Type 0} → Set → Set → (List Token → Read A) → List Token → Read (List A × Token)
part_at w F p = until_at F p (word_at w)

abbrev pub rows_at : {A B D : Type 0} → Set → Set → Set → (List Token → Read A) → (List Token → Read B) → (List Token → Read D) → List Token → Read ((List A × Token) × (List (Row A B) × D))
rows_at w F G p x y = seq_at (part_at w F p) (until_at G (seq_at x (part_at w F p)) y)

-- the same by one loop, which looks at the next token behind the word
abbrev pub flat_at : {A B D : Type 0} → Set → Set → Set → (List Token → Read A) → (List Token → Read B) → (List Token → Read D) → ℕ → List Token → Read (List (Item A B) × (Token × D))
flat_at w F G p x y zero ts = Err (refused (length ts))
flat_at w F G p x y (suc k) ts =
    if starts F ts then (p ts >>= λ o. flat_at w F G p x y k o.1 >>= λ r. Ok ((inl o.0 ∷ r.0.0, r.0.1), r.1))
    else (word_at w ts >>= λ t. if starts G t.1 then (x t.1 >>= λ b. flat_at w F G p x y k b.1 >>= λ r. Ok ((inr (t.0, b.0) ∷ r.0.0, r.0.1), r.1))
    else (y t.1 >>= λ d. Ok (([], (t.0, d.0)), d.1)))
