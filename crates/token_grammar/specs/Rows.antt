-- Items that are read in states, up to a word that may begin an item as well: what stands behind the word decides.
use Rattle.std.specs.Prelude.{ℕ, zero, suc, ◌≡◌, ◌++◌, ◌&&◌, ◌||◌, not, Bool, false, List, [], ◌∷◌, length, Ok, Err, if◌then◌else◌}
use Rattle.msc_tokens.specs.declared.token.Token.{Token}
use Rattle.token_grammar.specs.Languages.{Set, Read, refused, among, starts, ◌>>=◌, word_at}
use Rattle.token_grammar.specs.Languages as rules
use Rattle.token_grammar.specs.Grammars.{Grammar}

-- the items of a state, and then the word; each item says which state is next
abbrev pub rows_read : {Q A : Type 0} → Set → (Q → A → Q) → (Q → Grammar A) → Q → List Token → List A → Token → Type 0
rows_read w next R q x [] c = rules.word w x c
rows_read w next R q x (a ∷ xs) c = (y : List Token) × (z : List Token) × (x ≡ y ++ z) × (R q).reads y a × rows_read w next R (next q a) z xs c

-- some items, and then an opening
abbrev pub rows_brink : {Q A : Type 0} → (Q → A → Q) → (Q → Grammar A) → Q → List A → List Token → Type 0
rows_brink next R q [] p = (R q).brink p
rows_brink next R q (a ∷ xs) p = (y : List Token) × (z : List Token) × (p ≡ y ++ z) × (R q).reads y a × rows_brink next R (next q a) xs z

abbrev pub rows : {Q A : Type 0} → Set → (Q → A → Q) → (Q → Grammar A) → Q → Grammar (List A × Token)
rows {A = A} w next R q = record {
  reads = λ x v. rows_read w next R q x v.0 v.1;
  brink = λ p. (xs : List A) × rows_brink next R q xs p;
}

-- the tokens go on with an item: its first one is of F, and where that is the word w, the next one is of t
abbrev pub goes_on : Set → Set → Set → List Token → Bool
goes_on F w t [] = false
goes_on F w t (c ∷ ts) = among F c && (not (among w c) || starts t ts)

abbrev pub rows_at : {Q A : Type 0} → Set → (Q → A → Q) → (Q → Set) → (Q → Set) → (Q → List Token → Read A) → ℕ → Q → List Token → Read (List A × Token)
rows_at w next F T p zero q ts = Err (refused (length ts))
rows_at w next F T p (suc k) q ts =
    if goes_on (F q) w (T q) ts then (p q ts >>= λ a. rows_at w next F T p k (next q a.0) a.1 >>= λ r. Ok ((a.0 ∷ r.0.0, r.0.1), r.1))
    else (word_at w ts >>= λ c. Ok (([], c.0), c.1))
