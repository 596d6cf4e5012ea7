-- Tokens with texts that are written for a value read as it.
use Rattle.std.proofs.Common.{ℕ, ◌≡◌, ◌++◌, true, List, [], ◌∷◌, refl, sym}
use Rattle.msc_tokens.specs.declared.token.Token.{Token}
use Rattle.token_grammar.specs.Languages.{Set, among, any_fits, just, texts}
use Rattle.token_grammar.specs.Grammars.{Grammar, seq, behind, bytes_of, opens, inner}
use Rattle.msc_print.specs.Words.{Words}
use Rattle.msc_print.proofs.Backs.{cut, one_token, first_token}

abbrev pub Fits : Set → List ℕ → Type 0
Fits s text = any_fits s text ≡ true

abbrev pub Writes : {A : Type 0} → Grammar A → A → Words → Type 0
Writes R a words = (t : List Token) → texts t ≡ words → R.reads t a

pub writes_seq : {A B : Type 0} (R : Grammar A) (S : Grammar B) (a : A) (b : B) (u v : Words) → Writes R a u → Writes S b v → Writes (seq R S) (a, b) (u ++ v)
writes_seq R S a b u v h k t e = let c = cut t u v e in (c.0, c.1, c.2, h c.0 c.3, k c.1 c.4)

pub writes_bytes : (s : Set) (text : List ℕ) → Fits s text → Writes (bytes_of s) text (text ∷ [])
writes_bytes s text is t e =
    let c = one_token t text e in
    let fits : among s c.0 ≡ true = rw c.2 is in
    (c.0, (c.1, fits), sym c.2)

pub writes_behind : {A : Type 0} (R : Grammar A) (text : List ℕ) (a : A) (u : Words) → Fits (just text) text → Writes R a u → Writes (behind (just text) R) a (text ∷ u)
writes_behind R text a u is h t e =
    let c = first_token t text u e in
    let fits : among (just text) c.0 ≡ true = rw c.3 is in
    ((c.0, a), (c.0 ∷ [], c.1, c.2, (refl, fits), h c.1 c.4), refl)

pub writes_opens : {A : Type 0} (R : Grammar A) (text : List ℕ) (a : A) (u : Words) → Fits (just text) text → Writes R a u → Writes (opens (just text) (inner R)) a (text ∷ u)
writes_opens R text a u is h t e =
    let c = first_token t text u e in
    let fits : among (just text) c.0 ≡ true = rw c.3 is in
    (c.0, c.1, c.2, fits, h c.1 c.4)
