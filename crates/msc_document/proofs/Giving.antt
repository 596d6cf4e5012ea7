-- What each value has that a grammar reads.
use Rattle.std.specs.Prelude.{⊤}
use Rattle.std.proofs.Common.{ℕ, inl, inr, List, [], ◌∷◌, subst, sym}
use Rattle.msc_tokens.specs.declared.token.Token.{Token}
use Rattle.token_grammar.specs.Languages.{Set, just}
use Rattle.token_grammar.specs.Languages as rules
use Rattle.token_grammar.specs.Grammars.{Grammar, Inner, shut, inner, inside, word, seq, or, read_as, until, behind, opens}
use Rattle.token_grammar.specs.Parts.{all_of, placed, separated}
use Rattle.msc_expression.specs.Bounds.{with_bounds}
use Rattle.msc_document.specs.Inlines.{each, firsts, single, several, closing}
use Rattle.msc_document.specs.DocumentGrammar.{some}

-- each value that it reads has P
pub record Gives {A : Type 0} (R : Grammar A) (P : A → Type 0) : Type 0 where
  pub gives : (x : List Token) (a : A) → R.reads x a → P a

-- each of them has P
abbrev pub Each : {A : Type 0} → (A → Type 0) → List A → Type 0
Each P [] = ⊤
Each P (a ∷ as_) = P a × Each P as_

pub anything : {A : Type 0} (R : Grammar A) → Gives R (λ a. ⊤)
anything R = record { gives = λ x a h. tt }

pub weaker : {A : Type 0} {R : Grammar A} {P Q : A → Type 0} → Gives R P → ((a : A) → P a → Q a) → Gives R Q
weaker r f = record { gives = λ x a h. f a (r.gives x a h) }

pub read_gives : {A B : Type 0} {R : Grammar A} {Q : B → Type 0} (f : A → B) → Gives R (λ a. Q (f a)) → Gives (read_as f R) Q
read_gives {Q = Q} f r = record { gives = λ x b h. subst Q (sym h.2) (r.gives x h.0 h.1) }

pub or_gives : {A : Type 0} {R S : Grammar A} {P : A → Type 0} → Gives R P → Gives S P → Gives (or R S) P
or_gives {A = A} {R = R} {S = S} {P = P} r s = record { gives = one }
  where
    one : (x : List Token) (a : A) → (or R S).reads x a → P a
    one x a (inl h) = r.gives x a h
    one x a (inr h) = s.gives x a h

pub seq_gives : {A B : Type 0} {R : Grammar A} {S : Grammar B} {P : A → Type 0} {Q : B → Type 0} → Gives R P → Gives S Q → Gives (seq R S) (λ p. P p.0 × Q p.1)
seq_gives r s = record { gives = λ x p h. (r.gives h.0 p.0 h.3, s.gives h.1 p.1 h.4) }

pub behind_gives : {A : Type 0} {R : Grammar A} {P : A → Type 0} (s : Set) → Gives R P → Gives (behind s R) P
behind_gives {P = P} s r = record { gives = λ x b h. subst P (sym h.2) (r.gives h.1.1 h.0.1 h.1.4) }

pub placed_gives : {A : Type 0} {R : Grammar A} {P : A → Type 0} (s : Set) → Gives R P → Gives (placed s R) (λ p. P p.1)
placed_gives {P = P} s r = read_gives (λ p. (p.0.place, p.1)) (weaker (seq_gives (anything (word s)) r) (λ p h. h.1))

each_reads : {A : Type 0} {R : Grammar A} {P : A → Type 0} → Gives R P → (x : List Token) (as_ : List A) → rules.each R.reads x as_ → Each P as_
each_reads r x [] h = tt
each_reads r x (a ∷ as_) h = (r.gives h.0 a h.3, each_reads r h.1 as_ h.4)

pub each_gives : {A : Type 0} {R : Grammar A} {P : A → Type 0} → Gives R P → Gives (each R) (Each P)
each_gives r = record { gives = each_reads r }

pub until_gives : {A B : Type 0} {R : Grammar A} {P : A → Type 0} (S : Grammar B) → Gives R P → Gives (until R S) (λ p. Each P p.0)
until_gives S r = record { gives = λ x p h. each_reads r h.0 p.0 h.3 }

pub some_gives : {A : Type 0} {R : Grammar A} {P : A → Type 0} → Gives R P → Gives (some R) (Each P)
some_gives {P = P} r = read_gives all_of (record { gives = λ x p h. (r.gives h.0 p.0 h.3, each_reads r h.1 p.1 h.4) })

-- behind the bounds of a loop, where there are any
pub bounded_gives : {A : Type 0} {R : Grammar A} {P : A → Type 0} → Gives R P → Gives (with_bounds R) (λ p. P p.1)
bounded_gives r = read_gives (λ p. (_, p.1)) (or_gives (read_gives (λ p. (_, p.1)) (weaker (seq_gives (anything _) r) (λ p h. h.1))) (read_gives (λ b. (_, b)) r))

-- ---- levels

-- what stands one level deeper, where there is one
abbrev pub Within : {A : Type 0} → Inner A → (A → Type 0) → Type 0
Within shut P = ⊤
Within (inner R) P = Gives R P

pub opens_gives : {A B : Type 0} {P : A → Type 0} {Q : B → Type 0} (s : Set) (f : Grammar A → Grammar B) → ((R : Grammar A) → Gives R P → Gives (f R) Q)
    → (I : Inner A) → Within I P → Gives (opens s (inside f I)) Q
opens_gives s f g shut w = record { gives = λ x a h. absurd h }
opens_gives s f g (inner R) w = record { gives = λ x a h. (g R w).gives h.1 a h.4 }

-- ---- operands and parts

abbrev pub IsSome : {A : Type 0} → List A → Type 0
IsSome [] = ⊥
IsSome (a ∷ as_) = ⊤

pub separated_gives : {A : Type 0} {R : Grammar A} {P : A → Type 0} (text : List ℕ) → Gives R P → Gives (separated text R) (λ as_. Each P as_ × IsSome as_)
separated_gives text r = read_gives all_of (record { gives = λ x p h. ((r.gives h.0 p.0 h.3, each_reads (behind_gives (just text) r) h.1 p.1 h.4), tt) })

abbrev pub IsOne : {A : Type 0} → List A → Type 0
IsOne [] = ⊥
IsOne (a ∷ []) = ⊤
IsOne (a ∷ b ∷ as_) = ⊥

pub several_gives : {A : Type 0} {R : Grammar A} {P : A → Type 0} (w : Set) → Gives R P → Gives (several w R) (λ as_. Each P as_ × IsSome as_)
several_gives {P = P} w r =
    read_gives firsts (weaker (seq_gives r (until_gives (behind w closing) (behind_gives w (read_gives {Q = P} (λ p. p.1) (weaker (seq_gives (anything _) r) (λ p h. h.1)))))) (λ p h. ((h.0, h.1), tt)))

pub single_gives : {A : Type 0} {R : Grammar A} {P : A → Type 0} (w : Set) → Gives R P → Gives (single w R) (λ as_. Each P as_ × IsOne as_)
single_gives w r = read_gives (λ p. p.0 ∷ []) (weaker (seq_gives r (anything (behind w closing))) (λ p h. ((h.0, tt), tt)))
