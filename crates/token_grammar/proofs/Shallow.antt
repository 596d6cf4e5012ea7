-- A grammar in which nothing opens a level.
use Rattle.std.proofs.Common.{List, inl, inr, Option, Some, None}
use Rattle.msc_tokens.specs.declared.token.Token.{Token}
use Rattle.token_grammar.specs.Languages.{Set}
use Rattle.token_grammar.specs.Grammars.{Grammar, word, seq, or, read_as, chain, until, maybe, tail, optional, behind, bytes_of}

pub record Shallow {A : Type 0} (R : Grammar A) : Type 0 where
  pub none : (p : List Token) → R.brink p → ⊥

pub bytes_shallow : (s : Set) → Shallow (bytes_of s)
bytes_shallow s = record { none = λ p h. h }

pub read_shallow : {A B : Type 0} {R : Grammar A} (f : A → B) → Shallow R → Shallow (read_as f R)
read_shallow f r = record { none = r.none }

module _ {A B : Type 0} {R : Grammar A} {S : Grammar B} where
  pub seq_shallow : Shallow R → Shallow S → Shallow (seq R S)
  seq_shallow r s = record { none = no }
    where
      no : (p : List Token) → (seq R S).brink p → ⊥
      no p (inl h) = r.none p h
      no p (inr h) = s.none h.1 h.5

  pub chain_shallow : Shallow R → Shallow S → Shallow (chain R S)
  chain_shallow r s = record { none = no }
    where
      no : (p : List Token) → (chain R S).brink p → ⊥
      no p (inl h) = r.none p h
      no p (inr h) = s.none h.5.1 h.5.5

  pub until_shallow : Shallow R → Shallow S → Shallow (until R S)
  until_shallow r s = record { none = no }
    where
      no : (p : List Token) → (until R S).brink p → ⊥
      no p (inl h) = r.none h.1 h.5
      no p (inr h) = s.none h.1 h.5

  pub tail_shallow : Shallow R → Shallow S → Shallow (tail R S)
  tail_shallow r s = record { none = (seq_shallow r s).none }

pub or_shallow : {A : Type 0} {R S : Grammar A} → Shallow R → Shallow S → Shallow (or R S)
or_shallow {R = R} {S = S} r s = record { none = no }
  where
    no : (p : List Token) → (or R S).brink p → ⊥
    no p (inl h) = r.none p h
    no p (inr h) = s.none p h

pub maybe_shallow : {A B : Type 0} {R : Grammar A} {S : Grammar B} → Shallow R → Shallow S → Shallow (maybe R S)
maybe_shallow r s = or_shallow (read_shallow (λ p. (Some p.0, p.1)) (seq_shallow r s)) (read_shallow (λ b. (None, b)) s)

pub optional_shallow : {A B V : Type 0} {R : Grammar A} {S : Grammar B} (v : Option A → V) → Shallow R → Shallow S → Shallow (optional v R S)
optional_shallow v r s = read_shallow (λ p. (v p.0, p.1)) (maybe_shallow r s)

word_shallow : (s : Set) → Shallow (word s)
word_shallow s = record { none = λ p h. h }

pub behind_shallow : {A : Type 0} {R : Grammar A} (s : Set) → Shallow R → Shallow (behind s R)
behind_shallow s r = read_shallow (λ p. p.1) (seq_shallow (word_shallow s) r)
