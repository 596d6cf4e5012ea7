-- Heads of a chart, read one after another.
use Rattle.std.proofs.Common.{ℕ, ◌≡◌, ◌∙◌, ◌++◌, true, false, List, [], ◌∷◌, refl, ap, subst, append_assoc, suc, zero, Ok, Err}
use Rattle.msc_tokens.specs.declared.token.Token.{Token}
use Rattle.token_grammar.specs.Languages.{Read, Stop, refused, deep, just, starts, word_at, map_at, seq_at, each_at}
use Rattle.token_grammar.specs.Answers.{Fails}
use Rattle.token_grammar.specs.Parts.{all_of}
use Rattle.token_grammar.specs.PartReaders.{ending_at}
use Rattle.token_grammar.specs.declared.readers.ReadFault.{ReadFault}
use Rattle.token_grammar.specs.declared.readers.ReadFault.TheVariants as fault
use Rattle.token_grammar.proofs.Optionals.{mapped, paired}
use Rattle.msc_events.specs.Declarations.{Head, with_head, with_heads}
use Rattle.msc_events.specs.DeclarationReaders.{line_at, head_at, head_words, next_head_at, more_heads_at}
use Rattle.msc_events.specs.declared.head_parts.Heads.{Heads}

-- a list behind others, its first one by one
pub onto : {A : Type 0} (prefix : List A) (a : A) (e : Read (List A)) → mapped (λ l. (prefix ++ a ∷ []) ++ l) e ≡ mapped (λ l. prefix ++ l) (mapped (λ (p : A × List A). all_of p) (mapped (λ l. (a, l)) e))
onto prefix a (Ok y) = ap (λ (l : List _). Ok (l, y.1)) (append_assoc prefix (a ∷ []) y.0)
onto prefix a (Err e) = refl

-- ---- a line, read onto others

module _ {A : Type 0} (text : List ℕ) (q : List Token → Read A) (f : A → A) where
  abbrev line_of : Read (Token × (A × Unit {0})) → Read A
  line_of x = mapped (λ (p : A × Unit {0}). p.0) (mapped (λ (p : Token × (A × Unit {0})). p.1) x)

  abbrev behind_word : Token → Read (A × Unit {0}) → Read A
  behind_word t x = line_of (mapped (λ (l : A × Unit {0}). (t, l)) x)

  third : (t : Token) (a : A) (x : Read (Unit {0})) → behind_word t (mapped (λ u. (f a, u)) x) ≡ mapped f (behind_word t (mapped (λ u. (a, u)) x))
  third t a (Ok y) = refl
  third t a (Err e) = refl

  second : (t : Token) (x : Read A) → behind_word t (paired (mapped f x) ending_at) ≡ mapped f (behind_word t (paired x ending_at))
  second t (Ok y) = third t y.0 (ending_at y.1)
  second t (Err e) = refl

  first : (x : Read Token) → line_of (paired x (seq_at (map_at f q) ending_at)) ≡ mapped f (line_of (paired x (seq_at q ending_at)))
  first (Ok z) = second z.0 (q z.1)
  first (Err e) = refl

  pub line_mapped : (ts : List Token) → line_at text (map_at f q) ts ≡ mapped f (line_at text q ts)
  line_mapped ts = first (word_at (just text) ts)

-- ---- a head, from its line

module _ {A : Type 0} (make : A → Head) (f : A → A) (prefix : Heads) where
  abbrev head_read : Read A → Read Heads
  head_read x = mapped (λ h. with_head prefix h) (mapped make x)

  pub head_ends : (whole : A → Heads) → ((a : A) → with_head prefix (make a) ≡ whole (f a)) → (all : A) (rest : List Token) (x : Read A) → mapped f x ≡ Ok (all, rest) → head_read x ≡ Ok (whole all, rest)
  head_ends whole same all rest (Ok y) h =
      let line : (f y.0, y.1) ≡ (all, rest) = cc in
      ap (λ (w : Heads). Ok (w, y.1)) (same y.0) ∙ ap (λ (p : A × List Token). Ok (whole p.0, p.1)) line
  head_ends whole same all rest (Err e) h = cc

  pub head_stops : (g : ReadFault) (x : Read A) → Fails g (mapped f x) → Fails g (head_read x)
  head_stops fault.NoMemory x h = tt
  head_stops (fault.Refused left) (Ok y) h = cc
  head_stops (fault.Refused left) (Err e) h = (let same : e ≡ refused left = cc in ap (λ (s : Stop). Err s) same)
  head_stops (fault.TooDeep left) (Ok y) h = cc
  head_stops (fault.TooDeep left) (Err e) h = (let same : e ≡ deep left = cc in ap (λ (s : Stop). Err s) same)

-- ---- the heads

pub no_more : (prefix : Heads) (m : ℕ) (ts : List Token) → m ≡ 0 → more_heads_at prefix m ts ≡ Ok (prefix, ts)
no_more prefix zero ts e = refl
no_more prefix (suc m) ts e = cc

pub ends_here : (prefix : Heads) (m : ℕ) (ts : List Token) → starts head_words ts ≡ false → more_heads_at prefix m ts ≡ Ok (prefix, ts)
ends_here prefix zero ts e = refl
ends_here prefix (suc m) ts e = rw e refl

one_more : (prefix : Heads) (h : Head) (e : Read (List Head)) → mapped (λ l. with_heads prefix l) (mapped (λ l. h ∷ l) e) ≡ mapped (λ l. with_heads (with_head prefix h) l) e
one_more prefix h (Ok y) = refl
one_more prefix h (Err e) = refl

pub next_one : (prefix more : Heads) (m k : ℕ) (ts behind : List Token) → starts head_words ts ≡ true → m ≡ suc k → next_head_at prefix ts ≡ Ok (more, behind)
    → more_heads_at prefix m ts ≡ more_heads_at more k behind
next_one prefix more zero k ts behind is e h = cc
next_one prefix more (suc m) k ts behind is e h = go (head_at ts) refl h
  where
    go : (x : Read Head) → head_at ts ≡ x → mapped (λ l. with_head prefix l) x ≡ Ok (more, behind) → more_heads_at prefix (suc m) ts ≡ more_heads_at more k behind
    go (Ok y) q r =
        let same : m ≡ k = cc in
        let line : (with_head prefix y.0, y.1) ≡ (more, behind) = cc in
        subst (λ (j : ℕ). more_heads_at prefix (suc m) ts ≡ more_heads_at more j behind) same
        (subst (λ (p : Heads × List Token). more_heads_at prefix (suc m) ts ≡ more_heads_at p.0 m p.1) line (rw (is, q) (one_more prefix y.0 (each_at head_words head_at m y.1))))
    go (Err s) q r = cc

pub stops_here : (g : ReadFault) (prefix : Heads) (m k : ℕ) (ts : List Token) → starts head_words ts ≡ true → m ≡ suc k → Fails g (next_head_at prefix ts) → Fails g (more_heads_at prefix m ts)
stops_here g prefix zero k ts is e h = cc
stops_here g prefix (suc m) k ts is e h = go g (head_at ts) refl h
  where
    go : (g : ReadFault) (x : Read Head) → head_at ts ≡ x → Fails g (mapped (λ l. with_head prefix l) x) → Fails g (more_heads_at prefix (suc m) ts)
    go fault.NoMemory x q r = tt
    go (fault.Refused left) (Ok y) q r = cc
    go (fault.Refused left) (Err s) q r = (let same : s ≡ refused left = cc in rw (is, q, same) refl)
    go (fault.TooDeep left) (Ok y) q r = cc
    go (fault.TooDeep left) (Err s) q r = (let same : s ≡ deep left = cc in rw (is, q, same) refl)
