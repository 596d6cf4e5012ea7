-- What is known of a language and its reader, level by level.
use Rattle.std.proofs.Common.{ℕ, ◌≡◌, ◌∙◌, ◌++◌, ◌⊎◌, Bool, true, false, cond, List, [], ◌∷◌, length, refl, sym, ap, inl, subst, suc, Ok, Err}
use Rattle.msc_tokens.specs.declared.token.Token.{Token}
use Rattle.token_grammar.specs.Classes.{token_of}
use Rattle.token_grammar.specs.Languages.{Set, among, starts, Layered, Word, refused, deep, Read, word_at}
use Rattle.token_grammar.proofs.Lists.{NotStart, no_start, heads}

-- what goes on with `more` meets the refused token, or ends
abbrev pub Meets : List Token → List Token → Type 0
Meets rest [] = Unit {0}
Meets [] (t ∷ more) = ⊥
Meets (r ∷ rest) (t ∷ more) = r ≡ t

pub meets_front : (rest k z : List Token) → Meets rest (k ++ z) → Meets rest k
meets_front rest [] z h = tt
meets_front [] (c ∷ k) z h = h
meets_front (r ∷ rest) (c ∷ k) z h = h

pub meets_start : (C : Set) (used rest more : List Token) → NotStart C (used ++ rest) → Meets rest more → NotStart C (used ++ more)
meets_start C [] rest [] h m = no_start C
meets_start C [] [] (t ∷ more) h m = absurd m
meets_start C [] (r ∷ rest) (t ∷ more) h m = record { not_start = subst (λ (d : Token). among C d ≡ false) m h.not_start }
meets_start C (c ∷ used) rest more h m = record { not_start = h.not_start }

pub prefix_start : (C : Set) (used rest : List Token) → NotStart C (used ++ rest) → NotStart C used
prefix_start C [] rest h = no_start C
prefix_start C (c ∷ used) rest h = record { not_start = h.not_start }

abbrev pub Brinks : Type 1
Brinks = ℕ → List Token → Type 0

module _ {A : Type 0} (R : Layered A) where
  -- the tokens begin something that reads so
  pub record Viable (n : ℕ) (used : List Token) : Type 0 where
    pub more : List Token
    pub value : A
    pub holds : R n (used ++ more) value

  pub record Takes (n : ℕ) (C : A → Set) (ts : List Token) (a : A) (rest : List Token) : Type 0 where
    pub used : List Token
    pub cut : ts ≡ used ++ rest
    pub holds : R n used a
    pub ends : NotStart (C a) rest

  abbrev pub Unique : ℕ → (A → Set) → Type 0
  Unique n C = (m : ℕ) (x y u v : List Token) (a b : A) → R n x a → R m y b → x ++ u ≡ y ++ v → NotStart (C a) u → NotStart (C b) v → (x ≡ y) × (a ≡ b)

  abbrev pub Begins : Set → Type 0
  Begins F = (m : ℕ) (x : List Token) (a : A) → R m x a → starts F x ≡ true

  -- what the first induction over the levels gives
  pub record Laws (F : Set) (C : A → Set) (n : ℕ) : Type 0 where
    pub up : (x : List Token) (a : A) → R n x a → R (suc n) x a
    pub unique : Unique n C
    pub begins : Begins F

module _ {A : Type 0} (R : Layered A) (K : Brinks) where
  -- what the second one gives beside the reader: the laws at every level, and at this one what opens a level too many
  pub record Known (F : Set) (C : A → Set) (n : ℕ) : Type 0 where
    pub laws : (m : ℕ) → Laws R F C m
    pub word : Viable R (suc n) []
    pub opened : (p : List Token) → K n p → Viable R (suc n) p
    pub some : (p : List Token) → K n p → p ≡ [] → ⊥
    pub proper : (x : List Token) (a : A) → R n x a → (p q : List Token) → x ≡ p ++ q → K n p → ⊥

  -- no prefix of the tokens opens a level too many
  abbrev pub Safe : ℕ → List Token → Type 0
  Safe n used = (p q : List Token) → used ≡ p ++ q → K n p → ⊥

  pub record Refused (n : ℕ) (F : Set) (ts : List Token) (k : ℕ) : Type 0 where
    pub used : List Token
    pub rest : List Token
    pub cut : ts ≡ used ++ rest
    pub left : k ≡ length rest
    pub viable : (used ≡ []) ⊎ Viable R (suc n) used
    pub stops : (m : ℕ) (more : List Token) (b : A) → Meets rest more → R m (used ++ more) b → ⊥
    pub first : used ≡ [] → starts F rest ≡ false
    pub safe : Safe n used

  pub record TooDeep (n : ℕ) (ts : List Token) (k : ℕ) : Type 0 where
    pub used : List Token
    pub token : Token
    pub rest : List Token
    pub cut : ts ≡ used ++ token ∷ rest
    pub left : k ≡ length (token ∷ rest)
    pub brink : K n (used ++ token ∷ [])
    pub safe : Safe n used

  abbrev pub Meant : ℕ → Set → (A → Set) → List Token → Read A → Type 0
  Meant n F C ts (Ok x) = Takes R n C ts x.0 x.1
  Meant n F C ts (Err (refused k)) = Refused n F ts k
  Meant n F C ts (Err (deep k)) = TooDeep n ts k

-- what the tokens of an opening start with
pub opening_starts : {A : Type 0} (R : Layered A) (K : Brinks) (F : Set) (C : A → Set) (n : ℕ) → Known R K F C n → (p : List Token) → K n p → (q : List Token) → starts F (p ++ q) ≡ true
opening_starts R K F C n r [] h q = absurd (r.some [] h refl)
opening_starts R K F C n r (c ∷ p) h q = let v = r.opened (c ∷ p) h in (r.laws 0).begins (suc n) (c ∷ p ++ v.more) v.value v.holds

-- ---- one word

module _ (s : Set) where
  abbrev pub no_brink : Brinks
  no_brink n p = ⊥

  word_unique : (n : ℕ) → Unique (Word s) n (λ t. [])
  word_unique n m x y u v a b h k e nu nv =
      let w : a ∷ u ≡ b ∷ v = sym (ap (λ l. l ++ u) h.0) ∙ e ∙ ap (λ l. l ++ v) k.0 in
      let hd = heads a b u v w in
      (h.0 ∙ ap (λ t. t ∷ []) hd.0 ∙ sym k.0, hd.0)

  pub word_laws : (n : ℕ) → Laws (Word s) s (λ t. []) n
  word_laws n = record { up = λ x a h. h; unique = word_unique n; begins = λ m x a h. rw h.0 h.1 }

  pub word_known : (c : List ℕ) → among s (token_of c) ≡ true → (n : ℕ) → Known (Word s) no_brink s (λ t. []) n
  word_known c e n = record {
    laws = word_laws;
    word = record { more = (token_of c) ∷ []; value = token_of c; holds = (refl, e) };
    opened = λ p h. absurd h;
    some = λ p h q. h;
    proper = λ x a h p q r k. k;
  }

  no_word : (n : ℕ) (t : Token) (ts : List Token) → among s t ≡ false → Refused (Word s) no_brink n s (t ∷ ts) (length (t ∷ ts))
  no_word n t ts e = record { used = []; rest = t ∷ ts; cut = refl; left = refl; viable = inl refl; stops = no; first = λ z. e; safe = λ p q z k. k }
    where
      no : (m : ℕ) (more : List Token) (b : Token) → Meets (t ∷ ts) more → Word s m more b → ⊥
      no m [] b meets h = cc
      no m (c ∷ more) b meets h =
          let hd = heads c b more [] h.0 in
          let same : t ≡ b = meets ∙ hd.0 in
          let f : among s b ≡ false = subst (λ (d : Token). among s d ≡ false) same e in
          let g : true ≡ false = sym h.1 ∙ f in
          cc

  pub word_meant : (n : ℕ) (ts : List Token) → Meant (Word s) no_brink n s (λ t. []) ts (word_at s ts)
  word_meant n [] = record { used = []; rest = []; cut = refl; left = refl; viable = inl refl; stops = no; first = λ z. refl; safe = λ p q z k. k }
    where
      no : (m : ℕ) (more : List Token) (b : Token) → Meets [] more → Word s m more b → ⊥
      no m [] b meets h = cc
      no m (c ∷ more) b meets h = meets
  word_meant n (t ∷ ts) = step (among s t) refl
    where
      no_among : (us : List Token) → starts [] us ≡ false
      no_among [] = refl
      no_among (u ∷ us) = refl

      step : (b : Bool) → among s t ≡ b → Meant (Word s) no_brink n s (λ t. []) (t ∷ ts) (cond b (Ok (t, ts)) (Err (refused (length (t ∷ ts)))))
      step true e = record { used = t ∷ []; cut = refl; holds = (refl, e); ends = record { not_start = no_among ts } }
      step false e = no_word n t ts e
