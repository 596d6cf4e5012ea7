-- A choice by the first token.
use Rattle.std.proofs.Common.{ℕ, ◌≡◌, ◌∙◌, ◌++◌, ◌⊎◌, Bool, true, false, cond, List, [], ◌∷◌, refl, sym, ap, inl, inr, append_assoc, subst, suc, Ok, Err}
use Rattle.msc_tokens.specs.declared.token.Token.{Token}
use Rattle.token_grammar.specs.Languages.{Set, among, apart, starts, Layered, Either, refused, deep, Read, either_at}
use Rattle.token_grammar.proofs.Lists.{among-append, starts_left, starts_right, starts-append, starts_some, not_both, two_starts}
use Rattle.token_grammar.proofs.Base.{Brinks, Meets, Viable, Unique, Begins, Laws, Known, Meant, opening_starts}

abbrev pub or_brink : Brinks → Brinks → Brinks
or_brink K L n p = K n p ⊎ L n p

module _ {A : Type 0} (R S : Layered A) (F G : Set) (C : A → Set) (n : ℕ) (r : Laws R F C n) (s : Laws S G C n) (free : apart F G ≡ true) where
  crossed : (i j : ℕ) (x y u v : List Token) (a b : A) → R i x a → S j y b → x ++ u ≡ y ++ v → ⊥
  crossed i j x y u v a b h k e =
      two_starts F G (x ++ u) free (starts-append F x u (r.begins i x a h)) (subst (λ l. starts G l ≡ true) (sym e) (starts-append G y v (s.begins j y b k)))

  either_unique : Unique (Either R S) n C
  either_unique m x y u v a b (inl h) (inl k) e nu nv = r.unique m x y u v a b h k e nu nv
  either_unique m x y u v a b (inl h) (inr k) e nu nv = absurd (crossed n m x y u v a b h k e)
  either_unique m x y u v a b (inr h) (inl k) e nu nv = absurd (crossed m n y x v u b a k h (sym e))
  either_unique m x y u v a b (inr h) (inr k) e nu nv = s.unique m x y u v a b h k e nu nv

  either_up : (x : List Token) (a : A) → Either R S n x a → Either R S (suc n) x a
  either_up x a (inl h) = inl (r.up x a h)
  either_up x a (inr h) = inr (s.up x a h)

  either_begins : Begins (Either R S) (F ++ G)
  either_begins m x a (inl h) = starts_left F G x (r.begins m x a h)
  either_begins m x a (inr h) = starts_right F G x (s.begins m x a h)

  pub either_laws : Laws (Either R S) (F ++ G) C n
  either_laws = record { up = either_up; unique = either_unique; begins = either_begins }

module _ {A : Type 0} (R : Layered A) (K : Brinks) (S : Layered A) (L : Brinks) (F G : Set) (C : A → Set) (n : ℕ) (r : Known R K F C n) (s : Known S L G C n) (free : apart F G ≡ true) where
  go_left : (m : ℕ) (used : List Token) → Viable R m used → Viable (Either R S) m used
  go_left m used v = record { more = v.more; value = v.value; holds = inl v.holds }

  go_right : (m : ℕ) (used : List Token) → Viable S m used → Viable (Either R S) m used
  go_right m used v = record { more = v.more; value = v.value; holds = inr v.holds }

  either_opened : (p : List Token) → or_brink K L n p → Viable (Either R S) (suc n) p
  either_opened p (inl h) = go_left (suc n) p (r.opened p h)
  either_opened p (inr h) = go_right (suc n) p (s.opened p h)

  either_some : (p : List Token) → or_brink K L n p → p ≡ [] → ⊥
  either_some p (inl h) = r.some p h
  either_some p (inr h) = s.some p h

  either_proper : (x : List Token) (a : A) → Either R S n x a → (p q : List Token) → x ≡ p ++ q → or_brink K L n p → ⊥
  either_proper x a (inl h) p q e (inl k) = r.proper x a h p q e k
  either_proper x a (inl h) p q e (inr k) = two_starts F G x free ((r.laws 0).begins n x a h) (subst (λ l. starts G l ≡ true) (sym e) (opening_starts S L G C n s p k q))
  either_proper x a (inr h) p q e (inl k) = two_starts F G x free (subst (λ l. starts F l ≡ true) (sym e) (opening_starts R K F C n r p k q)) ((s.laws 0).begins n x a h)
  either_proper x a (inr h) p q e (inr k) = s.proper x a h p q e k

  pub either_known : Known (Either R S) (or_brink K L) (F ++ G) C n
  either_known = record {
    laws = λ m. either_laws R S F G C m (r.laws m) (s.laws m) free;
    word = go_left (suc n) [] r.word;
    opened = either_opened;
    some = either_some;
    proper = either_proper;
  }

  starts_meet : (ts used rest more : List Token) → ts ≡ used ++ rest → starts F ts ≡ true → Meets rest more → (starts F (used ++ more) ≡ true) ⊎ (used ++ more ≡ [])
  starts_meet ts (c ∷ used) rest more e f meets = inl (rw e at f)
  starts_meet ts [] rest [] e f meets = inr refl
  starts_meet ts [] [] (t ∷ more) e f meets = absurd meets
  starts_meet ts [] (c ∷ rest) (t ∷ more) e f meets = inl (subst (λ (d : Token). among F d ≡ true) meets (rw e at f))

  starts_not : (ts used rest more : List Token) → ts ≡ used ++ rest → starts F ts ≡ false → Meets rest more → starts F (used ++ more) ≡ false
  starts_not ts (c ∷ used) rest more e f meets = rw e at f
  starts_not ts [] rest [] e f meets = refl
  starts_not ts [] [] (t ∷ more) e f meets = absurd meets
  starts_not ts [] (c ∷ rest) (t ∷ more) e f meets = subst (λ (d : Token). among F d ≡ false) meets (rw e at f)

  left_safe : (ts used rest : List Token) → ts ≡ used ++ rest → starts F ts ≡ true → ((p q : List Token) → used ≡ p ++ q → K n p → ⊥) → (p q : List Token) → used ≡ p ++ q → or_brink K L n p → ⊥
  left_safe ts used rest cut f safe p q e (inl k) = safe p q e k
  left_safe ts used rest cut f safe p q e (inr k) =
      two_starts F G ts free f (subst (λ l. starts G l ≡ true) (sym (cut ∙ ap (λ l. l ++ rest) e ∙ append_assoc p q rest)) (opening_starts S L G C n s p k (q ++ rest)))

  right_safe : (ts used rest : List Token) → ts ≡ used ++ rest → starts F ts ≡ false → ((p q : List Token) → used ≡ p ++ q → L n p → ⊥) → (p q : List Token) → used ≡ p ++ q → or_brink K L n p → ⊥
  right_safe ts used rest cut f safe p q e (inr k) = safe p q e k
  right_safe ts used rest cut f safe p q e (inl k) =
      not_both (sym (subst (λ l. starts F l ≡ true) (sym (cut ∙ ap (λ l. l ++ rest) e ∙ append_assoc p q rest)) (opening_starts R K F C n r p k (q ++ rest))) ∙ f)

  left_step : (ts : List Token) (x : Read A) → starts F ts ≡ true → Meant R K n F C ts x → Meant (Either R S) (or_brink K L) n (F ++ G) C ts x
  left_step ts (Ok x) f h = record { used = h.used; cut = h.cut; holds = inl h.holds; ends = h.ends }
  left_step ts (Err (refused k)) f h = record {
    used = h.used;
    rest = h.rest;
    cut = h.cut;
    left = h.left;
    viable = kept h.viable;
    stops = no;
    first = λ e. absurd (never e);
    safe = left_safe ts h.used h.rest h.cut f h.safe;
  }
    where
      kept : (h.used ≡ []) ⊎ Viable R (suc n) h.used → (h.used ≡ []) ⊎ Viable (Either R S) (suc n) h.used
      kept (inl e) = inl e
      kept (inr v) = inr (go_left (suc n) h.used v)

      never : h.used ≡ [] → ⊥
      never e = not_both (sym (subst (λ l. starts F l ≡ true) (h.cut ∙ ap (λ l. l ++ h.rest) e) f) ∙ h.first e)

      no : (m : ℕ) (more : List Token) (b : A) → Meets h.rest more → Either R S m (h.used ++ more) b → ⊥
      no m more b meets (inl g) = h.stops m more b meets g
      no m more b meets (inr g) = elim (starts_meet ts h.used h.rest more h.cut f meets) [
        | inl started ↦ two_starts F G (h.used ++ more) free started ((s.laws 0).begins m (h.used ++ more) b g)
        | inr none ↦ starts_some G (h.used ++ more) ((s.laws 0).begins m (h.used ++ more) b g) none
      ]
  left_step ts (Err (deep k)) f h = record {
    used = h.used;
    token = h.token;
    rest = h.rest;
    cut = h.cut;
    left = h.left;
    brink = inl h.brink;
    safe = left_safe ts h.used (h.token ∷ h.rest) h.cut f h.safe;
  }

  right_step : (ts : List Token) (x : Read A) → starts F ts ≡ false → Meant S L n G C ts x → Meant (Either R S) (or_brink K L) n (F ++ G) C ts x
  right_step ts (Ok x) f h = record { used = h.used; cut = h.cut; holds = inr h.holds; ends = h.ends }
  right_step ts (Err (refused k)) f h = record {
    used = h.used;
    rest = h.rest;
    cut = h.cut;
    left = h.left;
    viable = kept h.viable;
    stops = no;
    first = λ e. neither h.rest (subst (λ l. starts F l ≡ false) (h.cut ∙ ap (λ l. l ++ h.rest) e) f) (h.first e);
    safe = right_safe ts h.used h.rest h.cut f h.safe;
  }
    where
      kept : (h.used ≡ []) ⊎ Viable S (suc n) h.used → (h.used ≡ []) ⊎ Viable (Either R S) (suc n) h.used
      kept (inl e) = inl e
      kept (inr v) = inr (go_right (suc n) h.used v)

      neither : (w : List Token) → starts F w ≡ false → starts G w ≡ false → starts (F ++ G) w ≡ false
      neither [] f g = refl
      neither (t ∷ w) f g = rw (among-append F G t, f) g

      no : (m : ℕ) (more : List Token) (b : A) → Meets h.rest more → Either R S m (h.used ++ more) b → ⊥
      no m more b meets (inl g) = not_both (sym ((r.laws 0).begins m (h.used ++ more) b g) ∙ starts_not ts h.used h.rest more h.cut f meets)
      no m more b meets (inr g) = h.stops m more b meets g
  right_step ts (Err (deep k)) f h = record {
    used = h.used;
    token = h.token;
    rest = h.rest;
    cut = h.cut;
    left = h.left;
    brink = inr h.brink;
    safe = right_safe ts h.used (h.token ∷ h.rest) h.cut f h.safe;
  }

  pub either_meant : (p q : List Token → Read A) → ((ts : List Token) → Meant R K n F C ts (p ts)) → ((ts : List Token) → Meant S L n G C ts (q ts))
      → (ts : List Token) → Meant (Either R S) (or_brink K L) n (F ++ G) C ts (either_at F p q ts)
  either_meant p q rp sq ts = pick (starts F ts) refl
    where
      pick : (b : Bool) → starts F ts ≡ b → Meant (Either R S) (or_brink K L) n (F ++ G) C ts (cond b (p ts) (q ts))
      pick true e = left_step ts (p ts) e (rp ts)
      pick false e = right_step ts (q ts) e (sq ts)
