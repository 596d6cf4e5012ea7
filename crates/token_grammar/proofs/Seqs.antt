-- One language behind another.
use Rattle.std.proofs.Common.{ℕ, ◌≡◌, ◌∙◌, ◌++◌, ◌⊎◌, true, List, [], ◌∷◌, refl, sym, ap, ap₂, inl, inr, append_assoc, append-nil, subst, suc, Ok, Err}
use Rattle.msc_tokens.specs.declared.token.Token.{Token}
use Rattle.token_grammar.specs.Languages.{Set, apart, starts, Layered, Seq, refused, deep, Read, ◌>>=◌, seq_at}
use Rattle.token_grammar.proofs.Lists.{NotStart, apart_start, starts-append, no_start, Cuts, longer, shorter, cuts, cancel, none_more, starts_some, some_here}
use Rattle.token_grammar.proofs.Base.{Brinks, Meets, meets_front, meets_start, prefix_start, Viable, Unique, Takes, Laws, Known, Refused, TooDeep, Meant, opening_starts}

abbrev pub seq_brink : {A : Type 0} → Layered A → Brinks → Brinks → Brinks
seq_brink {A = A} R K L n p = K n p ⊎ ((y : List Token) × (z : List Token) × (a : A) × (p ≡ y ++ z) × R n y a × L n z)

module _ {A B : Type 0} (R : Layered A) (S : Layered B) (F : Set) (C : A → Set) (G : Set) (D : B → Set) (n : ℕ) (r : Laws R F C n) (s : Laws S G D n) (free : (a : A) → apart G (C a) ≡ true) where
  pub behind : (m : ℕ) (z : List Token) (b : B) → S m z b → (u : List Token) (a : A) → NotStart (C a) (z ++ u)
  behind m z b h u a = apart_start G (C a) (z ++ u) (free a) (starts-append G z u (s.begins m z b h))

  pub seq_unique : Unique (Seq R S) n (λ x. D x.1)
  seq_unique m x y u v a b h k e nu nv =
      let e1 : h.0 ++ (h.1 ++ u) ≡ k.0 ++ (k.1 ++ v) = sym (append_assoc h.0 h.1 u) ∙ sym (ap (λ l. l ++ u) h.2) ∙ e ∙ ap (λ l. l ++ v) k.2 ∙ append_assoc k.0 k.1 v in
      let first = r.unique m h.0 k.0 (h.1 ++ u) (k.1 ++ v) a.0 b.0 h.3 k.3 e1 (behind n h.1 a.1 h.4 u a.0) (behind m k.1 b.1 k.4 v b.0) in
      let e2 : h.1 ++ u ≡ k.1 ++ v = cancel k.0 (h.1 ++ u) (k.1 ++ v) (sym (ap (λ l. l ++ (h.1 ++ u)) first.0) ∙ e1) in
      let second = s.unique m h.1 k.1 u v a.1 b.1 h.4 k.4 e2 nu nv in
      (h.2 ∙ ap (λ l. l ++ h.1) first.0 ∙ ap (λ l. k.0 ++ l) second.0 ∙ sym k.2, ap₂ (λ x y. (x, y)) first.1 second.1)

  pub seq_laws : Laws (Seq R S) F (λ x. D x.1) n
  seq_laws = record {
    up = λ x a h. (h.0, h.1, h.2, r.up h.0 a.0 h.3, s.up h.1 a.1 h.4);
    unique = seq_unique;
    begins = λ m x a h. rw h.2 (starts-append F h.0 h.1 (r.begins m h.0 a.0 h.3));
  }

module _ {A B : Type 0} (R : Layered A) (K : Brinks) (S : Layered B) (L : Brinks) (F : Set) (C : A → Set) (G : Set) (D : B → Set) (n : ℕ)
    (r : Known R K F C n) (s : Known S L G D n) (free : (a : A) → apart G (C a) ≡ true) where
  abbrev SK : Brinks
  SK = seq_brink R K L

  -- a reading is not the prefix of another, where what comes next starts the second part
  pub clash : (i j : ℕ) (y : List Token) (b : A) → R j y b → (w : List Token) (a : A) → R i w a → (z : List Token) → w ≡ y ++ z → starts G z ≡ true → ⊥
  clash i j y b hy w a hw [] e g = starts_some G [] g refl
  clash i j y b hy w a hw (c ∷ k) e g =
      let same = (r.laws i).unique j w y [] (c ∷ k) a b hw hy (append-nil w ∙ e) (no_start (C a)) (apart_start G (C b) (c ∷ k) (free b) g) in
      none_more y c k (sym same.0 ∙ e)

  pub seq_opened : (p : List Token) → SK n p → Viable (Seq R S) (suc n) p
  seq_opened p (inl h) =
      let v = r.opened p h in
      record { more = v.more ++ s.word.more; value = (v.value, s.word.value); holds = (p ++ v.more, s.word.more, sym (append_assoc p v.more s.word.more), v.holds, s.word.holds) }
  seq_opened p (inr h) =
      let v = s.opened h.1 h.5 in
      record { more = v.more; value = (h.2, v.value); holds = (h.0, h.1 ++ v.more, ap (λ l. l ++ v.more) h.3 ∙ append_assoc h.0 h.1 v.more, (r.laws n).up h.0 h.2 h.4, v.holds) }

  -- an opening in the first part stands in a reading of the first part
  first_proper : (y z : List Token) (a : A) (b : B) → R n y a → S n z b → (p q : List Token) → Cuts y z p q → K n p → ⊥
  first_proper y z a b hy hz p q (longer k e f) h = r.proper y a hy p k e h
  first_proper y z a b hy hz p q (shorter c k e f) h =
      let v = r.opened p h in
      clash (suc n) n y a hy (p ++ v.more) v.value v.holds (c ∷ k ++ v.more) (ap (λ l. l ++ v.more) e ∙ append_assoc y (c ∷ k) v.more)
      (head_starts c k q z b f hz v.more)
    where
      head_starts : (c : Token) (k q z : List Token) (b : B) → z ≡ c ∷ k ++ q → S n z b → (w : List Token) → starts G (c ∷ k ++ w) ≡ true
      head_starts c k q z b e h w = rw e at ((s.laws 0).begins n z b h)

  pub seq_proper : (x : List Token) (a : A × B) → Seq R S n x a → (p q : List Token) → x ≡ p ++ q → SK n p → ⊥
  seq_proper x a h p q e (inl k) = first_proper h.0 h.1 a.0 a.1 h.3 h.4 p q (cuts h.0 h.1 p q (sym h.2 ∙ e)) k
  seq_proper x a h p q e (inr k) =
      let line : k.0 ++ (k.1 ++ q) ≡ h.0 ++ h.1 = sym (append_assoc k.0 k.1 q) ∙ ap (λ l. l ++ q) (sym k.3) ∙ sym e ∙ h.2 in
      let same = (r.laws n).unique n k.0 h.0 (k.1 ++ q) h.1 k.2 a.0 k.4 h.3 line
      (apart_start G (C k.2) (k.1 ++ q) (free k.2) (opening_starts S L G D n s k.1 k.5 q)) (apart_start G (C a.0) h.1 (free a.0) ((s.laws 0).begins n h.1 a.1 h.4)) in
      let rest : h.1 ≡ k.1 ++ q = sym (cancel h.0 (k.1 ++ q) h.1 (ap (λ l. l ++ (k.1 ++ q)) (sym same.0) ∙ line)) in
      s.proper h.1 a.1 h.4 k.1 q rest k.5

  pub seq_some : (p : List Token) → SK n p → p ≡ [] → ⊥
  seq_some p (inl h) e = r.some p h e
  seq_some p (inr h) e = none (h.0) (h.1) (sym e ∙ h.3)
    where
      none : (y z : List Token) → [] ≡ y ++ z → ⊥
      none [] [] q = s.some h.1 h.5 (last_part h.0 h.1 (sym e ∙ h.3))
        where
          last_part : (y z : List Token) → [] ≡ y ++ z → z ≡ []
          last_part [] z q = sym q
          last_part (c ∷ y) z q = cc
      none [] (c ∷ z) q = cc
      none (c ∷ y) z q = cc

  pub seq_known : Known (Seq R S) SK F (λ x. D x.1) n
  seq_known = record {
    laws = λ m. seq_laws R S F C G D m (r.laws m) (s.laws m) free;
    word = record { more = r.word.more ++ s.word.more; value = (r.word.value, s.word.value); holds = (r.word.more, s.word.more, refl, r.word.holds, s.word.holds) };
    opened = seq_opened;
    some = seq_some;
    proper = seq_proper;
  }

  -- ---- the reader, at one level

  -- no earlier opening is passed over, before the end of the first part
  pub first_safe : (used : List Token) → (used ≡ []) ⊎ Viable R (suc n) used → ((p q : List Token) → used ≡ p ++ q → K n p → ⊥) → (p q : List Token) → used ≡ p ++ q → SK n p → ⊥
  first_safe used v safe p q e (inl k) = safe p q e k
  first_safe used (inl none) safe p q e (inr k) = seq_some p (inr k) (front_empty p q (sym e ∙ none))
    where
      front_empty : (x y : List Token) → x ++ y ≡ [] → x ≡ []
      front_empty [] y q = refl
      front_empty (c ∷ x) y q = cc
  first_safe used (inr v) safe p q e (inr k) =
      clash (suc n) n k.0 k.2 k.4 (used ++ v.more) v.value v.holds (k.1 ++ (q ++ v.more))
      (ap (λ l. l ++ v.more) (e ∙ ap (λ l. l ++ q) k.3 ∙ append_assoc k.0 k.1 q) ∙ append_assoc k.0 (k.1 ++ q) v.more ∙ ap (λ l. k.0 ++ l) (append_assoc k.1 q v.more))
      (opening_starts S L G D n s k.1 k.5 (q ++ v.more))

  pub first_viable : (used : List Token) → (used ≡ []) ⊎ Viable R (suc n) used → (used ≡ []) ⊎ Viable (Seq R S) (suc n) used
  first_viable used (inl e) = inl e
  first_viable used (inr v) = inr (record { more = v.more ++ s.word.more; value = (v.value, s.word.value); holds = (used ++ v.more, s.word.more, sym (append_assoc used v.more s.word.more), v.holds, s.word.holds) })

  unfoldable pub first_refuses : (ts : List Token) (k : ℕ) → Refused R K n F ts k → Refused (Seq R S) SK n F ts k
  first_refuses ts k h = record {
    used = h.used;
    rest = h.rest;
    cut = h.cut;
    left = h.left;
    viable = first_viable h.used h.viable;
    stops = no;
    first = h.first;
    safe = first_safe h.used h.viable h.safe;
  }
    where
      no_cut : (m : ℕ) (more : List Token) (b : A × B) (y z : List Token) → Meets h.rest more → R m y b.0 → S m z b.1 → Cuts y z h.used more → ⊥
      no_cut m more b y z meets hy hz (longer k e f) = h.stops m k b.0 (meets_front h.rest k z (subst (Meets h.rest) f meets)) (subst (λ w. R m w b.0) e hy)
      no_cut m more b y z meets hy hz (shorter c k e f) = elim h.viable [
        | inl none ↦ absurd (some_here y c k (sym none ∙ e))
        | inr v ↦ clash (suc n) m y b.0 hy (h.used ++ v.more) v.value v.holds (c ∷ k ++ v.more) (ap (λ w. w ++ v.more) e ∙ append_assoc y (c ∷ k) v.more)
            (let g : starts G (c ∷ k ++ more) ≡ true = rw f at ((s.laws 0).begins m z b.1 hz) in g)
      ]

      no : (m : ℕ) (more : List Token) (b : A × B) → Meets h.rest more → Seq R S m (h.used ++ more) b → ⊥
      no m more b meets g = no_cut m more b g.0 g.1 meets g.3 g.4 (cuts g.0 g.1 h.used more (sym g.2))

  pub first_deep : (ts : List Token) (k : ℕ) → TooDeep R K n ts k → TooDeep (Seq R S) SK n ts k
  first_deep ts k h =
      let v = r.opened (h.used ++ h.token ∷ []) h.brink in
      let some : Viable R (suc n) h.used = record { more = h.token ∷ v.more; value = v.value; holds = subst (λ l. R (suc n) l v.value) (append_assoc h.used (h.token ∷ []) v.more) v.holds } in
      record { used = h.used; token = h.token; rest = h.rest; cut = h.cut; left = h.left; brink = inl h.brink; safe = first_safe h.used (inr some) h.safe }

  module _ (ts rest : List Token) (a : A) (t : Takes R n C ts a rest) where
    -- nor behind it
    pub second_safe : (used : List Token) → NotStart (C a) used → ((p q : List Token) → used ≡ p ++ q → L n p → ⊥) → (p q : List Token) → t.used ++ used ≡ p ++ q → SK n p → ⊥
    second_safe used nu safe p q e (inl k) = in_first (cuts t.used used p q e)
      where
        in_first : Cuts t.used used p q → ⊥
        in_first (longer l f g) = r.proper t.used a t.holds p l f k
        in_first (shorter c l f g) =
            let v = r.opened p k in
            let out : NotStart (C a) (c ∷ l ++ v.more) = record { not_start = (subst (NotStart (C a)) g nu).not_start } in
            let same = (r.laws n).unique (suc n) t.used (p ++ v.more) (c ∷ l ++ v.more) [] a v.value t.holds v.holds
            (sym (append_assoc t.used (c ∷ l) v.more) ∙ ap (λ w. w ++ v.more) (sym f) ∙ sym (append-nil (p ++ v.more))) out (no_start (C v.value)) in
            none_more t.used c (l ++ v.more) (same.0 ∙ ap (λ w. w ++ v.more) f ∙ append_assoc t.used (c ∷ l) v.more)
    second_safe used nu safe p q e (inr k) =
        let line : t.used ++ used ≡ k.0 ++ (k.1 ++ q) = e ∙ ap (λ l. l ++ q) k.3 ∙ append_assoc k.0 k.1 q in
        let same = (r.laws n).unique n t.used k.0 used (k.1 ++ q) a k.2 t.holds k.4 line nu (apart_start G (C k.2) (k.1 ++ q) (free k.2) (opening_starts S L G D n s k.1 k.5 q)) in
        safe k.1 q (cancel k.0 used (k.1 ++ q) (ap (λ l. l ++ used) (sym same.0) ∙ line)) k.5

    pub second_deep : (k : ℕ) → TooDeep S L n rest k → TooDeep (Seq R S) SK n ts k
    second_deep k h = record {
      used = t.used ++ h.used;
      token = h.token;
      rest = h.rest;
      cut = t.cut ∙ ap (λ l. t.used ++ l) h.cut ∙ sym (append_assoc t.used h.used (h.token ∷ h.rest));
      left = h.left;
      brink = inr (t.used, h.used ++ h.token ∷ [], a, append_assoc t.used h.used (h.token ∷ []), t.holds, h.brink);
      safe = second_safe h.used (prefix_start (C a) h.used (h.token ∷ h.rest) (subst (NotStart (C a)) h.cut t.ends)) h.safe;
    }

    unfoldable pub second_refuses : (k : ℕ) → Refused S L n G rest k → Refused (Seq R S) SK n F ts k
    second_refuses k h = record {
      used = t.used ++ h.used;
      rest = h.rest;
      cut = t.cut ∙ ap (λ l. t.used ++ l) h.cut ∙ sym (append_assoc t.used h.used h.rest);
      left = h.left;
      viable = second_viable h.used h.viable;
      stops = no;
      first = λ e. absurd (not_empty e);
      safe = second_safe h.used (prefix_start (C a) h.used h.rest (subst (NotStart (C a)) h.cut t.ends)) h.safe;
    }
      where
        second_viable : (used : List Token) → (used ≡ []) ⊎ Viable S (suc n) used → (t.used ++ used ≡ []) ⊎ Viable (Seq R S) (suc n) (t.used ++ used)
        second_viable used (inl e) = inr (record {
          more = s.word.more;
          value = (a, s.word.value);
          holds = (t.used, s.word.more, ap (λ l. (t.used ++ l) ++ s.word.more) e ∙ ap (λ l. l ++ s.word.more) (append-nil t.used), (r.laws n).up t.used a t.holds, s.word.holds);
        })
        second_viable used (inr v) = inr (record { more = v.more; value = (a, v.value); holds = (t.used, used ++ v.more, append_assoc t.used used v.more, (r.laws n).up t.used a t.holds, v.holds) })

        not_empty : t.used ++ h.used ≡ [] → ⊥
        not_empty e = starts_some F (t.used ++ h.used) (starts-append F t.used h.used ((r.laws 0).begins n t.used a t.holds)) e

        no : (m : ℕ) (more : List Token) (b : A × B) → Meets h.rest more → Seq R S m ((t.used ++ h.used) ++ more) b → ⊥
        no m more b meets g =
            let nu = meets_start (C a) h.used h.rest more (subst (NotStart (C a)) h.cut t.ends) meets in
            let nz = apart_start G (C b.0) g.1 (free b.0) ((s.laws 0).begins m g.1 b.1 g.4) in
            let line : g.0 ++ g.1 ≡ t.used ++ (h.used ++ more) = sym g.2 ∙ append_assoc t.used h.used more in
            let same = (r.laws n).unique m t.used g.0 (h.used ++ more) g.1 a b.0 t.holds g.3 (sym line) nu nz in
            h.stops m more b.1 meets (subst (λ w. S m w b.1) (cancel t.used g.1 (h.used ++ more) (ap (λ l. l ++ g.1) same.0 ∙ line)) g.4)

    second : (x : Read B) → Meant S L n G D rest x → Meant (Seq R S) SK n F (λ x. D x.1) ts (x >>= λ y. Ok ((a, y.0), y.1))
    second (Ok y) h = record {
      used = t.used ++ h.used;
      cut = t.cut ∙ ap (λ l. t.used ++ l) h.cut ∙ sym (append_assoc t.used h.used y.1);
      holds = (t.used, h.used, refl, t.holds, h.holds);
      ends = h.ends;
    }
    second (Err (refused k)) h = second_refuses k h
    second (Err (deep k)) h = second_deep k h

  module _ (p : List Token → Read A) (q : List Token → Read B) (rp : (ts : List Token) → Meant R K n F C ts (p ts)) (sq : (ts : List Token) → Meant S L n G D ts (q ts)) where
    seq_after : (ts : List Token) (x : Read A) → Meant R K n F C ts x → Meant (Seq R S) SK n F (λ x. D x.1) ts (x >>= λ y. q y.1 >>= λ z. Ok ((y.0, z.0), z.1))
    seq_after ts (Ok x) h = second ts x.1 x.0 h (q x.1) (sq x.1)
    seq_after ts (Err (refused k)) h = first_refuses ts k h
    seq_after ts (Err (deep k)) h = first_deep ts k h

    pub seq_meant : (ts : List Token) → Meant (Seq R S) SK n F (λ x. D x.1) ts (seq_at p q ts)
    seq_meant ts = seq_after ts (p ts) (rp ts)
