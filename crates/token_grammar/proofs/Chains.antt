-- One thing, and any number of others behind it.
use Rattle.std.proofs.Common.{ℕ, ◌≡◌, ◌∙◌, ◌++◌, ◌⊎◌, true, List, [], ◌∷◌, length, refl, sym, ap, ap₂, inl, inr, append_assoc, append-nil, subst, suc, Ok, Err, arith}
use Rattle.msc_tokens.specs.declared.token.Token.{Token}
use Rattle.token_grammar.specs.Languages.{Set, among, apart, starts, Layered, Each, Chain, refused, deep, Read, ◌>>=◌, each_at, chain_at}
use Rattle.token_grammar.proofs.Lists.{NotStart, not_start_both, not_start_either, apart_start, starts-append, no_start, Cuts, longer, shorter, cuts, cancel, none_more, starts_some, some_here, front_empty, back_empty}
use Rattle.token_grammar.proofs.Base.{Brinks, Meets, meets_front, meets_start, prefix_start, Viable, Unique, Takes, Laws, Known, Refused, TooDeep, Safe, Meant}
use Rattle.token_grammar.proofs.Eaches.{last, each_brink, each_front, each_unique, each_up, each_append, proper_before, tail_starts, head_of, EMeant, each_meant}

abbrev pub chain_brink : {A B : Type 0} → Layered A → Brinks → Layered B → Brinks → Brinks
chain_brink {A = A} R K S L n p = K n p ⊎ ((y : List Token) × (z : List Token) × (a : A) × (p ≡ y ++ z) × R n y a × each_brink S L n z)

-- what can't follow: another one, and what can't follow the last
abbrev pub ends_of : {A B : Type 0} → (A → Set) → Set → (B → Set) → A × List B → Set
ends_of C G D x = G ++ last D (C x.0) x.1

module _ {A B : Type 0} (R : Layered A) (S : Layered B) (F : Set) (C : A → Set) (G : Set) (D : B → Set) (n : ℕ)
    (r : Laws R F C n) (s : Laws S G D n) (free : (b : B) → apart G (D b) ≡ true) (behind : (a : A) → apart G (C a) ≡ true) where
  chain_unique : Unique (Chain R S) n (ends_of C G D)
  chain_unique m x y u v a b h k e nu nv =
      let nu2 = not_start_both G (last D (C a.0) a.1) u nu in
      let nv2 = not_start_both G (last D (C b.0) b.1) v nv in
      let e1 : h.0 ++ (h.1 ++ u) ≡ k.0 ++ (k.1 ++ v) = sym (append_assoc h.0 h.1 u) ∙ sym (ap (λ l. l ++ u) h.2) ∙ e ∙ ap (λ l. l ++ v) k.2 ∙ append_assoc k.0 k.1 v in
      let first = r.unique m h.0 k.0 (h.1 ++ u) (k.1 ++ v) a.0 b.0 h.3 k.3 e1
      (each_front S G D n s free n (C a.0) (behind a.0) h.1 u a.1 h.4 nu2.1) (each_front S G D n s free m (C b.0) (behind b.0) k.1 v b.1 k.4 nv2.1) in
      let e2 : h.1 ++ u ≡ k.1 ++ v = cancel k.0 (h.1 ++ u) (k.1 ++ v) (sym (ap (λ l. l ++ (h.1 ++ u)) first.0) ∙ e1) in
      let second = each_unique S G D n s free m h.1 k.1 u v a.1 b.1 (C a.0) (C b.0) h.4 k.4 e2 nu2.0 nv2.0 nu2.1 nv2.1 in
      (h.2 ∙ ap (λ l. l ++ h.1) first.0 ∙ ap (λ l. k.0 ++ l) second.0 ∙ sym k.2, ap₂ (λ x y. (x, y)) first.1 second.1)

  pub chain_laws : Laws (Chain R S) F (ends_of C G D) n
  chain_laws = record {
    up = λ x a h. (h.0, h.1, h.2, r.up h.0 a.0 h.3, each_up S G D n s free h.1 a.1 h.4);
    unique = chain_unique;
    begins = λ m x a h. rw h.2 (starts-append F h.0 h.1 (r.begins m h.0 a.0 h.3));
  }

module _ {A B : Type 0} (R : Layered A) (K : Brinks) (S : Layered B) (L : Brinks) (F : Set) (C : A → Set) (G : Set) (D : B → Set) (n : ℕ)
    (r : Known R K F C n) (s : Known S L G D n) (free : (b : B) → apart G (D b) ≡ true) (behind : (a : A) → apart G (C a) ≡ true) where
  abbrev CK : Brinks
  CK = chain_brink R K S L

  -- a reading of the first is not the prefix of another, where what comes next starts one of the others
  clash : (i j : ℕ) (y : List Token) (b : A) → R j y b → (w : List Token) (a : A) → R i w a → (z : List Token) → w ≡ y ++ z → starts G z ≡ true → ⊥
  clash i j y b hy w a hw [] e g = starts_some G [] g refl
  clash i j y b hy w a hw (c ∷ k) e g =
      let same = (r.laws i).unique j w y [] (c ∷ k) a b hw hy (append-nil w ∙ e) (no_start (C a)) (apart_start G (C b) (c ∷ k) (behind b) g) in
      none_more y c k (sym same.0 ∙ e)

  alone : (m : ℕ) (used : List Token) → Viable R m used → Viable (Chain R S) m used
  alone m used v = record { more = v.more; value = (v.value, []); holds = (used ++ v.more, [], sym (append-nil (used ++ v.more)), v.holds, refl) }

  -- what the tokens of an opening behind the first start with
  late_starts : (z : List Token) → each_brink S L n z → (q : List Token) → starts G (z ++ q) ≡ true
  late_starts z k q = subst (λ l. starts G (l ++ q) ≡ true) (sym k.3) (tail_starts S L G D n s free k.0 k.2 k.4 k.1 k.5 q)

  chain_opened : (p : List Token) → CK n p → Viable (Chain R S) (suc n) p
  chain_opened p (inl h) = alone (suc n) p (r.opened p h)
  chain_opened p (inr h) =
      let k = h.5 in
      let v = s.opened k.1 k.5 in
      record {
        more = v.more;
        value = (h.2, k.2 ++ v.value ∷ []);
        holds = (
          h.0,
          h.1 ++ v.more,
          ap (λ l. l ++ v.more) h.3 ∙ append_assoc h.0 h.1 v.more,
          (r.laws n).up h.0 h.2 h.4,
          subst (λ l. Each S (suc n) l (k.2 ++ v.value ∷ [])) (sym (ap (λ l. l ++ v.more) k.3 ∙ append_assoc k.0 k.1 v.more))
              (each_append S L G D n s free (suc n) k.0 (k.1 ++ v.more) k.2 (v.value ∷ []) (each_up S G D n (s.laws n) free k.0 k.2 k.4)
              (k.1 ++ v.more, [], sym (append-nil (k.1 ++ v.more)), v.holds, refl)),
        );
      }

  chain_some : (p : List Token) → CK n p → p ≡ [] → ⊥
  chain_some p (inl h) e = r.some p h e
  chain_some p (inr h) e = starts_some G h.1 (subst (λ l. starts G l ≡ true) (append-nil h.1) (late_starts h.1 h.5 [])) (back_empty h.0 h.1 (sym h.3 ∙ e))

  first_proper : (y z : List Token) (a : A) (bs : List B) → R n y a → Each S n z bs → (p q : List Token) → Cuts y z p q → K n p → ⊥
  first_proper y z a bs hy hz p q (longer k e f) h = r.proper y a hy p k e h
  first_proper y z a bs hy hz p q (shorter c k e f) h =
      let v = r.opened p h in
      clash (suc n) n y a hy (p ++ v.more) v.value v.holds (c ∷ k ++ v.more) (ap (λ l. l ++ v.more) e ∙ append_assoc y (c ∷ k) v.more)
      (let g : among G c ≡ true = head_of S L G D n s free n z bs hz c (k ++ q) f in g)

  chain_proper : (x : List Token) (a : A × List B) → Chain R S n x a → (p q : List Token) → x ≡ p ++ q → CK n p → ⊥
  chain_proper x a h p q e (inl k) = first_proper h.0 h.1 a.0 a.1 h.3 h.4 p q (cuts h.0 h.1 p q (sym h.2 ∙ e)) k
  chain_proper x a h p q e (inr k) =
      let line : k.0 ++ (k.1 ++ q) ≡ h.0 ++ h.1 = sym (append_assoc k.0 k.1 q) ∙ ap (λ l. l ++ q) (sym k.3) ∙ sym e ∙ h.2 in
      let same = (r.laws n).unique n k.0 h.0 (k.1 ++ q) h.1 k.2 a.0 k.4 h.3 line
      (apart_start G (C k.2) (k.1 ++ q) (behind k.2) (late_starts k.1 k.5 q))
      (subst (NotStart (C a.0)) (append-nil h.1) (each_front S G D n (s.laws n) free n (C a.0) (behind a.0) h.1 [] a.1 h.4 (no_start (last D (C a.0) a.1)))) in
      let rest : k.1 ++ q ≡ h.1 = cancel h.0 (k.1 ++ q) h.1 (ap (λ l. l ++ (k.1 ++ q)) (sym same.0) ∙ line) in
      let o = k.5 in
      proper_before S L G D n s free a.1 o.2 [] h.1 [] o.0 o.1 q h.4 o.4 o.5
      (sym (append_assoc o.0 o.1 q) ∙ ap (λ l. l ++ q) (sym o.3) ∙ rest ∙ sym (append-nil h.1)) (no_start G) (no_start (last D [] a.1))

  pub chain_known : Known (Chain R S) CK F (ends_of C G D) n
  chain_known = record {
    laws = λ m. chain_laws R S F C G D m (r.laws m) (s.laws m) free behind;
    word = alone (suc n) [] r.word;
    opened = chain_opened;
    some = chain_some;
    proper = chain_proper;
  }

  -- ---- the reader

  first_viable : (used : List Token) → (used ≡ []) ⊎ Viable R (suc n) used → (used ≡ []) ⊎ Viable (Chain R S) (suc n) used
  first_viable used (inl e) = inl e
  first_viable used (inr v) = inr (alone (suc n) used v)

  first_safe : (used : List Token) → (used ≡ []) ⊎ Viable R (suc n) used → Safe R K n used → Safe (Chain R S) CK n used
  first_safe used v safe p q e (inl k) = safe p q e k
  first_safe used (inl none) safe p q e (inr k) = chain_some p (inr k) (front_empty p q (sym e ∙ none))
  first_safe used (inr v) safe p q e (inr k) =
      clash (suc n) n k.0 k.2 k.4 (used ++ v.more) v.value v.holds (k.1 ++ (q ++ v.more))
      (ap (λ l. l ++ v.more) (e ∙ ap (λ l. l ++ q) k.3 ∙ append_assoc k.0 k.1 q) ∙ append_assoc k.0 (k.1 ++ q) v.more ∙ ap (λ l. k.0 ++ l) (append_assoc k.1 q v.more))
      (late_starts k.1 k.5 (q ++ v.more))

  first_refuses : (ts : List Token) (k : ℕ) → Refused R K n F ts k → Refused (Chain R S) CK n F ts k
  first_refuses ts k h = record {
    used = h.used;
    rest = h.rest;
    cut = h.cut;
    left = h.left;
    viable = first_viable h.used h.viable;
    stops = no;
    first = h.first;
    safe = first_safe h.used h.viable h.safe;
  }
    where
      no_cut : (m : ℕ) (more : List Token) (b : A × List B) (y z : List Token) → Meets h.rest more → R m y b.0 → Each S m z b.1 → Cuts y z h.used more → ⊥
      no_cut m more b y z meets hy hz (longer k e f) = h.stops m k b.0 (meets_front h.rest k z (subst (Meets h.rest) f meets)) (subst (λ w. R m w b.0) e hy)
      no_cut m more b y z meets hy hz (shorter c k e f) = elim h.viable [
        | inl none ↦ absurd (some_here y c k (sym none ∙ e))
        | inr v ↦ clash (suc n) m y b.0 hy (h.used ++ v.more) v.value v.holds (c ∷ k ++ v.more) (ap (λ w. w ++ v.more) e ∙ append_assoc y (c ∷ k) v.more)
            (let g : among G c ≡ true = head_of S L G D n s free m z b.1 hz c (k ++ more) f in g)
      ]

      no : (m : ℕ) (more : List Token) (b : A × List B) → Meets h.rest more → Chain R S m (h.used ++ more) b → ⊥
      no m more b meets g = no_cut m more b g.0 g.1 meets g.3 g.4 (cuts g.0 g.1 h.used more (sym g.2))

  first_deep : (ts : List Token) (k : ℕ) → TooDeep R K n ts k → TooDeep (Chain R S) CK n ts k
  first_deep ts k h =
      let v = r.opened (h.used ++ h.token ∷ []) h.brink in
      let some : Viable R (suc n) h.used = record { more = h.token ∷ v.more; value = v.value; holds = subst (λ l. R (suc n) l v.value) (append_assoc h.used (h.token ∷ []) v.more) v.holds } in
      record { used = h.used; token = h.token; rest = h.rest; cut = h.cut; left = h.left; brink = inl h.brink; safe = first_safe h.used (inr some) h.safe }

  module _ (ts rest : List Token) (a : A) (t : Takes R n C ts a rest) where
    late_safe : (used : List Token) → NotStart (C a) used → Safe (Each S) (each_brink S L) n used → Safe (Chain R S) CK n (t.used ++ used)
    late_safe used nu safe p q e (inl k) = in_first (cuts t.used used p q e)
      where
        in_first : Cuts t.used used p q → ⊥
        in_first (longer l f g) = r.proper t.used a t.holds p l f k
        in_first (shorter c l f g) =
            let v = r.opened p k in
            let out : NotStart (C a) (c ∷ l ++ v.more) = record { not_start = (subst (NotStart (C a)) g nu).not_start } in
            let same = (r.laws n).unique (suc n) t.used (p ++ v.more) (c ∷ l ++ v.more) [] a v.value t.holds v.holds
            (sym (append_assoc t.used (c ∷ l) v.more) ∙ ap (λ w. w ++ v.more) (sym f) ∙ sym (append-nil (p ++ v.more))) out (no_start (C v.value)) in
            none_more t.used c (l ++ v.more) (same.0 ∙ ap (λ w. w ++ v.more) f ∙ append_assoc t.used (c ∷ l) v.more)
    late_safe used nu safe p q e (inr k) =
        let line : t.used ++ used ≡ k.0 ++ (k.1 ++ q) = e ∙ ap (λ l. l ++ q) k.3 ∙ append_assoc k.0 k.1 q in
        let same = (r.laws n).unique n t.used k.0 used (k.1 ++ q) a k.2 t.holds k.4 line nu (apart_start G (C k.2) (k.1 ++ q) (behind k.2) (late_starts k.1 k.5 q)) in
        safe k.1 q (cancel k.0 used (k.1 ++ q) (ap (λ l. l ++ used) (sym same.0) ∙ line)) k.5

    not_none : (used : List Token) → t.used ++ used ≡ [] → ⊥
    not_none used e = starts_some F (t.used ++ used) (starts-append F t.used used ((r.laws 0).begins n t.used a t.holds)) e

    late_viable : (used : List Token) → Viable (Each S) (suc n) used → Viable (Chain R S) (suc n) (t.used ++ used)
    late_viable used v = record { more = v.more; value = (a, v.value); holds = (t.used, used ++ v.more, append_assoc t.used used v.more, (r.laws n).up t.used a t.holds, v.holds) }

    late : (x : Read (List B)) → EMeant S L G D n (C a) rest x → Meant (Chain R S) CK n F (ends_of C G D) ts (x >>= λ y. Ok ((a, y.0), y.1))
    late (Ok y) h = record {
      used = t.used ++ h.used;
      cut = t.cut ∙ ap (λ l. t.used ++ l) h.cut ∙ sym (append_assoc t.used h.used y.1);
      holds = (t.used, h.used, refl, t.holds, h.holds);
      ends = not_start_either G (last D (C a) y.0) y.1 h.past h.ends;
    }
    late (Err (refused k)) h = record {
      used = t.used ++ h.used;
      rest = h.rest;
      cut = t.cut ∙ ap (λ l. t.used ++ l) h.cut ∙ sym (append_assoc t.used h.used h.rest);
      left = h.left;
      viable = inr (late_viable h.used h.viable);
      stops = no;
      first = λ e. absurd (not_none h.used e);
      safe = late_safe h.used (prefix_start (C a) h.used h.rest (subst (NotStart (C a)) h.cut t.ends)) h.safe;
    }
      where
        no : (m : ℕ) (more : List Token) (b : A × List B) → Meets h.rest more → Chain R S m ((t.used ++ h.used) ++ more) b → ⊥
        no m more b meets g =
            let nu = meets_start (C a) h.used h.rest more (subst (NotStart (C a)) h.cut t.ends) meets in
            let nz = subst (NotStart (C b.0)) (append-nil g.1) (each_front S G D n (s.laws n) free m (C b.0) (behind b.0) g.1 [] b.1 g.4 (no_start (last D (C b.0) b.1))) in
            let line : g.0 ++ g.1 ≡ t.used ++ (h.used ++ more) = sym g.2 ∙ append_assoc t.used h.used more in
            let same = (r.laws n).unique m t.used g.0 (h.used ++ more) g.1 a b.0 t.holds g.3 (sym line) nu nz in
            h.stops m more b.1 meets (subst (λ w. Each S m w b.1) (cancel t.used g.1 (h.used ++ more) (ap (λ l. l ++ g.1) same.0 ∙ line)) g.4)
    late (Err (deep k)) h = record {
      used = t.used ++ h.used;
      token = h.token;
      rest = h.rest;
      cut = t.cut ∙ ap (λ l. t.used ++ l) h.cut ∙ sym (append_assoc t.used h.used (h.token ∷ h.rest));
      left = h.left;
      brink = inr (t.used, h.used ++ h.token ∷ [], a, append_assoc t.used h.used (h.token ∷ []), t.holds, h.brink);
      safe = late_safe h.used (prefix_start (C a) h.used (h.token ∷ h.rest) (subst (NotStart (C a)) h.cut t.ends)) h.safe;
    }

  module _ (p : List Token → Read A) (q : List Token → Read B) (rp : (ts : List Token) → Meant R K n F C ts (p ts)) (sq : (ts : List Token) → Meant S L n G D ts (q ts)) where
    chain_step : (ts : List Token) (x : Read A) → Meant R K n F C ts x → Meant (Chain R S) CK n F (ends_of C G D) ts (x >>= λ y. each_at G q (length y.1) y.1 >>= λ z. Ok ((y.0, z.0), z.1))
    chain_step ts (Ok x) t = late ts x.1 x.0 t (each_at G q (length x.1) x.1) (each_meant S L G D n s free q sq (length x.1) (C x.0) x.1 (omega arith) t.ends)
    chain_step ts (Err (refused k)) h = first_refuses ts k h
    chain_step ts (Err (deep k)) h = first_deep ts k h

    pub chain_meant : (ts : List Token) → Meant (Chain R S) CK n F (ends_of C G D) ts (chain_at G p q ts)
    chain_meant ts = chain_step ts (p ts) (rp ts)
