-- Any number of one thing, and then what ends them.
use Rattle.std.proofs.Common.{ℕ, ◌≡◌, ◌∙◌, ◌++◌, ◌⊎◌, true, false, List, [], ◌∷◌, length, refl, sym, ap, ap₂, inl, inr, append_assoc, append-nil, subst, suc, Ok, Err, arith}
use Rattle.msc_tokens.specs.declared.token.Token.{Token}
use Rattle.token_grammar.specs.Languages.{Set, apart, starts, Layered, Each, Until, refused, deep, Read, ◌>>=◌, each_at, until_at}
use Rattle.token_grammar.proofs.Lists.{NotStart, among-append, starts_left, starts_right, apart_start, starts-append, no_start, Cuts, longer, shorter, cuts, cancel, none_more, starts_some, back_empty}
use Rattle.token_grammar.proofs.Base.{Brinks, Meets, meets_front, meets_start, prefix_start, Viable, Unique, Begins, Laws, Known, Refused, Meant, opening_starts}
use Rattle.token_grammar.proofs.Eaches.{last, each_brink, each_starts, each_unique, each_up, each_append, proper_before, ETakes, ERefused, EMeant, each_meant}

abbrev pub until_brink : {A : Type 0} → Layered A → Brinks → Brinks → Brinks
until_brink {A = A} R K L n p = each_brink R K n p ⊎ each_brink R L n p

-- what neither begins another one nor can't follow the last
module _ {A : Type 0} (G : Set) (D : A → Set) (F : Set) (other : apart F G ≡ true) (behind : (a : A) → apart F (D a) ≡ true) where
  pub nothing : (w : List Token) → NotStart [] w
  nothing [] = no_start []
  nothing (t ∷ w) = record { not_start = refl }

  pub not_start_last : (w : List Token) → starts F w ≡ true → (c : Set) → NotStart c w → (bs : List A) → NotStart (last D c bs) w
  not_start_last w f c h [] = h
  not_start_last w f c h (b ∷ bs) = not_start_last w f (D b) (apart_start F (D b) w (behind b) f) bs

  pub over : (w : List Token) → starts F w ≡ true → (bs : List A) → NotStart G w × NotStart (last D [] bs) w
  over w f bs = (apart_start F G w other f, not_start_last w f [] (nothing w) bs)

module _ {A B : Type 0} (R : Layered A) (S : Layered B) (G : Set) (D : A → Set) (F : Set) (C : B → Set) (n : ℕ)
    (r : Laws R G D n) (s : Laws S F C n) (free : (a : A) → apart G (D a) ≡ true) (other : apart F G ≡ true) (behind : (a : A) → apart F (D a) ≡ true) where
  pub until_unique : Unique (Until R S) n (λ x. C x.1)
  until_unique m x y u v a b h k e nu nv =
      let e1 : h.0 ++ (h.1 ++ u) ≡ k.0 ++ (k.1 ++ v) = sym (append_assoc h.0 h.1 u) ∙ sym (ap (λ l. l ++ u) h.2) ∙ e ∙ ap (λ l. l ++ v) k.2 ∙ append_assoc k.0 k.1 v in
      let ou = over G D F other behind (h.1 ++ u) (starts-append F h.1 u (s.begins n h.1 a.1 h.4)) a.0 in
      let ov = over G D F other behind (k.1 ++ v) (starts-append F k.1 v (s.begins m k.1 b.1 k.4)) b.0 in
      let first = each_unique R G D n r free m h.0 k.0 (h.1 ++ u) (k.1 ++ v) a.0 b.0 [] [] h.3 k.3 e1 ou.0 ov.0 ou.1 ov.1 in
      let e2 : h.1 ++ u ≡ k.1 ++ v = cancel k.0 (h.1 ++ u) (k.1 ++ v) (sym (ap (λ l. l ++ (h.1 ++ u)) first.0) ∙ e1) in
      let second = s.unique m h.1 k.1 u v a.1 b.1 h.4 k.4 e2 nu nv in
      (h.2 ∙ ap (λ l. l ++ h.1) first.0 ∙ ap (λ l. k.0 ++ l) second.0 ∙ sym k.2, ap₂ (λ x y. (x, y)) first.1 second.1)

  until_begins : Begins (Until R S) (G ++ F)
  until_begins m x a h = rw h.2 (go a.0 h.0 h.3)
    where
      go : (xs : List A) (y : List Token) → Each R m y xs → starts (G ++ F) (y ++ h.1) ≡ true
      go [] y e = subst (λ l. starts (G ++ F) (l ++ h.1) ≡ true) (sym e) (starts_right G F h.1 (s.begins m h.1 a.1 h.4))
      go (b ∷ bs) y e = starts_left G F (y ++ h.1) (each_starts R G D n r free m y b bs e h.1)

  pub until_laws : Laws (Until R S) (G ++ F) (λ x. C x.1) n
  until_laws = record {
    up = λ x a h. (h.0, h.1, h.2, each_up R G D n r free h.0 a.0 h.3, s.up h.1 a.1 h.4);
    unique = until_unique;
    begins = until_begins;
  }

module _ {A B : Type 0} (R : Layered A) (K : Brinks) (S : Layered B) (L : Brinks) (G : Set) (D : A → Set) (F : Set) (C : B → Set) (n : ℕ)
    (r : Known R K G D n) (s : Known S L F C n) (free : (a : A) → apart G (D a) ≡ true) (other : apart F G ≡ true) (behind : (a : A) → apart F (D a) ≡ true) where
  until_proper : (x : List Token) (a : List A × B) → Until R S n x a → (p q : List Token) → x ≡ p ++ q → until_brink R K L n p → ⊥
  until_proper x a h p q e (inl k) =
      let ov = over G D F other behind h.1 ((s.laws 0).begins n h.1 a.1 h.4) a.0 in
      proper_before R K G D n r free a.0 k.2 [] h.0 h.1 k.0 k.1 q h.3 k.4 k.5 (sym (append_assoc k.0 k.1 q) ∙ ap (λ l. l ++ q) (sym k.3) ∙ sym e ∙ h.2) (ov.0) (ov.1)
  until_proper x a h p q e (inr k) =
      let line : k.0 ++ (k.1 ++ q) ≡ h.0 ++ h.1 = sym (append_assoc k.0 k.1 q) ∙ ap (λ l. l ++ q) (sym k.3) ∙ sym e ∙ h.2 in
      let ou = over G D F other behind (k.1 ++ q) (opening_starts S L F C n s k.1 k.5 q) k.2 in
      let ov = over G D F other behind h.1 ((s.laws 0).begins n h.1 a.1 h.4) a.0 in
      let same = each_unique R G D n (r.laws n) free n k.0 h.0 (k.1 ++ q) h.1 k.2 a.0 [] [] k.4 h.3 line ou.0 ov.0 ou.1 ov.1 in
      s.proper h.1 a.1 h.4 k.1 q (sym (cancel h.0 (k.1 ++ q) h.1 (ap (λ l. l ++ (k.1 ++ q)) (sym same.0) ∙ line))) k.5

  until_opened : (p : List Token) → until_brink R K L n p → Viable (Until R S) (suc n) p
  until_opened p (inl k) =
      let v = r.opened k.1 k.5 in
      record {
        more = v.more ++ s.word.more;
        value = (k.2 ++ v.value ∷ [], s.word.value);
        holds = (
          k.0 ++ (k.1 ++ v.more),
          s.word.more,
          ap (λ l. l ++ (v.more ++ s.word.more)) k.3 ∙ append_assoc k.0 k.1 (v.more ++ s.word.more) ∙ ap (λ l. k.0 ++ l) (sym (append_assoc k.1 v.more s.word.more)) ∙ sym (append_assoc k.0 (k.1 ++ v.more) s.word.more),
          each_append R K G D n r free (suc n) k.0 (k.1 ++ v.more) k.2 (v.value ∷ []) (each_up R G D n (r.laws n) free k.0 k.2 k.4) (k.1 ++ v.more, [], sym (append-nil (k.1 ++ v.more)), v.holds, refl),
          s.word.holds,
        );
      }
  until_opened p (inr k) =
      let v = s.opened k.1 k.5 in
      record { more = v.more; value = (k.2, v.value); holds = (k.0, k.1 ++ v.more, ap (λ l. l ++ v.more) k.3 ∙ append_assoc k.0 k.1 v.more, each_up R G D n (r.laws n) free k.0 k.2 k.4, v.holds) }

  until_some : (p : List Token) → until_brink R K L n p → p ≡ [] → ⊥
  until_some p (inl k) e = r.some k.1 k.5 (back_empty k.0 k.1 (sym k.3 ∙ e))
  until_some p (inr k) e = s.some k.1 k.5 (back_empty k.0 k.1 (sym k.3 ∙ e))

  pub until_known : Known (Until R S) (until_brink R K L) (G ++ F) (λ x. C x.1) n
  until_known = record {
    laws = λ m. until_laws R S G D F C m (r.laws m) (s.laws m) free other behind;
    word = record { more = s.word.more; value = ([], s.word.value); holds = ([], s.word.more, refl, refl, s.word.holds) };
    opened = until_opened;
    some = until_some;
    proper = until_proper;
  }

  longer_not : (y w : List Token) → starts F w ≡ true → y ≡ y ++ w → ⊥
  longer_not y [] f e = starts_some F [] f refl
  longer_not y (c ∷ w) f e = none_more y c w e

  -- a reading of several is not the prefix of another, where what comes next ends them
  clash_end : (i j : ℕ) (y w : List Token) (bs xs : List A) → Each R i w xs → Each R j y bs → (z : List Token) → w ≡ y ++ z → starts F z ≡ true → ⊥
  clash_end i j y w bs xs hw hy z e f =
      let ov = over G D F other behind z f bs in
      let same = each_unique R G D i (r.laws i) free j w y [] z xs bs [] [] hw hy (append-nil w ∙ e) (no_start G) ov.0 (no_start (last D [] xs)) ov.1 in
      longer_not y z f (sym same.0 ∙ e)

  loop_safe : (used : List Token) → Viable (Each R) (suc n) used → ((p q : List Token) → used ≡ p ++ q → each_brink R K n p → ⊥) → (p q : List Token) → used ≡ p ++ q → until_brink R K L n p → ⊥
  loop_safe used v safe p q e (inl k) = safe p q e k
  loop_safe used v safe p q e (inr k) =
      clash_end (suc n) n k.0 (used ++ v.more) k.2 v.value v.holds k.4 (k.1 ++ (q ++ v.more))
      (ap (λ l. l ++ v.more) (e ∙ ap (λ l. l ++ q) k.3 ∙ append_assoc k.0 k.1 q) ∙ append_assoc k.0 (k.1 ++ q) v.more ∙ ap (λ l. k.0 ++ l) (append_assoc k.1 q v.more))
      (opening_starts S L F C n s k.1 k.5 (q ++ v.more))

  with_end : (used : List Token) → Viable (Each R) (suc n) used → Viable (Until R S) (suc n) used
  with_end used v = record { more = v.more ++ s.word.more; value = (v.value, s.word.value); holds = (used ++ v.more, s.word.more, sym (append_assoc used v.more s.word.more), v.holds, s.word.holds) }

  loop_refuses : (ts : List Token) (k : ℕ) → ERefused R K G D n ts k → Refused (Until R S) (until_brink R K L) n (G ++ F) ts k
  loop_refuses ts k h = record {
    used = h.used;
    rest = h.rest;
    cut = h.cut;
    left = h.left;
    viable = inr (with_end h.used h.viable);
    stops = no;
    first = λ e. absurd (h.begun e);
    safe = loop_safe h.used h.viable h.safe;
  }
    where
      no_cut : (m : ℕ) (more : List Token) (b : List A × B) (y z : List Token) → Meets h.rest more → Each R m y b.0 → S m z b.1 → Cuts y z h.used more → ⊥
      no_cut m more b y z meets hy hz (longer k e f) = h.stops m k b.0 (meets_front h.rest k z (subst (Meets h.rest) f meets)) (subst (λ w. Each R m w b.0) e hy)
      no_cut m more b y z meets hy hz (shorter c k e f) =
          clash_end (suc n) m y (h.used ++ h.viable.more) b.0 h.viable.value h.viable.holds hy (c ∷ k ++ h.viable.more)
          (ap (λ w. w ++ h.viable.more) e ∙ append_assoc y (c ∷ k) h.viable.more) (let g : starts F (c ∷ k ++ more) ≡ true = rw f at ((s.laws 0).begins m z b.1 hz) in g)

      no : (m : ℕ) (more : List Token) (b : List A × B) → Meets h.rest more → Until R S m (h.used ++ more) b → ⊥
      no m more b meets g = no_cut m more b g.0 g.1 meets g.3 g.4 (cuts g.0 g.1 h.used more (sym g.2))

  module _ (ts rest : List Token) (xs : List A) (t : ETakes R K G D n [] ts xs rest) where
    end_safe : (used behind_used : List Token) → rest ≡ used ++ behind_used → ((p q : List Token) → used ≡ p ++ q → L n p → ⊥) → (p q : List Token) → t.used ++ used ≡ p ++ q → until_brink R K L n p → ⊥
    end_safe used w cut safe p q e (inl k) =
        proper_before R K G D n r free xs k.2 [] t.used used k.0 k.1 q t.holds k.4 k.5 (sym (append_assoc k.0 k.1 q) ∙ ap (λ l. l ++ q) (sym k.3) ∙ sym e)
        (prefix_start G used w (subst (NotStart G) cut t.past)) (prefix_start (last D [] xs) used w (subst (NotStart (last D [] xs)) cut t.ends))
    end_safe used w cut safe p q e (inr k) =
        let line : t.used ++ used ≡ k.0 ++ (k.1 ++ q) = e ∙ ap (λ l. l ++ q) k.3 ∙ append_assoc k.0 k.1 q in
        let ov = over G D F other behind (k.1 ++ q) (opening_starts S L F C n s k.1 k.5 q) k.2 in
        let same = each_unique R G D n (r.laws n) free n t.used k.0 used (k.1 ++ q) xs k.2 [] [] t.holds k.4 line (prefix_start G used w (subst (NotStart G) cut t.past)) ov.0
        (prefix_start (last D [] xs) used w (subst (NotStart (last D [] xs)) cut t.ends)) ov.1 in
        safe k.1 q (cancel k.0 used (k.1 ++ q) (ap (λ l. l ++ used) (sym same.0) ∙ line)) k.5

    ending : (x : Read B) → Meant S L n F C rest x → Meant (Until R S) (until_brink R K L) n (G ++ F) (λ x. C x.1) ts (x >>= λ y. Ok ((xs, y.0), y.1))
    ending (Ok y) h = record {
      used = t.used ++ h.used;
      cut = t.cut ∙ ap (λ l. t.used ++ l) h.cut ∙ sym (append_assoc t.used h.used y.1);
      holds = (t.used, h.used, refl, t.holds, h.holds);
      ends = h.ends;
    }
    ending (Err (refused k)) h = record {
      used = t.used ++ h.used;
      rest = h.rest;
      cut = t.cut ∙ ap (λ l. t.used ++ l) h.cut ∙ sym (append_assoc t.used h.used h.rest);
      left = h.left;
      viable = inr (end_viable h.viable);
      stops = no;
      first = first;
      safe = end_safe h.used h.rest h.cut h.safe;
    }
      where
        end_viable : (h.used ≡ []) ⊎ Viable S (suc n) h.used → Viable (Until R S) (suc n) (t.used ++ h.used)
        end_viable (inl e) = record {
          more = s.word.more;
          value = (xs, s.word.value);
          holds = (t.used, s.word.more, ap (λ l. (t.used ++ l) ++ s.word.more) e ∙ ap (λ l. l ++ s.word.more) (append-nil t.used), each_up R G D n (r.laws n) free t.used xs t.holds, s.word.holds);
        }
        end_viable (inr v) = record { more = v.more; value = (xs, v.value); holds = (t.used, h.used ++ v.more, append_assoc t.used h.used v.more, each_up R G D n (r.laws n) free t.used xs t.holds, v.holds) }

        no : (m : ℕ) (more : List Token) (b : List A × B) → Meets h.rest more → Until R S m ((t.used ++ h.used) ++ more) b → ⊥
        no m more b meets g =
            let gu = meets_start G h.used h.rest more (subst (NotStart G) h.cut t.past) meets in
            let nu = meets_start (last D [] xs) h.used h.rest more (subst (NotStart (last D [] xs)) h.cut t.ends) meets in
            let line : g.0 ++ g.1 ≡ t.used ++ (h.used ++ more) = sym g.2 ∙ append_assoc t.used h.used more in
            let ov = over G D F other behind g.1 ((s.laws 0).begins m g.1 b.1 g.4) b.0 in
            let same = each_unique R G D n (r.laws n) free m t.used g.0 (h.used ++ more) g.1 xs b.0 [] [] t.holds g.3 (sym line) gu ov.0 nu ov.1 in
            h.stops m more b.1 meets (subst (λ w. S m w b.1) (cancel t.used g.1 (h.used ++ more) (ap (λ l. l ++ g.1) same.0 ∙ line)) g.4)

        both : (w : List Token) → starts G w ≡ false → starts F w ≡ false → starts (G ++ F) w ≡ false
        both [] a b = refl
        both (c ∷ w) a b = rw (among-append G F c, a) b

        first : t.used ++ h.used ≡ [] → starts (G ++ F) h.rest ≡ false
        first e =
            let none = back_empty t.used h.used e in
            both h.rest (subst (λ l. starts G l ≡ false) (h.cut ∙ ap (λ l. l ++ h.rest) none) t.past.not_start) (h.first none)
    ending (Err (deep k)) h = record {
      used = t.used ++ h.used;
      token = h.token;
      rest = h.rest;
      cut = t.cut ∙ ap (λ l. t.used ++ l) h.cut ∙ sym (append_assoc t.used h.used (h.token ∷ h.rest));
      left = h.left;
      brink = inr (t.used, h.used ++ h.token ∷ [], xs, append_assoc t.used h.used (h.token ∷ []), t.holds, h.brink);
      safe = end_safe h.used (h.token ∷ h.rest) h.cut h.safe;
    }

  until_step : (p : List Token → Read B) → ((ts : List Token) → Meant S L n F C ts (p ts)) → (ts : List Token) (x : Read (List A)) → EMeant R K G D n [] ts x
      → Meant (Until R S) (until_brink R K L) n (G ++ F) (λ x. C x.1) ts (x >>= λ y. p y.1 >>= λ z. Ok ((y.0, z.0), z.1))
  until_step p sp ts (Ok x) t = ending ts x.1 x.0 t (p x.1) (sp x.1)
  until_step p sp ts (Err (refused k)) h = loop_refuses ts k h
  until_step p sp ts (Err (deep k)) h = record {
    used = h.used;
    token = h.token;
    rest = h.rest;
    cut = h.cut;
    left = h.left;
    brink = inl h.brink;
    safe = loop_safe h.used h.viable h.safe;
  }

  pub until_meant : (q : List Token → Read A) (p : List Token → Read B) → ((ts : List Token) → Meant R K n G D ts (q ts)) → ((ts : List Token) → Meant S L n F C ts (p ts))
      → (ts : List Token) → Meant (Until R S) (until_brink R K L) n (G ++ F) (λ x. C x.1) ts (until_at G q p ts)
  until_meant q p rq sp ts = until_step p sp ts (each_at G q (length ts) ts) (each_meant R K G D n r free q rq (length ts) [] ts (omega arith) (nothing G D F other behind ts))
