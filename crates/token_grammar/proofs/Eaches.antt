-- Any number of one thing.
use Rattle.std.proofs.Common.{ℕ, ◌≡◌, ◌∙◌, ◌++◌, ◌⊎◌, ◌≤◌, Bool, true, false, cond, List, [], ◌∷◌, length, refl, sym, ap, ap₂, inl, inr, append_assoc, append-nil, subst, suc, zero, Ok, Err, arith, length-append}
use Rattle.msc_tokens.specs.declared.token.Token.{Token}
use Rattle.token_grammar.specs.Languages.{Set, among, apart, starts, Layered, Each, refused, deep, Read, ◌>>=◌, each_at}
use Rattle.token_grammar.proofs.Lists.{NotStart, apart_start, starts-append, no_start, Cuts, longer, shorter, cuts, cancel, none_more, starts_some, some_here, not_both, front_empty}
use Rattle.token_grammar.proofs.Base.{Brinks, Meets, meets_front, meets_start, prefix_start, Viable, Takes, Laws, Known, Refused, TooDeep, Meant, opening_starts}

-- what can't follow the last of them; behind none of them, what can't follow what stands before
abbrev pub last : {B : Type 0} → (B → Set) → Set → List B → Set
last D c [] = c
last D c (b ∷ bs) = last D (D b) bs

abbrev pub each_brink : {A : Type 0} → Layered A → Brinks → Brinks
each_brink {A = A} R K n p = (y : List Token) × (z : List Token) × (bs : List A) × (p ≡ y ++ z) × Each R n y bs × K n z

module _ {A : Type 0} (R : Layered A) (G : Set) (D : A → Set) (n : ℕ) (r : Laws R G D n) (free : (a : A) → apart G (D a) ≡ true) where
  pub each_starts : (m : ℕ) (z : List Token) (b : A) (bs : List A) → Each R m z (b ∷ bs) → (u : List Token) → starts G (z ++ u) ≡ true
  each_starts m z b bs h u = starts-append G z u (rw h.2 (starts-append G h.0 h.1 (r.begins m h.0 b h.3)))

  pub each_front : (m : ℕ) (c : Set) → apart G c ≡ true → (z u : List Token) (bs : List A) → Each R m z bs → NotStart (last D c bs) u → NotStart c (z ++ u)
  each_front m c f z u [] h nu = subst (λ l. NotStart c (l ++ u)) (sym h) nu
  each_front m c f z u (b ∷ bs) h nu = apart_start G c (z ++ u) f (each_starts m z b bs h u)

  pub each_none : (m : ℕ) (z u v : List Token) (b : A) (bs : List A) → Each R m z (b ∷ bs) → u ≡ z ++ v → NotStart G u → ⊥
  each_none m z u v b bs h e nu = not_both (sym (subst (λ l. starts G l ≡ true) (sym e) (each_starts m z b bs h v)) ∙ nu.not_start)

  pub each_unique : (m : ℕ) (x y u v : List Token) (bs ds : List A) (c d : Set) → Each R n x bs → Each R m y ds → x ++ u ≡ y ++ v → NotStart G u → NotStart G v
      → NotStart (last D c bs) u → NotStart (last D d ds) v → (x ≡ y) × (bs ≡ ds)
  each_unique m x y u v [] [] c d h k e gu gv nu nv = (h ∙ sym k, refl)
  each_unique m x y u v [] (b ∷ ds) c d h k e gu gv nu nv = absurd (each_none m y u v b ds k (sym (ap (λ l. l ++ u) h) ∙ e) gu)
  each_unique m x y u v (b ∷ bs) [] c d h k e gu gv nu nv = absurd (each_none n x v u b bs h (sym (ap (λ l. l ++ v) k) ∙ sym e) gv)
  each_unique m x y u v (a ∷ bs) (b ∷ ds) c d h k e gu gv nu nv =
      let e1 : h.0 ++ (h.1 ++ u) ≡ k.0 ++ (k.1 ++ v) = sym (append_assoc h.0 h.1 u) ∙ sym (ap (λ l. l ++ u) h.2) ∙ e ∙ ap (λ l. l ++ v) k.2 ∙ append_assoc k.0 k.1 v in
      let first = r.unique m h.0 k.0 (h.1 ++ u) (k.1 ++ v) a b h.3 k.3 e1 (each_front n (D a) (free a) h.1 u bs h.4 nu) (each_front m (D b) (free b) k.1 v ds k.4 nv) in
      let e2 : h.1 ++ u ≡ k.1 ++ v = cancel k.0 (h.1 ++ u) (k.1 ++ v) (sym (ap (λ l. l ++ (h.1 ++ u)) first.0) ∙ e1) in
      let rest = each_unique m h.1 k.1 u v bs ds (D a) (D b) h.4 k.4 e2 gu gv nu nv in
      (h.2 ∙ ap (λ l. l ++ h.1) first.0 ∙ ap (λ l. k.0 ++ l) rest.0 ∙ sym k.2, ap₂ (λ t l. t ∷ l) first.1 rest.1)

  pub each_up : (x : List Token) (bs : List A) → Each R n x bs → Each R (suc n) x bs
  each_up x [] h = h
  each_up x (b ∷ bs) h = (h.0, h.1, h.2, r.up h.0 b h.3, each_up h.1 bs h.4)

module _ {A : Type 0} (R : Layered A) (K : Brinks) (G : Set) (D : A → Set) (n : ℕ) where
  pub record ETakes (c : Set) (ts : List Token) (bs : List A) (rest : List Token) : Type 0 where
    pub used : List Token
    pub cut : ts ≡ used ++ rest
    pub holds : Each R n used bs
    pub past : NotStart G rest
    pub ends : NotStart (last D c bs) rest

  pub record ERefused (ts : List Token) (k : ℕ) : Type 0 where
    pub used : List Token
    pub rest : List Token
    pub cut : ts ≡ used ++ rest
    pub left : k ≡ length rest
    pub begun : used ≡ [] → ⊥
    pub viable : Viable (Each R) (suc n) used
    pub stops : (m : ℕ) (more : List Token) (bs : List A) → Meets rest more → Each R m (used ++ more) bs → ⊥
    pub safe : (p q : List Token) → used ≡ p ++ q → each_brink R K n p → ⊥

  pub record EDeep (ts : List Token) (k : ℕ) : Type 0 where
    pub used : List Token
    pub token : Token
    pub rest : List Token
    pub cut : ts ≡ used ++ token ∷ rest
    pub left : k ≡ length (token ∷ rest)
    pub viable : Viable (Each R) (suc n) used
    pub brink : each_brink R K n (used ++ token ∷ [])
    pub safe : (p q : List Token) → used ≡ p ++ q → each_brink R K n p → ⊥

  abbrev pub EMeant : Set → List Token → Read (List A) → Type 0
  EMeant c ts (Ok x) = ETakes c ts x.0 x.1
  EMeant c ts (Err (refused k)) = ERefused ts k
  EMeant c ts (Err (deep k)) = EDeep ts k

module _ {A : Type 0} (R : Layered A) (K : Brinks) (G : Set) (D : A → Set) (n : ℕ) (r : Known R K G D n) (free : (a : A) → apart G (D a) ≡ true) where
  pub each_append : (n : ℕ) (x y : List Token) (xs bs : List A) → Each R n x xs → Each R n y bs → Each R n (x ++ y) (xs ++ bs)
  each_append n x y [] bs h k = subst (λ l. Each R n (l ++ y) bs) (sym h) k
  each_append n x y (a ∷ xs) bs h k = (h.0, h.1 ++ y, ap (λ l. l ++ y) h.2 ∙ append_assoc h.0 h.1 y, h.3, each_append n h.1 y xs bs h.4 k)

  pub head_of : (m : ℕ) (z : List Token) (bs : List A) → Each R m z bs → (c : Token) (k : List Token) → z ≡ c ∷ k → among G c ≡ true
  head_of m z [] h c k e = absurd (some_here [] c k (sym h ∙ e))
  head_of m z (b ∷ bs) h c k e = subst (λ l. starts G l ≡ true) (append-nil z ∙ e) (each_starts R G D 0 (r.laws 0) free m z b bs h [])

  clash : (i j : ℕ) (y : List Token) (b : A) → R j y b → (w : List Token) (a : A) → R i w a → (z : List Token) → w ≡ y ++ z → starts G z ≡ true → ⊥
  clash i j y b hy w a hw [] e g = starts_some G [] g refl
  clash i j y b hy w a hw (c ∷ k) e g =
      let same = (r.laws i).unique j w y [] (c ∷ k) a b hw hy (append-nil w ∙ e) (no_start (D a)) (apart_start G (D b) (c ∷ k) (free b) g) in
      none_more y c k (sym same.0 ∙ e)

  pub one_viable : (m : ℕ) (used : List Token) → Viable R m used → Viable (Each R) m used
  one_viable m used v = record { more = v.more; value = v.value ∷ []; holds = (used ++ v.more, [], sym (append-nil (used ++ v.more)), v.holds, refl) }

  some_viable : (m : ℕ) (used : List Token) → (used ≡ []) ⊎ Viable R m used → Viable (Each R) m used
  some_viable m used (inl e) = record { more = []; value = []; holds = append-nil used ∙ e }
  some_viable m used (inr v) = one_viable m used v

  -- what is left of an opening behind one of them
  pub tail_starts : (w : List Token) (bs : List A) → Each R n w bs → (z : List Token) → K n z → (q : List Token) → starts G ((w ++ z) ++ q) ≡ true
  tail_starts w [] h z k q = subst (λ l. starts G ((l ++ z) ++ q) ≡ true) (sym h) (opening_starts R K G D n r z k q)
  tail_starts w (b ∷ bs) h z k q = subst (λ l. starts G l ≡ true) (sym (append_assoc w z q)) (each_starts R G D 0 (r.laws 0) free n w b bs h (z ++ q))

  first_safe : (used : List Token) → (used ≡ []) ⊎ Viable R (suc n) used → ((p q : List Token) → used ≡ p ++ q → K n p → ⊥) → (p q : List Token) → used ≡ p ++ q → each_brink R K n p → ⊥
  first_safe used v safe p q e (y, z, [], cut, h, k) = safe z q (e ∙ ap (λ l. l ++ q) (cut ∙ ap (λ l. l ++ z) h)) k
  first_safe used (inl none) safe p q e (y, z, b ∷ bs, cut, h, k) =
      starts_some G p (subst (λ l. starts G l ≡ true) (sym cut) (each_starts R G D 0 (r.laws 0) free n y b bs h z)) (front_empty p q (sym e ∙ none))
  first_safe used (inr v) safe p q e (y, z, b ∷ bs, cut, h, k) =
      clash (suc n) n h.0 b h.3 (used ++ v.more) v.value v.holds ((h.1 ++ z) ++ (q ++ v.more))
      (ap (λ l. l ++ v.more) (e ∙ ap (λ l. l ++ q) (cut ∙ ap (λ l. l ++ z) h.2 ∙ append_assoc h.0 h.1 z)) ∙ line h.0 (h.1 ++ z) q v.more) (tail_starts h.1 bs h.4 z k (q ++ v.more))
    where
      line : (a b c d : List Token) → ((a ++ b) ++ c) ++ d ≡ a ++ (b ++ (c ++ d))
      line a b c d = simp append_assoc

  first_refuses : (ts : List Token) (k : ℕ) → starts G ts ≡ true → Refused R K n G ts k → ERefused R K G D n ts k
  first_refuses ts k start h = record {
    used = h.used;
    rest = h.rest;
    cut = h.cut;
    left = h.left;
    begun = begun;
    viable = some_viable (suc n) h.used h.viable;
    stops = no;
    safe = first_safe h.used h.viable h.safe;
  }
    where
      begun : h.used ≡ [] → ⊥
      begun e = not_both (sym (subst (λ l. starts G l ≡ true) (h.cut ∙ ap (λ l. l ++ h.rest) e) start) ∙ h.first e)

      no_cut : (m : ℕ) (more : List Token) (b : A) (bs : List A) (y z : List Token) → Meets h.rest more → R m y b → Each R m z bs → Cuts y z h.used more → ⊥
      no_cut m more b bs y z meets hy hz (longer k e f) = h.stops m k b (meets_front h.rest k z (subst (Meets h.rest) f meets)) (subst (λ w. R m w b) e hy)
      no_cut m more b bs y z meets hy hz (shorter c k e f) = elim h.viable [
        | inl none ↦ absurd (some_here y c k (sym none ∙ e))
        | inr v ↦ clash (suc n) m y b hy (h.used ++ v.more) v.value v.holds (c ∷ k ++ v.more) (ap (λ w. w ++ v.more) e ∙ append_assoc y (c ∷ k) v.more)
            (let g : among G c ≡ true = head_of m z bs hz c (k ++ more) f in g)
      ]

      no : (m : ℕ) (more : List Token) (bs : List A) → Meets h.rest more → Each R m (h.used ++ more) bs → ⊥
      no m more [] meets g = begun (front_empty h.used more g)
      no m more (b ∷ bs) meets g = no_cut m more b bs g.0 g.1 meets g.3 g.4 (cuts g.0 g.1 h.used more (sym g.2))

  first_deep : (ts : List Token) (k : ℕ) → TooDeep R K n ts k → EDeep R K G D n ts k
  first_deep ts k h =
      let v = r.opened (h.used ++ h.token ∷ []) h.brink in
      let some : Viable R (suc n) h.used = record { more = h.token ∷ v.more; value = v.value; holds = subst (λ l. R (suc n) l v.value) (append_assoc h.used (h.token ∷ []) v.more) v.holds } in
      record {
        used = h.used;
        token = h.token;
        rest = h.rest;
        cut = h.cut;
        left = h.left;
        viable = one_viable (suc n) h.used some;
        brink = ([], h.used ++ h.token ∷ [], [], refl, refl, h.brink);
        safe = first_safe h.used (inr some) h.safe;
      }

  module _ (ts rest : List Token) (a : A) (t : Takes R n D ts a rest) where
    more_viable : (used : List Token) → Viable (Each R) (suc n) used → Viable (Each R) (suc n) (t.used ++ used)
    more_viable used v = record { more = v.more; value = a ∷ v.value; holds = (t.used, used ++ v.more, append_assoc t.used used v.more, (r.laws n).up t.used a t.holds, v.holds) }

    same_first : (m : ℕ) (y z : List Token) (b : A) (bs : List A) (u : List Token) → R m y b → Each R m z bs → NotStart (D a) u → y ++ z ≡ t.used ++ u → z ≡ u
    same_first m y z b bs u hy hz nu e =
        let same = (r.laws n).unique m t.used y u z a b t.holds hy (sym e) nu (behind_one bs hz) in
        cancel t.used z u (ap (λ l. l ++ z) same.0 ∙ e)
      where
        behind_one : (bs : List A) → Each R m z bs → NotStart (D b) z
        behind_one [] h = subst (NotStart (D b)) (sym h) (no_start (D b))
        behind_one (d ∷ ds) h = apart_start G (D b) z (free b) (subst (λ l. starts G l ≡ true) (append-nil z) (each_starts R G D 0 (r.laws 0) free m z d ds h []))

    begun : (used : List Token) → t.used ++ used ≡ [] → ⊥
    begun used e = starts_some G (t.used ++ used) (starts-append G t.used used ((r.laws 0).begins n t.used a t.holds)) e

    again_safe : (used : List Token) → NotStart (D a) used → ((p q : List Token) → used ≡ p ++ q → each_brink R K n p → ⊥) → (p q : List Token) → t.used ++ used ≡ p ++ q → each_brink R K n p → ⊥
    again_safe used nu safe p q e (y, z, [], cut, h, k) = go (cuts t.used used z q (e ∙ ap (λ l. l ++ q) (cut ∙ ap (λ l. l ++ z) h)))
      where
        go : Cuts t.used used z q → ⊥
        go (longer l e1 e2) = r.proper t.used a t.holds z l e1 k
        go (shorter c l e1 e2) =
            let v = r.opened z k in
            let out : NotStart (D a) (c ∷ l ++ v.more) = record { not_start = (subst (NotStart (D a)) e2 nu).not_start } in
            let same = (r.laws n).unique (suc n) t.used (z ++ v.more) (c ∷ l ++ v.more) [] a v.value t.holds v.holds
            (sym (append_assoc t.used (c ∷ l) v.more) ∙ ap (λ w. w ++ v.more) (sym e1) ∙ sym (append-nil (z ++ v.more))) out (no_start (D v.value)) in
            none_more t.used c (l ++ v.more) (same.0 ∙ ap (λ w. w ++ v.more) e1 ∙ append_assoc t.used (c ∷ l) v.more)
    again_safe used nu safe p q e (y, z, b ∷ bs, cut, h, k) =
        let line : t.used ++ used ≡ h.0 ++ ((h.1 ++ z) ++ q) = e ∙ ap (λ l. l ++ q) (cut ∙ ap (λ l. l ++ z) h.2 ∙ append_assoc h.0 h.1 z) ∙ append_assoc h.0 (h.1 ++ z) q in
        let same = (r.laws n).unique n t.used h.0 used ((h.1 ++ z) ++ q) a b t.holds h.3 line nu (apart_start G (D b) ((h.1 ++ z) ++ q) (free b) (tail_starts h.1 bs h.4 z k q)) in
        safe (h.1 ++ z) q (cancel h.0 used ((h.1 ++ z) ++ q) (ap (λ l. l ++ used) (sym same.0) ∙ line)) (h.1, z, bs, refl, h.4, k)

    again : (k : ℕ) → ERefused R K G D n rest k → ERefused R K G D n ts k
    again k h = record {
      used = t.used ++ h.used;
      rest = h.rest;
      cut = t.cut ∙ ap (λ l. t.used ++ l) h.cut ∙ sym (append_assoc t.used h.used h.rest);
      left = h.left;
      begun = begun h.used;
      viable = more_viable h.used h.viable;
      stops = no;
      safe = again_safe h.used (prefix_start (D a) h.used h.rest (subst (NotStart (D a)) h.cut t.ends)) h.safe;
    }
      where
        no : (m : ℕ) (more : List Token) (bs : List A) → Meets h.rest more → Each R m ((t.used ++ h.used) ++ more) bs → ⊥
        no m more [] meets g = begun h.used (front_empty (t.used ++ h.used) more g)
        no m more (b ∷ bs) meets g =
            let nu = meets_start (D a) h.used h.rest more (subst (NotStart (D a)) h.cut t.ends) meets in
            let e = same_first m g.0 g.1 b bs (h.used ++ more) g.3 g.4 nu (sym g.2 ∙ append_assoc t.used h.used more) in
            h.stops m more bs meets (subst (λ w. Each R m w bs) e g.4)

    again_deep : (k : ℕ) → EDeep R K G D n rest k → EDeep R K G D n ts k
    again_deep k h = record {
      used = t.used ++ h.used;
      token = h.token;
      rest = h.rest;
      cut = t.cut ∙ ap (λ l. t.used ++ l) h.cut ∙ sym (append_assoc t.used h.used (h.token ∷ h.rest));
      left = h.left;
      viable = more_viable h.used h.viable;
      brink = (
        t.used ++ h.brink.0,
        h.brink.1,
        a ∷ h.brink.2,
        append_assoc t.used h.used (h.token ∷ []) ∙ ap (λ l. t.used ++ l) h.brink.3 ∙ sym (append_assoc t.used h.brink.0 h.brink.1),
        (t.used, h.brink.0, refl, t.holds, h.brink.4),
        h.brink.5,
      );
      safe = again_safe h.used (prefix_start (D a) h.used (h.token ∷ h.rest) (subst (NotStart (D a)) h.cut t.ends)) h.safe;
    }

    going : (c : Set) (x : Read (List A)) → EMeant R K G D n (D a) rest x → EMeant R K G D n c ts (x >>= λ y. Ok (a ∷ y.0, y.1))
    going c (Ok y) h = record {
      used = t.used ++ h.used;
      cut = t.cut ∙ ap (λ l. t.used ++ l) h.cut ∙ sym (append_assoc t.used h.used y.1);
      holds = (t.used, h.used, refl, t.holds, h.holds);
      past = h.past;
      ends = h.ends;
    }
    going c (Err (refused k)) h = again k h
    going c (Err (deep k)) h = again_deep k h

  fewer : (ts rest : List Token) (a : A) (k : ℕ) → Takes R n D ts a rest → length ts ≤ suc k → length rest ≤ k
  fewer ts rest a k t h = cut_less t.used ((r.laws 0).begins n t.used a t.holds) (subst (λ l. length l ≤ suc k) t.cut h)
    where
      cut_less : (used : List Token) → starts G used ≡ true → length (used ++ rest) ≤ suc k → length rest ≤ k
      cut_less [] e g = absurd (starts_some G [] e refl)
      cut_less (d ∷ used) e g = omega (arith, length-append used rest)

  module _ (q : List Token → Read A) (rq : (ts : List Token) → Meant R K n G D ts (q ts)) where
    pub each_meant : (k : ℕ) (c : Set) (ts : List Token) → length ts ≤ k → NotStart c ts → EMeant R K G D n c ts (each_at G q k ts)
    each_meant zero c ts h nc = none ts h nc
      where
        none : (ts : List Token) → length ts ≤ 0 → NotStart c ts → EMeant R K G D n c ts (Ok ([], ts))
        none [] h nc = record { used = []; cut = refl; holds = refl; past = no_start G; ends = nc }
        none (t ∷ ts) h nc = absurd (omega arith)
    each_meant (suc k) c ts h nc =
        let more : (x : A × List Token) → Takes R n D ts x.0 x.1 → EMeant R K G D n (D x.0) x.1 (each_at G q k x.1) = λ x t. each_meant k (D x.0) x.1 (fewer ts x.1 x.0 k t h) t.ends in
        pick (starts G ts) refl more
      where
        after : (x : Read A) → starts G ts ≡ true → Meant R K n G D ts x → ((y : A × List Token) → Takes R n D ts y.0 y.1 → EMeant R K G D n (D y.0) y.1 (each_at G q k y.1))
            → EMeant R K G D n c ts (x >>= λ y. each_at G q k y.1 >>= λ z. Ok (y.0 ∷ z.0, z.1))
        after (Ok x) e t more = going ts x.1 x.0 t c (each_at G q k x.1) (more x t)
        after (Err (refused j)) e t more = first_refuses ts j e t
        after (Err (deep j)) e t more = first_deep ts j t

        pick : (b : Bool) → starts G ts ≡ b → ((y : A × List Token) → Takes R n D ts y.0 y.1 → EMeant R K G D n (D y.0) y.1 (each_at G q k y.1))
            → EMeant R K G D n c ts (cond b (q ts >>= λ y. each_at G q k y.1 >>= λ z. Ok (y.0 ∷ z.0, z.1)) (Ok ([], ts)))
        pick true e more = after (q ts) e (rq ts) more
        pick false e more = record { used = []; cut = refl; holds = refl; past = record { not_start = e }; ends = nc }

  -- no opening stands in several of them, before what neither goes on with them nor begins one
  pub proper_before : (xs bs : List A) (c : Set) (y z y' z' q : List Token) → Each R n y xs → Each R n y' bs → K n z' → y' ++ (z' ++ q) ≡ y ++ z → NotStart G z → NotStart (last D c xs) z → ⊥
  proper_before [] [] c y z y' z' q h k b e gz nz =
      let line : z' ++ q ≡ z = ap (λ l. l ++ (z' ++ q)) (sym k) ∙ e ∙ ap (λ l. l ++ z) h in
      not_both (sym (subst (λ l. starts G l ≡ true) line (opening_starts R K G D n r z' b q)) ∙ gz.not_start)
  proper_before (a ∷ xs) [] c y z y' z' q h k b e gz nz =
      let line : h.0 ++ (h.1 ++ z) ≡ z' ++ q = sym (append_assoc h.0 h.1 z) ∙ ap (λ l. l ++ z) (sym h.2) ∙ sym e ∙ ap (λ l. l ++ (z' ++ q)) k in
      go (cuts h.0 (h.1 ++ z) z' q line)
    where
      go : Cuts h.0 (h.1 ++ z) z' q → ⊥
      go (longer l e1 e2) = r.proper h.0 a h.3 z' l e1 b
      go (shorter d l e1 e2) =
          let v = r.opened z' b in
          let out : NotStart (D a) (h.1 ++ z) = each_front R G D 0 (r.laws 0) free n (D a) (free a) h.1 z xs h.4 nz in
          let out2 : NotStart (D a) (d ∷ l ++ v.more) = record { not_start = (subst (NotStart (D a)) e2 out).not_start } in
          let same = (r.laws n).unique (suc n) h.0 (z' ++ v.more) (d ∷ l ++ v.more) [] a v.value h.3 v.holds
          (sym (append_assoc h.0 (d ∷ l) v.more) ∙ ap (λ w. w ++ v.more) (sym e1) ∙ sym (append-nil (z' ++ v.more))) out2 (no_start (D v.value)) in
          none_more h.0 d (l ++ v.more) (same.0 ∙ ap (λ w. w ++ v.more) e1 ∙ append_assoc h.0 (d ∷ l) v.more)
  proper_before [] (d ∷ bs) c y z y' z' q h k b e gz nz =
      let line : y' ++ (z' ++ q) ≡ z = e ∙ ap (λ l. l ++ z) h in
      not_both (sym (subst (λ l. starts G l ≡ true) line (each_starts R G D 0 (r.laws 0) free n y' d bs k (z' ++ q))) ∙ gz.not_start)
  proper_before (a ∷ xs) (d ∷ bs) c y z y' z' q h k b e gz nz =
      let line : k.0 ++ (k.1 ++ (z' ++ q)) ≡ h.0 ++ (h.1 ++ z) = sym (append_assoc k.0 k.1 (z' ++ q)) ∙ ap (λ l. l ++ (z' ++ q)) (sym k.2) ∙ e ∙ ap (λ l. l ++ z) h.2 ∙ append_assoc h.0 h.1 z in
      let more : starts G (k.1 ++ (z' ++ q)) ≡ true = subst (λ l. starts G l ≡ true) (append_assoc k.1 z' q) (tail_starts k.1 bs k.4 z' b q) in
      let same = (r.laws n).unique n k.0 h.0 (k.1 ++ (z' ++ q)) (h.1 ++ z) d a k.3 h.3 line (apart_start G (D d) (k.1 ++ (z' ++ q)) (free d) more) (each_front R G D 0 (r.laws 0) free n (D a) (free a) h.1 z xs h.4 nz) in
      proper_before xs bs (D a) h.1 z k.1 z' q h.4 k.4 b (cancel h.0 (k.1 ++ (z' ++ q)) (h.1 ++ z) (ap (λ l. l ++ (k.1 ++ (z' ++ q))) (sym same.0) ∙ line)) gz nz
