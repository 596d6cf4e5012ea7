-- A part that may stand behind another.
use Rattle.std.proofs.Common.{ℕ, ◌≡◌, ◌∙◌, ◌++◌, ◌⊎◌, Bool, true, false, cond, List, [], ◌∷◌, refl, sym, ap, inl, inr, append_assoc, append-nil, subst, suc, Ok, Err, Option, Some, None}
use Rattle.msc_tokens.specs.declared.token.Token.{Token}
use Rattle.token_grammar.specs.Languages.{Set, apart, starts, Layered, Seq, Tail, refused, deep, Read, ◌>>=◌, tail_at, tail_ends}
use Rattle.token_grammar.proofs.Lists.{NotStart, starts-append, no_start, not_start_both, not_start_either, cancel, none_more, not_both}
use Rattle.token_grammar.proofs.Base.{Brinks, Meets, meets_start, Viable, Unique, Begins, Takes, Laws, Known, Refused, TooDeep, Meant, opening_starts}
use Rattle.token_grammar.proofs.Seqs.{seq_brink, behind, seq_unique, clash, seq_opened, seq_proper, seq_some, first_refuses, first_deep, second_refuses, second_deep}

module _ {A B : Type 0} (R : Layered A) (S : Layered B) (F : Set) (C : A → Set) (G : Set) (D : B → Set) (n : ℕ) (r : Laws R F C n) (s : Laws S G D n) (free : (a : A) → apart G (C a) ≡ true) where
  -- without the part in one reading and with it in the other
  half : (j : ℕ) (x y z u v : List Token) (d : B) → x ≡ y → S j z d → x ++ u ≡ y ++ (z ++ v) → NotStart G u → ⊥
  half j x y z u v d same h e nu =
      let rest : u ≡ z ++ v = cancel y u (z ++ v) (ap (λ l. l ++ u) (sym same) ∙ e) in
      not_both (sym (starts-append G z v (s.begins j z d h)) ∙ ap (starts G) (sym rest) ∙ nu.not_start)

  tail_up : (x : List Token) (a : A × Option B) → Tail R S n x a → Tail R S (suc n) x a
  tail_up x (a, None) h = r.up x a h
  tail_up x (a, Some b) h = (h.0, h.1, h.2, r.up h.0 a h.3, s.up h.1 b h.4)

  tail_begins : Begins (Tail R S) F
  tail_begins m x (a, None) h = r.begins m x a h
  tail_begins m x (a, Some b) h = rw h.2 (starts-append F h.0 h.1 (r.begins m h.0 a h.3))

  tail_unique : Unique (Tail R S) n (tail_ends C G D)
  tail_unique m x y u v (a, None) (b, None) h k e nu nv =
      let same = r.unique m x y u v a b h k e (not_start_both G (C a) u nu).1 (not_start_both G (C b) v nv).1 in
      (same.0, ap (λ (c : A). (c, None)) same.1)
  tail_unique m x y u v (a, None) (b, Some d) h k e nu nv =
      let parts = not_start_both G (C a) u nu in
      let line : x ++ u ≡ k.0 ++ (k.1 ++ v) = e ∙ ap (λ l. l ++ v) k.2 ∙ append_assoc k.0 k.1 v in
      let same = r.unique m x k.0 u (k.1 ++ v) a b h k.3 line parts.1 (behind R S F C G D n r s free m k.1 d k.4 v b) in
      absurd (half m x k.0 k.1 u v d same.0 k.4 line parts.0)
  tail_unique m x y u v (a, Some c) (b, None) h k e nu nv =
      let parts = not_start_both G (C b) v nv in
      let line : y ++ v ≡ h.0 ++ (h.1 ++ u) = sym e ∙ ap (λ l. l ++ u) h.2 ∙ append_assoc h.0 h.1 u in
      let same = r.unique m h.0 y (h.1 ++ u) v a b h.3 k (sym line) (behind R S F C G D n r s free n h.1 c h.4 u a) parts.1 in
      absurd (half n y h.0 h.1 v u c (sym same.0) h.4 line parts.0)
  tail_unique m x y u v (a, Some c) (b, Some d) h k e nu nv =
      let same = seq_unique R S F C G D n r s free m x y u v (a, c) (b, d) h k e nu nv in
      (same.0, ap (λ (q : A × B). (q.0, Some q.1)) same.1)

  pub tail_laws : Laws (Tail R S) F (tail_ends C G D) n
  tail_laws = record { up = tail_up; unique = tail_unique; begins = tail_begins }

module _ {A B : Type 0} (R : Layered A) (K : Brinks) (S : Layered B) (L : Brinks) (F : Set) (C : A → Set) (G : Set) (D : B → Set) (n : ℕ)
    (r : Known R K F C n) (s : Known S L G D n) (free : (a : A) → apart G (C a) ≡ true) where
  abbrev SK : Brinks
  SK = seq_brink R K L

  -- whatever reads as both parts reads so
  with_part : (m : ℕ) (used : List Token) → Viable (Seq R S) m used → Viable (Tail R S) m used
  with_part m used v = record { more = v.more; value = (v.value.0, Some v.value.1); holds = v.holds }

  tail_proper : (x : List Token) (a : A × Option B) → Tail R S n x a → (p q : List Token) → x ≡ p ++ q → SK n p → ⊥
  tail_proper x (a, Some b) h p q e k = seq_proper R K S L F C G D n r s free x (a, b) h p q e k
  tail_proper x (a, None) h p q e (inl k) = r.proper x a h p q e k
  tail_proper x (a, None) h p q e (inr k) =
      clash R K S L F C G D n r s free n n k.0 k.2 k.4 x a h (k.1 ++ q) (e ∙ ap (λ l. l ++ q) k.3 ∙ append_assoc k.0 k.1 q) (opening_starts S L G D n s k.1 k.5 q)

  pub tail_known : Known (Tail R S) SK F (tail_ends C G D) n
  tail_known = record {
    laws = λ m. tail_laws R S F C G D m (r.laws m) (s.laws m) free;
    word = record { more = r.word.more; value = (r.word.value, None); holds = r.word.holds };
    opened = λ p h. with_part (suc n) p (seq_opened R K S L F C G D n r s free p h);
    some = seq_some R K S L F C G D n r s free;
    proper = tail_proper;
  }

  -- ---- the reader

  kept : (used : List Token) → (used ≡ []) ⊎ Viable (Seq R S) (suc n) used → (used ≡ []) ⊎ Viable (Tail R S) (suc n) used
  kept used (inl e) = inl e
  kept used (inr v) = inr (with_part (suc n) used v)

  -- a refusal of both parts is one here, where the first part alone isn't read either
  refusal : (ts : List Token) (k : ℕ) (h : Refused (Seq R S) SK n F ts k)
      → ((m : ℕ) (more : List Token) (a : A) → Meets h.rest more → R m (h.used ++ more) a → ⊥) → Refused (Tail R S) SK n F ts k
  refusal ts k h alone = record {
    used = h.used;
    rest = h.rest;
    cut = h.cut;
    left = h.left;
    viable = kept h.used h.viable;
    stops = no;
    first = h.first;
    safe = h.safe;
  }
    where
      no : (m : ℕ) (more : List Token) (b : A × Option B) → Meets h.rest more → Tail R S m (h.used ++ more) b → ⊥
      no m more (a, None) meets g = alone m more a meets g
      no m more (a, Some b) meets g = h.stops m more (a, b) meets g

  deeper : (ts : List Token) (k : ℕ) → TooDeep (Seq R S) SK n ts k → TooDeep (Tail R S) SK n ts k
  deeper ts k h = record { used = h.used; token = h.token; rest = h.rest; cut = h.cut; left = h.left; brink = h.brink; safe = h.safe }

  module _ (ts rest : List Token) (a : A) (t : Takes R n C ts a rest) where
    -- where the part begins, the first part alone is not read
    alone : (used behind : List Token) → rest ≡ used ++ behind → starts G rest ≡ true → (used ≡ [] → starts G behind ≡ false)
        → (m : ℕ) (more : List Token) (b : A) → Meets behind more → R m ((t.used ++ used) ++ more) b → ⊥
    alone [] behind cut g first m more b meets h = not_both (sym g ∙ ap (starts G) cut ∙ first refl)
    alone (c ∷ used) behind cut g first m more b meets h =
        let out : NotStart (C a) (c ∷ used ++ more) = meets_start (C a) (c ∷ used) behind more (subst (NotStart (C a)) cut t.ends) meets in
        let same = (r.laws n).unique m t.used ((t.used ++ c ∷ used) ++ more) (c ∷ used ++ more) [] a b t.holds h
        (sym (append_assoc t.used (c ∷ used) more) ∙ sym (append-nil ((t.used ++ c ∷ used) ++ more))) out (no_start (C b)) in
        none_more t.used c (used ++ more) (same.0 ∙ append_assoc t.used (c ∷ used) more)

    behind_first : (x : Read B) → starts G rest ≡ true → Meant S L n G D rest x → Meant (Tail R S) SK n F (tail_ends C G D) ts (x >>= λ y. Ok ((a, Some y.0), y.1))
    unfolding second_refuses
    behind_first (Ok y) g h = record {
      used = t.used ++ h.used;
      cut = t.cut ∙ ap (λ l. t.used ++ l) h.cut ∙ sym (append_assoc t.used h.used y.1);
      holds = (t.used, h.used, refl, t.holds, h.holds);
      ends = h.ends;
    }
    behind_first (Err (refused k)) g h = refusal ts k (second_refuses R K S L F C G D n r s free ts rest a t k h) (alone h.used h.rest h.cut g h.first)
    behind_first (Err (deep k)) g h = deeper ts k (second_deep R K S L F C G D n r s free ts rest a t k h)

    nothing_behind : starts G rest ≡ false → Meant (Tail R S) SK n F (tail_ends C G D) ts (Ok ((a, None), rest))
    nothing_behind g = record { used = t.used; cut = t.cut; holds = t.holds; ends = not_start_either G (C a) rest (record { not_start = g }) t.ends }

  module _ (p : List Token → Read A) (q : List Token → Read B) (rp : (ts : List Token) → Meant R K n F C ts (p ts)) (sq : (ts : List Token) → Meant S L n G D ts (q ts)) where
    abbrev step : Read A → Read (A × Option B)
    step x = x >>= λ y. cond (starts G y.1) (q y.1 >>= λ z. Ok ((y.0, Some z.0), z.1)) (Ok ((y.0, None), y.1))

    pick : (ts : List Token) (a : A) (rest : List Token) (b : Bool) → starts G rest ≡ b → Takes R n C ts a rest
        → Meant (Tail R S) SK n F (tail_ends C G D) ts (cond b (q rest >>= λ z. Ok ((a, Some z.0), z.1)) (Ok ((a, None), rest)))
    pick ts a rest true g t = behind_first ts rest a t (q rest) g (sq rest)
    pick ts a rest false g t = nothing_behind ts rest a t g

    tail_after : (ts : List Token) (x : Read A) → Meant R K n F C ts x → Meant (Tail R S) SK n F (tail_ends C G D) ts (step x)
    unfolding first_refuses
    tail_after ts (Ok x) h = pick ts x.0 x.1 (starts G x.1) refl h
    tail_after ts (Err (refused k)) h = refusal ts k (first_refuses R K S L F C G D n r s free ts k h) (λ m more a meets g. h.stops m more a meets g)
    tail_after ts (Err (deep k)) h = deeper ts k (first_deep R K S L F C G D n r s free ts k h)

    pub tail_meant : (ts : List Token) → Meant (Tail R S) SK n F (tail_ends C G D) ts (tail_at G p q ts)
    tail_meant ts = tail_after ts (p ts) (rp ts)
