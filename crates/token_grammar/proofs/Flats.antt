-- One loop reads what the factored readers read.
use Rattle.std.proofs.Common.{ℕ, ◌≡◌, ◌∙◌, ◌≤◌, Bool, true, false, cond, List, [], ◌∷◌, length, refl, sym, ap, inl, inr, subst, suc, zero, Ok, Err, arith, length-append}
use Rattle.msc_tokens.specs.declared.token.Token.{Token}
use Rattle.token_grammar.specs.Languages.{Set, among, starts, Stop, refused, Read, ◌>>=◌, word_at, seq_at, map_at, each_at, until_at, only_at}
use Rattle.token_grammar.specs.Grammars.{Grammar}
use Rattle.token_grammar.proofs.Base.{Takes, Meant}
use Rattle.token_grammar.proofs.Levels.{reads_of, brink_of}
use Rattle.token_grammar.proofs.Rules.{Rule}
use Rattle.token_grammar.specs.Factored.{Item, Row, unrow, part_at, rows_at, flat_at}

-- where it starts so and answers, a reader uses up a token
abbrev pub Eats : {A : Type 0} → Set → (List Token → Read A) → Type 0
Eats {A = A} F p = (ts : List Token) (x : A × List Token) → starts F ts ≡ true → p ts ≡ Ok x → suc (length x.1) ≤ length ts

inj : {A : Type 0} (a b : A × List Token) → (let x : Read A = Ok a in x) ≡ Ok b → a ≡ b
inj a b e = cc

never_ok : {A : Type 0} (s : Stop) (b : A × List Token) → (let x : Read A = Err s in x) ≡ Ok b → ⊥
never_ok s b e = cc

bind_ok : {A B : Type 0} (x : Read A) (f : A × List Token → Read B) (z : B × List Token) → x >>= f ≡ Ok z → (y : A × List Token) × (x ≡ Ok y) × (f y ≡ Ok z)
bind_ok (Ok y) f z e = (y, refl, e)
bind_ok (Err s) f z e = absurd (never_ok s z e)

no_more : (F : Set) (ts : List Token) → length ts ≤ 0 → starts F ts ≡ false
no_more F [] h = refl
no_more F (t ∷ ts) h = absurd (omega arith)

module _ {A : Type 0} (F : Set) (p : List Token → Read A) where
  each_end : (k : ℕ) (ts : List Token) → starts F ts ≡ false → each_at F p k ts ≡ Ok ([], ts)
  each_end zero ts e = refl
  each_end (suc k) ts e = rw e refl

  module _ (eats : Eats F p) where
    pub each_fuel : (k j : ℕ) (ts : List Token) → length ts ≤ k → length ts ≤ j → each_at F p k ts ≡ each_at F p j ts
    each_fuel zero j ts h g = sym (each_end j ts (no_more F ts h))
    each_fuel (suc k) zero ts h g = each_end (suc k) ts (no_more F ts g)
    each_fuel (suc k) (suc j) ts h g = go (λ x s q. each_fuel k j x.1 (omega (arith, eats ts x s q)) (omega (arith, eats ts x s q))) (starts F ts) refl (p ts) refl
      where
        go : ((x : A × List Token) → starts F ts ≡ true → p ts ≡ Ok x → each_at F p k x.1 ≡ each_at F p j x.1) → (b : Bool) → starts F ts ≡ b → (x : Read A) → p ts ≡ x
            → each_at F p (suc k) ts ≡ each_at F p (suc j) ts
        go more false e x q = rw e refl
        go more true e (Err s) q = rw (e, q) refl
        go more true e (Ok x) q = rw (e, q) (ap (λ r. r >>= λ y. Ok (x.0 ∷ y.0, y.1)) (more x e q))

    each_step : (ts : List Token) → starts F ts ≡ true → each_at F p (length ts) ts ≡ (p ts >>= λ x. each_at F p (length x.1) x.1 >>= λ y. Ok (x.0 ∷ y.0, y.1))
    each_step [] e = cc
    each_step (t ∷ ts) e = go (p (t ∷ ts)) refl
      where
        go : (x : Read A) → p (t ∷ ts) ≡ x → each_at F p (length (t ∷ ts)) (t ∷ ts) ≡ (p (t ∷ ts) >>= λ x. each_at F p (length x.1) x.1 >>= λ y. Ok (x.0 ∷ y.0, y.1))
        go (Err s) q = rw (e, q) refl
        go (Ok x) q = let m = eats (t ∷ ts) x e q in rw (e, q) (ap (λ r. r >>= λ y. Ok (x.0 ∷ y.0, y.1)) (each_fuel (length ts) (length x.1) x.1 (omega (arith, m)) (omega arith)))

    each_len : (k : ℕ) (ts : List Token) (z : List A × List Token) → each_at F p k ts ≡ Ok z → length z.1 ≤ length ts
    each_len zero ts z e = let q = ap (λ c. length c.1) (inj ([], ts) z e) in omega (arith, q)
    each_len (suc k) ts z e = go (λ x z h. each_len k x.1 z h) (starts F ts) refl e
      where
        go : ((x : A × List Token) (z : List A × List Token) → each_at F p k x.1 ≡ Ok z → length z.1 ≤ length x.1) → (b : Bool) → starts F ts ≡ b
            → cond b (p ts >>= λ x. each_at F p k x.1 >>= λ y. Ok (x.0 ∷ y.0, y.1)) (Ok ([], ts)) ≡ Ok z → length z.1 ≤ length ts
        go more false s e = let q = ap (λ c. length c.1) (inj ([], ts) z e) in omega (arith, q)
        go more true s e =
            let a = bind_ok (p ts) (λ x. each_at F p k x.1 >>= λ y. Ok (x.0 ∷ y.0, y.1)) z e in
            let b = bind_ok (each_at F p k a.0.1) (λ y. Ok (a.0.0 ∷ y.0, y.1)) z a.2 in
            let q = ap (λ c. length c.1) (inj (a.0.0 ∷ b.0.0, b.0.1) z b.2) in
            let l = more a.0 b.0 b.1 in
            let m = eats ts a.0 s a.1 in
            omega (arith, q, l, m)

word_len : (w : Set) (ts : List Token) (y : Token × List Token) → word_at w ts ≡ Ok y → suc (length y.1) ≤ length ts
word_len w [] y e = absurd (never_ok (refused 0) y e)
word_len w (t ∷ ts) y e = go (among w t) e
  where
    go : (b : Bool) → cond b (Ok (t, ts)) (Err (refused (length (t ∷ ts)))) ≡ Ok y → suc (length y.1) ≤ length (t ∷ ts)
    go true e = let q = ap (λ c. length c.1) (inj (t, ts) y e) in omega (arith, q)
    go false e = absurd (never_ok (refused (length (t ∷ ts))) y e)

module _ {A B D : Type 0} (w F G : Set) (p : List Token → Read A) (x : List Token → Read B) (y : List Token → Read D) (eats : Eats F p) (eats_x : Eats G x) where
  abbrev part : List Token → Read (List A × Token)
  part = part_at w F p

  abbrev row : List Token → Read (Row A B)
  row = seq_at x part

  part_len : (ts : List Token) (z : (List A × Token) × List Token) → part ts ≡ Ok z → suc (length z.1) ≤ length ts
  part_len ts z e =
      let a = bind_ok (each_at F p (length ts) ts) (λ c. word_at w c.1 >>= λ d. Ok ((c.0, d.0), d.1)) z e in
      let b = bind_ok (word_at w a.0.1) (λ d. Ok ((a.0.0, d.0), d.1)) z a.2 in
      let q = ap (λ c. length c.1) (inj ((a.0.0, b.0.0), b.0.1) z b.2) in
      let l = each_len F p eats (length ts) ts a.0 a.1 in
      let m = word_len w a.0.1 b.0 b.1 in
      omega (arith, q, l, m)

  eats_row : Eats G row
  eats_row ts z s e =
      let a = bind_ok (x ts) (λ c. part c.1 >>= λ d. Ok ((c.0, d.0), d.1)) z e in
      let b = bind_ok (part a.0.1) (λ d. Ok ((a.0.0, d.0), d.1)) z a.2 in
      let q = ap (λ c. length c.1) (inj ((a.0.0, b.0.0), b.0.1) z b.2) in
      let l = eats_x ts a.0 s a.1 in
      let m = part_len a.0.1 b.0 b.1 in
      omega (arith, q, l, m)

  abbrev Out : Type 0
  Out = List (Item A B) × (Token × D)

  abbrev behind : List Token → Read (List (Row A B) × D)
  behind = until_at G row y

  abbrev done : Read ((List A × Token) × (List (Row A B) × D)) → Read Out
  done r = r >>= λ q. Ok (unrow q.0, q.1)

  abbrev add : Item A B → Read Out → Read Out
  add i r = r >>= λ s. Ok ((i ∷ s.0.0, s.0.1), s.1)

  abbrev first : Read (List A) → Read (List A × Token)
  first e = e >>= λ c. word_at w c.1 >>= λ d. Ok ((c.0, d.0), d.1)

  abbrev whole : Read (List A × Token) → Read ((List A × Token) × (List (Row A B) × D))
  whole e = e >>= λ z. behind z.1 >>= λ u. Ok ((z.0, u.0), u.1)

  -- an item in front of the first part
  with_v : (a : A) (os : List A) (t : Token) (v : Read (List (Row A B) × D)) → done (v >>= λ u. Ok (((a ∷ os, t), u.0), u.1)) ≡ add (inl a) (done (v >>= λ u. Ok (((os, t), u.0), u.1)))
  with_v a os t (Err s) = refl
  with_v a os t (Ok v) = go v.0.0
    where
      go : (l : List (Row A B)) → done (Ok (((a ∷ os, t), (l, v.0.1)), v.1)) ≡ add (inl a) (done (Ok (((os, t), (l, v.0.1)), v.1)))
      go [] = refl
      go ((b, z) ∷ l) = refl

  with_t : (a : A) (os : List A) (t : Read Token) → done (whole (t >>= λ d. Ok ((a ∷ os, d.0), d.1))) ≡ add (inl a) (done (whole (t >>= λ d. Ok ((os, d.0), d.1))))
  with_t a os (Err s) = refl
  with_t a os (Ok d) = with_v a os d.0 (behind d.1)

  with_o : (a : A) (e : Read (List A)) → done (whole (first (e >>= λ c. Ok (a ∷ c.0, c.1)))) ≡ add (inl a) (done (whole (first e)))
  with_o a (Err s) = refl
  with_o a (Ok c) = with_t a c.0 (word_at w c.1)

  -- a row in front of the rows
  abbrev ending : Read (List (Row A B)) → Read (List (Row A B) × D)
  ending e = e >>= λ q. y q.1 >>= λ d. Ok ((q.0, d.0), d.1)

  with_l : (t : Token) (b : B) (z : List A × Token) (l : Read (List (Row A B)))
      → done (ending (l >>= λ c. Ok ((b, z) ∷ c.0, c.1)) >>= λ u. Ok ((([], t), u.0), u.1)) ≡ add (inr (t, b)) (done (ending l >>= λ u. Ok ((z, u.0), u.1)))
  with_l t b z (Err s) = refl
  with_l t b z (Ok l) = go (y l.1)
    where
      go : (d : Read D) → done ((d >>= λ d. Ok (((b, z) ∷ l.0, d.0), d.1)) >>= λ u. Ok ((([], t), u.0), u.1)) ≡ add (inr (t, b)) (done ((d >>= λ d. Ok ((l.0, d.0), d.1)) >>= λ u. Ok ((z, u.0), u.1)))
      go (Err s) = refl
      go (Ok d) = refl

  with_x : (t : Token) (b : B) (z : Read (List A × Token))
      → done (ending ((z >>= λ d. Ok ((b, d.0), d.1)) >>= λ r. each_at G row (length r.1) r.1 >>= λ c. Ok (r.0 ∷ c.0, c.1)) >>= λ u. Ok ((([], t), u.0), u.1)) ≡ add (inr (t, b)) (done (whole z))
  with_x t b (Err s) = refl
  with_x t b (Ok z) = with_l t b z.0 (each_at G row (length z.1) z.1)

  abbrev loop : ℕ → List Token → Read Out
  loop = flat_at w F G p x y

  abbrev both : List Token → Read Out
  both ts = done (whole (part ts))

  finish_o : (k : ℕ) (o : Read A) → ((v : A × List Token) → o ≡ Ok v → loop k v.1 ≡ both v.1)
      → (o >>= λ c. add (inl c.0) (loop k c.1)) ≡ done (whole (first (o >>= λ c. each_at F p (length c.1) c.1 >>= λ d. Ok (c.0 ∷ d.0, d.1))))
  finish_o k (Err s) more = refl
  finish_o k (Ok v) more = ap (add (inl v.0)) (more v refl) ∙ sym (with_o v.0 (each_at F p (length v.1) v.1))

  finish_x : (k : ℕ) (t : Token) (o : Read B) → ((v : B × List Token) → o ≡ Ok v → loop k v.1 ≡ both v.1)
      → (o >>= λ b. add (inr (t, b.0)) (loop k b.1)) ≡ done (ending ((o >>= λ c. part c.1 >>= λ d. Ok ((c.0, d.0), d.1)) >>= λ r. each_at G row (length r.1) r.1 >>= λ c. Ok (r.0 ∷ c.0, c.1)) >>= λ u. Ok ((([], t), u.0), u.1))
  finish_x k t (Err s) more = refl
  finish_x k t (Ok v) more = ap (add (inr (t, v.0))) (more v refl) ∙ sym (with_x t v.0 (part v.1))

  finish_y : (t : Token) (d : Read D) (rest : List Token) → (d >>= λ d. (let r : Read Out = Ok (([], (t, d.0)), d.1) in r)) ≡ done ((d >>= λ d. Ok (([], d.0), d.1)) >>= λ u. Ok ((([], t), u.0), u.1))
  finish_y t (Err s) rest = refl
  finish_y t (Ok d) rest = refl

  finish_w : (k : ℕ) (o : Read Token) → ((t : Token × List Token) (v : B × List Token) → o ≡ Ok t → starts G t.1 ≡ true → x t.1 ≡ Ok v → loop k v.1 ≡ both v.1)
      → (o >>= λ t. cond (starts G t.1) (x t.1 >>= λ b. add (inr (t.0, b.0)) (loop k b.1)) (y t.1 >>= λ d. Ok (([], (t.0, d.0)), d.1))) ≡ done (whole (o >>= λ d. Ok (([], d.0), d.1)))
  finish_w k (Err s) more = refl
  finish_w k (Ok t) more = go (starts G t.1) refl
    where
      go : (b : Bool) → starts G t.1 ≡ b → cond b (x t.1 >>= λ b. add (inr (t.0, b.0)) (loop k b.1)) (y t.1 >>= λ d. Ok (([], (t.0, d.0)), d.1)) ≡ done (behind t.1 >>= λ u. Ok ((([], t.0), u.0), u.1))
      go true e = finish_x k t.0 (x t.1) (λ v q. more t v refl e q) ∙ sym (ap (λ c. done (ending c >>= λ u. Ok ((([], t.0), u.0), u.1))) (each_step G row eats_row t.1 e))
      go false e = finish_y t.0 (y t.1) t.1 ∙ sym (ap (λ c. done (ending c >>= λ u. Ok ((([], t.0), u.0), u.1))) (each_end G row (length t.1) t.1 e))

  pub flat_same : (k : ℕ) (ts : List Token) → length ts ≤ k → loop k ts ≡ map_at unrow (rows_at w F G p x y) ts
  flat_same zero ts h = none ts h
    where
      none : (ts : List Token) → length ts ≤ 0 → loop 0 ts ≡ both ts
      none [] h = refl
      none (t ∷ ts) h = absurd (omega arith)
  flat_same (suc k) ts h =
      go (λ v e q. flat_same k v.1 (omega (arith, eats ts v e q))) (λ t v q s r. flat_same k v.1 (omega (arith, word_len w ts t q, eats_x t.1 v s r))) (starts F ts) refl
    where
      go : ((v : A × List Token) → starts F ts ≡ true → p ts ≡ Ok v → loop k v.1 ≡ both v.1)
          → ((t : Token × List Token) (v : B × List Token) → word_at w ts ≡ Ok t → starts G t.1 ≡ true → x t.1 ≡ Ok v → loop k v.1 ≡ both v.1)
          → (b : Bool) → starts F ts ≡ b → loop (suc k) ts ≡ both ts
      go more_o more_x true e = rw e (finish_o k (p ts) (λ v q. more_o v e q) ∙ sym (ap (λ c. done (whole (first c))) (each_step F p eats ts e)))
      go more_o more_x false e = rw e (finish_w k (word_at w ts) more_x ∙ sym (ap (λ c. done (whole (first c))) (each_end F p (length ts) ts e)))

-- the restriction is of no use in the loop, which has tested it
pub flat_only : {A B D : Type 0} (w F G : Set) (p : List Token → Read A) (x : List Token → Read B) (y : List Token → Read D) (k : ℕ) (ts : List Token)
    → flat_at w F G (only_at F p) x y k ts ≡ flat_at w F G p x y k ts
flat_only w F G p x y zero ts = refl
flat_only {A = A} {B = B} {D = D} w F G p x y (suc k) ts = go (λ u. flat_only w F G p x y k u) (starts F ts) refl
  where
    o_case : (o : Read A) → ((u : List Token) → flat_at w F G (only_at F p) x y k u ≡ flat_at w F G p x y k u)
        → (o >>= λ o. flat_at w F G (only_at F p) x y k o.1 >>= λ r. Ok ((inl o.0 ∷ r.0.0, r.0.1), r.1)) ≡ (let z : Read (List (Item A B) × (Token × D)) = o >>= λ o. flat_at w F G p x y k o.1 >>= λ r. Ok ((inl o.0 ∷ r.0.0, r.0.1), r.1) in z)
    o_case (Err s) more = refl
    o_case (Ok o) more = ap (λ c. c >>= λ r. Ok ((inl o.0 ∷ r.0.0, r.0.1), r.1)) (more o.1)

    x_case : (t : Token) (o : Read B) → ((u : List Token) → flat_at w F G (only_at F p) x y k u ≡ flat_at w F G p x y k u)
        → (o >>= λ b. flat_at w F G (only_at F p) x y k b.1 >>= λ r. Ok ((inr (t, b.0) ∷ r.0.0, r.0.1), r.1)) ≡ (let z : Read (List (Item A B) × (Token × D)) = o >>= λ b. flat_at w F G p x y k b.1 >>= λ r. Ok ((inr (t, b.0) ∷ r.0.0, r.0.1), r.1) in z)
    x_case t (Err s) more = refl
    x_case t (Ok o) more = ap (λ c. c >>= λ r. Ok ((inr (t, o.0) ∷ r.0.0, r.0.1), r.1)) (more o.1)

    w_case : (o : Read Token) → ((u : List Token) → flat_at w F G (only_at F p) x y k u ≡ flat_at w F G p x y k u)
        → (o >>= λ t. cond (starts G t.1) (x t.1 >>= λ b. flat_at w F G (only_at F p) x y k b.1 >>= λ r. Ok ((inr (t.0, b.0) ∷ r.0.0, r.0.1), r.1)) (y t.1 >>= λ d. Ok (([], (t.0, d.0)), d.1)))
        ≡ (let z : Read (List (Item A B) × (Token × D)) = o >>= λ t. cond (starts G t.1) (x t.1 >>= λ b. flat_at w F G p x y k b.1 >>= λ r. Ok ((inr (t.0, b.0) ∷ r.0.0, r.0.1), r.1)) (y t.1 >>= λ d. Ok (([], (t.0, d.0)), d.1)) in z)
    w_case (Err s) more = refl
    w_case (Ok t) more = ap (λ c. cond (starts G t.1) c (y t.1 >>= λ d. Ok (([], (t.0, d.0)), d.1))) (x_case t.0 (x t.1) more)

    go : ((u : List Token) → flat_at w F G (only_at F p) x y k u ≡ flat_at w F G p x y k u) → (b : Bool) → starts F ts ≡ b → flat_at w F G (only_at F p) x y (suc k) ts ≡ flat_at w F G p x y (suc k) ts
    go more true e = rw e (o_case (p ts) more)
    go more false e = rw e (w_case (word_at w ts) more)

-- an exact reader uses up a token
pub eats_of : {A : Type 0} (R : ℕ → Grammar A) (n : ℕ) (F : Set) (C : A → Set) (p : List Token → Read A) → Rule R n F C p → (s : Set) → Eats s p
eats_of R n F C p rule s ts x e q =
    let h : Takes (reads_of R) n C ts x.0 x.1 = subst (Meant (reads_of R) (brink_of R) n F C ts) q (rule.meant ts) in
    let l = ap (λ c. length c) h.cut in
    let m = some h.used ((rule.known.laws 0).begins n h.used x.0 h.holds) in
    omega (arith, l, m, length-append h.used x.1)
  where
    some : (u : List Token) → starts F u ≡ true → 1 ≤ length u
    some [] h = cc
    some (t ∷ u) h = omega arith

-- a reader that says the same is exact
pub rule_by : {A : Type 0} (R : ℕ → Grammar A) (n : ℕ) (F : Set) (C : A → Set) (p q : List Token → Read A) → ((ts : List Token) → p ts ≡ q ts) → Rule R n F C p → Rule R n F C q
rule_by R n F C p q same rule = record { known = rule.known; meant = λ ts. subst (Meant (reads_of R) (brink_of R) n F C ts) (same ts) (rule.meant ts) }
