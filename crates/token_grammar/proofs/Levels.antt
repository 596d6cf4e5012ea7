-- A word that opens a level, and what stands in the level.
use Rattle.std.proofs.Common.{ℕ, ◌≡◌, ◌∙◌, ◌++◌, ◌⊎◌, Bool, true, false, cond, List, [], ◌∷◌, length, refl, sym, ap, ap₂, inl, inr, subst, suc, zero, Ok, Err, Some, None}
use Rattle.msc_tokens.specs.declared.token.Token.{Token}
use Rattle.token_grammar.specs.Classes.{token_of}
use Rattle.token_grammar.specs.Grammars.{Grammar, opens, below}
use Rattle.token_grammar.specs.Languages.{Set, among, starts, Layered, refused, deep, Read, opens_at}
use Rattle.token_grammar.proofs.Lists.{heads, starts_some, some_here}
use Rattle.token_grammar.proofs.Base.{Brinks, Meets, Viable, Unique, Begins, Laws, Known, Refused, Meant}

abbrev pub reads_of : {A : Type 0} → (ℕ → Grammar A) → Layered A
reads_of R n = (R n).reads

abbrev pub brink_of : {A : Type 0} → (ℕ → Grammar A) → Brinks
brink_of R n = (R n).brink

abbrev pub Opened : {A : Type 0} → Set → (ℕ → Grammar A) → ℕ → Grammar A
Opened s R n = opens s (below R n)

module _ {A : Type 0} (s : Set) (G : ℕ → Grammar A) (C : A → Set) where
  abbrev R : Layered A
  R n = (G n).reads

  abbrev K : Brinks
  K n = (G n).brink

  abbrev OR : Layered A
  OR n = (opens s (below G n)).reads

  abbrev OK : Brinks
  OK n = (opens s (below G n)).brink

  opens_begins : Begins OR s
  opens_begins zero x a h = absurd h
  opens_begins (suc m) x a h = rw h.2 h.3

  pub closed_laws : Laws OR s C 0
  closed_laws = record { up = λ x a h. absurd h; unique = λ m x y u v a b h. absurd h; begins = opens_begins }

  pub opens_laws : (F : Set) (n : ℕ) → Laws R F C n → Laws OR s C (suc n)
  opens_laws F n r = record { up = λ x a h. (h.0, h.1, h.2, h.3, r.up h.1 a h.4); unique = unique; begins = opens_begins }
    where
      unique : Unique OR (suc n) C
      unique zero x y u v a b h k e nu nv = absurd k
      unique (suc m) x y u v a b h k e nu nv =
          let hd = heads h.0 k.0 (h.1 ++ u) (k.1 ++ v) (sym (ap (λ l. l ++ u) h.2) ∙ e ∙ ap (λ l. l ++ v) k.2) in
          let same = r.unique m h.1 k.1 u v a b h.4 k.4 hd.1 nu nv in
          (h.2 ∙ ap₂ (λ t l. t ∷ l) hd.0 same.0 ∙ sym k.2, same.1)

  pub levels_laws : (F : Set) → ((m : ℕ) → Laws R F C m) → (n : ℕ) → Laws OR s C n
  levels_laws F r zero = closed_laws
  levels_laws F r (suc n) = opens_laws F n (r n)

  in_level : (n : ℕ) (t : Token) (used : List Token) → among s t ≡ true → Viable R n used → Viable OR (suc n) (t ∷ used)
  in_level n t used e v = record { more = v.more; value = v.value; holds = (t, used ++ v.more, refl, e, v.holds) }

  module _ where
    opens_some : (n : ℕ) (p : List Token) → OK n p → p ≡ [] → ⊥
    opens_some zero p h e = some_here [] h.0 [] (sym e ∙ h.1)
    opens_some (suc n) p h e = some_here [] h.0 h.1 (sym e ∙ h.2)

    nothing_before : (n : ℕ) (p q : List Token) → [] ≡ p ++ q → OK n p → ⊥
    nothing_before n [] q e k = opens_some n [] k refl
    nothing_before n (c ∷ p) q e k = some_here [] c (p ++ q) e

    no_opens : (n k : ℕ) (ts : List Token) → starts s ts ≡ false → k ≡ length ts → Refused OR OK n s ts k
    no_opens n k ts e left = record { used = []; rest = ts; cut = refl; left = left; viable = inl refl; stops = no ts e; first = λ z. e; safe = nothing_before n }
      where
        clash_bool : true ≡ false → ⊥
        clash_bool z = cc

        no : (ts : List Token) → starts s ts ≡ false → (m : ℕ) (more : List Token) (b : A) → Meets ts more → OR m more b → ⊥
        no ts e m [] b meets h = starts_some s [] (opens_begins m [] b h) refl
        no [] e m (c ∷ more) b meets h = meets
        no (t ∷ ts) e m (c ∷ more) b meets h = clash_bool (sym (opens_begins m (c ∷ more) b h) ∙ subst (λ (d : Token). among s d ≡ false) meets e)

    pub opens_shut : (ts : List Token) → Meant OR OK 0 s C ts (opens_at s None ts)
    opens_shut [] = no_opens 0 0 [] refl refl
    opens_shut (t ∷ ts) = pick (among s t) refl
      where
        pick : (b : Bool) → among s t ≡ b → Meant OR OK 0 s C (t ∷ ts) (Err (cond b (deep (length (t ∷ ts))) (refused (length (t ∷ ts)))))
        pick true e = record { used = []; token = t; rest = ts; cut = refl; left = refl; brink = (t, refl, e); safe = nothing_before 0 }
        pick false e = no_opens 0 _ (t ∷ ts) e refl

    -- no level is left
    module _ (F : Set) (r : (m : ℕ) → Laws R F C m) (base : Viable R 0 []) (c : List ℕ) (e : among s (token_of c) ≡ true) where
      pub shut_known : Known OR OK s C 0
      shut_known = record {
        laws = levels_laws F r;
        word = in_level_word;
        opened = λ p h. subst (Viable OR 1) (sym h.1) (in_level 0 h.0 [] h.2 base);
        some = opens_some 0;
        proper = λ x a h p q e k. h;
      }
        where
          in_level_word : Viable OR 1 []
          in_level_word = record { more = (token_of c) ∷ base.more; value = base.value; holds = (token_of c, base.more, refl, e, base.holds) }

    -- a level is left
    module _ (F : Set) (n : ℕ) (r : Known R K F C n) where
      pub opens_known : (c : List ℕ) → among s (token_of c) ≡ true → Known OR OK s C (suc n)
      opens_known c e = record {
        laws = levels_laws F r.laws;
        word = record { more = (token_of c) ∷ r.word.more; value = r.word.value; holds = (token_of c, r.word.more, refl, e, r.word.holds) };
        opened = λ p h. subst (Viable OR (suc (suc n))) (sym h.2) (in_level (suc n) h.0 h.1 h.3 (r.opened h.1 h.4));
        some = opens_some (suc n);
        proper = λ x a h p q e k.
            let hd = heads h.0 k.0 h.1 (k.1 ++ q) (sym h.2 ∙ e ∙ ap (λ l. l ++ q) k.2) in
            r.proper h.1 a h.4 k.1 q hd.1 k.4;
      }

      module _ (p : List Token → Read A) (rp : (ts : List Token) → Meant R K n F C ts (p ts)) where
        inner_safe : (t : Token) (used : List Token) → ((p q : List Token) → used ≡ p ++ q → K n p → ⊥) → (p q : List Token) → t ∷ used ≡ p ++ q → OK (suc n) p → ⊥
        inner_safe t used safe p q e k =
            let hd = heads t k.0 used (k.1 ++ q) (e ∙ ap (λ l. l ++ q) k.2) in
            safe k.1 q hd.1 k.4

        inner : (t : Token) (ts : List Token) (x : Read A) → among s t ≡ true → Meant R K n F C ts x → Meant OR OK (suc n) s C (t ∷ ts) x
        inner t ts (Ok x) e h = record { used = t ∷ h.used; cut = ap (λ l. t ∷ l) h.cut; holds = (t, h.used, refl, e, h.holds); ends = h.ends }
        inner t ts (Err (refused k)) e h = record {
          used = t ∷ h.used;
          rest = h.rest;
          cut = ap (λ l. t ∷ l) h.cut;
          left = h.left;
          viable = inr (deeper h.viable);
          stops = no;
          first = λ q. absurd (some_here [] t h.used (sym q));
          safe = inner_safe t h.used h.safe;
        }
          where
            deeper : (h.used ≡ []) ⊎ Viable R (suc n) h.used → Viable OR (suc (suc n)) (t ∷ h.used)
            deeper (inl z) = subst (λ l. Viable OR (suc (suc n)) (t ∷ l)) (sym z) (in_level (suc n) t [] e r.word)
            deeper (inr v) = in_level (suc n) t h.used e v

            no : (m : ℕ) (more : List Token) (b : A) → Meets h.rest more → OR m (t ∷ h.used ++ more) b → ⊥
            no zero more b meets g = g
            no (suc m) more b meets g =
                let hd = heads t g.0 (h.used ++ more) g.1 g.2 in
                h.stops m more b meets (subst (λ l. R m l b) (sym hd.1) g.4)
        inner t ts (Err (deep k)) e h = record {
          used = t ∷ h.used;
          token = h.token;
          rest = h.rest;
          cut = ap (λ l. t ∷ l) h.cut;
          left = h.left;
          brink = (t, h.used ++ h.token ∷ [], refl, e, h.brink);
          safe = inner_safe t h.used h.safe;
        }

        pub opens_meant : (ts : List Token) → Meant OR OK (suc n) s C ts (opens_at s (Some p) ts)
        opens_meant [] = no_opens (suc n) 0 [] refl refl
        opens_meant (t ∷ ts) = pick (among s t) refl
          where
            pick : (b : Bool) → among s t ≡ b → Meant OR OK (suc n) s C (t ∷ ts) (cond b (p ts) (Err (refused (length (t ∷ ts)))))
            pick true e = inner t ts (p ts) e (rp ts)
            pick false e = no_opens (suc n) _ (t ∷ ts) e refl
