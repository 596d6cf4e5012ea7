-- A choice by the second token: the one begins with a word and something that the other can't go on with behind that word.
use Rattle.std.proofs.Common.{ℕ, ◌≡◌, ◌∙◌, ◌++◌, ◌⊎◌, ◌&&◌, Bool, true, false, cond, List, [], ◌∷◌, refl, sym, ap, inl, inr, subst, suc, append_assoc, append-nil, Ok, Err}
use Rattle.msc_tokens.specs.declared.token.Token.{Token}
use Rattle.token_grammar.specs.Languages.{Set, among, within, starts, refused, deep, Read, second, second_at}
use Rattle.token_grammar.specs.Grammars.{Grammar, or}
use Rattle.token_grammar.proofs.Lists.{not_both, within_start}
use Rattle.token_grammar.proofs.Base.{Viable, Laws, Known, Meant, Meets, Unique}
use Rattle.token_grammar.proofs.Levels.{reads_of, brink_of}
use Rattle.token_grammar.proofs.Rules.{Law, Rule}

second-append : (s t : Set) (x y : List Token) → second s t x ≡ true → second s t (x ++ y) ≡ true
second-append s t [] y h = cc
second-append s t (c ∷ []) y h = and_false (among s c) h
  where
    and_false : (b : Bool) → (b && false) ≡ true → (b && starts t y) ≡ true
    and_false true h = cc
    and_false false h = h
second-append s t (c ∷ d ∷ x) y h = h

module _ {A : Type 0} (R S : ℕ → Grammar A) (s t : Set) (G : Set) (C : A → Set)
    (is_second : (m : ℕ) (x : List Token) (a : A) → (R m).reads x a → second s t x ≡ true)
    (never_second : (m : ℕ) (x : List Token) (a : A) → (S m).reads x a → (v : List Token) → second s t (x ++ v) ≡ false) where
  abbrev Both : ℕ → Grammar A
  Both m = or (R m) (S m)

  starts_first : (x : List Token) → second s t x ≡ true → starts s x ≡ true
  starts_first [] h = cc
  starts_first (c ∷ x) h = left (among s c) (starts t x) h
    where
      left : (a b : Bool) → (a && b) ≡ true → a ≡ true
      left true b e = refl
      left false b e = cc

  crossed : (i j : ℕ) (x y u v : List Token) (a b : A) → (R i).reads x a → (S j).reads y b → x ++ u ≡ y ++ v → ⊥
  crossed i j x y u v a b h k e =
      not_both (sym (second-append s t x u (is_second i x a h)) ∙ ap (second s t) e ∙ never_second j y b k v)

  pub second_law : (n : ℕ) → Law R n s C → Law S n G C → within s G ≡ true → Law Both n G C
  second_law n law lbw less = let r = law.laws in let k = lbw.laws in record { laws = record { up = up r k; unique = unique r k; begins = begins k } }
    where
      up : Laws (reads_of R) s C n → Laws (reads_of S) G C n → (x : List Token) (a : A) → (Both n).reads x a → (Both (suc n)).reads x a
      up r k x a (inl h) = inl (r.up x a h)
      up r k x a (inr h) = inr (k.up x a h)

      unique : Laws (reads_of R) s C n → Laws (reads_of S) G C n → Unique (reads_of Both) n C
      unique r k m x y u v a b (inl h) (inl g) e nu nv = r.unique m x y u v a b h g e nu nv
      unique r k m x y u v a b (inl h) (inr g) e nu nv = absurd (crossed n m x y u v a b h g e)
      unique r k m x y u v a b (inr h) (inl g) e nu nv = absurd (crossed m n y x v u b a g h (sym e))
      unique r k m x y u v a b (inr h) (inr g) e nu nv = k.unique m x y u v a b h g e nu nv

      begins : Laws (reads_of S) G C n → (m : ℕ) (x : List Token) (a : A) → (Both m).reads x a → starts G x ≡ true
      begins k m x a (inl h) = within_start s G x less (starts_first x (is_second m x a h))
      begins k m x a (inr h) = k.begins m x a h

  module _ (n : ℕ) {p q : List Token → Read A} (r : Rule R n s C p) (k : Rule S n G C q) (less : within s G ≡ true)
      (begun : (c d : Token) → among s c ≡ true → among t d ≡ true → Viable (reads_of R) (suc n) (c ∷ d ∷ []))
      (brink_second : (x : List Token) → (R n).brink x → second s t x ≡ true)
      (brink_never : (x : List Token) → (S n).brink x → (v : List Token) → second s t (x ++ v) ≡ false) where
    second_known : Known (reads_of Both) (brink_of Both) G C n
    second_known = record {
      laws = λ m. (second_law m (record { laws = r.known.laws m }) (record { laws = k.known.laws m }) less).laws;
      word = let w = r.known.word in record { more = w.more; value = w.value; holds = inl w.holds };
      opened = opened;
      some = some;
      proper = proper;
    }
      where
        opened : (x : List Token) → (Both n).brink x → Viable (reads_of Both) (suc n) x
        opened x (inl h) = let v = r.known.opened x h in record { more = v.more; value = v.value; holds = inl v.holds }
        opened x (inr h) = let v = k.known.opened x h in record { more = v.more; value = v.value; holds = inr v.holds }

        some : (x : List Token) → (Both n).brink x → x ≡ [] → ⊥
        some x (inl h) = r.known.some x h
        some x (inr h) = k.known.some x h

        proper : (x : List Token) (a : A) → (Both n).reads x a → (y z : List Token) → x ≡ y ++ z → (Both n).brink y → ⊥
        proper x a (inl h) y z e (inl g) = r.known.proper x a h y z e g
        proper x a (inl h) y z e (inr g) = not_both (sym (is_second n x a h) ∙ ap (second s t) e ∙ brink_never y g z)
        proper x a (inr h) y z e (inl g) = not_both (sym (second-append s t y z (brink_second y g)) ∙ ap (second s t) (sym e ∙ sym (append-nil x)) ∙ never_second n x a h [])
        proper x a (inr h) y z e (inr g) = k.known.proper x a h y z e g

    and_both : (a b : Bool) → (a && b) ≡ true → (a ≡ true) × (b ≡ true)
    and_both true b e = (refl, e)
    and_both false b e = cc

    -- what the one refuses stands behind both tokens
    refused_late : (ts used rest : List Token) → second s t ts ≡ true → ts ≡ used ++ rest → ((m : ℕ) (more : List Token) (b : A) → Meets rest more → (R m).reads (used ++ more) b → ⊥) → second s t used ≡ true
    refused_late ts [] rest h e stops = absurd (go rest (subst (λ l. second s t l ≡ true) e h) stops)
      where
        go : (rest : List Token) → second s t rest ≡ true → ((m : ℕ) (more : List Token) (b : A) → Meets rest more → (R m).reads more b → ⊥) → ⊥
        go [] h stops = cc
        go (c ∷ []) h stops = no (among s c) h
          where
            no : (a : Bool) → (a && false) ≡ true → ⊥
            no true h = cc
            no false h = cc
        go (c ∷ d ∷ rest) h stops = let b = and_both (among s c) (among t d) h in let v = begun c d b.0 b.1 in stops (suc n) (c ∷ d ∷ v.more) v.value refl v.holds
    refused_late ts (c ∷ []) rest h e stops = absurd (go rest (subst (λ l. second s t l ≡ true) e h) stops)
      where
        go : (rest : List Token) → second s t (c ∷ rest) ≡ true → ((m : ℕ) (more : List Token) (b : A) → Meets rest more → (R m).reads (c ∷ more) b → ⊥) → ⊥
        go [] h stops = no (among s c) h
          where
            no : (a : Bool) → (a && false) ≡ true → ⊥
            no true h = cc
            no false h = cc
        go (d ∷ rest) h stops = let b = and_both (among s c) (among t d) h in let v = begun c d b.0 b.1 in stops (suc n) (d ∷ v.more) v.value refl v.holds
    refused_late ts (c ∷ d ∷ used) rest h e stops = subst (λ l. second s t l ≡ true) e h

    left : (ts : List Token) (x : Read A) → second s t ts ≡ true → Meant (reads_of R) (brink_of R) n s C ts x → Meant (reads_of Both) (brink_of Both) n G C ts x
    left ts (Ok x) e h = record { used = h.used; cut = h.cut; holds = inl h.holds; ends = h.ends }
    left ts (Err (refused j)) e h =
        let late = refused_late ts h.used h.rest e h.cut h.stops in
        record {
          used = h.used;
          rest = h.rest;
          cut = h.cut;
          left = h.left;
          viable = kept h.viable;
          stops = stops late;
          first = λ q. absurd (some late q);
          safe = safe;
        }
      where
        kept : (h.used ≡ []) ⊎ Viable (reads_of R) (suc n) h.used → (h.used ≡ []) ⊎ Viable (reads_of Both) (suc n) h.used
        kept (inl q) = inl q
        kept (inr v) = inr (record { more = v.more; value = v.value; holds = inl v.holds })

        some : second s t h.used ≡ true → h.used ≡ [] → ⊥
        some l q = not_both (sym (subst (λ u. second s t u ≡ true) q l))

        stops : second s t h.used ≡ true → (m : ℕ) (more : List Token) (b : A) → Meets h.rest more → (Both m).reads (h.used ++ more) b → ⊥
        stops l m more b meets (inl g) = h.stops m more b meets g
        stops l m more b meets (inr g) = not_both (sym (second-append s t h.used more l) ∙ ap (second s t) (sym (append-nil (h.used ++ more))) ∙ never_second m (h.used ++ more) b g [])

        safe : (y z : List Token) → h.used ≡ y ++ z → (Both n).brink y → ⊥
        safe y z q (inl g) = h.safe y z q g
        safe y z q (inr g) = not_both (sym e ∙ ap (second s t) (h.cut ∙ ap (λ l. l ++ h.rest) q ∙ append_assoc y z h.rest) ∙ brink_never y g (z ++ h.rest))
    left ts (Err (deep j)) e h = record { used = h.used; token = h.token; rest = h.rest; cut = h.cut; left = h.left; brink = inl h.brink; safe = safe }
      where
        safe : (y z : List Token) → h.used ≡ y ++ z → (Both n).brink y → ⊥
        safe y z q (inl g) = h.safe y z q g
        safe y z q (inr g) = not_both (sym e ∙ ap (second s t) (h.cut ∙ ap (λ l. l ++ h.token ∷ h.rest) q ∙ append_assoc y z (h.token ∷ h.rest)) ∙ brink_never y g (z ++ h.token ∷ h.rest))

    right_safe : (ts used rest : List Token) → second s t ts ≡ false → ts ≡ used ++ rest → ((y z : List Token) → used ≡ y ++ z → (S n).brink y → ⊥) → (y z : List Token) → used ≡ y ++ z → (Both n).brink y → ⊥
    right_safe ts used rest e cut safe y z q (inr g) = safe y z q g
    right_safe ts used rest e cut safe y z q (inl g) =
        not_both (sym (second-append s t y (z ++ rest) (brink_second y g)) ∙ ap (second s t) (sym (cut ∙ ap (λ l. l ++ rest) q ∙ append_assoc y z rest)) ∙ e)

    -- nothing of the first stands there
    other : (ts used rest more : List Token) → second s t ts ≡ false → ts ≡ used ++ rest → (used ≡ [] → starts G rest ≡ false) → Meets rest more → second s t (used ++ more) ≡ true → ⊥
    other ts [] rest [] e cut first meets h = not_both (sym h)
    other ts [] [] (d ∷ more) e cut first meets h = meets
    other ts [] (c ∷ rest) (d ∷ more) e cut first meets h =
        not_both (sym (within_start s G (c ∷ rest) less (subst (λ (f : Token). among s f ≡ true) (sym meets) (starts_first (d ∷ more) h))) ∙ first refl)
    other ts (c ∷ []) rest [] e cut first meets h = no (among s c) h
      where
        no : (a : Bool) → (a && false) ≡ true → ⊥
        no true h = cc
        no false h = cc
    other ts (c ∷ []) [] (d ∷ more) e cut first meets h = meets
    other ts (c ∷ []) (f ∷ rest) (d ∷ more) e cut first meets h =
        not_both (sym h ∙ subst (λ (g : Token). (among s c && among t g) ≡ false) meets (subst (λ l. second s t l ≡ false) cut e))
    other ts (c ∷ d ∷ used) rest more e cut first meets h = not_both (sym h ∙ subst (λ l. second s t l ≡ false) cut e)

    right : (ts : List Token) (x : Read A) → second s t ts ≡ false → Meant (reads_of S) (brink_of S) n G C ts x → Meant (reads_of Both) (brink_of Both) n G C ts x
    right ts (Ok x) e h = record { used = h.used; cut = h.cut; holds = inr h.holds; ends = h.ends }
    right ts (Err (refused j)) e h = record {
      used = h.used;
      rest = h.rest;
      cut = h.cut;
      left = h.left;
      viable = kept h.viable;
      stops = stops;
      first = h.first;
      safe = right_safe ts h.used h.rest e h.cut h.safe;
    }
      where
        kept : (h.used ≡ []) ⊎ Viable (reads_of S) (suc n) h.used → (h.used ≡ []) ⊎ Viable (reads_of Both) (suc n) h.used
        kept (inl q) = inl q
        kept (inr v) = inr (record { more = v.more; value = v.value; holds = inr v.holds })

        stops : (m : ℕ) (more : List Token) (b : A) → Meets h.rest more → (Both m).reads (h.used ++ more) b → ⊥
        stops m more b meets (inl g) = other ts h.used h.rest more e h.cut h.first meets (is_second m (h.used ++ more) b g)
        stops m more b meets (inr g) = h.stops m more b meets g
    right ts (Err (deep j)) e h = record {
      used = h.used;
      token = h.token;
      rest = h.rest;
      cut = h.cut;
      left = h.left;
      brink = inr h.brink;
      safe = right_safe ts h.used (h.token ∷ h.rest) e h.cut h.safe;
    }

    pub second_rule : Rule Both n G C (second_at s t p q)
    second_rule = record { known = second_known; meant = λ ts. pick ts (second s t ts) refl }
      where
        pick : (ts : List Token) (b : Bool) → second s t ts ≡ b → Meant (reads_of Both) (brink_of Both) n G C ts (cond b (p ts) (q ts))
        pick ts true e = left ts (p ts) e (r.meant ts)
        pick ts false e = right ts (q ts) e (k.meant ts)
