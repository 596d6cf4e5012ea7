-- What starts with some of a language's first tokens.
use Rattle.std.proofs.Common.{ℕ, ◌≡◌, ◌∙◌, ◌++◌, ◌⊎◌, Bool, true, false, cond, List, [], ◌∷◌, length, refl, sym, ap, inl, inr, subst, suc, Ok, Err}
use Rattle.msc_tokens.specs.declared.token.Token.{Token}
use Rattle.token_grammar.specs.Languages.{Set, among, starts, refused, deep, Read, only_at}
use Rattle.token_grammar.specs.Grammars.{Grammar}
use Rattle.token_grammar.proofs.Lists.{starts-append, starts_some, not_both}
use Rattle.token_grammar.proofs.Base.{Viable, Known, Refused, Meant, Meets}
use Rattle.token_grammar.proofs.Levels.{reads_of, brink_of}
use Rattle.token_grammar.proofs.Rules.{Law, Rule}

abbrev pub only : {A : Type 0} → Set → Grammar A → Grammar A
only s R = record { reads = λ x a. R.reads x a × (starts s x ≡ true); brink = λ p. R.brink p × (starts s p ≡ true) }

abbrev pub Only : {A : Type 0} → Set → (ℕ → Grammar A) → ℕ → Grammar A
Only s R n = only s (R n)

module _ {A : Type 0} {R : ℕ → Grammar A} {F : Set} {C : A → Set} {n : ℕ} (s : Set) where
  pub only_law : Law R n F C → Law (Only s R) n s C
  only_law law = let r = law.laws in record {
    laws = record {
      up = λ x a h. (r.up x a h.0, h.1);
      unique = λ m x y u v a b h k. r.unique m x y u v a b h.0 k.0;
      begins = λ m x a h. h.1;
    };
  }

module _ {A : Type 0} {R : ℕ → Grammar A} {F : Set} {C : A → Set} {n : ℕ} {p : List Token → Read A} (s : Set) (less : (ts : List Token) → starts s ts ≡ true → starts F ts ≡ true)
    (word : Viable (reads_of (Only s R)) (suc n) []) (r : Rule R n F C p) where
  prefix : (used more : List Token) → starts s used ≡ true → starts s (used ++ more) ≡ true
  prefix used more h = starts-append s used more h

  begun : (used rest : List Token) → starts s (used ++ rest) ≡ true → (used ≡ [] → ⊥) → starts s used ≡ true
  begun [] rest h some = absurd (some refl)
  begun (t ∷ used) rest h some = h

  only_known : Known (reads_of (Only s R)) (brink_of (Only s R)) s C n
  only_known = record {
    laws = λ m. (only_law {R = R} {n = m} s (record { laws = r.known.laws m })).laws;
    word = word;
    opened = λ q h. let v = r.known.opened q h.0 in record { more = v.more; value = v.value; holds = (v.holds, prefix q v.more h.1) };
    some = λ q h. r.known.some q h.0;
    proper = λ x a h q z e k. r.known.proper x a h.0 q z e k.0;
  }

  step : (ts : List Token) → starts s ts ≡ true → (x : Read A) → Meant (reads_of R) (brink_of R) n F C ts x → Meant (reads_of (Only s R)) (brink_of (Only s R)) n s C ts x
  step ts e (Ok x) h = record {
    used = h.used;
    cut = h.cut;
    ends = h.ends;
    holds = (h.holds, begun h.used x.1 (subst (λ l. starts s l ≡ true) h.cut e) (λ q. starts_some F h.used ((r.known.laws 0).begins n h.used x.0 h.holds) q));
  }
  step ts e (Err (refused k)) h = record {
    used = h.used;
    rest = h.rest;
    cut = h.cut;
    left = h.left;
    viable = viable h.viable;
    stops = λ m more b meets g. h.stops m more b meets g.0;
    first = λ q. absurd (some q);
    safe = λ a b q k. h.safe a b q k.0;
  }
    where
      some : h.used ≡ [] → ⊥
      some q = not_both (sym (less h.rest (subst (λ l. starts s l ≡ true) (h.cut ∙ ap (λ l. l ++ h.rest) q) e)) ∙ h.first q)

      viable : (h.used ≡ []) ⊎ Viable (reads_of R) (suc n) h.used → (h.used ≡ []) ⊎ Viable (reads_of (Only s R)) (suc n) h.used
      viable (inl q) = inl q
      viable (inr v) = inr (record { more = v.more; value = v.value; holds = (v.holds, prefix h.used v.more (begun h.used h.rest (subst (λ l. starts s l ≡ true) h.cut e) some)) })
  step ts e (Err (deep k)) h = record {
    used = h.used;
    token = h.token;
    rest = h.rest;
    cut = h.cut;
    left = h.left;
    brink = (h.brink, opens h.used (subst (λ l. starts s l ≡ true) h.cut e));
    safe = λ a b q k. h.safe a b q k.0;
  }
    where
      opens : (used : List Token) → starts s (used ++ h.token ∷ h.rest) ≡ true → starts s (used ++ h.token ∷ []) ≡ true
      opens [] g = g
      opens (t ∷ used) g = g

  other : (ts : List Token) → starts s ts ≡ false → Refused (reads_of (Only s R)) (brink_of (Only s R)) n s ts (length ts)
  other ts e = record {
    used = [];
    rest = ts;
    cut = refl;
    left = refl;
    viable = inl refl;
    first = λ q. e;
    stops = λ m more b meets g. no ts e more meets g.1;
    safe = λ a b q k. empty a b q k.1;
  }
    where
      no : (ts : List Token) → starts s ts ≡ false → (more : List Token) → Meets ts more → starts s more ≡ true → ⊥
      no ts e [] meets g = starts_some s [] g refl
      no [] e (c ∷ more) meets g = meets
      no (t ∷ ts) e (c ∷ more) meets g = not_both (sym g ∙ subst (λ (d : Token). among s d ≡ false) meets e)

      empty : (a b : List Token) → [] ≡ a ++ b → starts s a ≡ true → ⊥
      empty [] b q g = starts_some s [] g refl
      empty (c ∷ a) b q g = cc

  pub only_rule : Rule (Only s R) n s C (only_at s p)
  only_rule = record { known = only_known; meant = λ ts. pick ts (starts s ts) refl }
    where
      pick : (ts : List Token) (b : Bool) → starts s ts ≡ b → Meant (reads_of (Only s R)) (brink_of (Only s R)) n s C ts (cond b (p ts) (Err (refused (length ts))))
      pick ts true e = step ts e (p ts) (r.meant ts)
      pick ts false e = other ts e
