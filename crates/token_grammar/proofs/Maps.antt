-- The same language under another value.
use Rattle.std.proofs.Common.{ℕ, ◌≡◌, ◌∙◌, ◌⊎◌, List, [], refl, sym, ap, inl, inr, subst, suc, Ok, Err}
use Rattle.msc_tokens.specs.declared.token.Token.{Token}
use Rattle.token_grammar.specs.Languages.{Set, Layered, Map, refused, deep, Read, ◌>>=◌, map_at}
use Rattle.token_grammar.proofs.Lists.{NotStart}
use Rattle.token_grammar.proofs.Base.{Brinks, Viable, Laws, Known, Meant}

module _ {A B : Type 0} (f : A → B) (R : Layered A) (F : Set) (C : A → Set) (D : B → Set) (n : ℕ) (r : Laws R F C n) (ends : (a : A) → D (f a) ≡ C a) where
  pub map_laws : Laws (Map f R) F D n
  map_laws = record {
    up = λ x a h. (h.0, r.up x h.0 h.1, h.2);
    unique = λ m x y u v a b h k e nu nv.
        let same = r.unique m x y u v h.0 k.0 h.1 k.1 e (subst (λ s. NotStart s u) (ap D h.2 ∙ ends h.0) nu) (subst (λ s. NotStart s v) (ap D k.2 ∙ ends k.0) nv) in
        (same.0, h.2 ∙ ap f same.1 ∙ sym k.2);
    begins = λ m x a h. r.begins m x h.0 h.1;
  }

module _ {A B : Type 0} (f : A → B) (R : Layered A) (K : Brinks) (F : Set) (C : A → Set) (D : B → Set) (n : ℕ) (r : Known R K F C n) (ends : (a : A) → D (f a) ≡ C a) where
  mapped : (m : ℕ) (used : List Token) → Viable R m used → Viable (Map f R) m used
  mapped m used v = record { more = v.more; value = f v.value; holds = (v.value, v.holds, refl) }

  pub map_known : Known (Map f R) K F D n
  map_known = record {
    laws = λ m. map_laws f R F C D m (r.laws m) ends;
    word = mapped (suc n) [] r.word;
    opened = λ q h. mapped (suc n) q (r.opened q h);
    some = r.some;
    proper = λ x a h. r.proper x h.0 h.1;
  }

  map_step : (ts : List Token) (x : Read A) → Meant R K n F C ts x → Meant (Map f R) K n F D ts (x >>= λ y. Ok (f y.0, y.1))
  map_step ts (Ok x) h = record { used = h.used; cut = h.cut; holds = (x.0, h.holds, refl); ends = subst (λ s. NotStart s x.1) (sym (ends x.0)) h.ends }
  map_step ts (Err (refused k)) h = record {
    used = h.used;
    rest = h.rest;
    cut = h.cut;
    left = h.left;
    viable = kept h.viable;
    stops = λ m more b meets g. h.stops m more g.0 meets g.1;
    first = h.first;
    safe = h.safe;
  }
    where
      kept : (h.used ≡ []) ⊎ Viable R (suc n) h.used → (h.used ≡ []) ⊎ Viable (Map f R) (suc n) h.used
      kept (inl e) = inl e
      kept (inr v) = inr (mapped (suc n) h.used v)
  map_step ts (Err (deep k)) h = record { used = h.used; token = h.token; rest = h.rest; cut = h.cut; left = h.left; brink = h.brink; safe = h.safe }

  pub map_meant : (p : List Token → Read A) → ((ts : List Token) → Meant R K n F C ts (p ts)) → (ts : List Token) → Meant (Map f R) K n F D ts (map_at f p ts)
  map_meant p rp ts = map_step ts (p ts) (rp ts)
