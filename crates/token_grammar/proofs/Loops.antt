-- A loop that reads one after another, and appends each to those that there are.
use Rattle.std.proofs.Common.{ℕ, ◌≡◌, ◌++◌, true, false, List, [], ◌∷◌, refl, sym, ap, subst, append_assoc, append-nil, suc, zero, Ok, Err}
use Rattle.msc_tokens.specs.declared.token.Token.{Token}
use Rattle.token_grammar.specs.Languages.{Set, starts, Read, each_at}
use Rattle.token_grammar.specs.Answers.{Fails}
use Rattle.token_grammar.specs.Parts.{all_of}
use Rattle.token_grammar.specs.PartReaders.{more_at}
use Rattle.token_grammar.specs.declared.readers.ReadFault.{ReadFault}
use Rattle.token_grammar.specs.declared.readers.ReadFault.TheVariants as fault
use Rattle.token_grammar.proofs.Optionals.{mapped}

module _ {A : Type 0} (s : Set) (q : List Token → Read A) where
  -- none so far
  pub none_yet : (prefix : List A) (m k : ℕ) (ts : List Token) → prefix ≡ [] → m ≡ k → more_at s q prefix m ts ≡ each_at s q k ts
  none_yet prefix m k ts empty same =
      subst (λ (l : List A). more_at s q l m ts ≡ each_at s q k ts) (sym empty) (subst (λ (j : ℕ). more_at s q [] m ts ≡ each_at s q j ts) same (as_it_is (each_at s q m ts)))
    where
      as_it_is : (e : Read (List A)) → mapped (λ l. [] ++ l) e ≡ e
      as_it_is (Ok y) = refl
      as_it_is (Err e) = refl

  -- no other
  pub no_more : (prefix : List A) (m : ℕ) (ts : List Token) → m ≡ 0 → more_at s q prefix m ts ≡ Ok (prefix, ts)
  no_more prefix zero ts e = ap (λ (l : List A). Ok (l, ts)) (append-nil prefix)
  no_more prefix (suc m) ts e = cc

  pub ends_here : (prefix : List A) (m : ℕ) (ts : List Token) → starts s ts ≡ false → more_at s q prefix m ts ≡ Ok (prefix, ts)
  ends_here prefix zero ts e = no_more prefix zero ts refl
  ends_here prefix (suc m) ts e = rw e (ap (λ (l : List A). Ok (l, ts)) (append-nil prefix))

  one_more : (prefix : List A) (a : A) (e : Read (List A)) → mapped (λ l. prefix ++ l) (mapped (λ l. a ∷ l) e) ≡ mapped (λ l. (prefix ++ a ∷ []) ++ l) e
  one_more prefix a (Ok y) = ap (λ (l : List A). Ok (l, y.1)) (sym (append_assoc prefix (a ∷ []) y.0))
  one_more prefix a (Err e) = refl

  pub next_one : (prefix longer : List A) (a : A) (m k : ℕ) (ts behind : List Token) → starts s ts ≡ true → m ≡ suc k → q ts ≡ Ok (a, behind) → longer ≡ prefix ++ a ∷ []
      → more_at s q prefix m ts ≡ more_at s q longer k behind
  next_one prefix longer a zero k ts behind is e h l = cc
  next_one prefix longer a (suc m) k ts behind is e h l =
      let same : m ≡ k = cc in
      subst (λ (t : List A). more_at s q prefix (suc m) ts ≡ more_at s q t k behind) (sym l)
      (subst (λ (j : ℕ). more_at s q prefix (suc m) ts ≡ more_at s q (prefix ++ a ∷ []) j behind) same (rw (is, h) (one_more prefix a (each_at s q m behind))))

  pub stops_here : (f : ReadFault) (prefix : List A) (m k : ℕ) (ts : List Token) → starts s ts ≡ true → m ≡ suc k → Fails f (q ts) → Fails f (more_at s q prefix m ts)
  stops_here fault.NoMemory prefix m k ts is e h = tt
  stops_here (fault.Refused left) prefix zero k ts is e h = cc
  stops_here (fault.Refused left) prefix (suc m) k ts is e h = rw (is, h) refl
  stops_here (fault.TooDeep left) prefix zero k ts is e h = cc
  stops_here (fault.TooDeep left) prefix (suc m) k ts is e h = rw (is, h) refl

-- ---- the first one before them

module _ {A : Type 0} (first : A) where
  abbrev grown : Read (List A) → Read (List A)
  grown e = mapped (λ l. (first ∷ []) ++ l) e

  abbrev whole : Read (List A) → Read (List A)
  whole e = mapped (λ (p : A × List A). all_of p) (mapped (λ l. (first, l)) e)

  pub same_whole : (e : Read (List A)) → grown e ≡ whole e
  same_whole (Ok y) = refl
  same_whole (Err e) = refl

  pub whole_ends : (all : List A) (rest : List Token) (e : Read (List A)) → grown e ≡ Ok (all, rest) → whole e ≡ Ok (all, rest)
  whole_ends all rest e h = subst (λ (r : Read (List A)). r ≡ Ok (all, rest)) (same_whole e) h

  pub whole_stops : (f : ReadFault) (e : Read (List A)) → Fails f (grown e) → Fails f (whole e)
  whole_stops f e h = subst (Fails f) (same_whole e) h
