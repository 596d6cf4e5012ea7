-- A loop that reads one after another while they go on, and appends each to those that there are.
use Rattle.std.proofs.Common.{ℕ, ◌≡◌, ◌++◌, Bool, true, false, List, [], ◌∷◌, refl, sym, ap, subst, append_assoc, append-nil, suc, zero, length, Ok, Err}
use Rattle.msc_tokens.specs.declared.token.Token.{Token}
use Rattle.token_grammar.specs.Languages.{Read, ◌>>=◌, each_at, until_at}
use Rattle.token_grammar.specs.PartReaders.{more_at}
use Rattle.token_grammar.specs.Answers.{Fails}
use Rattle.token_grammar.specs.declared.readers.ReadFault.{ReadFault}
use Rattle.token_grammar.specs.declared.readers.ReadFault.TheVariants as fault
use Rattle.token_grammar.proofs.Optionals.{mapped, paired}
use Rattle.msc_document.specs.Inlines.{firsts}
use Rattle.msc_document.specs.DocumentReaders.{going_at, end_words, next_part_at, closing_at, several_at}
use Rattle.msc_document.specs.ItemReaders.{more_going_at, listed_operands_at}

module _ {A : Type 0} (goes : List Token → Bool) (q : List Token → Read A) where
  pub none_goes : (prefix : List A) (m : ℕ) (ts : List Token) → m ≡ 0 → more_going_at goes q prefix m ts ≡ Ok (prefix, ts)
  none_goes prefix zero ts e = ap (λ (l : List A). Ok (l, ts)) (append-nil prefix)
  none_goes prefix (suc m) ts e = cc

  pub goes_no_more : (prefix : List A) (m : ℕ) (ts : List Token) → goes ts ≡ false → more_going_at goes q prefix m ts ≡ Ok (prefix, ts)
  goes_no_more prefix zero ts e = none_goes prefix zero ts refl
  goes_no_more prefix (suc m) ts e = rw e (ap (λ (l : List A). Ok (l, ts)) (append-nil prefix))

  one_more : (prefix : List A) (a : A) (e : Read (List A)) → mapped (λ l. prefix ++ l) (mapped (λ l. a ∷ l) e) ≡ mapped (λ l. (prefix ++ a ∷ []) ++ l) e
  one_more prefix a (Ok y) = ap (λ (l : List A). Ok (l, y.1)) (sym (append_assoc prefix (a ∷ []) y.0))
  one_more prefix a (Err e) = refl

  pub goes_one : (prefix longer : List A) (a : A) (m k : ℕ) (ts behind : List Token) → goes ts ≡ true → m ≡ suc k → q ts ≡ Ok (a, behind) → longer ≡ prefix ++ a ∷ []
      → more_going_at goes q prefix m ts ≡ more_going_at goes q longer k behind
  goes_one prefix longer a zero k ts behind is e h l = cc
  goes_one prefix longer a (suc m) k ts behind is e h l =
      let same : m ≡ k = cc in
      subst (λ (t : List A). more_going_at goes q prefix (suc m) ts ≡ more_going_at goes q t k behind) (sym l)
      (subst (λ (j : ℕ). more_going_at goes q prefix (suc m) ts ≡ more_going_at goes q (prefix ++ a ∷ []) j behind) same (rw (is, h) (one_more prefix a (going_at goes q m behind))))

  pub goes_stops : (f : ReadFault) (prefix : List A) (m k : ℕ) (ts : List Token) → goes ts ≡ true → m ≡ suc k → Fails f (q ts) → Fails f (more_going_at goes q prefix m ts)
  goes_stops fault.NoMemory prefix m k ts is e h = tt
  goes_stops (fault.Refused left) prefix zero k ts is e h = cc
  goes_stops (fault.Refused left) prefix (suc m) k ts is e h = rw (is, h) refl
  goes_stops (fault.TooDeep left) prefix zero k ts is e h = cc
  goes_stops (fault.TooDeep left) prefix (suc m) k ts is e h = rw (is, h) refl

-- ---- operands one by one

module _ {A : Type 0} (q : List Token → Read A) where
  closed_list : (a : A) (l : List A) (r : Read (Unit {0})) → mapped firsts (mapped (λ (x : List A × Unit {0}). (a, x)) (mapped (λ (e : Unit {0}). (l, e)) r)) ≡ (r >>= λ z. Ok ((a ∷ []) ++ l, z.1))
  closed_list a l (Ok z) = refl
  closed_list a l (Err e) = refl

  rest_list : (a : A) (r : Read (List A)) → mapped firsts (mapped (λ (x : List A × Unit {0}). (a, x)) (paired r closing_at)) ≡ (mapped (λ l. (a ∷ []) ++ l) r >>= λ y. closing_at y.1 >>= λ z. Ok (y.0, z.1))
  rest_list a (Ok x) = closed_list a x.0 (closing_at x.1)
  rest_list a (Err e) = refl

  first_list : (x : Read A) → mapped firsts (paired x (until_at end_words (next_part_at q) closing_at))
      ≡ (x >>= λ a. more_at end_words (next_part_at q) (a.0 ∷ []) (length a.1) a.1 >>= λ y. closing_at y.1 >>= λ z. Ok (y.0, z.1))
  first_list (Ok x) = rest_list x.0 (each_at end_words (next_part_at q) (length x.1) x.1)
  first_list (Err e) = refl

  pub several_is : (ts : List Token) → several_at q ts ≡ listed_operands_at q ts
  several_is ts = first_list (q ts)
