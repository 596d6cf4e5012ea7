-- Sets as lists that rise: two with the same members are one list.
use Rattle.std.specs.Prelude.{ℕ, ◌<◌, ◌==◌, Bool, true, false, ltb, List, [], ◌∷◌, ◌≡◌, ◌||◌, ◌&&◌, refl}
use Rattle.std.proofs.Common.{ap, sym, ◌∙◌, subst, arith, cond}
use Rattle.std.proofs.lemmas.Bool.Decides.{nat_tests}
use Rattle.bit_sets.specs.Blocks.{IsRising, AreAbove}
use Rattle.chart_term.specs.NormalForms.{cut}
use Rattle.chart_term.specs.Terms.{has}
use Rattle.chart_term.proofs.Instances.{has_self}
use Rattle.term_laws.specs.Normality.{IsSet, IsAbove}

-- sets with the same members
rising_above : (n : ℕ) (c : List ℕ) → AreAbove n c → IsAbove n c
rising_above n [] h = tt
rising_above n (m ∷ c) h = h.0

pub rising_set : (c : List ℕ) → IsRising c → IsSet c
rising_set [] h = tt
rising_set (n ∷ c) h = (rising_above n c h.0, rising_set c h.1)

not_below : (m : ℕ) (c : List ℕ) → IsSet c → IsAbove m c → has c m ≡ false
not_below m [] s h = refl
not_below m (n ∷ c) s h = let e : (n == m) ≡ false = grind (arith, nat_tests) in λ i. e i || not_below m c s.1 (over m n c h s.0) i
  where
    over : (m n : ℕ) (c : List ℕ) → m < n → IsAbove n c → IsAbove m c
    over m n [] l h = tt
    over m n (k ∷ c) l h = omega arith

pub set_ext : (c d : List ℕ) → IsSet c → IsSet d → ((n : ℕ) → has c n ≡ has d n) → c ≡ d
set_ext [] [] s t h = refl
set_ext [] (n ∷ d) s t h = let e = has_self n d in let f = h n in cc
set_ext (m ∷ c) [] s t h = let e = has_self m c in let f = h m in cc
set_ext (m ∷ c) (n ∷ d) s t h = go (m == n) (ltb m n) refl refl (λ same. set_ext c d s.1 t.1 (tails same))
  where
    tails : m ≡ n → (k : ℕ) → has c k ≡ has d k
    tails same k = last (m == k) refl
      where
        last : (b : Bool) → (m == k) ≡ b → has c k ≡ has d k
        last true e = let f : m ≡ k = grind (arith, nat_tests) in let g : n ≡ k = sym same ∙ f in
            subst (λ (j : ℕ). has c j ≡ false) f (not_below m c s.1 s.0) ∙ sym (subst (λ (j : ℕ). has d j ≡ false) g (not_below n d t.1 t.0))
        last false e = let g : (n == k) ≡ false = subst (λ (j : ℕ). (j == k) ≡ false) same e in
            let p : has (m ∷ c) k ≡ has c k = ap (λ t. t || has c k) e in let q : has (n ∷ d) k ≡ has d k = ap (λ t. t || has d k) g in sym p ∙ (h k ∙ q)

    less : m < n → has (n ∷ d) m ≡ false
    less l = not_below m (n ∷ d) t l

    more : n < m → has (m ∷ c) n ≡ false
    more l = not_below n (m ∷ c) s l

    go : (a b : Bool) → (m == n) ≡ a → ltb m n ≡ b → (m ≡ n → c ≡ d) → m ∷ c ≡ n ∷ d
    go true b e l r = let f : m ≡ n = grind (arith, nat_tests) in λ i. f i ∷ r f i
    go false true e l r = let f : m < n = grind (arith, nat_tests) in let g = less f in let p = has_self m c in let q = h m in cc
    go false false e l r = let f : n < m = grind (arith, nat_tests) in let g = more f in let p = has_self n d in let q = h n in cc

pub has_cut : (all c : List ℕ) (n : ℕ) → has (cut all c) n ≡ (has c n && has all n)
has_cut all [] n = refl
has_cut all (m ∷ c) n = go (has all m) refl (m == n) refl (has_cut all c n)
  where
    go : (a : Bool) → has all m ≡ a → (b : Bool) → (m == n) ≡ b → has (cut all c) n ≡ (has c n && has all n) → has (cond a (m ∷ cut all c) (cut all c)) n ≡ ((b || has c n) && has all n)
    go true p true q r = let f : m ≡ n = grind (arith, nat_tests) in (λ i. q i || has (cut all c) n) ∙ sym (subst (λ (k : ℕ). has all k ≡ true) f p)
    go false p true q r = let f : m ≡ n = grind (arith, nat_tests) in
        let away : has all n ≡ false = subst (λ (k : ℕ). has all k ≡ false) f p in
        r ∙ (ap (λ t. has c n && t) away ∙ (no (has c n) ∙ sym away))
      where
        no : (t : Bool) → (t && false) ≡ false
        no true = refl
        no false = refl
    go true p false q r = (λ i. q i || has (cut all c) n) ∙ r
    go false p false q r = r
