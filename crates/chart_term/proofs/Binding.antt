-- A bound term in normal form has the patterns of the bound term.
use Rattle.std.specs.Prelude.{ℕ, Bool, true, false, List, [], ◌∷◌, ◌≡◌, ◌||◌, ◌&&◌, ◌==◌, refl}
use Rattle.std.proofs.Common.{ap, sym, ◌∙◌, arith, inl, inr}
use Rattle.std.proofs.lemmas.Bool.{and_parts, or_parts}
use Rattle.std.proofs.lemmas.Bool.Decides.{nat_tests}
use Rattle.msc_base.specs.Patterns.{bind}
use Rattle.list_facts.proofs.Bools.{or_twice, or_left_comm}
use Rattle.chart_term.specs.NormalForms.{numbers, unless_pair, without_pair, with_pair, kept_pairs, bound_form, tie_of}
use Rattle.chart_term.specs.TermMeanings.{NetTerms, HasPattern, holds_tie, ◌⊑◌}
use Rattle.chart_term.specs.TermPatterns.{Shape, Occurs, pairs, Agree, InPairs, same, back, on, bind_none, bind_as}
use Rattle.chart_term.specs.Terms.{Tree, Tied, has}

-- pairs that are left out twice
same_end : (a b m n : ℕ) (c d : ℕ) → ((a == c) && (b == d)) ≡ true → ((m == a) && (n == b)) ≡ ((m == c) && (n == d))
same_end a b m n c d h = grind (arith, nat_tests)

without_says : (p : ℕ × ℕ) (q : List (ℕ × ℕ)) (m n : ℕ) → (((m == p.0) && (n == p.1)) || pairs (without_pair p q) m n) ≡ (((m == p.0) && (n == p.1)) || pairs q m n)
without_says p [] m n = refl
without_says p (r ∷ q) m n = go ((p.0 == r.0) && (p.1 == r.1)) refl (without_says p q m n)
  where
    go : (t : Bool) → ((p.0 == r.0) && (p.1 == r.1)) ≡ t → (((m == p.0) && (n == p.1)) || pairs (without_pair p q) m n) ≡ (((m == p.0) && (n == p.1)) || pairs q m n)
        → (((m == p.0) && (n == p.1)) || pairs (unless_pair t r (without_pair p q)) m n) ≡ (((m == p.0) && (n == p.1)) || (((m == r.0) && (n == r.1)) || pairs q m n))
    go true e h = h ∙ (or_twice ((m == p.0) && (n == p.1)) (pairs q m n) ∙ ap (λ t. ((m == p.0) && (n == p.1)) || (t || pairs q m n)) (same_end p.0 p.1 m n r.0 r.1 e))
    go false e h = or_left_comm ((m == p.0) && (n == p.1)) ((m == r.0) && (n == r.1)) (pairs (without_pair p q) m n) ∙ (ap (λ t. ((m == r.0) && (n == r.1)) || t) h ∙ or_left_comm ((m == r.0) && (n == r.1)) ((m == p.0) && (n == p.1)) (pairs q m n))

-- a pair with an end that is not there says nothing of what is there
not_there : (ns : List ℕ) (p : ℕ × ℕ) (m n : ℕ) → has ns m ≡ true → has ns n ≡ true → (has ns p.0 && has ns p.1) ≡ false → ((m == p.0) && (n == p.1)) ≡ false
not_there ns p m n h i e = go ((m == p.0) && (n == p.1)) refl
  where
    is : (a b : ℕ) → (a == b) ≡ true → a ≡ b
    is a b k = grind (arith, nat_tests)

    moved : (a b : ℕ) → a ≡ b → has ns a ≡ true → has ns b ≡ true
    moved a b k l = rw k at l

    clash : (a b : Bool) → a ≡ true → b ≡ true → (a && b) ≡ false → true ≡ false
    clash a b u v k = rw (u, v) at k

    go : (t : Bool) → ((m == p.0) && (n == p.1)) ≡ t → t ≡ false
    go false k = refl
    go true k =
        let (u, v) = and_parts (m == p.0) (n == p.1) k in
        clash (has ns p.0) (has ns p.1) (moved m p.0 (is m p.0 u) h) (moved n p.1 (is n p.1 v) i) e

kept_says : (ns : List ℕ) (q : List (ℕ × ℕ)) (m n : ℕ) → has ns m ≡ true → has ns n ≡ true → pairs (kept_pairs ns q) m n ≡ pairs q m n
kept_says ns [] m n h i = refl
kept_says ns (p ∷ q) m n h i = go (has ns p.0 && has ns p.1) refl (kept_says ns q m n h i)
  where
    go : (t : Bool) → (has ns p.0 && has ns p.1) ≡ t → pairs (kept_pairs ns q) m n ≡ pairs q m n → pairs (with_pair t p (kept_pairs ns q)) m n ≡ (((m == p.0) && (n == p.1)) || pairs q m n)
    go true e r = without_says p (kept_pairs ns q) m n ∙ ap (λ t. ((m == p.0) && (n == p.1)) || t) r
    go false e r = let f : ((m == p.0) && (n == p.1)) ≡ false = not_there ns p m n h i e in rw (f, r) refl

-- the numbers of the pairs that are left are numbers of the pairs
without_pairs : (j : ℕ) (p : ℕ × ℕ) (q : List (ℕ × ℕ)) → InPairs j (without_pair p q) → InPairs j q
without_pairs j p [] h = h
without_pairs j p (r ∷ q) h = go ((p.0 == r.0) && (p.1 == r.1)) h (without_pairs j p q)
  where
    go : (t : Bool) → InPairs j (unless_pair t r (without_pair p q)) → (InPairs j (without_pair p q) → InPairs j q) → InPairs j (r ∷ q)
    go true h f = inr (f h)
    go false (inl e) f = inl e
    go false (inr i) f = inr (f i)

pub kept_in : (j : ℕ) (ns : List ℕ) (q : List (ℕ × ℕ)) → InPairs j (kept_pairs ns q) → InPairs j q
kept_in j ns [] h = h
kept_in j ns (p ∷ q) h = go (has ns p.0 && has ns p.1) h (kept_in j ns q)
  where
    go : (t : Bool) → InPairs j (with_pair t p (kept_pairs ns q)) → (InPairs j (kept_pairs ns q) → InPairs j q) → InPairs j (p ∷ q)
    go true (inl e) f = inl e
    go true (inr i) f = inr (f (without_pairs j p (kept_pairs ns q) i))
    go false h f = inr (f h)

-- no pair is new
or_none : (a b c : Bool) → (b ≡ false → c ≡ false) → (a || b) ≡ false → (a || c) ≡ false
or_none true b c f h = h
or_none false b c f h = f h

without_less : (p : ℕ × ℕ) (q : List (ℕ × ℕ)) (m n : ℕ) → pairs q m n ≡ false → pairs (without_pair p q) m n ≡ false
without_less p [] m n h = h
without_less p (r ∷ q) m n h = go ((p.0 == r.0) && (p.1 == r.1)) h (without_less p q m n)
  where
    go : (t : Bool) → (((m == r.0) && (n == r.1)) || pairs q m n) ≡ false → (pairs q m n ≡ false → pairs (without_pair p q) m n ≡ false) → pairs (unless_pair t r (without_pair p q)) m n ≡ false
    go true h f = f (or_parts ((m == r.0) && (n == r.1)) (pairs q m n) h).1
    go false h f = or_none ((m == r.0) && (n == r.1)) (pairs q m n) (pairs (without_pair p q) m n) f h

pub kept_less : (ns : List ℕ) (q : List (ℕ × ℕ)) (m n : ℕ) → pairs q m n ≡ false → pairs (kept_pairs ns q) m n ≡ false
kept_less ns [] m n h = h
kept_less ns (p ∷ q) m n h = go (has ns p.0 && has ns p.1) h (kept_less ns q m n)
  where
    go : (t : Bool) → (((m == p.0) && (n == p.1)) || pairs q m n) ≡ false → (pairs q m n ≡ false → pairs (kept_pairs ns q) m n ≡ false) → pairs (with_pair t p (kept_pairs ns q)) m n ≡ false
    go true h f = or_none ((m == p.0) && (n == p.1)) (pairs q m n) (pairs (without_pair p (kept_pairs ns q)) m n) (λ e. without_less p (kept_pairs ns q) m n (f e)) h
    go false h f = f (or_parts ((m == p.0) && (n == p.1)) (pairs q m n) h).1

said_in : (q : List (ℕ × ℕ)) (m n : ℕ) → pairs q m n ≡ true → InPairs m q × InPairs n q
said_in [] m n h = cc
said_in (p ∷ q) m n h = go ((m == p.0) && (n == p.1)) refl h (said_in q m n)
  where
    both : (a b c d : ℕ) → ((a == c) && (b == d)) ≡ true → (a ≡ c) × (b ≡ d)
    both a b c d k = (grind (arith, nat_tests), grind (arith, nat_tests))

    go : (t : Bool) → ((m == p.0) && (n == p.1)) ≡ t → (t || pairs q m n) ≡ true → (pairs q m n ≡ true → InPairs m q × InPairs n q) → InPairs m (p ∷ q) × InPairs n (p ∷ q)
    go true e k f = let (u, v) = both m n p.0 p.1 e in (inl (inl u), inl (inr v))
    go false e k f = let (u, v) = f k in (inr u, inr v)

module _ (w : NetTerms) (o : Bool) where
  -- where a number stands in a pattern of the term, it is among the numbers of the term
  abbrev pub Shows : Tree → ℕ → Type 0
  Shows y j = (s : Shape) → HasPattern w o y s → Occurs j s → has (numbers y) j ≡ true

  pub agrees : (y : Tree) (q : List (ℕ × ℕ)) → ((j : ℕ) → InPairs j q → Shows y j) → (s : Shape) → HasPattern w o y s → Agree q (kept_pairs (numbers y) q) s
  agrees y q f s a m n h i = go (pairs q m n) refl
    where
      go : (t : Bool) → pairs q m n ≡ t → pairs q m n ≡ pairs (kept_pairs (numbers y) q) m n
      go true e = let (u, v) = said_in q m n e in sym (kept_says (numbers y) q m n (f m u s a h) (f n v s a i))
      go false e = e ∙ sym (kept_less (numbers y) q m n e)

  form_to : (y : Tree) (r : List (ℕ × ℕ)) → HasPattern w o (bound_form y r) ⊑ HasPattern w o (Tied y r)
  form_to y [] s a = (bind s [], holds_tie a, back bind_none)
  form_to y (p ∷ r) s a = (s, a, same)

  form_from : (y : Tree) (r : List (ℕ × ℕ)) → HasPattern w o (Tied y r) ⊑ HasPattern w o (bound_form y r)
  form_from y [] s (holds_tie a) = (_, a, bind_none)
  form_from y (p ∷ r) s a = (s, a, same)

  tied : (y : Tree) (q r : List (ℕ × ℕ)) → ((s : Shape) → HasPattern w o y s → Agree q r s) → HasPattern w o (Tied y q) ⊑ HasPattern w o (Tied y r)
  tied y q r f s (holds_tie {s = u} a) = (bind u r, holds_tie a, bind_as (f u a))

  pub bound_to : (y : Tree) (q : List (ℕ × ℕ)) → ((j : ℕ) → InPairs j q → Shows y j) → HasPattern w o (tie_of y q) ⊑ HasPattern w o (Tied y q)
  bound_to y q f s a =
      let i = form_to y (kept_pairs (numbers y) q) s a in
      let j = tied y (kept_pairs (numbers y) q) q (λ u b m n h k. sym (agrees y q f u b m n h k)) i.0 i.1 in
      (j.0, j.1, on i.2 j.2)

  pub bound_from : (y : Tree) (q : List (ℕ × ℕ)) → ((j : ℕ) → InPairs j q → Shows y j) → HasPattern w o (Tied y q) ⊑ HasPattern w o (tie_of y q)
  bound_from y q f s a =
      let i = tied y q (kept_pairs (numbers y) q) (agrees y q f) s a in
      let j = form_from y (kept_pairs (numbers y) q) i.0 i.1 in
      (j.0, j.1, on i.2 j.2)
