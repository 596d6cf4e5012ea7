-- Numbers once in a term are once in its patterns.
use Rattle.std.specs.Prelude.{ℕ, ◌==◌, ◌||◌, Bool, true, false, List, [], ◌∷◌, ◌++◌, ◌≡◌, ◌≢◌}
use Rattle.std.proofs.Common.{inl, inr, refl, subst}
use Rattle.std.proofs.lemmas.Bool.Decides.{Decides-eqb}
use Rattle.chart_term.specs.NormalForms.{numbers, numbers_all}
use Rattle.chart_term.specs.Terms.{has, Tree, Nil, Event, Join, Choice, Tied, Loop, Walk, Trees, none, more}
use Rattle.term_laws.specs.OneResidual.{AreOnce}
use Rattle.term_laws.specs.Soundness.{NetLacks, IsOutside, AreOutside, Lacks}
use Rattle.term_laws.proofs.Numbers.{lacks_both}
use Rattle.term_laws.proofs.Once.{Once, OnceAll, OnceEach, FreeAll}
use Rattle.term_laws.proofs.Times.{once_times}
use Rattle.sound_terms.specs.FormLaws.{TiesByForm}

once_left : (a b : List ℕ) → AreOnce (a ++ b) → AreOnce a
once_left [] b h = tt
once_left (n ∷ a) b (h, k) = ((lacks_both a b n h).0, once_left a b k)

once_right : (a b : List ℕ) → AreOnce (a ++ b) → AreOnce b
once_right [] b h = h
once_right (n ∷ a) b (h, k) = once_right a b k

once_apart : (a b : List ℕ) (j : ℕ) → AreOnce (a ++ b) → has a j ≡ true → has b j ≡ false
once_apart [] b j h i = absurd cc
once_apart (n ∷ a) b j (h, k) i = by (n == j) refl (λ p. once_apart a b j k p) i
  where
    by : (t : Bool) → (n == j) ≡ t → (has a j ≡ true → has b j ≡ false) → (t || has a j) ≡ true → has b j ≡ false
    by true e f p = subst (λ m. has b m ≡ false) ((Decides-eqb n j).0 e) (lacks_both a b n h).1
    by false e f p = f p

module _ (NL : ℕ → ℕ → Type 0) (j : ℕ) where
  not_number : (n : ℕ) → ((n == j) || false) ≡ false → n ≢ j
  not_number n h e = clash (n == j) h ((Decides-eqb n j).1 e)
    where
      clash : (b : Bool) → (b || false) ≡ false → b ≡ true → ⊥
      clash b x y = cc

  mutual
    lacks_if : (x : Tree) → IsOutside NL j x → has (numbers x) j ≡ false → Lacks NL j x
    lacks_if Nil o h = tt
    lacks_if (Event e) o h = not_number e.number h
    lacks_if (Join m xs) o h = all_lack_if xs o h
    lacks_if (Choice xs) o h = all_lack_if xs o h
    lacks_if (Tied x q) o h = lacks_if x o h
    lacks_if (Loop x lo hi r) o h = o
    lacks_if (Walk n f t c) o h = o

    all_lack_if : (xs : Trees) → AreOutside NL j xs → has (numbers_all xs) j ≡ false → FreeAll NL j xs
    all_lack_if none o h = tt
    all_lack_if (more x xs) o h = let i = lacks_both (numbers x) (numbers_all xs) j h in (lacks_if x o.0 i.0, all_lack_if xs o.1 i.1)

  mutual
    pub once_form : (x : Tree) → AreOnce (numbers x) → IsOutside NL j x → Once NL j x
    once_form Nil h o = tt
    once_form (Event e) h o = tt
    once_form (Join m xs) h o = once_all xs h o
    once_form (Choice xs) h o = once_each xs h o
    once_form (Tied x q) h o = once_form x h o
    once_form (Loop x lo hi r) h o = o
    once_form (Walk n f t c) h o = o

    once_all : (xs : Trees) → AreOnce (numbers_all xs) → AreOutside NL j xs → OnceAll NL j xs
    once_all none h o = tt
    once_all (more x xs) h o = by (has (numbers x) j) refl (once_form x (once_left (numbers x) (numbers_all xs) h) o.0) (once_all xs (once_right (numbers x) (numbers_all xs) h) o.1)
      where
        by : (t : Bool) → has (numbers x) j ≡ t → Once NL j x → OnceAll NL j xs → OnceAll NL j (more x xs)
        by true e p q = inr (p, all_lack_if xs o.1 (once_apart (numbers x) (numbers_all xs) j h e))
        by false e p q = inl (lacks_if x o.0 e, q)

    once_each : (xs : Trees) → AreOnce (numbers_all xs) → AreOutside NL j xs → OnceEach NL j xs
    once_each none h o = tt
    once_each (more x xs) h o = (once_form x (once_left (numbers x) (numbers_all xs) h) o.0, once_each xs (once_right (numbers x) (numbers_all xs) h) o.1)

pub ties_by_form : TiesByForm
ties_by_form = record {
  once = λ w x q t g o h out. (o, λ j i s p. once_times w t j p (once_form (NetLacks w) j x h (out j i)));
}
