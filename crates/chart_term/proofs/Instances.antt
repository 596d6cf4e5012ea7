-- The instances that the events of a pattern have.
use Rattle.std.specs.Prelude.{ℕ, Bool, true, false, List, [], ◌∷◌, ◌++◌, ◌≡◌, Option, Some, None, ◌||◌, ◌==◌, refl, ltb, ◌⊎◌}
use Rattle.std.proofs.Common.{ap, sym, ◌∙◌, arith, cond, inl, inr}
use Rattle.std.proofs.lemmas.Bool.Decides.{nat_tests}
use Rattle.msc_base.specs.Patterns.{empty, one, join, bind}
use Rattle.list_facts.proofs.Bools.{or_true, or_twice, or_left_comm, or_false}
use Rattle.chart_term.specs.NormalForms.{only, cut}
use Rattle.chart_term.specs.TermPatterns.{Shape, Avoids, instances_of, some_list, Both}
use Rattle.chart_term.specs.Terms.{TermEvent, has, has_some, hits, ◌∪◌, add_member, add_at}

abbrev pub SomeIn : List ℕ → Option ℕ → Type 0
SomeIn all None = Unit {0}
SomeIn all (Some n) = has all n ≡ true

-- each event of the pattern has its instances among these
abbrev pub IsInside : List ℕ → Shape → Type 0
IsInside all empty = Unit {0}
IsInside all (one e) = (has all e.at ≡ true) × SomeIn all e.also
IsInside all (join m x y) = IsInside all x × IsInside all y
IsInside all (bind x q) = IsInside all x

pub has_app : (a b : List ℕ) (n : ℕ) → has (a ++ b) n ≡ (has a n || has b n)
has_app [] b n = refl
has_app (m ∷ a) b n = go (m == n) (has_app a b n)
  where
    go : (t : Bool) → has (a ++ b) n ≡ (has a n || has b n) → (t || has (a ++ b) n) ≡ ((t || has a n) || has b n)
    go true h = refl
    go false h = h

pub has_left : (a b : List ℕ) (n : ℕ) → has a n ≡ true → has (a ++ b) n ≡ true
has_left a b n h = rw (has_app a b n, h)

pub has_right : (a b : List ℕ) (n : ℕ) → has b n ≡ true → has (a ++ b) n ≡ true
has_right a b n h = rw (has_app a b n, h) (or_true (has a n))

some_left : (a b : List ℕ) (o : Option ℕ) → SomeIn a o → SomeIn (a ++ b) o
some_left a b None h = tt
some_left a b (Some n) h = has_left a b n h

some_right : (a b : List ℕ) (o : Option ℕ) → SomeIn b o → SomeIn (a ++ b) o
some_right a b None h = tt
some_right a b (Some n) h = has_right a b n h

pub inside_left : (a b : List ℕ) (s : Shape) → IsInside a s → IsInside (a ++ b) s
inside_left a b empty h = tt
inside_left a b (one e) h = (has_left a b e.at h.0, some_left a b e.also h.1)
inside_left a b (join m x y) h = (inside_left a b x h.0, inside_left a b y h.1)
inside_left a b (bind x q) h = inside_left a b x h

pub inside_right : (a b : List ℕ) (s : Shape) → IsInside b s → IsInside (a ++ b) s
inside_right a b empty h = tt
inside_right a b (one e) h = (has_right a b e.at h.0, some_right a b e.also h.1)
inside_right a b (join m x y) h = (inside_right a b x h.0, inside_right a b y h.1)
inside_right a b (bind x q) h = inside_right a b x h

pub has_self : (n : ℕ) (ns : List ℕ) → has (n ∷ ns) n ≡ true
has_self n ns = grind (arith, nat_tests)

some_self : (n : ℕ) (o : Option ℕ) → SomeIn (n ∷ some_list o) o
some_self n None = tt
some_self n (Some m) = rw (has_self m []) (or_true (n == m))

pub inside_own : (e : TermEvent) → IsInside (instances_of e).instances (one e)
inside_own e = (has_self e.at (some_list e.also), some_self e.at e.also)

-- a cut block says the same of what is inside
has_cut : (all c : List ℕ) (n : ℕ) → has all n ≡ true → has (cut all c) n ≡ has c n
has_cut all [] n h = refl
has_cut all (m ∷ c) n h = go (has all m) refl (has_cut all c n h)
  where
    other : (m n : ℕ) → has all n ≡ true → has all m ≡ false → (m == n) ≡ false
    other m n h e = grind (arith, nat_tests)

    go : (t : Bool) → has all m ≡ t → has (cut all c) n ≡ has c n → has (cond t (m ∷ cut all c) (cut all c)) n ≡ ((m == n) || has c n)
    go true e r = ap (λ b. (m == n) || b) r
    go false e r = let f : (m == n) ≡ false = other m n h e in r ∙ rw f

some_cut : (all c : List ℕ) (o : Option ℕ) → SomeIn all o → has_some (cut all c) o ≡ has_some c o
some_cut all c None h = refl
some_cut all c (Some n) h = has_cut all c n h

hits_cut : (all c : List ℕ) (e : TermEvent) → IsInside all (one e) → hits (only (cut all c)) e ≡ hits (only c) e
hits_cut all c e h = rw (has_cut all c e.at h.0, some_cut all c e.also h.1)

pub cut_avoids : (all c : List ℕ) (s : Shape) → IsInside all s → Both (Avoids (only (cut all c)) s) (Avoids (only c) s)
cut_avoids all c empty h = record { to = λ a. a; from = λ a. a }
cut_avoids all c (one e) h = record { to = λ a. sym (hits_cut all c e h) ∙ a; from = λ a. hits_cut all c e h ∙ a }
cut_avoids all c (join m x y) h = let p = cut_avoids all c x h.0 in let q = cut_avoids all c y h.1 in record { to = λ a. (p.to a.0, q.to a.1); from = λ a. (p.from a.0, q.from a.1) }
cut_avoids all c (bind x q) h = let p = cut_avoids all c x h in record { to = p.to; from = p.from }

same_number : (n m k : ℕ) → (n == m) ≡ true → (n == k) ≡ (m == k)
same_number n m k e = grind (arith, nat_tests)

pub has_added : (n : ℕ) (ms : List ℕ) (k : ℕ) → has (add_member n ms) k ≡ ((n == k) || has ms k)
has_added n [] k = refl
has_added n (m ∷ ms) k = go (n == m) (ltb n m) refl (has_added n ms k)
  where
    go : (a b : Bool) → (n == m) ≡ a → has (add_member n ms) k ≡ ((n == k) || has ms k) → has (add_at a b n m ms (add_member n ms)) k ≡ ((n == k) || ((m == k) || has ms k))
    go true b e h = or_twice (m == k) (has ms k) ∙ ap (λ t. t || ((m == k) || has ms k)) (sym (same_number n m k e))
    go false true e h = refl
    go false false e h = ap (λ t. (m == k) || t) h ∙ or_left_comm (m == k) (n == k) (has ms k)

-- the members of a union are those of both sets
pub has_union : (a b : List ℕ) (n : ℕ) → has (a ∪ b) n ≡ (has a n || has b n)
has_union a [] n = sym (or_false (has a n))
has_union a (m ∷ b) n = has_added m (a ∪ b) n ∙ (ap (λ t. (m == n) || t) (has_union a b n) ∙ or_left_comm (m == n) (has a n) (has b n))

-- two blocks of instances together
some_app : (a b : List ℕ) (o : Option ℕ) → has_some (a ∪ b) o ≡ (has_some a o || has_some b o)
some_app a b None = refl
some_app a b (Some n) = has_union a b n

or_parts : (a b c d : Bool) → (((a || b) || (c || d)) || false) ≡ false → (((a || c) || false) ≡ false) × (((b || d) || false) ≡ false)
or_parts true b c d h = cc
or_parts false true c d h = cc
or_parts false false true d h = cc
or_parts false false false true h = cc
or_parts false false false false h = (refl, refl)

or_made : (a b c d : Bool) → ((a || c) || false) ≡ false → ((b || d) || false) ≡ false → (((a || b) || (c || d)) || false) ≡ false
or_made true b c d h k = cc
or_made false b true d h k = cc
or_made false true false d h k = cc
or_made false false false true h k = cc
or_made false false false false h k = refl

hits_app : (a b : List ℕ) (e : TermEvent) → hits (only (a ∪ b)) e ≡ (((has a e.at || has b e.at) || (has_some a e.also || has_some b e.also)) || false)
hits_app a b e = rw (has_union a b e.at, some_app a b e.also)

pub both_avoids : (a b : List ℕ) (s : Shape) → Both (Avoids (only (a ∪ b)) s) (Avoids (only a) s × Avoids (only b) s)
both_avoids a b empty = record { to = λ h. (tt, tt); from = λ h. tt }
both_avoids a b (one e) = record {
  to = λ h. or_parts (has a e.at) (has b e.at) (has_some a e.also) (has_some b e.also) (sym (hits_app a b e) ∙ h);
  from = λ h. hits_app a b e ∙ or_made (has a e.at) (has b e.at) (has_some a e.also) (has_some b e.also) h.0 h.1;
}
both_avoids a b (join m x y) = let p = both_avoids a b x in let q = both_avoids a b y in record {
  to = λ h. (((p.to h.0).0, (q.to h.1).0), ((p.to h.0).1, (q.to h.1).1));
  from = λ h. (p.from (h.0.0, h.1.0), q.from (h.0.1, h.1.1));
}
both_avoids a b (bind x q) = both_avoids a b x

and_true : (n k : ℕ) (b : Bool) → ((n == k) || b) ≡ true → (n ≡ k) ⊎ (b ≡ true)
and_true n k b h = grind (arith, nat_tests)

-- the members of a cut set
pub cut_out : (all c : List ℕ) (n : ℕ) → has (cut all c) n ≡ true → (has all n ≡ true) × (has c n ≡ true)
cut_out all [] n h = cc
cut_out all (m ∷ c) n h = go (has all m) refl h (cut_out all c n)
  where
    there : (m ≡ n) ⊎ (has (cut all c) n ≡ true) → has all m ≡ true → (has (cut all c) n ≡ true → (has all n ≡ true) × (has c n ≡ true)) → (has all n ≡ true) × (has (m ∷ c) n ≡ true)
    there (inl p) e f = (rw (← p) e, rw p (has_self n c))
    there (inr p) e f = let r = f p in (r.0, rw r.1 (or_true (m == n)))

    go : (t : Bool) → has all m ≡ t → has (cond t (m ∷ cut all c) (cut all c)) n ≡ true → (has (cut all c) n ≡ true → (has all n ≡ true) × (has c n ≡ true)) → (has all n ≡ true) × (has (m ∷ c) n ≡ true)
    go true e h f = there (and_true m n (has (cut all c) n) h) e f
    go false e h f = let r = f h in (r.0, rw r.1 (or_true (m == n)))

pub cut_into : (all c : List ℕ) (n : ℕ) → has all n ≡ true → has c n ≡ true → has (cut all c) n ≡ true
cut_into all c n h i = has_cut all c n h ∙ i

-- a set that includes another holds back all that the other holds back
not_both : (a b : Bool) → (a ≡ true → b ≡ true) → b ≡ false → a ≡ false
not_both true b f h = let p : b ≡ true = f refl in cc
not_both false b f h = refl

some_includes : (c d : List ℕ) (o : Option ℕ) → ((n : ℕ) → has d n ≡ true → has c n ≡ true) → has_some d o ≡ true → has_some c o ≡ true
some_includes c d None h i = i
some_includes c d (Some n) h i = h n i

or_less : (a b c d : Bool) → (a ≡ true → c ≡ true) → (b ≡ true → d ≡ true) → ((a || b) || false) ≡ true → ((c || d) || false) ≡ true
or_less true b c d f g h = let p : c ≡ true = f refl in rw p refl
or_less false true c d f g h = let p : d ≡ true = g refl in rw (p, or_true c) refl
or_less false false c d f g h = cc

pub includes_avoids : (c d : List ℕ) (s : Shape) → ((n : ℕ) → has d n ≡ true → has c n ≡ true) → Avoids (only c) s → Avoids (only d) s
includes_avoids c d empty h a = tt
includes_avoids c d (one e) h a = not_both (hits (only d) e) (hits (only c) e) (or_less (has d e.at) (has_some d e.also) (has c e.at) (has_some c e.also) (h e.at) (some_includes c d e.also h)) a
includes_avoids c d (join m x y) h a = (includes_avoids c d x h a.0, includes_avoids c d y h a.1)
includes_avoids c d (bind x q) h a = includes_avoids c d x h a
