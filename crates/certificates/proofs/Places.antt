-- A linear order of positions is the same as a place for each.
use Rattle.std.specs.Prelude.{ℕ, zero, suc, ◌+◌, ◌<◌, ◌≤◌, List, [], ◌∷◌, ◌≡◌, ◌⊎◌, Some, length, slice_get, map, refl}
use Rattle.std.proofs.Common.{ap, ap₂, sym, subst, ◌∙◌, arith, inl, inr}
use Rattle.std.proofs.lemmas.Option.{slice_get_within}
use Rattle.msc_base.specs.Orders.{Among, Once, Kept, IsLinear, first, later}

-- where a member stands in a list, counted from 0
abbrev pub index : {P : Type 0} {p : P} {l : List P} → Among p l → ℕ
index first = zero
index (later h) = suc (index h)

pub some_same : {A : Type 0} (x y : A) → Some x ≡ Some y → x ≡ y
some_same x y e = cc

less_or : (m n : ℕ) → m ≤ n → (m ≡ n) ⊎ (suc m ≤ n)
less_or zero zero h = inl refl
less_or zero (suc n) h = inr (omega arith)
less_or (suc m) zero h = absurd (omega arith)
less_or (suc m) (suc n) h = elim (less_or m n (omega (arith, h))) [ inl e ↦ inl (ap suc e) | inr g ↦ inr (omega (arith, g)) ]

-- a place for each position, as certificates give it
pub record ArePlaces {P : Type 0} (place : P → ℕ) (label : P → ℕ) (B : P → P → Type 0) (run : List ℕ) : Type 0 where
  pub labelled : (p : P) → (k : ℕ) × (place p ≡ suc k) × (slice_get run k ≡ Some (label p))
  pub once : (p q : P) → place p ≡ place q → p ≡ q
  pub every : (k : ℕ) → k < length run → (p : P) × (place p ≡ suc k)
  pub forward : (p q : P) → B p q → place p < place q

module _ {P : Type 0} (place : P → ℕ) (label : P → ℕ) (B : P → P → Type 0) (run : List ℕ) (are : ArePlaces place label B run) where
  -- the positions of the places from i on
  record IsTail (i n : ℕ) (l : List P) : Type 0 where
    above : (q : P) → Among q l → i < place q
    there : (p : P) → i < place p → place p ≤ i + n → Among p l
    different : Once l
    kept : Kept B l
    labels : (rest : List ℕ) → length rest ≡ n → ((j : ℕ) → slice_get rest j ≡ slice_get run (i + j)) → map label l ≡ rest

  at_none : (i : ℕ) → IsTail i zero []
  at_none i = record {
    above = λ q h. elim h [ ];
    there = λ p h g. absurd (omega (arith, h, g));
    different = tt;
    kept = tt;
    labels = λ rest e f. none_left rest e;
  }
    where
      none_left : (rest : List ℕ) → length rest ≡ zero → map label [] ≡ rest
      none_left [] e = refl
      none_left (r ∷ rest) e = absurd (omega (arith, e))

  label_is : (p : P) (i : ℕ) → place p ≡ suc i → slice_get run i ≡ Some (label p)
  label_is p i g = let (k, e, h) = are.labelled p in as_at k e h
    where
      as_at : (k : ℕ) → place p ≡ suc k → slice_get run k ≡ Some (label p) → slice_get run i ≡ Some (label p)
      as_at k e h = let s : i ≡ k = omega (arith, e, g) in rw s h

  at_more : (i n : ℕ) (p : P) → place p ≡ suc i → (l : List P) → IsTail (suc i) n l → IsTail i (suc n) (p ∷ l)
  at_more i n p g l t = record {
    above = above_all;
    there = λ q h k. there_one q h k (less_or (suc i) (place q) (omega (arith, h)));
    different = (λ h. absurd (let r = t.above p h in omega (arith, r, g)), t.different);
    kept = (λ q h b. absurd (let r = above_all q h in let s = are.forward q p b in omega (arith, r, s, g)), t.kept);
    labels = labels_one;
  }
    where
      above_all : (q : P) → Among q (p ∷ l) → i < place q
      above_all q first = omega (arith, g)
      above_all q (later h) = let r = t.above q h in omega (arith, r)

      there_one : (q : P) → i < place q → place q ≤ i + suc n → (suc i ≡ place q) ⊎ (suc (suc i) ≤ place q) → Among q (p ∷ l)
      there_one q h k (inl e) = let s : p ≡ q = are.once p q (omega (arith, e, g)) in subst (λ z. Among z (p ∷ l)) s first
      there_one q h k (inr e) = later (t.there q (omega (arith, e)) (omega (arith, k)))

      labels_one : (rest : List ℕ) → length rest ≡ suc n → ((j : ℕ) → slice_get rest j ≡ slice_get run (i + j)) → label p ∷ map label l ≡ rest
      labels_one [] e f = absurd (omega (arith, e))
      labels_one (r ∷ rest) e f =
          let h : Some r ≡ Some (label p) = f zero ∙ ap (slice_get run) (omega arith) ∙ label_is p i g in
          let a : r ≡ label p = some_same r (label p) h in
          let b : map label l ≡ rest = t.labels rest (omega (arith, e)) (λ j. f (suc j) ∙ ap (slice_get run) (omega arith)) in
          ap₂ (λ x y. x ∷ y) (sym a) b

  tail : (n i : ℕ) → i + n ≡ length run → (l : List P) × IsTail i n l
  tail zero i e = ([], at_none i)
  tail (suc n) i e =
      let h = are.every i (omega (arith, e)) in
      let r = tail n (suc i) (omega (arith, e)) in
      (h.0 ∷ r.0, at_more i n h.0 h.1 r.0 r.1)

  -- the positions by their places are a linear order, and its labels are the run
  pub order_of : (l : List P) × IsLinear B l × (map label l ≡ run)
  order_of =
      let r = tail (length run) zero (omega arith) in
      (r.0, record { every = λ p. every_one r.0 r.1 p; once = r.1.different; kept = r.1.kept }, r.1.labels run refl (λ j. ap (slice_get run) (omega arith)))
    where
      every_one : (l : List P) → IsTail zero (length run) l → (p : P) → Among p l
      every_one l t p = let (k, e, h) = are.labelled p in let w = slice_get_within run k (label p) h in t.there p (omega (arith, e)) (omega (arith, e, w))

-- the other way: where each position stands in a linear order
module _ {P : Type 0} (label : P → ℕ) (B : P → P → Type 0) where
  same_index : (l : List P) (p q : P) (a : Among p l) (b : Among q l) → index a ≡ index b → p ≡ q
  same_index [] p q a b e = elim a [ ]
  same_index (_ ∷ l) p q first first e = refl
  same_index (_ ∷ l) p q first (later b) e = absurd (omega (arith, e))
  same_index (_ ∷ l) p q (later a) first e = absurd (omega (arith, e))
  same_index (_ ∷ l) p q (later a) (later b) e = same_index l p q a b (omega (arith, e))

  one_index : (l : List P) (p q : P) (a : Among p l) (b : Among q l) → p ≡ q → Once l → index a ≡ index b
  one_index [] p q a b e o = elim a [ ]
  one_index (_ ∷ l) p q first first e o = refl
  one_index (_ ∷ l) p q first (later b) e o = absurd (o.0 (rw e b))
  one_index (_ ∷ l) p q (later a) first e o = absurd (o.0 (rw e at a))
  one_index (_ ∷ l) p q (later a) (later b) e o = ap suc (one_index l p q a b e o.1)

  label_at_index : (l : List P) (p : P) (a : Among p l) → slice_get (map label l) (index a) ≡ Some (label p)
  label_at_index [] p a = elim a [ ]
  label_at_index (_ ∷ l) p first = refl
  label_at_index (_ ∷ l) p (later a) = label_at_index l p a

  at_index : (l : List P) (k : ℕ) → k < length (map label l) → (p : P) × (a : Among p l) × (index a ≡ k)
  at_index [] k h = absurd (omega (arith, h))
  at_index (p ∷ l) zero h = (p, first, refl)
  at_index (p ∷ l) (suc k) h = let (q, a, e) = at_index l k (omega (arith, h)) in (q, later a, ap suc e)

  goes_forward : (l : List P) (p q : P) (a : Among p l) (b : Among q l) → Kept B l → B p q → index a < index b
  goes_forward [] p q a b k h = elim a [ ]
  goes_forward (_ ∷ l) p q first first k h = absurd (k.0 p first h)
  goes_forward (_ ∷ l) p q first (later b) k h = omega arith
  goes_forward (_ ∷ l) p q (later a) first k h = absurd (k.0 p (later a) h)
  goes_forward (_ ∷ l) p q (later a) (later b) k h = let r = goes_forward l p q a b k.1 h in omega (arith, r)

  pub places_of : (l : List P) → IsLinear B l → (run : List ℕ) → map label l ≡ run → (place : P → ℕ) × ArePlaces place label B run
  places_of l linear run e = (
    λ p. suc (index (linear.every p)),
    record {
      labelled = λ p. (index (linear.every p), refl, ap (λ r. slice_get r (index (linear.every p))) (sym e) ∙ label_at_index l p (linear.every p));
      once = λ p q h. same_index l p q (linear.every p) (linear.every q) (omega (arith, h));
      every = λ k h. at_place k (at_index l k (rw e h));
      forward = λ p q h. let r = goes_forward l p q (linear.every p) (linear.every q) linear.kept h in omega (arith, r);
    },
  )
    where
      at_place : (k : ℕ) → (p : P) × (a : Among p l) × (index a ≡ k) → (p : P) × (suc (index (linear.every p)) ≡ suc k)
      at_place k (p, a, i) = (p, ap suc (one_index l p p (linear.every p) a refl linear.once ∙ i))
