-- Linear orders of any positions that can be listed, from ranks and from blocks.
use Rattle.std.specs.Prelude.{ℕ, zero, suc, ◌+◌, ◌<◌, ◌≤◌, Bool, true, false, List, [], ◌∷◌, ◌++◌, ◌≡◌, ◌⊎◌, ltb}
use Rattle.std.proofs.Common.{inl, inr, refl, arith}
use Rattle.std.proofs.lemmas.Bool.{cases_lt, ltb-false}
use Rattle.std.proofs.lemmas.Bool.Decides.{Decides-ltb}
use Rattle.msc_base.specs.Orders.{Among, first, later, Once, Kept, IsLinear}
use Rattle.sound_terms.specs.OrderLaws.{IsLinearOn, HasLinearOn}

module _ {P : Type 0} where
  pub among_left : (a b : List P) (p : P) → Among p a → Among p (a ++ b)
  among_left (q ∷ a) b _ first = first
  among_left (q ∷ a) b p (later h) = later (among_left a b p h)
  among_left [] b p h = elim h [ ]

  pub among_right : (a b : List P) (p : P) → Among p b → Among p (a ++ b)
  among_right [] b p h = h
  among_right (q ∷ a) b p h = later (among_right a b p h)

  pub among_either : (a b : List P) (p : P) → Among p (a ++ b) → Among p a ⊎ Among p b
  among_either [] b p h = inr h
  among_either (q ∷ a) b _ first = inl first
  among_either (q ∷ a) b p (later h) = elim (among_either a b p h) [ inl i ↦ inl (later i) | inr i ↦ inr i ]

  pub once_both : (a b : List P) → Once a → Once b → ((p : P) → Among p a → Among p b → ⊥) → Once (a ++ b)
  once_both [] b h k apart = k
  once_both (q ∷ a) b (h, i) k apart = (λ j. elim (among_either a b q j) [ inl n ↦ h n | inr n ↦ apart q first n ], once_both a b i k (λ p x y. apart p (later x) y))

  pub kept_both : (B : P → P → Type 0) (a b : List P) → Kept B a → Kept B b → ((p q : P) → Among p a → Among q b → B q p → ⊥) → Kept B (a ++ b)
  kept_both B [] b h k apart = k
  kept_both B (q ∷ a) b (h, i) k apart = (λ p j n. back p j n, kept_both B a b i k (λ x y m n. apart x y (later m) n))
    where
      back : (p : P) → Among p (q ∷ (a ++ b)) → B p q → ⊥
      back p j n = elim (among_either (q ∷ a) b p j) [ inl m ↦ h p m n | inr m ↦ apart q p first m n ]

  -- sorted by rank
  module _ (rank : P → ℕ) where
    abbrev put_at : Bool → P → P → List P → List P → List P
    put_at true p q l m = q ∷ m
    put_at false p q l m = p ∷ q ∷ l

    abbrev put : P → List P → List P
    put p [] = p ∷ []
    put p (q ∷ l) = put_at (ltb (rank q) (rank p)) p q l (put p l)

    abbrev sorted : List P → List P
    sorted [] = []
    sorted (p ∷ l) = put p (sorted l)

    abbrev AreRising : List P → Type 0
    AreRising [] = Unit {0}
    AreRising (p ∷ l) = ((q : P) → Among q l → rank p ≤ rank q) × AreRising l

    swap : (p k q : P) (l : List P) → Among q (p ∷ l) → Among q (p ∷ k ∷ l)
    swap p k _ l first = first
    swap p k q l (later i) = later (later i)

    in_put : (p q k : P) (l m : List P) (b : Bool) → ((n : P) → Among n m → Among n (p ∷ l)) → Among q (put_at b p k l m) → Among q (p ∷ k ∷ l)
    in_put p _ k l m true more first = later first
    in_put p q k l m true more (later i) = swap p k q l (more q i)
    in_put p q k l m false more i = i

    put_among : (p q : P) (l : List P) → Among q (put p l) → Among q (p ∷ l)
    put_among p q [] h = h
    put_among p q (k ∷ l) h = in_put p q k l (put p l) (ltb (rank k) (rank p)) (λ n i. put_among p n l i) h

    put_in : (p q k : P) (l m : List P) (b : Bool) → ((n : P) → Among n (p ∷ l) → Among n m) → Among q (p ∷ k ∷ l) → Among q (put_at b p k l m)
    put_in p _ k l m true more first = later (more p first)
    put_in p _ k l m true more (later first) = first
    put_in p q k l m true more (later (later i)) = later (more q (later i))
    put_in p q k l m false more i = i

    among_put : (p q : P) (l : List P) → Among q (p ∷ l) → Among q (put p l)
    among_put p q [] h = h
    among_put p q (k ∷ l) h = put_in p q k l (put p l) (ltb (rank k) (rank p)) (λ n i. among_put p n l i) h

    -- q is neither p nor behind itself
    not_first : (p q : P) (l : List P) → (Among p (q ∷ l) → ⊥) → (Among q l → ⊥) → Among q (p ∷ l) → ⊥
    not_first p _ l h k first = h first
    not_first p q l h k (later i) = k i

    once_at : (p q : P) (l : List P) (b : Bool) → (Among p (q ∷ l) → ⊥) → (Among q l → ⊥) → Once l → Once (put p l) → Once (put_at b p q l (put p l))
    once_at p q l true h k m more = (λ i. not_first p q l h k (put_among p q l i), more)
    once_at p q l false h k m more = (h, (k, m))

    put_once : (p : P) (l : List P) → (Among p l → ⊥) → Once l → Once (put p l)
    put_once p [] h k = (λ i. elim i [ ], tt)
    put_once p (q ∷ l) h (k, m) = once_at p q l (ltb (rank q) (rank p)) h k m (put_once p l (λ i. h (later i)) m)

    below : (p q : P) (l : List P) → rank q < rank p → ((n : P) → Among n l → rank q ≤ rank n) → (n : P) → Among n (p ∷ l) → rank q ≤ rank n
    below p q l lt h _ first = omega (arith, lt)
    below p q l lt h n (later i) = h n i

    above : (p q : P) (l : List P) → rank p ≤ rank q → ((n : P) → Among n l → rank q ≤ rank n) → (n : P) → Among n (q ∷ l) → rank p ≤ rank n
    above p q l le h _ first = le
    above p q l le h n (later i) = omega (arith, le, h n i)

    rising_at : (p q : P) (l : List P) (b : Bool) → ltb (rank q) (rank p) ≡ b → ((n : P) → Among n l → rank q ≤ rank n) → AreRising l → AreRising (put p l) → AreRising (put_at b p q l (put p l))
    rising_at p q l true e h k more = (λ n i. below p q l ((Decides-ltb (rank q) (rank p)).0 e) h n (put_among p n l i), more)
    rising_at p q l false e h k more = (λ n i. above p q l (ltb-false (rank q) (rank p) e) h n i, (h, k))

    put_rising : (p : P) (l : List P) → AreRising l → AreRising (put p l)
    put_rising p [] h = (λ q i. elim i [ ], tt)
    put_rising p (q ∷ l) (h, k) = rising_at p q l (ltb (rank q) (rank p)) refl h k (put_rising p l k)

    over : (p q : P) (l m : List P) → ((n : P) → Among n m → Among n l) → Among p (q ∷ m) → Among p (q ∷ l)
    over _ q l m h first = first
    over p q l m h (later i) = later (h p i)

    sorted_among : (p : P) (l : List P) → Among p (sorted l) → Among p l
    sorted_among p [] h = h
    sorted_among p (q ∷ l) h = over p q l (sorted l) (λ n i. sorted_among n l i) (put_among q p (sorted l) h)

    among_sorted : (p : P) (l : List P) → Among p l → Among p (sorted l)
    among_sorted p [] h = h
    among_sorted p (q ∷ l) h = among_put q p (sorted l) (over p q (sorted l) l (λ n i. among_sorted n l i) h)

    sorted_once : (l : List P) → Once l → Once (sorted l)
    sorted_once [] h = tt
    sorted_once (p ∷ l) (h, k) = put_once p (sorted l) (λ i. h (sorted_among p l i)) (sorted_once l k)

    sorted_rising : (l : List P) → AreRising (sorted l)
    sorted_rising [] = tt
    sorted_rising (p ∷ l) = put_rising p (sorted l) (sorted_rising l)

    not_behind : (p q : P) (l : List P) → ((n : P) → Among n l → rank p ≤ rank n) → Among q (p ∷ l) → rank q < rank p → ⊥
    not_behind p _ l h first lt = omega (arith, lt)
    not_behind p q l h (later i) lt = omega (arith, lt, h q i)

    rising_kept : (B : P → P → Type 0) → ((p q : P) → B p q → rank p < rank q) → (l : List P) → AreRising l → Kept B l
    rising_kept B up [] h = tt
    rising_kept B up (p ∷ l) (h, k) = (λ q i b. not_behind p q l h i (up q p b), rising_kept B up l k)

    -- sorted by rank, the pairs are kept where they rise
    pub ranked_linear : (B : P → P → Type 0) → ((p q : P) → B p q → rank p < rank q) → (l : List P) → ((p : P) → Among p l) → Once l → (k : List P) × IsLinear B k
    ranked_linear B up l every once = (sorted l, record { every = λ p. among_sorted p l (every p); once = sorted_once l once; kept = rising_kept B up (sorted l) (sorted_rising l) })

  -- one block after another
  module _ (B : P → P → Type 0) (block : P → ℕ) (falls : (p q : P) → B p q → block p ≤ block q) (each : (n : ℕ) → HasLinearOn B (λ p. block p ≡ n)) where
    up_to : (n : ℕ) → (l : List P) × IsLinearOn B (λ p. block p < n) l
    up_to zero = ([], record { every = λ p h. absurd (omega (arith, h)); only = λ p h. elim h [ ]; once = tt; kept = tt })
    up_to (suc n) =
        let (l, h) = up_to n in
        let e = each n in (
          l ++ e.list,
          record {
            every = λ p k. elim (below p k) [ inl i ↦ among_left l e.list p (h.every p i) | inr i ↦ among_right l e.list p (e.linear.every p i) ];
            only = λ p k. elim (among_either l e.list p k) [ inl i ↦ wider p (h.only p i) | inr i ↦ last p (e.linear.only p i) ];
            once = once_both l e.list h.once e.linear.once (λ p i j. apart p (h.only p i) (e.linear.only p j));
            kept = kept_both B l e.list h.kept e.linear.kept (λ p q i j b. back p q (h.only p i) (e.linear.only q j) (falls q p b));
          },
        )
      where
        below : (p : P) → block p < suc n → (block p < n) ⊎ (block p ≡ n)
        below p k = elim (cases_lt (block p) n) [ inl lt ↦ inl lt | inr le ↦ inr (omega (arith, k, le)) ]

        wider : (p : P) → block p < n → block p < suc n
        wider p k = omega (arith, k)

        last : (p : P) → block p ≡ n → block p < suc n
        last p k = omega (arith, k)

        apart : (p : P) → block p < n → block p ≡ n → ⊥
        apart p k e = omega (arith, k, e)

        back : (p q : P) → block p < n → block q ≡ n → block q ≤ block p → ⊥
        back p q k e le = omega (arith, k, e, le)

    -- a number above the blocks of all these
    higher : (q : P) (l : List P) (n : ℕ) → ((p : P) → Among p l → block p < n) → (p : P) → Among p (q ∷ l) → block p < suc (block q + n)
    higher q l n h _ first = omega arith
    higher q l n h p (later i) = omega (arith, h p i)

    above_all : (l : List P) → (n : ℕ) × ((p : P) → Among p l → block p < n)
    above_all [] = (zero, λ p h. elim h [ ])
    above_all (q ∷ l) = let (n, h) = above_all l in (suc (block q + n), λ p i. higher q l n h p i)

    pub blocks_linear : (l : List P) → ((p : P) → Among p l) → (k : List P) × IsLinear B k
    blocks_linear l every =
        let (n, h) = above_all l in
        let (k, i) = up_to n in
        (k, record { every = λ p. i.every p (h p (every p)); once = i.once; kept = i.kept })
