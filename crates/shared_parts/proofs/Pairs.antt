-- Two lists that agree pair by pair, and the walk that compares them.
use Rattle.std.proofs.Common.{◌≡◌, ◌↔◌, ◌<◌, ◌≤◌, ◌+◌, ℕ, suc, IsTrue, true, false, List, [], ◌∷◌, drop, get_or, length, map, refl, sym, ap, ap₂, subst, ◌∙◌, arith}
use Rattle.std.specs.Bool.{⊤}
use Rattle.list_facts.proofs.Reading.{drop_read, drop_end}
use Rattle.msc_tree.specs.declared.reference.Join.{Join}
use Rattle.shared_parts.specs.PartRules.{AreAlikeJoins}

-- they are as long, and each two at one place agree
abbrev pub Agree : {X : Type 0} → (X → X → Type 0) → List X → List X → Type 0
Agree S [] [] = ⊤
Agree S [] (y ∷ ys) = ⊥
Agree S (x ∷ xs) [] = ⊥
Agree S (x ∷ xs) (y ∷ ys) = S x y × Agree S xs ys

-- what is left of them agrees where all does
abbrev pub IsCompared : {X : Type 0} → (X → X → Type 0) → List X → List X → ℕ → Type 0
IsCompared S xs ys k = Agree S (drop k xs) (drop k ys) ↔ Agree S xs ys

module _ {X : Type 0} (S : X → X → Type 0) where
  pub as_long : (xs ys : List X) → Agree S xs ys → length xs ≡ length ys
  as_long [] [] h = refl
  as_long [] (y ∷ ys) h = absurd h
  as_long (x ∷ xs) [] h = absurd h
  as_long (x ∷ xs) (y ∷ ys) h = ap suc (as_long xs ys h.1)

  pub compared_start : (xs ys : List X) → IsCompared S xs ys 0
  compared_start xs ys = (λ h. h, λ h. h)

  split : (xs ys : List X) (k : ℕ) (x y : X) → k < length xs → k < length ys → x ≡ get_or xs k x → y ≡ get_or ys k y → Agree S (drop k xs) (drop k ys) ↔ (S x y × Agree S (drop (k + 1) xs) (drop (k + 1) ys))
  split xs ys k x y low below is at = (
    λ h. subst (λ (l : List X). Agree S (x ∷ drop (k + 1) xs) l) (drop_read ys k y below at) (subst (λ (l : List X). Agree S l (drop k ys)) (drop_read xs k x low is) h),
    λ h. subst (λ (l : List X). Agree S l (drop k ys)) (sym (drop_read xs k x low is)) (subst (λ (l : List X). Agree S (x ∷ drop (k + 1) xs) l) (sym (drop_read ys k y below at)) h),
  )

  -- the next two agree
  pub compared_more : (xs ys : List X) (k : ℕ) (x y : X) → k < length xs → k < length ys → x ≡ get_or xs k x → y ≡ get_or ys k y → S x y → IsCompared S xs ys k → IsCompared S xs ys (k + 1)
  compared_more xs ys k x y low below is at same h =
      let s = split xs ys k x y low below is at in
      (λ g. h.0 (s.1 (same, g)), λ g. (s.0 (h.1 g)).1)

  -- they don't
  pub compared_other : (xs ys : List X) (k : ℕ) (x y : X) → k < length xs → k < length ys → x ≡ get_or xs k x → y ≡ get_or ys k y → (S x y → ⊥) → IsCompared S xs ys k → Agree S xs ys → ⊥
  compared_other xs ys k x y low below is at other h g = let s = split xs ys k x y low below is at in other (s.0 (h.1 g)).0

  -- all do
  pub compared_all : (xs ys : List X) (k : ℕ) → length xs ≤ k → length ys ≤ k → IsCompared S xs ys k → Agree S xs ys
  compared_all xs ys k low below h =
      let none : drop k xs ≡ [] = drop_end xs k (λ l. omega (arith, l, low)) in
      let too : drop k ys ≡ [] = drop_end ys k (λ l. omega (arith, l, below)) in
      h.0 (subst (λ (l : List X). Agree S l (drop k ys)) (sym none) (subst (λ (l : List X). Agree S [] l) (sym too) tt))

-- ---- what a test of them tells

pub never : {P : Type 0} → (P → ⊥) → IsTrue false ↔ P
never none = (λ t. cc, λ p. absurd (none p))

pub always : {P : Type 0} → P → IsTrue true ↔ P
always p = (λ t. p, λ q. refl)

-- ---- lists that are the same

module _ {X A : Type 0} (f : X → A) where
  pub same_of : (xs ys : List X) → Agree (λ x y. f x ≡ f y) xs ys → map f xs ≡ map f ys
  same_of [] [] h = refl
  same_of [] (y ∷ ys) h = absurd h
  same_of (x ∷ xs) [] h = absurd h
  same_of (x ∷ xs) (y ∷ ys) h = ap₂ (λ (a : A) (l : List A). a ∷ l) h.0 (same_of xs ys h.1)

  pub of_same : (xs ys : List X) → map f xs ≡ map f ys → Agree (λ x y. f x ≡ f y) xs ys
  of_same [] [] e = tt
  of_same [] (y ∷ ys) e = cc
  of_same (x ∷ xs) [] e = cc
  of_same (x ∷ xs) (y ∷ ys) e = (let h : f x ≡ f y = cc in h, of_same xs ys (let t : map f xs ≡ map f ys = cc in t))

map_id : {X : Type 0} (xs : List X) → map (λ x. x) xs ≡ xs
map_id [] = refl
map_id (x ∷ xs) = ap (λ l. x ∷ l) (map_id xs)

pub equal_of : {X : Type 0} (xs ys : List X) → Agree (λ x y. x ≡ y) xs ys → xs ≡ ys
equal_of xs ys h = sym (map_id xs) ∙ same_of (λ x. x) xs ys h ∙ map_id ys

pub of_equal : {X : Type 0} (xs ys : List X) → xs ≡ ys → Agree (λ x y. x ≡ y) xs ys
of_equal xs ys e = of_same (λ x. x) xs ys (ap (map (λ x. x)) e)

-- ---- joins

abbrev pub IsAlikeJoin : Join → Join → Type 0
IsAlikeJoin j k = (j.gate ≡ k.gate) × (j.to ≡ k.to)

pub joins_of : (js ks : List Join) → Agree IsAlikeJoin js ks → AreAlikeJoins js ks
joins_of [] [] h = tt
joins_of [] (k ∷ ks) h = absurd h
joins_of (j ∷ js) [] h = absurd h
joins_of (j ∷ js) (k ∷ ks) h = (h.0.0, h.0.1, joins_of js ks h.1)

pub of_joins : (js ks : List Join) → AreAlikeJoins js ks → Agree IsAlikeJoin js ks
of_joins [] [] h = tt
of_joins [] (k ∷ ks) h = absurd h
of_joins (j ∷ js) [] h = absurd h
of_joins (j ∷ js) (k ∷ ks) h = ((h.0, h.1), of_joins js ks h.2)
