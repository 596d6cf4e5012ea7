-- How much of a search is ahead: by what the loop of the search falls.
use Rattle.std.specs.Prelude.{ℕ, zero, suc, ◌+◌, ◌-◌, ◌<◌, ◌≤◌, ◌⊎◌, List, [], ◌∷◌, ◌++◌, ◌≡◌, Option, Some, None, refl, length}
use Rattle.std.proofs.Common.{ap, sym, ◌∙◌, subst, arith, inl, inr}
use Rattle.chart_term.specs.Tables.{Tables}
use Rattle.chart_term.specs.Terms.{Tree}
use Rattle.term_step.specs.Children.{child}
use Rattle.term_step.specs.Searches.{child_count}
use Rattle.term_step.specs.declared.ascent.Frame.{Frame}
use Rattle.term_laws.specs.Permission.{permits_of}
use Rattle.term_laws.proofs.Measures.{rank_in}

module _ (w : Tables) where
  abbrev of_some : (Tree → ℕ) → Option Tree → ℕ
  of_some f None = 0
  of_some f (Some y) = f y

  -- of so many children from an index on
  abbrev pub ahead : (Tree → ℕ) → Tree → ℕ → ℕ → ℕ
  ahead f x i zero = 0
  ahead f x i (suc r) = of_some f (child (permits_of w) x i) + ahead f x (suc i) r

  -- of a term, to a depth that isn't below its rank
  abbrev pub visits : ℕ → Tree → ℕ
  visits zero x = 0
  visits (suc n) x = suc (suc (ahead (visits n) x 0 (child_count w x)))

  -- from an index of a term on
  abbrev pub place_visits : ℕ → Tree → ℕ → ℕ
  place_visits n x i = suc (ahead (visits n) x i (child_count w x - i))

  -- behind the places of a path
  abbrev pub path_visits : ℕ → List Frame → ℕ
  path_visits n [] = 0
  path_visits n (f ∷ fs) = place_visits n f.parent (suc f.index) + path_visits (n - 1) fs

  abbrev pub all_visits : ℕ → List Frame → Tree → ℕ → ℕ
  all_visits n fs x i = path_visits n fs + place_visits (n - length fs) x i

  cut : (i p : ℕ) → i ≤ p → (i ≡ p) ⊎ (suc i ≤ p)
  cut i p l = grind arith

  ahead_at : (f : Tree → ℕ) (x : Tree) (i r p : ℕ) (y : Tree) → i ≤ p → p < i + r → child (permits_of w) x p ≡ Some y → f y + ahead f x (suc p) (i + r - suc p) ≤ ahead f x i r
  ahead_at f x i zero p y l m c = absurd (omega arith)
  ahead_at f x i (suc r) p y l m c = elim (cut i p l) [
    | inl e ↦ here e
    | inr b ↦ (
        let n : i + suc r - suc p ≡ suc i + r - suc p = omega arith in
        let q : ahead f x (suc p) (i + suc r - suc p) ≡ ahead f x (suc p) (suc i + r - suc p) = ap (ahead f x (suc p)) n in
        omega (arith, ahead_at f x (suc i) r p y b (omega arith) c, q)
        )
  ]
    where
      here : i ≡ p → f y + ahead f x (suc p) (i + suc r - suc p) ≤ of_some f (child (permits_of w) x i) + ahead f x (suc i) r
      here e =
          let n : i + suc r - suc p ≡ r = omega arith in
          let q : ahead f x (suc p) (i + suc r - suc p) ≡ ahead f x (suc i) r = λ j. ahead f x (suc (sym e j)) (n j) in
          let o : of_some f (child (permits_of w) x i) ≡ f y = ap (of_some f) (ap (child (permits_of w) x) e ∙ c) in
          omega (arith, q, o)

  less_none : (n : ℕ) → n - 0 ≡ n
  less_none n = omega arith

  length_snoc : (fs : List Frame) (f : Frame) → length (fs ++ f ∷ []) ≡ suc (length fs)
  length_snoc [] f = refl
  length_snoc (g ∷ fs) f = ap (λ m. suc m) (length_snoc fs f)

  path_snoc : (n : ℕ) (fs : List Frame) (f : Frame) → path_visits n (fs ++ f ∷ []) ≡ path_visits n fs + place_visits (n - length fs) f.parent (suc f.index)
  path_snoc n [] f = omega (arith, ap (λ k. place_visits k f.parent (suc f.index)) (less_none n))
  path_snoc n (g ∷ fs) f =
      let m : n - 1 - length fs ≡ n - suc (length fs) = omega arith in
      omega (arith, path_snoc (n - 1) fs f, ap (λ l. place_visits l f.parent (suc f.index)) m)

  pub visits-down : (n : ℕ) (fs gs : List Frame) (x y u : Tree) (i p : ℕ) → length fs < n → i ≤ p → p < child_count w x → child (permits_of w) x p ≡ Some y → gs ≡ fs ++ record { parent = x; index = p } ∷ [] → u ≡ y → all_visits n gs u 0 < all_visits n fs x i
  visits-down n fs gs x y u i p l m b c e q = go (n - length fs) refl
    where
      go : (d : ℕ) → n - length fs ≡ d → all_visits n gs u 0 < all_visits n fs x i
      go zero h = absurd (omega arith)
      go (suc d) h =
          let f : Frame = record { parent = x; index = p } in
          let g : path_visits n gs ≡ path_visits n fs + place_visits (suc d) x (suc p) = ap (path_visits n) e ∙ (path_snoc n fs f ∙ ap (λ k. path_visits n fs + place_visits k x (suc p)) h) in
          let s : n - length gs ≡ d = (let s1 = ap (λ (hs : List Frame). length hs) e ∙ length_snoc fs f in omega arith) in
          let t : place_visits (n - length gs) u 0 ≡ place_visits d y 0 = λ j. place_visits (s j) (q j) 0 in
          let v : place_visits (n - length fs) x i ≡ place_visits (suc d) x i = ap (λ k. place_visits k x i) h in
          let k : i + (child_count w x - i) - suc p ≡ child_count w x - suc p = omega arith in
          let k1 : ahead (visits (suc d)) x (suc p) (i + (child_count w x - i) - suc p) ≡ ahead (visits (suc d)) x (suc p) (child_count w x - suc p) = ap (ahead (visits (suc d)) x (suc p)) k in
          let a = ahead_at (visits (suc d)) x i (child_count w x - i) p y m (omega arith) c in
          let z : ahead (visits d) y 0 (child_count w y - 0) ≡ ahead (visits d) y 0 (child_count w y) = ap (ahead (visits d) y 0) (less_none (child_count w y)) in
          omega (arith, g, t, v, k1, a, z)

  pub visits-up : (n : ℕ) (fs gs : List Frame) (f : Frame) (x y : Tree) (i j : ℕ) → fs ≡ gs ++ f ∷ [] → y ≡ f.parent → j ≡ f.index + 1 → all_visits n gs y j < all_visits n fs x i
  visits-up n fs gs f x y i j e q h =
      let g : path_visits n fs ≡ path_visits n gs + place_visits (n - length gs) f.parent (suc f.index) = ap (path_visits n) e ∙ path_snoc n gs f in
      let k : j ≡ suc f.index = omega arith in
      let t : place_visits (n - length gs) y j ≡ place_visits (n - length gs) f.parent (suc f.index) = λ l. place_visits (n - length gs) (q l) (k l) in
      omega (arith, g, t)

  -- each term of the path, and the one that it leads to, has a lower rank than the one before
  abbrev pub AreRanked : ℕ → List Frame → Tree → Type 0
  AreRanked n [] x = rank_in w x ≤ n
  AreRanked n (f ∷ fs) x = (rank_in w f.parent ≤ n) × (0 < n) × AreRanked (n - 1) fs x

  pub ranked-down : (n : ℕ) (fs gs : List Frame) (x y u : Tree) (p : ℕ) → AreRanked n fs x → rank_in w y < rank_in w x → gs ≡ fs ++ record { parent = x; index = p } ∷ [] → u ≡ y → AreRanked n gs u
  ranked-down n fs gs x y u p h l e q = subst (λ (v : Tree). AreRanked n gs v) (sym q) (subst (λ (hs : List Frame). AreRanked n hs y) (sym e) (go n fs h))
    where
      go : (n : ℕ) (fs : List Frame) → AreRanked n fs x → AreRanked n (fs ++ record { parent = x; index = p } ∷ []) y
      go n [] h = (h, omega arith, omega arith)
      go n (g ∷ fs) h = (h.0, h.1, go (n - 1) fs h.2)

  pub ranked-up : (n : ℕ) (fs gs : List Frame) (f : Frame) (x y : Tree) → AreRanked n fs x → fs ≡ gs ++ f ∷ [] → y ≡ f.parent → AreRanked n gs y
  ranked-up n fs gs f x y h e q = subst (λ (v : Tree). AreRanked n gs v) (sym q) (go n gs (subst (λ (hs : List Frame). AreRanked n hs x) e h))
    where
      go : (n : ℕ) (gs : List Frame) → AreRanked n (gs ++ f ∷ []) x → AreRanked n gs f.parent
      go n [] h = h.0
      go n (g ∷ gs) h = (h.0, h.1, go (n - 1) gs h.2)

  pub ranked-length : (n : ℕ) (fs : List Frame) (x : Tree) → AreRanked n fs x → 0 < rank_in w x → length fs < n
  ranked-length n [] x h l = omega arith
  ranked-length n (g ∷ fs) x h l = omega (arith, ranked-length (n - 1) fs x h.2 l, h.1)
