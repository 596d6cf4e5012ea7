-- At most one list is woven: two lists, each earliest at each position, that can't go on, are the same.
use Rattle.std.proofs.Common.{◌≡◌, ℕ, ◌≤◌, List, [], ◌∷◌, ◌++◌, take, zero, suc, refl, sym, ap, ◌∙◌, subst, append-nil, append_assoc, arith}
use Rattle.msc_base.specs.Lists.{IsAmong}
use Rattle.column_order.specs.Orders.{IsAt, IsDue, IsNext, IsWhole, IsStuckAt}

module _ (n : ℕ) (precedes : ℕ → ℕ → Type 0) where
  -- behind prefix, each item of the list is the next
  abbrev pub Follows : List ℕ → List ℕ → Type 0
  Follows prefix [] = Unit {0}
  Follows prefix (x ∷ xs) = IsNext n precedes prefix x × Follows (prefix ++ x ∷ []) xs

  abbrev pub Ended : List ℕ → Type 0
  Ended prefix = (y : ℕ) → IsDue n precedes prefix y → ⊥

  pub to_follows : (prefix xs : List ℕ) → ((i x : ℕ) → IsAt xs i x → IsNext n precedes (prefix ++ take i xs) x) → Follows prefix xs
  to_follows prefix [] h = tt
  to_follows prefix (x ∷ xs) h =
      (subst (λ (f : List ℕ). IsNext n precedes f x) (append-nil prefix) (h zero x refl), to_follows (prefix ++ x ∷ []) xs (λ i y at. rw append_assoc (h (suc i) y at)))

  pub from_follows : (prefix xs : List ℕ) → Follows prefix xs → (i x : ℕ) → IsAt xs i x → IsNext n precedes (prefix ++ take i xs) x
  from_follows prefix [] f i x at = cc
  from_follows prefix (y ∷ ys) f zero x at =
      let e : y ≡ x = cc in
      subst (λ (g : List ℕ). IsNext n precedes g x) (sym (append-nil prefix)) (subst (λ (z : ℕ). IsNext n precedes prefix z) e f.0)
  from_follows prefix (y ∷ ys) f (suc i) x at = rw append_assoc at (from_follows (prefix ++ y ∷ []) ys f.1 i x at)

  pub follows_snoc : (prefix xs : List ℕ) (x : ℕ) → Follows prefix xs → IsNext n precedes (prefix ++ xs) x → Follows prefix (xs ++ x ∷ [])
  follows_snoc prefix [] x f h = (subst (λ (g : List ℕ). IsNext n precedes g x) (append-nil prefix) h, tt)
  follows_snoc prefix (y ∷ ys) x f h = (f.0, follows_snoc (prefix ++ y ∷ []) ys x f.1 (rw append_assoc h))

  pub agree : (prefix xs ys : List ℕ) → Follows prefix xs → Follows prefix ys → Ended (prefix ++ xs) → Ended (prefix ++ ys) → xs ≡ ys
  agree prefix [] [] f g e h = refl
  agree prefix [] (y ∷ ys) f g e h = absurd (e y (subst (λ (k : List ℕ). IsDue n precedes k y) (sym (append-nil prefix)) g.0.due))
  agree prefix (x ∷ xs) [] f g e h = absurd (h x (subst (λ (k : List ℕ). IsDue n precedes k x) (sym (append-nil prefix)) f.0.due))
  agree prefix (x ∷ xs) (y ∷ ys) f g e h =
      let le : x ≤ y = f.0.earliest y g.0.due in
      let ge : y ≤ x = g.0.earliest x f.0.due in
      let is : x ≡ y = omega arith in
      let f' : Follows (prefix ++ y ∷ []) xs = subst (λ (z : ℕ). Follows (prefix ++ z ∷ []) xs) is f.1 in
      let e' : Ended ((prefix ++ y ∷ []) ++ xs) = rw append_assoc (subst (λ (z : ℕ). Ended (prefix ++ z ∷ xs)) is e) in
      let h' : Ended ((prefix ++ y ∷ []) ++ ys) = rw append_assoc h in
      ap (λ (l : List ℕ). x ∷ l) (agree (prefix ++ y ∷ []) xs ys f' g.1 e' h') ∙ ap (λ (z : ℕ). z ∷ ys) is

  whole_ended : (order : List ℕ) → IsWhole n precedes order → Ended order
  whole_ended order w y d = d.remains (w.every y d.inside)

  pub whole_same : (a b : List ℕ) → IsWhole n precedes a → IsWhole n precedes b → a ≡ b
  whole_same a b v w = agree [] a b (to_follows [] a v.earliest) (to_follows [] b w.earliest) (whole_ended a v) (whole_ended b w)

  pub whole_or_stuck : (a : List ℕ) (x : ℕ) → IsWhole n precedes a → IsStuckAt n precedes x → ⊥
  whole_or_stuck a x w s =
      let is : a ≡ s.prefix = agree [] a s.prefix (to_follows [] a w.earliest) (to_follows [] s.prefix s.earliest) (whole_ended a w) s.stuck in
      s.remains (subst (λ (l : List ℕ). IsAmong l x) is (w.every x s.inside))

  pub stuck_same : (x y : ℕ) → IsStuckAt n precedes x → IsStuckAt n precedes y → x ≡ y
  stuck_same x y s t =
      let is : s.prefix ≡ t.prefix = agree [] s.prefix t.prefix (to_follows [] s.prefix s.earliest) (to_follows [] t.prefix t.earliest) s.stuck t.stuck in
      let le : x ≤ y = s.first y t.inside (λ h. t.remains (subst (λ (l : List ℕ). IsAmong l y) is h)) in
      let ge : y ≤ x = t.first x s.inside (λ h. s.remains (subst (λ (l : List ℕ). IsAmong l x) (sym is) h)) in
      omega arith
