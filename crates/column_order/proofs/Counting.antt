-- The counts of waiting edges.
use Rattle.std.proofs.Common.{◌≡◌, ℕ, ◌<◌, ◌≤◌, ◌+◌, Bool, true, false, List, [], ◌∷◌, ◌++◌, inl, inr, nat_eq, if◌then◌else◌, All, length, zero, suc, refl, sym, ap, ◌∙◌, subst, arith}
use Rattle.std.proofs.lemmas.Bool.Decides.{nat_tests}
use Rattle.std.proofs.lemmas.Bool.{cases_eq}
use Rattle.std.proofs.lemmas.List.Elements.{All-tail, All-head, All-cons}
use Rattle.msc_base.specs.Lists.{IsAmong}
use Rattle.column_order.specs.Counts.{EdgeLeads, Inside, has, times, waiting, targets}
use Rattle.column_order.specs.declared.edge.Edge.{Edge}

pub eq_true : (x y : ℕ) → x ≡ y → nat_eq x y ≡ true
eq_true x y e = grind (arith, nat_tests)

pub eq_false : (x y : ℕ) → (x ≡ y → ⊥) → nat_eq x y ≡ false
eq_false x y e = grind (arith, nat_tests)

pub has_true : (xs : List ℕ) (x : ℕ) → IsAmong xs x → has xs x ≡ true
has_true [] x h = absurd h
has_true (y ∷ ys) x (inl e) = rw (eq_true y x (sym e)) refl
has_true (y ∷ ys) x (inr h) = choose (nat_eq y x) (has_true ys x h)
  where
    choose : (b : Bool) → has ys x ≡ true → (if b then true else has ys x) ≡ true
    choose true e = refl
    choose false e = e

pub true_has : (xs : List ℕ) (x : ℕ) → has xs x ≡ true → IsAmong xs x
true_has [] x h = cc
true_has (y ∷ ys) x h = elim (cases_eq y x) [ inl e ↦ inl (sym e) | inr ne ↦ let b : nat_eq y x ≡ false = eq_false y x ne in inr (true_has ys x (rw b at h)) ]

pub false_has : (xs : List ℕ) (x : ℕ) → has xs x ≡ false → IsAmong xs x → ⊥
false_has xs x f h = let t : has xs x ≡ true = has_true xs x h in let bad : true ≡ false = sym t ∙ f in cc

pub has_false : (xs : List ℕ) (x : ℕ) → (IsAmong xs x → ⊥) → has xs x ≡ false
has_false xs x lacks = go (has xs x) refl
  where
    go : (b : Bool) → has xs x ≡ b → b ≡ false
    go true e = absurd (lacks (true_has xs x e))
    go false e = refl

pub has_snoc : (xs : List ℕ) (u x : ℕ) → has (xs ++ u ∷ []) x ≡ (if has xs x then true else nat_eq u x)
has_snoc [] u x = go (nat_eq u x)
  where
    go : (b : Bool) → (if b then true else false) ≡ b
    go true = refl
    go false = refl
has_snoc (y ∷ ys) u x = go (nat_eq y x) (has_snoc ys u x)
  where
    go : (b : Bool) → has (ys ++ u ∷ []) x ≡ (if has ys x then true else nat_eq u x) → (if b then true else has (ys ++ u ∷ []) x) ≡ (if (if b then true else has ys x) then true else nat_eq u x)
    go true e = refl
    go false e = e

-- taking u into the prefix ends the wait of the edges from u
one : (t f s : Bool) → (f ≡ true → s ≡ false) → (w v k : ℕ) → w ≡ v + k
    → (if t then (if f then 0 else 1) else 0) + w ≡ ((if t then (if (if f then true else s) then 0 else 1) else 0) + v) + ((if s then (if t then 1 else 0) else 0) + k)
one true true true h w v k e = let bad : true ≡ false = h refl in cc
one true true false h w v k e = omega arith
one true false true h w v k e = omega arith
one true false false h w v k e = omega arith
one false f true h w v k e = omega arith
one false f false h w v k e = omega arith

times_targets : (s : Bool) (to x : ℕ) (ts : List ℕ) → times x (if s then to ∷ ts else ts) ≡ (if s then (if nat_eq to x then 1 else 0) else 0) + times x ts
times_targets true to x ts = refl
times_targets false to x ts = omega arith

pub waiting_release : (es : List Edge) (prefix : List ℕ) (u x : ℕ) → has prefix u ≡ false → waiting es prefix x ≡ waiting es (prefix ++ u ∷ []) x + times x (targets es u)
waiting_release [] prefix u x f = omega arith
waiting_release (e ∷ es) prefix u x f =
    let ih : waiting es prefix x ≡ waiting es (prefix ++ u ∷ []) x + times x (targets es u) = waiting_release es prefix u x f in
    let turn : nat_eq e.from u ≡ nat_eq u e.from = grind (arith, nat_tests) in
    let other : has prefix e.from ≡ true → nat_eq e.from u ≡ false = λ t. eq_false e.from u (λ is. let bad : true ≡ false = sym t ∙ ap (has prefix) is ∙ f in cc) in
    let snoc : has (prefix ++ u ∷ []) e.from ≡ (if has prefix e.from then true else nat_eq e.from u) = has_snoc prefix u e.from ∙ ap (λ (b : Bool). if has prefix e.from then true else b) (sym turn) in
    rw (snoc, times_targets (nat_eq e.from u) e.to x (targets es u)) (one (nat_eq e.to x) (has prefix e.from) (nat_eq e.from u) other (waiting es prefix x) (waiting es (prefix ++ u ∷ []) x) (times x (targets es u)) ih)

pub waiting_le : (es : List Edge) (prefix : List ℕ) (x : ℕ) → waiting es prefix x ≤ length es
waiting_le [] prefix x = omega arith
waiting_le (e ∷ es) prefix x = let ih : waiting es prefix x ≤ length es = waiting_le es prefix x in go (nat_eq e.to x) (has prefix e.from) ih
  where
    go : (t f : Bool) → waiting es prefix x ≤ length es → (if t then (if f then 0 else 1) else 0) + waiting es prefix x ≤ suc (length es)
    go true true h = omega arith
    go true false h = omega arith
    go false f h = omega arith

-- an item has no waiting edge exactly where all that lead to it are in front
pub no_waiting : (es : List Edge) (prefix : List ℕ) (x : ℕ) → waiting es prefix x ≡ 0 → (y : ℕ) → EdgeLeads es y x → IsAmong prefix y
no_waiting [] prefix x h y l = absurd l
no_waiting (e ∷ es) prefix x h y (inl p) =
    let t : nat_eq e.to x ≡ true = eq_true e.to x p.1 in
    subst (λ (z : ℕ). IsAmong prefix z) p.0 (go (has prefix e.from) refl (rw t at h))
  where
    go : (b : Bool) → has prefix e.from ≡ b → (if b then 0 else 1) + waiting es prefix x ≡ 0 → IsAmong prefix e.from
    go true is h = true_has prefix e.from is
    go false is h = absurd (omega arith)
no_waiting (e ∷ es) prefix x h y (inr l) = no_waiting es prefix x (go (if nat_eq e.to x then (if has prefix e.from then 0 else 1) else 0) h) y l
  where
    go : (k : ℕ) → k + waiting es prefix x ≡ 0 → waiting es prefix x ≡ 0
    go k h = omega arith

pub all_waiting : (es : List Edge) (prefix : List ℕ) (x : ℕ) → ((y : ℕ) → EdgeLeads es y x → IsAmong prefix y) → waiting es prefix x ≡ 0
all_waiting [] prefix x h = refl
all_waiting (e ∷ es) prefix x h =
    let ih : waiting es prefix x ≡ 0 = all_waiting es prefix x (λ y l. h y (inr l)) in
    elim (cases_eq e.to x) [
      | inl is ↦ let b : has prefix e.from ≡ true = has_true prefix e.from (h e.from (inl (refl, is))) in
          let t : nat_eq e.to x ≡ true = eq_true e.to x is in rw (t, b) (omega arith)
      | inr ne ↦ let t : nat_eq e.to x ≡ false = eq_false e.to x ne in rw t (omega arith)
    ]

pub inside_targets : (n : ℕ) (es : List Edge) (u : ℕ) → All (Inside n) es → All (λ x. x < n) (targets es u)
inside_targets n [] u all = λ k d h. absurd (omega arith)
inside_targets n (e ∷ es) u all = go (nat_eq e.from u) (inside_targets n es u (All-tail (Inside n) e es all))
  where
    go : (b : Bool) → All (λ x. x < n) (targets es u) → All (λ x. x < n) (if b then e.to ∷ targets es u else targets es u)
    go true ih = All-cons (λ (x : ℕ). x < n) e.to (targets es u) (All-head (Inside n) e es all).1 ih
    go false ih = ih

pub times_outside : (n x : ℕ) (ts : List ℕ) → All (λ y. y < n) ts → n ≤ x → times x ts ≡ 0
times_outside n x [] all le = refl
times_outside n x (t ∷ ts) all le =
    let lt : t < n = All-head (λ (y : ℕ). y < n) t ts all in
    let b : nat_eq t x ≡ false = eq_false t x (λ e. omega arith) in
    rw (b, times_outside n x ts (All-tail (λ (y : ℕ). y < n) t ts all) le) (omega arith)

-- how many of the first n items aren't in front
abbrev pub free : ℕ → List ℕ → ℕ
free zero prefix = 0
free (suc n) prefix = (if has prefix n then 0 else 1) + free n prefix

free_other : (n : ℕ) (prefix : List ℕ) (x : ℕ) → n ≤ x → free n (prefix ++ x ∷ []) ≡ free n prefix
free_other zero prefix x le = refl
free_other (suc n) prefix x le =
    let s : has (prefix ++ x ∷ []) n ≡ (if has prefix n then true else nat_eq x n) = has_snoc prefix x n in
    let b : nat_eq x n ≡ false = eq_false x n (λ e. omega arith) in
    rw (s, b, free_other n prefix x (omega arith)) (go (has prefix n))
  where
    go : (b : Bool) → (if (if b then true else false) then 0 else 1) + free n prefix ≡ (if b then 0 else 1) + free n prefix
    go true = refl
    go false = refl

pub free_less : (n : ℕ) (prefix : List ℕ) (x : ℕ) → x < n → has prefix x ≡ false → free n (prefix ++ x ∷ []) < free n prefix
free_less zero prefix x lt f = absurd (omega arith)
free_less (suc n) prefix x lt f = elim (cases_eq x n) [
  | inl e ↦
      let b : nat_eq x n ≡ true = eq_true x n e in
      let g : has prefix n ≡ false = subst (λ (z : ℕ). has prefix z ≡ false) e f in
      let s : has (prefix ++ x ∷ []) n ≡ true = has_snoc prefix x n ∙ rw (g, b) refl in
      let o : free n (prefix ++ x ∷ []) ≡ free n prefix = free_other n prefix x (omega arith) in
      rw (s, g, o) (omega arith)
  | inr ne ↦
      let b : nat_eq x n ≡ false = eq_false x n ne in
      let ih : free n (prefix ++ x ∷ []) < free n prefix = free_less n prefix x (omega arith) f in
      let s : has (prefix ++ x ∷ []) n ≡ (if has prefix n then true else nat_eq x n) = has_snoc prefix x n in
      rw (s, b) (go (has prefix n) ih)
]
  where
    go : (b : Bool) → free n (prefix ++ x ∷ []) < free n prefix → (if (if b then true else false) then 0 else 1) + free n (prefix ++ x ∷ []) < (if b then 0 else 1) + free n prefix
    go true h = omega arith
    go false h = omega arith
