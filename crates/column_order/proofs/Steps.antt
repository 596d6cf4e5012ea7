-- One step of releasing a target.
use Rattle.std.proofs.Common.{◌≡◌, Some, slice_get, ◌++◌, append_assoc, zero, suc, ℕ, ◌<◌, ◌≤◌, ◌+◌, ◌-◌, ◌⊎◌, inl, inr, ◌↔◌, List, [], ◌∷◌, length, get_or, set, drop, sym, ◌∙◌, subst, arith, refl, nat_eq, true, false, if◌then◌else◌, Bool}
use Rattle.std.proofs.lemmas.List.{get_or-set_same, get_or-set_other}
use Rattle.std.proofs.lemmas.Bool.{cases_eq}
use Rattle.column_order.specs.Counts.{times, waiting, targets}
use Rattle.column_order.specs.declared.edge.Edge.{Edge}
use Rattle.column_order.proofs.Counting.{eq_true, eq_false}

pub same_times : (t x : ℕ) (ts : List ℕ) → t ≡ x → times x (t ∷ ts) ≡ 1 + times x ts
same_times t x ts e = rw (eq_true t x e) refl

pub other_times : (t x : ℕ) (ts : List ℕ) → (t ≡ x → ⊥) → times x (t ∷ ts) ≡ times x ts
other_times t x ts ne = rw (eq_false t x ne) (omega arith)

pub record Takes (old new : List ℕ) (t : ℕ) : Type 0 where
  pub same : get_or new t 0 + 1 ≡ get_or old t 0
  pub other : (x : ℕ) → (t ≡ x → ⊥) → get_or new x 0 ≡ get_or old x 0

pub takes : (old : List ℕ) (t : ℕ) → t < length old → 0 < get_or old t 0 → Takes old (set old t (get_or old t 0 - 1)) t
takes old t lt some = record {
  same = rw (get_or-set_same old t (get_or old t 0 - 1) 0 lt) (omega arith);
  other = λ x ne. get_or-set_other old t x (get_or old t 0 - 1) 0 (λ e. ne (sym e));
}

pub enough_more : (old new : List ℕ) (t : ℕ) (ts : List ℕ) → Takes old new t → ((x : ℕ) → times x (t ∷ ts) ≤ get_or old x 0) → (x : ℕ) → times x ts ≤ get_or new x 0
enough_more old new t ts k h x = elim (cases_eq t x) [
  | inl e ↦ let a : get_or new x 0 + 1 ≡ get_or old x 0 = subst (λ (z : ℕ). get_or new z 0 + 1 ≡ get_or old z 0) e k.same in
      omega (arith, same_times t x ts e, h x)
  | inr ne ↦ omega (arith, other_times t x ts ne, h x, k.other x ne)
]

pub counts_more : (old new start : List ℕ) (t : ℕ) (ts all : List ℕ) → Takes old new t → ((x : ℕ) → get_or old x 0 + times x all ≡ get_or start x 0 + times x (t ∷ ts)) → (x : ℕ) → get_or new x 0 + times x all ≡ get_or start x 0 + times x ts
counts_more old new start t ts all k h x = elim (cases_eq t x) [
  | inl e ↦ let a : get_or new x 0 + 1 ≡ get_or old x 0 = subst (λ (z : ℕ). get_or new z 0 + 1 ≡ get_or old z 0) e k.same in
      omega (arith, same_times t x ts e, h x)
  | inr ne ↦ omega (arith, other_times t x ts ne, h x, k.other x ne)
]

pub ready_zero : (old new start : List ℕ) (t : ℕ) (Was Is Start : ℕ → Type 0) → Takes old new t → get_or new t 0 ≡ 0 → get_or old t 0 ≤ get_or start t 0
    → ((x : ℕ) → Was x ↔ (Start x ⊎ ((0 < get_or start x 0) × (get_or old x 0 ≡ 0)))) → Is t → ((x : ℕ) → (t ≡ x → ⊥) → Is x ↔ Was x)
    → (x : ℕ) → Is x ↔ (Start x ⊎ ((0 < get_or start x 0) × (get_or new x 0 ≡ 0)))
ready_zero old new start t Was Is Start k z le h here there x = elim (cases_eq t x) [
  | inl e ↦
      let some : 0 < get_or start t 0 = omega (arith, k.same) in
      let fact : (0 < get_or start x 0) × (get_or new x 0 ≡ 0) = subst (λ (y : ℕ). (0 < get_or start y 0) × (get_or new y 0 ≡ 0)) e (some, z) in
      (λ i. inr fact, λ s. subst Is e here)
  | inr ne ↦
      let o : get_or new x 0 ≡ get_or old x 0 = k.other x ne in (
        λ i. elim ((h x).0 ((there x ne).0 i)) [ inl s ↦ inl s | inr p ↦ inr (p.0, omega (arith, p.1)) ],
        λ s. (there x ne).1 ((h x).1 (elim s [ inl s ↦ inl s | inr p ↦ inr (p.0, omega (arith, p.1)) ])),
      )
]

pub ready_some : (old new start : List ℕ) (t : ℕ) (Was Start : ℕ → Type 0) → Takes old new t → 0 < get_or new t 0
    → ((x : ℕ) → Was x ↔ (Start x ⊎ ((0 < get_or start x 0) × (get_or old x 0 ≡ 0))))
    → (x : ℕ) → Was x ↔ (Start x ⊎ ((0 < get_or start x 0) × (get_or new x 0 ≡ 0)))
ready_some old new start t Was Start k some h x = elim (cases_eq t x) [
  | inl e ↦
      let a : 0 < get_or new x 0 = subst (λ (y : ℕ). 0 < get_or new y 0) e some in
      let b : get_or new x 0 + 1 ≡ get_or old x 0 = subst (λ (y : ℕ). get_or new y 0 + 1 ≡ get_or old y 0) e k.same in
      (λ i. elim ((h x).0 i) [ inl s ↦ inl s | inr p ↦ absurd (omega (arith, p.1)) ], λ s. elim s [ inl s ↦ (h x).1 (inl s) | inr p ↦ absurd (omega (arith, p.1)) ])
  | inr ne ↦
      let o : get_or new x 0 ≡ get_or old x 0 = k.other x ne in (
        λ i. elim ((h x).0 i) [ inl s ↦ inl s | inr p ↦ inr (p.0, omega (arith, p.1)) ],
        λ s. (h x).1 (elim s [ inl s ↦ inl s | inr p ↦ inr (p.0, omega (arith, p.1)) ]),
      )
]

pub times_drop : (i x : ℕ) (ts : List ℕ) → times x (drop i ts) ≤ times x ts
times_drop zero x ts = omega arith
times_drop (suc i) x [] = omega arith
times_drop (suc i) x (t ∷ ts) = let h : times x (drop i ts) ≤ times x ts = times_drop i x ts in omega (arith, h)

-- one more edge is counted
pub counted : (cs : List ℕ) (e : Edge) (es : List Edge) (x total : ℕ) → e.to < length cs → get_or cs x 0 + waiting (e ∷ es) [] x ≡ total
    → get_or (set cs e.to (get_or cs e.to 0 + 1)) x 0 + waiting es [] x ≡ total
counted cs e es x total lt h = elim (cases_eq e.to x) [
  | inl is ↦
      let b : nat_eq e.to x ≡ true = eq_true e.to x is in
      let s : get_or (set cs e.to (get_or cs e.to 0 + 1)) e.to 0 ≡ get_or cs e.to 0 + 1 = get_or-set_same cs e.to (get_or cs e.to 0 + 1) 0 lt in
      let s' : get_or (set cs e.to (get_or cs e.to 0 + 1)) x 0 ≡ get_or cs x 0 + 1 = subst (λ (z : ℕ). get_or (set cs e.to (get_or cs e.to 0 + 1)) z 0 ≡ get_or cs z 0 + 1) is s in
      let h' : get_or cs x 0 + (1 + waiting es [] x) ≡ total = rw b at h in
      omega (arith, s', h')
  | inr ne ↦
      let b : nat_eq e.to x ≡ false = eq_false e.to x ne in
      let h' : get_or cs x 0 + (0 + waiting es [] x) ≡ total = rw b at h in
      rw (get_or-set_other cs e.to x (get_or cs e.to 0 + 1) 0 (λ q. ne (sym q))) (omega (arith, h'))
]

pub count_room : (cs : List ℕ) (e : Edge) (es : List Edge) (total : ℕ) → get_or cs e.to 0 + waiting (e ∷ es) [] e.to ≡ total → get_or cs e.to 0 < total
count_room cs e es total h = let b : nat_eq e.to e.to ≡ true = eq_true e.to e.to refl in let h' : get_or cs e.to 0 + (1 + waiting es [] e.to) ≡ total = rw b at h in omega (arith, h')

targets_cons : (b : Bool) (to : ℕ) (list ts all : List ℕ) → b ≡ true → list ++ (if b then to ∷ ts else ts) ≡ all → (list ++ to ∷ []) ++ ts ≡ all
targets_cons true to list ts all e h = append_assoc list (to ∷ []) ts ∙ h
targets_cons false to list ts all e h = cc

targets_skip : (b : Bool) (to : ℕ) (list ts all : List ℕ) → b ≡ false → list ++ (if b then to ∷ ts else ts) ≡ all → list ++ ts ≡ all
targets_skip true to list ts all e h = cc
targets_skip false to list ts all e h = h

pub listed : (e : Edge) (es : List Edge) (x : ℕ) (list all : List ℕ) → e.from ≡ x → list ++ targets (e ∷ es) x ≡ all → (list ++ e.to ∷ []) ++ targets es x ≡ all
listed e es x list all is h = targets_cons (nat_eq e.from x) e.to list (targets es x) all (eq_true e.from x is) h

pub skipped : (e : Edge) (es : List Edge) (x : ℕ) (list all : List ℕ) → (e.from ≡ x → ⊥) → list ++ targets (e ∷ es) x ≡ all → list ++ targets es x ≡ all
skipped e es x list all ne h = targets_skip (nat_eq e.from x) e.to list (targets es x) all (eq_false e.from x ne) h

-- what holds of each element
pub each_snoc : {V : Type 0} (P : V → Type 0) (xs : List V) (y : V) → ((i : ℕ) (v : V) → slice_get xs i ≡ Some v → P v) → P y → (i : ℕ) (v : V) → slice_get (xs ++ y ∷ []) i ≡ Some v → P v
each_snoc P [] y h p zero v e = let is : y ≡ v = cc in subst P is p
each_snoc P [] y h p (suc i) v e = cc
each_snoc P (x ∷ xs) y h p zero v e = h zero v e
each_snoc P (x ∷ xs) y h p (suc i) v e = each_snoc P xs y (λ j w g. h (suc j) w g) p i v e

pub at_set : {V : Type 0} (xs : List V) (i : ℕ) (y : V) (j : ℕ) (v : V) → slice_get (set xs i y) j ≡ Some v → ((i ≡ j) × (y ≡ v)) ⊎ ((i ≡ j → ⊥) × (slice_get xs j ≡ Some v))
at_set [] i y j v e = cc
at_set (x ∷ xs) zero y zero v e = inl (refl, cc)
at_set (x ∷ xs) zero y (suc j) v e = inr ((λ z. omega arith), e)
at_set (x ∷ xs) (suc i) y zero v e = inr ((λ z. omega arith), e)
at_set (x ∷ xs) (suc i) y (suc j) v e = elim (at_set xs i y j v e) [ inl p ↦ inl (omega (arith, p.0), p.1) | inr p ↦ inr ((λ z. p.0 (omega arith)), p.1) ]
