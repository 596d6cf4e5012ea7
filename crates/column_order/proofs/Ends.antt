-- Ends listed by class against ends counted.
use Rattle.std.proofs.Common.{◌≡◌, ℕ, ◌<◌, ◌≤◌, ◌+◌, Option, None, length, sym, append_assoc, ap₂, drop, get_or, set, ◌⊎◌, inl, inr, List, [], ◌∷◌, ◌++◌, Some, slice_get, take, nat_eq, true, false, zero, suc, arith, refl, ap, ◌∙◌, subst, ◌↔◌}
use Rattle.std.proofs.Math.Seq.{take-append_seam}
use Rattle.std.proofs.lemmas.Bool.{cases_eq}
use Rattle.std.proofs.lemmas.List.{get_or-set_same, get_or-set_other}
use Rattle.list_facts.proofs.Reading.{get_behind}
use Rattle.column_order.specs.declared.edge.Edge.{Edge}
use Rattle.column_order.specs.Counts.{targets, EdgeLeads}
use Rattle.column_order.specs.Pairing.{count, IsKth, IsPair, pair_with, pairs_behind, RiseTo, RiseFrom}
use Rattle.column_order.proofs.Counting.{eq_true, eq_false}

kth_here : (e : Edge) (es : List Edge) (c p : ℕ) → e.from ≡ c → e.to ≡ p → IsKth (e ∷ es) c 0 p
kth_here e es c p a b = record { i = 0; at = ap (λ (x : ℕ). Some (record { from = x; to = e.to })) a ∙ ap (λ (x : ℕ). Some (record { from = c; to = x })) b; before = refl }

kth_later : (e : Edge) (es : List Edge) (c k p : ℕ) → e.from ≡ c → IsKth es c k p → IsKth (e ∷ es) c (suc k) p
kth_later e es c k p a h = record { i = suc h.i; at = h.at; before = rw (eq_true e.from c a) (omega (arith, h.before)) }

kth_skip : (e : Edge) (es : List Edge) (c k p : ℕ) → (e.from ≡ c → ⊥) → IsKth es c k p → IsKth (e ∷ es) c k p
kth_skip e es c k p a h = record { i = suc h.i; at = h.at; before = rw (eq_false e.from c a) (omega (arith, h.before)) }

-- the k-th of the list of a class is the k-th by counting
pub listed_counted : (es : List Edge) (c k p : ℕ) → slice_get (targets es c) k ≡ Some p → IsKth es c k p
listed_counted [] c k p h = cc
listed_counted (e ∷ es) c k p h = elim (cases_eq e.from c) [
  | inl is ↦ let t : nat_eq e.from c ≡ true = eq_true e.from c is in first k is (rw t at h) (λ j g. listed_counted es c j p g)
  | inr ne ↦ let t : nat_eq e.from c ≡ false = eq_false e.from c ne in kth_skip e es c k p ne (listed_counted es c k p (rw t at h))
]
  where
    first : (k : ℕ) → e.from ≡ c → slice_get (e.to ∷ targets es c) k ≡ Some p → ((j : ℕ) → slice_get (targets es c) j ≡ Some p → IsKth es c j p) → IsKth (e ∷ es) c k p
    first zero is h f = kth_here e es c p is (let q : e.to ≡ p = cc in q)
    first (suc k) is h f = kth_later e es c k p is (f k h)

counted_at : (es : List Edge) (c k p i : ℕ) → slice_get es i ≡ Some (record { from = c; to = p }) → count c (take i es) ≡ k → slice_get (targets es c) k ≡ Some p
counted_at [] c k p i at before = cc
counted_at (e ∷ es) c k p zero at before =
    let is : e ≡ record { from = c; to = p } = cc in
    let a : e.from ≡ c = ap (λ (x : Edge). x.from) is in
    let b : e.to ≡ p = ap (λ (x : Edge). x.to) is in
    let z : k ≡ 0 = omega arith in
    rw (eq_true e.from c a, z) (ap (λ (x : ℕ). Some x) b)
counted_at (e ∷ es) c k p (suc i) at before = elim (cases_eq e.from c) [
  | inl is ↦
      let t : nat_eq e.from c ≡ true = eq_true e.from c is in
      let h : 1 + count c (take i es) ≡ k = rw t at before in
      let z : k ≡ suc (count c (take i es)) = omega (arith, h) in
      rw (t, z) (counted_at es c (count c (take i es)) p i at refl)
  | inr ne ↦
      let t : nat_eq e.from c ≡ false = eq_false e.from c ne in
      let h : 0 + count c (take i es) ≡ k = rw t at before in
      rw t (counted_at es c k p i at (omega (arith, h)))
]

pub counted_listed : (es : List Edge) (c k p : ℕ) → IsKth es c k p → slice_get (targets es c) k ≡ Some p
counted_listed es c k p h = counted_at es c k p h.i h.at h.before

-- pairs of two lists of edges
pub leads_left : (es fs : List Edge) (y x : ℕ) → EdgeLeads es y x → EdgeLeads (es ++ fs) y x
leads_left [] fs y x l = absurd l
leads_left (e ∷ es) fs y x (inl p) = inl p
leads_left (e ∷ es) fs y x (inr l) = inr (leads_left es fs y x l)

pub leads_right : (es fs : List Edge) (y x : ℕ) → EdgeLeads fs y x → EdgeLeads (es ++ fs) y x
leads_right [] fs y x l = l
leads_right (e ∷ es) fs y x l = inr (leads_right es fs y x l)

pub leads_either : (es fs : List Edge) (y x : ℕ) → EdgeLeads (es ++ fs) y x → EdgeLeads es y x ⊎ EdgeLeads fs y x
leads_either [] fs y x l = inr l
leads_either (e ∷ es) fs y x (inl p) = inl (inl p)
leads_either (e ∷ es) fs y x (inr l) = elim (leads_either es fs y x l) [ inl a ↦ inl (inr a) | inr b ↦ inr b ]

with_there : (p q y x : ℕ) → EdgeLeads (pair_with p (Some q)) y x → (p ≡ y) × (q ≡ x)
with_there p q y x (inl e) = e
with_there p q y x (inr l) = absurd l

-- each pair is that of the k-th output and the k-th input of a class
pub paired : (prefix es ins : List Edge) (p q : ℕ) → EdgeLeads (pairs_behind prefix es ins) p q → IsPair (prefix ++ es) ins p q
paired prefix [] ins p q l = absurd l
paired prefix (e ∷ es) ins p q l = elim (leads_either (pair_with e.to (slice_get (targets ins e.from) (count e.from prefix))) (pairs_behind (prefix ++ e ∷ []) es ins) p q l) [
  | inl a ↦ here (slice_get (targets ins e.from) (count e.from prefix)) refl a
  | inr b ↦ subst (λ (l : List Edge). IsPair l ins p q) (append_assoc prefix (e ∷ []) es) (paired (prefix ++ e ∷ []) es ins p q b)
]
  where
    here : (found : Option ℕ) → slice_get (targets ins e.from) (count e.from prefix) ≡ found → EdgeLeads (pair_with e.to found) p q → IsPair (prefix ++ e ∷ es) ins p q
    here None is l = absurd l
    here (Some r) is l =
        let both = with_there e.to r p q l in
        let there : slice_get (targets ins e.from) (count e.from prefix) ≡ Some q = is ∙ ap (λ (x : ℕ). Some x) both.1 in
        record {
          class = e.from;
          k = count e.from prefix;
          output = record { i = length prefix; at = get_behind prefix e es ∙ ap (λ (x : ℕ). let r : Edge = record { from = e.from; to = x } in Some r) both.0; before = ap (count e.from) (take-append_seam prefix (e ∷ es)) };
          input = listed_counted ins e.from (count e.from prefix) q there;
        }

count_more : (c : ℕ) (prefix : List Edge) (e : Edge) → count c (prefix ++ e ∷ []) ≡ count c prefix + count c (e ∷ [])
count_more c [] e = omega arith
count_more c (d ∷ prefix) e = let h = count_more c prefix e in omega (arith, h)

-- and each such pair is there
reached : (prefix es ins : List Edge) (c p q i : ℕ) → slice_get es i ≡ Some (record { from = c; to = p }) → slice_get (targets ins c) (count c prefix + count c (take i es)) ≡ Some q
    → EdgeLeads (pairs_behind prefix es ins) p q
reached prefix [] ins c p q i at there = cc
reached prefix (e ∷ es) ins c p q zero at there =
    let is : e ≡ record { from = c; to = p } = cc in
    let from_is : e.from ≡ c = ap (λ (x : Edge). x.from) is in
    let to_is : e.to ≡ p = ap (λ (x : Edge). x.to) is in
    let none : count c prefix + 0 ≡ count c prefix = omega arith in
    let found : slice_get (targets ins e.from) (count e.from prefix) ≡ Some q = rw (from_is) (ap (slice_get (targets ins c)) (sym none) ∙ there) in
    leads_left (pair_with e.to (slice_get (targets ins e.from) (count e.from prefix))) (pairs_behind (prefix ++ e ∷ []) es ins) p q
    (subst (λ (o : Option ℕ). EdgeLeads (pair_with e.to o) p q) (sym found) (inl (to_is, refl)))
reached prefix (e ∷ es) ins c p q (suc i) at there =
    let same : count c prefix + count c (take (suc i) (e ∷ es)) ≡ count c (prefix ++ e ∷ []) + count c (take i es) = let h = count_more c prefix e in omega (arith, h) in
    leads_right (pair_with e.to (slice_get (targets ins e.from) (count e.from prefix))) (pairs_behind (prefix ++ e ∷ []) es ins) p q
    (reached (prefix ++ e ∷ []) es ins c p q i at (subst (λ (n : ℕ). slice_get (targets ins c) n ≡ Some q) same there))

pub pairs_exact : (outs ins : List Edge) (p q : ℕ) → EdgeLeads (pairs_behind [] outs ins) p q ↔ IsPair outs ins p q
pairs_exact outs ins p q = (
  paired [] outs ins p q,
  λ h. reached [] outs ins h.class p q h.output.i h.output.at
      (subst (λ (n : ℕ). slice_get (targets ins h.class) n ≡ Some q) (let b : count h.class (take h.output.i outs) ≡ h.k = h.output.before in omega (arith, b)) (counted_listed ins h.class h.k q h.input)),
)

-- the pairs rise where the outputs do
lower : (n m : ℕ) (pairs : List Edge) → n ≤ m → RiseFrom m pairs → RiseFrom n pairs
lower n m [] le h = h
lower n m (e ∷ es) le h = (omega (arith, le, h.0), h.1)

pair_rises : (n p : ℕ) (pairs : List Edge) (found : Option ℕ) → n ≤ p → RiseFrom (suc p) pairs → RiseFrom n (pair_with p found ++ pairs)
pair_rises n p pairs None le h = lower n (suc p) pairs (omega (arith, le)) h
pair_rises n p pairs (Some q) le h = (le, h)

pub pairs_rise : (n : ℕ) (prefix es ins : List Edge) → RiseTo n es → RiseFrom n (pairs_behind prefix es ins)
pairs_rise n prefix [] ins h = tt
pairs_rise n prefix (e ∷ es) ins h = pair_rises n e.to (pairs_behind (prefix ++ e ∷ []) es ins) (slice_get (targets ins e.from) (count e.from prefix)) h.0 (pairs_rise (suc e.to) (prefix ++ e ∷ []) es ins h.1)

-- one output more
pub pairs_step : (outs ins old new : List Edge) (i : ℕ) (e : Edge) → drop i outs ≡ e ∷ drop (i + 1) outs → take (i + 1) outs ≡ take i outs ++ e ∷ [] → new ≡ old ++ pair_with e.to (slice_get (targets ins e.from) (count e.from (take i outs)))
    → old ++ pairs_behind (take i outs) (drop i outs) ins ≡ pairs_behind [] outs ins → new ++ pairs_behind (take (i + 1) outs) (drop (i + 1) outs) ins ≡ pairs_behind [] outs ins
pairs_step outs ins old new i e dropped taken is before =
    ap₂ (λ (n t : List Edge). n ++ pairs_behind t (drop (i + 1) outs) ins) is taken
    ∙ append_assoc old (pair_with e.to (slice_get (targets ins e.from) (count e.from (take i outs)))) (pairs_behind (take i outs ++ e ∷ []) (drop (i + 1) outs) ins)
    ∙ ap (λ (d : List Edge). old ++ pairs_behind (take i outs) d ins) (sym dropped)
    ∙ before

pub count_le : (c : ℕ) (es : List Edge) → count c es ≤ length es
count_le c [] = omega arith
count_le c (e ∷ es) = elim (cases_eq e.from c) [
  | inl is ↦ let h = count_le c es in rw (eq_true e.from c is) (omega (arith, h))
  | inr ne ↦ let h = count_le c es in rw (eq_false e.from c ne) (omega (arith, h))
]

pub count_step : (cs : List ℕ) (e : Edge) (prefix : List Edge) (x : ℕ) → e.from < length cs → get_or cs x 0 ≡ count x prefix → get_or (set cs e.from (get_or cs e.from 0 + 1)) x 0 ≡ count x (prefix ++ e ∷ [])
count_step cs e prefix x lt h = elim (cases_eq e.from x) [
  | inl is ↦
      let s : get_or (set cs e.from (get_or cs e.from 0 + 1)) e.from 0 ≡ get_or cs e.from 0 + 1 = get_or-set_same cs e.from (get_or cs e.from 0 + 1) 0 lt in
      let s' : get_or (set cs e.from (get_or cs e.from 0 + 1)) x 0 ≡ get_or cs x 0 + 1 = subst (λ (z : ℕ). get_or (set cs e.from (get_or cs e.from 0 + 1)) z 0 ≡ get_or cs z 0 + 1) is s in
      let one : count x (e ∷ []) ≡ 1 = rw (eq_true e.from x is) refl in
      omega (arith, s', h, count_more x prefix e, one)
  | inr ne ↦
      let none : count x (e ∷ []) ≡ 0 = rw (eq_false e.from x ne) refl in
      rw (get_or-set_other cs e.from x (get_or cs e.from 0 + 1) 0 (λ q. ne (sym q))) (omega (arith, h, count_more x prefix e, none))
]
