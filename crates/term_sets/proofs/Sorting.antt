-- Words that were sorted are the same words.
use Rattle.std.specs.List.Sorted.{IsPermutation}
use Rattle.std.specs.List.{count_by}
use Rattle.std.specs.Prelude.{ℕ, ◌+◌, ◌≡◌, ◌≤◌, ◌<◌, Bool, true, false, List, [], ◌∷◌, cond, nat_eq, refl}
use Rattle.std.proofs.Common.{ap, sym, ◌∙◌, subst, arith, inl, inr, zero-add}
use Rattle.std.proofs.lemmas.Bool.{cases_eq}
use Rattle.std.proofs.lemmas.Bool.Decides.{nat_tests}
use Rattle.std.proofs.lemmas.List.Sorted.{sum_by-IsPermutation}
use Rattle.std.proofs.lemmas.List.Sums.{sum_by-append}
use Rattle.msc_base.specs.Lists.{AreDifferent, IsAmong}

-- how often the word stands in the list
abbrev times : ℕ → List ℕ → ℕ
times w ws = count_by (λ v. nat_eq v w) ws

times_first : (w v : ℕ) (ws : List ℕ) → times w (v ∷ ws) ≡ cond (nat_eq v w) 1 0 + times w ws
times_first w v ws = sum_by-append (λ (u : ℕ). cond (nat_eq u w) 1 0) (v ∷ []) ws ∙ ap (λ (n : ℕ). n + times w ws) (zero-add (cond (nat_eq v w) 1 0))

once_more : (w v : ℕ) (ws : List ℕ) → v ≡ w → times w (v ∷ ws) ≡ 1 + times w ws
once_more w v ws e = let t : nat_eq v w ≡ true = grind (arith, nat_tests, e) in times_first w v ws ∙ ap (λ (b : Bool). cond b 1 0 + times w ws) t

no_more : (w v : ℕ) (ws : List ℕ) → (v ≡ w → ⊥) → times w (v ∷ ws) ≡ times w ws
no_more w v ws ne = let t : nat_eq v w ≡ false = grind (arith, nat_tests, ne) in let c = times_first w v ws in let o : ◌≡◌ {A = ℕ} (cond (nat_eq v w) 1 0) 0 = ap (λ (b : Bool). cond b 1 0) t in omega (arith, c, o)

among_times : (w : ℕ) (ws : List ℕ) → IsAmong ws w → 0 < times w ws
among_times w [] i = absurd i
among_times w (v ∷ ws) (inl e) = let t = once_more w v ws (sym e) in omega arith
among_times w (v ∷ ws) (inr i) = elim (cases_eq v w) [ inl e ↦ (let t = once_more w v ws e in omega arith) | inr ne ↦ (let t = no_more w v ws ne in let l = among_times w ws i in omega arith) ]

times_among : (w : ℕ) (ws : List ℕ) → 0 < times w ws → IsAmong ws w
times_among w [] l = let n : times w [] ≡ 0 = refl in absurd (omega (arith, l, n))
times_among w (v ∷ ws) l = elim (cases_eq v w) [ inl e ↦ inl (sym e) | inr ne ↦ inr (times_among w ws (let t = no_more w v ws ne in omega (arith, l))) ]

different_times : (w : ℕ) (ws : List ℕ) → AreDifferent ws → times w ws ≤ 1
different_times w [] d = let n : times w [] ≡ 0 = refl in omega arith
different_times w (v ∷ ws) d = elim (cases_eq v w) [
  | inl e ↦
      let t = once_more w v ws e in
      elim (cases_eq (times w ws) 0) [ inl z ↦ omega (arith, t, z) | inr some ↦ absurd (d.0 (subst (IsAmong ws) (sym e) (times_among w ws (omega (arith, some))))) ]
  | inr ne ↦ let t = no_more w v ws ne in let l = different_times w ws d.1 in omega arith
]

times_different : (ws : List ℕ) → ((w : ℕ) → times w ws ≤ 1) → AreDifferent ws
times_different [] f = tt
times_different (v ∷ ws) f = (
  λ i. absurd (let t = once_more v v ws refl in let l = among_times v ws i in let m = f v in omega arith),
  times_different ws (λ w. elim (cases_eq v w) [
    | inl e ↦ (let t = once_more w v ws e in let m = f w in omega arith)
    | inr ne ↦ (let t = no_more w v ws ne in let m = f w in omega arith)
  ]),
)

module _ (old new : List ℕ) (moved : IsPermutation old new) where
  as_often : (w : ℕ) → times w new ≡ times w old
  as_often w = sum_by-IsPermutation (λ v. cond (nat_eq v w) 1 0) old new moved

  pub sorted_from : (w : ℕ) → IsAmong new w → IsAmong old w
  sorted_from w i = times_among w old (let e = as_often w in let l = among_times w new i in omega arith)

  pub sorted_has : (w : ℕ) → IsAmong old w → IsAmong new w
  sorted_has w i = times_among w new (let e = as_often w in let l = among_times w old i in omega arith)

  pub sorted_different : AreDifferent old → AreDifferent new
  sorted_different d = times_different new (λ w. let e = as_often w in let l = different_times w old d in omega arith)
