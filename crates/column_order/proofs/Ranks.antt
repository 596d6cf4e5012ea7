-- Where the sorting is stuck there is no order at all, also where helping items stand between.
use Rattle.std.proofs.Common.{ℕ, ◌<◌, ◌≤◌, List, [], ◌∷◌, ◌⊎◌, inl, inr, zero, suc, arith, sym}
use Rattle.std.proofs.lemmas.Bool.{cases_lt, cases_eq}
use Rattle.msc_base.specs.Lists.{IsAmong}
use Rattle.column_order.specs.Orders.{IsDue}

pub has_or_not : (xs : List ℕ) (x : ℕ) → IsAmong xs x ⊎ (IsAmong xs x → ⊥)
has_or_not [] x = inr (λ h. h)
has_or_not (y ∷ ys) x = elim (cases_eq y x) [
  | inl e ↦ inl (inl (sym e))
  | inr ne ↦ elim (has_or_not ys x) [ inl h ↦ inl (inr h) | inr lacks ↦ inr (λ h. elim h [ inl e ↦ ne (sym e) | inr t ↦ lacks t ]) ]
]

-- every item below n is in a prefix that can't go on, where the items have ranks along the relation
pub all_in : (n : ℕ) (precedes : ℕ → ℕ → Type 0) (prefix : List ℕ) (rank : ℕ → ℕ) → ((y x : ℕ) → precedes y x → y < n) → ((y x : ℕ) → precedes y x → rank y < rank x) → ((y : ℕ) → IsDue n precedes prefix y → ⊥)
    → (m x : ℕ) → rank x < m → x < n → IsAmong prefix x
all_in n precedes prefix rank within rises stuck zero x lt inside = absurd (omega arith)
all_in n precedes prefix rank within rises stuck (suc m) x lt inside = elim (has_or_not prefix x) [
  | inl h ↦ h
  | inr lacks ↦ absurd (stuck x (record { inside = inside; remains = lacks; ready = λ y p. let less : rank y < rank x = rises y x p in all_in n precedes prefix rank within rises stuck m y (omega (arith, less)) (within y x p) }))
]

-- items from real on are helpers; each stands for items below real
pub record Helps (real n : ℕ) (near far : ℕ → ℕ → Type 0) (stands : ℕ → ℕ → Type 0) : Type 0 where
  pub inside : (y x : ℕ) → near y x → y < n
  pub direct : (y x : ℕ) → near y x → y < real → x < real → far y x
  pub through : (y x u : ℕ) → near y x → real ≤ y → x < real → stands y u → far u x
  pub gathers : (y x : ℕ) → near y x → y < real → real ≤ x → stands x y
  pub passes : (y x u : ℕ) → near y x → real ≤ y → real ≤ x → stands y u → stands x u
  pub rises : (y x : ℕ) → near y x → real ≤ y → real ≤ x → y < x
  pub real_is : (y u : ℕ) → stands y u → u < real

module _ (real n : ℕ) (near far stands : ℕ → ℕ → Type 0) (helps : Helps real n near far stands) (fits : real ≤ n) (prefix : List ℕ) (stuck : (y : ℕ) → IsDue n near prefix y → ⊥) where
  -- a helper is in front where all are for which it stands
  helper_in : (m x : ℕ) → x < m → real ≤ x → x < n → ((u : ℕ) → stands x u → IsAmong prefix u) → IsAmong prefix x
  helper_in zero x lt low inside all = absurd (omega arith)
  helper_in (suc m) x lt low inside all = elim (has_or_not prefix x) [
    | inl h ↦ h
    | inr lacks ↦ absurd (stuck x (record {
      inside = inside;
      remains = lacks;
      ready = λ y p. elim (cases_lt y real) [
        | inl less ↦ all y (helps.gathers y x p less low)
        | inr more ↦ let below : y < x = helps.rises y x p more low in
            helper_in m y (omega (arith, below)) more (helps.inside y x p) (λ u s. all u (helps.passes y x u p more low s))
      ];
    }))
  ]

  pub real_in : (rank : ℕ → ℕ) → ((u v : ℕ) → far u v → rank u < rank v) → (m x : ℕ) → rank x < m → x < real → IsAmong prefix x
  real_in rank rises zero x lt inside = absurd (omega arith)
  real_in rank rises (suc m) x lt inside = elim (has_or_not prefix x) [
    | inl h ↦ h
    | inr lacks ↦ absurd (stuck x (record {
      inside = omega arith;
      remains = lacks;
      ready = λ y p. elim (cases_lt y real) [
        | inl less ↦ let r : rank y < rank x = rises y x (helps.direct y x p less inside) in real_in rank rises m y (omega (arith, r)) less
        | inr more ↦ helper_in (suc y) y (omega arith) more (helps.inside y x p) (λ u s.
            let r : rank u < rank x = rises u x (helps.through y x u p more inside s) in real_in rank rises m u (omega (arith, r)) (helps.real_is y u s))
      ];
    }))
  ]
