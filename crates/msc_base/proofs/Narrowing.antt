-- A walk that keeps the earliest place so far.
use Rattle.std.proofs.Common.{◌≡◌, Bool, true, false, Option, None, Some, ◌⊎◌, inl, inr, refl, subst, sym}
use Rattle.msc_base.specs.declared.place.Place.{Place}
use Rattle.msc_base.specs.Places.{IsNoLater, IsLeast, earliest, earliest_if}
use Rattle.std.proofs.lemmas.Bool.{true≢false}
use Rattle.msc_base.proofs.PlaceFacts.{before_cases, no_later_through}

abbrev pub IsReached : Option Place → Place → Type 0
IsReached None q = ⊥
IsReached (Some p) q = IsNoLater p q

-- the place so far is one at which it holds; a place at which it holds is no earlier, or is among the rest
pub record Narrows (Holds Rest : Place → Type 0) (so_far : Option Place) : Type 0 where
  pub holds : (p : Place) → so_far ≡ Some p → Holds p
  pub covers : (q : Place) → Holds q → IsReached so_far q ⊎ Rest q
  pub within : (q : Place) → Rest q → Holds q

pub narrows_start : (Holds : Place → Type 0) → Narrows Holds Holds None
narrows_start Holds = record { holds = λ p e. cc; covers = λ q h. inr h; within = λ q h. h }

-- the earlier of the two is one of them, and no later than either
pub earliest_is : (so_far : Option Place) (place : Place) → (p : Place) × (earliest so_far place ≡ Some p) × ((place ≡ p) ⊎ (so_far ≡ Some p)) × IsNoLater p place × ((q : Place) → IsReached so_far q → IsNoLater p q)
earliest_is None place = (place, refl, inl refl, inr refl, λ q h. absurd h)
earliest_is (Some o) place = elim (before_cases place o) [
  | inl t ↦ (place, rw t.0 refl, inl refl, inr refl, λ q h. no_later_through place o q (inl t.1) h)
  | inr f ↦ (o, rw f.0 refl, inr refl, f.1, λ q h. h)
]

pub narrows_bad : (Holds Rest : Place → Type 0) (so_far : Option Place) (place : Place) (Bad : Type 0) → Narrows Holds (λ q. ((place ≡ q) × Bad) ⊎ Rest q) so_far → Bad → Narrows Holds Rest (earliest so_far place)
narrows_bad Holds Rest so_far place Bad k bad =
    let here : Holds place = k.within place (inl (refl, bad)) in
    let it = earliest_is so_far place in
    rw it.1 (record {
      holds = λ p e. let is : it.0 ≡ p = cc in subst Holds is (elim it.2 [ inl a ↦ subst Holds a here | inr b ↦ k.holds it.0 b ]);
      covers = λ q h. elim (k.covers q h) [
        | inl l ↦ inl (it.4 q l)
        | inr r ↦ elim r [ inl t ↦ inl (subst (λ (z : Place). IsNoLater it.0 z) t.0 it.3) | inr m ↦ inr m ]
      ];
      within = λ q r. k.within q (inr r);
    })

pub narrows_good : (Holds Rest : Place → Type 0) (so_far : Option Place) (place : Place) (Bad : Type 0) → Narrows Holds (λ q. ((place ≡ q) × Bad) ⊎ Rest q) so_far → (Bad → ⊥) → Narrows Holds Rest so_far
narrows_good Holds Rest so_far place Bad k good = record {
  holds = k.holds;
  covers = λ q h. elim (k.covers q h) [ inl n ↦ inl n | inr r ↦ elim r [ inl t ↦ absurd (good t.1) | inr m ↦ inr m ] ];
  within = λ q r. k.within q (inr r);
}

pub narrows_end : (Holds Rest : Place → Type 0) (so_far : Option Place) → Narrows Holds Rest so_far → ((q : Place) → Rest q → ⊥) → IsLeast Holds so_far
narrows_end Holds Rest None k none = λ q h. elim (k.covers q h) [ inl n ↦ n | inr r ↦ none q r ]
narrows_end Holds Rest (Some p) k none = (k.holds p refl, λ q h. elim (k.covers q h) [ inl n ↦ n | inr r ↦ absurd (none q r) ])

-- the rest may be said in other words
pub narrows_rest : (Holds Rest Same : Place → Type 0) (so_far : Option Place) → Narrows Holds Rest so_far → ((q : Place) → Rest q → Same q) → ((q : Place) → Same q → Rest q) → Narrows Holds Same so_far
narrows_rest Holds Rest Same so_far k f g = record {
  holds = k.holds;
  covers = λ q h. elim (k.covers q h) [ inl n ↦ inl n | inr r ↦ inr (f q r) ];
  within = λ q r. k.within q (g q r);
}

reached : (s : Option Place) (p q : Place) → IsReached s q → ((z : Place) → s ≡ Some z → IsNoLater p z) → IsNoLater p q
reached None p q n f = absurd n
reached (Some o) p q n f = no_later_through p o q (f o refl) n

-- a walk of its own over a part, which goes on from the place so far
pub narrows_part : (Holds Part Rest : Place → Type 0) (so_far next : Option Place) → Narrows Holds (λ q. Part q ⊎ Rest q) so_far → IsLeast (λ q. (so_far ≡ Some q) ⊎ Part q) next → Narrows Holds Rest next
narrows_part Holds Part Rest None None k least = record {
  holds = λ p e. cc;
  covers = λ q h. elim (k.covers q h) [ inl n ↦ inl n | inr r ↦ elim r [ inl t ↦ absurd (least q (inr t)) | inr m ↦ inr m ] ];
  within = λ q r. k.within q (inr r);
}
narrows_part Holds Part Rest (Some o) None k least = absurd (least o (inl refl))
narrows_part Holds Part Rest so_far (Some p) k least = record {
  holds = λ z e. let is : p ≡ z = cc in subst Holds is (elim least.0 [ inl a ↦ k.holds p a | inr t ↦ k.within p (inl t) ]);
  covers = λ q h. elim (k.covers q h) [
    | inl n ↦ inl (reached so_far p q n (λ z e. least.1 z (inl e)))
    | inr r ↦ elim r [ inl t ↦ inl (least.1 q (inr t)) | inr m ↦ inr m ]
  ];
  within = λ q r. k.within q (inr r);
}

-- one step of a walk
pub narrows_step : (Holds Rest : Place → Type 0) (so_far : Option Place) (place : Place) (b : Bool) (Bad : Type 0) → Narrows Holds (λ q. ((place ≡ q) × Bad) ⊎ Rest q) so_far → (b ≡ true → Bad) → (Bad → b ≡ true) → Narrows Holds Rest (earliest_if b so_far place)
narrows_step Holds Rest so_far place true Bad k f g = narrows_bad Holds Rest so_far place Bad k (f refl)
narrows_step Holds Rest so_far place false Bad k f g = narrows_good Holds Rest so_far place Bad k (λ bad. absurd (true≢false (sym (g bad))))
