-- The least of two kinds of places.
use Rattle.std.proofs.Common.{◌≡◌, ◌⊎◌, Option, None, Some, inl, inr, subst}
use Rattle.msc_base.specs.declared.place.Place.{Place}
use Rattle.msc_base.specs.Places.{IsLeast, earliest}
use Rattle.msc_base.proofs.Narrowing.{IsReached, earliest_is}
use Rattle.msc_base.proofs.PlaceFacts.{no_later_through}

module _ (P Q : Place → Type 0) where
  pub least_none : (b : Option Place) → IsLeast P None → IsLeast Q b → IsLeast (λ p. P p ⊎ Q p) b
  least_none None a k = λ q h. elim h [ inl x ↦ a q x | inr y ↦ k q y ]
  least_none (Some o) a k = (inr k.0, λ q h. elim h [ inl x ↦ absurd (a q x) | inr y ↦ k.1 q y ])

  reached : (b : Option Place) → IsLeast Q b → (q : Place) → Q q → IsReached b q
  reached None k q h = absurd (k q h)
  reached (Some o) k q h = k.1 q h

  held : (b : Option Place) (z : Place) → IsLeast Q b → b ≡ Some z → Q z
  held None z k e = cc
  held (Some o) z k e = let is : o ≡ z = cc in subst Q is k.0

  pub least_some : (p : Place) (b : Option Place) → IsLeast P (Some p) → IsLeast Q b → IsLeast (λ z. P z ⊎ Q z) (earliest b p)
  least_some p b a k =
      let it = earliest_is b p in
      rw it.1 (
        elim it.2 [ inl e ↦ inl (subst P e a.0) | inr e ↦ inr (held b it.0 k e) ],
        λ q h. elim h [ inl x ↦ no_later_through it.0 p q it.3 (a.1 q x) | inr y ↦ it.4 q (reached b k q y) ],
      )
