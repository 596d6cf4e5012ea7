-- The earliest place of two.
use Rattle.std.proofs.Common.{◌≡◌, ◌⊎◌, inl, inr, Option, Some, None, sym, subst}
use Rattle.msc_base.specs.Places.{IsLeast}
use Rattle.msc_base.specs.declared.place.Place.{Place}
use Rattle.msc_base.proofs.Narrowing.{earliest_is}
use Rattle.msc_base.proofs.PlaceFacts.{no_later_through}
use Rattle.level_pieces.specs.Earliest.{earliest_of}

-- the same in other words
pub least_same : (P Q : Place → Type 0) (b : Option Place) → ((p : Place) → P p → Q p) → ((p : Place) → Q p → P p) → IsLeast P b → IsLeast Q b
least_same P Q None f g k = λ q h. k q (g q h)
least_same P Q (Some p) f g k = (f p k.0, λ q h. k.1 q (g q h))

pub least_of : (P Q : Place → Type 0) (a b : Option Place) → IsLeast P a → IsLeast Q b → IsLeast (λ q. P q ⊎ Q q) (earliest_of a b)
least_of P Q None None f g = λ q h. elim h [ inl x ↦ f q x | inr r ↦ g q r ]
least_of P Q (Some o) None f g = (inl f.0, λ q h. elim h [ inl x ↦ f.1 q x | inr r ↦ absurd (g q r) ])
least_of P Q None (Some p) f g = (inr g.0, λ q h. elim h [ inl x ↦ absurd (f q x) | inr r ↦ g.1 q r ])
least_of P Q (Some o) (Some p) f g =
    let it = earliest_is (Some o) p in
    subst (λ (z : Option Place). IsLeast (λ q. P q ⊎ Q q) z) (sym it.1) (
      elim it.2 [ inl e ↦ inr (subst Q e g.0) | inr s ↦ inl (let same : o ≡ it.0 = cc in subst P same f.0) ],
      λ q h. elim h [ inl x ↦ it.4 q (f.1 q x) | inr r ↦ no_later_through it.0 p q it.3 (g.1 q r) ],
    )
