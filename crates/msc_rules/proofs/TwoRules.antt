-- The first fault of two rules of one group.
use Rattle.std.proofs.Common.{◌≡◌, ◌≤◌, ℕ, inl, inr, refl, sym, ap, ◌∙◌, arith}
use Rattle.msc_base.specs.declared.place.Place.{Place}
use Rattle.msc_base.specs.Places.{IsBefore, IsNoLater}
use Rattle.msc_rules.specs.FirstFaults.{BreaksEither, ComesFirst, IsFirstFault}

module _ {R : Type 0} (number group : R → ℕ) (a b : R) (A B : Place → Type 0) (p : Place) (one_group : group a ≡ group b) where
  -- the first rule's, where it is the earliest, also of those of the second
  pub first_leads : number a ≤ number b → A p → ((q : Place) → A q → IsNoLater p q) → ((q : Place) → B q → IsNoLater p q) → IsFirstFault number group (BreaksEither a A b B) (record { rule = a; place = p })
  first_leads low here mine theirs = record { broken = inl (refl, here); first = λ r q h. elim h [ inl e ↦ by_first r q e.0 e.1 | inr e ↦ by_second r q e.0 e.1 ] }
    where
      by_first : (r : R) (q : Place) → r ≡ a → A q → ComesFirst number group (record { rule = a; place = p }) r q
      by_first r q is h = inr (ap group (sym is), elim (mine q h) [ inl before ↦ inl before | inr same ↦ inr (same, omega (arith, ap number is)) ])

      by_second : (r : R) (q : Place) → r ≡ b → B q → ComesFirst number group (record { rule = a; place = p }) r q
      by_second r q is h = inr (one_group ∙ ap group (sym is), elim (theirs q h) [ inl before ↦ inl before | inr same ↦ inr (same, omega (arith, low, ap number is)) ])

  -- the second rule's, where it is the earliest and stands before all of the first
  pub second_leads : B p → ((q : Place) → B q → IsNoLater p q) → ((q : Place) → A q → IsBefore p q) → IsFirstFault number group (BreaksEither a A b B) (record { rule = b; place = p })
  second_leads here mine theirs = record { broken = inr (refl, here); first = λ r q h. elim h [ inl e ↦ by_first r q e.0 e.1 | inr e ↦ by_second r q e.0 e.1 ] }
    where
      by_first : (r : R) (q : Place) → r ≡ a → A q → ComesFirst number group (record { rule = b; place = p }) r q
      by_first r q is h = inr (sym one_group ∙ ap group (sym is), inl (theirs q h))

      by_second : (r : R) (q : Place) → r ≡ b → B q → ComesFirst number group (record { rule = b; place = p }) r q
      by_second r q is h = inr (ap group (sym is), elim (mine q h) [ inl before ↦ inl before | inr same ↦ inr (same, omega (arith, ap number is)) ])
