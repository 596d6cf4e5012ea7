-- Places are in one order: of two, one stands no later than the other, and both do only where they are one place.
use Rattle.std.proofs.Common.{◌≡◌, ℕ, true, false, ◌⊎◌, inl, inr, nat_lt, nat_eq, arith, refl, sym, subst, ap, ◌∙◌}
use Rattle.std.proofs.lemmas.Bool.{cases_lt, cases_eq}
use Rattle.std.proofs.lemmas.Bool.Decides.{nat_tests}
use Rattle.msc_base.specs.declared.place.Place.{Place}
use Rattle.msc_base.specs.Places.{IsBefore, IsNoLater, is_before}

place_same : (p q : Place) → p.byte ≡ q.byte → p.line ≡ q.line → p.column ≡ q.column → p ≡ q
place_same p q b l c =
    ap (λ (n : ℕ). record { byte = n; line = p.line; column = p.column }) b
    ∙ ap (λ (n : ℕ). record { byte = q.byte; line = n; column = p.column }) l
    ∙ ap (λ (n : ℕ). record { byte = q.byte; line = q.line; column = n }) c

-- the test says which of the two it is
pub before_cases : (p q : Place) → ((is_before p q ≡ true) × IsBefore p q) ⊎ ((is_before p q ≡ false) × IsNoLater q p)
before_cases p q = elim (cases_lt p.byte q.byte) [
  | inl lt ↦ let t : nat_lt p.byte q.byte ≡ true = grind (arith, nat_tests) in inl (rw t refl, inl lt)
  | inr ge ↦
      let t : nat_lt p.byte q.byte ≡ false = grind (arith, nat_tests) in
      elim (cases_eq p.byte q.byte) [
        | inr ne ↦ let u : nat_eq p.byte q.byte ≡ false = grind (arith, nat_tests) in inr (rw (t, u) refl, inl (inl (omega arith)))
        | inl e ↦
            let u : nat_eq p.byte q.byte ≡ true = grind (arith, nat_tests) in
            elim (cases_lt p.line q.line) [
              | inl lt ↦ let v : nat_lt p.line q.line ≡ true = grind (arith, nat_tests) in inl (rw (t, u, v) refl, inr (e, inl lt))
              | inr gel ↦
                  let v : nat_lt p.line q.line ≡ false = grind (arith, nat_tests) in
                  elim (cases_eq p.line q.line) [
                    | inr nel ↦ let w : nat_eq p.line q.line ≡ false = grind (arith, nat_tests) in inr (rw (t, u, v, w) refl, inl (inr (sym e, inl (omega arith))))
                    | inl el ↦
                        let w : nat_eq p.line q.line ≡ true = grind (arith, nat_tests) in
                        elim (cases_lt p.column q.column) [
                          | inl lt ↦ let x : nat_lt p.column q.column ≡ true = grind (arith, nat_tests) in inl (rw (t, u, v, w, x) refl, inr (e, inr (el, lt)))
                          | inr gec ↦
                              let x : nat_lt p.column q.column ≡ false = grind (arith, nat_tests) in
                              elim (cases_eq p.column q.column) [
                                | inr nec ↦ inr (rw (t, u, v, w, x) refl, inl (inr (sym e, inr (sym el, omega arith))))
                                | inl ec ↦ inr (rw (t, u, v, w, x) refl, inr (sym (place_same p q e el ec)))
                              ]
                        ]
                  ]
            ]
      ]
]

pub never_before : (p : Place) → IsBefore p p → ⊥
never_before p (inl a) = omega arith
never_before p (inr (e, inl a)) = omega arith
never_before p (inr (e, inr (f, a))) = omega arith

pub before_through : (p q r : Place) → IsBefore p q → IsBefore q r → IsBefore p r
before_through p q r (inl a) (inl b) = inl (omega arith)
before_through p q r (inl a) (inr (e, b)) = inl (omega arith)
before_through p q r (inr (e, a)) (inl b) = inl (omega arith)
before_through p q r (inr (e, inl a)) (inr (f, inl b)) = inr (e ∙ f, inl (omega arith))
before_through p q r (inr (e, inl a)) (inr (f, inr (g, b))) = inr (e ∙ f, inl (omega arith))
before_through p q r (inr (e, inr (h, a))) (inr (f, inl b)) = inr (e ∙ f, inl (omega arith))
before_through p q r (inr (e, inr (h, a))) (inr (f, inr (g, b))) = inr (e ∙ f, inr (h ∙ g, omega arith))

pub never_both : (p q : Place) → IsBefore p q → IsNoLater q p → ⊥
never_both p q a (inl b) = never_before p (before_through p q p a b)
never_both p q a (inr e) = never_before p (subst (λ (z : Place). IsBefore p z) e a)

-- and it is at another place still
pub no_later_through : (p q r : Place) → IsNoLater p q → IsNoLater q r → IsNoLater p r
no_later_through p q r (inl a) (inl b) = inl (before_through p q r a b)
no_later_through p q r (inl a) (inr e) = inl (subst (λ (z : Place). IsBefore p z) e a)
no_later_through p q r (inr e) h = subst (λ (z : Place). IsNoLater z r) (sym e) h

pub one_place : (p q : Place) → IsNoLater p q → IsNoLater q p → p ≡ q
one_place p q (inl a) h = absurd (never_both p q a h)
one_place p q (inr e) h = e

-- before a place that is no later than a third
pub before_or_at : (p q r : Place) → IsBefore p q → IsNoLater q r → IsBefore p r
before_or_at p q r a (inl b) = before_through p q r a b
before_or_at p q r a (inr e) = subst (λ (z : Place). IsBefore p z) e a
