-- The earliest fault of the first group that has one is the first by group, place and number, and there is but one such fault.
use Rattle.std.proofs.Common.{◌≡◌, ℕ, List, [], ◌∷◌, inl, inr, arith, subst, sym, ap, ◌∙◌}
use Rattle.msc_base.specs.declared.place.Place.{Place}
use Rattle.msc_rules.specs.declared.first_fault.Broken.{Broken}
use Rattle.msc_base.specs.Places.{IsBefore}
use Rattle.msc_rules.specs.FirstFaults.{Keeps, IsFirst, ComesFirst, IsFirstFault, IsFaultless, IsInSome, AreGroups}
use Rattle.msc_base.proofs.PlaceFacts.{never_before, before_through}

is_in : {R : Type 0} (number : R → ℕ) (Breaks : R → Place → Type 0) (groups : List (List R)) (f : Broken R) → IsFirst number Breaks groups f → IsInSome groups f.rule × Breaks f.rule f.place
is_in number Breaks [] f h = absurd h
is_in number Breaks (rules ∷ more) f (inl e) = (inl e.mine, e.broken)
is_in number Breaks (rules ∷ more) f (inr t) = let r = is_in number Breaks more f t.1 in (inr r.0, r.1)

comes_first : {R : Type 0} (number group : R → ℕ) (Breaks : R → Place → Type 0) (groups : List (List R)) (f : Broken R) → AreGroups group groups → IsFirst number Breaks groups f → (r : R) (p : Place) → IsInSome groups r → Breaks r p → ComesFirst number group f r p
comes_first number group Breaks [] f o h r p i b = absurd h
comes_first number group Breaks (rules ∷ more) f o (inl e) r p (inl m) b =
    inr (
      o.0 f.rule r e.mine m,
      elim (e.earliest r p m b) [
        | inl before ↦ inl before
        | inr is ↦ inr (is, e.lowest r m (subst (λ (q : Place). Breaks r q) (sym is) b))
      ],
    )
comes_first number group Breaks (rules ∷ more) f o (inl e) r p (inr i) b = inl (o.1 f.rule r e.mine i)
comes_first number group Breaks (rules ∷ more) f o (inr t) r p (inl m) b = absurd (t.0 r p m b)
comes_first number group Breaks (rules ∷ more) f o (inr t) r p (inr i) b = comes_first number group Breaks more f o.2 t.1 r p i b

-- each rule that may be broken is in some group
pub first_fault : {R : Type 0} (number group : R → ℕ) (Breaks : R → Place → Type 0) (groups : List (List R)) (f : Broken R) → AreGroups group groups → ((r : R) (p : Place) → Breaks r p → IsInSome groups r) → IsFirst number Breaks groups f → IsFirstFault number group Breaks f
first_fault number group Breaks groups f o all h = record {
  broken = (is_in number Breaks groups f h).1;
  first = λ r p b. comes_first number group Breaks groups f o h r p (all r p b) b;
}

abbrev pub AllKept : {R : Type 0} → (R → Place → Type 0) → List (List R) → Type 0
AllKept Breaks [] = Unit {0}
AllKept Breaks (rules ∷ more) = Keeps Breaks rules × AllKept Breaks more

kept : {R : Type 0} (Breaks : R → Place → Type 0) (groups : List (List R)) → AllKept Breaks groups → (r : R) (p : Place) → IsInSome groups r → Breaks r p → ⊥
kept Breaks [] k r p i b = absurd i
kept Breaks (rules ∷ more) k r p (inl m) b = k.0 r p m b
kept Breaks (rules ∷ more) k r p (inr i) b = kept Breaks more k.1 r p i b

-- where each group is kept, no rule is broken
pub faultless : {R : Type 0} (Breaks : R → Place → Type 0) (groups : List (List R)) → ((r : R) (p : Place) → Breaks r p → IsInSome groups r) → AllKept Breaks groups → IsFaultless Breaks
faultless Breaks groups all k = λ r p b. kept Breaks groups k r p (all r p b) b

-- ---- there is but one

same_fault : {R : Type 0} (f g : Broken R) → f.rule ≡ g.rule → f.place ≡ g.place → f ≡ g
same_fault f g r p = ap (λ z. record { rule = z; place = f.place }) r ∙ ap (λ z. record { rule = g.rule; place = z }) p

one_of : {R : Type 0} (number group : R → ℕ) (f g : Broken R) → (number f.rule ≡ number g.rule → f.rule ≡ g.rule) → ComesFirst number group f g.rule g.place → ComesFirst number group g f.rule f.place → f ≡ g
one_of number group f g numbers (inl a) (inl b) = absurd (omega arith)
one_of number group f g numbers (inl a) (inr b) = absurd (omega (arith, b.0))
one_of number group f g numbers (inr a) (inl b) = absurd (omega (arith, a.0))
one_of number group f g numbers (inr (e, inl a)) (inr (d, inl b)) = absurd (never_before f.place (before_through f.place g.place f.place a b))
one_of number group f g numbers (inr (e, inl a)) (inr (d, inr b)) = absurd (never_before f.place (subst (λ (z : Place). IsBefore f.place z) b.0 a))
one_of number group f g numbers (inr (e, inr a)) (inr (d, inl b)) = absurd (never_before g.place (subst (λ (z : Place). IsBefore g.place z) a.0 b))
one_of number group f g numbers (inr (e, inr a)) (inr (d, inr b)) = same_fault f g (numbers (omega (arith, a.1, b.1))) a.0

-- where numbers tell apart the rules that are broken
pub one_first_fault : {R : Type 0} (number group : R → ℕ) (Breaks : R → Place → Type 0) (f g : Broken R) → ((r s : R) (p q : Place) → Breaks r p → Breaks s q → number r ≡ number s → r ≡ s) → IsFirstFault number group Breaks f → IsFirstFault number group Breaks g → f ≡ g
one_first_fault number group Breaks f g numbers a b = one_of number group f g (numbers f.rule g.rule f.place g.place a.broken b.broken) (a.first g.rule g.place b.broken) (b.first f.rule f.place a.broken)

-- and none beside it
pub never_faultless : {R : Type 0} (number group : R → ℕ) (Breaks : R → Place → Type 0) (f : Broken R) → IsFirstFault number group Breaks f → IsFaultless Breaks → ⊥
never_faultless number group Breaks f a none = none f.rule f.place a.broken
