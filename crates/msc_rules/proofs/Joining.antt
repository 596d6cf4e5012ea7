-- From single rules to groups, and from parts of a document to the whole.
use Rattle.std.proofs.Common.{◌≡◌, ℕ, ◌<◌, ◌≤◌, ◌++◌, List, [], ◌∷◌, Option, None, Some, ◌⊎◌, inl, inr, nat_lt, true, false, arith, refl, subst, sym}
use Rattle.std.proofs.lemmas.Bool.{cases_lt}
use Rattle.std.proofs.lemmas.Bool.Decides.{nat_tests}
use Rattle.msc_base.specs.Lists.{IsAmong}
use Rattle.msc_base.specs.declared.place.Place.{Place}
use Rattle.msc_rules.specs.declared.first_fault.Broken.{Broken}
use Rattle.msc_base.specs.Places.{IsBefore, IsNoLater, IsLeast}
use Rattle.msc_rules.specs.FirstFaults.{IsBest, fault_of, is_ahead, earlier_of}
use Rattle.msc_base.proofs.PlaceFacts.{before_cases, no_later_through, never_both, one_place}

abbrev IsAhead : {R : Type 0} → (R → ℕ) → Broken R → Broken R → Type 0
IsAhead number f g = IsBefore f.place g.place ⊎ ((f.place ≡ g.place) × (number f.rule < number g.rule))

abbrev IsLevel : {R : Type 0} → (R → ℕ) → Broken R → Broken R → Type 0
IsLevel number f g = IsBefore f.place g.place ⊎ ((f.place ≡ g.place) × (number f.rule ≤ number g.rule))

ahead_cases : {R : Type 0} (number : R → ℕ) (f g : Broken R) → ((is_ahead number g f ≡ true) × IsAhead number g f) ⊎ ((is_ahead number g f ≡ false) × IsLevel number f g)
ahead_cases number f g = elim (before_cases g.place f.place) [
  | inl t ↦ inl (rw t.0 refl, inl t.1)
  | inr n ↦ elim (before_cases f.place g.place) [
    | inl t ↦ inr (rw (n.0, t.0) refl, inl t.1)
    | inr m ↦
        let e : f.place ≡ g.place = one_place f.place g.place n.1 m.1 in
        elim (cases_lt (number g.rule) (number f.rule)) [
          | inl lt ↦ let t : nat_lt (number g.rule) (number f.rule) ≡ true = grind (arith, nat_tests) in inl (rw (n.0, m.0, t) refl, inr (sym e, lt))
          | inr ge ↦ let t : nat_lt (number g.rule) (number f.rule) ≡ false = grind (arith, nat_tests) in inr (rw (n.0, m.0, t) refl, inr (e, ge))
        ]
  ]
]

-- ---- the least of a set of faults

pub record IsLeastOf {R : Type 0} (number : R → ℕ) (Has : R → Place → Type 0) (f : Broken R) : Type 0 where
  pub here : Has f.rule f.place
  pub earliest : (r : R) (p : Place) → Has r p → IsNoLater f.place p
  pub lowest : (r : R) → Has r f.place → number f.rule ≤ number r

abbrev pub IsLeastOption : {R : Type 0} → (R → ℕ) → (R → Place → Type 0) → Option (Broken R) → Type 0
IsLeastOption {R} number Has None = (r : R) (p : Place) → Has r p → ⊥
IsLeastOption number Has (Some f) = IsLeastOf number Has f

-- the least of a set stays the least beside a set whose least it is ahead of
beside : {R : Type 0} (number : R → ℕ) (A B C : R → Place → Type 0) (f g : Broken R) → ((r : R) (p : Place) → C r p → A r p ⊎ B r p) → C f.rule f.place → IsLeastOf number A f → IsLeastOf number B g → IsLevel number f g → IsLeastOf number C f
beside {R = R} number A B C f g split here a b level = record {
  here = here;
  earliest = λ r p h. elim (split r p h) [
    | inl x ↦ a.earliest r p x
    | inr y ↦ no_later_through f.place g.place p (no_later level) (b.earliest r p y)
  ];
  lowest = λ r h. elim (split r f.place h) [ inl x ↦ a.lowest r x | inr y ↦ low r y level ];
}
  where
    no_later : IsLevel number f g → IsNoLater f.place g.place
    no_later (inl x) = inl x
    no_later (inr y) = inr y.0

    low : (r : R) → B r f.place → IsLevel number f g → number f.rule ≤ number r
    low r y (inl x) = absurd (never_both f.place g.place x (b.earliest r f.place y))
    low r y (inr z) = let n : number g.rule ≤ number r = b.lowest r (subst (λ (p : Place). B r p) z.0 y) in omega (arith, n, z.1)

pub least_either : {R : Type 0} (number : R → ℕ) (A B : R → Place → Type 0) (x y : Option (Broken R)) → IsLeastOption number A x → IsLeastOption number B y → IsLeastOption number (λ r p. A r p ⊎ B r p) (earlier_of number x y)
least_either number A B None None a b = λ r p h. elim h [ inl k ↦ a r p k | inr k ↦ b r p k ]
least_either number A B None (Some g) a b = record {
  here = inr b.here;
  earliest = λ r p h. elim h [ inl k ↦ absurd (a r p k) | inr k ↦ b.earliest r p k ];
  lowest = λ r h. elim h [ inl k ↦ absurd (a r g.place k) | inr k ↦ b.lowest r k ];
}
least_either number A B (Some f) None a b = record {
  here = inl a.here;
  earliest = λ r p h. elim h [ inl k ↦ a.earliest r p k | inr k ↦ absurd (b r p k) ];
  lowest = λ r h. elim h [ inl k ↦ a.lowest r k | inr k ↦ absurd (b r f.place k) ];
}
least_either number A B (Some f) (Some g) a b = elim (ahead_cases number f g) [
  | inl t ↦ rw t.0 (beside number B A (λ r p. A r p ⊎ B r p) g f (λ r p h. elim h [ inl k ↦ inr k | inr k ↦ inl k ]) (inr b.here) b a (loosen t.1))
  | inr n ↦ rw n.0 (beside number A B (λ r p. A r p ⊎ B r p) f g (λ r p h. h) (inl a.here) a b n.1)
]
  where
    loosen : IsAhead number g f → IsLevel number g f
    loosen (inl x) = inl x
    loosen (inr z) = inr (z.0, omega (arith, z.1))

pub least_same : {R : Type 0} (number : R → ℕ) (A B : R → Place → Type 0) (x : Option (Broken R)) → ((r : R) (p : Place) → A r p → B r p) → ((r : R) (p : Place) → B r p → A r p) → IsLeastOption number A x → IsLeastOption number B x
least_same number A B None to from a = λ r p h. a r p (from r p h)
least_same number A B (Some f) to from a = record {
  here = to f.rule f.place a.here;
  earliest = λ r p h. a.earliest r p (from r p h);
  lowest = λ r h. a.lowest r (from r f.place h);
}

to_least : {R : Type 0} (number : R → ℕ) (Breaks : R → Place → Type 0) (rules : List R) (x : Option (Broken R)) → IsBest number Breaks rules x → IsLeastOption number (λ r p. IsAmong rules r × Breaks r p) x
to_least number Breaks rules None best = λ r p h. best r p h.0 h.1
to_least number Breaks rules (Some f) best = record { here = (best.mine, best.broken); earliest = λ r p h. best.earliest r p h.0 h.1; lowest = λ r h. best.lowest r h.0 h.1 }

from_least : {R : Type 0} (number : R → ℕ) (Breaks : R → Place → Type 0) (rules : List R) (x : Option (Broken R)) → IsLeastOption number (λ r p. IsAmong rules r × Breaks r p) x → IsBest number Breaks rules x
from_least number Breaks rules None a = λ r p m b. a r p (m, b)
from_least number Breaks rules (Some f) a = record { mine = a.here.0; broken = a.here.1; earliest = λ r p m b. a.earliest r p (m, b); lowest = λ r m b. a.lowest r (m, b) }

-- ---- rules

-- no rule at all has no fault
pub best_of_none : {R : Type 0} (number : R → ℕ) (Breaks : R → Place → Type 0) → IsBest number Breaks [] None
best_of_none number Breaks = λ r p m b. m

-- one rule, at its earliest place
pub best_of_one : {R : Type 0} (number : R → ℕ) (Breaks : R → Place → Type 0) (r : R) (x : Option Place) → IsLeast (Breaks r) x → IsBest number Breaks (r ∷ []) (fault_of r x)
best_of_one number Breaks r None h = λ q p m b. elim m [ inl e ↦ h p (subst (λ z. Breaks z p) e b) | inr n ↦ n ]
best_of_one number Breaks r (Some p) h = record {
  mine = inl refl;
  broken = h.0;
  earliest = λ q k m b. elim m [ inl e ↦ h.1 k (subst (λ z. Breaks z k) e b) | inr n ↦ absurd n ];
  lowest = λ q m b. elim m [ inl e ↦ subst (λ z. number r ≤ number z) (sym e) (omega arith) | inr n ↦ absurd n ];
}

of_either : {R : Type 0} (rs ss : List R) (r : R) → IsAmong (rs ++ ss) r → IsAmong rs r ⊎ IsAmong ss r
of_either [] ss r m = inr m
of_either (q ∷ rs) ss r (inl e) = inl (inl e)
of_either (q ∷ rs) ss r (inr m) = elim (of_either rs ss r m) [ inl a ↦ inl (inr a) | inr b ↦ inr b ]

of_left : {R : Type 0} (rs ss : List R) (r : R) → IsAmong rs r → IsAmong (rs ++ ss) r
of_left [] ss r m = absurd m
of_left (q ∷ rs) ss r (inl e) = inl e
of_left (q ∷ rs) ss r (inr m) = inr (of_left rs ss r m)

of_right : {R : Type 0} (rs ss : List R) (r : R) → IsAmong ss r → IsAmong (rs ++ ss) r
of_right [] ss r m = m
of_right (q ∷ rs) ss r m = inr (of_right rs ss r m)

-- the rules of two lists
pub best_of_both : {R : Type 0} (number : R → ℕ) (Breaks : R → Place → Type 0) (rs ss : List R) (x y : Option (Broken R)) → IsBest number Breaks rs x → IsBest number Breaks ss y → IsBest number Breaks (rs ++ ss) (earlier_of number x y)
best_of_both number Breaks rs ss x y a b =
    from_least number Breaks (rs ++ ss) (earlier_of number x y) (least_same number
    (λ r p. (IsAmong rs r × Breaks r p) ⊎ (IsAmong ss r × Breaks r p)) (λ r p. IsAmong (rs ++ ss) r × Breaks r p) (earlier_of number x y)
    (λ r p h. elim h [ inl k ↦ (of_left rs ss r k.0, k.1) | inr k ↦ (of_right rs ss r k.0, k.1) ])
    (λ r p h. elim (of_either rs ss r h.0) [ inl k ↦ inl (k, h.1) | inr k ↦ inr (k, h.1) ])
    (least_either number (λ r p. IsAmong rs r × Breaks r p) (λ r p. IsAmong ss r × Breaks r p) x y (to_least number Breaks rs x a) (to_least number Breaks ss y b)))

-- one rule more, at its earliest place
pub best_with : {R : Type 0} (number : R → ℕ) (Breaks : R → Place → Type 0) (rs : List R) (r : R) (x : Option (Broken R)) (p : Option Place) → IsBest number Breaks rs x → IsLeast (Breaks r) p → IsBest number Breaks (rs ++ r ∷ []) (earlier_of number x (fault_of r p))
best_with number Breaks rs r x p a h = best_of_both number Breaks rs (r ∷ []) x (fault_of r p) a (best_of_one number Breaks r p h)

-- ---- parts of a document

-- the same rules of two parts
pub best_of_parts : {R : Type 0} (number : R → ℕ) (A B : R → Place → Type 0) (rules : List R) (x y : Option (Broken R)) → IsBest number A rules x → IsBest number B rules y → IsBest number (λ r p. A r p ⊎ B r p) rules (earlier_of number x y)
best_of_parts number A B rules x y a b =
    from_least number (λ r p. A r p ⊎ B r p) rules (earlier_of number x y) (least_same number
    (λ r p. (IsAmong rules r × A r p) ⊎ (IsAmong rules r × B r p)) (λ r p. IsAmong rules r × (A r p ⊎ B r p)) (earlier_of number x y)
    (λ r p h. elim h [ inl k ↦ (k.0, inl k.1) | inr k ↦ (k.0, inr k.1) ])
    (λ r p h. elim h.1 [ inl k ↦ inl (h.0, k) | inr k ↦ inr (h.0, k) ])
    (least_either number (λ r p. IsAmong rules r × A r p) (λ r p. IsAmong rules r × B r p) x y (to_least number A rules x a) (to_least number B rules y b)))

-- the same in other words
pub best_same : {R : Type 0} (number : R → ℕ) (A B : R → Place → Type 0) (rules : List R) (x : Option (Broken R)) → ((r : R) (p : Place) → IsAmong rules r → A r p → B r p) → ((r : R) (p : Place) → IsAmong rules r → B r p → A r p) → IsBest number A rules x → IsBest number B rules x
best_same number A B rules None to from a = λ r p m b. a r p m (from r p m b)
best_same number A B rules (Some f) to from a = record {
  mine = a.mine;
  broken = to f.rule f.place a.mine a.broken;
  earliest = λ r p m b. a.earliest r p m (from r p m b);
  lowest = λ r m b. a.lowest r m (from r f.place m b);
}
