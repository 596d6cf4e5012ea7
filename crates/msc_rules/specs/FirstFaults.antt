-- The first of several faults. A fault is a rule and a place. Rules have numbers and stand in groups: the first group that has
-- a fault decides, in it the earliest place, and at one place the lowest number. What the rules say is a relation `Breaks`.
use Rattle.std.specs.Prelude.{◌≡◌, ◌<◌, ◌≤◌, ℕ, Bool, not, ◌||◌, ◌&&◌, ◌⊎◌, ⊤, nat_lt, if◌then◌else◌, List, [], ◌∷◌, Option, None, Some}
use Rattle.msc_base.specs.Lists.{IsAmong}
use Rattle.msc_base.specs.declared.place.Place.{Place}
use Rattle.msc_rules.specs.declared.first_fault.Broken.{Broken}
use Rattle.msc_base.specs.Places.{IsBefore, IsNoLater, is_before}

-- of the faults of these rules it is the earliest, and at its place the one of the lowest number
pub record IsEarliest {R : Type 0} (number : R → ℕ) (Breaks : R → Place → Type 0) (rules : List R) (fault : Broken R) : Type 0 where
  pub mine : IsAmong rules fault.rule
  pub broken : Breaks fault.rule fault.place
  pub earliest : (r : R) (p : Place) → IsAmong rules r → Breaks r p → IsNoLater fault.place p
  pub lowest : (r : R) → IsAmong rules r → Breaks r fault.place → number fault.rule ≤ number r

-- none of these rules is broken
abbrev pub Keeps : {R : Type 0} → (R → Place → Type 0) → List R → Type 0
Keeps {R} Breaks rules = (r : R) (p : Place) → IsAmong rules r → Breaks r p → ⊥

-- no fault of these rules, or the earliest
abbrev pub IsBest : {R : Type 0} → (R → ℕ) → (R → Place → Type 0) → List R → Option (Broken R) → Type 0
IsBest number Breaks rules None = Keeps Breaks rules
IsBest number Breaks rules (Some fault) = IsEarliest number Breaks rules fault

-- the earliest fault of the first group that has one
abbrev pub IsFirst : {R : Type 0} → (R → ℕ) → (R → Place → Type 0) → List (List R) → Broken R → Type 0
IsFirst number Breaks [] fault = ⊥
IsFirst number Breaks (rules ∷ more) fault = IsEarliest number Breaks rules fault ⊎ (Keeps Breaks rules × IsFirst number Breaks more fault)

-- the fault's group comes before that of r; or it is the same, and the fault's place comes before p; or that is p, and the fault's
-- number is no higher
abbrev pub ComesFirst : {R : Type 0} → (R → ℕ) → (R → ℕ) → Broken R → R → Place → Type 0
ComesFirst number group fault r p = (group fault.rule < group r)
    ⊎ ((group fault.rule ≡ group r) × (IsBefore fault.place p ⊎ ((fault.place ≡ p) × (number fault.rule ≤ number r))))

-- a rule is broken there, and no rule is broken anywhere by which another fault would come first
pub record IsFirstFault {R : Type 0} (number group : R → ℕ) (Breaks : R → Place → Type 0) (fault : Broken R) : Type 0 where
  pub broken : Breaks fault.rule fault.place
  pub first : (r : R) (p : Place) → Breaks r p → ComesFirst number group fault r p

-- two rules, of which the first is broken where A holds, and the second where B holds
abbrev pub BreaksEither : {R : Type 0} → R → (Place → Type 0) → R → (Place → Type 0) → R → Place → Type 0
BreaksEither a A b B rule place = ((rule ≡ a) × A place) ⊎ ((rule ≡ b) × B place)

-- no rule is broken anywhere
abbrev pub IsFaultless : {R : Type 0} → (R → Place → Type 0) → Type 0
IsFaultless {R} Breaks = (r : R) (p : Place) → Breaks r p → ⊥

-- the rule is in one of the groups
abbrev pub IsInSome : {R : Type 0} → List (List R) → R → Type 0
IsInSome [] r = ⊥
IsInSome (rules ∷ more) r = IsAmong rules r ⊎ IsInSome more r

-- the rules of one list are of one group, and those of the later lists are of later groups
abbrev pub AreGroups : {R : Type 0} → (R → ℕ) → List (List R) → Type 0
AreGroups group [] = ⊤
AreGroups {R} group (rules ∷ more) = ((r s : R) → IsAmong rules r → IsAmong rules s → group r ≡ group s)
    × ((r s : R) → IsAmong rules r → IsInSome more s → group r < group s) × AreGroups group more

-- the fault of a rule at its earliest place
abbrev pub fault_of : {R : Type 0} → R → Option Place → Option (Broken R)
fault_of r None = None
fault_of r (Some p) = Some (record { rule = r; place = p })

-- fault f stands before fault g, or at its place with a lower number
abbrev pub is_ahead : {R : Type 0} → (R → ℕ) → Broken R → Broken R → Bool
is_ahead number f g = is_before f.place g.place || (not (is_before g.place f.place) && nat_lt (number f.rule) (number g.rule))

-- the earlier of two faults
abbrev pub earlier_of : {R : Type 0} → (R → ℕ) → Option (Broken R) → Option (Broken R) → Option (Broken R)
earlier_of number None b = b
earlier_of number (Some f) None = Some f
earlier_of number (Some f) (Some g) = if is_ahead number g f then Some g else Some f
