-- The order of places, and the earliest place at which something holds.
use Rattle.std.specs.Prelude.{◌≡◌, ◌<◌, Bool, ◌||◌, ◌&&◌, ◌⊎◌, nat_lt, nat_eq, if◌then◌else◌, Option, None, Some, true, false}
use Rattle.msc_base.specs.declared.place.Place.{Place}

-- p stands before q: in a text its byte does, and a text has one line and column at a byte
abbrev pub IsBefore : Place → Place → Type 0
IsBefore p q = (p.byte < q.byte) ⊎ ((p.byte ≡ q.byte) × ((p.line < q.line) ⊎ ((p.line ≡ q.line) × (p.column < q.column))))

-- p stands before q, or is q
abbrev pub IsNoLater : Place → Place → Type 0
IsNoLater p q = IsBefore p q ⊎ (p ≡ q)

-- something holds nowhere, or at that place and at none before it
abbrev pub IsLeast : (Place → Type 0) → Option Place → Type 0
IsLeast Holds None = (q : Place) → Holds q → ⊥
IsLeast Holds (Some p) = Holds p × ((q : Place) → Holds q → IsNoLater p q)

-- the test whether p stands before q
abbrev pub is_before : Place → Place → Bool
is_before p q = nat_lt p.byte q.byte || (nat_eq p.byte q.byte && (nat_lt p.line q.line || (nat_eq p.line q.line && nat_lt p.column q.column)))

-- the earlier of the earliest place so far and one more
abbrev pub earliest : Option Place → Place → Option Place
earliest None p = Some p
earliest (Some q) p = if is_before p q then Some p else Some q

-- the same where something holds at the place; else the earliest so far
abbrev pub earliest_if : Bool → Option Place → Place → Option Place
earliest_if true so_far p = earliest so_far p
earliest_if false so_far p = so_far
