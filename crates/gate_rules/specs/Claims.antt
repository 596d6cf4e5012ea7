-- Serves private contracts alone.
-- The earliest place at which each gate is used.
use Rattle.std.specs.Prelude.{◌≡◌, Bool, false, not, ◌||◌, List, [], ◌∷◌, Option, None, Some}
use Rattle.indexmap.specs.IndexMap.{get_by}
use Rattle.msc_base.specs.Places.{earliest_if, is_before}
use Rattle.msc_base.specs.declared.place.Place.{Place}
use Rattle.gate_rules.specs.declared.claims.Claims.{Claims}
use Rattle.gate_rules.specs.declared.claims.Uses.{Uses}
use Rattle.gate_rules.specs.Callers.{key_view}
use Rattle.gate_rules.specs.GateRules.{Caller, GateName, called, handed, has_gate, is_same_gate, place_of}

-- the earliest place at which the gate is used
abbrev pub first_use : Uses → GateName → Option Place
first_use uses x = get_by (λ key. is_same_gate x (key_view key)) uses.held

-- the uses, and one more of this gate
abbrev pub with_use : GateName → Place → (GateName → Option Place) → GateName → Option Place
with_use own place used x = earliest_if (is_same_gate x own) (used x) place

abbrev pub with_some : Option GateName → Place → (GateName → Option Place) → GateName → Option Place
with_some None place used x = used x
with_some (Some own) place used x = with_use own place used x

-- and one of each of these two
abbrev pub with_both : Option GateName → Option GateName → Place → (GateName → Option Place) → GateName → Option Place
with_both own far place used x = with_some far place (with_some own place used) x

-- the earliest place isn't behind this one
abbrev pub reaches : Option Place → Place → Bool
reaches None place = false
reaches (Some first) place = not (is_before place first)

-- the gate is used, and not only behind the place
abbrev pub is_used_by : (GateName → Option Place) → Option GateName → Place → Bool
is_used_by used None place = false
is_used_by used (Some x) place = reaches (used x) place

-- the caller calls the gate, or hands it on
abbrev pub claims : Caller → GateName → Bool
claims c x = has_gate (called c) x || has_gate (handed c) x

-- the earliest of the places of the callers that pass a test
abbrev pub first_of : (Caller → Bool) → List Caller → Option Place
first_of test [] = None
first_of test (c ∷ cs) = earliest_if (test c) (first_of test cs) (place_of c)

-- the claims are those of the callers
pub record AreClaims (cs : List Caller) (made : Claims) : Type 0 where
  pub claimed : (x : GateName) → first_use made.claimed x ≡ first_of (λ c. claims c x) cs
  pub called : (x : GateName) → first_use made.called x ≡ first_of (λ c. has_gate (called c) x) cs
