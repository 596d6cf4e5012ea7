-- Serves private contracts alone.
-- The ends of called gates, by the facts of their inner events.
use Rattle.std.specs.List.{flat_map}
use Rattle.std.specs.Prelude.{ℕ, List, [], ◌∷◌, Option, None, Some}
use Rattle.msc_meaning.specs.Calls.{Call}
use Rattle.msc_meaning.specs.InnerEvents.{GateEnd}
use Rattle.gate_tables.specs.GateFacts.{Facts}

abbrev pub end_of : List ℕ → List ℕ → Facts → GateEnd
end_of name gate f = record { name = name; gate = gate; at = f.at; kind = f.kind }

abbrev pub end_list : Call → Option Facts → List GateEnd
end_list c None = []
end_list c (Some f) = end_of c.name c.gate f ∷ []

-- the ends of the calls, by what is known at a name and a gate
abbrev pub ends_by : (List ℕ → List ℕ → Option Facts) → List Call → List GateEnd
ends_by at cs = flat_map (λ c. end_list c (at c.name c.gate)) cs
