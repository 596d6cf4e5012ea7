-- Serves private contracts alone.
-- The numbers of events by the names of the events, as a table of names has them.
use Rattle.std.specs.List.{position, slice_get}
use Rattle.std.specs.Option.{unwrap_or}
use Rattle.std.specs.Prelude.{ℕ, ◌≡◌, List, [], ◌∷◌, Option, Some, None, length, if◌then◌else◌}
use Rattle.std.specs.Str.{bytes_eq}
use Rattle.general_ordering.specs.declared.named.NamedEvents.{NamedEvents}

-- there is a group for each name
abbrev pub IsEven : NamedEvents → Type 0
IsEven t = length t.groups.items ≡ length t.names

-- the value of a name that has that number
abbrev pub value_at : {V : Type 0} → Option ℕ → List V → Option V
value_at None vs = None
value_at (Some i) vs = slice_get vs i

-- the numbers of the events of a name
abbrev pub group_of : NamedEvents → List ℕ → List ℕ
group_of t name = unwrap_or (value_at (position (bytes_eq name) t.names) t.groups.items) []

-- those of an event of that name alone
abbrev pub own_group : List ℕ → ℕ → List ℕ → List ℕ
own_group own number name = if bytes_eq own name then number ∷ [] else []
