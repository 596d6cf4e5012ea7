-- What contracts see of a shelf in memory.
use Rattle.std.specs.Prelude.{ℕ, List, [], ◌∷◌, Option, Some, None, drop, if◌then◌else◌}
use Rattle.std.specs.Option.{option_map}
use Rattle.std.specs.Str.{bytes_eq}
use Rattle.outside.specs.declared.entry.Entry.{Entry}

-- the bytes of the first entry of that name
abbrev pub file_at : List Entry → List ℕ → Option (List ℕ)
file_at [] name = None
file_at (e ∷ es) name = (if bytes_eq e.name name then Some e.bytes else file_at es name)

-- what is left of the entry of that name behind its first bytes
abbrev pub left_at : List Entry → Option (List ℕ) → ℕ → Option (List ℕ)
left_at es None at = Some []
left_at es (Some name) at = option_map (drop at) (file_at es name)
