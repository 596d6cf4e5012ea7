-- Serves private contracts alone.
-- Names that are listed, each once, with a table in which they are found.
use Rattle.std.specs.Prelude.{◌≡◌, ℕ, List}
use Rattle.gate_ends.specs.NameViews.{names_view}
use Rattle.chart_lists.specs.declared.drawn_instances.ListedNames.{ListedNames}

-- the names in their order
abbrev pub listed_view : ListedNames → List (List ℕ)
listed_view l = names_view l.names.items

-- the table has exactly them
abbrev pub AreSeen : ListedNames → Type 0
AreSeen l = listed_view l ≡ l.seen
