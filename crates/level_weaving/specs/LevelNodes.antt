-- Serves private contracts alone.
-- The events of a level in the order of a woven list.
use Rattle.std.specs.Prelude.{ℕ, List, [], ◌∷◌, Option, Some, None, slice_get}
use Rattle.std.specs.List.{flat_map}
use Rattle.msc_meaning.specs.Bodies.{EventNode}
use Rattle.msc_meaning.specs.Levels.{nodes_from}
use Rattle.msc_meaning.specs.Pieces.{Piece}
use Rattle.msc_tree.specs.Statements.{Form, Single, Coregion}

-- those that an item at this instance has itself
abbrev pub nodes_at : Option (List ℕ) → ℕ → Form → List EventNode
nodes_at None n form = []
nodes_at (Some at) n (Single e) = record { number = n; at = at; event = e } ∷ []
nodes_at (Some at) n (Coregion es) = nodes_from n at es
nodes_at (Some at) n _ = []

abbrev pub piece_nodes : Piece → List EventNode
piece_nodes p = nodes_at (slice_get p.leads 0) p.first p.form

abbrev pub option_nodes : Option Piece → List EventNode
option_nodes None = []
option_nodes (Some p) = piece_nodes p

-- those of the items of these numbers, one after another
abbrev pub ordered_nodes : List Piece → List ℕ → List EventNode
ordered_nodes ps order = flat_map (λ x. option_nodes (slice_get ps x)) order
