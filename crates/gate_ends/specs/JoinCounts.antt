-- What joins between two gates add to the size of a chart: for each the number of the inner events of the one gate times that of the other,
-- both counted in the expansion.
use Rattle.std.specs.Prelude.{ℕ, ◌+◌, ◌*◌, List, [], ◌∷◌, Option, None, Some}
use Rattle.msc_tree.specs.declared.reference.Join.{Join}
use Rattle.msc_tree.specs.declared.reference.JoinEnd.{JoinEnd}
use Rattle.msc_tree.specs.declared.reference.JoinEnd.TheVariants as join_end
use Rattle.msc_tree.specs.Expressions.{Expression}
use Rattle.msc_tree.specs.Statements.{Reference}
use Rattle.msc_meaning.specs.Bodies.{ReferencePart, WovenItems}
use Rattle.msc_meaning.specs.BodyLevels.{BodyLevel}
use Rattle.gate_ends.specs.FoundEnds.{GateEvents, event_count, expression_inner, inner_of}
use Rattle.gate_ends.specs.LevelGates.{items_in}

-- chart_inner: of the gate of the chart of that name; held: the items of the level
module _ (chart_inner : List ℕ → List ℕ → GateEvents) (held : WovenItems) where
  -- of a gate of a reference of the level, by its name; where it has none, by its expression
  abbrev pub own_count : Option (List ℕ) → Expression → List ℕ → ℕ
  own_count None e g = event_count (expression_inner chart_inner e g)
  own_count (Some own) e g = event_count (inner_of chart_inner held own g)

  abbrev pub join_count : Option (List ℕ) → Expression → List ℕ → JoinEnd → ℕ
  join_count own e g (join_end.Env to) = 0
  join_count own e g (join_end.Reference name to) = own_count own e g * event_count (inner_of chart_inner held name to)

  abbrev pub joins_count : Option (List ℕ) → Expression → List Join → ℕ
  joins_count own e [] = 0
  joins_count own e (j ∷ js) = join_count own e j.gate j.to + joins_count own e js

  -- of references of the level, each part by itself
  abbrev pub references_count : List Reference → ℕ
  references_count [] = 0
  references_count (r ∷ rs) = joins_count r.name r.expression r.joins + references_count rs

-- of levels, each with its references
abbrev pub levels_count : (List ℕ → List ℕ → GateEvents) → List BodyLevel → List (List Reference) → ℕ
levels_count chart_inner [] references = 0
levels_count chart_inner (l ∷ ls) [] = 0
levels_count chart_inner (l ∷ ls) (rs ∷ references) = references_count chart_inner (items_in l.body) rs + levels_count chart_inner ls references

-- of a reference of a woven level
abbrev pub reference_count : (List ℕ → List ℕ → GateEvents) → WovenItems → ReferencePart → ℕ
reference_count chart_inner held part = joins_count chart_inner held part.name part.expression part.joins
