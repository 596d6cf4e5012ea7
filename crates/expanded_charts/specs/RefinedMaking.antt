-- Serves private contracts alone.
-- What the functions say of the parts of refined and refining charts. Charts of a table, whose references stand in each other less than
-- so deep.
use Rattle.std.specs.Prelude.{ℕ, List, ◌++◌}
use Rattle.msc_base.specs.declared.label.Far.{Far}
use Rattle.msc_meaning.specs.Bodies.{EventNode, Body, level, WovenItems, WovenItem, items}
use Rattle.msc_meaning.specs.Calls.{calls}
use Rattle.msc_meaning.specs.ChartUnfoldings.{gates_of, refined_under, refining_under}
use Rattle.msc_meaning.specs.FarEnds.{Around, GateMap, Gates, far_end}
use Rattle.msc_meaning.specs.Refinements.{Refining, refining, refinings, without_decomposed, past_refining}
use Rattle.msc_meaning.specs.Tables.{Table, Refinement, Basic}
use Rattle.msc_meaning.specs.Ties.{ties}
use Rattle.expanded_charts.specs.Expanding.{Expanded, ExpandedParts, expand_refined, expand_refinings, expand_woven, in_row, past, then, tied}
use Rattle.expanded_charts.specs.Making.{AreMade, charts, events_parts, items_parts}
use Rattle.level_surroundings.specs.TableEnds.{ends_in}
use Rattle.expanded_charts.specs.declared.made.MadeParts.{MadeParts}
use Rattle.expanded_charts.specs.declared.numbering.Numbering.{Numbering}

module _ (table : Table) (depth : ℕ) where
  -- a basic chart with these decomposed instances
  abbrev pub woven_part : GateMap → ℕ → List Refinement → Body → Expanded
  woven_part gates n rs b = expand_woven (charts table depth) (ends_in table) table gates n rs (Basic b)

  -- a level, tied, with all that it shows
  abbrev pub tied_part : Around → ℕ → Body → Expanded
  tied_part around n (level cover held pairs) = tied (ties held pairs (calls held) (ends_in table held)) (in_row (items_parts table depth (gates_of held (ends_in table held)) around n held))

  abbrev pub refined_part : GateMap → ℕ → List Refinement → Body → Expanded
  refined_part gates n rs (level cover held pairs) = expand_refined (charts table depth) (ends_in table) (refined_under gates pairs (refinings table held rs)) n held pairs rs (refinings table held rs)

  abbrev pub refining_part : (EventNode → Far) → ℕ → Refining → Expanded
  refining_part far_of n (refining b ms) = past (past_refining ms) (tied_part (refining_under far_of ms) n b)

  abbrev pub refinings_parts : (EventNode → Far) → ℕ → List Refining → ExpandedParts
  refinings_parts far_of n rs = expand_refinings (charts table depth) (ends_in table) far_of n rs

  -- what is left of a level's items
  abbrev pub left_parts : Gates → Around → ℕ → List Refinement → WovenItems → ExpandedParts
  left_parts l around n rs held = items_parts table depth l around n (without_decomposed rs held)

  -- and behind it the refining charts
  abbrev pub beside_parts : Gates → Around → ℕ → List Refinement → WovenItems → List Refining → ExpandedParts
  beside_parts l around n rs held refined = then (in_row (left_parts l around n rs held)) (λ m. refinings_parts (far_end l.ends around) m refined)

  -- these items were put behind others
  abbrev pub AddsItems : Gates → Around → Numbering → Numbering → List WovenItem → MadeParts → MadeParts → Type 0
  AddsItems l around old new xs was parts = (start : Numbering) (n : ℕ) (before : List WovenItem)
      → AreMade start old (items_parts table depth l around n (items before)) was → AreMade start new (items_parts table depth l around n (items (before ++ xs))) parts

-- these events were put behind others
abbrev pub AddsEvents : Gates → Around → Numbering → Numbering → List EventNode → MadeParts → MadeParts → Type 0
AddsEvents l around old new ks was parts = (table : Table) (depth : ℕ) (start : Numbering) (n : ℕ) (before : List EventNode)
    → AreMade start old (events_parts table depth l around n before) was → AreMade start new (events_parts table depth l around n (before ++ ks)) parts
