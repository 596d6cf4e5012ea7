-- Expansions of worked charts: one that is used twice, and a gate that is called through two levels.
--   msc B; inst i; i: action 'x'; endmsc;
--   msc Z; inst i; i: reference B seq loop <1,2> B; endmsc;
use Rattle.std.specs.Prelude.{◌≡◌, ℕ, List, [], ◌∷◌, None, Some, codes}
use Rattle.msc_base.specs.declared.label.Kind.TheVariants.{Input}
use Rattle.msc_unfolding.specs.Unfoldings.{Own, Via}
use Rattle.msc_tree.specs.Expressions.{Expression, Chart, Loop, Seq, more, none}
use Rattle.msc_meaning.specs.Bodies.{Body, level, WovenItems, no_items, item_and, Single, Refer}
use Rattle.msc_meaning.specs.Calls.{Call, calls}
use Rattle.msc_meaning.specs.InnerEvents.{GateEnd}
use Rattle.msc_meaning.specs.Tables.{Table, Basic}
use Rattle.msc_meaning.specs.WorkedCharts.{i, k, m, gate_through_levels}
use Rattle.msc_meaning.specs.WorkedParts.{action, done, node, pair, received, sent, somewhere}
use Rattle.expansion_tree.specs.Expansions.{Expansion, Event, InRow, Tied, Turns, expansions}
use Rattle.expanded_charts.specs.Expanding.{NumberedEvent, expansion}

-- no gate of a level is called
abbrev pub no_ends : WovenItems → List GateEnd
no_ends held = []

abbrev pub acting : Body
acting = level (i ∷ []) (item_and (Single (node 0 i (action (codes "'x'")))) no_items) []

abbrev pub twice : Expression
twice = Seq (more (Chart (codes "B")) (more (Loop 1 (Some 2) (Chart (codes "B"))) none))

abbrev pub using : Body
using = level (i ∷ []) (item_and (Refer (record { name = None; expression = twice; joins = []; cover = i ∷ []; place = somewhere })) no_items) []

abbrev pub used_twice : Table
used_twice = record { name = codes "B"; decls = []; content = Basic acting } ∷ record { name = codes "Z"; decls = []; content = Basic using } ∷ []

-- the action as the event of that number
abbrev pub acts : ℕ → Expansion NumberedEvent
acts n = Event (record { number = n; happening = record { label = done i (codes "'x'"); also = None; tags = Own 0 ∷ [] } })

abbrev pub chart_of_acting : ℕ → Expansion NumberedEvent
chart_of_acting n = Tied (InRow (expansions (acts n ∷ []))) []

-- the inner event of each called gate is the input at k
abbrev pub ends_for : List Call → List GateEnd
ends_for [] = []
ends_for (c ∷ cs) = record { name = c.name; gate = c.gate; at = k; kind = Input } ∷ ends_for cs

abbrev pub ends_at_k : WovenItems → List GateEnd
ends_at_k held = ends_for (calls held)

pub record ChartsExpand : Type 0 where
  -- each use has a number of its own, and the loop counts by that of its first event
  pub twice : expansion no_ends used_twice 3 (codes "Z") ≡ Tied (InRow (expansions (InRow (expansions (chart_of_acting 0 ∷ Turns 1 1 (Some 2) (chart_of_acting 1) ∷ [])) ∷ []))) []
  -- the output is tied to the input two levels below by their numbers
  pub gate : expansion ends_at_k gate_through_levels 3 (codes "A")
      ≡ Tied (InRow (expansions (Event (record { number = 0; happening = record { label = sent i m k; also = None; tags = Own 0 ∷ [] } })
      ∷ Tied (InRow (expansions (Tied (InRow (expansions (Event (record { number = 1; happening = record { label = received k m i; also = None; tags = Own 0 ∷ Via (codes "g") ∷ [] } }) ∷ []))) [] ∷ []))) [] ∷ []))) (pair 0 1 ∷ [])
