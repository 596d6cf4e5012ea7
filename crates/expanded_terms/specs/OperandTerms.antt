-- The terms of items of a level where they stand in an expansion: of all of them, or of those behind an exception.
use Rattle.std.specs.Prelude.{◌≡◌, ◌+◌, ℕ, true, List, length}
use Rattle.msc_base.specs.declared.label.Pair.{Pair}
use Rattle.msc_base.specs.Orders.{Among, Once}
use Rattle.msc_unfolding.specs.Unfoldings.{level_tie}
use Rattle.chart_term.specs.Terms.{Tree}
use Rattle.term_laws.specs.FullSoundness.{AreSoundNets}
use Rattle.term_laws.specs.Soundness.{Lacks, NetLacks}
use Rattle.term_meaning.specs.Meanings.{MeansUnfoldings}
use Rattle.term_meaning.specs.UnfoldingSets.{AreTied}
use Rattle.term_tables.specs.NetValues.{NetsValue}
use Rattle.sound_terms.specs.Intervals.{IsBeyond}
use Rattle.msc_meaning.specs.Bodies.{WovenItems}
use Rattle.msc_meaning.specs.Calls.{calls}
use Rattle.msc_meaning.specs.ChartUnfoldings.{OfItems, gates_of}
use Rattle.msc_meaning.specs.FarEnds.{Around}
use Rattle.msc_meaning.specs.InnerEvents.{GateEnd}
use Rattle.msc_meaning.specs.Tables.{Table}
use Rattle.msc_meaning.specs.Ties.{ties}
use Rattle.expansion_tree.specs.Expansions.{Expansion, events_in}
use Rattle.expansion_tree.specs.Walks.{EachWalk}
use Rattle.expanded_charts.specs.Expanding.{Expanded, NumberedEvent, expand_charts, expand_items, in_row, tied}
use Rattle.expansion_terms.specs.ExpansionTerms.{expansion_term, part_terms}
use Rattle.expanded_terms.specs.ExpansionLaws.{event_by}
use Rattle.expanded_terms.specs.FitBodies.{AreEndsOf}
use Rattle.expanded_terms.specs.GraphWalks.{IsGraphWalk}
use Rattle.expanded_terms.specs.NamedEvents.{IsNameable, named_leaves}
use Rattle.expanded_terms.specs.WholeCharts.{AreWholeItems, IsWholeTo}

-- what these items come to, numbered from n on and tied as their level is, which has the items `held` and the pairs
abbrev pub expand_taken : (WovenItems → List GateEnd) → Table → ℕ → Around → ℕ → WovenItems → List Pair → WovenItems → Expanded
expand_taken ends_of table depth around n held pairs taken = tied (ties held pairs (calls held) (ends_of held)) (in_row (expand_items (expand_charts ends_of table depth) ends_of (gates_of held (ends_of held)) around n taken))

-- the term means the unfoldings of the items, tied as the level is, and has no numbers but theirs
pub record IsTermOfTaken (v : NetsValue) (names : List (List ℕ)) (walk : ℕ → Tree) (table : Table) (ends_of : WovenItems → List GateEnd) (depth : ℕ) (around : Around) (n : ℕ) (held : WovenItems) (pairs : List Pair) (taken : WovenItems) : Type 0 where
  pub means : MeansUnfoldings v names true (expansion_term (event_by (named_leaves names v.labels walk)) walk (expand_taken ends_of table depth around n held pairs taken).part)
      (AreTied (OfItems table (gates_of held (ends_of held)) around taken) (level_tie (ties held pairs (calls held) (ends_of held))))
  pub beyond : (j : ℕ) → IsBeyond n (expand_taken ends_of table depth around n held pairs taken).next j
      → Lacks (NetLacks v.tables) j (expansion_term (event_by (named_leaves names v.labels walk)) walk (in_row (expand_items (expand_charts ends_of table depth) ends_of (gates_of held (ends_of held)) around n taken)).part)

-- so it is where the items are whole by their text, the called gates of the level have their ends and no others, each event can be named,
-- and each walk is one of its graph
pub record TakenItemsMean : Type 0 where
  pub is : (v : NetsValue) (names : List (List ℕ)) (walk : ℕ → Tree) (table : Table) (ends_of : WovenItems → List GateEnd) (depth : ℕ) (around : Around) (n : ℕ) (held : WovenItems) (pairs : List Pair) (taken : WovenItems)
      → Once names → AreSoundNets (length v.labels) v.tables → AreEndsOf table ends_of held → AreWholeItems table ends_of (IsWholeTo table ends_of depth) taken
      → ((e : NumberedEvent) → Among e (events_in (expand_taken ends_of table depth around n held pairs taken).part) → IsNameable names v.labels e.happening)
      → EachWalk (λ m g xs. IsGraphWalk v.tables g (part_terms (event_by (named_leaves names v.labels walk)) walk xs) (walk m)) (expand_taken ends_of table depth around n held pairs taken).part
      → IsTermOfTaken v names walk table ends_of depth around n held pairs taken
