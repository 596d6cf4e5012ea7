-- Laws of meanings: what conforms begins, and the ends of called gates are one list where their inner events agree.
use Rattle.std.specs.Prelude.{◌≡◌, ℕ, true, false, List, [], Some}
use Rattle.msc_base.specs.declared.label.Label.{Label}
use Rattle.msc_base.specs.declared.label.LabelRef.{LabelRef}
use Rattle.msc_base.specs.Orders.{Among}
use Rattle.msc_unfolding.specs.Unfoldings.{Unfolding}
use Rattle.msc_tree.specs.Graphs.{graph, Lines}
use Rattle.msc_meaning.specs.Bodies.{WovenItems}
use Rattle.msc_meaning.specs.Calls.{Call}
use Rattle.msc_meaning.specs.InnerEvents.{InnerEvent, IsInnerOf, GateEnd, AreEnds}
use Rattle.msc_meaning.specs.Meanings.{Conforms, Begins}
use Rattle.msc_meaning.specs.Tables.{Table, ChartEntry, chart_at, HighLevel}
use Rattle.msc_meaning.specs.ChartUnfoldings.{OfWalk}

-- a log that conforms begins a run
abbrev pub ConformsBegins : Type 0
ConformsBegins = (table : Table) (name : List ℕ) (labels : List Label) → Conforms table name labels → Begins table name labels

-- a finished walk is under way too
abbrev pub WalksAreOpen : Type 0
WalksAreOpen = (table : Table) (lines : Lines) (next : List LabelRef) (u : Unfolding) → OfWalk table false lines next u → OfWalk table true lines next u

-- every graph begins the empty log
abbrev pub GraphsBegin : Type 0
GraphsBegin = (table : Table) (name : List ℕ) (entry : ChartEntry) (starts : List LabelRef) (lines : Lines)
    → chart_at table name ≡ Some entry → entry.content ≡ HighLevel (graph starts lines) → Begins table name []

-- the end of a gate, by an inner event
abbrev pub end_by : List ℕ → List ℕ → InnerEvent → GateEnd
end_by name gate e = record { name = name; gate = gate; at = e.node.at; kind = e.node.event.kind }

-- each of the calls has an inner event
abbrev pub HaveEnds : Table → WovenItems → List Call → Type 0
HaveEnds table held cs = (c : Call) → Among c cs → (e : InnerEvent) × IsInnerOf table held c.name c.gate e

-- the inner events of each called gate agree on their instance and direction
abbrev pub HaveOneEnd : Table → WovenItems → List Call → Type 0
HaveOneEnd table held cs = (c : Call) → Among c cs → (e f : InnerEvent) → IsInnerOf table held c.name c.gate e → IsInnerOf table held c.name c.gate f → end_by c.name c.gate e ≡ end_by c.name c.gate f

-- then the called gates have ends
abbrev pub EndsAreThere : Type 0
EndsAreThere = (table : Table) (held : WovenItems) (cs : List Call) → HaveEnds table held cs → (ends : List GateEnd) × AreEnds table held cs ends

-- and they are one list
abbrev pub EndsAreOne : Type 0
EndsAreOne = (table : Table) (held : WovenItems) (cs : List Call) → HaveOneEnd table held cs → (ends others : List GateEnd) → AreEnds table held cs ends → AreEnds table held cs others → ends ≡ others
