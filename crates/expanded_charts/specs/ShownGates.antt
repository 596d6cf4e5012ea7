-- Serves private contracts alone.
-- What events still show: their numbers in their chart, and their gates.
use Rattle.std.specs.Prelude.{ℕ, List, [], ◌∷◌, Option, None, Some, map}
use Rattle.msc_base.specs.declared.label.Pair.{Pair}
use Rattle.msc_unfolding.specs.Unfoldings.{Tag, Own, Via, On}
use Rattle.expanded_charts.specs.Expanding.{Shown}
use Rattle.expanded_charts.specs.declared.shown.GateTag.{GateTag}
use Rattle.expanded_charts.specs.declared.shown.GateTag.TheVariants as gate_tag
use Rattle.expanded_charts.specs.declared.shown.ShownGate.{ShownGate}

abbrev pub tag_view : GateTag → Tag
tag_view (gate_tag.Via gate) = Via gate.now
tag_view (gate_tag.On name gate) = On name.now gate.now

abbrev pub tags_view : Option GateTag → List Tag
tags_view None = []
tags_view (Some a) = tag_view a ∷ []

abbrev pub shown_view : ShownGate → ℕ × Tag
shown_view s = (s.number, tag_view s.tag)

abbrev pub gates_view : List ShownGate → Shown
gates_view gs = map shown_view gs

-- ---- both kinds of tags apart

abbrev pub own_and : ℕ → Tag → List Pair → List Pair
own_and m (Own k) ps = record { first = m; second = k } ∷ ps
own_and m (Via g) ps = ps
own_and m (On y g) ps = ps

-- the numbers of events, with their numbers in their chart
abbrev pub own_numbers : Shown → List Pair
own_numbers [] = []
own_numbers (p ∷ sh) = own_and p.0 p.1 (own_numbers sh)

abbrev pub gate_and : ℕ → Tag → Shown → Shown
gate_and m (Own k) sh = sh
gate_and m (Via g) sh = (m, Via g) ∷ sh
gate_and m (On y g) sh = (m, On y g) ∷ sh

-- the numbers of events at gates, with the gates
abbrev pub gates_in : Shown → Shown
gates_in [] = []
gates_in (p ∷ sh) = gate_and p.0 p.1 (gates_in sh)
