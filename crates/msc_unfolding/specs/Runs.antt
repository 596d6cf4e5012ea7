-- The runs of an unfolding, and of a set of unfoldings.
use Rattle.std.specs.Prelude.{List}
use Rattle.msc_base.specs.declared.label.Label.{Label}
use Rattle.msc_base.specs.Patterns.{Position}
use Rattle.msc_base.specs.PatternRuns.{labels_by, IsRunBy, IsRunAmong, BeginsRunAmong}
use Rattle.msc_unfolding.specs.Unfoldings.{Happening, Unfolding, plain}

abbrev pub label_of : Happening → Label
label_of h = h.label

-- the labels of these positions
abbrev pub labels_at : (u : Unfolding) → List (Position u) → List Label
labels_at u order = labels_by plain label_of u order

-- the labels are those of a linear order of the unfolding
abbrev pub IsRun : Unfolding → List Label → Type 0
IsRun = IsRunBy plain label_of

-- they are a run of one of these unfoldings
abbrev pub IsRunOf : (Unfolding → Type 0) → List Label → Type 0
IsRunOf = IsRunAmong plain label_of

-- a run of one of these unfoldings begins with them
abbrev pub BeginsRunOf : (Unfolding → Type 0) → List Label → Type 0
BeginsRunOf = BeginsRunAmong plain label_of
