-- Serves private contracts alone.
-- Terms and nets all of whose events are at the first instance alone.
use Rattle.std.specs.Prelude.{ℕ, List, [], ◌∷◌}
use Rattle.chart_term.specs.Tables.{Tables}
use Rattle.chart_term.specs.Terms.{Tree}
use Rattle.term_laws.specs.Placing.{AreEventsPlaced, AreNetsPlaced}

abbrev pub first_alone : ℕ → List ℕ
first_alone label = 0 ∷ []

abbrev pub IsHome : Tree → Type 0
IsHome x = AreEventsPlaced first_alone x

abbrev pub AreHome : Tables → Type 0
AreHome w = AreNetsPlaced first_alone w
