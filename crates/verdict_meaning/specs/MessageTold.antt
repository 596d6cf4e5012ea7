-- The term of a worked chart, a message: it means the chart's unfoldings.
use Rattle.std.specs.Prelude.{ℕ, List, [], ◌∷◌, None, codes}
use Rattle.msc_meaning.specs.WorkedCharts.{message}
use Rattle.msc_meaning.specs.WorkedLaws.{a_sent, a_received}
use Rattle.chart_term.specs.Terms.{TermEvent}
use Rattle.term_meaning.specs.TiedRows.{tied_row}
use Rattle.term_tables.specs.NetValues.{NetsValue}
use Rattle.verdict_meaning.specs.ChartsTold.{IsTermOf}

abbrev pub message_tables : NetsValue
message_tables = record { labels = a_sent ∷ a_received ∷ []; tables = [] }

abbrev pub message_names : List (List ℕ)
message_names = codes "i" ∷ codes "j" ∷ []

abbrev pub message_events : List TermEvent
message_events = record { number = 0; at = 0; also = None; label = 0 } ∷ record { number = 1; at = 1; also = None; label = 1 } ∷ []

-- two events in a row below a tie, over a table of their labels
abbrev pub MessageIsTold : Type 0
MessageIsTold = IsTermOf message (codes "A") message_tables message_names (tied_row message_events ((0, 1) ∷ []))
