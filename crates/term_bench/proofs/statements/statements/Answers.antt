use Rattle.term_bench.proofs.RisingCharts.{chart_placed, chart_sound}
use Rattle.term_bench.proofs.statements.statements.Goals as goal

pub returns-clause-sound : goal.returns-clause-sound
returns-clause-sound c = chart_sound c.rising_rows_are_sound.ensures _ _ _ _ _ c.in_ok-events.ensures c.in_ok-pairs.ensures c.in_ok-row.ensures c.in_ok-term.ensures

pub returns-clause-placed : goal.returns-clause-placed
returns-clause-placed c = chart_placed _ _ _ _ _ c.in_ok-events.ensures c.in_ok-row.ensures c.in_ok-term.ensures
