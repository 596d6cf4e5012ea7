-- Serves private contracts alone.
-- How the code joins parts.
use Rattle.msc_base.specs.Patterns as pattern
use Rattle.chart_term.specs.declared.joins.Mode.{Mode}
use Rattle.chart_term.specs.declared.joins.Mode.TheVariants.{Seq, Par}

-- the mode of a join
abbrev pub mode_of : Mode → pattern.Mode
mode_of Seq = pattern.seq
mode_of Par = pattern.par
