-- Same patterns have the same runs.
use Rattle.chart_term.specs.TermPatterns.{back}
use Rattle.chart_term.proofs.Arranging.{linear_run, runs_linear}
use Rattle.chart_term.proofs.Running.{runs_same}
use Rattle.sound_terms.specs.SameRuns.{SamePatternsRun}

pub same_patterns_run : SamePatternsRun
same_patterns_run = record {
  same = λ s t run h. record {
    to = λ r. runs_linear (runs_same (linear_run s run r) h);
    from = λ r. runs_linear (runs_same (linear_run t run r) (back h));
  };
}
