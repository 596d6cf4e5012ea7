-- A verdict by one account of runs and of the budget is one by any other account that is the same.
use Rattle.std.specs.Prelude.{ℕ, List, [], ◌∷◌, ◌++◌}
use Rattle.msc_base.specs.declared.label.Label.{Label}
use Rattle.msc_base.specs.declared.verdict.Verdict.{Verdict}
use Rattle.msc_base.specs.declared.verdict.Verdict.TheVariants.{Conforms, Fails, Early, TooLarge}
use Rattle.line_events.specs.declared.event.LineEvent.{LineEvent}
use Rattle.chart_term.specs.TermPatterns.{Both}
use Rattle.trace_judge.specs.Logs.{labels_of}
use Rattle.trace_judge.specs.VerdictsBy.{EndsAt, StaysOpen, Tells, IsVerdict}

-- what a verdict says of the runs
pub told : (W A R B : List Label → Type 0) (events : List LineEvent) (verdict : Verdict) → IsVerdict W A R B events verdict → Tells R B events verdict
told W A R B events (Conforms n) h = h.2
told W A R B events (Fails n k) h = h.ends
told W A R B events (Early n) h = h.2
told W A R B events (TooLarge n) h = tt

module _ (R B S C : List Label → Type 0) (run : (l : List Label) → Both (R l) (S l)) (begin : (l : List Label) → Both (B l) (C l)) (events : List LineEvent) where
  end_moves : (n k : ℕ) (h : EndsAt R B events n k) → EndsAt S C events n k
  end_moves n k h = record {
    prefix = h.prefix;
    at = h.at;
    back = h.back;
    are = h.are;
    number_is = h.number_is;
    line_is = h.line_is;
    begins = (begin (labels_of h.prefix)).to h.begins;
    hopeless = λ c. h.hopeless ((begin (labels_of (h.prefix ++ h.at ∷ []))).from c);
  }

  open_moves : StaysOpen R B events → StaysOpen S C events
  open_moves h = record { begins = (begin (labels_of events)).to h.begins; unfinished = λ s. h.unfinished ((run (labels_of events)).from s) }

  pub tells_move : (verdict : Verdict) → Tells R B events verdict → Tells S C events verdict
  tells_move (Conforms n) h = (run (labels_of events)).to h
  tells_move (Fails n k) h = end_moves n k h
  tells_move (Early n) h = open_moves h
  tells_move (TooLarge n) h = tt

  module _ (W A V P : List Label → Type 0) (within : (l : List Label) → W l → V l) (above : (l : List Label) → A l → P l) where
    pub verdict_moves : (verdict : Verdict) → IsVerdict W A R B events verdict → IsVerdict V P S C events verdict
    unfolding end_moves
    verdict_moves (Conforms n) h = (h.0, λ prefix back e. within (labels_of prefix) (h.1 prefix back e), (run (labels_of events)).to h.2)
    verdict_moves (Fails n k) h = record { ends = end_moves n k h.ends; within = λ prefix back e. within (labels_of prefix) (h.within prefix back e) }
    verdict_moves (Early n) h = (h.0, λ prefix back e. within (labels_of prefix) (h.1 prefix back e), open_moves h.2)
    verdict_moves (TooLarge n) h = record {
      prefix = h.prefix;
      back = h.back;
      are = h.are;
      number_is = h.number_is;
      within = λ f at b e. within (labels_of f) (h.within f at b e);
      above = above (labels_of h.prefix) h.above;
    }
