-- From a term that means a set of unfoldings to their runs, to sets of residual terms, and to verdicts.
use Rattle.std.specs.Prelude.{ℕ, true, false, List, [], ◌++◌, ◌≡◌}
use Rattle.std.proofs.Common.{subst}
use Rattle.msc_base.specs.declared.label.Label.{Label}
use Rattle.msc_base.specs.declared.verdict.Verdict.{Verdict}
use Rattle.msc_base.specs.Orders.{Once}
use Rattle.msc_unfolding.specs.Runs.{IsRunOf, BeginsRunOf}
use Rattle.msc_unfolding.specs.Unfoldings.{Unfolding}
use Rattle.line_events.specs.declared.event.LineEvent.{LineEvent}
use Rattle.term_tables.specs.NetValues.{NetsValue}
use Rattle.chart_term.specs.TermPatterns.{Both}
use Rattle.chart_term.specs.TermRuns.{IsLinearRun}
use Rattle.chart_term.specs.Terms.{Tree}
use Rattle.trace_judge.specs.Logs.{AreResiduals, BeginsTermRun, IsTermRun}
use Rattle.trace_judge.specs.Sets.{IsSoundFor, HasEnding}
use Rattle.trace_judge.specs.Verdicts.{IsTermVerdict}
use Rattle.trace_judge.specs.VerdictsBy.{Tells}
use Rattle.trace_judge.proofs.VerdictMoves.{tells_move}
use Rattle.trace_judge.specs.Laws.{SetsTellRuns, VerdictsTellRuns}
use Rattle.term_meaning.specs.Meanings.{MeansUnfoldings}
use Rattle.verdict_meaning.proofs.Labelled.{run_there, run_here, begun_there, numbers_split}

module _ (v : NetsValue) (names : List (List ℕ)) (x : Tree) (once : Once v.labels) where
  -- the finished runs of the term are the runs of the finished unfoldings
  pub runs : (finished : Unfolding → Type 0) → MeansUnfoldings v names false x finished → (labels : List Label) → Both (IsTermRun v x labels) (IsRunOf finished labels)
  runs finished m labels = record {
    to = λ r. let p = m.each r.run.pattern r.run.has in
        record { of = p.of; is = p.is; run = run_there v.labels names r.run.pattern p.of p.stands labels (record { numbers = r.numbers; are = r.are; run = r.run.run }) };
    from = λ r. let p = m.all r.of r.is in
        let q = run_here v.labels names p.pattern r.of p.stands once labels r.run in
        record { numbers = q.numbers; are = q.are; run = record { pattern = p.pattern; has = p.is; run = q.run } };
  }

  -- a run of the term begins with the labels exactly where a run of the unfoldings does
  pub begins : (unfolds : Unfolding → Type 0) → MeansUnfoldings v names true x unfolds → (labels : List Label) → Both (BeginsTermRun v x labels) (BeginsRunOf unfolds labels)
  begins unfolds m labels = record {
    to = λ r. let p = m.each r.begins.pattern r.begins.has in
        let (more, q) = begun_there v.labels names r.begins.pattern p.of p.stands labels r.numbers r.begins.rest r.are r.begins.run in
        record { rest = more; runs = record { of = p.of; is = p.is; run = q } };
    from = λ r. let p = m.all r.runs.of r.runs.is in
        let q = run_here v.labels names p.pattern r.runs.of p.stands once (labels ++ r.rest) r.runs.run in
        let (prefix, back, a, e) = numbers_split v.labels labels r.rest q.numbers q.are in
        record { numbers = prefix; are = a; begins = record { pattern = p.pattern; has = p.is; rest = back; run = subst (IsLinearRun p.pattern) e q.run } };
  }

  -- after the labels of a log the set of residual terms is empty exactly where no run of the unfoldings begins so
  pub empty_set : SetsTellRuns → (unfolds : Unfolding → Type 0) → MeansUnfoldings v names true x unfolds → IsSoundFor v x → (labels : List Label) (set : List Tree) → AreResiduals v x labels set
      → Both (set ≡ []) (BeginsRunOf unfolds labels → ⊥)
  empty_set law unfolds m sound labels set r = let t = law.empty v x labels set sound r in let b = begins unfolds m labels in record {
    to = λ e h. t.to e (b.from h);
    from = λ f. t.from (λ h. f (b.to h));
  }

  -- and one of its terms may end exactly where the log is a run of a finished unfolding
  pub ending_set : SetsTellRuns → (finished : Unfolding → Type 0) → MeansUnfoldings v names false x finished → IsSoundFor v x → (labels : List Label) (set : List Tree) → AreResiduals v x labels set
      → Both (HasEnding v set) (IsRunOf finished labels)
  ending_set law finished m sound labels set r = let t = law.ends v x labels set sound r in let b = runs finished m labels in record {
    to = λ e. b.to (t.to e);
    from = λ h. t.from (b.from h);
  }

  -- the verdict by residual terms tells the runs of the unfoldings
  pub verdict_tells : VerdictsTellRuns → (finished unfolds : Unfolding → Type 0) → MeansUnfoldings v names false x finished → MeansUnfoldings v names true x unfolds → IsSoundFor v x
      → (budget : ℕ) (events : List LineEvent) (verdict : Verdict) → IsTermVerdict v x budget events verdict → Tells (IsRunOf finished) (BeginsRunOf unfolds) events verdict
  verdict_tells law finished unfolds m n sound budget events verdict h =
      tells_move (IsTermRun v x) (BeginsTermRun v x) (IsRunOf finished) (BeginsRunOf unfolds) (runs finished m) (begins unfolds n) events verdict (law.runs v x budget events verdict sound h)
