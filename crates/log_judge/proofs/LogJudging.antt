-- What a judge answers.
use Rattle.std.specs.Prelude.{ℕ, ◌≡◌, true, false, List, ◌++◌, Option, Some, None}
use Rattle.std.proofs.Common.{sym, subst}
use Rattle.msc_base.specs.declared.verdict.Verdict.{Verdict}
use Rattle.term_tables.specs.NetValues.{NetsValue}
use Rattle.chart_term.specs.Terms.{Tree}
use Rattle.event_log.specs.Logs.{log_rules}
use Rattle.event_log.specs.declared.event.LogForm.{LogForm}
use Rattle.line_events.specs.declared.event.LineEvent.{LineEvent}
use Rattle.trace_judge.specs.Sets.{SetValue}
use Rattle.trace_judge.specs.Tracks.{TrackValue}
use Rattle.trace_judge.specs.Tracks as track
use Rattle.trace_judge.specs.Verdicts.{IsTermVerdict, TellsRuns, IsLargest}
use Rattle.log_judge.specs.Judged.{IsJudged, IsJudgeFault, IsLargestOf}
use Rattle.log_judge.specs.States.{JudgeValue, HasStopped, IsGoing, Stands, Fed}
use Rattle.log_judge.specs.Taking.{IsFollowing, TakesAll, TakesLog}
use Rattle.log_judge.proofs.Faults.{behind_on, behind_whole}
use Rattle.log_judge.proofs.Takings.{log_is, takes_decided}
use Rattle.log_judge.specs.declared.fault.JudgeFault.{JudgeFault}

-- the parts of a judge

module _ {S : Type 0} (holds : S → SetValue) (v : NetsValue) (x : Tree) (form : LogForm) (budget : ℕ) where
  pub fault_at : (b : List ℕ) (j : JudgeValue S) (f : JudgeFault) → j.fault ≡ Some f → Fed holds v x form budget b j → HasStopped holds f v x form budget b j
  fault_at b j f e h = subst (λ (o : Option JudgeFault). Stands holds o v x form budget b j) e h

  pub going_at : (b : List ℕ) (j : JudgeValue S) → j.fault ≡ None → Fed holds v x form budget b j → IsGoing holds v x form budget b j
  going_at b j e h = subst (λ (o : Option JudgeFault). Stands holds o v x form budget b j) e h

  pub fed_on : (b p : List ℕ) (j : JudgeValue S) (f : JudgeFault) → j.fault ≡ Some f → Fed holds v x form budget b j → Fed holds v x form budget (b ++ p) j
  fed_on b p j f e h =
      let s = fault_at b j f e h in
      subst (λ (o : Option JudgeFault). Stands holds o v x form budget (b ++ p) j) (sym e) (record { nets_are = s.nets_are; follows = s.follows; behind = behind_on log_rules f form b p j.reader s.behind })

  pub takes_at : (b : List ℕ) (j : JudgeValue S) → j.fault ≡ None → Fed holds v x form budget b j → TakesAll holds j.nets x form budget true b j.reader j.track
  takes_at b j e h = let g = going_at b j e h in subst (λ (w : NetsValue). TakesAll holds w x form budget true b j.reader j.track) (sym g.nets_are) g.takes

  -- a judge without a fault has followed its track
  pub follows_at : (b : List ℕ) (j : JudgeValue S) → j.fault ≡ None → Fed holds v x form budget b j → IsFollowing holds j.nets x budget j.track
  follows_at b j e h = let t = takes_at b j e h in record { events = t.events; taken = t.has.taken }

  pub largest_is : (b : List ℕ) (j : JudgeValue S) (n : ℕ) → ((w : NetsValue) (y : Tree) (m : ℕ) (events : List LineEvent) → track.Fed holds w y m events j.track → IsLargest w y m events n) → j.fault ≡ None → Fed holds v x form budget b j → IsLargestOf v x form budget b n
  largest_is b j n f e h =
      let g = going_at b j e h in
      let log = takes_decided log_rules (track.Fed holds v x budget) form b j.reader j.track g.goes_on g.takes in
      record {
        log = log;
        largest = subst (λ (es : List LineEvent). IsLargest v x budget es n) (sym (log_is log_rules form true b g.takes.events log g.takes.has.first g.takes.all)) (f v x budget g.takes.events g.takes.has.taken);
      }

  pub judged_is : (b : List ℕ) (w : NetsValue) (t : TrackValue S) (verdict : Verdict) → ((y : Tree) (m : ℕ) (events : List LineEvent) → track.Fed holds w y m events t → IsTermVerdict w y m events verdict)
      → ((y : Tree) (m : ℕ) (events : List LineEvent) → track.Fed holds w y m events t → TellsRuns w y events verdict) → TakesLog holds w x form budget b t → w ≡ v → IsJudged v x form budget b verdict
  judged_is b w t verdict f g h e = subst (λ (u : NetsValue). IsJudged u x form budget b verdict) e (record { log = h.log; verdict_is = f x budget h.log.events h.taken; runs = g x budget h.log.events h.taken })

  pub whole_fault : (b : List ℕ) (j : JudgeValue S) (f : JudgeFault) → j.fault ≡ Some f → Fed holds v x form budget b j → IsJudgeFault form false b f
  whole_fault b j f e h = behind_whole log_rules f form b j.reader (fault_at b j f e h).behind
