-- The parts of a judge of sessions.
use Rattle.std.specs.Prelude.{ℕ, ◌≡◌, true, false, List, ◌++◌, Option, Some, None}
use Rattle.std.proofs.Common.{sym, subst, ◌∙◌, Result, Ok, Err, IfSome}
use Rattle.term_tables.specs.NetValues.{NetsValue}
use Rattle.chart_term.specs.Terms.{Tree}
use Rattle.event_log.specs.declared.event.LogForm.{LogForm}
use Rattle.session_log.specs.Sessions.{session_rules}
use Rattle.session_log.specs.declared.keyed.KeyedEvent.{KeyedEvent}
use Rattle.trace_judge.specs.Sets.{SetValue}
use Rattle.log_judge.specs.RuledFaults.{IsJudgeFault}
use Rattle.log_judge.specs.declared.fault.JudgeFault.{JudgeFault}
use Rattle.log_judge.proofs.Faults.{behind_on, behind_whole}
use Rattle.session_judge.specs.SessionVerdicts.{AreJudged, AreVerdicts}
use Rattle.session_judge.specs.SessionEvents.{keys_of}
use Rattle.session_judge.specs.States.{SessionsValue, AreMade, HasStopped, IsGoing, Stands, Fed, TakesLog}
use Rattle.session_judge.specs.Tracks.{TracksValue, StaysMade, HaveTaken}
use Rattle.session_judge.specs.declared.verdict.SessionVerdict.{SessionVerdict}

-- what the sessions are judged by stays
pub made_on : {S : Type 0} (v : NetsValue) (x : Tree) (budget : ℕ) (t u : TracksValue S) → StaysMade t u → AreMade v x budget t → AreMade v x budget u
made_on v x budget t u stays made = record { nets_are = stays.nets ∙ made.nets_are; term_is = stays.term ∙ made.term_is; budget_is = stays.budget ∙ made.budget_is }

pub stays_made : {S : Type 0} (t u w : TracksValue S) → StaysMade t u → StaysMade u w → StaysMade t w
stays_made t u w one two = record { nets = two.nets ∙ one.nets; term = two.term ∙ one.term; budget = two.budget ∙ one.budget }

-- an answer without a fault is given only where there was none
pub not_again : {T U : Type 0} (fault : Option JudgeFault) (r : Result T JudgeFault) (t : T) (answer : Result U JudgeFault) → r ≡ Ok t → IfSome fault (λ f. r ≡ Err f) → IfSome fault (λ f. answer ≡ Err f)
not_again None r t answer ok h = tt
not_again (Some f) r t answer ok h = let both : Ok t ≡ Err f = sym ok ∙ h in absurd (cc)

module _ {S : Type 0} (holds : S → SetValue) (v : NetsValue) (x : Tree) (form : LogForm) (budget : ℕ) where
  pub fault_at : (b : List ℕ) (j : SessionsValue S) (f : JudgeFault) → j.fault ≡ Some f → Fed holds v x form budget b j → HasStopped holds f v x form budget b j
  fault_at b j f e h = subst (λ (o : Option JudgeFault). Stands holds o v x form budget b j) e h

  pub going_at : (b : List ℕ) (j : SessionsValue S) → j.fault ≡ None → Fed holds v x form budget b j → IsGoing holds v x form budget b j
  going_at b j e h = subst (λ (o : Option JudgeFault). Stands holds o v x form budget b j) e h

  pub going_fed : (b : List ℕ) (j : SessionsValue S) → j.fault ≡ None → IsGoing holds v x form budget b j → Fed holds v x form budget b j
  going_fed b j e h = subst (λ (o : Option JudgeFault). Stands holds o v x form budget b j) (sym e) h

  pub fed_on : (b p : List ℕ) (j : SessionsValue S) (f : JudgeFault) → j.fault ≡ Some f → Fed holds v x form budget b j → Fed holds v x form budget (b ++ p) j
  fed_on b p j f e h =
      let s = fault_at b j f e h in
      subst (λ (o : Option JudgeFault). Stands holds o v x form budget (b ++ p) j) (sym e) (record { made = s.made; behind = behind_on session_rules f form b p j.reader s.behind })

  pub whole_fault : (b : List ℕ) (j : SessionsValue S) (f : JudgeFault) → j.fault ≡ Some f → Fed holds v x form budget b j → IsJudgeFault session_rules form false b f
  whole_fault b j f e h = behind_whole session_rules f form b j.reader (fault_at b j f e h).behind

  -- where the tracks have taken the log, their verdicts are those on it
  pub judged_are : (b : List ℕ) (t : TracksValue S) (answers : List SessionVerdict) → ((events : List KeyedEvent) → HaveTaken holds events t → AreVerdicts t.nets t.term t.budget events answers) → AreMade v x budget t → TakesLog holds form b t
      → AreJudged v x form budget b answers
  judged_are b t answers tells made h = record {
    log = h.log;
    verdicts = subst (λ (w : NetsValue). AreVerdicts w x budget h.log.events answers) made.nets_are
        (subst (λ (y : Tree). AreVerdicts t.nets y budget h.log.events answers) made.term_is (subst (λ (n : ℕ). AreVerdicts t.nets t.term n h.log.events answers) made.budget_is (tells h.log.events h.taken)));
  }
