-- What a numbered log holds and answers.
use Rattle.std.specs.Prelude.{ℕ, ◌≡◌, ◌++◌, ◌∷◌, false, List, [], Option, Some, None, length, refl}
use Rattle.std.proofs.Common.{ap, ap₂, sym, subst, ◌∙◌}
use Rattle.msc_base.specs.declared.label.Label.{Label}
use Rattle.label_table.specs.Labels.{label_number}
use Rattle.event_log.specs.Logs.{log_rules}
use Rattle.event_log.specs.declared.event.LogForm.{LogForm}
use Rattle.line_events.specs.declared.event.LineEvent.{LineEvent}
use Rattle.log_judge.specs.Judged.{IsJudgeFault}
use Rattle.log_judge.specs.RuledTaking as ruled
use Rattle.log_judge.specs.declared.fault.JudgeFault.{JudgeFault}
use Rattle.log_judge.proofs.Faults.{behind_on, behind_whole}
use Rattle.numbered_log.specs.Numbers.{number_in, number_or, numbers_in}
use Rattle.numbered_log.specs.States.{AreOf, Fed, IsGoing, NumberedValue, Stands}

-- one event more
pub numbered : (table : List Label) (events : List LineEvent) (numbers news : List ℕ) (e : LineEvent) (number : Option ℕ) (none : ℕ) → number ≡ label_number table e.label → none ≡ length table
    → news ≡ numbers ++ number_or number none ∷ [] → AreOf table events numbers → AreOf table (events ++ e ∷ []) news
numbered table events numbers news e number none is past new are =
    new ∙ (ap₂ (λ l n. l ++ n ∷ []) are (ap₂ number_or is past) ∙ sym (map_snoc events))
  where
    map_snoc : (es : List LineEvent) → numbers_in table (es ++ e ∷ []) ≡ numbers_in table es ++ number_in table e.label ∷ []
    map_snoc [] = refl
    map_snoc (d ∷ es) = ap (λ l. number_in table d.label ∷ l) (map_snoc es)

module _ (table : List Label) (form : LogForm) (b : List ℕ) (log : NumberedValue) where
  pub fault_at : (f : JudgeFault) → log.fault ≡ Some f → Fed table form b log → ruled.IsBehind log_rules f form b log.reader
  fault_at f e h = subst (λ (o : Option JudgeFault). Stands o table form b log) e h

  pub going_at : log.fault ≡ None → Fed table form b log → IsGoing table form b log
  going_at e h = subst (λ (o : Option JudgeFault). Stands o table form b log) e h

  pub fed_on : (p : List ℕ) (f : JudgeFault) → log.fault ≡ Some f → Fed table form b log → Fed table form (b ++ p) log
  fed_on p f e h = subst (λ (o : Option JudgeFault). Stands o table form (b ++ p) log) (sym e) (behind_on log_rules f form b p log.reader (fault_at f e h))

  pub whole_fault : (f : JudgeFault) → log.fault ≡ Some f → Fed table form b log → IsJudgeFault form false b f
  whole_fault f e h = behind_whole log_rules f form b log.reader (fault_at f e h)
