-- What a list of events is, by what is a run, what begins one, and what is within the budget: too large at an event, else a failure at
-- an event, else a run, else a list that stops early.
use Rattle.std.specs.Prelude.{ℕ, ◌≡◌, ◌+◌, List, [], ◌∷◌, ◌++◌, length}
use Rattle.msc_base.specs.declared.label.Label.{Label}
use Rattle.msc_base.specs.declared.verdict.Verdict.{Verdict}
use Rattle.msc_base.specs.declared.verdict.Verdict.TheVariants.{Conforms, Fails, Early, TooLarge}
use Rattle.line_events.specs.declared.event.LineEvent.{LineEvent}
use Rattle.trace_judge.specs.Logs.{labels_of}

-- ---- by the runs alone

module _ (IsRun Begins : List Label → Type 0) where
  -- the first event after which no run begins so
  pub record EndsAt (events : List LineEvent) (number line : ℕ) : Type 0 where
    pub prefix : List LineEvent
    pub at : LineEvent
    pub back : List LineEvent
    pub are : events ≡ prefix ++ at ∷ back
    pub number_is : number ≡ length prefix + 1
    pub line_is : line ≡ at.line
    pub begins : Begins (labels_of prefix)
    pub hopeless : Begins (labels_of (prefix ++ at ∷ [])) → ⊥

  -- the events begin a run, and are none
  pub record StaysOpen (events : List LineEvent) : Type 0 where
    pub begins : Begins (labels_of events)
    pub unfinished : IsRun (labels_of events) → ⊥

  -- what the verdict says of the runs; one of the budget says nothing of them
  abbrev pub Tells : List LineEvent → Verdict → Type 0
  Tells events (Conforms count) = IsRun (labels_of events)
  Tells events (Fails number line) = EndsAt events number line
  Tells events (Early count) = StaysOpen events
  Tells events (TooLarge number) = Unit {0}

-- ---- by the budget too

module _ (IsWithin IsAbove IsRun Begins : List Label → Type 0) where
  -- what is left after each prefix of the events is within the budget
  abbrev pub StaysWithin : List LineEvent → Type 0
  StaysWithin events = (prefix back : List LineEvent) → events ≡ prefix ++ back → IsWithin (labels_of prefix)

  -- the first event after which no run begins so; before it the budget isn't passed, and behind it nothing is left, which weighs nothing
  pub record FailsAt (events : List LineEvent) (number line : ℕ) : Type 0 where
    pub ends : EndsAt IsRun Begins events number line
    pub within : StaysWithin ends.prefix

  -- the first event after which what is left passes the budget; 0 stands for the moment before the first
  pub record PassesAt (events : List LineEvent) (number : ℕ) : Type 0 where
    pub prefix : List LineEvent
    pub back : List LineEvent
    pub are : events ≡ prefix ++ back
    pub number_is : number ≡ length prefix
    pub within : (f : List LineEvent) (at : LineEvent) (b : List LineEvent) → prefix ≡ f ++ at ∷ b → IsWithin (labels_of f)
    pub above : IsAbove (labels_of prefix)

  -- the verdict on these events
  abbrev pub IsVerdict : List LineEvent → Verdict → Type 0
  IsVerdict events (Conforms count) = (count ≡ length events) × StaysWithin events × IsRun (labels_of events)
  IsVerdict events (Fails number line) = FailsAt events number line
  IsVerdict events (Early count) = (count ≡ length events) × StaysWithin events × StaysOpen IsRun Begins events
  IsVerdict events (TooLarge number) = PassesAt events number
