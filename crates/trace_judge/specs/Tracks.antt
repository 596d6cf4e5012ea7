-- What a track has taken.
use Rattle.std.specs.Prelude.{ℕ, ◌≡◌, ◌<◌, false, List, [], length, Option, Some, None}
use Rattle.msc_base.specs.declared.verdict.Verdict.{Verdict}
use Rattle.msc_base.specs.declared.verdict.Verdict.TheVariants.{Conforms, Fails, Early, TooLarge}
use Rattle.line_events.specs.declared.event.LineEvent.{LineEvent}
use Rattle.term_tables.specs.NetValues.{NetsValue}
use Rattle.chart_term.specs.TermPatterns.{Both}
use Rattle.chart_term.specs.Terms.{Tree, weight}
use Rattle.trace_judge.specs.Logs.{labels_of, AreResiduals}
use Rattle.trace_judge.specs.Sets.{SetValue, IsSoundFor}
use Rattle.trace_judge.specs.Verdicts.{AreWithin, FailsAt, PassesAt, IsLargest}

-- a track over a store: the set, where the term was within the budget; how many events were taken; the verdict, once it is settled; the
-- largest weight
pub record TrackValue (S : Type 0) : Type 0 where
  pub set : Option S
  pub events : ℕ
  pub ended : Option Verdict
  pub largest : ℕ

-- nothing is settled: the set has what is left after the events, and that is something
pub record IsGoing (v : NetsValue) (x : Tree) (budget : ℕ) (events : List LineEvent) (s : SetValue) : Type 0 where
  pub small : s.too_large ≡ false
  pub budget_is : s.budget ≡ budget
  pub are : AreResiduals v x (labels_of events) s.terms
  pub some : s.terms ≡ [] → ⊥
  pub within : AreWithin v x budget events

-- the verdict is settled within the events, whatever follows
abbrev pub IsSettled : NetsValue → Tree → ℕ → List LineEvent → Verdict → Type 0
IsSettled v x budget events (Conforms count) = ⊥
IsSettled v x budget events (Fails number line) = FailsAt v x budget events number line
IsSettled v x budget events (Early count) = ⊥
IsSettled v x budget events (TooLarge number) = PassesAt v x budget events number

module _ {S : Type 0} where
  -- the store, if there is one, has the property
  abbrev pub IfThere : (S → Type 0) → Option S → Type 0
  IfThere P None = Unit {0}
  IfThere P (Some s) = P s

  -- the track's store, if there is one, has the property
  abbrev pub IfHeld : (S → Type 0) → TrackValue S → Type 0
  IfHeld P t = IfThere P t.set

  module _ (holds : S → SetValue) where
    -- as it stands before and after a verdict is settled
    abbrev pub Stands : NetsValue → Tree → ℕ → List LineEvent → Option S → Option Verdict → Type 0
    Stands v x budget events None None = ⊥
    Stands v x budget events (Some s) None = IsGoing v x budget events (holds s)
    Stands v x budget events set (Some verdict) = IsSettled v x budget events verdict

    -- the track was made for these tables, this term and this budget, and has taken these events
    pub record Fed (v : NetsValue) (x : Tree) (budget : ℕ) (events : List LineEvent) (t : TrackValue S) : Type 0 where
      pub sound : IsSoundFor v x
      pub count : t.events ≡ length events
      pub stands : Stands v x budget events t.set t.ended
      pub without : Both (t.set ≡ None) (budget < weight x)
      pub largest : IsLargest v x budget events t.largest

    -- both stores hold the same set
    abbrev pub AreSame : Option S → Option S → Type 0
    AreSame None None = Unit {0}
    AreSame None (Some t) = ⊥
    AreSame (Some s) None = ⊥
    AreSame (Some s) (Some t) = holds t ≡ holds s

    -- the same, but for what contracts don't see of the stores
    pub record IsSame (old new : TrackValue S) : Type 0 where
      pub set : AreSame old.set new.set
      pub events : new.events ≡ old.events
      pub ended : new.ended ≡ old.ended
      pub largest : new.largest ≡ old.largest
