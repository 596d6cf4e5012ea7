-- Serves private contracts alone.
-- What becomes of a set, and of a track, at an event.
use Rattle.std.specs.Prelude.{ℕ, ◌+◌, ◌≡◌, Option, Some, None, max, []}
use Rattle.msc_base.specs.declared.label.Label.{Label}
use Rattle.msc_base.specs.declared.verdict.Verdict.{Verdict}
use Rattle.msc_base.specs.declared.verdict.Verdict.TheVariants.{Conforms, Fails, Early, TooLarge}
use Rattle.term_tables.specs.NetValues.{NetsValue}
use Rattle.term_laws.specs.Listing.{set_weight}
use Rattle.trace_judge.specs.Sets.{SetValue, IsNextSet, IsTooLarge, HasEnding}
use Rattle.trace_judge.specs.Steps.{ForLabels}
use Rattle.trace_judge.specs.Tracks.{TrackValue}
use Rattle.trace_judge.specs.declared.advance.Outcome.{Outcome}
use Rattle.trace_judge.specs.declared.advance.Outcome.TheVariants.{Goes, Empties, Passes}

-- what is left in a set that didn't pass its budget
abbrev pub LeavesOver : SetValue → Outcome → Type 0
LeavesOver s (Goes n) = (s.terms ≡ [] → ⊥) × (n ≡ set_weight s.terms)
LeavesOver s Empties = s.terms ≡ []
LeavesOver s Passes = ⊥

-- the set before and after an event
abbrev pub Advances : NetsValue → Label → SetValue → SetValue → Outcome → Type 0
Advances v a old new (Goes n) = IsNextSet v a old new × LeavesOver new (Goes n)
Advances v a old new Empties = IsNextSet v a old new × LeavesOver new Empties
Advances v a old new Passes = IsTooLarge v a old new

-- the verdict that is settled by it, at the event of this number and line
abbrev pub settled : Outcome → ℕ → ℕ → Option Verdict
settled (Goes n) number line = None
settled Empties number line = Some (Fails number line)
settled Passes number line = Some (TooLarge number)

-- the largest weight so far
abbrev pub risen : Outcome → ℕ → ℕ
risen (Goes n) largest = max largest n
risen Empties largest = largest
risen Passes largest = largest

module _ {S : Type 0} (holds : S → SetValue) where
  -- the track before and after its set took an event, of which it hasn't counted yet
  pub record FollowsSet (v : NetsValue) (number : Option ℕ) (line : ℕ) (s : S) (old new : TrackValue S) : Type 0 where
    pub set : S
    pub outcome : Outcome
    pub is : new.set ≡ Some set
    pub advances : ForLabels v number (λ label. Advances v label (holds s) (holds set) outcome)
    pub ended : new.ended ≡ settled outcome (old.events + 1) line
    pub largest : new.largest ≡ risen outcome old.largest
    pub events : new.events ≡ old.events

  -- a track without a set stays as it is
  abbrev pub Follows : NetsValue → Option ℕ → ℕ → Option S → TrackValue S → TrackValue S → Type 0
  Follows v number line None old new = new ≡ old
  Follows v number line (Some s) old new = FollowsSet v number line s old new

  -- nor does one whose verdict is settled change
  abbrev pub FollowsOpen : NetsValue → Option ℕ → ℕ → Option Verdict → TrackValue S → TrackValue S → Type 0
  FollowsOpen v number line None old new = Follows v number line old.set old new
  FollowsOpen v number line (Some verdict) old new = new ≡ old

-- the verdict of a set, where none is settled, after so many events
abbrev pub IsOpenVerdict : NetsValue → SetValue → ℕ → Verdict → Type 0
IsOpenVerdict v s events (Conforms n) = (n ≡ events) × HasEnding v s.terms
IsOpenVerdict v s events (Fails number line) = ⊥
IsOpenVerdict v s events (Early n) = (n ≡ events) × (HasEnding v s.terms → ⊥)
IsOpenVerdict v s events (TooLarge number) = ⊥
