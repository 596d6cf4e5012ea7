-- The laws of terms: what permission and taking leave, and where a term may end.
use Rattle.std.specs.Prelude.{ℕ, Bool, true, false, List, ◌≡◌, None, Some}
use Rattle.chart_term.specs.Tables.{Tables, terms_over}
use Rattle.chart_term.specs.TermMeanings.{HasPattern, Leaves, Taking, ◌⊑◌}
use Rattle.chart_term.specs.TermPatterns.{Shape, Takes, HasNoEvent, Both, ◌≈◌, Avoids}
use Rattle.chart_term.specs.Terms.{TermEvent, Block, Tree, has}
use Rattle.term_laws.specs.Permission.{permit, permits_of}
use Rattle.term_laws.specs.Soundness.{AreTidyTables, IsTidyOver, IsFitting, NetLacks}
use Rattle.term_laws.specs.Taking.{IsAfter, MayEnd}
use Rattle.chart_term.specs.TermRuns.{Runs, IsLinearRun}
use Rattle.term_laws.specs.Sound.{IsSound, AreSoundTables}
use Rattle.term_laws.specs.Normality.{IsNormalOver}
use Rattle.term_laws.specs.Residuals.{HasResidual, BeginsRun, MayEndAfter, IsFinishedRun}

-- the block fits the term: none of its event numbers is in a loop operand or a net of it
abbrev pub Fits : Tables → Block → Tree → Type 0
Fits w b x = (j : ℕ) → has b.numbers j ≡ true → IsFitting (NetLacks w) j x

-- a term is left after the event, and what is left of the pattern is one of its patterns
pub record LeavesPattern (o : Bool) (w : Tables) (x : Tree) (e : TermEvent) (t : Shape) : Type 0 where
  pub term : Tree
  pub after : IsAfter (permits_of w) x e term
  pub pattern : Shape
  pub has : HasPattern (terms_over w) o term pattern
  pub same : t ≈ pattern

-- what permission leaves of a term are exactly its patterns that avoid the block
pub record PermitIsExact : Type 0 where
  pub leaves : (o : Bool) (w : Tables) (x : Tree) (b : Block) → AreTidyTables w → IsTidyOver w x → Fits w b x
      → Leaves (terms_over w) o b x (permit (permits_of w) b x)

-- the patterns of the terms that are left after an event are exactly those from which the event was taken
pub record AfterIsExact : Type 0 where
  pub sound : (o : Bool) (w : Tables) (x y : Tree) (e : TermEvent) → AreTidyTables w → IsTidyOver w x → IsAfter (permits_of w) x e y
      → HasPattern (terms_over w) o y ⊑ Taking e (HasPattern (terms_over w) o x)
  pub whole : (o : Bool) (w : Tables) (x : Tree) (s : Shape) (e : TermEvent) (t : Shape) → AreTidyTables w → IsTidyOver w x
      → HasPattern (terms_over w) o x s → Takes s e t → LeavesPattern o w x e t

-- the term has a finished pattern without events
pub record IsOver (w : Tables) (x : Tree) : Type 0 where
  pub pattern : Shape
  pub has : HasPattern (terms_over w) false x pattern
  pub empty : HasNoEvent pattern

-- a term may end exactly where it has the empty pattern, finished
pub record MayEndIsExact : Type 0 where
  pub exact : (w : Tables) (x : Tree) → AreTidyTables w → IsTidyOver w x → Both (MayEnd (terms_over w) x) (IsOver w x)

-- the two readings of a pattern are one: the runs by taking out one minimal event after another are exactly the labels of
-- the linear orders of all positions
pub record RunsAreLinearOrders : Type 0 where
  pub exact : (s : Shape) (run : List ℕ) → Both (Runs s run) (IsLinearRun s run)

-- permission fails exactly where the term has no pattern that avoids the block
pub record PermitFailsExactly : Type 0 where
  pub fails : (w : Tables) (x : Tree) (b : Block) → IsSound w x → Fits w b x
      → Both (permit (permits_of w) b x ≡ None) ((s : Shape) → HasPattern (terms_over w) true x s → Avoids b s → ⊥)

-- permission, by a block that fits, and taking make sound terms of sound terms
pub record SoundnessIsKept : Type 0 where
  pub permit_keeps : (w : Tables) (x y : Tree) (b : Block) → IsSound w x → Fits w b x → permit (permits_of w) b x ≡ Some y → IsSound w y
  pub after_keeps : (w : Tables) (x y : Tree) (e : TermEvent) → IsSound w x → IsAfter (permits_of w) x e y → IsSound w y

-- permission, by any block, and taking make terms in normal form of terms in normal form
pub record NormalFormIsKept : Type 0 where
  pub permit_keeps : (w : Tables) (x y : Tree) (b : Block) → IsNormalOver w x → permit (permits_of w) b x ≡ Some y → IsNormalOver w y
  pub after_keeps : (w : Tables) (x y : Tree) (e : TermEvent) → AreSoundTables w → IsNormalOver w x → IsAfter (permits_of w) x e y → IsNormalOver w y

-- a pattern of the term
pub record HasSome (w : Tables) (x : Tree) : Type 0 where
  pub pattern : Shape
  pub has : HasPattern (terms_over w) true x pattern

-- each sound term has a pattern
pub record SoundHasPattern : Type 0 where
  pub some : (w : Tables) (x : Tree) → IsSound w x → HasSome w x

-- a term is left after the labels exactly where a run of one of its patterns begins with them; one that may end is left
-- exactly where they are a run of one of its finished patterns
pub record ResidualsAreExact : Type 0 where
  pub begins : (w : Tables) (x : Tree) (labels : List ℕ) → IsSound w x → Both (HasResidual w x labels) (BeginsRun w x labels)
  pub ends : (w : Tables) (x : Tree) (labels : List ℕ) → IsSound w x → Both (MayEndAfter w x labels) (IsFinishedRun w x labels)
