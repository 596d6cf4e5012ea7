-- The parts of soundness in full, and what the laws ask.
use Rattle.std.specs.Prelude.{ℕ, ◌<◌, List, Option}
use Rattle.hmsc_graph.specs.Graphs.{Spot, Goal}
use Rattle.chart_term.specs.Tables.{Tables}
use Rattle.chart_term.specs.TermMeanings.{UpTo}
use Rattle.chart_term.specs.TermPatterns.{InPairs}
use Rattle.chart_term.specs.Terms.{Tree, Nil, Event, Join, Choice, Tied, Loop, Walk, Trees, none, more, Row, ends, gap, turn, Part, parts}
use Rattle.term_laws.specs.FullSoundness.{EveryPartOf, EveryRowPart, EveryLoop, EveryLoopOf, EveryRowLoop, IsSpotOf, IsGoalOf, AreNumbersKnown, AreTiesOutside, DoBlocksFall, AreCountsOrdered, IsSoundOver}
use Rattle.term_laws.specs.Normality.{AreNormalTables}
use Rattle.term_laws.specs.Soundness.{NeverGrows, IsOutside, NetLacks, IsKnown, AreTidy, IsTidyRow, AreTidyTables, IsTidyOver}
use Rattle.term_laws.proofs.Even.{AllEven, RowEven, IsEvenOver}
use Rattle.term_laws.proofs.Selfless.{runs_of, tidy_from}

module _ (labels : ℕ) (w : Tables) where
  abbrev KnownWalk : ℕ → Spot → Goal → Type 0
  KnownWalk n f t = IsKnown w n × IsSpotOf w n f × IsGoalOf w n t

  abbrev Tie : Tree → List (ℕ × ℕ) → Type 0
  Tie y q = (j : ℕ) → InPairs j q → IsOutside (NetLacks w) j y

  mutual
    even_of : (x : Tree) → AreNumbersKnown labels w x → AreTiesOutside w x → DoBlocksFall x → AreCountsOrdered x → IsEvenOver w x
    even_of Nil k o f c = tt
    even_of (Event e) k o f c = tt
    even_of (Join m xs) k o f c = all_even_of xs k o f c
    even_of (Choice xs) k o f c = all_even_of xs k o f c
    even_of (Tied x q) k o f c = (even_of x k.0 o.0 f c, o.1)
    even_of (Loop x lo hi r) k o f c = (even_of x k.0 o.0 f.0 c.0, row_even_of r k.2 o.2 f.2 c.2, c.1, f.1)
    even_of (Walk n f t c) k o i j = k.0

    all_even_of : (xs : Trees) → EveryPartOf (λ e. e.label < labels) (λ y q. Unit {0}) (λ y. Unit {0}) KnownWalk xs → EveryPartOf (λ e. Unit {0}) Tie (λ y. Unit {0}) (λ n f t. Unit {0}) xs
        → EveryLoopOf (λ lo hi ps. NeverGrows ps) xs → EveryLoopOf (λ lo hi ps. UpTo hi lo) xs → AllEven (NetLacks w) (IsKnown w) xs
    all_even_of none k o f c = tt
    all_even_of (more x xs) k o f c = (even_of x k.0 o.0 f.0 c.0, all_even_of xs k.1 o.1 f.1 c.1)

    row_even_of : (r : Row) → EveryRowPart (λ e. e.label < labels) (λ y q. Unit {0}) (λ y. Unit {0}) KnownWalk r → EveryRowPart (λ e. Unit {0}) Tie (λ y. Unit {0}) (λ n f t. Unit {0}) r
        → EveryRowLoop (λ lo hi ps. NeverGrows ps) r → EveryRowLoop (λ lo hi ps. UpTo hi lo) r → RowEven (NetLacks w) (IsKnown w) r
    row_even_of ends k o f c = tt
    row_even_of (gap d r) k o f c = row_even_of r k o f c
    row_even_of (turn x r) k o f c = (even_of x k.0 o.0 f.0 c.0, row_even_of r k.1 o.1 f.1 c.1)

  pub sound_even : (x : Tree) → IsSoundOver labels w x → IsEvenOver w x
  sound_even x i = even_of x i.known i.outside i.falling i.counts

  -- a sound term is tidy
  pub sound_tidy : AreTidyTables w → AreNormalTables w → (x : Tree) → IsSoundOver labels w x → IsTidyOver w x
  sound_tidy h g x i = tidy_from w h g x (sound_even x i) i.normal (runs_of w x i.ordered) i.operands

module _ (w : Tables) where
  mutual
    pub outside_of : (x : Tree) → IsTidyOver w x → AreTiesOutside w x
    outside_of Nil h = tt
    outside_of (Event e) h = tt
    outside_of (Join m xs) h = all_outside xs h
    outside_of (Choice xs) h = all_outside xs h
    outside_of (Tied x q) h = (outside_of x h.0, h.1)
    outside_of (Loop x lo hi r) h = (outside_of x h.0, tt, row_outside r h.1)
    outside_of (Walk n f t c) h = tt

    all_outside : (xs : Trees) → AreTidy (NetLacks w) (IsKnown w) xs → EveryPartOf (λ e. Unit {0}) (λ y q. (j : ℕ) → InPairs j q → IsOutside (NetLacks w) j y) (λ y. Unit {0}) (λ n f t. Unit {0}) xs
    all_outside none h = tt
    all_outside (more x xs) h = (outside_of x h.0, all_outside xs h.1)

    row_outside : (r : Row) → IsTidyRow (NetLacks w) (IsKnown w) r → EveryRowPart (λ e. Unit {0}) (λ y q. (j : ℕ) → InPairs j q → IsOutside (NetLacks w) j y) (λ y. Unit {0}) (λ n f t. Unit {0}) r
    row_outside ends h = tt
    row_outside (gap c r) h = row_outside r h
    row_outside (turn x r) h = (outside_of x h.0, row_outside r h.1)

  module _ (L : ℕ → Option ℕ → List Part → Type 0) (holds : (lo : ℕ) (hi : Option ℕ) (ps : List Part) → UpTo hi lo → NeverGrows ps → L lo hi ps) where
    mutual
      loops_of : (x : Tree) → IsTidyOver w x → EveryLoop L x
      loops_of Nil h = tt
      loops_of (Event e) h = tt
      loops_of (Join m xs) h = all_loops xs h
      loops_of (Choice xs) h = all_loops xs h
      loops_of (Tied x q) h = loops_of x h.0
      loops_of (Loop x lo hi r) h = (loops_of x h.0, holds lo hi (parts r) h.2 h.3, row_loops r h.1)
      loops_of (Walk n f t c) h = tt

      all_loops : (xs : Trees) → AreTidy (NetLacks w) (IsKnown w) xs → EveryLoopOf L xs
      all_loops none h = tt
      all_loops (more x xs) h = (loops_of x h.0, all_loops xs h.1)

      row_loops : (r : Row) → IsTidyRow (NetLacks w) (IsKnown w) r → EveryRowLoop L r
      row_loops ends h = tt
      row_loops (gap c r) h = row_loops r h
      row_loops (turn x r) h = (loops_of x h.0, row_loops r h.1)

  pub falling_of : (x : Tree) → IsTidyOver w x → DoBlocksFall x
  falling_of = loops_of (λ lo hi ps. NeverGrows ps) (λ lo hi ps u n. n)

  pub counts_of : (x : Tree) → IsTidyOver w x → AreCountsOrdered x
  counts_of = loops_of (λ lo hi ps. UpTo hi lo) (λ lo hi ps u n. u)
