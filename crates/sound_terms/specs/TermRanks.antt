-- Ranks of the events of a term, along which each of its patterns has a linear order.
use Rattle.std.specs.Prelude.{ℕ, ◌<◌, List, [], ◌∷◌, ◌≡◌, Option, true}
use Rattle.hmsc_graph.specs.Graphs.{Spot, Goal}
use Rattle.msc_base.specs.Patterns.{Mode, Crosses}
use Rattle.chart_term.specs.TermPatterns.{numbered, pairs}
use Rattle.chart_term.specs.Terms.{TermEvent, Tree, Nil, Event, Join, Choice, Tied, Loop, Walk, Trees, Row, items, Part, Gap, Turn, parts}

-- the row is gaps alone
pub data OnlyGaps : List Part → Type 0 where
  only_none : OnlyGaps []
  only_gap : {c : List ℕ} {ps : List Part} → OnlyGaps ps → OnlyGaps (Gap c ∷ ps)

-- NE n e: e is an event of net n
module _ (NE : ℕ → TermEvent → Type 0) where
  -- the event is one of the term's, of its loop operands, its begun turns and its nets
  mutual
    pub data Holds (e : TermEvent) : Tree → Type 0 where
      inside_event : Holds e (Event e)
      inside_join : {m : Mode} {xs : Trees} → HoldsOne e (items xs) → Holds e (Join m xs)
      inside_choice : {xs : Trees} → HoldsOne e (items xs) → Holds e (Choice xs)
      inside_tie : {x : Tree} {q : List (ℕ × ℕ)} → Holds e x → Holds e (Tied x q)
      inside_loop : {x : Tree} {lo : ℕ} {hi : Option ℕ} {r : Row} → Holds e x → Holds e (Loop x lo hi r)
      inside_turn : {x : Tree} {lo : ℕ} {hi : Option ℕ} {r : Row} → HoldsTurn e (parts r) → Holds e (Loop x lo hi r)
      inside_walk : {n : ℕ} {f : Spot} {t : Goal} {c : List ℕ} → NE n e → Holds e (Walk n f t c)

    pub data HoldsOne (e : TermEvent) : List Tree → Type 0 where
      inside_this : {x : Tree} {xs : List Tree} → Holds e x → HoldsOne e (x ∷ xs)
      inside_that : {x : Tree} {xs : List Tree} → HoldsOne e xs → HoldsOne e (x ∷ xs)

    pub data HoldsTurn (e : TermEvent) : List Part → Type 0 where
      in_turn : {x : Tree} {ps : List Part} → Holds e x → HoldsTurn e (Turn x ∷ ps)
      past_gap : {c : List ℕ} {ps : List Part} → HoldsTurn e ps → HoldsTurn e (Gap c ∷ ps)
      past_turn : {x : Tree} {ps : List Part} → HoldsTurn e ps → HoldsTurn e (Turn x ∷ ps)

  -- an event of the one that shares an instance with an event of the others has a lower rank
  abbrev pub Comes : (ℕ → ℕ) → Mode → Tree → List Tree → Type 0
  Comes f m x xs = (e h : TermEvent) → Holds e x → HoldsOne h xs → Crosses numbered m e h → f e.number < f h.number

  mutual
    pub data Ranks : (ℕ → ℕ) → Tree → Type 0 where
      ranks_nil : {f : ℕ → ℕ} → Ranks f Nil
      ranks_event : {f : ℕ → ℕ} {e : TermEvent} → Ranks f (Event e)
      ranks_join : {f : ℕ → ℕ} {m : Mode} {xs : Trees} → RanksParts f m (items xs) → Ranks f (Join m xs)
      ranks_choice : {f : ℕ → ℕ} {xs : Trees} → RanksEach f (items xs) → Ranks f (Choice xs)
      ranks_tie : {f : ℕ → ℕ} {x : Tree} {q : List (ℕ × ℕ)} → Ranks f x → ((e h : TermEvent) → Holds e x → Holds h x → pairs q e.number h.number ≡ true → f e.number < f h.number) → Ranks f (Tied x q)
      -- outside the events of a loop have one rank; inside there are ranks of their own
      ranks_loop : {f : ℕ → ℕ} {x : Tree} {lo : ℕ} {hi : Option ℕ} {r : Row} (c : ℕ) (g : ℕ → ℕ) → ((e : TermEvent) → Holds e x → f e.number ≡ c) → Ranks g x → OnlyGaps (parts r) → Ranks f (Loop x lo hi r)
      ranks_walk : {f : ℕ → ℕ} {n : ℕ} {s : Spot} {t : Goal} {b : List ℕ} (c : ℕ) → ((e : TermEvent) → NE n e → f e.number ≡ c) → Ranks f (Walk n s t b)

    pub data RanksParts : (ℕ → ℕ) → Mode → List Tree → Type 0 where
      ranks_none : {f : ℕ → ℕ} {m : Mode} → RanksParts f m []
      -- a part whose events have one rank may have ranks of its own
      ranks_block : {f : ℕ → ℕ} {m : Mode} {x : Tree} {xs : List Tree} (c : ℕ) (g : ℕ → ℕ) → ((e : TermEvent) → Holds e x → f e.number ≡ c) → Ranks g x → RanksParts f m xs → Comes f m x xs → RanksParts f m (x ∷ xs)
      ranks_more : {f : ℕ → ℕ} {m : Mode} {x : Tree} {xs : List Tree} → Ranks f x → RanksParts f m xs → Comes f m x xs → RanksParts f m (x ∷ xs)

    pub data RanksEach : (ℕ → ℕ) → List Tree → Type 0 where
      ranks_no_one : {f : ℕ → ℕ} → RanksEach f []
      ranks_one : {f : ℕ → ℕ} {x : Tree} {xs : List Tree} → Ranks f x → RanksEach f xs → RanksEach f (x ∷ xs)
