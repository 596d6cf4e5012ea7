-- Sets of unfoldings, made as the texts of charts make them: joined, tied, repeated, along walks.
use Rattle.std.specs.Prelude.{ℕ, zero, suc, ◌≤◌, ◌≡◌, ◌⊎◌, Bool, true, Option}
use Rattle.hmsc_graph.specs.Graphs.{Spot, At, Goal, Net, behind, arrives}
use Rattle.msc_base.specs.Lists.{IsIn}
use Rattle.msc_base.specs.Patterns.{Mode, seq, empty, one, join, bind}
use Rattle.msc_unfolding.specs.Unfoldings.{Happening, Tie, Unfolding}
use Rattle.chart_term.specs.TermMeanings.{MayStop, aim, UpTo}

-- no unfolding
abbrev pub Nothing : Unfolding → Type 0
Nothing u = ⊥

-- the empty one alone
abbrev pub OnlyEmpty : Unfolding → Type 0
OnlyEmpty u = u ≡ empty

-- one event alone
abbrev pub OnlyEvent : Happening → Unfolding → Type 0
OnlyEvent h u = u ≡ one h

-- one of the first joined with one of the second
pub data AreJoined (m : Mode) (A B : Unfolding → Type 0) : Unfolding → Type 0 where
  joined : {a b : Unfolding} → A a → B b → AreJoined m A B (join m a b)

-- one of them, below the tie
pub data AreTied (A : Unfolding → Type 0) (t : Tie) : Unfolding → Type 0 where
  tied : {a : Unfolding} → A a → AreTied A t (bind a t)

-- one of the first or of the second
abbrev pub Either : (Unfolding → Type 0) → (Unfolding → Type 0) → Unfolding → Type 0
Either A B u = A u ⊎ B u

-- so many of them, one after another
pub data AreRepeated (A : Unfolding → Type 0) : ℕ → Unfolding → Type 0 where
  no_more : AreRepeated A zero empty
  once_more : {n : ℕ} {a b : Unfolding} → A a → AreRepeated A n b → AreRepeated A (suc n) (join seq a b)

-- some number of them, between bounds
pub record AreSomeOften (A : Unfolding → Type 0) (lo : ℕ) (hi : Option ℕ) (u : Unfolding) : Type 0 where
  pub times : ℕ
  pub least : lo ≤ times
  pub most : UpTo hi times
  pub are : AreRepeated A times u

-- one of each inner node of a walk through the graph, one after another; with `true`, walks under way count
pub data AreOnWalk (g : Net) (o : Bool) (A : ℕ → Unfolding → Type 0) : Spot → Goal → Unfolding → Type 0 where
  stops : {f : Spot} {t : Goal} → MayStop t o → AreOnWalk g o A f t empty
  arrives_at : {f : Spot} {t : Goal} (m : ℕ) → IsIn m (behind g f) → arrives g (aim t) m ≡ true → AreOnWalk g o A f t empty
  passes : {f : Spot} {t : Goal} (m : ℕ) {a b : Unfolding} → IsIn m (behind g f) → A m a → AreOnWalk g o A (At m) t b → AreOnWalk g o A f t (join seq a b)
