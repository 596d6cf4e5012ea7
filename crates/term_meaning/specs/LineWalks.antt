-- Walks through a graph as lists of its lines, and the unfoldings along them.
use Rattle.std.specs.Prelude.{ℕ, true, List, [], ◌∷◌, ◌≡◌}
use Rattle.hmsc_graph.specs.Graphs.{Net, Spot, Start, At, End, behind, arrives}
use Rattle.msc_base.specs.Lists.{IsIn}
use Rattle.msc_base.specs.Patterns.{seq, empty, join}
use Rattle.msc_unfolding.specs.Unfoldings.{Happening, Unfolding, plain}
use Rattle.term_meaning.specs.Standings.{Stands}

-- each line is next behind the one before it
pub data IsPath (g : Net) : Spot → List ℕ → Type 0 where
  path_none : {f : Spot} → IsPath g f []
  path_more : {f : Spot} {m : ℕ} {ms : List ℕ} → IsIn m (behind g f) → IsPath g (At m) ms → IsPath g f (m ∷ ms)

-- the last line is an `end` line
abbrev pub EndsAt : Net → List ℕ → Type 0
EndsAt g [] = ⊥
EndsAt g (m ∷ []) = arrives g End m ≡ true
EndsAt g (m ∷ n ∷ ms) = EndsAt g (n ∷ ms)

-- one unfolding of each line, one after another
pub data AreAlong (A : ℕ → Unfolding → Type 0) : List ℕ → Unfolding → Type 0 where
  along_none : AreAlong A [] empty
  along_more : {m : ℕ} {ms : List ℕ} {a b : Unfolding} → A m a → AreAlong A ms b → AreAlong A (m ∷ ms) (join seq a b)

-- a walk that is under way: it may stop after any number of lines
pub record IsUnderWay (g : Net) (A : ℕ → Unfolding → Type 0) (u : Unfolding) : Type 0 where
  pub lines : List ℕ
  pub path : IsPath g Start lines
  pub along : AreAlong A lines u

-- a walk that is finished
pub record IsFinished (g : Net) (A : ℕ → Unfolding → Type 0) (u : Unfolding) : Type 0 where
  pub lines : List ℕ
  pub path : IsPath g Start lines
  pub ends : EndsAt g lines
  pub along : AreAlong A lines u

-- the unfolding of an `end` line is the empty one
pub record AreEndsEmpty (g : Net) (A : ℕ → Unfolding → Type 0) : Type 0 where
  pub only : (m : ℕ) (u : Unfolding) → arrives g End m ≡ true → A m u → u ≡ empty
  pub there : (m : ℕ) → arrives g End m ≡ true → A m empty

-- the same happenings
abbrev pub Equal : Happening → Happening → Type 0
Equal g h = g ≡ h

-- one of these unfoldings is the same, position by position
pub record IsAlike (A : Unfolding → Type 0) (u : Unfolding) : Type 0 where
  pub of : Unfolding
  pub is : A of
  pub stands : Stands plain plain Equal u of

-- two sets of unfoldings are the same, position by position
pub record AreAlike (A B : Unfolding → Type 0) : Type 0 where
  pub to : (u : Unfolding) → A u → IsAlike B u
  pub from : (u : Unfolding) → B u → IsAlike A u
