-- Graphs of high-level charts, and the walks through them (Annex B of Z.120 in outline).
use Rattle.std.specs.List.{list_any}
use Rattle.std.specs.Prelude.{ℕ, Bool, true, false, List, [], ◌∷◌, ◌≡◌, ◌||◌, ◌==◌, ◌&&◌}
use Rattle.std.proofs.Common.{get_or}
use Rattle.msc_base.specs.Lists.{IsIn}

-- where a walk begins, and where it goes
pub data Spot : Type 0 where
  Start : Spot
  At : ℕ → Spot

-- a node, an `end` line, or anywhere: a walk under way
pub data Goal : Type 0 where
  To : ℕ → Goal
  End : Goal
  Any : Goal

-- a graph: its first nodes, the next nodes of each node, and which nodes are ends
pub record Net : Type 0 where
  pub starts : List ℕ
  pub next : List (List ℕ)
  pub ends : List Bool

-- the nodes behind a spot
abbrev pub behind : Net → Spot → List ℕ
behind g Start = g.starts
behind g (At m) = get_or g.next m []

-- the node is what the walk goes to
abbrev pub arrives : Net → Goal → ℕ → Bool
arrives g (To k) m = m == k
arrives g End m = get_or g.ends m false
arrives g Any m = true

-- a walk of at least one edge, whose inner nodes are all allowed
pub data WalkThrough (g : Net) (ks : List ℕ) : Spot → Goal → Type 0 where
  last : {s : Spot} {t : Goal} (m : ℕ) → IsIn m (behind g s) → arrives g t m ≡ true → WalkThrough g ks s t
  step : {s : Spot} {t : Goal} (m : ℕ) → IsIn m (behind g s) → IsIn m ks → WalkThrough g ks (At m) t → WalkThrough g ks s t

-- whether there is such a walk: by the last of the allowed nodes, which a walk needs to pass only once
abbrev pub reach : Net → List ℕ → Spot → Goal → Bool
reach g [] s t = list_any (arrives g t) (behind g s)
reach g (k ∷ ks) s t = reach g ks s t || (reach g ks s (To k) && reach g ks (At k) t)

-- the test is exact
pub record ReachIsExact : Type 0 where
  pub sound : (g : Net) (ks : List ℕ) (s : Spot) (t : Goal) → reach g ks s t ≡ true → WalkThrough g ks s t
  pub whole : (g : Net) (ks : List ℕ) (s : Spot) (t : Goal) → WalkThrough g ks s t → reach g ks s t ≡ true
