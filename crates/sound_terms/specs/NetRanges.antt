-- Terms and nets whose numbers lie in an interval.
use Rattle.std.specs.Prelude.{ℕ, ◌==◌, [], ◌∷◌}
use Rattle.chart_term.specs.Properties.{Each, Every}
use Rattle.chart_term.specs.Tables.{Tables, net_count}
use Rattle.chart_term.specs.Terms.{Tree}
use Rattle.term_laws.specs.Soundness.{PickType, NetLacks, Lacks, IsOutside}
use Rattle.sound_terms.specs.Intervals.{IsInside, IsBeyond}

-- the numbers of the net, and of the nets that its node terms name, are in the interval
abbrev pub IsNetWithin : ℕ → ℕ → Tables → ℕ → Type 0
IsNetWithin lo hi [] n = ⊥
IsNetWithin lo hi (e ∷ es) n = PickType (n == net_count es) (Each (Every (λ f. IsInside lo hi f.number) (IsNetWithin lo hi es)) e.nodes) (IsNetWithin lo hi es n)

-- so are those of the term
abbrev pub IsTermWithin : ℕ → ℕ → Tables → Tree → Type 0
IsTermWithin lo hi w x = Every (λ f. IsInside lo hi f.number) (IsNetWithin lo hi w) x

-- what lies beyond is in no event of the net, and of the term
pub record RangesLack : Type 0 where
  pub net : (lo hi : ℕ) (w : Tables) (n j : ℕ) → IsNetWithin lo hi w n → IsBeyond lo hi j → NetLacks w j n
  pub term : (lo hi : ℕ) (w : Tables) (x : Tree) (j : ℕ) → IsTermWithin lo hi w x → IsBeyond lo hi j → Lacks (NetLacks w) j x
  pub outside : (lo hi : ℕ) (w : Tables) (x : Tree) (j : ℕ) → IsTermWithin lo hi w x → IsBeyond lo hi j → IsOutside (NetLacks w) j x
