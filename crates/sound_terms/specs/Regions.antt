-- Regions of vertices, an order that places them, and the terms that they draw.
use Rattle.std.specs.Prelude.{ℕ, ◌<◌, true, List, [], ◌∷◌, ◌≡◌, Option, Some, ◌⊎◌}
use Rattle.hmsc_graph.specs.Graphs.{Spot, Goal}
use Rattle.msc_base.specs.Patterns.{Mode, seq, par}
use Rattle.chart_term.specs.TermPatterns.{pairs}
use Rattle.chart_term.specs.Terms.{TermEvent, Tree, Nil, Event, Join, Choice, Tied, Loop, Walk, Trees, Row, items, parts}
use Rattle.sound_terms.specs.TermRanks.{OnlyGaps, Holds, HoldsTurn, Ranks}

-- vertices, in a sequence or without order between them
mutual
  pub data Region : Type 0 where
    Vertex : ℕ → List ℕ → Region
    Sequence : Regions → Region
    Unordered : Regions → Region

  pub data Regions : Type 0 where
    no_region : Regions
    a_region : Region → Regions → Regions

abbrev pub Mem : ℕ → List ℕ → Type 0
Mem i [] = ⊥
Mem i (j ∷ is) = (i ≡ j) ⊎ Mem i is

-- a vertex of a region, with its instances
mutual
  pub data InRegion (u : ℕ) (is : List ℕ) : Region → Type 0 where
    is_vertex : InRegion u is (Vertex u is)
    in_sequence : {gs : Regions} → InOne u is gs → InRegion u is (Sequence gs)
    in_unordered : {gs : Regions} → InOne u is gs → InRegion u is (Unordered gs)

  pub data InOne (u : ℕ) (is : List ℕ) : Regions → Type 0 where
    in_this : {g : Region} {gs : Regions} → InRegion u is g → InOne u is (a_region g gs)
    in_that : {g : Region} {gs : Regions} → InOne u is gs → InOne u is (a_region g gs)

-- the order places vertices: in a sequence, earlier ones that share an instance with later ones stand earlier
mutual
  pub data Placed (f : ℕ → ℕ) : Region → Type 0 where
    placed_vertex : {u : ℕ} {is : List ℕ} → Placed f (Vertex u is)
    placed_sequence : {gs : Regions} → PlacedAll f seq gs → Placed f (Sequence gs)
    placed_unordered : {gs : Regions} → PlacedAll f par gs → Placed f (Unordered gs)

  pub data PlacedAll (f : ℕ → ℕ) : Mode → Regions → Type 0 where
    placed_none : {m : Mode} → PlacedAll f m no_region
    placed_seq : {g : Region} {gs : Regions} → Placed f g → PlacedAll f seq gs
        → ((u v i : ℕ) (is js : List ℕ) → InRegion u is g → InOne v js gs → Mem i is → Mem i js → f u < f v) → PlacedAll f seq (a_region g gs)
    placed_par : {g : Region} {gs : Regions} → Placed f g → PlacedAll f par gs → PlacedAll f par (a_region g gs)

-- i is an instance of the event
abbrev pub Of : ℕ → TermEvent → Type 0
Of i e = (i ≡ e.at) ⊎ (e.also ≡ Some i)

abbrev pub Covers : List ℕ → TermEvent → Type 0
Covers is e = (i : ℕ) → Of i e → Mem i is

-- v gives the vertex of each event number, f the place of each vertex
module _ (NE : ℕ → TermEvent → Type 0) (v : ℕ → ℕ) (f : ℕ → ℕ) where
  -- a region draws a term: v gives the vertex of each event number
  mutual
    pub data Draws : Tree → Region → Type 0 where
      draws_nil : {g : Region} → Draws Nil g
      draws_event : {e : TermEvent} {u : ℕ} {is : List ℕ} → v e.number ≡ u → Covers is e → Draws (Event e) (Vertex u is)
      draws_seq : {xs : Trees} {gs : Regions} → DrawsAll (items xs) gs → Draws (Join seq xs) (Sequence gs)
      draws_par : {xs : Trees} {gs : Regions} → DrawsAll (items xs) gs → Draws (Join par xs) (Unordered gs)
      draws_choice : {xs : Trees} {gs : Regions} → DrawsAll (items xs) gs → Draws (Choice xs) (Unordered gs)
      -- the pairs rise
      draws_tie : {x : Tree} {q : List (ℕ × ℕ)} {g : Region} → Draws x g → ((m n : ℕ) → pairs q m n ≡ true → f (v m) < f (v n)) → Draws (Tied x q) g
      draws_loop : {x : Tree} {lo : ℕ} {hi : Option ℕ} {r : Row} {u : ℕ} {is : List ℕ} (g : ℕ → ℕ) → ((e : TermEvent) → Holds NE e x → (v e.number ≡ u) × Covers is e)
          → Ranks NE g x → OnlyGaps (parts r) → ((e : TermEvent) → HoldsTurn NE e (parts r) → ⊥) → Draws (Loop x lo hi r) (Vertex u is)
      draws_walk : {n : ℕ} {s : Spot} {t : Goal} {b : List ℕ} {u : ℕ} {is : List ℕ} → ((e : TermEvent) → NE n e → (v e.number ≡ u) × Covers is e) → Draws (Walk n s t b) (Vertex u is)

    pub data DrawsAll : List Tree → Regions → Type 0 where
      draws_none : DrawsAll [] no_region
      draws_more : {x : Tree} {xs : List Tree} {g : Region} {gs : Regions} → Draws x g → DrawsAll xs gs → DrawsAll (x ∷ xs) (a_region g gs)
