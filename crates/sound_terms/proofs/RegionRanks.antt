-- An order that places the vertices of a region ranks the terms that the region draws.
use Rattle.std.specs.Prelude.{ℕ, ◌<◌, true, false, List, [], ◌∷◌, ◌≡◌, Option, Some, None, ◌⊎◌, ◌==◌, ◌||◌}
use Rattle.std.proofs.Common.{ap, sym, ◌∙◌, inl, inr, refl, arith}
use Rattle.std.proofs.lemmas.Bool.Decides.{nat_tests}
use Rattle.std.proofs.lemmas.Bool.{or_cases, false≢true}
use Rattle.hmsc_graph.specs.Graphs.{Spot, Goal}
use Rattle.msc_base.specs.Patterns.{Mode, seq, par}
use Rattle.chart_term.specs.TermPatterns.{instances_of, some_list}
use Rattle.chart_term.specs.Terms.{TermEvent, hits, has, has_some, Tree, Nil, Event, Join, Choice, Tied, Loop, Walk, Trees, Row, items, parts}
use Rattle.sound_terms.specs.Regions.{Region, Vertex, Sequence, Unordered, Regions, a_region, Mem, InRegion, is_vertex, in_sequence, in_unordered, InOne, in_this, in_that, Placed, placed_sequence, placed_unordered, PlacedAll, placed_seq, placed_par, Of, Covers, Draws, draws_nil, draws_event, draws_seq, draws_par, draws_choice, draws_tie, draws_loop, draws_walk, DrawsAll, draws_none, draws_more}
use Rattle.sound_terms.specs.TermRanks.{Holds, inside_event, inside_join, inside_choice, inside_tie, inside_loop, inside_turn, inside_walk, HoldsOne, inside_this, inside_that, HoldsTurn, Ranks, ranks_nil, ranks_event, ranks_join, ranks_choice, ranks_tie, ranks_loop, ranks_walk, RanksParts, ranks_none, ranks_more, RanksEach, ranks_no_one, ranks_one}

module _ (NE : ℕ → TermEvent → Type 0) (v : ℕ → ℕ) (f : ℕ → ℕ) where
  -- each event of the term is placed at its vertex
  abbrev IsPlacedAt : TermEvent → Region → Type 0
  IsPlacedAt e g = (is : List ℕ) × InRegion (v e.number) is g × Covers is e

  abbrev IsPlacedOne : TermEvent → Regions → Type 0
  IsPlacedOne e gs = (is : List ℕ) × InOne (v e.number) is gs × Covers is e

  vertex : (e : TermEvent) (u : ℕ) (is : List ℕ) → v e.number ≡ u → Covers is e → IsPlacedAt e (Vertex u is)
  vertex e u is h c = rw (← h) (is, is_vertex, c)

  at_event : {e g : TermEvent} → Holds NE e (Event g) → g ≡ e
  at_event inside_event = refl

  in_parts : {e : TermEvent} {m : Mode} {xs : Trees} → Holds NE e (Join m xs) → HoldsOne NE e (items xs)
  in_parts (inside_join h) = h

  in_choice : {e : TermEvent} {xs : Trees} → Holds NE e (Choice xs) → HoldsOne NE e (items xs)
  in_choice (inside_choice h) = h

  in_bound : {e : TermEvent} {x : Tree} {q : List (ℕ × ℕ)} → Holds NE e (Tied x q) → Holds NE e x
  in_bound (inside_tie h) = h

  in_turns : {e : TermEvent} {x : Tree} {lo : ℕ} {hi : Option ℕ} {r : Row} → Holds NE e (Loop x lo hi r) → Holds NE e x ⊎ HoldsTurn NE e (parts r)
  in_turns (inside_loop h) = inl h
  in_turns (inside_turn h) = inr h

  in_trail : {e : TermEvent} {n : ℕ} {s : Spot} {t : Goal} {b : List ℕ} → Holds NE e (Walk n s t b) → NE n e
  in_trail (inside_walk h) = h

  in_list : {e : TermEvent} {x : Tree} {xs : List Tree} → HoldsOne NE e (x ∷ xs) → Holds NE e x ⊎ HoldsOne NE e xs
  in_list (inside_this h) = inl h
  in_list (inside_that h) = inr h

  in_none : {e : TermEvent} → Holds NE e Nil → ⊥
  in_none h = elim h [ ]

  in_empty : {e : TermEvent} → HoldsOne NE e [] → ⊥
  in_empty h = elim h [ ]

  mutual
    placed_at : {x : Tree} {g : Region} → Draws NE v f x g → (e : TermEvent) → Holds NE e x → IsPlacedAt e g
    placed_at draws_nil e h = absurd (in_none h)
    placed_at (draws_event {e = d} {u = u} {is = is} p c) e h = vertex e u is (ap (λ z. v z.number) (sym (at_event h)) ∙ p) (rw (at_event h) at c)
    placed_at (draws_seq k) e h = let (is, i, c) = placed_one k e (in_parts h) in (is, in_sequence i, c)
    placed_at (draws_par k) e h = let (is, i, c) = placed_one k e (in_parts h) in (is, in_unordered i, c)
    placed_at (draws_choice k) e h = let (is, i, c) = placed_one k e (in_choice h) in (is, in_unordered i, c)
    placed_at (draws_tie k r) e h = placed_at k e (in_bound h)
    placed_at (draws_loop {u = u} {is = is} g k r l n) e h = elim (in_turns h) [ inl a ↦ vertex e u is (k e a).0 (k e a).1 | inr b ↦ absurd (n e b) ]
    placed_at (draws_walk {u = u} {is = is} k) e h = vertex e u is (k e (in_trail h)).0 (k e (in_trail h)).1

    placed_one : {xs : List Tree} {gs : Regions} → DrawsAll NE v f xs gs → (e : TermEvent) → HoldsOne NE e xs → IsPlacedOne e gs
    placed_one draws_none e h = absurd (in_empty h)
    placed_one (draws_more k l) e h = elim (in_list h) [ inl a ↦ (let (is, i, c) = placed_at k e a in (is, in_this i, c)) | inr b ↦ (let (is, i, c) = placed_one l e b in (is, in_that i, c)) ]

  -- events that meet share an instance
  same_of : (m n : ℕ) → (m == n) ≡ true → n ≡ m
  same_of m n h = grind (arith, nat_tests)

  has_of : (h : TermEvent) (i : ℕ) → has (h.at ∷ some_list h.also) i ≡ true → Of i h
  has_of h i k = elim (or_cases (h.at == i) (has (some_list h.also) i) k) [ inl a ↦ inl (same_of h.at i a) | inr b ↦ second h.also b ]
    where
      second : (a : Option ℕ) → has (some_list a) i ≡ true → (i ≡ h.at) ⊎ (a ≡ Some i)
      second None b = absurd (false≢true b)
      second (Some n) b = elim (or_cases (n == i) false b) [ inl c ↦ inr (ap (λ z. Some z) (sym (same_of n i c))) | inr c ↦ absurd (false≢true c) ]

  meeting : (e h : TermEvent) → hits (instances_of h) e ≡ true → (i : ℕ) × Of i e × Of i h
  meeting e h k = elim (or_cases (has (h.at ∷ some_list h.also) e.at || has_some (h.at ∷ some_list h.also) e.also) false k) [
    | inl a ↦ elim (or_cases (has (h.at ∷ some_list h.also) e.at) (has_some (h.at ∷ some_list h.also) e.also) a) [ inl b ↦ (e.at, inl refl, has_of h e.at b) | inr b ↦ second e.also (λ i p. inr p) b ]
    | inr c ↦ absurd (false≢true c)
  ]
    where
      second : (a : Option ℕ) → ((i : ℕ) → a ≡ Some i → Of i e) → has_some (h.at ∷ some_list h.also) a ≡ true → (i : ℕ) × Of i e × Of i h
      second None g b = absurd (false≢true b)
      second (Some n) g b = (n, g n refl, has_of h n b)

  abbrev rank : ℕ → ℕ
  rank n = f (v n)

  placed_parts : {gs : Regions} → Placed f (Sequence gs) → PlacedAll f seq gs
  placed_parts (placed_sequence h) = h

  placed_sides : {gs : Regions} → Placed f (Unordered gs) → PlacedAll f par gs
  placed_sides (placed_unordered h) = h

  row_of : {g : Region} {gs : Regions} → PlacedAll f seq (a_region g gs) → Placed f g × PlacedAll f seq gs × ((u v i : ℕ) (is js : List ℕ) → InRegion u is g → InOne v js gs → Mem i is → Mem i js → f u < f v)
  row_of (placed_seq h k l) = (h, k, l)

  side_of : {g : Region} {gs : Regions} → PlacedAll f par (a_region g gs) → Placed f g × PlacedAll f par gs
  side_of (placed_par h k) = (h, k)

  mutual
    pub ranks_of : {x : Tree} {g : Region} → Draws NE v f x g → Placed f g → Ranks NE rank x
    ranks_of draws_nil p = ranks_nil
    ranks_of (draws_event h c) p = ranks_event
    ranks_of (draws_seq k) p = ranks_join (row_ranks k (placed_parts p))
    ranks_of (draws_par k) p = ranks_join (side_ranks k (placed_sides p))
    ranks_of (draws_choice k) p = ranks_choice (each_ranks k (placed_sides p))
    ranks_of (draws_tie k r) p = ranks_tie (ranks_of k p) (λ e h i j l. r e.number h.number l)
    ranks_of (draws_loop {u = u} g k r l n) p = ranks_loop (f u) g (λ e h. ap f (k e h).0) r l
    ranks_of (draws_walk {u = u} k) p = ranks_walk (f u) (λ e h. ap f (k e h).0)

    row_ranks : {xs : List Tree} {gs : Regions} → DrawsAll NE v f xs gs → PlacedAll f seq gs → RanksParts NE rank seq xs
    row_ranks draws_none p = ranks_none
    row_ranks (draws_more k l) p = let (a, b, c) = row_of p in ranks_more (ranks_of k a) (row_ranks l b) (λ e h i j m.
        let (n, q, r) = meeting e h m in let (is, s, t) = placed_at k e i in let (js, y, z) = placed_one l h j in c (v e.number) (v h.number) n is js s y (t n q) (z n r))

    side_ranks : {xs : List Tree} {gs : Regions} → DrawsAll NE v f xs gs → PlacedAll f par gs → RanksParts NE rank par xs
    side_ranks draws_none p = ranks_none
    side_ranks (draws_more k l) p = let (a, b) = side_of p in ranks_more (ranks_of k a) (side_ranks l b) (λ e h i j m. absurd m)

    each_ranks : {xs : List Tree} {gs : Regions} → DrawsAll NE v f xs gs → PlacedAll f par gs → RanksEach NE rank xs
    each_ranks draws_none p = ranks_no_one
    each_ranks (draws_more k l) p = let (a, b) = side_of p in ranks_one (ranks_of k a) (each_ranks l b)
