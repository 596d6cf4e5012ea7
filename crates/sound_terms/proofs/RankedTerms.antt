-- Ranks of a term give each of its patterns a linear order.
use Rattle.std.specs.Prelude.{ℕ, suc, ◌<◌, Bool, true, List, ◌∷◌, ◌≡◌, Option, ◌⊎◌}
use Rattle.std.proofs.Common.{inl, inr}
use Rattle.hmsc_graph.specs.Graphs.{Spot, Goal}
use Rattle.msc_base.specs.Patterns.{Mode, Position, event_at}
use Rattle.chart_term.specs.TermMeanings.{NetTerms, HasPattern, has_nil, has_event, has_join, has_choice, holds_tie, holds_loop, holds_walk, HasParts, no_part, one_part, HasChoice, this_one, that_one, HasRow, gaps_end, gaps_turn, gaps_shut, gaps_more, HasWalk, walk_stop, walk_last, walk_step}
use Rattle.chart_term.specs.TermPatterns.{numbered, Shape, pairs}
use Rattle.chart_term.specs.Terms.{TermEvent, Tree, Join, Choice, Tied, Loop, Walk, Trees, Row, items, Part, Gap, Turn, parts}
use Rattle.sound_terms.specs.TermRanks.{OnlyGaps, only_gap, Holds, inside_event, inside_join, inside_choice, inside_tie, inside_loop, inside_turn, inside_walk, HoldsOne, inside_this, inside_that, HoldsTurn, in_turn, past_gap, past_turn, Comes, Ranks, ranks_join, ranks_choice, ranks_tie, ranks_loop, ranks_walk, RanksParts, ranks_block, ranks_more, RanksEach, ranks_one}
use Rattle.sound_terms.proofs.KeyedRuns.{Keyed, keyed_empty, keyed_one, keyed_join, keyed_bind, Turned, turned_none, turned_more, keyed_turns, keyed_inner, keyed_run, HasRun}

module _ (w : NetTerms) (o : Bool) (NE : ℕ → TermEvent → Type 0) (node_has : (n m : ℕ) (s : Shape) → HasPattern w o (w.node n m) s → (p : Position s) → NE n (event_at numbered s p))
    (node_keyed : (n m : ℕ) (s : Shape) → HasPattern w o (w.node n m) s → (g : ℕ → ℕ) × Keyed g s) where
  mutual
    pub has_at : {x : Tree} {s : Shape} → HasPattern w o x s → (p : Position s) → Holds NE (event_at numbered s p) x
    has_at has_nil p = absurd p
    has_at has_event p = inside_event
    has_at (has_join h) p = inside_join (has_part h p)
    has_at (has_choice h) p = inside_choice (has_one h p)
    has_at (holds_tie h) p = inside_tie (has_at h p)
    has_at (holds_loop n h l m) p = elim (has_gaps h p) [ inl a ↦ inside_loop a | inr b ↦ inside_turn b ]
    has_at (holds_walk h) p = inside_walk (has_walk h p)

    has_part : {m : Mode} {xs : List Tree} {s : Shape} → HasParts w o m xs s → (p : Position s) → HoldsOne NE (event_at numbered s p) xs
    has_part no_part p = absurd p
    has_part (one_part h k) (inl p) = inside_this (has_at h p)
    has_part (one_part h k) (inr p) = inside_that (has_part k p)

    has_one : {xs : List Tree} {s : Shape} → HasChoice w o xs s → (p : Position s) → HoldsOne NE (event_at numbered s p) xs
    has_one (this_one h) p = inside_this (has_at h p)
    has_one (that_one h) p = inside_that (has_one h p)

    has_walk : {n : ℕ} {f : Spot} {t : Goal} {c : List ℕ} {s : Shape} → HasWalk w o n f t c s → (p : Position s) → NE n (event_at numbered s p)
    has_walk (walk_stop h) p = absurd p
    has_walk (walk_last m i a) p = absurd p
    has_walk {n = n} (walk_step m {s = s} i h a k) (inl p) = node_has n m s h p
    has_walk (walk_step m i h a k) (inr p) = has_walk k p

    has_gaps : {x : Tree} {ps : List Part} {n : ℕ} {s : Shape} → HasRow w o x ps n s → (p : Position s) → Holds NE (event_at numbered s p) x ⊎ HoldsTurn NE (event_at numbered s p) ps
    has_gaps gaps_end p = absurd p
    has_gaps (gaps_turn h k) (inl p) = inr (in_turn (has_at h p))
    has_gaps (gaps_turn h k) (inr p) = elim (has_gaps k p) [ inl a ↦ inl a | inr b ↦ inr (past_turn b) ]
    has_gaps (gaps_shut k) p = elim (has_gaps k p) [ inl a ↦ inl a | inr b ↦ inr (past_gap b) ]
    has_gaps (gaps_more h a k) (inl p) = inl (has_at h p)
    has_gaps (gaps_more h a k) (inr p) = has_gaps k p

  -- ranks of a term give keys to each pattern of it
  parts_of : {f : ℕ → ℕ} {m : Mode} {xs : Trees} → Ranks NE f (Join m xs) → RanksParts NE f m (items xs)
  parts_of (ranks_join h) = h

  each_of : {f : ℕ → ℕ} {xs : Trees} → Ranks NE f (Choice xs) → RanksEach NE f (items xs)
  each_of (ranks_choice h) = h

  tie_of : {f : ℕ → ℕ} {x : Tree} {q : List (ℕ × ℕ)} → Ranks NE f (Tied x q) → Ranks NE f x × ((e h : TermEvent) → Holds NE e x → Holds NE h x → pairs q e.number h.number ≡ true → f e.number < f h.number)
  tie_of (ranks_tie h k) = (h, k)

  loop_of : {f : ℕ → ℕ} {x : Tree} {lo : ℕ} {hi : Option ℕ} {r : Row} → Ranks NE f (Loop x lo hi r) → (c : ℕ) × (g : ℕ → ℕ) × ((e : TermEvent) → Holds NE e x → f e.number ≡ c) × Ranks NE g x × OnlyGaps (parts r)
  loop_of (ranks_loop c g h k l) = (c, g, h, k, l)

  walk_of : {f : ℕ → ℕ} {n : ℕ} {s : Spot} {t : Goal} {b : List ℕ} → Ranks NE f (Walk n s t b) → (c : ℕ) × ((e : TermEvent) → NE n e → f e.number ≡ c)
  walk_of (ranks_walk c h) = (c, h)

  abbrev Block : (ℕ → ℕ) → Tree → Type 0
  Block f x = (c : ℕ) × (g : ℕ → ℕ) × ((e : TermEvent) → Holds NE e x → f e.number ≡ c) × Ranks NE g x

  more_of : {f : ℕ → ℕ} {m : Mode} {x : Tree} {xs : List Tree} → RanksParts NE f m (x ∷ xs) → (Ranks NE f x ⊎ Block f x) × RanksParts NE f m xs × Comes NE f m x xs
  more_of (ranks_more h k l) = (inl h, k, l)
  more_of (ranks_block c g i h k l) = (inr (c, g, i, h), k, l)

  one_of : {f : ℕ → ℕ} {x : Tree} {xs : List Tree} → RanksEach NE f (x ∷ xs) → Ranks NE f x × RanksEach NE f xs
  one_of (ranks_one h k) = (h, k)

  gap_of : {c : List ℕ} {ps : List Part} → OnlyGaps (Gap c ∷ ps) → OnlyGaps ps
  gap_of (only_gap h) = h

  turn_none : {x : Tree} {ps : List Part} → OnlyGaps (Turn x ∷ ps) → ⊥
  turn_none h = elim h [ ]

  keyed_block : {x : Tree} (f : ℕ → ℕ) (s : Shape) → Ranks NE f x ⊎ Block f x → ((g : ℕ → ℕ) → Ranks NE g x → Keyed g s) → ((p : Position s) → Holds NE (event_at numbered s p) x) → Keyed f s
  keyed_block f s (inl r) k h = k f r
  keyed_block f s (inr (c, g, i, r)) k h = keyed_inner f g c s (λ p. i (event_at numbered s p) (h p)) (k g r)

  mutual
    pub keyed_all : {x : Tree} {s : Shape} → HasPattern w o x s → (f : ℕ → ℕ) → Ranks NE f x → Keyed f s
    keyed_all has_nil f r = keyed_empty f
    keyed_all (has_event {e = e}) f r = keyed_one f e
    keyed_all (has_join h) f r = keyed_parts h f (parts_of r)
    keyed_all (has_choice h) f r = keyed_choice h f (each_of r)
    keyed_all (holds_tie {q = q} {s = s} h) f r = let (k, l) = tie_of r in keyed_bind f s q (keyed_all h f k) (λ a b i. l (event_at numbered s a) (event_at numbered s b) (has_at h a) (has_at h b) i)
    keyed_all (holds_loop {s = s} n h l m) f r = let (c, g, i, k, j) = loop_of r in keyed_turns f c 0 s (turned h f c 0 i g k j)
    keyed_all (holds_walk {s = s} h) f r = let (c, i) = walk_of r in keyed_turns f c 0 s (walked h f c 0 i)

    keyed_parts : {m : Mode} {xs : List Tree} {s : Shape} → HasParts w o m xs s → (f : ℕ → ℕ) → RanksParts NE f m xs → Keyed f s
    keyed_parts no_part f r = keyed_empty f
    keyed_parts {m} (one_part {s = s} {t = t} h k) f r = let (i, j, l) = more_of r in keyed_join f m s t (keyed_block f s i (keyed_all h) (has_at h)) (keyed_parts k f j) (λ p q c. l (event_at numbered s p) (event_at numbered t q) (has_at h p) (has_part k q) c)

    keyed_choice : {xs : List Tree} {s : Shape} → HasChoice w o xs s → (f : ℕ → ℕ) → RanksEach NE f xs → Keyed f s
    keyed_choice (this_one h) f r = keyed_all h f (one_of r).0
    keyed_choice (that_one h) f r = keyed_choice h f (one_of r).1

    turned : {x : Tree} {ps : List Part} {n : ℕ} {s : Shape} → HasRow w o x ps n s → (f : ℕ → ℕ) (c k : ℕ) → ((e : TermEvent) → Holds NE e x → f e.number ≡ c) → (g : ℕ → ℕ) → Ranks NE g x → OnlyGaps ps → Turned f c k s
    turned gaps_end f c k i g r j = turned_none f c k
    turned (gaps_turn h l) f c k i g r j = absurd (turn_none j)
    turned (gaps_shut l) f c k i g r j = turned l f c k i g r (gap_of j)
    turned (gaps_more {s = s} {u = u} h a l) f c k i g r j = turned_more f g c k s u (λ p. i (event_at numbered s p) (has_at h p)) (keyed_all h g r) (turned l f c (suc k) i g r j)

    walked : {n : ℕ} {a : Spot} {t : Goal} {b : List ℕ} {s : Shape} → HasWalk w o n a t b s → (f : ℕ → ℕ) (c k : ℕ) → ((e : TermEvent) → NE n e → f e.number ≡ c) → Turned f c k s
    walked (walk_stop h) f c k i = turned_none f c k
    walked (walk_last m h l) f c k i = turned_none f c k
    walked {n} (walk_step m {s = s} {u = u} h l v z) f c k i = let (g, y) = node_keyed n m s l in turned_more f g c k s u (λ p. i (event_at numbered s p) (node_has n m s l p)) y (walked z f c (suc k) i)

  -- so each pattern has a linear order
  pub ranked_run : {x : Tree} {s : Shape} (f : ℕ → ℕ) → Ranks NE f x → HasPattern w o x s → HasRun s
  ranked_run {s = s} f r h = keyed_run f s (keyed_all h f r)
