-- Ranks rise from each event to those behind it, and no ranks do so round a cycle.
use Rattle.std.proofs.Common.{◌≡◌, ◌<◌, ◌⊎◌, inl, inr, ℕ, List, refl, subst, arith}
use Rattle.msc_base.specs.Orders.{Among}
use Rattle.msc_base.specs.declared.label.Pair.{Pair}
use Rattle.expansion_tree.specs.Expansions.{Event, InRow, Aside, OneOf, Exception, Turns, Tied, Walk, no_parts, part_and}
use Rattle.expansion_tree.specs.Numbered.{Expansion, Expansions}
use Rattle.expansion_order.specs.Precedence.{ComesBefore, HasLoopRound, HasRank, HasRound, HasSomeLoopRound, HaveAllLoopsRank, HaveLoopsRank, Precedes, PrecedesInOne, PrecedesInRow, next, further}
use Rattle.expansion_order.specs.Ranks.{AreRanked, AreRankedInRow, CanBeRanked, IsRanked}

module _ (rank : ℕ → ℕ) where
  raised : (u v w z : ℕ) → w ≡ u → z ≡ v → rank w < rank z → rank u < rank v
  raised u v w z e f h = subst (λ (i : ℕ). rank i < rank v) e (subst (λ (i : ℕ). rank w < rank i) f h)

  mutual
    pub rises : (x : Expansion) → IsRanked rank x → (u v : ℕ) → Precedes x u v → rank u < rank v
    rises (Event e) r u v h = absurd h
    rises (InRow xs) r u v h = row_rises xs r u v h
    rises (Aside xs) r u v h = each_rises xs r u v h
    rises (OneOf xs) r u v h = each_rises xs r u v h
    rises (Exception x) r u v h = rises x r u v h
    rises (Turns n lower upper x) r u v h = absurd h
    rises (Tied x ps) r u v (inl h) = raised u v h.pair.first h.pair.second h.first h.second (r.0 h.pair h.among)
    rises (Tied x ps) r u v (inr h) = rises x r.1 u v h
    rises (Walk n g xs) r u v h = absurd h

    row_rises : (xs : Expansions) → AreRankedInRow rank xs → (u v : ℕ) → PrecedesInRow xs u v → rank u < rank v
    row_rises no_parts r u v h = absurd h
    row_rises (part_and x xs) r u v (inl h) = let c = h.1 in raised u v c.earlier.number c.later.number c.first c.second (r.1 h.0 c.earlier c.later c.among_first c.among_second c.at_one)
    row_rises (part_and x xs) r u v (inr (inl h)) = rises x r.0 u v h
    row_rises (part_and x xs) r u v (inr (inr h)) = row_rises xs r.2 u v h

    each_rises : (xs : Expansions) → AreRanked rank xs → (u v : ℕ) → PrecedesInOne xs u v → rank u < rank v
    each_rises no_parts r u v h = absurd h
    each_rises (part_and x xs) r u v (inl h) = rises x r.0 u v h
    each_rises (part_and x xs) r u v (inr h) = each_rises xs r.1 u v h

-- ranks that rise are ranks of the expansion, where the turns of its loops have some
mutual
  pub is_ranked : (x : Expansion) (rank : ℕ → ℕ) → ((u v : ℕ) → Precedes x u v → rank u < rank v) → HaveLoopsRank x → IsRanked rank x
  is_ranked (Event e) rank h l = tt
  is_ranked (InRow xs) rank h l = row_ranked xs rank h l
  is_ranked (Aside xs) rank h l = each_ranked xs rank h l
  is_ranked (OneOf xs) rank h l = each_ranked xs rank h l
  is_ranked (Exception x) rank h l = is_ranked x rank h l
  is_ranked (Turns n lower upper x) rank h l = (l.0.rank, is_ranked x l.0.rank l.0.rises l.1)
  is_ranked (Tied x ps) rank h l = ((λ p a. h p.first p.second (inl (record { pair = p; among = a; first = refl; second = refl }))), is_ranked x rank (λ u v q. h u v (inr q)) l)
  is_ranked (Walk n g xs) rank h l = tt

  row_ranked : (xs : Expansions) (rank : ℕ → ℕ) → ((u v : ℕ) → PrecedesInRow xs u v → rank u < rank v) → HaveAllLoopsRank xs → AreRankedInRow rank xs
  row_ranked no_parts rank h l = tt
  row_ranked (part_and x xs) rank h l = (
    is_ranked x rank (λ u v p. h u v (inr (inl p))) l.0,
    (λ e a b i j at. h a.number b.number (inl (e, record { earlier = a; later = b; among_first = i; among_second = j; at_one = at; first = refl; second = refl }))),
    row_ranked xs rank (λ u v p. h u v (inr (inr p))) l.1,
  )

  each_ranked : (xs : Expansions) (rank : ℕ → ℕ) → ((u v : ℕ) → PrecedesInOne xs u v → rank u < rank v) → HaveAllLoopsRank xs → AreRanked rank xs
  each_ranked no_parts rank h l = tt
  each_ranked (part_and x xs) rank h l = (is_ranked x rank (λ u v p. h u v (inl p)) l.0, each_ranked xs rank (λ u v p. h u v (inr p)) l.1)

-- what is ranked has ranks that rise, and so have the turns of its loops
pub has_rank : (x : Expansion) (rank : ℕ → ℕ) → IsRanked rank x → HasRank x
has_rank x rank r = record { rank = rank; rises = rises rank x r }

steps_rise : (x : Expansion) (k : HasRank x) (u v : ℕ) → ComesBefore x u v → k.rank u < k.rank v
steps_rise x k _ _ (next u v p) = k.rises u v p
steps_rise x k _ _ (further u v w p h) = let one = k.rises u v p in let more = steps_rise x k v w h in omega (arith, one, more)

pub no_round : (x : Expansion) → HasRank x → HasRound x → ⊥
no_round x k c = let up = steps_rise x k c.number c.number c.round in omega (arith, up)

mutual
  pub no_loop_round : (x : Expansion) (rank : ℕ → ℕ) → IsRanked rank x → HasLoopRound x → ⊥
  no_loop_round (Event e) rank r h = h
  no_loop_round (InRow xs) rank r h = no_row_round xs rank r h
  no_loop_round (Aside xs) rank r h = no_each_round xs rank r h
  no_loop_round (OneOf xs) rank r h = no_each_round xs rank r h
  no_loop_round (Exception x) rank r h = no_loop_round x rank r h
  no_loop_round (Turns n lower upper x) rank r (inl h) = no_round x (has_rank x r.0 r.1) h
  no_loop_round (Turns n lower upper x) rank r (inr h) = no_loop_round x r.0 r.1 h
  no_loop_round (Tied x ps) rank r h = no_loop_round x rank r.1 h
  no_loop_round (Walk n g xs) rank r h = h

  no_row_round : (xs : Expansions) (rank : ℕ → ℕ) → AreRankedInRow rank xs → HasSomeLoopRound xs → ⊥
  no_row_round no_parts rank r h = h
  no_row_round (part_and x xs) rank r (inl h) = no_loop_round x rank r.0 h
  no_row_round (part_and x xs) rank r (inr h) = no_row_round xs rank r.2 h

  no_each_round : (xs : Expansions) (rank : ℕ → ℕ) → AreRanked rank xs → HasSomeLoopRound xs → ⊥
  no_each_round no_parts rank r h = h
  no_each_round (part_and x xs) rank r (inl h) = no_loop_round x rank r.0 h
  no_each_round (part_and x xs) rank r (inr h) = no_each_round xs rank r.1 h

pub no_ranks : (x : Expansion) → HasRound x ⊎ HasLoopRound x → CanBeRanked x → ⊥
no_ranks x (inl h) k = no_round x (has_rank x k.rank k.ranked) h
no_ranks x (inr h) k = no_loop_round x k.rank k.ranked h

pub can_rank : (x : Expansion) → HasRank x → HaveLoopsRank x → CanBeRanked x
can_rank x k l = record { rank = k.rank; ranked = is_ranked x k.rank k.rises l }
