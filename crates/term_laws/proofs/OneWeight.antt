-- What an event leaves of a single term weighs little more than the term.
use Rattle.std.specs.Prelude.{ℕ, zero, ◌+◌, ◌≤◌, ◌<◌, Bool, List, ◌≡◌, Some}
use Rattle.std.proofs.Common.{arith}
use Rattle.msc_base.specs.Patterns.{Mode, seq, par}
use Rattle.chart_term.specs.NormalForms.{NetPermits, only, numbers, kept_pairs, loop_of}
use Rattle.chart_term.specs.Properties.{EachTurn}
use Rattle.chart_term.specs.TermPatterns.{instances_of, earlier}
use Rattle.chart_term.specs.Terms.{TermEvent, Tree, Nil, Event, Join, Choice, Tied, Loop, Walk, Trees, none, more, Part, parts, weight}
use Rattle.chart_term.specs.Spreads.{touch}
use Rattle.term_laws.specs.Permission.{permit}
use Rattle.term_laws.specs.Taking.{Stays, fewer, down, IsAfter, after_event, after_choice, after_join, after_tied, after_loop, after_walk, IsAfterOne, first_one, later_one, IsAfterJoin, first_part, later_part, IsAfterRow, in_turn, in_gap, past_turn, past_gap}
use Rattle.term_laws.proofs.Single.{Single, SingleAll, Begun, permit_begun, turns_begun}
use Rattle.term_laws.proofs.Ranking.{rank, ranks, row_rank, list_rank, parts_rank, ranks-items, rank-parts, join_rank, turns_rank, tie_rank, kept_length, at_some, permit_rank, weight_rank}
use Rattle.term_laws.proofs.Steady.{Plain, PlainAll}

-- nets weigh nothing
abbrev no_net : ℕ → ℕ
no_net n = 0

-- a plain term has no loop operand
mutual
  plain_zero : (m : ℕ) (x : Tree) → Plain x → Single m x → Single zero x
  plain_zero m Nil h s = tt
  plain_zero m (Event e) h s = tt
  plain_zero m (Join n xs) h s = (plains_zero m xs h s.0, s.1)
  plain_zero m (Choice xs) h s = absurd h
  plain_zero m (Tied x q) h s = plain_zero m x h s
  plain_zero m (Loop x lo hi r) h s = absurd h
  plain_zero m (Walk n f t c) h s = absurd h

  plains_zero : (m : ℕ) (xs : Trees) → PlainAll xs → SingleAll m xs → SingleAll zero xs
  plains_zero m none h s = tt
  plains_zero m (more x xs) h s = (plain_zero m x h.0 s.0, plains_zero m xs h.1 s.1)

module _ (k : NetPermits) where
  abbrev R : Tree → ℕ
  R x = rank no_net x

  falls : (c : List ℕ) (x y : Tree) → permit k (only c) x ≡ Some y → R y ≤ R x
  falls c x y e = permit_rank k no_net (only c) x y e

  stays_rank : (n : Mode) (e : TermEvent) (x y : Tree) → Stays k n e x y → R y ≤ R x
  stays_rank seq e x y s = falls (instances_of e).instances x y s
  stays_rank par e x y s = rw s (omega arith)

  mutual
    after_rank : (m : ℕ) {x y : Tree} {e : TermEvent} → IsAfter k x e y → Single m x → R y ≤ R x + m
    after_rank m after_event h = omega arith
    after_rank m (after_choice a) h = let l = one_rank m a h.0 in omega arith
    after_rank m (after_join {m = n} {ys = ys} a) h = let l = part_rank m a h.0 in omega (arith, join_rank k no_net n ys)
    after_rank m (after_tied {x = x} {y = y} {z = z} {q = q} {e = e} a p) h =
        let l = after_rank m a h in
        let i = permit_rank k no_net (earlier q e) y z p in
        omega (arith, tie_rank k no_net z (kept_pairs (numbers z) q), kept_length k no_net (numbers z) q)
    after_rank m (after_loop {x = x} {z = z} {lo = lo} {hi = hi} {r = r} b {ps = ps} a g p) h =
        let l = row_after_rank m a h.0 h.2 (turns_begun m k r h.1) in
        let i : parts_rank k no_net (parts r) ≡ row_rank no_net r = rank-parts k no_net r in
        let j : R z ≤ 1 + R x + (row_rank no_net r + m) =
        at_some k no_net (loop_of (λ c. permit k (only c) x) (touch k.spread x) x (down b lo) (fewer b hi) ps) z (1 + R x + (row_rank no_net r + m)) p
        (turns_rank k no_net (λ c. permit k (only c) x) (touch k.spread x) x (down b lo) (fewer b hi) ps (row_rank no_net r + m) (omega arith)) in
        omega arith
    after_rank m (after_walk n p a l1 l2 q r) h = absurd h

    one_rank : (m : ℕ) {xs : Trees} {y : Tree} {e : TermEvent} → IsAfterOne k xs e y → SingleAll m xs → R y ≤ ranks no_net xs + m
    one_rank m (first_one a) h = let l = after_rank m a h.0 in omega arith
    one_rank m (later_one a) h = let l = one_rank m a h.1 in omega arith

    part_rank : (m : ℕ) {n : Mode} {xs : Trees} {ys : List Tree} {e : TermEvent} → IsAfterJoin k n xs e ys → SingleAll m xs → list_rank k no_net ys ≤ ranks no_net xs + m
    part_rank m (first_part {xs = xs} a) h = let l = after_rank m a h.0 in omega (arith, ranks-items k no_net xs)
    part_rank m (later_part {m = n} {x = x} {x' = y} {e = e} s a) h = let l = part_rank m a h.1 in omega (arith, stays_rank n e x y s)

    row_after_rank : (m : ℕ) {x : Tree} {b : Bool} {ps qs : List Part} {e : TermEvent} → IsAfterRow k x b ps e qs → Begun m x → weight x < m → EachTurn (Begun m) ps → parts_rank k no_net qs ≤ parts_rank k no_net ps + m
    row_after_rank m (in_turn a) h w d = let l = after_rank m a d.0.1 in omega arith
    row_after_rank m (in_gap {x = x} {y = y} {z = z} {c = c} p a) h w d =
        let i = permit_begun m k (only c) x y p h in
        let l = after_rank zero a (plain_zero m y i.0 i.1) in
        let j = falls c x y p in
        let v = weight_rank x in
        omega arith
    row_after_rank m (past_turn {y = y} {z = z} {e = e} p a) h w d = let l = row_after_rank m a h w d.1 in let i = falls (instances_of e).instances y z p in omega arith
    row_after_rank m (past_gap a) h w d = let l = row_after_rank m a h w d in omega arith

  pub after_weight : (m : ℕ) {x y : Tree} {e : TermEvent} → IsAfter k x e y → Single m x → weight y ≤ weight x + m
  after_weight m {x = x} {y = y} a h = let l = after_rank m a h in let i = weight_rank x in let j = weight_rank y in omega arith
