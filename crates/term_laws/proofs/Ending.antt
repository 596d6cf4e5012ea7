-- A term may end exactly where it has the empty pattern, with a walk to any node read as finished.
use Rattle.std.specs.Prelude.{ℕ, zero, suc, ◌≤◌, false, List, [], ◌∷◌, ◌≡◌, Option, Some, None, refl, ◌⊎◌}
use Rattle.std.proofs.Common.{arith, inl, inr}
use Rattle.msc_base.specs.Patterns.{Mode, empty, one, join, bind}
use Rattle.hmsc_graph.specs.Graphs.{Spot, Goal, To, End, Any}
use Rattle.chart_term.specs.NormalForms.{only}
use Rattle.chart_term.specs.TermMeanings.{NetTerms, UpTo, MayStop, HasPattern, has_nil, has_event, has_join, has_choice, holds_tie, holds_loop, holds_walk, HasParts, no_part, one_part, HasChoice, this_one, that_one, HasRow, gaps_end, gaps_turn, gaps_shut, gaps_more, HasWalk, walk_stop, walk_last, walk_step}
use Rattle.chart_term.specs.TermPatterns.{Shape, Avoids, HasNoEvent}
use Rattle.chart_term.specs.Terms.{Tree, Nil, Event, Join, Choice, Tied, Loop, Walk, Trees, none, more, Row, ends, gap, turn, items, Part, Gap, Turn, parts}
use Rattle.term_laws.specs.Taking.{HasGap, past_gap, EndLoop, end_none, EndOne, end_trail, end_choice, end_nil, end_that, EndWalk, end_more, one_turn, inner_edge, last_edge, no_turns, end_bound, end_join, MayEnd, end_turns, end_this, end_zero, EndAll}

no_event_avoids : (c : List ℕ) (s : Shape) → HasNoEvent s → Avoids (only c) s
no_event_avoids c empty h = tt
no_event_avoids c (join m x y) h = (no_event_avoids c x h.0, no_event_avoids c y h.1)
no_event_avoids c (bind x q) h = no_event_avoids c x h
no_event_avoids c (one e) h = absurd h

module _ (w : NetTerms) where
  abbrev Quiet : Tree → Type 0
  Quiet x = (s : Shape) × HasPattern w false x s × HasNoEvent s

  abbrev QuietRow : Tree → List Part → ℕ → Type 0
  QuietRow x ps n = (s : Shape) × HasRow w false x ps n s × HasNoEvent s

  more_turns : (x : Tree) (ps : List Part) → HasGap ps → Quiet x → (n : ℕ) → QuietRow x ps n → QuietRow x ps (suc n)
  more_turns x [] g q n r = elim g [ ]
  more_turns x (Gap c ∷ ps) g q n r = (_, gaps_more q.1 (no_event_avoids c q.0 q.2) r.1, (q.2, r.2))
  more_turns x (Turn y ∷ ps) g q n (s, gaps_turn a r, h) = let k = more_turns x ps g q n (_, r, h.1) in (_, gaps_turn a k.1, (h.0, k.2))

  any_turns : (x : Tree) (ps : List Part) → HasGap ps → Quiet x → (n : ℕ) → QuietRow x ps zero → QuietRow x ps n
  any_turns x ps g q zero r = r
  any_turns x ps g q (suc n) r = more_turns x ps g q n (any_turns x ps g q n r)

  zero_fits : (hi : Option ℕ) → UpTo hi zero
  zero_fits None = tt
  zero_fits (Some n) = omega arith

  -- every loop's lower count is at most its upper count, in the terms of such nets too
  module _ (N : ℕ → Type 0) where
    abbrev mutual
      pub Counts : Tree → Type 0
      Counts Nil = Unit {0}
      Counts (Event e) = Unit {0}
      Counts (Join m xs) = CountsAll xs
      Counts (Choice xs) = CountsAll xs
      Counts (Tied x q) = Counts x
      Counts (Loop x lo hi r) = Counts x × CountsRow r × UpTo hi lo
      Counts (Walk n f t c) = N n

      pub CountsAll : Trees → Type 0
      CountsAll none = Unit {0}
      CountsAll (more x xs) = Counts x × CountsAll xs

      pub CountsRow : Row → Type 0
      CountsRow ends = Unit {0}
      CountsRow (gap c r) = CountsRow r
      CountsRow (turn x r) = Counts x × CountsRow r

    abbrev CountsIn : List Tree → Type 0
    CountsIn [] = Unit {0}
    CountsIn (x ∷ xs) = Counts x × CountsIn xs

    abbrev CountsOf : List Part → Type 0
    CountsOf [] = Unit {0}
    CountsOf (Gap c ∷ ps) = CountsOf ps
    CountsOf (Turn x ∷ ps) = Counts x × CountsOf ps

    counts_in : (xs : Trees) → CountsAll xs → CountsIn (items xs)
    counts_in none h = tt
    counts_in (more x xs) h = (h.0, counts_in xs h.1)

    counts_of : (r : Row) → CountsRow r → CountsOf (parts r)
    counts_of ends h = tt
    counts_of (gap c r) h = counts_of r h
    counts_of (turn x r) h = (h.0, counts_of r h.1)

    module _ (nodes : (n m : ℕ) → N n → Counts (w.node n m)) where
      mutual
        pub end_sound : {x : Tree} → MayEnd w x → Counts x → Quiet x
        end_sound end_nil g = (empty, has_nil, tt)
        end_sound (end_join {m = m} {xs = xs} h) g = let k = all_sound m h (counts_in xs g) in (k.0, has_join k.1, k.2)
        end_sound (end_choice {xs = xs} h) g = let k = one_sound h (counts_in xs g) in (k.0, has_choice k.1, k.2)
        end_sound (end_bound {q = q} h) g = let k = end_sound h g in (bind k.0 q, holds_tie k.1, k.2)
        end_sound (end_zero {x = x} {hi = hi} {r = r} h) g = let k = turns_sound x h (counts_of r g.1) in (k.0, holds_loop zero k.1 (omega arith) (zero_fits hi), k.2)
        end_sound (end_turns {x = x} {lo = lo} {hi = hi} {r = r} h p e) g =
            let k = any_turns x (parts r) p (end_sound e g.0) lo (turns_sound x h (counts_of r g.1)) in
            (k.0, holds_loop lo k.1 (omega arith) g.2, k.2)
        end_sound (end_trail {c = c} h) g = let k = walk_sound c h g in (k.0, holds_walk k.1, k.2)

        all_sound : {xs : List Tree} (m : Mode) → EndAll w xs → CountsIn xs → (s : Shape) × HasParts w false m xs s × HasNoEvent s
        all_sound m end_none g = (empty, no_part, tt)
        all_sound m (end_more h r) g = let k = end_sound h g.0 in let l = all_sound m r g.1 in (_, one_part k.1 l.1, (k.2, l.2))

        one_sound : {xs : List Tree} → EndOne w xs → CountsIn xs → (s : Shape) × HasChoice w false xs s × HasNoEvent s
        one_sound (end_this h) g = let k = end_sound h g.0 in (k.0, this_one k.1, k.2)
        one_sound (end_that h) g = let k = one_sound h g.1 in (k.0, that_one k.1, k.2)

        turns_sound : {ps : List Part} (x : Tree) → EndLoop w ps → CountsOf ps → QuietRow x ps zero
        turns_sound x no_turns g = (empty, gaps_end, tt)
        turns_sound x (past_gap h) g = let k = turns_sound x h g in (k.0, gaps_shut k.1, k.2)
        turns_sound x (one_turn h r) g = let k = end_sound h g.0 in let l = turns_sound x r g.1 in (_, gaps_turn k.1 l.1, (k.2, l.2))

        walk_sound : {n : ℕ} {f : Spot} {t : Goal} (c : List ℕ) → EndWalk w n f t → N n → (s : Shape) × HasWalk w false n f t c s × HasNoEvent s
        walk_sound c (last_edge m i a) g = (empty, walk_last m i a, tt)
        walk_sound {n = n} c (inner_edge m i h r) g = let k = end_sound h (nodes n m g) in let l = walk_sound c r g in (_, walk_step m i k.1 (no_event_avoids c k.0 k.2) l.1, (k.2, l.2))

  some_gap : (x : Tree) (ps : List Part) (n : ℕ) (c : List ℕ) → ((n ≡ zero) ⊎ (HasGap ps × MayEnd w x)) → (n ≡ zero) ⊎ (HasGap (Gap c ∷ ps) × MayEnd w x)
  some_gap x ps n c (inl e) = inl e
  some_gap x ps n c (inr q) = inr (tt, q.1)

  no_stop : (t : Goal) → MayStop t false → ⊥
  no_stop Any p = p
  no_stop End p = p
  no_stop (To m) p = p

  pair_end : {x : Tree} {hi : Option ℕ} {r : Row} (n lo : ℕ) → lo ≤ n → EndLoop w (parts r) → ((n ≡ zero) ⊎ (HasGap (parts r) × MayEnd w x)) → MayEnd w (Loop x lo hi r)
  pair_end n zero l h q = end_zero h
  pair_end n (suc lo) l h (inl e) = absurd (omega arith)
  pair_end n (suc lo) l h (inr q) = end_turns h q.0 q.1

  mutual
    pub end_whole : {x : Tree} {s : Shape} → HasPattern w false x s → HasNoEvent s → MayEnd w x
    end_whole has_nil h = end_nil
    end_whole has_event h = absurd h
    end_whole (has_join a) h = end_join (all_whole a h)
    end_whole (has_choice a) h = end_choice (one_whole a h)
    end_whole (holds_tie a) h = end_bound (end_whole a h)
    end_whole (holds_loop {lo = lo} n a l u) h = let k = gaps_whole a h in pair_end n lo l k.0 k.1
    end_whole (holds_walk a) h = end_trail (walk_whole a h)

    all_whole : {m : Mode} {xs : List Tree} {s : Shape} → HasParts w false m xs s → HasNoEvent s → EndAll w xs
    all_whole no_part h = end_none
    all_whole (one_part a r) h = end_more (end_whole a h.0) (all_whole r h.1)

    one_whole : {xs : List Tree} {s : Shape} → HasChoice w false xs s → HasNoEvent s → EndOne w xs
    one_whole (this_one a) h = end_this (end_whole a h)
    one_whole (that_one a) h = end_that (one_whole a h)

    gaps_whole : {x : Tree} {ps : List Part} {n : ℕ} {s : Shape} → HasRow w false x ps n s → HasNoEvent s → EndLoop w ps × ((n ≡ zero) ⊎ (HasGap ps × MayEnd w x))
    gaps_whole gaps_end h = (no_turns, inl refl)
    gaps_whole (gaps_turn a r) h = let k = gaps_whole r h.1 in (one_turn (end_whole a h.0) k.0, k.1)
    gaps_whole (gaps_shut {x = x} {c = c} {ps = ps} {n = n} r) h = let k = gaps_whole r h in (past_gap k.0, some_gap x ps n c k.1)
    gaps_whole (gaps_more a av r) h = let k = gaps_whole r h.1 in (k.0, inr (tt, end_whole a h.0))

    walk_whole : {n : ℕ} {f : Spot} {t : Goal} {c : List ℕ} {s : Shape} → HasWalk w false n f t c s → HasNoEvent s → EndWalk w n f t
    walk_whole {t = t} (walk_stop p) h = absurd (no_stop t p)
    walk_whole (walk_last m i a) h = last_edge m i a
    walk_whole (walk_step m i a av r) h = inner_edge m i (end_whole a h.0) (walk_whole r h.1)
