-- Wherever an event can be taken out of a pattern, a term is left that has what is left of the pattern.
use Rattle.std.specs.Prelude.{ℕ, zero, suc, ◌≤◌, Bool, true, false, List, [], ◌∷◌, ◌≡◌, Option, Some, None, ◌==◌, refl}
use Rattle.std.proofs.Common.{ap, arith, inl, inr}
use Rattle.std.proofs.lemmas.Bool.Decides.{nat_tests}
use Rattle.msc_base.specs.Patterns.{Mode, seq, par, empty, join, bind}
use Rattle.hmsc_graph.specs.Graphs.{Spot, At, Goal, To, End, Any}
use Rattle.hmsc_graph.specs.Walks.{Leads}
use Rattle.msc_base.specs.Lists.{IsIn}
use Rattle.chart_term.specs.NormalForms.{NetPermits, only, join_all, loop_of, walk_of, allowed, tie_of}
use Rattle.chart_term.specs.TermMeanings.{NetTerms, UpTo, HasPattern, has_nil, has_event, has_join, has_choice, holds_tie, holds_loop, holds_walk, HasParts, no_part, one_part, HasChoice, this_one, that_one, HasRow, gaps_end, gaps_turn, gaps_shut, gaps_more, walk_stop, walk_last, walk_step, PatternsOf, Leaves, terms_of}
use Rattle.chart_term.specs.TermPatterns.{Shape, Avoids, Lets, Takes, take_one, take_first, take_later, take_bind, ◌≈◌, same, back, on, in_join, in_bind, assoc, left, right, instances_of, earlier}
use Rattle.chart_term.specs.Terms.{TermEvent, Block, Tree, Nil, Event, Join, Choice, Tied, Loop, Walk, Trees, none, more, Row, ends, gap, turn, items, Part, Gap, Turn, parts, ◌∪◌}
use Rattle.chart_term.proofs.Instances.{cut_avoids, both_avoids}
use Rattle.chart_term.proofs.Joining.{join_from}
use Rattle.chart_term.proofs.Looping.{Rows, turns_from}
use Rattle.chart_term.proofs.Sameness.{avoids, follows, avoids_left}
use Rattle.chart_term.proofs.Walking.{IsExactNet, Walks, trail_from, walk_from}
use Rattle.chart_term.specs.Spreads.{touch}
use Rattle.term_laws.specs.Permission.{permit}
use Rattle.term_laws.specs.Taking.{Stays, fewer, down, HasMore, IsAfter, after_event, after_choice, after_join, after_tied, after_loop, after_walk, IsAfterOne, first_one, later_one, IsAfterJoin, first_part, later_part, IsAfterRow, in_turn, in_gap, past_turn, past_gap}
use Rattle.term_laws.proofs.Permitting.{permit_law, only_fits, inside}
use Rattle.term_laws.proofs.Ranking.{rank, ranks, row_rank}
use Rattle.term_laws.proofs.TakingSound.{IsClosed, IsTurnOf, IsLower}
use Rattle.chart_term.proofs.Binding.{bound_from}

module _ (k : NetPermits) (node : ℕ → ℕ → Tree) (o : Bool) where
  abbrev w : NetTerms
  w = terms_of k node

  some_left : (r : Option Tree) (s : Shape) → PatternsOf w o r s → (y : Tree) × (r ≡ Some y) × HasPattern w o y s
  some_left None s h = absurd h
  some_left (Some y) s h = (y, refl, h)

  abbrev pub Left : Tree → TermEvent → Shape → Type 0
  Left x e t = (y : Tree) × IsAfter k x e y × (s : Shape) × HasPattern w o y s × (t ≈ s)

  abbrev LeftParts : Mode → Trees → TermEvent → Shape → Type 0
  LeftParts m xs e t = (ys : List Tree) × IsAfterJoin k m xs e ys × (s : Shape) × HasParts w o m ys s × (t ≈ s)

  abbrev LeftOne : Trees → TermEvent → Shape → Type 0
  LeftOne xs e t = (y : Tree) × IsAfterOne k xs e y × (s : Shape) × HasPattern w o y s × (t ≈ s)

  abbrev LeftRow : Tree → List Part → ℕ → TermEvent → Shape → Type 0
  LeftRow x ps n e t = (b : Bool) × (qs : List Part) × (m : ℕ) × IsAfterRow k x b ps e qs × IsLower b n m × (s : Shape) × Rows w o x qs m s × (t ≈ s)

  abbrev LeftWalk : ℕ → Spot → Goal → List ℕ → TermEvent → Shape → Type 0
  LeftWalk n f t c e z = (m : ℕ) × (x : Tree) × (y : Tree) × (k.kept n m c ≡ Some x) × IsAfter k x e y × (p : Shape) × (q : Shape) × (v : Shape)
      × Walks k node o n f (To m) (c ∪ (instances_of e).instances) p × HasPattern w o y q × Walks k node o n (At m) t c v × (z ≈ join seq p (join seq q v))

  module _ (IsGood : Tree → Type 0) (closed : IsClosed k node o IsGood) (nr : ℕ → ℕ)
      (permit_rank : (b : Block) (x y : Tree) → permit k b x ≡ Some y → rank nr y ≤ rank nr x)
      (kept_rank : (n m : ℕ) (c : List ℕ) (x : Tree) → k.kept n m c ≡ Some x → rank nr x ≤ nr n) where
    leaves : (x : Tree) → IsGood x → (c : List ℕ) → Leaves w o (only c) x (permit k (only c) x)
    leaves x g c = permit_law k node o x (closed.held.ok x g) (only c) (only_fits k node o c x)

    -- the claim for all terms up to a rank
    abbrev Claim : ℕ → Type 0
    Claim n = (x : Tree) → rank nr x ≤ n → IsGood x → (s : Shape) (e : TermEvent) (t : Shape) → HasPattern w o x s → Takes s e t → Left x e t

    stays_whole : (m : Mode) (x : Tree) → IsGood x → (e : TermEvent) (s : Shape) → HasPattern w o x s → Lets m e s → (x' : Tree) × Stays k m e x x' × (t : Shape) × HasPattern w o x' t × (s ≈ t)
    stays_whole seq x g e s a h =
        let i = (leaves x g (instances_of e).instances).whole s (a, h) in
        let j = some_left (permit k (only (instances_of e).instances) x) i.0 i.1 in
        (j.0, j.1, i.0, j.2, i.2)
    stays_whole par x g e s a h = (x, refl, s, a, same)

    parts_whole : (n : ℕ) → Claim n → (m : Mode) (xs : Trees) → ranks nr xs ≤ n → IsGood (Join m xs) → (s : Shape) (e : TermEvent) (t : Shape) → HasParts w o m (items xs) s → Takes s e t → LeftParts m xs e t
    parts_whole n ih m none l g s e t no_part h = elim h [ ]
    parts_whole n ih m (more x xs) l g s e t (one_part {t = u} a r) (take_first h) =
        let i = ih x (omega arith) (closed.held.joined m x xs g).0 _ e _ a h in
        (i.0 ∷ items xs, first_part i.1, join m i.2 u, one_part i.3 r, in_join i.4 same)
    parts_whole n ih m (more x xs) l g s e t (one_part a r) (take_later p h) =
        let i = stays_whole m x (closed.held.joined m x xs g).0 e _ a p in
        let j = parts_whole n ih m xs (omega arith) (closed.held.joined m x xs g).1 _ e _ r h in
        (i.0 ∷ j.0, later_part i.1 j.1, join m i.2 j.2, one_part i.3 j.3, in_join i.4 j.4)

    one_whole : (n : ℕ) → Claim n → (xs : Trees) → ranks nr xs ≤ n → IsGood (Choice xs) → (s : Shape) (e : TermEvent) (t : Shape) → HasChoice w o (items xs) s → Takes s e t → LeftOne xs e t
    one_whole n ih none l g s e t a h = elim a [ ]
    one_whole n ih (more x xs) l g s e t (this_one a) h = let i = ih x (omega arith) (closed.held.chosen x xs g).0 s e t a h in (i.0, first_one i.1, i.2, i.3, i.4)
    one_whole n ih (more x xs) l g s e t (that_one a) h = let i = one_whole n ih xs (omega arith) (closed.held.chosen x xs g).1 s e t a h in (i.0, later_one i.1, i.2, i.3, i.4)

    -- rows: the claim for each begun turn
    abbrev Turned : List Part → Type 0
    Turned [] = Unit {0}
    Turned (Gap c ∷ ps) = Turned ps
    Turned (Turn y ∷ ps) = (IsGood y × ((s : Shape) (e : TermEvent) (t : Shape) → HasPattern w o y s → Takes s e t → Left y e t)) × Turned ps

    rows_whole : (x : Tree) → IsGood x → ((y : Tree) (c : List ℕ) → permit k (only c) x ≡ Some y → (s : Shape) (e : TermEvent) (t : Shape) → HasPattern w o y s → Takes s e t → Left y e t)
        → (ps : List Part) → Turned ps → (n : ℕ) (s : Shape) (e : TermEvent) (t : Shape) → HasRow w o x ps n s → Takes s e t → LeftRow x ps n e t
    rows_whole x g f ps d n s e t gaps_end h = elim h [ ]
    rows_whole x g f ps d n s e t (gaps_turn {y = y} {ps = qs} {u = u} a r) (take_first h) =
        let i = d.0.1 _ e _ a h in
        (false, Turn i.0 ∷ qs, n, in_turn i.1, refl, join seq i.2 u, gaps_turn i.3 r, in_join i.4 same)
    rows_whole x g f ps d n s e t (gaps_turn {y = y} {ps = qs} a r) (take_later p h) =
        let i = stays_whole seq y d.0.0 e _ a p in
        let j = rows_whole x g f qs d.1 n _ e _ r h in
        (j.0, Turn i.0 ∷ j.1, j.2, past_turn i.1 j.3, j.4, join seq i.2 j.5, gaps_turn i.3 j.6, in_join i.4 j.7)
    rows_whole x g f ps d n s e t (gaps_shut {c = c} {ps = qs} r) h =
        let j = rows_whole x g f qs d n s e t r h in
        (j.0, Gap (c ∪ (instances_of e).instances) ∷ j.1, j.2, past_gap j.3, j.4, j.5, gaps_shut j.6, j.7)
    rows_whole x g f ps d n s e t (gaps_more {c = c} {ps = qs} {n = m} {u = u} a av r) (take_first h) =
        let i = (leaves x g c).whole _ (a, av) in
        let y = some_left (permit k (only c) x) i.0 i.1 in
        let z = (follows i.2).0 e _ h in
        let j = f y.0 c y.1 i.0 e z.0 y.2 z.1 in
        (true, Gap (c ∪ (instances_of e).instances) ∷ Turn j.0 ∷ Gap c ∷ qs, m, in_gap y.1 j.1, refl, join seq j.2 u, gaps_shut (gaps_turn j.3 r), in_join (on z.2 j.4) same)
    rows_whole x g f ps d n s e t (gaps_more {c = c} {ps = qs} {n = m} {s = v} a av r) (take_later p h) =
        let j = rows_whole x g f (Gap c ∷ qs) d m _ e _ r h in
        let i = put_front c qs m j.0 j.1 j.2 j.3 j.4 j.5 j.6 v a av p in
        (j.0, j.1, suc j.2, j.3, i.0, join seq v j.5, i.1, in_join same j.7)
      where
        lift : (b : Bool) (n m : ℕ) → IsLower b n m → IsLower b (suc n) (suc m)
        lift true n m q = ap suc q
        lift false n m q = ap suc q

        put_front : (c : List ℕ) (qs : List Part) (m : ℕ) (b : Bool) (rs : List Part) (i : ℕ) → IsAfterRow k x b (Gap c ∷ qs) e rs → IsLower b m i → (u : Shape) → Rows w o x rs i u → (v : Shape) → HasPattern w o x v → Avoids (only c) v → Avoids (instances_of e) v → IsLower b (suc m) (suc i) × Rows w o x rs (suc i) (join seq v u)
        put_front c qs m b rs i (in_gap p q) l u r v a av p' = (lift b m i l, gaps_more a ((both_avoids c (instances_of e).instances v).from (av, p')) r)
        put_front c qs m b rs i (past_gap q) l u r v a av p' = (lift b m i l, gaps_more a ((both_avoids c (instances_of e).instances v).from (av, p')) r)

    -- the counts
    low_down : (b : Bool) (lo n m : ℕ) → IsLower b n m → lo ≤ n → down b lo ≤ m
    low_down true lo n m h l = omega arith
    low_down false lo n m h l = omega arith

    high_down : (b : Bool) (hi : Option ℕ) (n m : ℕ) → IsLower b n m → UpTo hi n → UpTo (fewer b hi) m
    high_down b None n m h l = tt
    high_down true (Some i) n m h l = omega arith
    high_down false (Some i) n m h l = omega arith

    has_more : (b : Bool) (hi : Option ℕ) (n m : ℕ) → IsLower b n m → UpTo hi n → HasMore b hi
    has_more true None n m h l = tt
    has_more true (Some zero) n m h l = absurd (omega arith)
    has_more true (Some (suc i)) n m h l = tt
    has_more false hi n m h l = tt

    loop_whole : (x : Tree) (lo : ℕ) (hi : Option ℕ) (r : Row) → IsGood (Loop x lo hi r) → (n : ℕ) (e : TermEvent) (t : Shape) → lo ≤ n → UpTo hi n → LeftRow x (parts r) n e t → Left (Loop x lo hi r) e t
    loop_whole x lo hi r g n e t l u (b, qs, m, h, c, s, a, q) =
        let gx = closed.held.operand x lo hi r g in
        let okx = closed.held.ok x gx in
        let i = turns_from w o x (λ c. permit k (only c) x) (leaves x gx) (touch k.spread x)
        (λ c s a. (cut_avoids (touch k.spread x) c s (inside k node o x okx s a)).to) (λ c s a. (cut_avoids (touch k.spread x) c s (inside k node o x okx s a)).from)
        (down b lo) (fewer b hi) qs (closed.falls x b lo hi r e qs g h) s (m, a, low_down b lo n m c l, high_down b hi n m c u) in
        let j = some_left (loop_of (λ c. permit k (only c) x) (touch k.spread x) x (down b lo) (fewer b hi) qs) i.0 i.1 in
        (j.0, after_loop b h (has_more b hi n m c u) j.1, i.0, j.2, on q i.2)

    turned : (n : ℕ) → Claim n → (x : Tree) (lo : ℕ) (hi : Option ℕ) (r : Row) → IsGood (Loop x lo hi r) → (ps : List Part) (q : Row) → parts q ≡ ps → row_rank nr q ≤ n → ((y : Tree) → IsTurnOf y ps → IsTurnOf y (parts r)) → Turned (parts q)
    turned n ih x lo hi r g ps ends e l f = tt
    turned n ih x lo hi r g ps (gap c q) e l f = turned n ih x lo hi r g (parts q) q refl (omega arith) (λ y i. f y (rw (← e) i))
    turned n ih x lo hi r g ps (turn y q) e l f = (
      (closed.held.begun x lo hi y r g (f y (rw (← e) (inl refl))), λ s v t a h. ih y (omega arith) (closed.held.begun x lo hi y r g (f y (rw (← e) (inl refl)))) s v t a h),
      turned n ih x lo hi r g (parts q) q refl (omega arith) (λ z i. f z (rw (← e) (inr i))),
    )

    -- walks
    here : (m : ℕ) → (m == m) ≡ true
    here m = grind (arith, nat_tests)

    walks_whole : (n : ℕ) → IsExactNet k node o n → (c : List ℕ) → ((m : ℕ) (x : Tree) → IsIn m (k.nodes n) → k.kept n m c ≡ Some x → (s : Shape) (e : TermEvent) (t : Shape) → HasPattern w o x s → Takes s e t → Left x e t)
        → (f : Spot) (t : Goal) (s : Shape) (e : TermEvent) (z : Shape) → Walks k node o n f t c s → Takes s e z → LeftWalk n f t c e z
    walks_whole n fine c ih f t s e z (walk_stop p) h = elim h [ ]
    walks_whole n fine c ih f t s e z (walk_last m i p) h = elim h [ ]
    walks_whole n fine c ih f t s e z (walk_step m {u = u} i a av r) (take_first h) =
        let inm = fine.within f m i in
        let q = (fine.holds m inm c).whole _ (a, av) in
        let x = some_left (k.kept n m c) q.0 q.1 in
        let g = (follows q.2).0 e _ h in
        let j = ih m x.0 inm x.1 q.0 e g.0 x.2 g.1 in
        (m, x.0, j.0, x.1, j.1, empty, j.2, u, walk_last m i (here m), j.3, r, on (in_join (on g.2 j.4) same) (back left))
    walks_whole n fine c ih f t s e z (walk_step m {s = v} i a av r) (take_later p h) =
        let j = walks_whole n fine c ih (At m) t _ e _ r h in
        let (m', x, y, kx, ha, pp, q, u, wp, aq, wu, eq) = j in
        (m', x, y, kx, ha, join seq v pp, q, u, walk_step m i a ((both_avoids c (instances_of e).instances v).from (av, p)) wp, aq, wu, on (in_join same eq) (back assoc))

    leads : (n : ℕ) → IsExactNet k node o n → (f : Spot) (t : Goal) (c : List ℕ) (s : Shape) → Walks k node o n f t c s → Leads (k.net n) (allowed k n c) f t
    leads n fine f Any c s h = tt
    leads n fine f End c s h = walk_from k node o n fine End refl (λ q. q) c f s h
    leads n fine f (To m) c s h = walk_from k node o n fine (To m) refl (λ q. q) c f s h

    trail_whole : (n : ℕ) (f : Spot) (t : Goal) (c : List ℕ) → IsExactNet k node o n → (e : TermEvent) (z : Shape) → LeftWalk n f t c e z → Left (Walk n f t c) e z
    trail_whole n f t c fine e z (m, x, y, kx, ha, p, q, v, wp, aq, wv, eq) =
        let d = c ∪ (instances_of e).instances in
        let i = trail_from k node o n fine f (To m) d p wp in
        let j = trail_from k node o n fine (At m) t c v wv in
        let a = some_left (walk_of k n f (To m) d) i.0 i.1 in
        let b = some_left (walk_of k n (At m) t c) j.0 j.1 in
        let l = join_from w o seq (a.0 ∷ y ∷ b.0 ∷ []) (join seq i.0 (join seq q (join seq j.0 empty))) (one_part a.2 (one_part aq (one_part b.2 no_part))) in (
          join_all seq (a.0 ∷ y ∷ b.0 ∷ []),
          after_walk m kx ha (leads n fine f (To m) d p wp) (leads n fine (At m) t c v wv) a.1 b.1,
          l.0,
          l.1,
          on eq (on (in_join i.2 (in_join same (on j.2 (back right)))) l.2),
        )

    bound_whole : (x : Tree) (q : List (ℕ × ℕ)) (e : TermEvent) (t : Shape) → IsGood (Tied x q) → Avoids (earlier q e) t → Left x e t → Left (Tied x q) e (bind t q)
    bound_whole x q e t g a (y, h, s, p, m) =
        let i = (closed.fits x y q e g h).whole s (p, (avoids (earlier q e) m).to a) in
        let z = some_left (permit k (earlier q e) y) i.0 i.1 in
        let j = bound_from w o z.0 q (closed.shows x y z.0 q e g h z.1) (bind i.0 q) (holds_tie z.2) in
        (tie_of z.0 q, after_tied h z.1, j.0, j.1, on (in_bind (on m i.2)) j.2)

    no_rank : (x : Tree) → rank nr x ≤ zero → ⊥
    no_rank Nil l = omega arith
    no_rank (Event e) l = omega arith
    no_rank (Join m xs) l = omega arith
    no_rank (Choice xs) l = omega arith
    no_rank (Tied x q) l = omega arith
    no_rank (Loop x lo hi r) l = omega arith
    no_rank (Walk n f t c) l = omega arith

    step : (n : ℕ) → Claim n → Claim (suc n)
    step n ih Nil l g s e t has_nil h = elim h [ ]
    step n ih (Event e) l g s v t has_event take_one = (Nil, after_event, empty, has_nil, same)
    step n ih (Join m xs) l g s e t (has_join a) h =
        let i = parts_whole n ih m xs (omega arith) g s e t a h in
        let j = join_from w o m i.0 i.2 i.3 in
        (join_all m i.0, after_join i.1, j.0, j.1, on i.4 j.2)
    step n ih (Choice xs) l g s e t (has_choice a) h = let i = one_whole n ih xs (omega arith) g s e t a h in (i.0, after_choice i.1, i.2, i.3, i.4)
    step n ih (Tied x q) l g s e t (holds_tie a) (take_bind h p) = bound_whole x q e _ g (avoids_left (earlier q e) h p) (ih x (omega arith) (closed.held.tied x q g) _ e _ a h)
    step n ih (Loop x lo hi r) l g s e t (holds_loop i a low up) h =
        let gx = closed.held.operand x lo hi r g in
        loop_whole x lo hi r g i e t low up
        (rows_whole x gx (λ y c q s v t b u. let f = permit_rank (only c) x y q in ih y (omega arith) (closed.held.permitted c x y gx q) s v t b u)
        (parts r) (turned n ih x lo hi r g (parts r) r refl (omega arith) (λ y j. j)) i s e t a h)
    step n ih (Walk m f t c) l g s e z (holds_walk a) h =
        let fine = closed.held.ok (Walk m f t c) g in
        trail_whole m f t c fine e z
        (walks_whole m fine c (λ j x q kx s v u b p. let f' = kept_rank m j c x kx in ih x (omega arith) (closed.held.kept m f t c c j x g q kx) s v u b p) f t s e z a h)

    claim : (n : ℕ) → Claim n
    claim zero x l g s e t a h = absurd (no_rank x l)
    claim (suc n) x l g s e t a h = step n (claim n) x l g s e t a h

    pub after_whole : (x : Tree) → IsGood x → (s : Shape) (e : TermEvent) (t : Shape) → HasPattern w o x s → Takes s e t → Left x e t
    after_whole x g s e t a h = claim (rank nr x) x (omega arith) g s e t a h
