-- Terms in which every gap, choice and walk leaves something: each has a pattern.
use Rattle.std.specs.Prelude.{ℕ, zero, suc, ◌≤◌, true, List, [], ◌∷◌, ◌≡◌, Option, Some, None, refl}
use Rattle.std.proofs.Common.{ap, arith, inl, inr}
use Rattle.msc_base.specs.Patterns.{Mode, seq, empty, one, join, bind}
use Rattle.hmsc_graph.specs.Graphs.{Spot, At, Goal, To, End, Any, WalkThrough, last, step}
use Rattle.msc_base.specs.Lists.{IsIn}
use Rattle.hmsc_graph.proofs.Reaching.{reach_sound}
use Rattle.chart_term.specs.NormalForms.{NetPermits, only, allowed, has_gap, some_kept}
use Rattle.chart_term.specs.Properties.{Each, EachTurn, MayHave}
use Rattle.chart_term.specs.TermMeanings.{NetTerms, aim, HasPattern, has_nil, has_event, has_join, has_choice, holds_tie, holds_loop, holds_walk, HasParts, no_part, one_part, HasChoice, this_one, HasRow, gaps_end, gaps_turn, gaps_shut, gaps_more, HasWalk, walk_stop, walk_last, walk_step, terms_of}
use Rattle.chart_term.specs.TermPatterns.{Shape, Avoids}
use Rattle.chart_term.specs.Terms.{TermEvent, Block, Tree, Nil, Event, Join, Choice, Tied, Loop, Walk, Trees, none, more, Row, ends, gap, turn, items, trees, Part, Gap, Turn, parts, row_of}
use Rattle.chart_term.proofs.Lists.{parts-row_of}
use Rattle.chart_term.proofs.Walking.{IsExactNet, out_filter}
use Rattle.term_laws.specs.Permission.{permit}
use Rattle.term_laws.specs.Taking.{IsAfter}
use Rattle.term_laws.proofs.Keeping.{Kind, AliveAt, AliveGaps, Leading, permit_keeps, after_keeps}
use Rattle.term_laws.proofs.Permitting.{permit_law, only_fits}
use Rattle.term_laws.proofs.Ranking.{rank, ranks, row_rank}
use Rattle.term_laws.proofs.TakingSound.{IsHeld, IsTurnOf}

module _ (k : NetPermits) (NL : ℕ → Type 0) where
  abbrev pub Some_of : Trees → Type 0
  Some_of none = ⊥
  Some_of (more x xs) = Unit {0}

  abbrev mutual
    pub Live : Tree → Type 0
    Live Nil = Unit {0}
    Live (Event e) = Unit {0}
    Live (Join m xs) = LiveAll xs
    Live (Choice xs) = LiveAll xs × Some_of xs
    Live (Tied x q) = Live x
    Live (Loop x lo hi r) = Live x × LiveRow r × AliveGaps k x (parts r) × (has_gap (parts r) ≡ true)
    Live (Walk n f t c) = NL n × Leading k n f t c

    pub LiveAll : Trees → Type 0
    LiveAll none = Unit {0}
    LiveAll (more x xs) = Live x × LiveAll xs

    pub LiveRow : Row → Type 0
    LiveRow ends = Unit {0}
    LiveRow (gap c r) = LiveRow r
    LiveRow (turn x r) = Live x × LiveRow r

  live_in : (xs : List Tree) → Each Live xs → LiveAll (trees xs)
  live_in [] h = tt
  live_in (x ∷ xs) h = (h.0, live_in xs h.1)

  live_out : (xs : Trees) → LiveAll xs → Each Live (items xs)
  live_out none h = tt
  live_out (more x xs) h = (h.0, live_out xs h.1)

  live_row_in : (ps : List Part) → EachTurn Live ps → LiveRow (row_of ps)
  live_row_in [] h = tt
  live_row_in (Gap c ∷ ps) h = live_row_in ps h
  live_row_in (Turn x ∷ ps) h = (h.0, live_row_in ps h.1)

  live_row_out : (r : Row) → LiveRow r → EachTurn Live (parts r)
  live_row_out ends h = tt
  live_row_out (gap c r) h = live_row_out r h
  live_row_out (turn x r) h = (h.0, live_row_out r h.1)

  module _ (nets : (n m : ℕ) (d : List ℕ) (x : Tree) → NL n → k.kept n m d ≡ Some x → Live x) where
    live_kind : Kind k Live Live (λ x lo hi ps. Live x) (λ x z. Unit {0})
    live_kind = record {
      nil = tt;
      join_in = λ m xs h. live_in xs h;
      join_out = λ m xs h. live_out xs h;
      choice_in = λ x y xs a b h. ((a, (b, live_in xs h)), tt);
      choice_out = λ xs h. live_out xs h.0;
      bound_out = λ x q h. h;
      bound_in = λ x z q h d i. i;
      bound_fewer = λ x q h. h;
      turns_in = λ x lo hi ps h d g a. (h, live_row_in ps d, alive_same x ps a, gap_same ps g);
      turns_out = λ x lo hi r h. (h.0, live_row_out r h.1);
      release = λ x h. h;
      turn_permit = λ b x h i. i;
      turn_after = λ x y e h a i. i;
      new_turn = λ x y z c lo hi ps e h p a f. f h;
      sub = λ x lo hi ps qs s h. h;
      cuts = λ x lo hi ps h. h;
      low = λ x lo hi ps b h. h;
      wide = λ b x lo hi r qs e h. h;
      after_row = λ x lo hi r qs b e a hm h. h;
      trail_in = λ n f g t u c d h s a l. (h.0, l);
      permitted = λ b x z e. tt;
      taken = λ x y z b e a p. tt;
    }
      where
        alive_same : (x : Tree) (ps : List Part) → AliveGaps k x ps → AliveGaps k x (parts (row_of ps))
        alive_same x ps h = rw (parts-row_of ps) h

        gap_same : (ps : List Part) → has_gap ps ≡ true → has_gap (parts (row_of ps)) ≡ true
        gap_same ps h = rw (parts-row_of ps) h

    pub permit_live : (b : Block) (x : Tree) → Live x → MayHave Live (permit k b x)
    permit_live = permit_keeps k Live Live (λ x lo hi ps. Live x) (λ x z. Unit {0}) live_kind

    pub after_live : {x y : Tree} {e : TermEvent} → IsAfter k x e y → Live x → Live y
    after_live = after_keeps k Live Live (λ x lo hi ps. Live x) (λ x z. Unit {0}) live_kind (λ n m f t c d x h e. nets n m d x h.0 e)

    at_some : (r : Option Tree) (y : Tree) → r ≡ Some y → MayHave Live r → Live y
    at_some r y e h = rw e at h

    -- every live sound term has a pattern, walks under way included
    module _ (node : ℕ → ℕ → Tree) (IsGood : Tree → Type 0) (closed : IsHeld k node true IsGood) (nr : ℕ → ℕ)
        (permit_rank : (b : Block) (x y : Tree) → permit k b x ≡ Some y → rank nr y ≤ rank nr x)
        (kept_rank : (n m : ℕ) (c : List ℕ) (x : Tree) → k.kept n m c ≡ Some x → rank nr x ≤ nr n) where
      abbrev w : NetTerms
      w = terms_of k node

      abbrev Has : Tree → Type 0
      Has x = (s : Shape) × HasPattern w true x s

      abbrev Claim : ℕ → Type 0
      Claim n = (x : Tree) → rank nr x ≤ n → IsGood x → Live x → Has x

      all_have : (n : ℕ) → Claim n → (m : Mode) (xs : Trees) → ranks nr xs ≤ n → IsGood (Join m xs) → LiveAll xs → (s : Shape) × HasParts w true m (items xs) s
      all_have n ih m none l g h = (empty, no_part)
      all_have n ih m (more x xs) l g h =
          let i = ih x (omega arith) (closed.joined m x xs g).0 h.0 in
          let j = all_have n ih m xs (omega arith) (closed.joined m x xs g).1 h.1 in
          (join m i.0 j.0, one_part i.1 j.1)

      one_has : (n : ℕ) → Claim n → (xs : Trees) → ranks nr xs ≤ n → IsGood (Choice xs) → LiveAll xs → Some_of xs → (s : Shape) × HasChoice w true (items xs) s
      one_has n ih none l g h p = absurd p
      one_has n ih (more x xs) l g h p = let i = ih x (omega arith) (closed.chosen x xs g).0 h.0 in (i.0, this_one i.1)

      -- a pattern of the operand that avoids the gap's block
      through : (x : Tree) (c : List ℕ) → IsGood x → AliveAt k x c → ((y : Tree) → permit k (only c) x ≡ Some y → Has y) → (s : Shape) × HasPattern w true x s × Avoids (only c) s
      through x c g a f =
          let f1 = rw a.1 at ((permit_law k node true x (closed.ok x g) (only c) (only_fits k node true c x)).sound) in
          let i = f a.0 a.1 in
          let j = f1 i.0 i.1 in
          (j.0, j.1.0, j.1.1)

      abbrev RowHas : Tree → List Part → ℕ → Type 0
      RowHas x ps n = (s : Shape) × HasRow w true x ps n s

      fill : (x : Tree) (c : List ℕ) (ps : List Part) → (s : Shape) × HasPattern w true x s × Avoids (only c) s → (n : ℕ) → RowHas x ps zero → RowHas x (Gap c ∷ ps) n
      fill x c ps a zero r = (r.0, gaps_shut r.1)
      fill x c ps a (suc n) r = let i = fill x c ps a n r in (join seq a.0 i.0, gaps_more a.1 a.2 i.1)

      turns_have : (x : Tree) (ps : List Part) → ((y : Tree) → IsTurnOf y ps → Has y) → RowHas x ps zero
      turns_have x [] f = (empty, gaps_end)
      turns_have x (Gap c ∷ ps) f = let i = turns_have x ps f in (i.0, gaps_shut i.1)
      turns_have x (Turn y ∷ ps) f = let i = f y (inl refl) in let j = turns_have x ps (λ z p. f z (inr p)) in (join seq i.0 j.0, gaps_turn i.1 j.1)

      rows_have : (x : Tree) (ps : List Part) → IsGood x → AliveGaps k x ps → has_gap ps ≡ true → ((c : List ℕ) (y : Tree) → permit k (only c) x ≡ Some y → Has y) → ((y : Tree) → IsTurnOf y ps → Has y) → (n : ℕ) → RowHas x ps n
      rows_have x [] g a h f t n = cc
      rows_have x (Gap c ∷ ps) g a h f t n = fill x c ps (through x c g a.0 (f c)) n (turns_have x ps t)
      rows_have x (Turn y ∷ ps) g a h f t n = let i = t y (inl refl) in let j = rows_have x ps g a h f (λ z p. t z (inr p)) n in (join seq i.0 j.0, gaps_turn i.1 j.1)

      turn_rank : (r : Row) (y : Tree) → IsTurnOf y (parts r) → rank nr y ≤ row_rank nr r
      turn_rank ends y h = absurd h
      turn_rank (gap c r) y h = omega (arith, turn_rank r y h)
      turn_rank (turn x r) y (inl e) = let f = ap (rank nr) e in omega arith
      turn_rank (turn x r) y (inr h) = omega (arith, turn_rank r y h)

      turn_live : (ps : List Part) → EachTurn Live ps → (y : Tree) → IsTurnOf y ps → Live y
      turn_live [] h y i = absurd i
      turn_live (Gap c ∷ ps) h y i = turn_live ps h y i
      turn_live (Turn x ∷ ps) h y (inl e) = rw e h.0
      turn_live (Turn x ∷ ps) h y (inr i) = turn_live ps h.1 y i

      kept_some : (r : Option Tree) → some_kept r ≡ true → (y : Tree) × (r ≡ Some y)
      kept_some None h = cc
      kept_some (Some y) h = (y, refl)

      walk_has : (n : ℕ) → IsExactNet k node true n → (c : List ℕ) → ((m : ℕ) (y : Tree) → IsIn m (k.nodes n) → k.kept n m c ≡ Some y → Has y) → (f : Spot) (t : Goal) → aim t ≡ t → WalkThrough (k.net n) (allowed k n c) f t → (s : Shape) × HasWalk w true n f t c s
      walk_has n fine c g f t e (last m i a) = (empty, walk_last m i (rw e a))
      walk_has n fine c g f t e (step m i j v) =
          let r = out_filter (λ m. some_kept (k.kept n m c)) (k.nodes n) m j in
          let y = kept_some (k.kept n m c) r.1 in
          let f1 = rw y.1 at ((fine.holds m r.0 c).sound) in
          let p = g m y.0 r.0 y.1 in
          let q = f1 p.0 p.1 in
          let z = walk_has n fine c g (At m) t e v in
          (join seq q.0 z.0, walk_step m i q.1.0 q.1.1 z.1)

      trail_has : (n : ℕ) (f : Spot) (t : Goal) (c : List ℕ) → IsExactNet k node true n → Leading k n f t c → ((m : ℕ) (y : Tree) → IsIn m (k.nodes n) → k.kept n m c ≡ Some y → Has y) → (s : Shape) × HasWalk w true n f t c s
      trail_has n f Any c fine l g = (empty, walk_stop tt)
      trail_has n f End c fine l g = walk_has n fine c g f End refl (reach_sound (k.net n) (allowed k n c) f End l)
      trail_has n f (To m) c fine l g = walk_has n fine c g f (To m) refl (reach_sound (k.net n) (allowed k n c) f (To m) l)

      next : (n : ℕ) → Claim n → Claim (suc n)
      next n ih Nil l g h = (empty, has_nil)
      next n ih (Event e) l g h = (one e, has_event)
      next n ih (Join m xs) l g h = let i = all_have n ih m xs (omega arith) g h in (i.0, has_join i.1)
      next n ih (Choice xs) l g h = let i = one_has n ih xs (omega arith) g h.0 h.1 in (i.0, has_choice i.1)
      next n ih (Tied x q) l g h = let i = ih x (omega arith) (closed.tied x q g) h in (bind i.0 q, holds_tie i.1)
      next n ih (Loop x lo hi r) l g h =
          let gx = closed.operand x lo hi r g in
          let i = rows_have x (parts r) gx h.2 h.3
          (λ c y e. let p = permit_rank (only c) x y e in ih y (omega arith) (closed.permitted c x y gx e) (at_some (permit k (only c) x) y e (permit_live (only c) x h.0)))
          (λ y i. let p = turn_rank r y i in ih y (omega arith) (closed.begun x lo hi y r g i) (turn_live (parts r) (live_row_out r h.1) y i)) lo in
          (i.0, holds_loop lo i.1 (omega arith) ((closed.ok (Loop x lo hi r) g).2))
      next n ih (Walk j f t c) l g h =
          let i = trail_has j f t c (closed.ok (Walk j f t c) g) h.1 (λ m y q e. let p = kept_rank j m c y e in ih y (omega arith) (closed.kept j f t c c m y g q e) (nets j m c y h.0 e)) in
          (i.0, holds_walk i.1)

      start : Claim zero
      start Nil l g h = absurd (omega arith)
      start (Event e) l g h = absurd (omega arith)
      start (Join m xs) l g h = absurd (omega arith)
      start (Choice xs) l g h = absurd (omega arith)
      start (Tied x q) l g h = absurd (omega arith)
      start (Loop x lo hi r) l g h = absurd (omega arith)
      start (Walk n f t c) l g h = absurd (omega arith)

      claim : (n : ℕ) → Claim n
      claim zero x l g h = start x l g h
      claim (suc n) x l g h = next n (claim n) x l g h

      pub has_pattern : (x : Tree) → IsGood x → Live x → Has x
      has_pattern x g h = claim (rank nr x) x (omega arith) g h
