-- What is left after an event are patterns from which the event was taken.
use Rattle.std.specs.Prelude.{ℕ, zero, suc, ◌≤◌, Bool, true, false, List, [], ◌∷◌, ◌≡◌, Option, Some, None, ◌⊎◌, refl}
use Rattle.std.proofs.Common.{ap, arith, inl, inr}
use Rattle.std.proofs.lemmas.Bool.{eqb-true}
use Rattle.msc_base.specs.Patterns.{Mode, seq, par, empty, one, join, bind}
use Rattle.hmsc_graph.specs.Graphs.{Spot, At, Goal, To}
use Rattle.msc_base.specs.Lists.{IsIn}
use Rattle.chart_term.specs.NormalForms.{NetPermits, only, join_all, loop_of, walk_of, tie_of}
use Rattle.chart_term.specs.TermMeanings.{NetTerms, UpTo, HasPattern, has_nil, has_event, has_join, has_choice, holds_tie, holds_loop, holds_walk, HasParts, no_part, one_part, HasChoice, this_one, that_one, gaps_turn, gaps_shut, gaps_more, walk_stop, walk_last, walk_step, PatternSet, ◌⊑◌, Avoiding, Taking, Leaves, terms_of}
use Rattle.chart_term.specs.TermPatterns.{Shape, Avoids, Lets, take_one, take_first, take_later, take_bind, ◌≈◌, same, on, in_join, in_bind, assoc, left, right, instances_of, earlier, InPairs}
use Rattle.chart_term.specs.Terms.{TermEvent, hits, Tree, Nil, Event, Join, Choice, Tied, Loop, Walk, Trees, more, Row, items, Part, Gap, Turn, parts, ◌∪◌}
use Rattle.chart_term.proofs.Instances.{cut_avoids, both_avoids}
use Rattle.chart_term.proofs.Joining.{join_to, trans}
use Rattle.chart_term.proofs.Looping.{Falls, Rows, turns_to}
use Rattle.chart_term.proofs.Sameness.{avoids, follows, avoids_before}
use Rattle.chart_term.proofs.Walking.{IsExactNet, Walks, change, trail_to}
use Rattle.chart_term.specs.Spreads.{touch}
use Rattle.term_laws.specs.Permission.{permit}
use Rattle.term_laws.specs.Taking.{Stays, fewer, down, HasMore, IsAfter, after_event, after_choice, after_join, after_tied, after_loop, after_walk, IsAfterOne, first_one, later_one, IsAfterJoin, first_part, later_part, IsAfterRow, in_turn, in_gap, past_turn, past_gap}
use Rattle.term_laws.proofs.Permitting.{IsRegular, permit_law, only_fits, inside}
use Rattle.chart_term.proofs.Binding.{Shows, bound_to}

abbrev pub IsTurnOf : Tree → List Part → Type 0
IsTurnOf y [] = ⊥
IsTurnOf y (Gap c ∷ ps) = IsTurnOf y ps
IsTurnOf y (Turn z ∷ ps) = (y ≡ z) ⊎ IsTurnOf y ps

abbrev pub IsLower : Bool → ℕ → ℕ → Type 0
IsLower true n m = n ≡ suc m
IsLower false n m = n ≡ m

-- what a set of terms is closed under, as far as patterns need it
pub record IsHeld (k : NetPermits) (node : ℕ → ℕ → Tree) (o : Bool) (IsGood : Tree → Type 0) : Type 0 where
  pub ok : (x : Tree) → IsGood x → IsRegular k node o x
  pub joined : (m : Mode) (x : Tree) (xs : Trees) → IsGood (Join m (more x xs)) → IsGood x × IsGood (Join m xs)
  pub chosen : (x : Tree) (xs : Trees) → IsGood (Choice (more x xs)) → IsGood x × IsGood (Choice xs)
  pub tied : (x : Tree) (q : List (ℕ × ℕ)) → IsGood (Tied x q) → IsGood x
  pub operand : (x : Tree) (lo : ℕ) (hi : Option ℕ) (r : Row) → IsGood (Loop x lo hi r) → IsGood x
  pub begun : (x : Tree) (lo : ℕ) (hi : Option ℕ) (y : Tree) (r : Row) → IsGood (Loop x lo hi r) → IsTurnOf y (parts r) → IsGood y
  pub permitted : (c : List ℕ) (x y : Tree) → IsGood x → permit k (only c) x ≡ Some y → IsGood y
  pub kept : (n : ℕ) (f : Spot) (t : Goal) (c d : List ℕ) (m : ℕ) (x : Tree) → IsGood (Walk n f t c) → IsIn m (k.nodes n) → k.kept n m d ≡ Some x → IsGood x

module _ (k : NetPermits) (node : ℕ → ℕ → Tree) (o : Bool) where
  abbrev w : NetTerms
  w = terms_of k node

  -- what a set of sound terms is closed under
  pub record IsClosed (IsGood : Tree → Type 0) : Type 0 where
    pub held : IsHeld k node o IsGood
    pub known : (n m : ℕ) (d : List ℕ) (x : Tree) → k.kept n m d ≡ Some x → IsIn m (k.nodes n)
    pub fits : (x y : Tree) (q : List (ℕ × ℕ)) (e : TermEvent) → IsGood (Tied x q) → IsAfter k x e y → Leaves w o (earlier q e) y (permit k (earlier q e) y)
    pub shows : (x y z : Tree) (q : List (ℕ × ℕ)) (e : TermEvent) → IsGood (Tied x q) → IsAfter k x e y → permit k (earlier q e) y ≡ Some z → (j : ℕ) → InPairs j q → Shows w o z j
    pub no_self : (x : Tree) (q : List (ℕ × ℕ)) (e : TermEvent) → IsGood (Tied x q) → hits (earlier q e) e ≡ false
    pub falls : (x : Tree) (b : Bool) (lo : ℕ) (hi : Option ℕ) (r : Row) (e : TermEvent) (ps : List Part) → IsGood (Loop x lo hi r) → IsAfterRow k x b (parts r) e ps → Falls w o x ps

  module _ (IsGood : Tree → Type 0) (closed : IsClosed IsGood) where
    leaves : (x : Tree) → IsGood x → (c : List ℕ) → Leaves w o (only c) x (permit k (only c) x)
    leaves x g c = permit_law k node o x (closed.held.ok x g) (only c) (only_fits k node o c x)

    -- a permitted part, seen from what it leaves
    seen : (x y : Tree) (c : List ℕ) → IsGood x → permit k (only c) x ≡ Some y → HasPattern w o y ⊑ Avoiding (only c) (HasPattern w o x)
    seen x y c g e = rw e at ((leaves x g c).sound)

    stays_sound : (m : Mode) (e : TermEvent) (x x' : Tree) → IsGood x → Stays k m e x x' → (s : Shape) → HasPattern w o x' s → (t : Shape) × HasPattern w o x t × Lets m e t × (s ≈ t)
    stays_sound seq e x x' g h s a = let i = seen x x' (instances_of e).instances g h s a in (i.0, i.1.0, i.1.1, i.2)
    stays_sound par e x x' g h s a = (s, rw h at a, tt, same)

    -- the rows that are left
    abbrev TakingRow : Bool → Tree → List Part → TermEvent → ℕ → PatternSet
    TakingRow b x ps e m t = (n : ℕ) × IsLower b n m × Taking e (Rows w o x ps n) t

    -- a further turn of a gap: those before it have passed the event
    new_turn : (x y z : Tree) (c d : List ℕ) (ps : List Part) (e : TermEvent) → HasPattern w o y ⊑ Avoiding (only c) (HasPattern w o x) → HasPattern w o z ⊑ Taking e (HasPattern w o y) → ((s : Shape) → Avoids (only d) s → Avoids (only c) s × Avoids (instances_of e) s)
        → (m : ℕ) → Rows w o x (Gap d ∷ Turn z ∷ Gap c ∷ ps) m ⊑ TakingRow true x (Gap c ∷ ps) e m
    new_turn x y z c d ps e f g h m s (gaps_shut (gaps_turn a r)) =
        let i = g _ a in
        let j = f i.1.0 i.1.1 in
        let l = (follows j.2).0 e i.0 i.1.2 in
        (_, (suc m, refl, (_, gaps_more j.1.0 j.1.1 r, take_first l.1)), in_join (on i.2 l.2) same)
    new_turn x y z c d ps e f g h (suc m) s (gaps_more {s = u} a av r) =
        let i = new_turn x y z c d ps e f g h m _ r in
        let p = h u av in
        (_, (suc i.1.0, ap suc i.1.1, (_, gaps_more a p.0 i.1.2.1, take_later p.1 i.1.2.2)), in_join same i.2)

    -- bounds of the counts
    low_up : (b : Bool) (lo n m : ℕ) → IsLower b n m → down b lo ≤ m → lo ≤ n
    low_up true lo n m h l = omega arith
    low_up false lo n m h l = omega arith

    high_up : (b : Bool) (hi : Option ℕ) (n m : ℕ) → IsLower b n m → HasMore b hi → UpTo (fewer b hi) m → UpTo hi n
    high_up b None n m h e l = tt
    high_up true (Some zero) n m h e l = absurd e
    high_up true (Some (suc i)) n m h e l = omega arith
    high_up false (Some i) n m h e l = omega arith

    fewer_down : (b : Bool) (lo : ℕ) (hi : Option ℕ) → HasMore b hi → UpTo hi lo → UpTo (fewer b hi) (down b lo)
    fewer_down b lo None e h = tt
    fewer_down true lo (Some i) e h = omega arith
    fewer_down false lo (Some i) e h = h

    join_walks : (n m : ℕ) (f : Spot) (t : Goal) (c : List ℕ) (u s v : Shape) → Walks k node o n f (To m) c u → HasPattern w o (node n m) s → Avoids (only c) s → Walks k node o n (At m) t c v → (z : Shape) × Walks k node o n f t c z × (join seq u (join seq s v) ≈ z)
    join_walks n m f t c u s v (walk_stop h) a av r = absurd h
    join_walks n m f t c u s v (walk_last i j p) a av r = let e = eqb-true i m p in (_, walk_step m (rw e at j) a av r, left)
    join_walks n m f t c u s v (walk_step i j b bv q) a av r = let z = join_walks n m (At i) t c _ s v q a av r in (_, walk_step i j b bv z.1, on assoc (in_join same z.2))

    walk_avoids : (n : ℕ) (f : Spot) (t : Goal) (c d : List ℕ) (s : Shape) → Walks k node o n f t (c ∪ d) s → Avoids (only d) s
    walk_avoids n f t c d s h = go (c ∪ d) (λ u e. ((both_avoids c d u).to e).1) f t s h
      where
        go : (j : List ℕ) → ((u : Shape) → Avoids (only j) u → Avoids (only d) u) → (f : Spot) (t : Goal) (s : Shape) → Walks k node o n f t j s → Avoids (only d) s
        go j g f t s (walk_stop a) = tt
        go j g f t s (walk_last m i a) = tt
        go j g f t s (walk_step m {s = u} i a av r) = (g u av, go j g (At m) t _ r)

    three : (x y z : Tree) (s : Shape) → HasParts w o seq (x ∷ y ∷ z ∷ []) s → (a : Shape) × (b : Shape) × (c : Shape) × HasPattern w o x a × HasPattern w o y b × HasPattern w o z c × (s ≈ join seq a (join seq b c))
    three x y z s (one_part a (one_part b (one_part c no_part))) = (_, _, _, a, b, c, in_join same (in_join same right))

    trail_sound : (n : ℕ) (f : Spot) (t : Goal) (c : List ℕ) (e : TermEvent) (m : ℕ) (x y u v : Tree) → IsExactNet k node o n → IsIn m (k.nodes n) → k.kept n m c ≡ Some x → HasPattern w o y ⊑ Taking e (HasPattern w o x)
        → walk_of k n f (To m) (c ∪ (instances_of e).instances) ≡ Some u → walk_of k n (At m) t c ≡ Some v
        → HasPattern w o (join_all seq (u ∷ y ∷ v ∷ [])) ⊑ Taking e (HasPattern w o (Walk n f t c))
    trail_sound n f t c e m x y u v fine inside p h q r s a =
        let i = join_to w o seq (u ∷ y ∷ v ∷ []) s a in
        let (sa, sb, sc, ua, yb, vc, eq) = three u y v i.0 i.1 in
        let d = c ∪ (instances_of e).instances in
        let U = rw q at (trail_to k node o n fine f (To m) d) in
        let V = rw r at (trail_to k node o n fine (At m) t c) in
        let X = rw p at ((fine.holds m inside c).sound) in
        let wu = U sa ua in
        let wv = V sc vc in
        let ty = h sb yb in
        let tx = X ty.1.0 ty.1.1 in
        let fx = (follows tx.2).0 e ty.0 ty.1.2 in
        let wc = change k node o n fine d c (λ j g b l q. ((both_avoids c (instances_of e).instances b).to q).0) f (To m) wu.0 wu.1 in
        let z = join_walks n m f t c wu.0 tx.0 wv.0 wc tx.1.0 tx.1.1 wv.1 in
        let tz = (follows z.2).0 e (join seq wu.0 (join seq fx.0 wv.0)) (take_later (walk_avoids n f (To m) c (instances_of e).instances wu.0 wu.1) (take_first fx.1)) in
        (tz.0, (z.0, holds_walk z.1, tz.1), on i.2 (on eq (on (in_join wu.2 (in_join (on ty.2 fx.2) wv.2)) tz.2)))

    loop_sound : (x z : Tree) (b : Bool) (lo : ℕ) (hi : Option ℕ) (r : Row) (e : TermEvent) (ps : List Part) → IsGood (Loop x lo hi r) → UpTo hi lo → Falls w o x ps → HasMore b hi
        → ((m : ℕ) → Rows w o x ps m ⊑ TakingRow b x (parts r) e m)
        → loop_of (λ c. permit k (only c) x) (touch k.spread x) x (down b lo) (fewer b hi) ps ≡ Some z → HasPattern w o z ⊑ Taking e (HasPattern w o (Loop x lo hi r))
    loop_sound x z b lo hi r e ps g u d hm h q s a =
        let gx = closed.held.operand x lo hi r g in
        let okx = closed.held.ok x gx in
        let T = rw q at (turns_to w o x (λ c. permit k (only c) x) (leaves x gx) (touch k.spread x)
        (λ c s a. (cut_avoids (touch k.spread x) c s (inside k node o x okx s a)).to) (λ c s a. (cut_avoids (touch k.spread x) c s (inside k node o x okx s a)).from)
        (down b lo) (fewer b hi) ps (fewer_down b lo hi hm u)) in
        let i = T s a in
        let j = h i.1.0 i.0 i.1.1 in
        (j.0, (j.1.2.0, holds_loop j.1.0 j.1.2.1 (low_up b lo j.1.0 i.1.0 j.1.1 i.1.2) (high_up b hi j.1.0 i.1.0 j.1.1 hm i.1.3), j.1.2.2), on i.2 j.2)

    -- the parts of a row, one after another
    turn_passed : (b : Bool) (x y z : Tree) (ps qs : List Part) (e : TermEvent) → HasPattern w o z ⊑ Avoiding (instances_of e) (HasPattern w o y) → ((m : ℕ) → Rows w o x qs m ⊑ TakingRow b x ps e m) → (m : ℕ) → Rows w o x (Turn z ∷ qs) m ⊑ TakingRow b x (Turn y ∷ ps) e m
    turn_passed b x y z ps qs e f h m s (gaps_turn a r) =
        let i = f _ a in let j = h m _ r in
        (_, (j.1.0, j.1.1, (_, gaps_turn i.1.0 j.1.2.1, take_later i.1.1 j.1.2.2)), in_join i.2 j.2)

    gap_passed : (b : Bool) (x : Tree) (c d : List ℕ) (ps qs : List Part) (e : TermEvent) → ((s : Shape) → Avoids (only d) s → Avoids (only c) s × Avoids (instances_of e) s) → ((m : ℕ) → Rows w o x qs m ⊑ TakingRow b x ps e m) → (m : ℕ) → Rows w o x (Gap d ∷ qs) m ⊑ TakingRow b x (Gap c ∷ ps) e m
    gap_passed b x c d ps qs e g h m s (gaps_shut r) = let j = h m s r in (j.0, (j.1.0, j.1.1, (j.1.2.0, gaps_shut j.1.2.1, j.1.2.2)), j.2)
    gap_passed b x c d ps qs e g h (suc m) s (gaps_more {s = u} a av r) =
        let j = gap_passed b x c d ps qs e g h m _ r in
        let p = g u av in
        (_, (suc j.1.0, up b j.1.0 m j.1.1, (_, gaps_more a p.0 j.1.2.1, take_later p.1 j.1.2.2)), in_join same j.2)
      where
        up : (b : Bool) (n m : ℕ) → IsLower b n m → IsLower b (suc n) (suc m)
        up true n m e = ap suc e
        up false n m e = ap suc e

    turn_begun : (x y z : Tree) (ps : List Part) (e : TermEvent) → HasPattern w o z ⊑ Taking e (HasPattern w o y) → (m : ℕ) → Rows w o x (Turn z ∷ ps) m ⊑ TakingRow false x (Turn y ∷ ps) e m
    turn_begun x y z ps e f m s (gaps_turn a r) = let i = f _ a in (_, (m, refl, (_, gaps_turn i.1.1 r, take_first i.1.2)), in_join i.2 same)

    wide : (c : List ℕ) (e : TermEvent) (s : Shape) → Avoids (only (c ∪ (instances_of e).instances)) s → Avoids (only c) s × Avoids (instances_of e) s
    wide c e s h = (both_avoids c (instances_of e).instances s).to h

    event_sound : (e : TermEvent) → HasPattern w o Nil ⊑ Taking e (HasPattern w o (Event e))
    event_sound e s has_nil = (empty, (one e, has_event, take_one), same)

    -- begun turns that are sound
    abbrev GoodTurns : List Part → Type 0
    GoodTurns [] = Unit {0}
    GoodTurns (Gap c ∷ ps) = GoodTurns ps
    GoodTurns (Turn y ∷ ps) = IsGood y × GoodTurns ps

    good_turns : (x : Tree) (lo : ℕ) (hi : Option ℕ) (r : Row) → IsGood (Loop x lo hi r) → (ps : List Part) → ((y : Tree) → IsTurnOf y ps → IsTurnOf y (parts r)) → GoodTurns ps
    good_turns x lo hi r g [] f = tt
    good_turns x lo hi r g (Gap c ∷ ps) f = good_turns x lo hi r g ps f
    good_turns x lo hi r g (Turn y ∷ ps) f = (closed.held.begun x lo hi y r g (f y (inl refl)), good_turns x lo hi r g ps (λ z i. f z (inr i)))

    join_sound : (m : Mode) (xs : Trees) (ys : List Tree) (e : TermEvent) → HasParts w o m ys ⊑ Taking e (HasParts w o m (items xs)) → HasPattern w o (join_all m ys) ⊑ Taking e (HasPattern w o (Join m xs))
    join_sound m xs ys e f s a = let i = join_to w o m ys s a in let j = f i.0 i.1 in (j.0, (j.1.0, has_join j.1.1, j.1.2), on i.2 j.2)

    choice_sound : (xs : Trees) (y : Tree) (e : TermEvent) → HasPattern w o y ⊑ Taking e (HasChoice w o (items xs)) → HasPattern w o y ⊑ Taking e (HasPattern w o (Choice xs))
    choice_sound xs y e f s a = let i = f s a in (i.0, (i.1.0, has_choice i.1.1, i.1.2), i.2)

    bound_sound : (x y z : Tree) (q : List (ℕ × ℕ)) (e : TermEvent) → hits (earlier q e) e ≡ false → HasPattern w o z ⊑ Avoiding (earlier q e) (HasPattern w o y) → HasPattern w o y ⊑ Taking e (HasPattern w o x) → HasPattern w o (Tied z q) ⊑ Taking e (HasPattern w o (Tied x q))
    bound_sound x y z q e g f h s (holds_tie a) =
        let i = f _ a in let j = h i.0 i.1.0 in
        (bind j.0 q, (bind j.1.0 q, holds_tie j.1.1, take_bind j.1.2 (avoids_before (earlier q e) j.1.2 g ((avoids (earlier q e) j.2).to i.1.1))), in_bind (on i.2 j.2))

    first_sound : (m : Mode) (x y : Tree) (xs : List Tree) (e : TermEvent) → HasPattern w o y ⊑ Taking e (HasPattern w o x) → HasParts w o m (y ∷ xs) ⊑ Taking e (HasParts w o m (x ∷ xs))
    first_sound m x y xs e f s (one_part a r) = let i = f _ a in (_, (_, one_part i.1.1 r, take_first i.1.2), in_join i.2 same)

    later_sound : (m : Mode) (x y : Tree) (xs ys : List Tree) (e : TermEvent) → ((s : Shape) → HasPattern w o y s → (t : Shape) × HasPattern w o x t × Lets m e t × (s ≈ t)) → HasParts w o m ys ⊑ Taking e (HasParts w o m xs) → HasParts w o m (y ∷ ys) ⊑ Taking e (HasParts w o m (x ∷ xs))
    later_sound m x y xs ys e f h s (one_part a r) = let i = f _ a in let j = h _ r in (_, (_, one_part i.1 j.1.1, take_later i.2 j.1.2), in_join i.3 j.2)

    this_sound : (x y : Tree) (xs : List Tree) (e : TermEvent) → HasPattern w o y ⊑ Taking e (HasPattern w o x) → HasPattern w o y ⊑ Taking e (HasChoice w o (x ∷ xs))
    this_sound x y xs e f s a = let i = f s a in (i.0, (i.1.0, this_one i.1.1, i.1.2), i.2)

    that_sound : (x y : Tree) (xs : List Tree) (e : TermEvent) → HasPattern w o y ⊑ Taking e (HasChoice w o xs) → HasPattern w o y ⊑ Taking e (HasChoice w o (x ∷ xs))
    that_sound x y xs e f s a = let i = f s a in (i.0, (i.1.0, that_one i.1.1, i.1.2), i.2)

    mutual
      pub after_sound : {x y : Tree} {e : TermEvent} → IsAfter k x e y → IsGood x → HasPattern w o y ⊑ Taking e (HasPattern w o x)
      after_sound {e = e} after_event g = event_sound e
      after_sound {y = y} {e = e} (after_choice {xs = xs} h) g = choice_sound xs y e (one_sound h g)
      after_sound {e = e} (after_join {m = m} {xs = xs} {ys = ys} h) g = join_sound m xs ys e (parts_sound h g)
      after_sound {e = e} (after_tied {x = x} {y = y} {z = z} {q = q} h p) g =
          trans (HasPattern w o (tie_of z q)) (HasPattern w o (Tied z q)) (Taking e (HasPattern w o (Tied x q))) (bound_to w o z q (closed.shows x y z q e g h p))
          (bound_sound x y z q e (closed.no_self x q e g) (rw p at ((closed.fits x y q e g h).sound)) (after_sound h (closed.held.tied x q g)))
      after_sound {e = e} (after_loop {x = x} {z = z} {lo = lo} {hi = hi} {r = r} b {ps = ps} h hm q) g =
          loop_sound x z b lo hi r e ps g ((closed.held.ok (Loop x lo hi r) g).2) (closed.falls x b lo hi r e ps g h) hm
          (row_sound h (closed.held.operand x lo hi r g) (good_turns x lo hi r g (parts r) (λ y i. i))) q
      after_sound {e = e} (after_walk {n = n} {s = f} {t = t} {c = c} m {x = x} {y = y} {u = u} {v = v} p h p1 p2 q r) g =
          trail_sound n f t c e m x y u v (closed.held.ok (Walk n f t c) g) (closed.known n m c x p) p (after_sound h (closed.held.kept n f t c c m x g (closed.known n m c x p) p)) q r

      one_sound : {xs : Trees} {y : Tree} {e : TermEvent} → IsAfterOne k xs e y → IsGood (Choice xs) → HasPattern w o y ⊑ Taking e (HasChoice w o (items xs))
      one_sound {y = y} {e = e} (first_one {x = x} {xs = xs} h) g = this_sound x y (items xs) e (after_sound h ((closed.held.chosen x xs g).0))
      one_sound {y = y} {e = e} (later_one {x = x} {xs = xs} h) g = that_sound x y (items xs) e (one_sound h ((closed.held.chosen x xs g).1))

      parts_sound : {m : Mode} {xs : Trees} {ys : List Tree} {e : TermEvent} → IsAfterJoin k m xs e ys → IsGood (Join m xs) → HasParts w o m ys ⊑ Taking e (HasParts w o m (items xs))
      parts_sound {e = e} (first_part {m = m} {x = x} {y = y} {xs = xs} h) g = first_sound m x y (items xs) e (after_sound h ((closed.held.joined m x xs g).0))
      parts_sound {e = e} (later_part {m = m} {x = x} {x' = y} {xs = xs} {ys = ys} p h) g =
          later_sound m x y (items xs) ys e (stays_sound m e x y ((closed.held.joined m x xs g).0) p) (parts_sound h ((closed.held.joined m x xs g).1))

      row_sound : {x : Tree} {b : Bool} {ps qs : List Part} {e : TermEvent} → IsAfterRow k x b ps e qs → IsGood x → GoodTurns ps → (m : ℕ) → Rows w o x qs m ⊑ TakingRow b x ps e m
      row_sound {e = e} (in_turn {x = x} {y = y} {z = z} {ps = ps} h) g t = turn_begun x y z ps e (after_sound h t.0)
      row_sound {e = e} (in_gap {x = x} {y = y} {z = z} {c = c} {ps = ps} p h) g t =
          new_turn x y z c (c ∪ (instances_of e).instances) ps e (seen x y c g p) (after_sound h (closed.held.permitted c x y g p)) (wide c e)
      row_sound {e = e} (past_turn {x = x} {y = y} {z = z} {b = b} {ps = ps} {qs = qs} p h) g t = turn_passed b x y z ps qs e (seen y z (instances_of e).instances t.0 p) (row_sound h g t.1)
      row_sound {e = e} (past_gap {x = x} {c = c} {b = b} {ps = ps} {qs = qs} h) g t = gap_passed b x c (c ∪ (instances_of e).instances) ps qs e (wide c e) (row_sound h g t)
