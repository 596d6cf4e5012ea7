-- An account of what is left after an event, taken a step back, tells a pattern of the term from which the event can be taken.
use Rattle.std.specs.Prelude.{ℕ, zero, suc, ◌≤◌, Bool, true, false, List, [], ◌∷◌, ◌≡◌, ◌==◌, Option, Some, None, refl}
use Rattle.std.proofs.Common.{ap, arith, inl, inr}
use Rattle.std.proofs.lemmas.Bool.Decides.{nat_tests}
use Rattle.msc_base.specs.Lists.{IsIn}
use Rattle.msc_base.specs.Patterns.{Mode, seq, par, empty, one, join, bind}
use Rattle.hmsc_graph.specs.Graphs.{Spot, At, Goal, To}
use Rattle.chart_term.specs.NormalForms.{NetPermits, only, join_all, loop_of, walk_of, tie_of}
use Rattle.chart_term.specs.Spreads.{touch}
use Rattle.chart_term.specs.TermMeanings.{NetTerms, UpTo, HasPattern, holds_tie, terms_of}
use Rattle.chart_term.specs.TermPatterns.{Shape, Avoids, Lets, Takes, take_one, take_first, take_later, take_bind, HasNoEvent, ◌≈◌, same, back, on, in_join, in_bind, assoc, left, right, instances_of, earlier, InPairs}
use Rattle.chart_term.specs.Terms.{TermEvent, hits, Tree, Nil, Event, Join, Choice, Tied, Loop, Walk, Trees, Row, items, Part, Gap, Turn, parts, ◌∪◌}
use Rattle.chart_term.proofs.Binding.{Shows}
use Rattle.chart_term.proofs.Instances.{both_avoids}
use Rattle.chart_term.proofs.Sameness.{avoids, follows, avoids_before}
use Rattle.chart_term.proofs.Walking.{IsExactNet}
use Rattle.term_laws.specs.Permission.{permit}
use Rattle.term_laws.specs.Taking.{Stays, fewer, down, HasMore, HasGap, IsAfter, after_event, after_choice, after_join, after_tied, after_loop, after_walk, IsAfterOne, first_one, later_one, IsAfterJoin, first_part, later_part, IsAfterRow, in_turn, in_gap, past_turn, past_gap}
use Rattle.term_laws.proofs.Permitting.{IsRegular, Fits, only_fits}
use Rattle.term_laws.proofs.TakingSound.{IsClosed, IsTurnOf, IsLower}
use Rattle.certificates.specs.Certificates.{HasEmpty}
use Rattle.certificate_accounts.specs.Accounts.{Account, at_place, of_parts, of_branch, of_row, of_walk, Accounts, no_accounts, account_and, RowAccount, turns_in_gap, begun_turn, Visits, visit, placed_event, Tells, tells_nothing, tells_event, tells_parts, tells_branch, tells_tie, tells_row, tells_walk, TellsAll, tells_none, tells_part, TellsOne, tells_this, tells_that, TellsRow, tells_turn, tells_shut, tells_more, TellsWalk, tells_arrived, tells_visit}
use Rattle.certificate_accounts.specs.JoinsBack.{first_of, rest_of, parts_back}
use Rattle.certificate_accounts.specs.RowsBack.{loop_back, put_gap, put_begun}
use Rattle.certificate_accounts.specs.PermitsBack.{later_branch, permit_back}
use Rattle.certificate_accounts.specs.StepsBack.{accounts_and, visits_and, stay_back, turn_with, gap_with, visits_in, NodeAccounts, step_back, branch_step, parts_step, row_step}
use Rattle.certificates.proofs.Padding.{none_is_empty}
use Rattle.certificate_accounts.proofs.JoinsBack.{parts_back_tells}
use Rattle.certificate_accounts.proofs.PermitsBack.{Back, permit_told, tie_told, loop_of_told, walk_of_told, widened}

module _ (k : NetPermits) (node : ℕ → ℕ → Tree) (ev : ℕ → TermEvent) (nodes : NodeAccounts) (place : ℕ) where
  abbrev w : NetTerms
  w = terms_of k node

  -- a pattern before the event, and what is left of it
  pub record Stepped (x : Tree) (a : Account) (d : TermEvent) (s : Shape) : Type 0 where
    pub before : Shape
    pub after : Shape
    pub tells : Tells w ev x a before
    pub takes : Takes before d after
    pub same_as : s ≈ after

  pub record SteppedAll (m : Mode) (xs : List Tree) (us : Accounts) (d : TermEvent) (s : Shape) : Type 0 where
    pub before : Shape
    pub after : Shape
    pub tells : TellsAll w ev m xs us before
    pub takes : Takes before d after
    pub same_as : s ≈ after

  pub record SteppedOne (xs : List Tree) (a : Account) (d : TermEvent) (s : Shape) : Type 0 where
    pub index : ℕ
    pub account : Account
    pub before : Shape
    pub after : Shape
    pub is : a ≡ of_branch index account
    pub tells : TellsOne w ev xs index account before
    pub takes : Takes before d after
    pub same_as : s ≈ after

  pub record SteppedRow (x : Tree) (b : Bool) (ps : List Part) (rb : RowAccount) (d : TermEvent) (m : ℕ) (s : Shape) : Type 0 where
    pub turns : ℕ
    pub lower : IsLower b turns m
    pub before : Shape
    pub after : Shape
    pub tells : TellsRow w ev x ps rb turns before
    pub takes : Takes before d after
    pub same_as : s ≈ after

  -- what is asked of the nodes of nets, and of the terms
  pub record AreNodesTold : Type 0 where
    pub empty_told : (n : ℕ) (f : Spot) (t : Goal) (c : List ℕ) → HasEmpty w (Walk n f t c) → (s : Shape) × TellsWalk w ev n f t c (nodes.empty_way n f t) s × HasNoEvent s
    pub kept_told : (n m : ℕ) (c : List ℕ) (x : Tree) → k.kept n m c ≡ Some x → Back k node ev (node n m) (nodes.kept_back n m c) (only c) x

  module _ (IsGood : Tree → Type 0) (closed : IsClosed k node false IsGood)
      (fits : (x y : Tree) (q : List (ℕ × ℕ)) (e : TermEvent) → IsGood (Tied x q) → IsAfter k x e y → IsRegular k node false y × Fits k node false (earlier q e) y) (told_nodes : AreNodesTold) where
    -- a part that let the event pass
    passed : (x y : Tree) (c : List ℕ) → IsGood x → permit k (only c) x ≡ Some y → Back k node ev x (permit_back k (only c) x) (only c) y
    passed x y c g e = permit_told k node ev x (closed.held.ok x g) (only c) (only_fits k node false c x) y e

    stays : (m : Mode) (e : TermEvent) (x y : Tree) → IsGood x → Stays k m e x y → (a : Account) (s : Shape) → Tells w ev y a s → (t : Shape) × Tells w ev x (stay_back k m e x a) t × Lets m e t × (s ≈ t)
    stays seq e x y g h a s t = passed x y (instances_of e).instances g h a s t
    stays par e x y g h a s t = (s, rw h at t, tt, same)

    lets_placed : (m : Mode) (e : TermEvent) (n : ℕ) (t : Shape) → Lets m e t → Lets m (placed_event e n) t
    lets_placed seq e n t h = h
    lets_placed par e n t h = h

    event_step : (e : TermEvent) → ev place ≡ e → (a : Account) (s : Shape) → Tells w ev Nil a s → Stepped (Event e) (at_place place) (placed_event e place) s
    event_step e h a s (tells_nothing i) = record { before = one (placed_event e place); after = empty; tells = tells_event h; takes = take_one; same_as = same }

    -- joins
    first_step : (m : Mode) (x y : Tree) (xs : List Tree) (d : TermEvent) (f : Account → Account) → ((a : Account) (s : Shape) → Tells w ev y a s → Stepped x (f a) d s) → (us : Accounts) (s : Shape) → TellsAll w ev m (y ∷ xs) us s
        → SteppedAll m (x ∷ xs) (account_and (f (first_of us)) (rest_of us)) d s
    first_step m x y xs d f p us s (tells_part {u = u} a r) = let i = p _ _ a in record { before = join m i.before u; after = join m i.after u; tells = tells_part i.tells r; takes = take_first i.takes; same_as = in_join i.same_as same }

    later_step : (m : Mode) (e : TermEvent) (x y : Tree) (xs ys : List Tree) (g : Accounts → Accounts) → ((a : Account) (s : Shape) → Tells w ev y a s → (t : Shape) × Tells w ev x (stay_back k m e x a) t × Lets m e t × (s ≈ t))
        → ((us : Accounts) (s : Shape) → TellsAll w ev m ys us s → SteppedAll m xs (g us) (placed_event e place) s) → (us : Accounts) (s : Shape) → TellsAll w ev m (y ∷ ys) us s
        → SteppedAll m (x ∷ xs) (account_and (stay_back k m e x (first_of us)) (g (rest_of us))) (placed_event e place) s
    later_step m e x y xs ys g p q us s (tells_part a r) =
        let i = p _ _ a in
        let j = q _ _ r in
        record { before = join m i.0 j.before; after = join m i.0 j.after; tells = tells_part i.1 j.tells; takes = take_later (lets_placed m e place i.0 i.2) j.takes; same_as = in_join i.3 j.same_as }

    join_step : (m : Mode) (xs : Trees) (ys : List Tree) (d : TermEvent) (g : Accounts → Accounts) → ((us : Accounts) (s : Shape) → TellsAll w ev m ys us s → SteppedAll m (items xs) (g us) d s) → (a : Account) (s : Shape) → Tells w ev (join_all m ys) a s
        → Stepped (Join m xs) (of_parts (g (parts_back m ys a))) d s
    join_step m xs ys d g p a s h =
        let i = parts_back_tells w ev m ys a s h in
        let j = p (parts_back m ys a) i.0 i.1 in
        record { before = j.before; after = j.after; tells = tells_parts j.tells; takes = j.takes; same_as = on i.2 j.same_as }

    -- choices
    this_step : (x y : Tree) (xs : List Tree) (d : TermEvent) (c : Account) (s : Shape) → Stepped x c d s → SteppedOne (x ∷ xs) (of_branch zero c) d s
    this_step x y xs d c s i = record { index = zero; account = c; before = i.before; after = i.after; is = refl; tells = tells_this i.tells; takes = i.takes; same_as = i.same_as }

    that_step : (x : Tree) (xs : List Tree) (d : TermEvent) (c : Account) (s : Shape) → SteppedOne xs c d s → SteppedOne (x ∷ xs) (later_branch c) d s
    that_step x xs d c s i = record { index = suc i.index; account = i.account; before = i.before; after = i.after; is = ap later_branch i.is; tells = tells_that i.tells; takes = i.takes; same_as = i.same_as }

    choice_step : (xs : Trees) (d : TermEvent) (c : Account) (s : Shape) → SteppedOne (items xs) c d s → Stepped (Choice xs) c d s
    choice_step xs d c s i = record { before = i.before; after = i.after; tells = rw i.is (tells_branch i.tells); takes = i.takes; same_as = i.same_as }

    -- ties
    tied_step : (x y z : Tree) (q : List (ℕ × ℕ)) (e : TermEvent) (f g : Account → Account) → hits (earlier q e) e ≡ false → Back k node ev y f (earlier q e) z → ((a : Account) (s : Shape) → Tells w ev y a s → Stepped x (g a) (placed_event e place) s)
        → (a : Account) (s : Shape) → Tells w ev z a s → Stepped (Tied x q) (g (f a)) (placed_event e place) (bind s q)
    tied_step x y z q e f g nh p r a s h =
        let i = p a s h in
        let j = r (f a) i.0 i.1 in
        record {
          before = bind j.before q;
          after = bind j.after q;
          tells = tells_tie j.tells;
          takes = take_bind j.takes (avoids_before (earlier q e) j.takes nh ((avoids (earlier q e) j.same_as).to i.2));
          same_as = in_bind (on i.3 j.same_as);
        }

    tie_step : (x y z : Tree) (q : List (ℕ × ℕ)) (e : TermEvent) (f g : Account → Account) → hits (earlier q e) e ≡ false → ((j : ℕ) → InPairs j q → Shows w false z j) → Back k node ev y f (earlier q e) z → ((a : Account) (s : Shape) → Tells w ev y a s → Stepped x (g a) (placed_event e place) s)
        → (a : Account) (s : Shape) → Tells w ev (tie_of z q) a s → Stepped (Tied x q) (g (f a)) (placed_event e place) s
    tie_step x y z q e f g nh v p r a s h = let i = tie_told k node ev z q v a s h in at_tie a i.0 i.1 s i.2
      where
        empty_below : (u : Shape) → HasPattern w false (Tied z q) u → HasNoEvent u → HasEmpty w z
        empty_below u (holds_tie {s = t} i) nn = record { pattern = t; has = i; none = nn }

        moved_to : (a : Account) (s t : Shape) → s ≈ t → Stepped (Tied x q) (g (f a)) (placed_event e place) t → Stepped (Tied x q) (g (f a)) (placed_event e place) s
        moved_to a s t e i = record { before = i.before; after = i.after; tells = i.tells; takes = i.takes; same_as = on e i.same_as }

        at_tie : (a : Account) (t : Shape) → Tells w ev (Tied z q) a t → (s : Shape) → s ≈ t → Stepped (Tied x q) (g (f a)) (placed_event e place) s
        at_tie a t (tells_tie {s = u} i) s e' = moved_to a s (bind u q) e' (tied_step x y z q e f g nh p r a u i)
        at_tie a t (tells_nothing i) s e' = moved_to a s (bind empty q) (on e' (back (none_is_empty (bind empty q) tt))) (tied_step x y z q e f g nh p r a empty (tells_nothing (empty_below i.pattern i.has i.none)))

    -- rows
    turn_step : (x y z : Tree) (ps : List Part) (d : TermEvent) (f : Account → Account) → ((a : Account) (s : Shape) → Tells w ev z a s → Stepped y (f a) d s) → (rb : RowAccount) (m : ℕ) (s : Shape) → TellsRow w ev x (Turn z ∷ ps) rb m s
        → SteppedRow x false (Turn y ∷ ps) (turn_with f rb) d m s
    turn_step x y z ps d f p rb m s (tells_turn {u = u} h r) = let i = p _ _ h in record { turns = m; lower = refl; before = join seq i.before u; after = join seq i.after u; tells = tells_turn i.tells r; takes = take_first i.takes; same_as = in_join i.same_as same }

    -- a turn that began in a gap, behind turns that let it pass
    new_first : (x : Tree) (c : List ℕ) (ps : List Part) (a : Account) (vs : Accounts) (b : RowAccount) (m : ℕ) (t u : Shape) → Tells w ev x a t → Avoids (only c) t → TellsRow w ev x (Gap c ∷ ps) (turns_in_gap vs b) m u → TellsRow w ev x (Gap c ∷ ps) (turns_in_gap (account_and a vs) b) (suc m) (join seq t u)
    new_first x c ps a vs b m t u h av r = tells_more h av r

    gap_steps : (x y z : Tree) (c g : List ℕ) (ps : List Part) (e : TermEvent) (f h : Account → Account) → Back k node ev x h (only c) y → ((a : Account) (s : Shape) → Tells w ev z a s → Stepped y (f a) (placed_event e place) s)
        → ((a : Account) (s : Shape) → Tells w ev x a s → Avoids (only g) s → Avoids (only c) s × Avoids (instances_of e) s)
        → (us : Accounts) (a : Account) (vs : Accounts) (b : RowAccount) (m : ℕ) (s : Shape) → TellsRow w ev x (Gap g ∷ Turn z ∷ Gap c ∷ ps) (turns_in_gap us (begun_turn a (turns_in_gap vs b))) m s
        → SteppedRow x true (Gap c ∷ ps) (turns_in_gap (accounts_and us (account_and (h (f a)) vs)) b) (placed_event e place) m s
    gap_steps x y z c g ps e f h p q v no_accounts a vs b m _ (tells_shut (tells_turn {s = t} {u = u} i r)) =
        let j = q a t i in
        let l = p (f a) j.before j.tells in
        let o = (follows l.3).0 (placed_event e place) j.after j.takes in
        record { turns = suc m; lower = refl; before = join seq l.0 u; after = join seq o.0 u; tells = new_first x c ps (h (f a)) vs b m l.0 u l.1 l.2 r; takes = take_first o.1; same_as = in_join (on j.same_as o.2) same }
    gap_steps x y z c g ps e f h p q v (account_and d us) a vs b zero s r = elim r [ ]
    gap_steps x y z c g ps e f h p q v (account_and d us) a vs b (suc m) _ (tells_more {s = t} {u = u} i av r) =
        let j = gap_steps x y z c g ps e f h p q v us a vs b m u r in
        let l = v d t i av in
        record { turns = suc j.turns; lower = ap suc j.lower; before = join seq t j.before; after = join seq t j.after; tells = tells_more i l.0 j.tells; takes = take_later l.1 j.takes; same_as = in_join same j.same_as }

    gap_of : (x : Tree) (c : List ℕ) (ps : List Part) (rb : RowAccount) (m : ℕ) (s : Shape) → TellsRow w ev x (Gap c ∷ ps) rb m s → (vs : Accounts) × (b : RowAccount) × (rb ≡ turns_in_gap vs b)
    gap_of x c ps rb m s (tells_shut {b = b} r) = (no_accounts, b, refl)
    gap_of x c ps rb m s (tells_more {a = a} {us = us} {b = b} i av r) = (account_and a us, b, refl)

    same_behind : (us vs : Accounts) (b c : RowAccount) → turns_in_gap us b ≡ turns_in_gap vs c → b ≡ c
    same_behind us vs b c e = cc

    turn_of : (x z : Tree) (c g : List ℕ) (ps : List Part) (rb : RowAccount) (m : ℕ) (s : Shape) → TellsRow w ev x (Gap g ∷ Turn z ∷ Gap c ∷ ps) rb m s → (us : Accounts) × (a : Account) × (vs : Accounts) × (b : RowAccount) × (rb ≡ turns_in_gap us (begun_turn a (turns_in_gap vs b)))
    turn_of x z c g ps rb m s (tells_shut (tells_turn {a = a} {b = d} i r)) = let (vs, b, e) = gap_of x c ps d _ _ r in (no_accounts, a, vs, b, ap (λ l. turns_in_gap no_accounts (begun_turn a l)) e)
    turn_of x z c g ps rb m s (tells_more {a = d} {us = us} {b = l} i av r) = let (vs, a, ws, b, e) = turn_of x z c g ps _ _ _ r in (account_and d us, a, ws, b, ap (λ n. turns_in_gap (account_and d us) n) (same_behind us vs l (begun_turn a (turns_in_gap ws b)) e))

    gap_step : (x y z : Tree) (c g : List ℕ) (ps : List Part) (e : TermEvent) (f h : Account → Account) → Back k node ev x h (only c) y → ((a : Account) (s : Shape) → Tells w ev z a s → Stepped y (f a) (placed_event e place) s)
        → ((a : Account) (s : Shape) → Tells w ev x a s → Avoids (only g) s → Avoids (only c) s × Avoids (instances_of e) s)
        → (rb : RowAccount) (m : ℕ) (s : Shape) → TellsRow w ev x (Gap g ∷ Turn z ∷ Gap c ∷ ps) rb m s → SteppedRow x true (Gap c ∷ ps) (gap_with (λ a. h (f a)) rb) (placed_event e place) m s
    gap_step x y z c g ps e f h p q v rb m s r = let (us, a, vs, b, i) = turn_of x z c g ps rb m s r in as_is rb us a vs b i r
      where
        as_is : (rb : RowAccount) (us : Accounts) (a : Account) (vs : Accounts) (b : RowAccount) → rb ≡ turns_in_gap us (begun_turn a (turns_in_gap vs b)) → TellsRow w ev x (Gap g ∷ Turn z ∷ Gap c ∷ ps) rb m s → SteppedRow x true (Gap c ∷ ps) (gap_with (λ a. h (f a)) rb) (placed_event e place) m s
        as_is rb us a vs b i r = rw i (gap_steps x y z c g ps e f h p q v us a vs b m s (rw i at r))

    past_turn_step : (x y z : Tree) (b : Bool) (ps qs : List Part) (e : TermEvent) (f : Account → Account) (g : RowAccount → RowAccount) → Back k node ev y f (instances_of e) z
        → ((rb : RowAccount) (m : ℕ) (s : Shape) → TellsRow w ev x qs rb m s → SteppedRow x b ps (g rb) (placed_event e place) m s)
        → (rb : RowAccount) (m : ℕ) (s : Shape) → TellsRow w ev x (Turn z ∷ qs) rb m s → SteppedRow x b (Turn y ∷ ps) (put_begun rb f g) (placed_event e place) m s
    past_turn_step x y z b ps qs e f g p q rb m s (tells_turn i r) =
        let l = p _ _ i in
        let j = q _ m _ r in
        record { turns = j.turns; lower = j.lower; before = join seq l.0 j.before; after = join seq l.0 j.after; tells = tells_turn l.1 j.tells; takes = take_later l.2 j.takes; same_as = in_join l.3 j.same_as }

    up_lower : (b : Bool) (n m : ℕ) → IsLower b n m → IsLower b (suc n) (suc m)
    up_lower true n m e = ap suc e
    up_lower false n m e = ap suc e

    past_gap_step : (x : Tree) (b : Bool) (c g : List ℕ) (ps qs : List Part) (e : TermEvent) (f : RowAccount → RowAccount)
        → ((a : Account) (s : Shape) → Tells w ev x a s → Avoids (only g) s → Avoids (only c) s × Avoids (instances_of e) s)
        → ((rb : RowAccount) (m : ℕ) (s : Shape) → TellsRow w ev x qs rb m s → SteppedRow x b ps (f rb) (placed_event e place) m s)
        → (rb : RowAccount) (m : ℕ) (s : Shape) → TellsRow w ev x (Gap g ∷ qs) rb m s → SteppedRow x b (Gap c ∷ ps) (put_gap rb f) (placed_event e place) m s
    past_gap_step x b c g ps qs e f v q rb m s (tells_shut r) =
        let j = q _ m s r in
        record { turns = j.turns; lower = j.lower; before = j.before; after = j.after; tells = tells_shut j.tells; takes = j.takes; same_as = j.same_as }
    past_gap_step x b c g ps qs e f v q rb (suc m) s (tells_more {s = t} i av r) =
        let j = past_gap_step x b c g ps qs e f v q _ m _ r in
        let l = v _ t i av in
        record { turns = suc j.turns; lower = up_lower b j.turns m j.lower; before = join seq t j.before; after = join seq t j.after; tells = tells_more i l.0 j.tells; takes = take_later l.1 j.takes; same_as = in_join same j.same_as }

    wide : (x : Tree) (c : List ℕ) (e : TermEvent) (a : Account) (s : Shape) → Tells w ev x a s → Avoids (only (c ∪ (instances_of e).instances)) s → Avoids (only c) s × Avoids (instances_of e) s
    wide x c e a s h av = (both_avoids c (instances_of e).instances s).to av

    -- a row has the gaps that it had
    gap_before : {x : Tree} {b : Bool} {ps qs : List Part} {e : TermEvent} → IsAfterRow k x b ps e qs → HasGap qs → HasGap ps
    gap_before (in_turn h) g = g
    gap_before (in_gap p h) g = tt
    gap_before (past_turn p h) g = gap_before h g
    gap_before (past_gap h) g = tt

    low_up : (b : Bool) (lo n m : ℕ) → IsLower b n m → down b lo ≤ m → lo ≤ n
    low_up true lo n m h l = omega arith
    low_up false lo n m h l = omega arith

    high_up : (b : Bool) (hi : Option ℕ) (n m : ℕ) → IsLower b n m → HasMore b hi → UpTo (fewer b hi) m → UpTo hi n
    high_up b None n m h e l = tt
    high_up true (Some zero) n m h e l = absurd e
    high_up true (Some (suc i)) n m h e l = omega arith
    high_up false (Some i) n m h e l = omega arith

    loop_step : (x z : Tree) (b : Bool) (lo : ℕ) (hi : Option ℕ) (r : Row) (e : TermEvent) (ps : List Part) (g : RowAccount → RowAccount) → IsRegular k node false x → UpTo hi lo → HasMore b hi → (HasGap ps → HasGap (parts r))
        → ((rb : RowAccount) (m : ℕ) (s : Shape) → TellsRow w ev x ps rb m s → SteppedRow x b (parts r) (g rb) (placed_event e place) m s)
        → loop_of (λ c. permit k (only c) x) (touch k.spread x) x (down b lo) (fewer b hi) ps ≡ Some z → (a : Account) (s : Shape) → Tells w ev z a s
        → Stepped (Loop x lo hi r) (of_row (g (loop_back (λ c. permit k (only c) x) (touch k.spread x) (fewer b hi) ps a))) (placed_event e place) s
    loop_step x z b lo hi r e ps g h u next gaps q i a s t =
        let c = loop_of_told k node ev x h (down b lo) (fewer b hi) ps z i a s t in
        let j = q (loop_back (λ c. permit k (only c) x) (touch k.spread x) (fewer b hi) ps a) c.turns c.pattern c.tells in
        record {
          before = j.before;
          after = j.after;
          tells = tells_row {r = r} j.turns u j.tells (high_up b hi j.turns c.turns j.lower next c.upper) (elim c.lower [ inl l ↦ inl (low_up b lo j.turns c.turns j.lower l) | inr l ↦ inr (gaps l.0, l.1) ]);
          takes = j.takes;
          same_as = on c.same_as j.same_as;
        }

    -- walks
    same_node : (m i : ℕ) → (m == i) ≡ true → m ≡ i
    same_node m i h = grind (arith, nat_tests)

    visits_told : (n m : ℕ) (f : Spot) (t : Goal) (c : List ℕ) (v v' : Visits) (a : Account) (u s x : Shape) → TellsWalk w ev n f (To m) c v u → Tells w ev (node n m) a s → Avoids (only c) s → TellsWalk w ev n (At m) t c v' x
        → (z : Shape) × TellsWalk w ev n f t c (visits_and v (visit m a v')) z × (join seq u (join seq s x) ≈ z)
    visits_told n m f t c v v' a u s x (tells_arrived i j p) h av r = let e = same_node i m p in (_, tells_visit m (rw e at j) h av r, left)
    visits_told n m f t c v v' a u s x (tells_visit i j b bv q) h av r = let z = visits_told n m (At i) t c _ v' a _ s x q h av r in (_, tells_visit i j b bv z.1, on assoc (in_join same z.2))

    of_walk_told : (n : ℕ) (f : Spot) (t : Goal) (c : List ℕ) (a : Account) (s : Shape) → Tells w ev (Walk n f t c) a s → (u : Shape) × TellsWalk w ev n f t c (visits_in (nodes.empty_way n f t) a) u × (s ≈ u)
    of_walk_told n f t c a s (tells_walk h) = (s, h, same)
    of_walk_told n f t c a s (tells_nothing h) = let i = told_nodes.empty_told n f t c h in (i.0, i.1, back (none_is_empty i.0 i.2))

    walk_step_told : (n : ℕ) (f : Spot) (t : Goal) (c : List ℕ) (e : TermEvent) (m : ℕ) (x y u v : Tree) (g : Account → Account) → IsExactNet k node false n → IsIn m (k.nodes n) → k.kept n m c ≡ Some x → ((a : Account) (s : Shape) → Tells w ev y a s → Stepped x (g a) (placed_event e place) s)
        → walk_of k n f (To m) (c ∪ (instances_of e).instances) ≡ Some u → walk_of k n (At m) t c ≡ Some v → (us : Accounts) (s : Shape) → TellsAll w ev seq (u ∷ y ∷ v ∷ []) us s
        → Stepped (Walk n f t c) (of_walk (visits_and (visits_in (nodes.empty_way n f (To m)) (first_of us)) (visit m (nodes.kept_back n m c (g (first_of (rest_of us)))) (visits_in (nodes.empty_way n (At m) t) (first_of (rest_of (rest_of us))))))) (placed_event e place) s
    walk_step_told n f t c e m x y u v g fine inside p q r i us s (tells_part {a = a1} {s = s1} h1 (tells_part {a = a2} {s = s2} h2 (tells_part {a = a3} {s = s3} h3 tells_none))) =
        let d = c ∪ (instances_of e).instances in
        let b1 = walk_of_told k node ev n f (To m) d fine u r a1 s1 h1 in
        let b3 = walk_of_told k node ev n (At m) t c fine v i a3 s3 h3 in
        let v1 = of_walk_told n f (To m) d a1 b1.0 b1.1 in
        let v3 = of_walk_told n (At m) t c a3 b3.0 b3.1 in
        let w1 = widened k node ev n fine (instances_of e) c d (λ j l a z o av. wide (node n j) c e a z o av) f (To m) (visits_in (nodes.empty_way n f (To m)) a1) v1.0 v1.1 in
        let j = q a2 s2 h2 in
        let l = told_nodes.kept_told n m c x p (g a2) j.before j.tells in
        let o = (follows l.3).0 (placed_event e place) j.after j.takes in
        let z = visits_told n m f t c (visits_in (nodes.empty_way n f (To m)) a1) (visits_in (nodes.empty_way n (At m) t) a3) (nodes.kept_back n m c (g a2)) v1.0 l.0 v3.0 w1.0 l.1 l.2 v3.1 in
        let tz = (follows z.2).0 (placed_event e place) (join seq v1.0 (join seq o.0 v3.0)) (take_later w1.1 (take_first o.1)) in
        record {
          before = z.0;
          after = tz.0;
          tells = tells_walk z.1;
          takes = tz.1;
          same_as = on {z = tz.0} (in_join (on b1.2 v1.2) (in_join (on j.same_as o.2) (on right (on b3.2 v3.2)))) tz.2;
        }

    -- begun turns that are sound
    abbrev GoodTurns : List Part → Type 0
    GoodTurns [] = Unit {0}
    GoodTurns (Gap c ∷ ps) = GoodTurns ps
    GoodTurns (Turn y ∷ ps) = IsGood y × GoodTurns ps

    good_turns : (x : Tree) (lo : ℕ) (hi : Option ℕ) (r : Row) → IsGood (Loop x lo hi r) → (ps : List Part) → ((y : Tree) → IsTurnOf y ps → IsTurnOf y (parts r)) → GoodTurns ps
    good_turns x lo hi r g [] f = tt
    good_turns x lo hi r g (Gap c ∷ ps) f = good_turns x lo hi r g ps f
    good_turns x lo hi r g (Turn y ∷ ps) f = (closed.held.begun x lo hi y r g (f y (inl refl)), good_turns x lo hi r g ps (λ z i. f z (inr i)))

    walk_told_by : (n : ℕ) (f : Spot) (t : Goal) (c : List ℕ) (e : TermEvent) (m : ℕ) (x y u v : Tree) (g : Account → Account) → IsExactNet k node false n → IsIn m (k.nodes n) → k.kept n m c ≡ Some x → ((a : Account) (s : Shape) → Tells w ev y a s → Stepped x (g a) (placed_event e place) s)
        → walk_of k n f (To m) (c ∪ (instances_of e).instances) ≡ Some u → walk_of k n (At m) t c ≡ Some v → (a : Account) (s : Shape) → Tells w ev (join_all seq (u ∷ y ∷ v ∷ [])) a s
        → Stepped (Walk n f t c) (of_walk (visits_and (visits_in (nodes.empty_way n f (To m)) (first_of (parts_back seq (u ∷ y ∷ v ∷ []) a))) (visit m (nodes.kept_back n m c (g (first_of (rest_of (parts_back seq (u ∷ y ∷ v ∷ []) a))))) (visits_in (nodes.empty_way n (At m) t) (first_of (rest_of (rest_of (parts_back seq (u ∷ y ∷ v ∷ []) a)))))))) (placed_event e place) s
    walk_told_by n f t c e m x y u v g fine inside p q r i a s h =
        let j = parts_back_tells w ev seq (u ∷ y ∷ v ∷ []) a s h in
        let l = walk_step_told n f t c e m x y u v g fine inside p q r i (parts_back seq (u ∷ y ∷ v ∷ []) a) j.0 j.1 in
        record { before = l.before; after = l.after; tells = l.tells; takes = l.takes; same_as = on j.2 l.same_as }

    mutual
      pub step_told : {x y : Tree} {e : TermEvent} (h : IsAfter k x e y) → IsGood x → ev place ≡ e → (a : Account) (s : Shape) → Tells w ev y a s → Stepped x (step_back k nodes place h a) (placed_event e place) s
      step_told {e = e} after_event g n a s t = event_step e n a s t
      step_told {e = e} (after_choice {xs = xs} h) g n a s t = choice_step xs (placed_event e place) (branch_step k nodes place h a) s (branch_told h g n a s t)
      step_told {e = e} (after_join {m = m} {xs = xs} {ys = ys} h) g n a s t = join_step m xs ys (placed_event e place) (λ us. parts_step k nodes place h us) (λ us u r. parts_told h g n us u r) a s t
      step_told {e = e} (after_tied {x = x} {y = y} {z = z} {q = q} h p) g n a s t =
          let f = fits x y q e g h in
          tie_step x y z q e (permit_back k (earlier q e) y) (λ c. step_back k nodes place h c) (closed.no_self x q e g) (closed.shows x y z q e g h p) (permit_told k node ev y f.0 (earlier q e) f.1 z p) (λ c u r. step_told h (closed.held.tied x q g) n c u r) a s t
      step_told {e = e} (after_loop {x = x} {z = z} {lo = lo} {hi = hi} {r = r} b {ps = ps} h next q) g n a s t =
          let o = closed.held.ok (Loop x lo hi r) g in
          loop_step x z b lo hi r e ps (λ rb. row_step k nodes place h rb) (closed.held.ok x (closed.held.operand x lo hi r g)) o.2 next (λ v. gap_before h v)
          (λ rb m u v. row_told h (closed.held.operand x lo hi r g) (good_turns x lo hi r g (parts r) (λ y i. i)) n rb m u v) q a s t
      step_told {e = e} (after_walk {n = net} {s = f} {t = t} {c = c} m {x = x} {y = y} {u = u} {v = v} p h l r i j) g n a s d =
          walk_told_by net f t c e m x y u v (λ z. step_back k nodes place h z) (closed.held.ok (Walk net f t c) g) (closed.known net m c x p) p
          (λ z o b. step_told h (closed.held.kept net f t c c m x g (closed.known net m c x p) p) n z o b) i j a s d

      branch_told : {xs : Trees} {e : TermEvent} {y : Tree} (h : IsAfterOne k xs e y) → IsGood (Choice xs) → ev place ≡ e → (a : Account) (s : Shape) → Tells w ev y a s → SteppedOne (items xs) (branch_step k nodes place h a) (placed_event e place) s
      branch_told {e = e} (first_one {x = x} {y = y} {xs = xs} h) g n a s t = this_step x y (items xs) (placed_event e place) (step_back k nodes place h a) s (step_told h ((closed.held.chosen x xs g).0) n a s t)
      branch_told {e = e} (later_one {x = x} {xs = xs} h) g n a s t = that_step x (items xs) (placed_event e place) (branch_step k nodes place h a) s (branch_told h ((closed.held.chosen x xs g).1) n a s t)

      parts_told : {m : Mode} {xs : Trees} {e : TermEvent} {ys : List Tree} (h : IsAfterJoin k m xs e ys) → IsGood (Join m xs) → ev place ≡ e → (us : Accounts) (s : Shape) → TellsAll w ev m ys us s → SteppedAll m (items xs) (parts_step k nodes place h us) (placed_event e place) s
      parts_told {e = e} (first_part {m = m} {x = x} {y = y} {xs = xs} h) g n us s t = first_step m x y (items xs) (placed_event e place) (λ a. step_back k nodes place h a) (λ a u r. step_told h ((closed.held.joined m x xs g).0) n a u r) us s t
      parts_told {e = e} (later_part {m = m} {x = x} {x' = y} {xs = xs} {ys = ys} p h) g n us s t =
          later_step m e x y (items xs) ys (λ vs. parts_step k nodes place h vs) (stays m e x y ((closed.held.joined m x xs g).0) p) (λ vs u r. parts_told h ((closed.held.joined m x xs g).1) n vs u r) us s t

      row_told : {x : Tree} {b : Bool} {ps qs : List Part} {e : TermEvent} (h : IsAfterRow k x b ps e qs) → IsGood x → GoodTurns ps → ev place ≡ e → (rb : RowAccount) (m : ℕ) (s : Shape) → TellsRow w ev x qs rb m s → SteppedRow x b ps (row_step k nodes place h rb) (placed_event e place) m s
      row_told {e = e} (in_turn {x = x} {y = y} {z = z} {ps = ps} h) g t n rb m s r = turn_step x y z ps (placed_event e place) (λ a. step_back k nodes place h a) (λ a u v. step_told h t.0 n a u v) rb m s r
      row_told {e = e} (in_gap {x = x} {y = y} {z = z} {c = c} {ps = ps} p h) g t n rb m s r =
          gap_step x y z c (c ∪ (instances_of e).instances) ps e (λ a. step_back k nodes place h a) (permit_back k (only c) x) (passed x y c g p) (λ a u v. step_told h (closed.held.permitted c x y g p) n a u v) (wide x c e) rb m s r
      row_told {e = e} (past_turn {x = x} {y = y} {z = z} {b = b} {ps = ps} {qs = qs} p h) g t n rb m s r =
          past_turn_step x y z b ps qs e (permit_back k (only (instances_of e).instances) y) (λ b. row_step k nodes place h b) (passed y z (instances_of e).instances t.0 p) (λ b o u v. row_told h g t.1 n b o u v) rb m s r
      row_told {e = e} (past_gap {x = x} {c = c} {b = b} {ps = ps} {qs = qs} h) g t n rb m s r =
          past_gap_step x b c (c ∪ (instances_of e).instances) ps qs e (λ b. row_step k nodes place h b) (wide x c e) (λ b o u v. row_told h g t n b o u v) rb m s r
