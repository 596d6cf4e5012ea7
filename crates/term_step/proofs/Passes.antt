-- What a search for a label passes over has no event with the label that could happen.
use Rattle.std.specs.Prelude.{ℕ, zero, suc, ◌+◌, ◌<◌, ◌≤◌, ◌⊎◌, Bool, true, false, List, [], ◌∷◌, ◌++◌, ◌≡◌, ◌||◌, ◌==◌, Option, Some, None, refl, length, slice_get}
use Rattle.std.specs.Option.{option_map}
use Rattle.std.proofs.Common.{ap, sym, ◌∙◌, subst, arith, inl, inr}
use Rattle.std.proofs.lemmas.Bool.{or_parts, or_left, or_right}
use Rattle.std.proofs.lemmas.Bool.Decides.{nat_tests}
use Rattle.std.proofs.lemmas.List.Folds.{list_any-append}
use Rattle.hmsc_graph.specs.Graphs.{Spot, Goal}
use Rattle.msc_base.specs.Patterns.{seq, par}
use Rattle.chart_term.specs.Facts.{holds_walk, any_walk, row_walk, instances, instances_all, instances_row}
use Rattle.chart_term.specs.Labels.{labels, labels_all, labels_row}
use Rattle.chart_term.specs.NormalForms.{NetPermits, and_then, begun, join_all, only}
use Rattle.chart_term.specs.PartLists.{AreTurns, ArePassed, IsPassed as IsPartPassed, IsWithin, Lacks}
use Rattle.chart_term.specs.Properties.{Every, EveryOf, EveryRow, MayHave}
use Rattle.chart_term.specs.Spreads.{touch}
use Rattle.chart_term.specs.Tables.{Tables, nodes_of}
use Rattle.term_permission.proofs.Within.{kept_within}
use Rattle.chart_term.specs.TermPatterns.{instances_of, some_list}
use Rattle.chart_term.specs.Terms.{TermEvent, has, Tree, Nil, Event, Join, Choice, Tied, Loop, Walk, Trees, none, more, Row, ends, gap, turn, trees, Part, Gap, Turn, row_of}
use Rattle.chart_term.proofs.Lists.{items-trees, parts-row_of}
use Rattle.chart_term.proofs.Turns.{begun-length, turn_at}
use Rattle.term_step.specs.Children.{parts_left, put, RowLeft, turn_first, gap_first, row_left, loop_left, row_child, child}
use Rattle.term_permission.specs.Ready.{IsReady}
use Rattle.term_step.specs.Searches.{IsPassed, IsNext, IsTaken, is_gap}
use Rattle.term_step.specs.Skips.{IsAt, IsBelowTie, IsHeldBefore, IsSkip, IsNextPart, HasNone, IsChildOr}
use Rattle.term_step.specs.declared.ascent.Taken.{Taken}
use Rattle.term_step.specs.declared.descent.Step.{Step}
use Rattle.term_laws.specs.Permission.{kept_of, permit, permits_of}
use Rattle.term_laws.specs.Values.{block_of}
use Rattle.term_laws.proofs.Alike.{AgreeOn, permit-alike}
use Rattle.term_laws.proofs.Everywhere.{permit_every}
use Rattle.term_laws.proofs.Steady.{taken_every}

-- every event has the property that all numbers of a list give
has_app : (ns ms : List ℕ) (n : ℕ) → has (ns ++ ms) n ≡ (has ns n || has ms n)
has_app ns ms n = list_any-append (λ m. m == n) ns ms

module _ (a : ℕ) where
  lacks_both : (ns ms : List ℕ) → has (ns ++ ms) a ≡ false → (has ns a ≡ false) × (has ms a ≡ false)
  lacks_both ns ms h = or_parts (has ns a) (has ms a) (sym (has_app ns ms a) ∙ h)

  event_lacks : (e : TermEvent) → has (e.label ∷ []) a ≡ false → e.label ≡ a → ⊥
  event_lacks e h q = let t : (e.label == a) ≡ true = grind (arith, nat_tests) in let f : true ≡ false = sym (ap (λ b. b || false) t) ∙ h in cc

  mutual
    lacks_tree : (x : Tree) → holds_walk x ≡ false → has (labels x) a ≡ false → HasNone a x
    lacks_tree Nil w h = tt
    lacks_tree (Event e) w h = event_lacks e h
    lacks_tree (Join m xs) w h = lacks_trees xs w h
    lacks_tree (Choice xs) w h = lacks_trees xs w h
    lacks_tree (Tied x q) w h = lacks_tree x w h
    lacks_tree (Loop x lo hi r) w h =
        let (u, v) = or_parts (holds_walk x) (row_walk r) w in
        let (p, q) = lacks_both (labels x) (labels_row r) h in
        (lacks_tree x u p, lacks_row r v q)
    lacks_tree (Walk n f t c) w h = cc

    lacks_trees : (xs : Trees) → any_walk xs ≡ false → has (labels_all xs) a ≡ false → EveryOf (λ e. e.label ≡ a → ⊥) (λ n. ⊥) xs
    lacks_trees none w h = tt
    lacks_trees (more x xs) w h =
        let (u, v) = or_parts (holds_walk x) (any_walk xs) w in
        let (p, q) = lacks_both (labels x) (labels_all xs) h in
        (lacks_tree x u p, lacks_trees xs v q)

    lacks_row : (r : Row) → row_walk r ≡ false → has (labels_row r) a ≡ false → EveryRow (λ e. e.label ≡ a → ⊥) (λ n. ⊥) r
    lacks_row ends w h = tt
    lacks_row (gap c r) w h = lacks_row r w h
    lacks_row (turn x r) w h =
        let (u, v) = or_parts (holds_walk x) (row_walk r) w in
        let (p, q) = lacks_both (labels x) (labels_row r) h in
        (lacks_tree x u p, lacks_row r v q)

pub lacks-none : (a : ℕ) (x : Tree) → Lacks a x → HasNone a x
lacks-none a x h = lacks_tree a x h.0 h.1

module _ (c : List ℕ) where
  abbrev AllIn : List ℕ → Type 0
  AllIn ns = (n : ℕ) → has ns n ≡ true → has c n ≡ true

  in_first : (ns ms : List ℕ) → AllIn (ns ++ ms) → AllIn ns
  in_first ns ms h n p = h n (has_app ns ms n ∙ or_left (has ns n) (has ms n) p)

  in_second : (ns ms : List ℕ) → AllIn (ns ++ ms) → AllIn ms
  in_second ns ms h n p = h n (has_app ns ms n ∙ or_right (has ns n) (has ms n) p)

  mutual
    within_tree : (x : Tree) → holds_walk x ≡ false → AllIn (instances x) → Every (IsAt c) (λ n. ⊥) x
    within_tree Nil w h = tt
    within_tree (Event e) w h = h
    within_tree (Join m xs) w h = within_trees xs w h
    within_tree (Choice xs) w h = within_trees xs w h
    within_tree (Tied x q) w h = within_tree x w h
    within_tree (Loop x lo hi r) w h =
        let (u, v) = or_parts (holds_walk x) (row_walk r) w in
        (within_tree x u (in_first (instances x) (instances_row r) h), within_row r v (in_second (instances x) (instances_row r) h))
    within_tree (Walk n f t d) w h = cc

    within_trees : (xs : Trees) → any_walk xs ≡ false → AllIn (instances_all xs) → EveryOf (IsAt c) (λ n. ⊥) xs
    within_trees none w h = tt
    within_trees (more x xs) w h =
        let (u, v) = or_parts (holds_walk x) (any_walk xs) w in
        (within_tree x u (in_first (instances x) (instances_all xs) h), within_trees xs v (in_second (instances x) (instances_all xs) h))

    within_row : (r : Row) → row_walk r ≡ false → AllIn (instances_row r) → EveryRow (IsAt c) (λ n. ⊥) r
    within_row ends w h = tt
    within_row (gap d r) w h = within_row r w h
    within_row (turn x r) w h =
        let (u, v) = or_parts (holds_walk x) (row_walk r) w in
        (within_tree x u (in_first (instances x) (instances_row r) h), within_row r v (in_second (instances x) (instances_row r) h))

-- a child that is passed over
module _ (w : Tables) (a : ℕ) where
  abbrev k : NetPermits
  k = permits_of w

  pub passed-lacking : (x : Tree) (p : ℕ) → ((y : Tree) → child k x p ≡ Some y → HasNone a y) → IsPassed w a x p
  passed-lacking x p h y c e l u t = absurd (taken_every k (λ f. f.label ≡ a → ⊥) t (h y c) l)

  pub passed-part : (x y : Tree) (p : ℕ) (c : List ℕ) → child k x p ≡ Some y → ((e : TermEvent) → IsAt c e → (u : Tree) → put k e x p u ≡ None) → Lacks a y ⊎ IsWithin c y → IsPassed w a x p
  passed-part x y p c g held (inl h) = passed-lacking x p (λ z q. let same : y ≡ z = (let o : Some y ≡ Some z = sym g ∙ q in cc) in subst (HasNone a) same (lacks-none a y h))
  passed-part x y p c g held (inr h) = λ z q e l u t.
      let same : y ≡ z = (let o : Some y ≡ Some z = sym g ∙ q in cc) in
      held e (taken_every k (IsAt c) t (subst (Every (IsAt c) (λ n. ⊥)) same (within_tree c y h.0 h.1))) u

-- an event that is held
module _ (k : NetPermits) (e : TermEvent) where
  none_later : (o : Option Tree) (p : Option (List Tree)) → p ≡ None → and_then o p ≡ None
  none_later None p h = refl
  none_later (Some x) p h = ap (and_then (Some x)) h

  parts_held : (xs : List Tree) (j i : ℕ) (z u : Tree) → j < i → slice_get xs j ≡ Some z → permit k (only (instances_of e).instances) z ≡ None → parts_left k seq e xs i u ≡ None
  parts_held [] j i z u l g h = refl
  parts_held (x ∷ xs) j zero z u l g h = absurd (omega arith)
  parts_held (x ∷ xs) zero (suc i) z u l g h = let q : x ≡ z = cc in ap (λ o. and_then o (parts_left k seq e xs i u)) (ap (permit k (only (instances_of e).instances)) q ∙ h)
  parts_held (x ∷ xs) (suc j) (suc i) z u l g h = none_later (permit k (only (instances_of e).instances) x) (parts_left k seq e xs i u) (parts_held xs j i z u (omega arith) g h)

  turn_none : (o : Option Tree) (p : Option RowLeft) → p ≡ None → turn_first o p ≡ None
  turn_none None p h = refl
  turn_none (Some z) p h = ap (turn_first (Some z)) h

  row_held : (ps : List Part) (j i : ℕ) (z u : Tree) → j < i → slice_get ps j ≡ Some (Turn z) → permit k (only (instances_of e).instances) z ≡ None → row_left k e ps i u ≡ None
  row_held [] j i z u l g h = refl
  row_held (t ∷ ps) j zero z u l g h = absurd (omega arith)
  row_held (Turn x ∷ ps) zero (suc i) z u l g h = let q : x ≡ z = cc in ap (λ o. turn_first o (row_left k e ps i u)) (ap (permit k (only (instances_of e).instances)) q ∙ h)
  row_held (Gap c ∷ ps) zero (suc i) z u l g h = cc
  row_held (Turn x ∷ ps) (suc j) (suc i) z u l g h = turn_none (permit k (only (instances_of e).instances) x) (row_left k e ps i u) (row_held ps j i z u (omega arith) g h)
  row_held (Gap c ∷ ps) (suc j) (suc i) z u l g h = ap (gap_first _) (row_held ps j i z u (omega arith) g h)

  pub row_put_held : (ps : List Part) (p from : ℕ) (u : Tree) → AreTurns ps → from ≤ p → IsHeldBefore k ps from e → put k e (Join seq (trees (begun ps))) p u ≡ None
  row_put_held ps p from u turns l h =
      ap (λ l. option_map (join_all seq) (parts_left k seq e l p u)) (items-trees (begun ps))
      ∙ ap (option_map (join_all seq)) (parts_held (begun ps) h.index p h.turn u (omega (arith, h.before)) (turn_at ps h.index h.turn turns h.there) h.held)

  pub loop_put_held : (x : Tree) (lo : ℕ) (hi : Option ℕ) (ps : List Part) (p from : ℕ) (u : Tree) → from ≤ p → IsHeldBefore k ps from e → put k e (Loop x lo hi (row_of ps)) p u ≡ None
  loop_put_held x lo hi ps p from u l h =
      ap (λ l. loop_left k x lo hi (row_left k e l p u)) (parts-row_of ps) ∙ ap (loop_left k x lo hi) (row_held ps h.index p h.turn u (omega (arith, h.before)) h.there h.held)

-- no event is at no instances
never_at : (e : TermEvent) → IsAt [] e → ⊥
never_at e h =
    let t : (e.at == e.at) ≡ true = grind (arith, nat_tests) in
    let f : false ≡ true = h e.at (ap (λ b. b || has (some_list e.also) e.at) t) in
    cc

pub skip-none : (k : NetPermits) (ps : List Part) (from : ℕ) (c : List ℕ) → c ≡ [] → IsSkip k ps from c
skip-none k ps from c q = record { all = λ e h. absurd (never_at e (subst (λ (d : List ℕ). IsAt d e) q h)) }

-- the event's instances, behind a turn of which nothing is left at them
pub skip-behind : (w : Tables) (t : Taken) (ps : List Part) (from place : ℕ) (z : Tree) (c : List ℕ) → IsTaken t → t.event.also ≡ None → place < from → slice_get ps place ≡ Some (Turn z) → IsReady w z → permit (permits_of w) (block_of t.at) z ≡ None → ((n : ℕ) → has c n ≡ has t.at.instances n) → IsSkip (permits_of w) ps from c
skip-behind w t ps from place z c taken alone n there ready fails same = record {
  all = λ e h. record {
    index = place;
    turn = z;
    before = omega arith;
    there = there;
    held = sym (permit-alike (permits_of w) (touch (permits_of w).spread z) (block_of t.at) (only (instances_of e).instances) (agree e h) z (λ m i. i) ready.normal) ∙ fails;
  };
}
  where
    m : ℕ
    m = t.event.at

    one : (n : ℕ) → has t.at.instances n ≡ has (m ∷ []) n
    one n = taken.same n ∙ ap (λ o. has (m ∷ some_list o) n) alone

    is_m : (n : ℕ) → has c n ≡ true → m ≡ n
    is_m n h = let q : ((m == n) || false) ≡ true = sym (one n) ∙ (sym (same n) ∙ h) in by (m == n) refl q
      where
        by : (b : Bool) → (m == n) ≡ b → (b || false) ≡ true → m ≡ n
        by true e q = grind (arith, nat_tests)
        by false e q = cc

    own : (e : TermEvent) → has (instances_of e).instances e.at ≡ true
    own e = let t : (e.at == e.at) ≡ true = grind (arith, nat_tests) in ap (λ b. b || has (some_list e.also) e.at) t

    agree : (e : TermEvent) → IsAt c e → AgreeOn (touch (permits_of w).spread z) (block_of t.at) (only (instances_of e).instances)
    agree e h = record { instances = λ n i. one n ∙ both n (has (instances_of e).instances n) refl; numbers = λ n. ap (λ l. has l n) taken.alone }
      where
        here : m ≡ e.at
        here = is_m e.at (h e.at (own e))

        both : (n : ℕ) (b : Bool) → has (instances_of e).instances n ≡ b → has (m ∷ []) n ≡ b
        both n true q = let p : m ≡ n = is_m n (h n q) in let t : (m == n) ≡ true = grind (arith, nat_tests) in ap (λ b. b || false) t
        both n false q = by (m == n) refl
          where
            by : (b : Bool) → (m == n) ≡ b → has (m ∷ []) n ≡ false
            by true s = let p : e.at ≡ n = sym here ∙ (let r : m ≡ n = grind (arith, nat_tests) in r) in let f : true ≡ false = sym (own e) ∙ (ap (has (instances_of e).instances) p ∙ q) in cc
            by false s = ap (λ b. b || false) s

-- the next of the parts
module _ (w : Tables) (a : ℕ) (x : Tree) (ps : List Part) (from : ℕ) (c : List ℕ) (turns : AreTurns ps)
    (there : (i : ℕ) (y : Tree) → slice_get (begun ps) i ≡ Some y → child (permits_of w) x i ≡ Some y) (none : (i : ℕ) (y : Tree) → child (permits_of w) x i ≡ Some y → slice_get (begun ps) i ≡ Some y)
    (held : (e : TermEvent) → IsAt c e → (p : ℕ) → from ≤ p → (u : Tree) → put (permits_of w) e x p u ≡ None) where
  part_at : (qs : List Part) (i : ℕ) (y : Tree) → AreTurns qs → slice_get (begun qs) i ≡ Some y → slice_get qs i ≡ Some (Turn y)
  part_at [] i y h e = cc
  part_at (Gap d ∷ qs) i y h e = cc
  part_at (Turn z ∷ qs) zero y h e = let q : z ≡ y = cc in ap (λ v. Some (Turn v)) q
  part_at (Turn z ∷ qs) (suc i) y h e = part_at qs i y h e

  within_list : (qs : List Tree) (i : ℕ) (y : Tree) → slice_get qs i ≡ Some y → i < length qs
  within_list [] i y h = cc
  within_list (z ∷ qs) zero y h = omega arith
  within_list (z ∷ qs) (suc i) y h = omega (arith, within_list qs i y h)

  passed_at : (last : ℕ) → ArePassed a c ps from last → (p : ℕ) → from ≤ p → p < last → IsPassed w a x p
  passed_at last h p l m y g =
      passed-part w a x y p c g (λ e i u. held e i p l u) (h p (Turn y) l m (part_at ps p y turns (none p y g))) y g

  pub next-part : (s : Option Step) → IsNextPart ps from a c s → IsNext w a x from s
  next-part None h = λ p l y g.
      let m : p < length ps = omega (arith, within_list (begun ps) p y (none p y g), begun-length ps turns) in
      passed_at (length ps) h p l m y g
  next-part (Some s) h = record { behind = h.0; there = there s.index s.inner h.2; passed = passed_at s.index h.1 }

module _ (w : Tables) (a : ℕ) (x : Tree) (ps : List Part) (from : ℕ) (turns : AreTurns ps) (s : Option Step) where
  pub next-row : (c : List ℕ) → x ≡ Join seq (trees (begun ps)) → IsSkip (permits_of w) ps from c → IsNextPart ps from a c s → IsNext w a x from s
  next-row c e h =
      next-part w a x ps from c turns (λ i y g. ap (λ u. child (permits_of w) u i) e ∙ (ap (λ l. slice_get l i) (items-trees (begun ps)) ∙ g)) (λ i y g. sym (ap (λ u. child (permits_of w) u i) e ∙ ap (λ l. slice_get l i) (items-trees (begun ps))) ∙ g)
      (λ f i p l u. ap (λ v. put (permits_of w) f v p u) e ∙ row_put_held (permits_of w) f ps p from u turns l (h.all f i)) s

  pub next-par : (c : List ℕ) → x ≡ Join par (trees (begun ps)) → c ≡ [] → IsNextPart ps from a c s → IsNext w a x from s
  next-par c e q =
      next-part w a x ps from c turns (λ i y g. ap (λ u. child (permits_of w) u i) e ∙ (ap (λ l. slice_get l i) (items-trees (begun ps)) ∙ g)) (λ i y g. sym (ap (λ u. child (permits_of w) u i) e ∙ ap (λ l. slice_get l i) (items-trees (begun ps))) ∙ g)
      (λ f i p l u. absurd (never_at f (subst (λ (d : List ℕ). IsAt d f) q i))) s

  pub next-choice : (c : List ℕ) → x ≡ Choice (trees (begun ps)) → c ≡ [] → IsNextPart ps from a c s → IsNext w a x from s
  next-choice c e q =
      next-part w a x ps from c turns (λ i y g. ap (λ u. child (permits_of w) u i) e ∙ (ap (λ l. slice_get l i) (items-trees (begun ps)) ∙ g)) (λ i y g. sym (ap (λ u. child (permits_of w) u i) e ∙ ap (λ l. slice_get l i) (items-trees (begun ps))) ∙ g)
      (λ f i p l u. absurd (never_at f (subst (λ (d : List ℕ). IsAt d f) q i))) s

-- terms of one child or none
module _ (w : Tables) (a : ℕ) (x : Tree) (from : ℕ) where
  pub next-nil : x ≡ Nil → IsNext w a x from None
  next-nil e = λ p l. passed-lacking w a x p (λ y c. absurd (no y (ap (λ u. child (permits_of w) u p) (sym e) ∙ c)))
    where
      no : (y : Tree) → None ≡ Some y → ⊥
      no y q = cc

  pub next-event : (e : TermEvent) → x ≡ Event e → IsNext w a x from None
  next-event e q = λ p l. passed-lacking w a x p (λ y c. absurd (no y (ap (λ u. child (permits_of w) u p) (sym q) ∙ c)))
    where
      no : (y : Tree) → None ≡ Some y → ⊥
      no y q = cc

  pub next-tied : (y : Tree) (q : List (ℕ × ℕ)) (s : Option Step) → x ≡ Tied y q → IsBelowTie a y from s → IsNext w a x from s
  next-tied y q None e h = λ p l. passed-lacking w a x p (λ z c. by p l z (ap (λ u. child (permits_of w) u p) (sym e) ∙ c) h)
    where
      by : (p : ℕ) → from ≤ p → (z : Tree) → child (permits_of w) (Tied y q) p ≡ Some z → (0 < from) ⊎ HasNone a y → HasNone a z
      by zero l z c (inl m) = absurd (omega arith)
      by zero l z c (inr m) = let s : y ≡ z = cc in subst (HasNone a) s m
      by (suc p) l z c m = cc
  next-tied y q (Some s) e h = record {
    behind = omega (arith, h.0);
    there = ap (child (permits_of w) x) h.1 ∙ (ap (λ u. child (permits_of w) u 0) e ∙ ap Some (sym h.2));
    passed = λ p l m. absurd (omega (arith, h.1));
  }

-- what permission leaves of a term without events of the label has none either
none_left : (w : Tables) (a : ℕ) (c : List ℕ) (x y : Tree) → HasNone a x → permit (permits_of w) (only c) x ≡ Some y → HasNone a y
none_left w a c x y h e = subst (λ (o : Option Tree). MayHave (HasNone a) o) e (permit_every (λ f. f.label ≡ a → ⊥) (λ n. ⊥) (permits_of w) (only c) x h)

pub gap-lacks : (w : Tables) (a : ℕ) (x : Tree) (hi : Option ℕ) (c : List ℕ) → Lacks a x → IsChildOr a (row_child (permits_of w) x hi (Some (Gap c))) None
gap-lacks w a x hi c h = λ y e. none_left w a c x y (lacks-none a x h) (begins hi e)
  where
    begins : (hi : Option ℕ) → {y : Tree} → row_child (permits_of w) x hi (Some (Gap c)) ≡ Some y → permit (permits_of w) (only c) x ≡ Some y
    begins None e = e
    begins (Some zero) e = cc
    begins (Some (suc n)) e = e

pub child-or : (a : ℕ) (o s : Option Tree) → s ≡ o → IsChildOr a o s
child-or a o None e = λ y q. absurd (no y (e ∙ q))
  where
    no : (y : Tree) → None ≡ Some y → ⊥
    no y q = cc
child-or a o (Some x) e = sym e

-- the turns of a loop
module _ (w : Tables) (a : ℕ) (x : Tree) (lo : ℕ) (hi : Option ℕ) (ps : List Part) (from : ℕ) where
  abbrev whole : Tree
  whole = Loop x lo hi (row_of ps)

  row_at : (p : ℕ) → child (permits_of w) whole p ≡ row_child (permits_of w) x hi (slice_get ps p)
  row_at p = ap (λ l. row_child (permits_of w) x hi (slice_get l p)) (parts-row_of ps)

  -- up to this place all are passed over
  abbrev pub AreOver : ℕ → Type 0
  AreOver last = (p : ℕ) → from ≤ p → p < last → IsPassed w a whole p

  pub over-start : AreOver from
  over-start p l m = absurd (omega arith)

  module _ (c : List ℕ) (skip : IsSkip (permits_of w) ps from c) where
    part_over : (p : ℕ) (t : Part) → from ≤ p → slice_get ps p ≡ Some t → IsPartPassed a c t → IsPassed w a whole p
    part_over p (Gap d) l g h = absurd h
    part_over p (Turn z) l g h = passed-part w a whole z p c (row_at p ∙ ap (row_child (permits_of w) x hi) g) (λ e i u. loop_put_held (permits_of w) e x lo hi ps p from u l (skip.all e i)) h

    there_at : (qs : List Part) (p : ℕ) → p < length qs → (t : Part) × (slice_get qs p ≡ Some t)
    there_at [] p l = absurd (omega arith)
    there_at (t ∷ qs) zero l = (t, refl)
    there_at (t ∷ qs) (suc p) l = there_at qs p (omega arith)

    pub over-more : (at last : ℕ) → from ≤ at → last ≤ length ps → AreOver at → ArePassed a c ps at last → AreOver last
    over-more at last f n h g p l m = elim (cut p at) [
      | inl b ↦ h p l b
      | inr b ↦ (let (t, q) = there_at ps p (omega arith) in part_over p t l q (g p t b m q))
    ]
      where
        cut : (p at : ℕ) → (p < at) ⊎ (at ≤ p)
        cut p at = grind arith

  pub over-next : (last : ℕ) (t : Part) → AreOver last → slice_get ps last ≡ Some t → IsChildOr a (row_child (permits_of w) x hi (Some t)) None → AreOver (last + 1)
  over-next last t h g n p l m = elim (cut p last) [
    | inl b ↦ h p l b
    | inr b ↦ passed-lacking w a whole p (λ y c. n y (sym (ap (row_child (permits_of w) x hi) g) ∙ (ap (λ i. row_child (permits_of w) x hi (slice_get ps i)) (let e : last ≡ p = omega arith in e) ∙ (sym (row_at p) ∙ c))))
  ]
    where
      cut : (p last : ℕ) → (p < last) ⊎ (last ≤ p)
      cut p last = grind arith

  pub loop-step : (last : ℕ) (t : Part) (y : Tree) → from ≤ last → AreOver last → slice_get ps last ≡ Some t → row_child (permits_of w) x hi (Some t) ≡ Some y → IsNext w a whole from (Some (record { index = last; inner = y }))
  loop-step last t y l h g e = record { behind = l; there = row_at last ∙ (ap (row_child (permits_of w) x hi) g ∙ e); passed = h }

  pub loop-end : AreOver (length ps) → IsNext w a whole from None
  loop-end h = λ p l. elim (cut p (length ps)) [
    | inl b ↦ h p l b
    | inr b ↦ passed-lacking w a whole p (λ y c. absurd (no y (sym (ap (row_child (permits_of w) x hi) (beyond ps p b)) ∙ (sym (row_at p) ∙ c))))
  ]
    where
      cut : (p last : ℕ) → (p < last) ⊎ (last ≤ p)
      cut p last = grind arith

      no : (y : Tree) → None ≡ Some y → ⊥
      no y q = cc

      beyond : (qs : List Part) (p : ℕ) → length qs ≤ p → slice_get qs p ≡ None
      beyond [] p l = refl
      beyond (t ∷ qs) zero l = absurd (omega arith)
      beyond (t ∷ qs) (suc p) l = beyond qs p (omega arith)

-- the nodes of a walk
module _ (w : Tables) (a : ℕ) (n : ℕ) (f : Spot) (t : Goal) (c : List ℕ) (from : ℕ) where
  pub node-more : (p : ℕ) → ((q : ℕ) → from ≤ q → q < p → IsPassed w a (Walk n f t c) q) → IsPassed w a (Walk n f t c) p → (q : ℕ) → from ≤ q → q < p + 1 → IsPassed w a (Walk n f t c) q
  node-more p h e q l m = elim (cut q p) [
    | inl b ↦ h q l b
    | inr b ↦ subst (λ (i : ℕ). IsPassed w a (Walk n f t c) i) (omega arith) e
  ]
    where
      cut : (q p : ℕ) → (q < p) ⊎ (p ≤ q)
      cut q p = grind arith

  pub node-end : (last : ℕ) → ((q : ℕ) → last ≤ q → kept_of w n q c ≡ None) → ((q : ℕ) → from ≤ q → q < last → IsPassed w a (Walk n f t c) q) → IsNext w a (Walk n f t c) from None
  node-end last g h = λ p l. elim (cut p last) [
    | inl b ↦ h p l b
    | inr b ↦ passed-lacking w a (Walk n f t c) p (λ y e. absurd (no y (sym (g p b) ∙ e)))
  ]
    where
      cut : (p last : ℕ) → (p < last) ⊎ (last ≤ p)
      cut p last = grind arith

      no : (y : Tree) → None ≡ Some y → ⊥
      no y q = cc

pub next-as : (w : Tables) (a : ℕ) (x y : Tree) (from : ℕ) (s : Option Step) → x ≡ y → IsNext w a y from s → IsNext w a x from s
next-as w a x y from s e h = subst (λ (u : Tree). IsNext w a u from s) (sym e) h

pub node-lacks : (w : Tables) (a n p : ℕ) (c : List ℕ) (x : Tree) → Lacks a x → kept_of w n p c ≡ permit (permits_of w) (only c) x → IsChildOr a (kept_of w n p c) None
node-lacks w a n p c x h e = λ y q. none_left w a c x y (lacks-none a x h) (sym e ∙ q)

pub gap-none : (w : Tables) (a : ℕ) (x : Tree) (hi : Option ℕ) (t : Part) → is_gap t ≡ true → Lacks a x → IsChildOr a (row_child (permits_of w) x hi (Some t)) None
gap-none w a x hi (Gap c) e h = gap-lacks w a x hi c h
gap-none w a x hi (Turn z) e h = cc

-- the nodes that a walk's net doesn't have
kept_beyond : (w : Tables) (n q : ℕ) (c : List ℕ) → length (nodes_of w n) ≤ q → kept_of w n q c ≡ None
kept_beyond w n q c l = go (kept_of w n q c) refl
  where
    go : (o : Option Tree) → kept_of w n q c ≡ o → kept_of w n q c ≡ None
    go None e = e
    go (Some y) e = let m : q < length (nodes_of w n) = kept_within w n q c y e in absurd (omega arith)

pub node-done : (w : Tables) (a n : ℕ) (f : Spot) (t : Goal) (c : List ℕ) (from last : ℕ) → length (nodes_of w n) ≤ last → ((q : ℕ) → from ≤ q → q < last → IsPassed w a (Walk n f t c) q) → IsNext w a (Walk n f t c) from None
node-done w a n f t c from last l h = node-end w a n f t c from last (λ q m. kept_beyond w n q c (omega arith)) h

pub ruleset passes = (lacks-none, skip-none, next-row, next-par, next-choice, next-nil, next-event, over-start, child-or)
