-- An event is taken from a term exactly where it is taken from one of its children.
use Rattle.std.specs.Option.{option_map}
use Rattle.std.specs.Prelude.{ℕ, zero, suc, Bool, true, false, List, [], ◌∷◌, ◌≡◌, ◌⊎◌, Option, Some, None, refl, slice_get}
use Rattle.std.proofs.Common.{ap, sym, ◌∙◌, subst, inl, inr}
use Rattle.msc_base.specs.Patterns.{Mode, seq, par}
use Rattle.hmsc_graph.specs.Graphs.{Spot, At, Goal, To, End, Any}
use Rattle.hmsc_graph.specs.Walks.{Leads}
use Rattle.hmsc_graph.proofs.Reaching.{reach_sound, reach_whole}
use Rattle.chart_term.specs.NormalForms.{NetPermits, only, join_all, and_then, tie_of, loop_of, walk_of, allowed}
use Rattle.chart_term.specs.TermPatterns.{instances_of, earlier}
use Rattle.chart_term.specs.Terms.{TermEvent, Tree, Nil, Event, Join, Choice, Tied, Loop, Walk, Trees, none, more, items, Part, Gap, Turn, parts, ◌∪◌}
use Rattle.term_step.specs.Children.{parts_left, RowLeft, turn_first, gap_first, row_left, where_so, loop_left, three, put, new_turn, row_child, first_alone, child}
use Rattle.term_laws.specs.Listing.{stay, may_begin, may_lead}
use Rattle.chart_term.specs.Spreads.{touch}
use Rattle.term_laws.specs.Permission.{permit}
use Rattle.term_laws.specs.Taking.{Stays, fewer, down, HasMore, IsAfter, after_event, after_choice, after_join, after_tied, after_loop, after_walk, IsAfterOne, first_one, later_one, IsAfterJoin, first_part, later_part, IsAfterRow, in_turn, in_gap, past_turn, past_gap}

and_some : (o : Option Tree) (p : Option (List Tree)) (ys : List Tree) → and_then o p ≡ Some ys → (x : Tree) × (zs : List Tree) × (o ≡ Some x) × (p ≡ Some zs) × (x ∷ zs ≡ ys)
and_some None p ys h = cc
and_some (Some x) None ys h = cc
and_some (Some x) (Some zs) ys h = (x, zs, refl, refl, cc)

turn_some : (o : Option Tree) (p : Option RowLeft) (r : RowLeft) → turn_first o p ≡ Some r → (z : Tree) × (s : RowLeft) × (o ≡ Some z) × (p ≡ Some s) × (s.begins ≡ r.begins) × (Turn z ∷ s.row_parts ≡ r.row_parts)
turn_some None p r h = cc
turn_some (Some z) None r h = cc
turn_some (Some z) (Some s) r h = let e : record { begins = s.begins; row_parts = Turn z ∷ s.row_parts } ≡ r = cc in (z, s, refl, refl, ap (λ (t : RowLeft). t.begins) e, ap (λ (t : RowLeft). t.row_parts) e)

gap_some : (c : List ℕ) (p : Option RowLeft) (r : RowLeft) → gap_first c p ≡ Some r → (s : RowLeft) × (p ≡ Some s) × (s.begins ≡ r.begins) × (Gap c ∷ s.row_parts ≡ r.row_parts)
gap_some c None r h = cc
gap_some c (Some s) r h = let e : record { begins = s.begins; row_parts = Gap c ∷ s.row_parts } ≡ r = cc in (s, refl, ap (λ (t : RowLeft). t.begins) e, ap (λ (t : RowLeft). t.row_parts) e)

map_some : (f : List Tree → Tree) (o : Option (List Tree)) (z : Tree) → option_map f o ≡ Some z → (xs : List Tree) × (o ≡ Some xs) × (f xs ≡ z)
map_some f None z h = cc
map_some f (Some xs) z h = (xs, refl, cc)

tie_some : (f : Tree → Tree) (o : Option Tree) (z : Tree) → option_map f o ≡ Some z → (x : Tree) × (o ≡ Some x) × (f x ≡ z)
tie_some f None z h = cc
tie_some f (Some x) z h = (x, refl, cc)

so_some : (b : Bool) (o : Option Tree) (z : Tree) → where_so b o ≡ Some z → (b ≡ true) × (o ≡ Some z)
so_some true o z h = (refl, h)
so_some false o z h = cc

three_some : (u : Option Tree) (y : Tree) (v : Option Tree) (z : Tree) → three u y v ≡ Some z → (a : Tree) × (b : Tree) × (u ≡ Some a) × (v ≡ Some b) × (join_all seq (a ∷ y ∷ b ∷ []) ≡ z)
three_some None y v z h = cc
three_some (Some a) y None z h = cc
three_some (Some a) y (Some b) z h = (a, b, refl, refl, cc)

module _ (k : NetPermits) where
  -- an event is taken from a child
  pub record IsInChild (x : Tree) (e : TermEvent) (z : Tree) : Type 0 where
    pub index : ℕ
    pub inner : Tree
    pub left : Tree
    pub there : child k x index ≡ Some inner
    pub taken : IsAfter k inner e left
    pub whole : put k e x index left ≡ Some z

  -- parts of a join
  stays_some : (m : Mode) (e : TermEvent) (x x' : Tree) → Stays k m e x x' → stay k m e x ≡ Some x'
  stays_some seq e x x' h = h
  stays_some par e x x' h = ap Some (sym h)

  some_stays : (m : Mode) (e : TermEvent) (x x' : Tree) → stay k m e x ≡ Some x' → Stays k m e x x'
  some_stays seq e x x' h = h
  some_stays par e x x' h = let p : x ≡ x' = cc in sym p

  join_to : {m : Mode} {xs : Trees} {e : TermEvent} {ys : List Tree} → IsAfterJoin k m xs e ys
      → (i : ℕ) × (x : Tree) × (y : Tree) × (slice_get (items xs) i ≡ Some x) × IsAfter k x e y × (parts_left k m e (items xs) i y ≡ Some ys)
  join_to (first_part {x = x} {y = y} a) = (0, x, y, refl, a, refl)
  join_to (later_part {m = m} {x = x} {x' = x'} {xs = xs} {e = e} s a) =
      let (i, u, y, g, t, l) = join_to a in (suc i, u, y, g, t, λ j. and_then (stays_some m e x x' s j) (l j))

  join_from : (m : Mode) (xs : Trees) (e : TermEvent) (i : ℕ) (x y : Tree) (ys : List Tree) → slice_get (items xs) i ≡ Some x → IsAfter k x e y → parts_left k m e (items xs) i y ≡ Some ys → IsAfterJoin k m xs e ys
  join_from m none e i x y ys g a l = cc
  join_from m (more u xs) e zero x y ys g a l =
      let p : u ≡ x = cc in let q : y ∷ items xs ≡ ys = cc in
      subst (λ (zs : List Tree). IsAfterJoin k m (more u xs) e zs) q (first_part (subst (λ (v : Tree). IsAfter k v e y) (sym p) a))
  join_from m (more u xs) e (suc i) x y ys g a l =
      let (u', zs, s, r, q) = and_some (stay k m e u) (parts_left k m e (items xs) i y) ys l in
      subst (λ (vs : List Tree). IsAfterJoin k m (more u xs) e vs) q (later_part (some_stays m e u u' s) (join_from m xs e i x y zs g a r))

  one_to : {xs : Trees} {e : TermEvent} {y : Tree} → IsAfterOne k xs e y → (i : ℕ) × (x : Tree) × (slice_get (items xs) i ≡ Some x) × IsAfter k x e y
  one_to (first_one {x = x} a) = (0, x, refl, a)
  one_to (later_one a) = let (i, x, g, t) = one_to a in (suc i, x, g, t)

  one_from : (xs : Trees) (e : TermEvent) (i : ℕ) (x y : Tree) → slice_get (items xs) i ≡ Some x → IsAfter k x e y → IsAfterOne k xs e y
  one_from none e i x y g a = cc
  one_from (more u xs) e zero x y g a = let p : u ≡ x = cc in first_one (subst (λ (v : Tree). IsAfter k v e y) (sym p) a)
  one_from (more u xs) e (suc i) x y g a = later_one (one_from xs e i x y g a)

  -- rows
  more_may : (b : Bool) (hi : Option ℕ) → HasMore b hi → may_begin b hi ≡ true
  more_may true None h = refl
  more_may true (Some zero) h = absurd h
  more_may true (Some (suc n)) h = refl
  more_may false hi h = refl

  may_more : (b : Bool) (hi : Option ℕ) → may_begin b hi ≡ true → HasMore b hi
  may_more true None h = tt
  may_more true (Some zero) h = cc
  may_more true (Some (suc n)) h = tt
  may_more false hi h = tt

  begin_new : (hi : Option ℕ) (o : Option Tree) → HasMore true hi → new_turn hi o ≡ o
  begin_new None o h = refl
  begin_new (Some zero) o h = absurd h
  begin_new (Some (suc n)) o h = refl

  new_begin : (hi : Option ℕ) (o : Option Tree) (y : Tree) → new_turn hi o ≡ Some y → o ≡ Some y
  new_begin None o y h = h
  new_begin (Some zero) o y h = cc
  new_begin (Some (suc n)) o y h = h

  row_to : {x : Tree} {b : Bool} {ps qs : List Part} {e : TermEvent} (hi : Option ℕ) → HasMore b hi → IsAfterRow k x b ps e qs
      → (i : ℕ) × (u : Tree) × (y : Tree) × (row_child k x hi (slice_get ps i) ≡ Some u) × IsAfter k u e y × (row_left k e ps i y ≡ Some (record { begins = b; row_parts = qs }))
  row_to hi h (in_turn {y = y} {z = z} a) = (0, y, z, refl, a, refl)
  row_to hi h (in_gap {x = x} {y = y} {z = z} {c = c} p a) = (0, y, z, begin_new hi (permit k (only c) x) h ∙ p, a, refl)
  row_to hi h (past_turn {ps = ps} {e = e} p a) = let (i, u, y, g, t, l) = row_to hi h a in (suc i, u, y, g, t, λ j. turn_first (p j) (l j))
  row_to hi h (past_gap {c = c} {e = e} a) = let (i, u, y, g, t, l) = row_to hi h a in (suc i, u, y, g, t, ap (gap_first (c ∪ (instances_of e).instances)) l)

  row_from : (x : Tree) (hi : Option ℕ) (ps : List Part) (e : TermEvent) (i : ℕ) (u y : Tree) (r : RowLeft) → row_child k x hi (slice_get ps i) ≡ Some u → IsAfter k u e y → row_left k e ps i y ≡ Some r → IsAfterRow k x r.begins ps e r.row_parts
  row_from x hi [] e i u y r g a l = cc
  row_from x hi (Turn v ∷ ps) e zero u y r g a l =
      let p : v ≡ u = cc in let q : record { begins = false; row_parts = Turn y ∷ ps } ≡ r = cc in
      subst (λ (s : RowLeft). IsAfterRow k x s.begins (Turn v ∷ ps) e s.row_parts) q (in_turn (subst (λ (w : Tree). IsAfter k w e y) (sym p) a))
  row_from x hi (Gap c ∷ ps) e zero u y r g a l =
      let q : record { begins = true; row_parts = Gap (c ∪ (instances_of e).instances) ∷ Turn y ∷ Gap c ∷ ps } ≡ r = cc in
      subst (λ (s : RowLeft). IsAfterRow k x s.begins (Gap c ∷ ps) e s.row_parts) q (in_gap (new_begin hi (permit k (only c) x) u g) a)
  row_from x hi (Turn v ∷ ps) e (suc i) u y r g a l =
      let (z, s, p, o, b, q) = turn_some (permit k (only (instances_of e).instances) v) (row_left k e ps i y) r l in
      let h : IsAfterRow k x s.begins (Turn v ∷ ps) e (Turn z ∷ s.row_parts) = past_turn p (row_from x hi ps e i u y s g a o) in
      subst (λ (qs : List Part). IsAfterRow k x r.begins (Turn v ∷ ps) e qs) q (subst (λ (t : Bool). IsAfterRow k x t (Turn v ∷ ps) e (Turn z ∷ s.row_parts)) b h)
  row_from x hi (Gap c ∷ ps) e (suc i) u y r g a l =
      let (s, o, b, q) = gap_some (c ∪ (instances_of e).instances) (row_left k e ps i y) r l in
      let h : IsAfterRow k x s.begins (Gap c ∷ ps) e (Gap (c ∪ (instances_of e).instances) ∷ s.row_parts) = past_gap (row_from x hi ps e i u y s g a o) in
      subst (λ (qs : List Part). IsAfterRow k x r.begins (Gap c ∷ ps) e qs) q (subst (λ (t : Bool). IsAfterRow k x t (Gap c ∷ ps) e (Gap (c ∪ (instances_of e).instances) ∷ s.row_parts)) b h)

  -- walks
  leads_may : (n : ℕ) (f : Spot) (t : Goal) (c : List ℕ) → Leads (k.net n) (allowed k n c) f t → may_lead k n f t c ≡ true
  leads_may n f Any c h = refl
  leads_may n f End c h = reach_whole (k.net n) (allowed k n c) f End h
  leads_may n f (To m) c h = reach_whole (k.net n) (allowed k n c) f (To m) h

  may_leads : (n : ℕ) (f : Spot) (t : Goal) (c : List ℕ) → may_lead k n f t c ≡ true → Leads (k.net n) (allowed k n c) f t
  may_leads n f Any c h = tt
  may_leads n f End c h = reach_sound (k.net n) (allowed k n c) f End h
  may_leads n f (To m) c h = reach_sound (k.net n) (allowed k n c) f (To m) h

  -- an event is taken from a child, unless the term is the event
  pub in-child : {x z : Tree} {e : TermEvent} → IsAfter k x e z → ((x ≡ Event e) × (z ≡ Nil)) ⊎ IsInChild x e z
  in-child after_event = inl (refl, refl)
  in-child (after_choice {y = y} a) = let (i, x, g, t) = one_to a in inr (record { index = i; inner = x; left = y; there = g; taken = t; whole = refl })
  in-child (after_join {m = m} a) = let (i, x, y, g, t, l) = join_to a in inr (record { index = i; inner = x; left = y; there = g; taken = t; whole = ap (option_map (join_all m)) l })
  in-child (after_tied {x = x} {y = y} {q = q} a p) = inr (record { index = 0; inner = x; left = y; there = refl; taken = a; whole = ap (option_map (λ z. tie_of z q)) p })
  in-child (after_loop {x = x} {lo = lo} {hi = hi} {r = r} {e = e} b {ps = ps} a h p) =
      let (i, u, y, g, t, l) = row_to hi h a in
      inr (record { index = i; inner = u; left = y; there = g; taken = t; whole = ap (loop_left k x lo hi) l ∙ ((λ j. where_so (more_may b hi h j) (loop_of (λ c. permit k (only c) x) (touch k.spread x) x (down b lo) (fewer b hi) ps)) ∙ p) })
  in-child (after_walk {n = n} {s = f} {t = t} {c = c} {e = e} m {x = x} {y = y} {u = u} {v = v} p a l1 l2 q r) =
      inr (record { index = m; inner = x; left = y; there = p; taken = a; whole = λ j. where_so (leads_may n f (To m) (c ∪ (instances_of e).instances) l1 j) (where_so (leads_may n (At m) t c l2 j) (three (q j) y (r j))) })

  pub from-child : (x z : Tree) (e : TermEvent) → IsInChild x e z → IsAfter k x e z
  from-child Nil z e h = let g = h.there in cc
  from-child (Event f) z e h = let g = h.there in cc
  from-child (Join m xs) z e h =
      let (ys, l, q) = map_some (join_all m) (parts_left k m e (items xs) h.index h.left) z h.whole in
      subst (λ (v : Tree). IsAfter k (Join m xs) e v) q (after_join (join_from m xs e h.index h.inner h.left ys h.there h.taken l))
  from-child (Choice xs) z e h = let q : h.left ≡ z = cc in subst (λ (v : Tree). IsAfter k (Choice xs) e v) q (after_choice (one_from xs e h.index h.inner h.left h.there h.taken))
  from-child (Tied x q) z e h = bound_from h.index h.there h.whole
    where
      bound_from : (i : ℕ) → first_alone x i ≡ Some h.inner → option_map (λ u. tie_of u q) (permit k (earlier q e) h.left) ≡ Some z → IsAfter k (Tied x q) e z
      bound_from zero g w =
          let p : x ≡ h.inner = cc in
          let (u, r, s) = tie_some (λ u. tie_of u q) (permit k (earlier q e) h.left) z w in
          subst (λ (v : Tree). IsAfter k (Tied x q) e v) s (after_tied (subst (λ (v : Tree). IsAfter k v e h.left) (sym p) h.taken) r)
      bound_from (suc i) g w = cc
  from-child (Loop x lo hi r) z e h = turns_from (row_left k e (parts r) h.index h.left) refl h.whole
    where
      turns_from : (o : Option RowLeft) → row_left k e (parts r) h.index h.left ≡ o → loop_left k x lo hi o ≡ Some z → IsAfter k (Loop x lo hi r) e z
      turns_from None q w = cc
      turns_from (Some s) q w =
          let (b, p) = so_some (may_begin s.begins hi) (loop_of (λ c. permit k (only c) x) (touch k.spread x) x (down s.begins lo) (fewer s.begins hi) s.row_parts) z w in
          after_loop s.begins (row_from x hi (parts r) e h.index h.inner h.left s h.there h.taken q) (may_more s.begins hi b) p
  from-child (Walk n f t c) z e h =
      let d = c ∪ (instances_of e).instances in
      let (a, w) = so_some (may_lead k n f (To h.index) d) (where_so (may_lead k n (At h.index) t c) (three (walk_of k n f (To h.index) d) h.left (walk_of k n (At h.index) t c))) z h.whole in
      let (b, s) = so_some (may_lead k n (At h.index) t c) (three (walk_of k n f (To h.index) d) h.left (walk_of k n (At h.index) t c)) z w in
      let (u, v, p, q, r) = three_some (walk_of k n f (To h.index) d) h.left (walk_of k n (At h.index) t c) z s in
      subst (λ (y : Tree). IsAfter k (Walk n f t c) e y) r (after_walk h.index h.there h.taken (may_leads n f (To h.index) d a) (may_leads n (At h.index) t c b) p q)
