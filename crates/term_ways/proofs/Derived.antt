-- From frames that lead to an event to a derivation that takes these alternatives.
use Rattle.std.specs.Option.{option_map}
use Rattle.std.specs.Prelude.{ℕ, zero, suc, ◌+◌, Bool, true, false, List, [], ◌∷◌, ◌≡◌, Option, Some, None, refl, slice_get}
use Rattle.std.proofs.Common.{ap, sym, ◌∙◌, subst, arith}
use Rattle.certificate_accounts.specs.Ways.{branch_way, parts_way, row_way}
use Rattle.chart_term.specs.NormalForms.{NetPermits, only, join_all, and_then, tie_of, loop_of, walk_of, allowed}
use Rattle.chart_term.specs.Spreads.{touch}
use Rattle.chart_term.specs.TermPatterns.{instances_of, earlier}
use Rattle.chart_term.specs.Terms.{TermEvent, Tree, Nil, Event, Join, Choice, Tied, Loop, Walk, Trees, none, more, items, Part, Gap, Turn, parts, ◌∪◌}
use Rattle.hmsc_graph.proofs.Reaching.{reach_sound}
use Rattle.hmsc_graph.specs.Graphs.{Spot, At, Goal, To, End, Any}
use Rattle.hmsc_graph.specs.Walks.{Leads as WalkLeads}
use Rattle.msc_base.specs.Patterns.{Mode, seq, par}
use Rattle.term_laws.specs.Listing.{stay, may_begin, may_lead}
use Rattle.term_laws.specs.Permission.{permit}
use Rattle.term_laws.specs.Taking.{Stays, fewer, down, HasMore, after_event, after_choice, after_join, after_tied, after_loop, after_walk, IsAfterOne, first_one, later_one, IsAfterJoin, first_part, later_part, IsAfterRow, in_turn, in_gap, past_turn, past_gap}
use Rattle.term_step.specs.Children.{parts_left, RowLeft, turn_first, gap_first, row_left, where_so, loop_left, three, put, new_turn, row_child, child}
use Rattle.term_step.specs.Kept.{AreLinked, top}
use Rattle.term_step.specs.Searches.{put_all, put_some}
use Rattle.term_step.specs.declared.ascent.Frame.{Frame}
use Rattle.term_ways.specs.Ways.{indexes_of, Leads, IsAfterBy}

-- what is there behind what may fail
and_some : (o : Option Tree) (p : Option (List Tree)) (ys : List Tree) → and_then o p ≡ Some ys → (x : Tree) × (zs : List Tree) × (o ≡ Some x) × (p ≡ Some zs) × (x ∷ zs ≡ ys)
and_some None p ys h = cc
and_some (Some x) None ys h = cc
and_some (Some x) (Some zs) ys h = (x, zs, refl, refl, cc)

turn_some : (o : Option Tree) (p : Option RowLeft) (r : RowLeft) → turn_first o p ≡ Some r → (z : Tree) × (s : RowLeft) × (o ≡ Some z) × (p ≡ Some s) × (s.begins ≡ r.begins) × (Turn z ∷ s.row_parts ≡ r.row_parts)
turn_some None p r h = cc
turn_some (Some z) None r h = cc
turn_some (Some z) (Some s) r h = let e : record { begins = s.begins; row_parts = Turn z ∷ s.row_parts } ≡ r = cc in (z, s, refl, refl, ap (λ (t : RowLeft). t.begins) e, ap (λ (t : RowLeft). t.row_parts) e)

gap_some : (c : List ℕ) (p : Option RowLeft) (r : RowLeft) → gap_first c p ≡ Some r → (s : RowLeft) × (p ≡ Some s) × (s.begins ≡ r.begins) × (Gap c ∷ s.row_parts ≡ r.row_parts)
gap_some c None r h = cc
gap_some c (Some s) r h = let e : record { begins = s.begins; row_parts = Gap c ∷ s.row_parts } ≡ r = cc in (s, refl, ap (λ (t : RowLeft). t.begins) e, ap (λ (t : RowLeft). t.row_parts) e)

map_some : (f : List Tree → Tree) (o : Option (List Tree)) (z : Tree) → option_map f o ≡ Some z → (xs : List Tree) × (o ≡ Some xs) × (f xs ≡ z)
map_some f None z h = cc
map_some f (Some xs) z h = (xs, refl, cc)

tie_some : (f : Tree → Tree) (o : Option Tree) (z : Tree) → option_map f o ≡ Some z → (x : Tree) × (o ≡ Some x) × (f x ≡ z)
tie_some f None z h = cc
tie_some f (Some x) z h = (x, refl, cc)

so_some : (b : Bool) (o : Option Tree) (z : Tree) → where_so b o ≡ Some z → (b ≡ true) × (o ≡ Some z)
so_some true o z h = (refl, h)
so_some false o z h = cc

three_some : (u : Option Tree) (y : Tree) (v : Option Tree) (z : Tree) → three u y v ≡ Some z → (a : Tree) × (b : Tree) × (u ≡ Some a) × (v ≡ Some b) × (join_all seq (a ∷ y ∷ b ∷ []) ≡ z)
three_some None y v z h = cc
three_some (Some a) y None z h = cc
three_some (Some a) y (Some b) z h = (a, b, refl, refl, cc)

new_begin : (hi : Option ℕ) (o : Option Tree) (y : Tree) → new_turn hi o ≡ Some y → o ≡ Some y
new_begin None o y h = h
new_begin (Some zero) o y h = cc
new_begin (Some (suc n)) o y h = h

may_more : (b : Bool) (hi : Option ℕ) → may_begin b hi ≡ true → HasMore b hi
may_more true None h = tt
may_more true (Some zero) h = cc
may_more true (Some (suc n)) h = tt
may_more false hi h = tt

-- an index, where one counts from another
abbrev from : ℕ → ℕ → ℕ
from zero j = j
from (suc i) j = from i (suc j)

from_zero : (i : ℕ) → from i 0 ≡ i
from_zero i = counted i 0 ∙ plus i
  where
    counted : (i j : ℕ) → from i j ≡ i + j
    counted zero j = omega arith
    counted (suc i) j = counted i (suc j) ∙ shifted i j
      where
        shifted : (i j : ℕ) → i + suc j ≡ suc i + j
        shifted i j = omega arith

    plus : (i : ℕ) → i + 0 ≡ i
    plus i = omega arith

module _ (k : NetPermits) where
  some_stays : (m : Mode) (e : TermEvent) (x x' : Tree) → stay k m e x ≡ Some x' → Stays k m e x x'
  some_stays seq e x x' h = h
  some_stays par e x x' h = let p : x ≡ x' = cc in sym p

  may_leads : (n : ℕ) (f : Spot) (t : Goal) (c : List ℕ) → may_lead k n f t c ≡ true → WalkLeads (k.net n) (allowed k n c) f t
  may_leads n f Any c h = tt
  may_leads n f End c h = reach_sound (k.net n) (allowed k n c) f End h
  may_leads n f (To m) c h = reach_sound (k.net n) (allowed k n c) f (To m) h

  -- the same of parts, of alternatives and of a row, from an index on
  record IsPartsBy (m : Mode) (xs : Trees) (e : TermEvent) (ys : List Tree) (i : ℕ) (is : List ℕ) : Type 0 where
    after : IsAfterJoin k m xs e ys
    by : (j : ℕ) → parts_way k after j ≡ from i j ∷ is

  record IsOneBy (xs : Trees) (e : TermEvent) (y : Tree) (i : ℕ) (is : List ℕ) : Type 0 where
    after : IsAfterOne k xs e y
    by : (j : ℕ) → branch_way k after j ≡ from i j ∷ is

  record IsRowBy (x : Tree) (b : Bool) (ps : List Part) (e : TermEvent) (qs : List Part) (i : ℕ) (is : List ℕ) : Type 0 where
    after : IsAfterRow k x b ps e qs
    by : (j : ℕ) → row_way k after j ≡ from i j ∷ is

  parts_by : (m : Mode) (xs : Trees) (e : TermEvent) (i : ℕ) (x y : Tree) (ys : List Tree) (is : List ℕ) → slice_get (items xs) i ≡ Some x → IsAfterBy k x e y is → parts_left k m e (items xs) i y ≡ Some ys → IsPartsBy m xs e ys i is
  parts_by m none e i x y ys is g a l = cc
  parts_by m (more u xs) e zero x y ys is g a l =
      let p : u ≡ x = cc in
      let q : y ∷ items xs ≡ ys = cc in
      let h : IsAfterBy k u e y is = subst (λ (v : Tree). IsAfterBy k v e y is) (sym p) a in
      subst (λ (zs : List Tree). IsPartsBy m (more u xs) e zs zero is) q (record { after = first_part h.after; by = λ j. ap (λ l. j ∷ l) h.by })
  parts_by m (more u xs) e (suc i) x y ys is g a l =
      let (u', zs, s, r, q) = and_some (stay k m e u) (parts_left k m e (items xs) i y) ys l in
      let h = parts_by m xs e i x y zs is g a r in
      subst (λ (vs : List Tree). IsPartsBy m (more u xs) e vs (suc i) is) q (record { after = later_part (some_stays m e u u' s) h.after; by = λ j. h.by (suc j) })

  one_by : (xs : Trees) (e : TermEvent) (i : ℕ) (x y : Tree) (is : List ℕ) → slice_get (items xs) i ≡ Some x → IsAfterBy k x e y is → IsOneBy xs e y i is
  one_by none e i x y is g a = cc
  one_by (more u xs) e zero x y is g a =
      let p : u ≡ x = cc in
      let h : IsAfterBy k u e y is = subst (λ (v : Tree). IsAfterBy k v e y is) (sym p) a in
      record { after = first_one h.after; by = λ j. ap (λ l. j ∷ l) h.by }
  one_by (more u xs) e (suc i) x y is g a = let h = one_by xs e i x y is g a in record { after = later_one h.after; by = λ j. h.by (suc j) }

  row_by : (x : Tree) (hi : Option ℕ) (ps : List Part) (e : TermEvent) (i : ℕ) (u y : Tree) (r : RowLeft) (is : List ℕ) → row_child k x hi (slice_get ps i) ≡ Some u → IsAfterBy k u e y is → row_left k e ps i y ≡ Some r → IsRowBy x r.begins ps e r.row_parts i is
  row_by x hi [] e i u y r is g a l = cc
  row_by x hi (Turn v ∷ ps) e zero u y r is g a l =
      let p : v ≡ u = cc in
      let q : record { begins = false; row_parts = Turn y ∷ ps } ≡ r = cc in
      let h : IsAfterBy k v e y is = subst (λ (w : Tree). IsAfterBy k w e y is) (sym p) a in
      subst (λ (s : RowLeft). IsRowBy x s.begins (Turn v ∷ ps) e s.row_parts zero is) q (record { after = in_turn h.after; by = λ j. ap (λ l. j ∷ l) h.by })
  row_by x hi (Gap c ∷ ps) e zero u y r is g a l =
      let q : record { begins = true; row_parts = Gap (c ∪ (instances_of e).instances) ∷ Turn y ∷ Gap c ∷ ps } ≡ r = cc in
      subst (λ (s : RowLeft). IsRowBy x s.begins (Gap c ∷ ps) e s.row_parts zero is) q (record { after = in_gap (new_begin hi (permit k (only c) x) u g) a.after; by = λ j. ap (λ l. j ∷ l) a.by })
  row_by x hi (Turn v ∷ ps) e (suc i) u y r is g a l =
      let (z, s, p, o, b, q) = turn_some (permit k (only (instances_of e).instances) v) (row_left k e ps i y) r l in
      let h = row_by x hi ps e i u y s is g a o in
      let w : IsRowBy x s.begins (Turn v ∷ ps) e (Turn z ∷ s.row_parts) (suc i) is = record { after = past_turn p h.after; by = λ j. h.by (suc j) } in
      subst (λ (qs : List Part). IsRowBy x r.begins (Turn v ∷ ps) e qs (suc i) is) q (subst (λ (t : Bool). IsRowBy x t (Turn v ∷ ps) e (Turn z ∷ s.row_parts) (suc i) is) b w)
  row_by x hi (Gap c ∷ ps) e (suc i) u y r is g a l =
      let (s, o, b, q) = gap_some (c ∪ (instances_of e).instances) (row_left k e ps i y) r l in
      let h = row_by x hi ps e i u y s is g a o in
      let w : IsRowBy x s.begins (Gap c ∷ ps) e (Gap (c ∪ (instances_of e).instances) ∷ s.row_parts) (suc i) is = record { after = past_gap h.after; by = λ j. h.by (suc j) } in
      subst (λ (qs : List Part). IsRowBy x r.begins (Gap c ∷ ps) e qs (suc i) is) q (subst (λ (t : Bool). IsRowBy x t (Gap c ∷ ps) e (Gap (c ∪ (instances_of e).instances) ∷ s.row_parts) (suc i) is) b w)

  first_index : (i : ℕ) (is : List ℕ) → from i 0 ∷ is ≡ i ∷ is
  first_index i is = ap (λ n. n ∷ is) (from_zero i)

  -- one frame more
  after_by : (x : Tree) (e : TermEvent) (i : ℕ) (inner left y : Tree) (is : List ℕ) → child k x i ≡ Some inner → IsAfterBy k inner e left is → put k e x i left ≡ Some y → IsAfterBy k x e y (i ∷ is)
  after_by Nil e i inner left y is g a p = cc
  after_by (Event f) e i inner left y is g a p = cc
  after_by (Join m xs) e i inner left y is g a p =
      let (ys, l, q) = map_some (join_all m) (parts_left k m e (items xs) i left) y p in
      let h = parts_by m xs e i inner left ys is g a l in
      subst (λ (v : Tree). IsAfterBy k (Join m xs) e v (i ∷ is)) q (record { after = after_join h.after; by = h.by 0 ∙ first_index i is })
  after_by (Choice xs) e i inner left y is g a p =
      let q : left ≡ y = cc in
      let h = one_by xs e i inner left is g a in
      subst (λ (v : Tree). IsAfterBy k (Choice xs) e v (i ∷ is)) q (record { after = after_choice h.after; by = h.by 0 ∙ first_index i is })
  after_by (Tied x q) e zero inner left y is g a p =
      let r : x ≡ inner = cc in
      let (u, s, t) = tie_some (λ u. tie_of u q) (permit k (earlier q e) left) y p in
      let h : IsAfterBy k x e left is = subst (λ (v : Tree). IsAfterBy k v e left is) (sym r) a in
      subst (λ (v : Tree). IsAfterBy k (Tied x q) e v (zero ∷ is)) t (record { after = after_tied h.after s; by = ap (λ l. zero ∷ l) h.by })
  after_by (Tied x q) e (suc i) inner left y is g a p = cc
  after_by (Loop x lo hi r) e i inner left y is g a p = turns_by (row_left k e (parts r) i left) refl p
    where
      turns_by : (o : Option RowLeft) → row_left k e (parts r) i left ≡ o → loop_left k x lo hi o ≡ Some y → IsAfterBy k (Loop x lo hi r) e y (i ∷ is)
      turns_by None q w = cc
      turns_by (Some s) q w =
          let (b, t) = so_some (may_begin s.begins hi) (loop_of (λ c. permit k (only c) x) (touch k.spread x) x (down s.begins lo) (fewer s.begins hi) s.row_parts) y w in
          let h = row_by x hi (parts r) e i inner left s is g a q in
          record { after = after_loop s.begins h.after (may_more s.begins hi b) t; by = h.by 0 ∙ first_index i is }
  after_by (Walk n f t c) e i inner left y is g a p =
      let d = c ∪ (instances_of e).instances in
      let (b, w) = so_some (may_lead k n f (To i) d) (where_so (may_lead k n (At i) t c) (three (walk_of k n f (To i) d) left (walk_of k n (At i) t c))) y p in
      let (o, s) = so_some (may_lead k n (At i) t c) (three (walk_of k n f (To i) d) left (walk_of k n (At i) t c)) y w in
      let (u, v, q, r, z) = three_some (walk_of k n f (To i) d) left (walk_of k n (At i) t c) y s in
      subst (λ (x : Tree). IsAfterBy k (Walk n f t c) e x (i ∷ is)) z (record { after = after_walk i g a.after (may_leads n f (To i) d b) (may_leads n (At i) t c o) q r; by = ap (λ l. i ∷ l) a.by })

  pub leads-after : (e : TermEvent) (fs : List Frame) (x y : Tree) → Leads k e fs x y → IsAfterBy k x e y (indexes_of fs)
  leads-after e [] x y h =
      let start : IsAfterBy k (Event e) e Nil [] = record { after = after_event; by = refl } in
      subst (λ (v : Tree). IsAfterBy k x e v []) (sym h.1) (subst (λ (v : Tree). IsAfterBy k v e Nil []) (sym h.0) start)
  leads-after e (f ∷ fs) x y h =
      let inside = leads-after e fs h.1.inner h.1.left h.1.below in
      subst (λ (v : Tree). IsAfterBy k v e y (f.index ∷ indexes_of fs)) h.0 (after_by f.parent e f.index h.1.inner h.1.left y (indexes_of fs) h.1.there inside h.1.whole)

  -- frames that are linked lead, where something is left
  pub linked-leads : (e : TermEvent) (fs : List Frame) (y : Tree) → AreLinked k fs (Event e) → put_all k e fs Nil ≡ Some y → Leads k e fs (top fs (Event e)) y
  linked-leads e [] y l p = let q : Nil ≡ y = cc in (refl, sym q)
  linked-leads e (f ∷ fs) y l p = deeper (put_all k e fs Nil) refl p (λ left q. linked-leads e fs left l.1 q)
    where
      deeper : (o : Option Tree) → put_all k e fs Nil ≡ o → put_some k e f o ≡ Some y → ((left : Tree) → put_all k e fs Nil ≡ Some left → Leads k e fs (top fs (Event e)) left) → Leads k e (f ∷ fs) f.parent y
      deeper None q w h = cc
      deeper (Some left) q w h = (refl, record { inner = top fs (Event e); left = left; there = l.0; below = h left q; whole = w })
