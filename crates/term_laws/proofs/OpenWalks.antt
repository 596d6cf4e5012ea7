-- Permission and taking leave walks to any node where they stood: alone, or last.
use Rattle.std.specs.Option.{option_map}
use Rattle.std.specs.Prelude.{ℕ, Bool, true, false, List, [], ◌∷◌, ◌++◌, ◌≡◌, Option, Some, None}
use Rattle.msc_base.specs.Patterns.{Mode, seq, par}
use Rattle.hmsc_graph.specs.Graphs.{Spot, At, Goal, To, End, Any, reach}
use Rattle.chart_term.specs.NormalForms.{NetPermits, only, cut, open_part, flat, join_of, join_all, and_then, walk_form, walk_cut, walk_of, allowed, are_nil}
use Rattle.chart_term.specs.Properties.{Each, MayHave}
use Rattle.chart_term.specs.TermPatterns.{instances_of}
use Rattle.chart_term.specs.Terms.{TermEvent, Block, Tree, Nil, Event, Join, Choice, Tied, Loop, Walk, Trees, none, more, items, trees, ◌∪◌}
use Rattle.term_laws.specs.FullSoundness.{EveryPartOf, IsNotAny, HasNoOpenWalk, IsWalkOrClosed, IsOpenWalkLastOf, IsOpenWalkLast}
use Rattle.term_laws.specs.Permission.{permit, permit_all}
use Rattle.term_laws.specs.Taking.{IsAfter, after_join, after_walk, IsAfterJoin, first_part, later_part}
use Rattle.term_laws.proofs.EveryPart.{part_out, permit_part, after_part}
use Rattle.term_laws.proofs.Keeping.{Begins, Aims, as_before, to_node}
use Rattle.term_laws.proofs.Opening.{each_open}

-- terms without walks to any node
abbrev pub ClosedAll : Trees → Type 0
ClosedAll xs = EveryPartOf (λ e. Unit {0}) (λ y q. Unit {0}) (λ y. Unit {0}) (λ n f t. IsNotAny t) xs

closed_out : (xs : Trees) → ClosedAll xs → Each HasNoOpenWalk (items xs)
closed_out = part_out (λ e. Unit {0}) (λ y q. Unit {0}) (λ y. Unit {0}) (λ n f t. IsNotAny t)

module _ (k : NetPermits) where
  pub walk_left : (n : ℕ) (f g : Spot) (t u : Goal) → IsNotAny t → Begins k n f g → Aims k n t u → IsNotAny u
  walk_left n f g t u h s as_before = h
  walk_left n f g t u h s (to_node m d x e) = tt

  pub permit_closed : (b : Block) (x : Tree) → HasNoOpenWalk x → MayHave HasNoOpenWalk (permit k b x)
  permit_closed = permit_part (λ e. Unit {0}) (λ y q. Unit {0}) (λ y. Unit {0}) (λ n f t. IsNotAny t) k walk_left (λ x q h. tt) (λ b x z e q h. tt) (λ x y z b e a p q h. tt)

  -- where the node terms hold none
  module _ (kept : (n m : ℕ) (d : List ℕ) (x : Tree) → k.kept n m d ≡ Some x → HasNoOpenWalk x) where
    pub after_closed : {x y : Tree} {e : TermEvent} → IsAfter k x e y → HasNoOpenWalk x → HasNoOpenWalk y
    after_closed = after_part (λ e. Unit {0}) (λ y q. Unit {0}) (λ y. Unit {0}) (λ n f t. IsNotAny t) k walk_left (λ x q h. tt) (λ b x z e q h. tt) (λ x y z b e a p q h. tt) kept

-- lists of which only the last may be a walk to any node
abbrev LastWalk : List Tree → Type 0
LastWalk [] = Unit {0}
LastWalk (x ∷ []) = IsWalkOrClosed x
LastWalk (x ∷ y ∷ xs) = HasNoOpenWalk x × LastWalk (y ∷ xs)

-- lists of which only the last may hold one
abbrev LastOpen : List Tree → Type 0
LastOpen [] = Unit {0}
LastOpen (x ∷ []) = IsOpenWalkLast x
LastOpen (x ∷ y ∷ xs) = HasNoOpenWalk x × LastOpen (y ∷ xs)

closed_walk : (x : Tree) → HasNoOpenWalk x → IsWalkOrClosed x
closed_walk Nil h = tt
closed_walk (Event e) h = tt
closed_walk (Join m xs) h = h
closed_walk (Choice xs) h = h
closed_walk (Tied x q) h = h
closed_walk (Loop x lo hi r) h = h
closed_walk (Walk n f t c) h = tt

closed_last_of : (xs : Trees) → ClosedAll xs → IsOpenWalkLastOf xs
closed_last_of none h = tt
closed_last_of (more x none) h = closed_walk x h.0
closed_last_of (more x (more y xs)) h = (h.0, closed_last_of (more y xs) h.1)

pub closed_last : (x : Tree) → HasNoOpenWalk x → IsOpenWalkLast x
closed_last Nil h = tt
closed_last (Event e) h = tt
closed_last (Join seq xs) h = closed_last_of xs h
closed_last (Join par xs) h = h
closed_last (Choice xs) h = h
closed_last (Tied x q) h = h
closed_last (Loop x lo hi r) h = h
closed_last (Walk n f t c) h = tt

walk_last : (x : Tree) → IsWalkOrClosed x → IsOpenWalkLast x
walk_last Nil h = tt
walk_last (Event e) h = tt
walk_last (Join m xs) h = closed_last (Join m xs) h
walk_last (Choice xs) h = h
walk_last (Tied x q) h = h
walk_last (Loop x lo hi r) h = h
walk_last (Walk n f t c) h = tt

closed_list : (xs : List Tree) → Each HasNoOpenWalk xs → LastWalk xs
closed_list [] h = tt
closed_list (x ∷ []) h = closed_walk x h.0
closed_list (x ∷ y ∷ xs) h = (h.0, closed_list (y ∷ xs) h.1)

closed_more : (x : Tree) (ys : List Tree) → HasNoOpenWalk x → LastWalk ys → LastWalk (x ∷ ys)
closed_more x [] h i = closed_walk x h
closed_more x (y ∷ ys) h i = (h, i)

closed_app : (xs ys : List Tree) → Each HasNoOpenWalk xs → LastWalk ys → LastWalk (xs ++ ys)
closed_app [] ys h i = i
closed_app (x ∷ xs) ys h i = closed_more x (xs ++ ys) h.0 (closed_app xs ys h.1 i)

-- the parts of a row
open_closed : (m : Mode) (x : Tree) → HasNoOpenWalk x → Each HasNoOpenWalk (open_part m x)
open_closed m x h = each_open HasNoOpenWalk m closed_out x h

last_out : (xs : Trees) → IsOpenWalkLastOf xs → LastWalk (items xs)
last_out none h = tt
last_out (more x none) h = h
last_out (more x (more y xs)) h = (h.0, last_out (more y xs) h.1)

last_in : (xs : List Tree) → LastWalk xs → IsOpenWalkLastOf (trees xs)
last_in [] h = tt
last_in (x ∷ []) h = h
last_in (x ∷ y ∷ xs) h = (h.0, last_in (y ∷ xs) h.1)

open_last : (x : Tree) → IsOpenWalkLast x → LastWalk (open_part seq x)
open_last Nil h = tt
open_last (Event e) h = tt
open_last (Join seq xs) h = last_out xs h
open_last (Join par xs) h = h
open_last (Choice xs) h = h
open_last (Tied x q) h = h
open_last (Loop x lo hi r) h = h
open_last (Walk n f t c) h = tt

app_none : (xs : List Tree) → LastWalk xs → LastWalk (xs ++ [])
app_none [] h = tt
app_none (x ∷ []) h = h
app_none (x ∷ y ∷ xs) h = (h.0, app_none (y ∷ xs) h.1)

flat_last : (xs : List Tree) → LastOpen xs → LastWalk (flat seq xs)
flat_last [] h = tt
flat_last (x ∷ []) h = app_none (open_part seq x) (open_last x h)
flat_last (x ∷ y ∷ xs) h = closed_app (open_part seq x) (flat seq (y ∷ xs)) (open_closed seq x h.0) (flat_last (y ∷ xs) h.1)

of_last : (xs : List Tree) → LastWalk xs → IsOpenWalkLast (join_of seq xs)
of_last [] h = tt
of_last (x ∷ []) h = walk_last x h
of_last (x ∷ y ∷ ys) h = (h.0, last_in (y ∷ ys) h.1)

join_last : (xs : List Tree) → LastOpen xs → IsOpenWalkLast (join_all seq xs)
join_last xs h = of_last (flat seq xs) (flat_last xs h)

module _ (k : NetPermits) where
  -- a walk that is left is one, or Nil
  form_walk : (a b : Bool) (n : ℕ) (f : Spot) (t : Goal) (c : List ℕ) → MayHave IsWalkOrClosed (walk_form a b (Walk n f t c))
  form_walk false b n f t c = tt
  form_walk true true n f t c = tt
  form_walk true false n f t c = tt

  cut_walk : (n : ℕ) (f : Spot) (t : Goal) (c : List ℕ) → MayHave IsWalkOrClosed (walk_cut k n f t c)
  cut_walk n f Any c = tt
  cut_walk n f (To m) c = form_walk (reach (k.net n) (allowed k n c) f (To m)) (are_nil k n f (To m) c (allowed k n c)) n f (To m) c
  cut_walk n f End c = form_walk (reach (k.net n) (allowed k n c) f End) (are_nil k n f End c (allowed k n c)) n f End c

  pub trail_walk : (n : ℕ) (f : Spot) (t : Goal) (c : List ℕ) → MayHave IsWalkOrClosed (walk_of k n f t c)
  trail_walk n f t c = cut_walk n f t (cut (k.spread n) c)

  form_closed : (a b : Bool) (n m : ℕ) (f : Spot) (c : List ℕ) → MayHave HasNoOpenWalk (walk_form a b (Walk n f (To m) c))
  form_closed false b n m f c = tt
  form_closed true true n m f c = tt
  form_closed true false n m f c = tt

  trail_closed : (n m : ℕ) (f : Spot) (c : List ℕ) → MayHave HasNoOpenWalk (walk_of k n f (To m) c)
  trail_closed n m f c = form_closed (reach (k.net n) (allowed k n (cut (k.spread n) c)) f (To m)) (are_nil k n f (To m) (cut (k.spread n) c) (allowed k n (cut (k.spread n) c))) n m f (cut (k.spread n) c)

  may_last : (r : Option Tree) → MayHave HasNoOpenWalk r → MayHave IsOpenWalkLast r
  may_last None h = tt
  may_last (Some y) h = closed_last y h

  may_walk : (r : Option Tree) → MayHave HasNoOpenWalk r → MayHave IsWalkOrClosed r
  may_walk None h = tt
  may_walk (Some y) h = closed_walk y h

  walk_may_last : (r : Option Tree) → MayHave IsWalkOrClosed r → MayHave IsOpenWalkLast r
  walk_may_last None h = tt
  walk_may_last (Some y) h = walk_last y h

  permit_walk : (b : Block) (x : Tree) → IsWalkOrClosed x → MayHave IsWalkOrClosed (permit k b x)
  permit_walk b Nil h = tt
  permit_walk b (Event e) h = may_walk (permit k b (Event e)) (permit_closed k b (Event e) tt)
  permit_walk b (Join m xs) h = may_walk (permit k b (Join m xs)) (permit_closed k b (Join m xs) h)
  permit_walk b (Choice xs) h = may_walk (permit k b (Choice xs)) (permit_closed k b (Choice xs) h)
  permit_walk b (Tied x q) h = may_walk (permit k b (Tied x q)) (permit_closed k b (Tied x q) h)
  permit_walk b (Loop x lo hi r) h = may_walk (permit k b (Loop x lo hi r)) (permit_closed k b (Loop x lo hi r) h)
  permit_walk b (Walk n f t c) h = trail_walk n f t (c ∪ b.instances)

  abbrev AllLast : Option (List Tree) → Type 0
  AllLast None = Unit {0}
  AllLast (Some xs) = LastOpen xs

  one_last : (r : Option Tree) → MayHave IsWalkOrClosed r → AllLast (and_then r (Some []))
  one_last None h = tt
  one_last (Some y) h = walk_last y h

  open_more : (x : Tree) (ys : List Tree) → HasNoOpenWalk x → LastOpen ys → LastOpen (x ∷ ys)
  open_more x [] h i = closed_last x h
  open_more x (y ∷ ys) h i = (h, i)

  and_last : (r : Option Tree) (p : Option (List Tree)) → MayHave HasNoOpenWalk r → AllLast p → AllLast (and_then r p)
  and_last None p h i = tt
  and_last (Some y) None h i = tt
  and_last (Some y) (Some ys) h i = open_more y ys h i

  all_last : (b : Block) (xs : Trees) → IsOpenWalkLastOf xs → AllLast (permit_all k b xs)
  all_last b none h = tt
  all_last b (more x none) h = one_last (permit k b x) (permit_walk b x h)
  all_last b (more x (more y xs)) h = and_last (permit k b x) (permit_all k b (more y xs)) (permit_closed k b x h.0) (all_last b (more y xs) h.1)

  map_last : (p : Option (List Tree)) → AllLast p → MayHave IsOpenWalkLast (option_map (join_all seq) p)
  map_last None h = tt
  map_last (Some ys) h = join_last ys h

  pub permit_last : (b : Block) (x : Tree) → IsOpenWalkLast x → MayHave IsOpenWalkLast (permit k b x)
  permit_last b Nil h = tt
  permit_last b (Event e) h = may_last (permit k b (Event e)) (permit_closed k b (Event e) tt)
  permit_last b (Join seq xs) h = map_last (permit_all k b xs) (all_last b xs h)
  permit_last b (Join par xs) h = may_last (permit k b (Join par xs)) (permit_closed k b (Join par xs) h)
  permit_last b (Choice xs) h = may_last (permit k b (Choice xs)) (permit_closed k b (Choice xs) h)
  permit_last b (Tied x q) h = may_last (permit k b (Tied x q)) (permit_closed k b (Tied x q) h)
  permit_last b (Loop x lo hi r) h = may_last (permit k b (Loop x lo hi r)) (permit_closed k b (Loop x lo hi r) h)
  permit_last b (Walk n f t c) h = walk_may_last (walk_of k n f t (c ∪ b.instances)) (trail_walk n f t (c ∪ b.instances))

  -- taking
  some_of : (P : Tree → Type 0) (r : Option Tree) (y : Tree) → r ≡ Some y → MayHave P r → P y
  some_of P r y e h = rw e at h

  module _ (kept : (n m : ℕ) (d : List ℕ) (x : Tree) → k.kept n m d ≡ Some x → HasNoOpenWalk x) where
    -- a term that is a walk, or closed
    stays_closed : (x y : Tree) (e : TermEvent) → permit k (only (instances_of e).instances) x ≡ Some y → HasNoOpenWalk x → HasNoOpenWalk y
    stays_closed x y e p h = some_of HasNoOpenWalk (permit k (only (instances_of e).instances) x) y p (permit_closed k (only (instances_of e).instances) x h)

    out_walk : (n : ℕ) (f : Spot) (t : Goal) (c : List ℕ) (v : Tree) → walk_of k n f t c ≡ Some v → IsOpenWalkLast v
    out_walk n f t c v p = walk_last v (some_of IsWalkOrClosed (walk_of k n f t c) v p (trail_walk n f t c))

    walk_after : {n : ℕ} {f : Spot} {t : Goal} {c : List ℕ} {y : Tree} {e : TermEvent} → IsAfter k (Walk n f t c) e y → IsOpenWalkLast y
    walk_after (after_walk {n = n} {s = f} {t = t} {c = c} {e = e} m {x = x} {y = y} {u = u} {v = v} p a l1 l2 q r) =
        join_last (u ∷ y ∷ v ∷ []) (
          some_of HasNoOpenWalk (walk_of k n f (To m) (c ∪ (instances_of e).instances)) u q (trail_closed n m f (c ∪ (instances_of e).instances)),
          (after_closed k kept a (kept n m c x p), out_walk n (At m) t c v r),
        )

    or_walk : (x y : Tree) (e : TermEvent) → IsWalkOrClosed x → IsAfter k x e y → IsOpenWalkLast y
    or_walk Nil y e h a = closed_last y (after_closed k kept a tt)
    or_walk (Event f) y e h a = closed_last y (after_closed k kept a tt)
    or_walk (Join m xs) y e h a = closed_last y (after_closed k kept a h)
    or_walk (Choice xs) y e h a = closed_last y (after_closed k kept a h)
    or_walk (Tied x q) y e h a = closed_last y (after_closed k kept a h)
    or_walk (Loop x lo hi r) y e h a = closed_last y (after_closed k kept a h)
    or_walk (Walk n f t c) y e h a = walk_after a

    items_last : (xs : Trees) → IsOpenWalkLastOf xs → LastOpen (items xs)
    items_last none h = tt
    items_last (more x none) h = walk_last x h
    items_last (more x (more y xs)) h = (h.0, items_last (more y xs) h.1)

    parts_last : {xs : Trees} {ys : List Tree} {e : TermEvent} → IsAfterJoin k seq xs e ys → IsOpenWalkLastOf xs → LastOpen ys
    parts_last (first_part {x = x} {y = y} {xs = none} {e = e} a) h = or_walk x y e h a
    parts_last (first_part {xs = more z xs} a) h = (after_closed k kept a h.0, items_last (more z xs) h.1)
    parts_last (later_part {x = x} {x' = y} {xs = none} s a) h = elim a [ ]
    parts_last (later_part {x = x} {x' = y} {xs = more z xs} {ys = ys} {e = e} s a) h = open_more y ys (stays_closed x y e s h.0) (parts_last a h.1)

    pub after_last : (x y : Tree) (e : TermEvent) → IsAfter k x e y → IsOpenWalkLast x → IsOpenWalkLast y
    after_last Nil y e a h = closed_last y (after_closed k kept a tt)
    after_last (Event f) y e a h = closed_last y (after_closed k kept a tt)
    after_last (Join seq xs) y e a h = row_after a h
      where
        row_after : {y : Tree} {e : TermEvent} → IsAfter k (Join seq xs) e y → IsOpenWalkLastOf xs → IsOpenWalkLast y
        row_after (after_join {ys = ys} b) h = join_last ys (parts_last b h)
    after_last (Join par xs) y e a h = closed_last y (after_closed k kept a h)
    after_last (Choice xs) y e a h = closed_last y (after_closed k kept a h)
    after_last (Tied x q) y e a h = closed_last y (after_closed k kept a h)
    after_last (Loop x lo hi r) y e a h = closed_last y (after_closed k kept a h)
    after_last (Walk n f t c) y e a h = walk_after a
