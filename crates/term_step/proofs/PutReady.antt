-- What is left of a ready term is ready.
use Rattle.std.specs.Option.{option_map}
use Rattle.std.specs.Prelude.{ℕ, zero, suc, ◌<◌, Bool, true, false, List, [], ◌∷◌, Option, Some, None, refl, length}
use Rattle.std.proofs.Common.{arith}
use Rattle.msc_base.specs.Patterns.{Mode, seq, par}
use Rattle.hmsc_graph.specs.Graphs.{Spot, At, Goal, To}
use Rattle.chart_term.specs.NormalForms.{NetPermits, only, join_all, and_then, tie_of, loop_of, walk_of}
use Rattle.chart_term.specs.Properties.{Each, EachTurn, EachGap, MayHave}
use Rattle.chart_term.specs.Spreads.{touch}
use Rattle.chart_term.specs.Tables.{Tables, nodes_of}
use Rattle.chart_term.specs.TermPatterns.{instances_of, earlier}
use Rattle.chart_term.specs.Terms.{TermEvent, Block, Tree, Nil, Event, Join, Choice, Tied, Loop, Walk, Trees, none, more, Row, ends, gap, turn, items, Part, Gap, Turn, parts, ◌∪◌}
use Rattle.term_step.specs.Children.{parts_left, RowLeft, turn_first, gap_first, row_left, where_so, loop_left, three, put}
use Rattle.term_laws.specs.Listing.{stay, may_begin, may_lead}
use Rattle.term_laws.specs.Normality.{IsSet, IsNormal, AreNormal, IsNormalRow}
use Rattle.term_laws.specs.Permission.{permit, permits_of}
use Rattle.term_permission.specs.Ready.{IsReady, IsWithin, AreWithin, IsRowWithin, AreReadyTables}
use Rattle.term_step.specs.Searches.{child_count}
use Rattle.term_laws.specs.Taking.{fewer, down}
use Rattle.term_laws.proofs.Normalising.{union_set, turns_normal, trail_normal}
use Rattle.term_permission.proofs.NodeTerms.{sizes-are}
use Rattle.term_permission.proofs.ReadyTerms.{ready_is_kept}
use Rattle.term_permission.proofs.Within.{may_both, permit-ready, turns_within, walk_in}

pub each_out : (w : Tables) (xs : Trees) → AreWithin w xs → AreNormal (permits_of w) xs → Each (IsReady w) (items xs)
each_out w none h n = tt
each_out w (more x xs) h n = (record { within = h.0; normal = n.0 }, each_out w xs h.1 n.1)

turns_out : (w : Tables) (r : Row) → IsRowWithin w r → IsNormalRow (permits_of w) r → EachTurn (IsReady w) (parts r)
turns_out w ends h n = tt
turns_out w (gap c r) h n = turns_out w r h n
turns_out w (turn x r) h n = (record { within = h.0; normal = n.0 }, turns_out w r h.1 n.1)

turns_in_net : (w : Tables) (ps : List Part) → EachTurn (IsReady w) ps → EachTurn (IsWithin w) ps
turns_in_net w [] h = tt
turns_in_net w (Gap c ∷ ps) h = turns_in_net w ps h
turns_in_net w (Turn x ∷ ps) h = (h.0.within, turns_in_net w ps h.1)

turns_in_form : (w : Tables) (ps : List Part) → EachTurn (IsReady w) ps → EachTurn (IsNormal (permits_of w)) ps
turns_in_form w [] h = tt
turns_in_form w (Gap c ∷ ps) h = turns_in_form w ps h
turns_in_form w (Turn x ∷ ps) h = (h.0.normal, turns_in_form w ps h.1)

module _ (w : Tables) (tables : AreReadyTables w) (e : TermEvent) where
  abbrev k : NetPermits
  k = permits_of w

  abbrev MayEach : Option (List Tree) → Type 0
  MayEach None = Unit {0}
  MayEach (Some xs) = Each (IsReady w) xs

  abbrev MayRow : Option RowLeft → Type 0
  MayRow None = Unit {0}
  MayRow (Some r) = EachTurn (IsReady w) r.row_parts × EachGap IsSet r.row_parts

  may_ready : (b : Block) (x : Tree) → IsReady w x → MayHave (IsReady w) (permit k b x)
  may_ready b x h = permit-ready w b x (permit k b x) h refl

  and_each : (o : Option Tree) (p : Option (List Tree)) → MayHave (IsReady w) o → MayEach p → MayEach (and_then o p)
  and_each None p h g = tt
  and_each (Some x) None h g = tt
  and_each (Some x) (Some xs) h g = (h, g)

  stay_ready : (m : Mode) (x : Tree) → IsReady w x → MayHave (IsReady w) (stay k m e x)
  stay_ready seq x h = may_ready (only (instances_of e).instances) x h
  stay_ready par x h = h

  parts_ready : (m : Mode) (xs : List Tree) (i : ℕ) (y : Tree) → Each (IsReady w) xs → IsReady w y → MayEach (parts_left k m e xs i y)
  parts_ready m [] i y h r = tt
  parts_ready m (x ∷ xs) zero y h r = (r, h.1)
  parts_ready m (x ∷ xs) (suc i) y h r = and_each (stay k m e x) (parts_left k m e xs i y) (stay_ready m x h.0) (parts_ready m xs i y h.1 r)

  join_ready : (m : Mode) (o : Option (List Tree)) → MayEach o → MayHave (IsReady w) (option_map (join_all m) o)
  join_ready m None h = tt
  join_ready m (Some xs) h = ready_is_kept.join w m xs h

  tie_ready : (q : List (ℕ × ℕ)) (o : Option Tree) → MayHave (IsReady w) o → MayHave (IsReady w) (option_map (λ z. tie_of z q) o)
  tie_ready q None h = tt
  tie_ready q (Some x) h = ready_is_kept.tied w x q h

  turn_row : (o : Option Tree) (p : Option RowLeft) → MayHave (IsReady w) o → MayRow p → MayRow (turn_first o p)
  turn_row None p h g = tt
  turn_row (Some z) None h g = tt
  turn_row (Some z) (Some r) h g = ((h, g.0), g.1)

  gap_row : (c : List ℕ) (p : Option RowLeft) → IsSet c → MayRow p → MayRow (gap_first c p)
  gap_row c None h g = tt
  gap_row c (Some r) h g = (g.0, (h, g.1))

  row_ready : (ps : List Part) (i : ℕ) (y : Tree) → EachTurn (IsReady w) ps → EachGap IsSet ps → IsReady w y → MayRow (row_left k e ps i y)
  row_ready [] i y h g r = tt
  row_ready (Turn z ∷ ps) zero y h g r = ((r, h.1), g)
  row_ready (Gap c ∷ ps) zero y h g r = ((r, h), (union_set c (instances_of e).instances g.0, (g.0, g.1)))
  row_ready (Turn z ∷ ps) (suc i) y h g r = turn_row (permit k (only (instances_of e).instances) z) (row_left k e ps i y) (may_ready (only (instances_of e).instances) z h.0) (row_ready ps i y h.1 g r)
  row_ready (Gap c ∷ ps) (suc i) y h g r = gap_row (c ∪ (instances_of e).instances) (row_left k e ps i y) (union_set c (instances_of e).instances g.0) (row_ready ps i y h g.1 r)

  so_ready : (b : Bool) (o : Option Tree) → MayHave (IsReady w) o → MayHave (IsReady w) (where_so b o)
  so_ready true o h = h
  so_ready false o h = tt

  turns_are : (x : Tree) (lo : ℕ) (hi : Option ℕ) (ps : List Part) → IsReady w x → EachTurn (IsReady w) ps → EachGap IsSet ps → MayHave (IsReady w) (loop_of (λ c. permit k (only c) x) (touch k.spread x) x lo hi ps)
  turns_are x lo hi ps h g s =
      may_both w (loop_of (λ c. permit k (only c) x) (touch k.spread x) x lo hi ps) (turns_within w x lo hi ps h.within (turns_in_net w ps g)) (turns_normal k x lo hi ps h.normal (turns_in_form w ps g) s)

  loop_ready : (x : Tree) (lo : ℕ) (hi : Option ℕ) (o : Option RowLeft) → IsReady w x → MayRow o → MayHave (IsReady w) (loop_left k x lo hi o)
  loop_ready x lo hi None h g = tt
  loop_ready x lo hi (Some r) h g =
      so_ready (may_begin r.begins hi) (loop_of (λ c. permit k (only c) x) (touch k.spread x) x (down r.begins lo) (fewer r.begins hi) r.row_parts) (turns_are x (down r.begins lo) (fewer r.begins hi) r.row_parts h g.0 g.1)

  trail_ready : (n : ℕ) (f : Spot) (t : Goal) (c d : List ℕ) → IsWithin w (Walk n f t c) → IsSet d → MayHave (IsReady w) (walk_of k n f t d)
  trail_ready n f t c d h s = may_both w (walk_of k n f t d) (walk_in w n f t d h) (trail_normal k n f t d s)

  three_ready : (u v : Option Tree) (y : Tree) → MayHave (IsReady w) u → IsReady w y → MayHave (IsReady w) v → MayHave (IsReady w) (three u y v)
  three_ready None v y h r g = tt
  three_ready (Some u) None y h r g = tt
  three_ready (Some u) (Some v) y h r g = ready_is_kept.join w seq (u ∷ y ∷ v ∷ []) (h, (r, (g, tt)))

  pub put-ready : (x : Tree) (i : ℕ) (y : Tree) → IsReady w x → i < child_count w x → IsReady w y → MayHave (IsReady w) (put k e x i y)
  put-ready Nil i y h l r = tt
  put-ready (Event f) i y h l r = tt
  put-ready (Join m xs) i y h l r = join_ready m (parts_left k m e (items xs) i y) (parts_ready m (items xs) i y (each_out w xs h.within h.normal.0) r)
  put-ready (Choice xs) i y h l r = r
  put-ready (Tied x q) i y h l r = tie_ready q (permit k (earlier q e) y) (may_ready (earlier q e) y r)
  put-ready (Loop x lo hi r) i y h l s =
      loop_ready x lo hi (row_left k e (parts r) i y) (record { within = h.within.0; normal = h.normal.0 }) (row_ready (parts r) i y (turns_out w r h.within.2 h.normal.1) h.normal.2.sets s)
  put-ready (Walk n f t c) i y h l r =
      let size = sizes-are w tables n h.within.0 in
      let there : i < length (nodes_of w n) = omega arith in
      so_ready (may_lead k n f (To i) (c ∪ (instances_of e).instances)) (where_so (may_lead k n (At i) t c) (three (walk_of k n f (To i) (c ∪ (instances_of e).instances)) y (walk_of k n (At i) t c)))
      (so_ready (may_lead k n (At i) t c) (three (walk_of k n f (To i) (c ∪ (instances_of e).instances)) y (walk_of k n (At i) t c))
      (three_ready (walk_of k n f (To i) (c ∪ (instances_of e).instances)) (walk_of k n (At i) t c) y
      (trail_ready n f (To i) c (c ∪ (instances_of e).instances) (h.within.0, h.within.1, there) (union_set c (instances_of e).instances h.normal.set)) r
      (trail_ready n (At i) t c c (h.within.0, there, h.within.2) h.normal.set)))
