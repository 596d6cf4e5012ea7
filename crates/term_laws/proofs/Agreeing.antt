-- Tables that agree on the nets that a term names say the same of the term.
use Rattle.std.specs.Option.{option_map}
use Rattle.std.specs.Prelude.{ℕ, ◌<◌, Bool, List, ◌++◌, ◌≡◌, Option, refl, [], ◌∷◌, true, false}
use Rattle.std.proofs.Common.{ap, sym, ◌∙◌, ◌∷◌, filter}
use Rattle.msc_base.specs.Patterns.{Mode}
use Rattle.hmsc_graph.specs.Graphs.{Spot, Goal, To, End, Any, Net, reach}
use Rattle.chart_term.specs.NormalForms.{NetPermits, only, join_all, and_then, or_skip, choice_of, tie_of, turns_in, walk_of, are_nil, allowed, some_kept, cut, is_nil}
use Rattle.chart_term.specs.Properties.{EveryOf, EveryRow, Each, EachTurn, IsBelow, EachGap}
use Rattle.chart_term.specs.TermMeanings.{NetTerms, HasPattern, has_nil, has_event, has_join, has_choice, holds_tie, holds_loop, holds_walk, HasParts, no_part, one_part, HasChoice, this_one, that_one, HasRow, gaps_end, gaps_turn, gaps_shut, gaps_more, HasWalk, walk_stop, walk_last, walk_step}
use Rattle.chart_term.specs.TermPatterns.{Shape}
use Rattle.chart_term.specs.Terms.{Block, Tree, Nil, Event, Join, Choice, Tied, Loop, Walk, Trees, none, more, Row, ends, gap, turn, Part, ◌∪◌, parts, Gap, Turn}
use Rattle.chart_term.specs.Spreads.{touch, touch_all, touch_row}
use Rattle.term_laws.specs.Permission.{permit, permit_all, permit_some, permit_row, wider, with_turn}
use Rattle.term_laws.proofs.Everywhere.{every_out, every_row_out}
use Rattle.term_laws.specs.Normality.{IsLeading, IsNormalLoop, IsNormal, AreNormal, IsNormalRow}

module _ (k j : NetPermits) (top : ℕ)
    (same_net : (n : ℕ) → n < top → k.net n ≡ j.net n) (same_nodes : (n : ℕ) → n < top → k.nodes n ≡ j.nodes n)
    (same_kept : (n : ℕ) → n < top → (m : ℕ) (c : List ℕ) → k.kept n m c ≡ j.kept n m c) (same_spread : (n : ℕ) → n < top → k.spread n ≡ j.spread n) where
  only_at : Net → List ℕ → (ℕ → List ℕ → Option Tree) → List ℕ → NetPermits
  only_at g ms f s = record { net = λ n. g; nodes = λ n. ms; kept = λ n m c. f m c; spread = λ n. s }

  at_net : (h : NetPermits) (n : ℕ) (f : Spot) (t : Goal) (c : List ℕ) → walk_of h n f t c ≡ walk_of (only_at (h.net n) (h.nodes n) (h.kept n) (h.spread n)) n f t c
  unfolding only_at
  at_net h n f Any c = refl
  at_net h n f End c = refl
  at_net h n f (To m) c = refl

  same_trail : (n : ℕ) → n < top → (f : Spot) (t : Goal) (c : List ℕ) → walk_of k n f t c ≡ walk_of j n f t c
  same_trail n l f t c = at_net k n f t c ∙ ((λ i. walk_of (only_at (same_net n l i) (same_nodes n l i) (λ m d. same_kept n l m d i) (same_spread n l i)) n f t c) ∙ sym (at_net j n f t c))

  mutual
    pub same_touch : (x : Tree) → IsBelow top x → touch k.spread x ≡ touch j.spread x
    same_touch Nil h = refl
    same_touch (Event e) h = refl
    same_touch (Join m xs) h = same_touch_all xs h
    same_touch (Choice xs) h = same_touch_all xs h
    same_touch (Tied x q) h = same_touch x h
    same_touch (Loop x lo hi r) h = λ i. same_touch x h.0 i ++ same_touch_row r h.1 i
    same_touch (Walk n f t c) h = same_spread n h

    same_touch_all : (xs : Trees) → EveryOf (λ e. Unit {0}) (λ m. m < top) xs → touch_all k.spread xs ≡ touch_all j.spread xs
    same_touch_all none h = refl
    same_touch_all (more x xs) h = λ i. same_touch x h.0 i ++ same_touch_all xs h.1 i

    same_touch_row : (r : Row) → EveryRow (λ e. Unit {0}) (λ m. m < top) r → touch_row k.spread r ≡ touch_row j.spread r
    same_touch_row ends h = refl
    same_touch_row (gap c r) h = same_touch_row r h
    same_touch_row (turn x r) h = λ i. same_touch x h.0 i ++ same_touch_row r h.1 i

  mutual
    pub same_permit : (x : Tree) → IsBelow top x → (b : Block) → permit k b x ≡ permit j b x
    same_permit Nil h b = refl
    same_permit (Event e) h b = refl
    same_permit (Join m xs) h b = ap (option_map (join_all m)) (same_all xs h b)
    same_permit (Choice xs) h b = ap choice_of (same_some xs h b)
    same_permit (Tied x q) h b = ap (option_map (λ y. tie_of y q)) (same_permit x h b)
    same_permit (Loop x lo hi r) h b = λ i. turns_in (λ c. same_permit x h.0 (only c) i) (same_touch x h.0 i) x lo hi (same_row r h.1 b i)
    same_permit (Walk n f t c) h b = same_trail n h f t (c ∪ b.instances)

    same_all : (xs : Trees) → EveryOf (λ e. Unit {0}) (λ m. m < top) xs → (b : Block) → permit_all k b xs ≡ permit_all j b xs
    same_all none h b = refl
    same_all (more x xs) h b = λ i. and_then (same_permit x h.0 b i) (same_all xs h.1 b i)

    same_some : (xs : Trees) → EveryOf (λ e. Unit {0}) (λ m. m < top) xs → (b : Block) → permit_some k b xs ≡ permit_some j b xs
    same_some none h b = refl
    same_some (more x xs) h b = λ i. or_skip (same_permit x h.0 b i) (same_some xs h.1 b i)

    same_row : (r : Row) → EveryRow (λ e. Unit {0}) (λ m. m < top) r → (b : Block) → permit_row k b r ≡ permit_row j b r
    same_row ends h b = refl
    same_row (gap c r) h b = λ i. wider c (same_row r h b i) b.instances
    same_row (turn x r) h b = λ i. with_turn (same_permit x h.0 b i) (same_row r h.1 b i)

  -- the same normal forms
  same_reach : (n : ℕ) → n < top → (f : Spot) (t : Goal) (c : List ℕ) → reach (k.net n) (allowed k n c) f t ≡ reach (j.net n) (allowed j n c) f t
  same_reach n l f t c = λ i. reach (same_net n l i) (filter (λ m. some_kept (same_kept n l m c i)) (same_nodes n l i)) f t

  nil_at : (h : NetPermits) (n : ℕ) (f : Spot) (t : Goal) (c : List ℕ) → are_nil h n f t c (allowed h n c) ≡ are_nil (only_at (h.net n) (h.nodes n) (h.kept n) (h.spread n)) n f t c (allowed (only_at (h.net n) (h.nodes n) (h.kept n) (h.spread n)) n c)
  unfolding only_at
  nil_at h n f t c = refl

  same_nil : (n : ℕ) → n < top → (f : Spot) (t : Goal) (c : List ℕ) → are_nil k n f t c (allowed k n c) ≡ are_nil j n f t c (allowed j n c)
  same_nil n l f t c =
      nil_at k n f t c ∙ ((λ i. are_nil (only_at (same_net n l i) (same_nodes n l i) (λ m d. same_kept n l m d i) (same_spread n l i)) n f t c (allowed (only_at (same_net n l i) (same_nodes n l i) (λ m d. same_kept n l m d i) (same_spread n l i)) n c)) ∙ sym (nil_at j n f t c))

  same_leading : (n : ℕ) → n < top → (f : Spot) (t : Goal) (c : List ℕ) → IsLeading k n f t c → IsLeading j n f t c
  same_leading n l f Any c h = tt
  same_leading n l f End c h = (sym (same_reach n l f End c) ∙ h.0, sym (same_nil n l f End c) ∙ h.1)
  same_leading n l f (To m) c h = (sym (same_reach n l f (To m) c) ∙ h.0, sym (same_nil n l f (To m) c) ∙ h.1)

  gaps_map : (p q : List ℕ → Type 0) → ((c : List ℕ) → p c → q c) → (ps : List Part) → EachGap p ps → EachGap q ps
  gaps_map p q f [] h = tt
  gaps_map p q f (Gap c ∷ ps) h = (f c h.0, gaps_map p q f ps h.1)
  gaps_map p q f (Turn y ∷ ps) h = gaps_map p q f ps h

  same_loop : (x : Tree) → IsBelow top x → (hi : Option ℕ) (ps : List Part) → IsNormalLoop k x hi ps → IsNormalLoop j x hi ps
  same_loop x b hi ps h = record {
    sets = h.sets;
    cuts = gaps_map (λ c. cut (touch k.spread x) c ≡ c) (λ c. cut (touch j.spread x) c ≡ c) (λ c e. ap (λ l. cut l c) (sym (same_touch x b)) ∙ e) ps h.cuts;
    leaves = gaps_map (λ c. some_kept (permit k (only c) x) ≡ true) (λ c. some_kept (permit j (only c) x) ≡ true) (λ c e. ap some_kept (sym (same_permit x b (only c))) ∙ e) ps h.leaves;
    not_free = gaps_map (λ c. is_nil (permit k (only c) x) ≡ false) (λ c. is_nil (permit j (only c) x) ≡ false) (λ c e. ap is_nil (sym (same_permit x b (only c))) ∙ e) ps h.not_free;
    not_over = h.not_over;
    positive = h.positive;
    apart = h.apart;
    some = h.some;
  }

  mutual
    pub same_normal : (x : Tree) → IsBelow top x → IsNormal k x → IsNormal j x
    same_normal Nil b h = tt
    same_normal (Event e) b h = tt
    same_normal (Join m xs) b h = (same_normal_all xs b h.0, h.1, h.2)
    same_normal (Choice xs) b h = (same_normal_all xs b h.0, h.1, h.2, h.3)
    same_normal (Tied x q) b h = (same_normal x b h.0, h.1, h.2, h.3)
    same_normal (Loop x lo hi r) b h = (same_normal x b.0 h.0, same_normal_row r b.1 h.1, same_loop x b.0 hi (parts r) h.2)
    same_normal (Walk n f t c) b h = record { set = h.set; cuts = ap (λ l. cut l c) (sym (same_spread n b)) ∙ h.cuts; leads = same_leading n b f t c h.leads }

    same_normal_all : (xs : Trees) → EveryOf (λ e. Unit {0}) (λ m. m < top) xs → AreNormal k xs → AreNormal j xs
    same_normal_all none b h = tt
    same_normal_all (more x xs) b h = (same_normal x b.0 h.0, same_normal_all xs b.1 h.1)

    same_normal_row : (r : Row) → EveryRow (λ e. Unit {0}) (λ m. m < top) r → IsNormalRow k r → IsNormalRow j r
    same_normal_row ends b h = tt
    same_normal_row (gap c r) b h = same_normal_row r b h
    same_normal_row (turn x r) b h = (same_normal x b.0 h.0, same_normal_row r b.1 h.1)

-- the same patterns
module _ (v w : NetTerms) (o : Bool) (top : ℕ) (same_net : (n : ℕ) → n < top → v.net n ≡ w.net n) (same_node : (n : ℕ) → n < top → (m : ℕ) → v.node n m ≡ w.node n m) (lower : (n : ℕ) → n < top → (m : ℕ) → IsBelow top (v.node n m)) where
  abbrev pub Low : List Tree → Type 0
  Low xs = Each (IsBelow top) xs

  mutual
    pub same_all_of : {x : Tree} {s : Shape} → HasPattern v o x s → IsBelow top x → HasPattern w o x s
    same_all_of has_nil h = has_nil
    same_all_of has_event h = has_event
    same_all_of (has_join {xs = xs} a) h = has_join (same_parts a (every_out (λ e. Unit {0}) (λ m. m < top) xs h))
    same_all_of (has_choice {xs = xs} a) h = has_choice (same_one a (every_out (λ e. Unit {0}) (λ m. m < top) xs h))
    same_all_of (holds_tie a) h = holds_tie (same_all_of a h)
    same_all_of (holds_loop {r = r} n a l u) h = holds_loop n (same_gaps a h.0 (every_row_out (λ e. Unit {0}) (λ m. m < top) r h.1)) l u
    same_all_of (holds_walk a) h = holds_walk (same_walk a h)

    same_parts : {m : Mode} {xs : List Tree} {s : Shape} → HasParts v o m xs s → Low xs → HasParts w o m xs s
    same_parts no_part h = no_part
    same_parts (one_part a r) h = one_part (same_all_of a h.0) (same_parts r h.1)

    same_one : {xs : List Tree} {s : Shape} → HasChoice v o xs s → Low xs → HasChoice w o xs s
    same_one (this_one a) h = this_one (same_all_of a h.0)
    same_one (that_one a) h = that_one (same_one a h.1)

    same_gaps : {x : Tree} {ps : List Part} {n : ℕ} {s : Shape} → HasRow v o x ps n s → IsBelow top x → EachTurn (IsBelow top) ps → HasRow w o x ps n s
    same_gaps gaps_end h d = gaps_end
    same_gaps (gaps_turn a r) h d = gaps_turn (same_all_of a d.0) (same_gaps r h d.1)
    same_gaps (gaps_shut r) h d = gaps_shut (same_gaps r h d)
    same_gaps (gaps_more a av r) h d = gaps_more (same_all_of a h) av (same_gaps r h d)

    same_walk : {n : ℕ} {f : Spot} {t : Goal} {c : List ℕ} {s : Shape} → HasWalk v o n f t c s → n < top → HasWalk w o n f t c s
    same_walk (walk_stop p) h = walk_stop p
    same_walk {n = n} (walk_last m i a) h = walk_last m (rw (← same_net n h) i) (rw (← same_net n h) a)
    same_walk {n = n} (walk_step m i a av r) h = walk_step m (rw (← same_net n h) i) (rw (← same_node n h m) (same_all_of a (lower n h m))) av (same_walk r h)
