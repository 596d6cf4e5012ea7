-- Events of a term that stand outside its choices and loops: permission and taking leave them there, and an event that can happen first
-- there holds back any later one of its instances.
use Rattle.std.specs.Option.{option_map}
use Rattle.std.specs.Prelude.{ℕ, ◌≢◌, Bool, true, false, List, [], ◌∷◌, ◌≡◌, Option, Some, None, refl}
use Rattle.std.proofs.Common.{ap}
use Rattle.msc_base.specs.Patterns.{Mode, seq, par}
use Rattle.chart_term.specs.NormalForms.{NetPermits, only, open_part, flat, join_of, join_all, and_then, unless, bound_form, tie_of, kept_pairs, numbers}
use Rattle.chart_term.specs.Properties.{Each, EachTurn, MayHave, Every, EveryOf, EveryRow}
use Rattle.chart_term.specs.TermPatterns.{instances_of, earlier}
use Rattle.chart_term.specs.Terms.{TermEvent, Block, has, hits, Tree, Nil, Event, Join, Choice, Tied, Loop, Walk, Trees, none, more, Row, items, trees, Part}
use Rattle.chart_term.proofs.Instances.{has_self}
use Rattle.term_laws.specs.Permission.{permit, permit_all}
use Rattle.term_laws.specs.Taking.{Stays, IsAfter, after_event, after_choice, after_join, after_tied, after_loop, after_walk, IsAfterOne, first_one, later_one, IsAfterJoin, first_part, later_part, IsAfterRow, in_turn, in_gap, past_turn, past_gap}
use Rattle.term_laws.proofs.Everywhere.{permit_every, after_every, every_row_out}
use Rattle.term_laws.proofs.Opening.{each_open, each_flat}

-- no event of the term has the label, and it holds no graph
abbrev pub Lacks : ℕ → Tree → Type 0
Lacks a x = Every (λ e. e.label ≢ a) (λ n. ⊥) x

abbrev pub LackAll : ℕ → Trees → Type 0
LackAll a xs = EveryOf (λ e. e.label ≢ a) (λ n. ⊥) xs

-- what is asked of the choices and loops of a term that holds no graph; all else is free
module _ (C : Trees → Type 0) (L : Tree → Row → Type 0) where
  abbrev mutual
    pub Steady : Tree → Type 0
    Steady Nil = Unit {0}
    Steady (Event e) = Unit {0}
    Steady (Join m xs) = SteadyAll xs
    Steady (Choice xs) = C xs
    Steady (Tied x q) = Steady x
    Steady (Loop x lo hi r) = L x r
    Steady (Walk n f t c) = ⊥

    pub SteadyAll : Trees → Type 0
    SteadyAll none = Unit {0}
    SteadyAll (more x xs) = Steady x × SteadyAll xs

  steady_in : (xs : List Tree) → Each Steady xs → SteadyAll (trees xs)
  steady_in [] h = tt
  steady_in (x ∷ xs) h = (h.0, steady_in xs h.1)

  pub steady_out : (xs : Trees) → SteadyAll xs → Each Steady (items xs)
  steady_out none h = tt
  steady_out (more x xs) h = (h.0, steady_out xs h.1)

  pub open_steady : (m : Mode) (x : Tree) → Steady x → Each Steady (open_part m x)
  open_steady m x h = each_open Steady m (λ ys i. steady_out ys i) x h

  flat_steady : (m : Mode) (xs : List Tree) → Each Steady xs → Each Steady (flat m xs)
  flat_steady m xs h = each_flat Steady m (λ ys i. steady_out ys i) xs h

  of_steady : (m : Mode) (xs : List Tree) → Each Steady xs → Steady (join_of m xs)
  of_steady m [] h = tt
  of_steady m (x ∷ []) h = h.0
  of_steady m (x ∷ y ∷ ys) h = steady_in (x ∷ y ∷ ys) h

  pub join_steady : (m : Mode) (xs : List Tree) → Each Steady xs → Steady (join_all m xs)
  join_steady m xs h = of_steady m (flat m xs) (flat_steady m xs h)

  tie_steady : (x : Tree) (q : List (ℕ × ℕ)) → Steady x → Steady (bound_form x q)
  tie_steady x [] h = h
  tie_steady x (p ∷ q) h = h

  bound_steady : (x : Tree) (q : List (ℕ × ℕ)) → Steady x → Steady (tie_of x q)
  bound_steady x q h = tie_steady x (kept_pairs (numbers x) q) h

  abbrev AllSteady : Option (List Tree) → Type 0
  AllSteady None = Unit {0}
  AllSteady (Some xs) = Each Steady xs

  and_steady : (r : Option Tree) (p : Option (List Tree)) → MayHave Steady r → AllSteady p → AllSteady (and_then r p)
  and_steady None p h i = tt
  and_steady (Some x) None h i = tt
  and_steady (Some x) (Some xs) h i = (h, i)

  map_steady : (m : Mode) (p : Option (List Tree)) → AllSteady p → MayHave Steady (option_map (join_all m) p)
  map_steady m None h = tt
  map_steady m (Some xs) h = join_steady m xs h

  tied_steady : (q : List (ℕ × ℕ)) (r : Option Tree) → MayHave Steady r → MayHave Steady (option_map (λ y. tie_of y q) r)
  tied_steady q None h = tt
  tied_steady q (Some x) h = bound_steady x q h

  event_steady : (t : Bool) (e : TermEvent) → MayHave Steady (unless t (Event e))
  event_steady true e = tt
  event_steady false e = tt

  pub steady_some : (r : Option Tree) (y : Tree) → r ≡ Some y → MayHave Steady r → Steady y
  steady_some r y e h = rw e at h

  -- where permission and taking keep it of choices and loops
  module _ (k : NetPermits)
      (choice_permit : (b : Block) (xs : Trees) → C xs → MayHave Steady (permit k b (Choice xs)))
      (turns_permit : (b : Block) (x : Tree) (lo : ℕ) (hi : Option ℕ) (r : Row) → L x r → MayHave Steady (permit k b (Loop x lo hi r)))
      (choice_after : (xs : Trees) (e : TermEvent) (y : Tree) → IsAfter k (Choice xs) e y → C xs → Steady y)
      (turns_after : (x : Tree) (lo : ℕ) (hi : Option ℕ) (r : Row) (e : TermEvent) (y : Tree) → IsAfter k (Loop x lo hi r) e y → L x r → Steady y) where
    mutual
      pub permit_steady : (b : Block) (x : Tree) → Steady x → MayHave Steady (permit k b x)
      permit_steady b Nil h = tt
      permit_steady b (Event e) h = event_steady (hits b e) e
      permit_steady b (Join m xs) h = map_steady m (permit_all k b xs) (all_steady b xs h)
      permit_steady b (Choice xs) h = choice_permit b xs h
      permit_steady b (Tied x q) h = tied_steady q (permit k b x) (permit_steady b x h)
      permit_steady b (Loop x lo hi r) h = turns_permit b x lo hi r h
      permit_steady b (Walk n f t c) h = absurd h

      all_steady : (b : Block) (xs : Trees) → SteadyAll xs → AllSteady (permit_all k b xs)
      all_steady b none h = tt
      all_steady b (more x xs) h = and_steady (permit k b x) (permit_all k b xs) (permit_steady b x h.0) (all_steady b xs h.1)

    stays_steady : (m : Mode) (e : TermEvent) (x y : Tree) → Stays k m e x y → Steady x → Steady y
    stays_steady seq e x y s h = steady_some (permit k (only (instances_of e).instances) x) y s (permit_steady (only (instances_of e).instances) x h)
    stays_steady par e x y s h = rw s h

    mutual
      pub after_steady : {x y : Tree} {e : TermEvent} → IsAfter k x e y → Steady x → Steady y
      after_steady after_event h = tt
      after_steady (after_choice {xs = xs} {e = e} {y = y} a) h = choice_after xs e y (after_choice a) h
      after_steady (after_join {m = m} {xs = xs} {ys = ys} a) h = join_steady m ys (parts_steady a h)
      after_steady (after_tied {y = y} {z = z} {q = q} {e = e} a p) h = bound_steady z q (steady_some (permit k (earlier q e) y) z p (permit_steady (earlier q e) y (after_steady a h)))
      after_steady (after_loop {x = x} {z = z} {lo = lo} {hi = hi} {r = r} {e = e} b a m p) h = turns_after x lo hi r e z (after_loop b a m p) h
      after_steady (after_walk m p a l1 l2 q r) h = absurd h

      parts_steady : {m : Mode} {xs : Trees} {ys : List Tree} {e : TermEvent} → IsAfterJoin k m xs e ys → SteadyAll xs → Each Steady ys
      parts_steady (first_part {xs = xs} a) h = (after_steady a h.0, steady_out xs h.1)
      parts_steady (later_part {m = m} {x = x} {x' = y} {e = e} s a) h = (stays_steady m e x y s h.0, parts_steady a h.1)

-- Plain terms: without choices, loops and graphs

abbrev pub Plain : Tree → Type 0
Plain x = Steady (λ xs. ⊥) (λ x r. ⊥) x

abbrev pub PlainAll : Trees → Type 0
PlainAll xs = SteadyAll (λ xs. ⊥) (λ x r. ⊥) xs

-- the label stands only outside choices and loops

abbrev pub Sure : ℕ → Tree → Type 0
Sure a x = Steady (λ xs. LackAll a xs) (λ x r. Lacks a x × EveryRow (λ e. e.label ≢ a) (λ n. ⊥) r) x

abbrev pub SureAll : ℕ → Trees → Type 0
SureAll a xs = SteadyAll (λ xs. LackAll a xs) (λ x r. Lacks a x × EveryRow (λ e. e.label ≢ a) (λ n. ⊥) r) xs

mutual
  pub plain_sure : (a : ℕ) (x : Tree) → Plain x → Sure a x
  plain_sure a Nil h = tt
  plain_sure a (Event e) h = tt
  plain_sure a (Join m xs) h = plain_sure_all a xs h
  plain_sure a (Choice xs) h = absurd h
  plain_sure a (Tied x q) h = plain_sure a x h
  plain_sure a (Loop x lo hi r) h = absurd h
  plain_sure a (Walk n f t c) h = absurd h

  plain_sure_all : (a : ℕ) (xs : Trees) → PlainAll xs → SureAll a xs
  plain_sure_all a none h = tt
  plain_sure_all a (more x xs) h = (plain_sure a x h.0, plain_sure_all a xs h.1)

mutual
  pub lacks_sure : (a : ℕ) (x : Tree) → Lacks a x → Sure a x
  lacks_sure a Nil h = tt
  lacks_sure a (Event e) h = tt
  lacks_sure a (Join m xs) h = lacks_sure_all a xs h
  lacks_sure a (Choice xs) h = h
  lacks_sure a (Tied x q) h = lacks_sure a x h
  lacks_sure a (Loop x lo hi r) h = h
  lacks_sure a (Walk n f t c) h = absurd h

  lacks_sure_all : (a : ℕ) (xs : Trees) → LackAll a xs → SureAll a xs
  lacks_sure_all a none h = tt
  lacks_sure_all a (more x xs) h = (lacks_sure a x h.0, lacks_sure_all a xs h.1)

module _ (k : NetPermits) where
  pub permit_plain : (b : Block) (x : Tree) → Plain x → MayHave Plain (permit k b x)
  permit_plain = permit_steady (λ xs. ⊥) (λ x r. ⊥) k (λ b xs h. absurd h) (λ b x lo hi r h. absurd h) (λ xs e y a h. absurd h) (λ x lo hi r e y a h. absurd h)

  pub after_plain : {x y : Tree} {e : TermEvent} → IsAfter k x e y → Plain x → Plain y
  after_plain = after_steady (λ xs. ⊥) (λ x r. ⊥) k (λ b xs h. absurd h) (λ b x lo hi r h. absurd h) (λ xs e y a h. absurd h) (λ x lo hi r e y a h. absurd h)

  pub permit_lacks : (a : ℕ) (b : Block) (x : Tree) → Lacks a x → MayHave (Lacks a) (permit k b x)
  permit_lacks a = permit_every (λ e. e.label ≢ a) (λ n. ⊥) k

  pub after_lacks : (a : ℕ) {x y : Tree} {e : TermEvent} → IsAfter k x e y → Lacks a x → Lacks a y
  after_lacks a = after_every (λ e. e.label ≢ a) (λ n. ⊥) k (λ n m d x h q. absurd h)

  may_sure : (a : ℕ) (r : Option Tree) → MayHave (Lacks a) r → MayHave (Sure a) r
  may_sure a None h = tt
  may_sure a (Some y) h = lacks_sure a y h

  pub permit_sure : (a : ℕ) (b : Block) (x : Tree) → Sure a x → MayHave (Sure a) (permit k b x)
  permit_sure a =
      permit_steady (λ xs. LackAll a xs) (λ x r. Lacks a x × EveryRow (λ e. e.label ≢ a) (λ n. ⊥) r) k
      (λ b xs h. may_sure a (permit k b (Choice xs)) (permit_lacks a b (Choice xs) h)) (λ b x lo hi r h. may_sure a (permit k b (Loop x lo hi r)) (permit_lacks a b (Loop x lo hi r) h))
      (λ xs e y p h. lacks_sure a y (after_lacks a {x = Choice xs} p h)) (λ x lo hi r e y p h. lacks_sure a y (after_lacks a {x = Loop x lo hi r} p h))

  pub after_sure : (a : ℕ) {x y : Tree} {e : TermEvent} → IsAfter k x e y → Sure a x → Sure a y
  after_sure a =
      after_steady (λ xs. LackAll a xs) (λ x r. Lacks a x × EveryRow (λ e. e.label ≢ a) (λ n. ⊥) r) k
      (λ b xs h. may_sure a (permit k b (Choice xs)) (permit_lacks a b (Choice xs) h)) (λ b x lo hi r h. may_sure a (permit k b (Loop x lo hi r)) (permit_lacks a b (Loop x lo hi r) h))
      (λ xs e y p h. lacks_sure a y (after_lacks a {x = Choice xs} p h)) (λ x lo hi r e y p h. lacks_sure a y (after_lacks a {x = Loop x lo hi r} p h))

  -- an event that can happen first is one of the term's
  module _ (E : TermEvent → Type 0) where
    every_some : (r : Option Tree) (y : Tree) → r ≡ Some y → MayHave (Every E (λ n. ⊥)) r → Every E (λ n. ⊥) y
    every_some r y e h = rw e at h

    mutual
      pub taken_every : {x y : Tree} {e : TermEvent} → IsAfter k x e y → Every E (λ n. ⊥) x → E e
      taken_every after_event h = h
      taken_every (after_choice a) h = taken_one a h
      taken_every (after_join a) h = taken_part a h
      taken_every (after_tied a p) h = taken_every a h
      taken_every (after_loop {r = r} b a m p) h = taken_row a h.0 (every_row_out E (λ n. ⊥) r h.1)
      taken_every (after_walk m p a l1 l2 q r) h = absurd h

      taken_one : {xs : Trees} {y : Tree} {e : TermEvent} → IsAfterOne k xs e y → EveryOf E (λ n. ⊥) xs → E e
      taken_one (first_one a) h = taken_every a h.0
      taken_one (later_one a) h = taken_one a h.1

      taken_part : {m : Mode} {xs : Trees} {ys : List Tree} {e : TermEvent} → IsAfterJoin k m xs e ys → EveryOf E (λ n. ⊥) xs → E e
      taken_part (first_part a) h = taken_every a h.0
      taken_part (later_part s a) h = taken_part a h.1

      taken_row : {x : Tree} {b : Bool} {ps qs : List Part} {e : TermEvent} → IsAfterRow k x b ps e qs → Every E (λ n. ⊥) x → EachTurn (Every E (λ n. ⊥)) ps → E e
      taken_row (in_turn a) h d = taken_every a d.0
      taken_row (in_gap {x = x} {y = y} {c = c} p a) h d = taken_every a (every_some (permit k (only c) x) y p (permit_every E (λ n. ⊥) k (only c) x h))
      taken_row (past_turn p a) h d = taken_row a h d.1
      taken_row (past_gap a) h d = taken_row a h d

  -- permission by its instances fails where an event can happen first outside choices and loops
  own_hit : (e : TermEvent) → hits (only (instances_of e).instances) e ≡ true
  own_hit e = let p : has (instances_of e).instances e.at ≡ true = has_self e.at _ in rw p refl

  join_fails : (m : Mode) (p : Option (List Tree)) → p ≡ None → option_map (join_all m) p ≡ None
  join_fails m p e = rw e refl

  and_fails : (r : Option Tree) (p : Option (List Tree)) → p ≡ None → and_then r p ≡ None
  and_fails None p e = refl
  and_fails (Some x) p e = rw e refl

  mutual
    pub sure_blocks : {x y : Tree} {e : TermEvent} → IsAfter k x e y → Sure e.label x → permit k (only (instances_of e).instances) x ≡ None
    sure_blocks (after_event {e = e}) h = ap (λ t. unless t (Event e)) (own_hit e)
    sure_blocks (after_choice {e = e} a) h = absurd (taken_one (λ f. f.label ≢ e.label) a h refl)
    sure_blocks (after_join {m = m} {xs = xs} {e = e} a) h = join_fails m (permit_all k (only (instances_of e).instances) xs) (sure_fails a h)
    sure_blocks (after_tied {q = q} a p) h = ap (option_map (λ y. tie_of y q)) (sure_blocks a h)
    sure_blocks (after_loop {r = r} {e = e} b a m p) h = absurd (taken_row (λ f. f.label ≢ e.label) a h.0 (every_row_out (λ f. f.label ≢ e.label) (λ n. ⊥) r h.1) refl)
    sure_blocks (after_walk m p a l1 l2 q r) h = absurd h

    sure_fails : {m : Mode} {xs : Trees} {ys : List Tree} {e : TermEvent} → IsAfterJoin k m xs e ys → SureAll e.label xs → permit_all k (only (instances_of e).instances) xs ≡ None
    sure_fails (first_part {xs = xs} {e = e} a) h = ap (λ r. and_then r (permit_all k (only (instances_of e).instances) xs)) (sure_blocks a h.0)
    sure_fails (later_part {x = x} {xs = xs} {e = e} s a) h = and_fails (permit k (only (instances_of e).instances) x) (permit_all k (only (instances_of e).instances) xs) (sure_fails a h.1)
