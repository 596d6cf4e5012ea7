-- A number at one event at most, by the form of a term: permission and taking keep it so.
use Rattle.std.specs.Option.{option_map}
use Rattle.std.specs.Prelude.{ℕ, ◌≢◌, Bool, true, false, List, [], ◌∷◌, ◌++◌, ◌≡◌, ◌⊎◌, Option, Some, None}
use Rattle.std.proofs.Common.{inl, inr}
use Rattle.msc_base.specs.Patterns.{Mode, seq, par}
use Rattle.chart_term.specs.NormalForms.{NetPermits, only, open_part, flat, join_of, join_all, and_then, or_skip, unless, open_choices, distinct, choice_form, choice_of, bound_form, tie_of, kept_pairs, numbers}
use Rattle.chart_term.specs.Properties.{Each, MayHave, EveryOf, EveryRow}
use Rattle.chart_term.specs.TermPatterns.{instances_of, earlier}
use Rattle.chart_term.specs.Terms.{TermEvent, Block, hits, Tree, Nil, Event, Join, Choice, Tied, Loop, Walk, Trees, none, more, items, trees}
use Rattle.term_laws.specs.Permission.{permit, permit_all, permit_some}
use Rattle.term_laws.specs.Soundness.{Lacks}
use Rattle.term_laws.specs.Taking.{Stays, IsAfter, after_event, after_choice, after_join, after_tied, after_loop, after_walk, IsAfterOne, first_one, later_one, IsAfterJoin, first_part, later_part}
use Rattle.term_laws.proofs.Everywhere.{every_out, permit_every, after_every}
use Rattle.term_laws.proofs.Opening.{each_open, each_flat, each_choices, each_app, each_distinct}

module _ (NL : ℕ → ℕ → Type 0) (j : ℕ) where
  abbrev pub Free : Tree → Type 0
  Free x = Lacks NL j x

  abbrev pub FreeAll : Trees → Type 0
  FreeAll xs = EveryOf (λ e. e.number ≢ j) (NL j) xs

  -- at most one part of a join has the number, and each part of a choice has it once at most; no loop and no net has it
  abbrev mutual
    pub Once : Tree → Type 0
    Once Nil = Unit {0}
    Once (Event e) = Unit {0}
    Once (Join m xs) = OnceAll xs
    Once (Choice xs) = OnceEach xs
    Once (Tied x q) = Once x
    Once (Loop x lo hi r) = Free x × EveryRow (λ e. e.number ≢ j) (NL j) r
    Once (Walk n f t c) = NL j n

    pub OnceAll : Trees → Type 0
    OnceAll none = Unit {0}
    OnceAll (more x xs) = (Free x × OnceAll xs) ⊎ (Once x × FreeAll xs)

    pub OnceEach : Trees → Type 0
    OnceEach none = Unit {0}
    OnceEach (more x xs) = Once x × OnceEach xs

  abbrev pub OnceList : List Tree → Type 0
  OnceList [] = Unit {0}
  OnceList (x ∷ xs) = (Free x × OnceList xs) ⊎ (Once x × Each Free xs)

  mutual
    free_once : (x : Tree) → Free x → Once x
    free_once Nil h = tt
    free_once (Event e) h = tt
    free_once (Join m xs) h = free_once_all xs h
    free_once (Choice xs) h = free_once_each xs h
    free_once (Tied x q) h = free_once x h
    free_once (Loop x lo hi r) h = h
    free_once (Walk n f t c) h = h

    free_once_all : (xs : Trees) → FreeAll xs → OnceAll xs
    free_once_all none h = tt
    free_once_all (more x xs) h = inl (h.0, free_once_all xs h.1)

    free_once_each : (xs : Trees) → FreeAll xs → OnceEach xs
    free_once_each none h = tt
    free_once_each (more x xs) h = (free_once x h.0, free_once_each xs h.1)

  free_out : (xs : Trees) → FreeAll xs → Each Free (items xs)
  free_out = every_out (λ e. e.number ≢ j) (NL j)

  pub once_out : (xs : Trees) → OnceAll xs → OnceList (items xs)
  once_out none h = tt
  once_out (more x xs) (inl h) = inl (h.0, once_out xs h.1)
  once_out (more x xs) (inr h) = inr (h.0, free_out xs h.1)

  free_in : (xs : List Tree) → Each Free xs → FreeAll (trees xs)
  free_in [] h = tt
  free_in (x ∷ xs) h = (h.0, free_in xs h.1)

  once_in : (xs : List Tree) → OnceList xs → OnceAll (trees xs)
  once_in [] h = tt
  once_in (x ∷ xs) (inl h) = inl (h.0, once_in xs h.1)
  once_in (x ∷ xs) (inr h) = inr (h.0, free_in xs h.1)

  pub each_out : (xs : Trees) → OnceEach xs → Each Once (items xs)
  each_out none h = tt
  each_out (more x xs) h = (h.0, each_out xs h.1)

  each_in : (xs : List Tree) → Each Once xs → OnceEach (trees xs)
  each_in [] h = tt
  each_in (x ∷ xs) h = (h.0, each_in xs h.1)

  -- joins
  free_app : (xs ys : List Tree) → Each Free xs → OnceList ys → OnceList (xs ++ ys)
  free_app [] ys h o = o
  free_app (x ∷ xs) ys h o = inl (h.0, free_app xs ys h.1 o)

  once_app : (xs ys : List Tree) → OnceList xs → Each Free ys → OnceList (xs ++ ys)
  once_app [] [] o h = tt
  once_app [] (y ∷ ys) o h = inl (h.0, once_app [] ys tt h.1)
  once_app (x ∷ xs) ys (inl o) h = inl (o.0, once_app xs ys o.1 h)
  once_app (x ∷ xs) ys (inr o) h = inr (o.0, each_app Free xs ys o.1 h)

  open_free : (m : Mode) (x : Tree) → Free x → Each Free (open_part m x)
  open_free m x h = each_open Free m (λ ys i. free_out ys i) x h

  open_once : (m : Mode) (x : Tree) → Once x → OnceList (open_part m x)
  open_once m Nil h = tt
  open_once seq (Join seq xs) h = once_out xs h
  open_once seq (Join par xs) h = inr (h, tt)
  open_once par (Join seq xs) h = inr (h, tt)
  open_once par (Join par xs) h = once_out xs h
  open_once m (Event e) h = inr (h, tt)
  open_once m (Choice xs) h = inr (h, tt)
  open_once m (Tied x q) h = inr (h, tt)
  open_once m (Loop x lo hi r) h = inr (h, tt)
  open_once m (Walk n f t c) h = inr (h, tt)

  flat_free : (m : Mode) (xs : List Tree) → Each Free xs → Each Free (flat m xs)
  flat_free m xs h = each_flat Free m (λ ys i. free_out ys i) xs h

  flat_once : (m : Mode) (xs : List Tree) → OnceList xs → OnceList (flat m xs)
  flat_once m [] h = tt
  flat_once m (x ∷ xs) (inl h) = free_app (open_part m x) (flat m xs) (open_free m x h.0) (flat_once m xs h.1)
  flat_once m (x ∷ xs) (inr h) = once_app (open_part m x) (flat m xs) (open_once m x h.0) (flat_free m xs h.1)

  of_once : (m : Mode) (xs : List Tree) → OnceList xs → Once (join_of m xs)
  of_once m [] h = tt
  of_once m (x ∷ []) (inl h) = free_once x h.0
  of_once m (x ∷ []) (inr h) = h.0
  of_once m (x ∷ y ∷ ys) h = once_in (x ∷ y ∷ ys) h

  join_once : (m : Mode) (xs : List Tree) → OnceList xs → Once (join_all m xs)
  join_once m xs h = of_once m (flat m xs) (flat_once m xs h)

  -- choices

  choices_once : (xs : List Tree) → Each Once xs → Each Once (open_choices xs)
  choices_once xs h = each_choices Once (λ ys i. each_out ys i) xs h

  form_once : (xs : List Tree) → Each Once xs → MayHave Once (choice_form xs)
  form_once [] h = tt
  form_once (x ∷ []) h = h.0
  form_once (x ∷ y ∷ ys) h = each_in (x ∷ y ∷ ys) h

  choice_once : (xs : List Tree) → Each Once xs → MayHave Once (choice_of xs)
  choice_once xs h = form_once (distinct (open_choices xs)) (each_distinct Once (open_choices xs) (choices_once xs h))

  -- ties
  tie_once : (x : Tree) (q : List (ℕ × ℕ)) → Once x → Once (bound_form x q)
  tie_once x [] h = h
  tie_once x (p ∷ q) h = h

  bound_once : (x : Tree) (q : List (ℕ × ℕ)) → Once x → Once (tie_of x q)
  bound_once x q h = tie_once x (kept_pairs (numbers x) q) h

  may_once : (r : Option Tree) → MayHave Free r → MayHave Once r
  may_once None h = tt
  may_once (Some y) h = free_once y h

  some_of : (P : Tree → Type 0) (r : Option Tree) (y : Tree) → r ≡ Some y → MayHave P r → P y
  some_of P r y e h = rw e at h

  module _ (k : NetPermits) where
    -- permission
    permit_free : (b : Block) (x : Tree) → Free x → MayHave Free (permit k b x)
    permit_free = permit_every (λ e. e.number ≢ j) (NL j) k

    abbrev AllOnce : Option (List Tree) → Type 0
    AllOnce None = Unit {0}
    AllOnce (Some xs) = OnceList xs

    abbrev AllFree : Option (List Tree) → Type 0
    AllFree None = Unit {0}
    AllFree (Some xs) = Each Free xs

    and_free : (r : Option Tree) (p : Option (List Tree)) → MayHave Free r → AllFree p → AllFree (and_then r p)
    and_free None p h i = tt
    and_free (Some y) None h i = tt
    and_free (Some y) (Some ys) h i = (h, i)

    all_free : (b : Block) (xs : Trees) → FreeAll xs → AllFree (permit_all k b xs)
    all_free b none h = tt
    all_free b (more x xs) h = and_free (permit k b x) (permit_all k b xs) (permit_free b x h.0) (all_free b xs h.1)

    and_first : (r : Option Tree) (p : Option (List Tree)) → MayHave Free r → AllOnce p → AllOnce (and_then r p)
    and_first None p h i = tt
    and_first (Some y) None h i = tt
    and_first (Some y) (Some ys) h i = inl (h, i)

    and_later : (r : Option Tree) (p : Option (List Tree)) → MayHave Once r → AllFree p → AllOnce (and_then r p)
    and_later None p h i = tt
    and_later (Some y) None h i = tt
    and_later (Some y) (Some ys) h i = inr (h, i)

    map_once : (m : Mode) (p : Option (List Tree)) → AllOnce p → MayHave Once (option_map (join_all m) p)
    map_once m None h = tt
    map_once m (Some ys) h = join_once m ys h

    tied_once : (q : List (ℕ × ℕ)) (r : Option Tree) → MayHave Once r → MayHave Once (option_map (λ y. tie_of y q) r)
    tied_once q None h = tt
    tied_once q (Some y) h = bound_once y q h

    event_once : (t : Bool) (e : TermEvent) → MayHave Once (unless t (Event e))
    event_once true e = tt
    event_once false e = tt

    skip_once : (r : Option Tree) (xs : List Tree) → MayHave Once r → Each Once xs → Each Once (or_skip r xs)
    skip_once None xs h i = i
    skip_once (Some y) xs h i = (h, i)

    mutual
      pub permit_once : (b : Block) (x : Tree) → Once x → MayHave Once (permit k b x)
      permit_once b Nil h = tt
      permit_once b (Event e) h = event_once (hits b e) e
      permit_once b (Join m xs) h = map_once m (permit_all k b xs) (all_once b xs h)
      permit_once b (Choice xs) h = choice_once (permit_some k b xs) (some_once b xs h)
      permit_once b (Tied x q) h = tied_once q (permit k b x) (permit_once b x h)
      permit_once b (Loop x lo hi r) h = may_once (permit k b (Loop x lo hi r)) (permit_free b (Loop x lo hi r) h)
      permit_once b (Walk n f t c) h = may_once (permit k b (Walk n f t c)) (permit_free b (Walk n f t c) h)

      all_once : (b : Block) (xs : Trees) → OnceAll xs → AllOnce (permit_all k b xs)
      all_once b none h = tt
      all_once b (more x xs) (inl h) = and_first (permit k b x) (permit_all k b xs) (permit_free b x h.0) (all_once b xs h.1)
      all_once b (more x xs) (inr h) = and_later (permit k b x) (permit_all k b xs) (permit_once b x h.0) (all_free b xs h.1)

      some_once : (b : Block) (xs : Trees) → OnceEach xs → Each Once (permit_some k b xs)
      some_once b none h = tt
      some_once b (more x xs) h = skip_once (permit k b x) (permit_some k b xs) (permit_once b x h.0) (some_once b xs h.1)

    -- taking, where what is left of the node terms of a net without the number lacks it too
    module _ (kept : (n m : ℕ) (d : List ℕ) (x : Tree) → NL j n → k.kept n m d ≡ Some x → Free x) where
      after_free : {x y : Tree} {e : TermEvent} → IsAfter k x e y → Free x → Free y
      after_free = after_every (λ e. e.number ≢ j) (NL j) k kept

      stays_free : (m : Mode) (e : TermEvent) (x y : Tree) → Stays k m e x y → Free x → Free y
      stays_free seq e x y s h = some_of Free (permit k (only (instances_of e).instances) x) y s (permit_free (only (instances_of e).instances) x h)
      stays_free par e x y s h = rw s h

      stays_once : (m : Mode) (e : TermEvent) (x y : Tree) → Stays k m e x y → Once x → Once y
      stays_once seq e x y s h = some_of Once (permit k (only (instances_of e).instances) x) y s (permit_once (only (instances_of e).instances) x h)
      stays_once par e x y s h = rw s h

      parts_free : {m : Mode} {xs : Trees} {ys : List Tree} {e : TermEvent} → IsAfterJoin k m xs e ys → FreeAll xs → Each Free ys
      parts_free (first_part {x = x} {y = y} {xs = xs} a) h = (after_free {x = x} {y = y} a h.0, free_out xs h.1)
      parts_free (later_part {m = m} {x = x} {x' = y} {e = e} s a) h = (stays_free m e x y s h.0, parts_free a h.1)

      mutual
        pub after_once : {x y : Tree} {e : TermEvent} → IsAfter k x e y → Once x → Once y
        after_once after_event h = tt
        after_once (after_choice a) h = one_once a h
        after_once (after_join {m = m} {ys = ys} a) h = join_once m ys (parts_once a h)
        after_once (after_tied {y = y} {z = z} {q = q} {e = e} a p) h = bound_once z q (some_of Once (permit k (earlier q e) y) z p (permit_once (earlier q e) y (after_once a h)))
        after_once (after_loop {x = x} {z = z} {lo = lo} {hi = hi} {r = r} b a g p) h = free_once z (after_free {x = Loop x lo hi r} {y = z} (after_loop b a g p) h)
        after_once (after_walk {n = n} {s = f} {t = t} {c = c} m {y = y} {u = u} {v = v} p a l1 l2 q r) h =
            free_once (join_all seq (u ∷ y ∷ v ∷ [])) (after_free {x = Walk n f t c} {y = join_all seq (u ∷ y ∷ v ∷ [])} (after_walk m p a l1 l2 q r) h)

        one_once : {xs : Trees} {y : Tree} {e : TermEvent} → IsAfterOne k xs e y → OnceEach xs → Once y
        one_once (first_one a) h = after_once a h.0
        one_once (later_one a) h = one_once a h.1

        parts_once : {m : Mode} {xs : Trees} {ys : List Tree} {e : TermEvent} → IsAfterJoin k m xs e ys → OnceAll xs → OnceList ys
        parts_once (first_part {x = x} {y = y} {xs = xs} a) (inl h) = inl (after_free {x = x} {y = y} a h.0, once_out xs h.1)
        parts_once (first_part {xs = xs} a) (inr h) = inr (after_once a h.0, free_out xs h.1)
        parts_once (later_part {m = m} {x = x} {x' = y} {e = e} s a) (inl h) = inl (stays_free m e x y s h.0, parts_once a h.1)
        parts_once (later_part {m = m} {x = x} {x' = y} {e = e} s a) (inr h) = inr (stays_once m e x y s h.0, parts_free a h.1)
