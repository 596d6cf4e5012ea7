-- A search comes to each event that can be taken from a term.
use Rattle.std.specs.Option.{option_map}
use Rattle.std.proofs.Common.{ℕ, zero, suc, ◌+◌, ◌<◌, ◌≤◌, ◌==◌, ◌≡◌, ◌∙◌, ◌⊎◌, Result, Ok, Err, OnOk, true, List, [], ◌∷◌, Option, Some, None, length, slice_get, refl, sym, ap, subst, inl, inr, arith}
use Rattle.std.proofs.lemmas.Bool.Decides.{nat_tests}
use Rattle.std.proofs.lemmas.Option.{slice_get_within}
use Rattle.msc_base.specs.Lists.{IsAmong, IsIn}
use Rattle.msc_base.specs.Patterns.{seq, par}
use Rattle.chart_term.specs.NormalForms.{NetPermits, and_then, join_all}
use Rattle.chart_term.specs.Properties.{Each}
use Rattle.chart_term.specs.Tables.{Tables}
use Rattle.chart_term.specs.Terms.{TermEvent, Tree, Nil, Event, Join, Choice, trees}
use Rattle.chart_term.proofs.Lists.{items-trees}
use Rattle.term_laws.specs.Listing.{stay}
use Rattle.term_laws.specs.Permission.{permits_of}
use Rattle.term_permission.specs.Ready.{IsReady, AreReadyTables}
use Rattle.term_permission.proofs.Permits.{ready-at}
use Rattle.term_step.specs.Children.{child, parts_left}
use Rattle.term_step.specs.Searches.{child_count}
use Rattle.term_step.proofs.ChildReady.{child-good}
use Rattle.term_step.proofs.Children.{in-child}
use Rattle.term_step.proofs.Children as taken
use Rattle.term_step.proofs.PutReady.{each_out}
use Rattle.term_firsts.specs.Firsts.{AreReady, Awaits, CanTake, Enters, EntersBehind, EntersChild, EntersChildren, EntersSome, HaveFirst, Hands, IsEventOf, IsHeldAt, IsInChild, IsLater, IsMet, IsNoEvent, Meets}
use Rattle.term_firsts.specs.declared.search.Search.{Search}

-- ---- a search that goes on

-- what follows at a success
pub on_ok : {T E : Type 0} (r : Result T E) {P Q : Type 0} → OnOk r P → (P → Q) → OnOk r Q
on_ok (Ok v) h f = f h
on_ok (Err e) h f = h

pub stays : (w : Tables) (s : Search) → IsLater w s s
stays w s = record { keeps = λ e h. h; ready = λ h. h }

pub on : (w : Tables) (a b c : Search) → IsLater w a b → IsLater w b c → IsLater w a c
on w a b c f g = record { keeps = λ e h. g.keeps e (f.keeps e h); ready = λ h. g.ready (f.ready h) }

await_later : (w : Tables) (x : Tree) (a b : Search) → IsReady w x → Awaits x a b → IsLater w a b
await_later w x a b r h = record { keeps = h.keeps w; ready = h.ready w r }

meet_later : (w : Tables) (label : ℕ) (a b : Search) → Meets label a b → IsLater w a b
meet_later w label a b h = record { keeps = h.keeps w; ready = h.ready w }

-- ---- events

-- what is taken from an event is the event
own_event : (w : Tables) (x : Tree) (f e : TermEvent) → x ≡ Event f → CanTake w x e → e ≡ f
own_event w x f e is t = by (in-child (permits_of w) t.1)
  where
    by : ((x ≡ Event e) × (t.0 ≡ Nil)) ⊎ taken.IsInChild (permits_of w) x e t.0 → e ≡ f
    by (inl h) = let same : Event e ≡ Event f = sym h.0 ∙ is in cc
    by (inr h) = let none : None ≡ Some h.inner = sym (ap (λ (z : Tree). child (permits_of w) z h.index) is) ∙ h.there in cc

-- what is taken from no event is taken from a child
inner_event : (w : Tables) (x : Tree) (e : TermEvent) → IsNoEvent x → CanTake w x e → IsInChild w x e
inner_event w x e none t = by (in-child (permits_of w) t.1)
  where
    by : ((x ≡ Event e) × (t.0 ≡ Nil)) ⊎ taken.IsInChild (permits_of w) x e t.0 → IsInChild w x e
    by (inl h) = absurd (none e h.0)
    by (inr h) = record { index = h.index; inner = h.inner; there = h.there; taken = (h.left, h.taken) }

pub enter_event : (w : Tables) (x : Tree) (label at : ℕ) (old new : Search) → IsEventOf x label at → Meets label old new → Enters w x old new
enter_event w x label at old new is m = record {
  later = meet_later w label old new m;
  comes = λ e t. m.comes w e (ap (λ (f : TermEvent). f.label) (own_event w x is.event e is.is t) ∙ is.labelled);
}

pub enter_inner : (w : Tables) (x : Tree) (old new : Search) → IsNoEvent x → EntersChildren w x old new → Enters w x old new
enter_inner w x old new none h = record { later = h.later; comes = λ e t. h.comes e (inner_event w x e none t) }

pub enter_as : (w : Tables) (x y : Tree) (old new : Search) → x ≡ y → Enters w y old new → Enters w x old new
enter_as w x y old new is h = subst (λ (z : Tree). Enters w z old new) (sym is) h

-- ---- children

-- the search has come to each event of the first children
pub record EntersFirst (w : Tables) (x : Tree) (most : ℕ) (old new : Search) : Type 0 where
  pub later : IsLater w old new
  pub comes : (e : TermEvent) (h : IsInChild w x e) → h.index < most → IsMet w new e

pub none_entered : (w : Tables) (x : Tree) (s : Search) → EntersFirst w x 0 s s
none_entered w x s = record { later = stays w s; comes = λ e h l. absurd (omega arith) }

at_last : (n i : ℕ) → i < n + 1 → (i < n) ⊎ (i ≡ n)
at_last zero zero h = inr refl
at_last zero (suc i) h = absurd (omega arith)
at_last (suc n) zero h = inl (omega arith)
at_last (suc n) (suc i) h = elim (at_last n i (omega arith)) [ inl l ↦ inl (omega arith) | inr e ↦ inr (ap suc e) ]

pub enter_inner_child : (w : Tables) → AreReadyTables w → (x inner : Tree) (n : ℕ) (old new : Search) → IsReady w x → child (permits_of w) x n ≡ Some inner → Awaits inner old new → EntersChild w x n old new
enter_inner_child w tables x inner n old new r is a = record {
  later = await_later w inner old new (child-good w tables x n inner r is).ready a;
  comes = λ other there e t. a.comes w e (let same : Some other ≡ Some inner = sym there ∙ is in let one : other ≡ inner = cc in subst (λ (z : Tree). CanTake w z e) one t);
}

pub enter_no_child : (w : Tables) (x : Tree) (n : ℕ) (s : Search) → child (permits_of w) x n ≡ None → EntersChild w x n s s
enter_no_child w x n s is = record { later = stays w s; comes = λ other there e t. let same : Some other ≡ None = sym there ∙ is in cc }

pub child_entered : (w : Tables) (x : Tree) (n : ℕ) (old mid new : Search) → EntersFirst w x n old mid → EntersChild w x n mid new → EntersFirst w x (n + 1) old new
child_entered w x n old mid new h a = record { later = on w old mid new h.later a.later; comes = λ e c l. by e c (at_last n c.index l) }
  where
    by : (e : TermEvent) (c : IsInChild w x e) → (c.index < n) ⊎ (c.index ≡ n) → IsMet w new e
    by e c (inl l) = a.later.keeps e (h.comes e c l)
    by e c (inr q) = a.comes c.inner (ap (child (permits_of w) x) (sym q) ∙ c.there) e c.taken

pub all_children : (w : Tables) → AreReadyTables w → (x : Tree) (n : ℕ) (old new : Search) → IsReady w x → child_count w x ≤ n → EntersFirst w x n old new → EntersChildren w x old new
all_children w tables x n old new r is h = record { later = h.later; comes = λ e c. h.comes e c (let good = child-good w tables x c.index c.inner r c.there in omega (arith, good.within, is)) }

-- ---- rows

pub row_child : (k : NetPermits) (x : Tree) (xs : List Tree) (i : ℕ) → x ≡ Join seq (trees xs) → child k x i ≡ slice_get xs i
row_child k x xs i is = ap (λ (z : Tree). child k z i) is ∙ ap (λ (l : List Tree). slice_get l i) (items-trees xs)

pub aside_child : (k : NetPermits) (x : Tree) (xs : List Tree) (i : ℕ) → x ≡ Join par (trees xs) → child k x i ≡ slice_get xs i
aside_child k x xs i is = ap (λ (z : Tree). child k z i) is ∙ ap (λ (l : List Tree). slice_get l i) (items-trees xs)

pub choice_child : (k : NetPermits) (x : Tree) (xs : List Tree) (i : ℕ) → x ≡ Choice (trees xs) → child k x i ≡ slice_get xs i
choice_child k x xs i is = ap (λ (z : Tree). child k z i) is ∙ ap (λ (l : List Tree). slice_get l i) (items-trees xs)

pub row_part_ready : (w : Tables) (xs : List Tree) (i : ℕ) (x : Tree) → slice_get xs i ≡ Some x → IsReady w (Join seq (trees xs)) → IsReady w x
row_part_ready w xs i x is r = ready-at w xs i x is (subst (λ (l : List Tree). Each (IsReady w) l) (items-trees xs) (each_out w (trees xs) r.within r.normal.0))

-- an event before at the same instance holds one back
held_back : (k : NetPermits) (e f : TermEvent) → f.at ≡ e.at → stay k seq e (Event f) ≡ None
held_back k e f same = let met : (e.at == f.at) ≡ true = grind (arith, nat_tests) in rw met refl

and_none : (o : Option Tree) (p : Option (List Tree)) → o ≡ None → and_then o p ≡ None
and_none None p h = refl
and_none (Some x) p h = cc

and_later : (o : Option Tree) (p : Option (List Tree)) → p ≡ None → and_then o p ≡ None
and_later None p h = refl
and_later (Some x) None h = refl
and_later (Some x) (Some ys) h = cc

no_way : (k : NetPermits) (e f : TermEvent) (xs : List Tree) (i j : ℕ) (y : Tree) → j < i → slice_get xs j ≡ Some (Event f) → f.at ≡ e.at → parts_left k seq e xs i y ≡ None
no_way k e f [] i j y l g s = refl
no_way k e f (x ∷ xs) zero j y l g s = absurd (omega arith)
no_way k e f (x ∷ xs) (suc i) zero y l g s = let is : x ≡ Event f = cc in and_none (stay k seq e x) (parts_left k seq e xs i y) (ap (stay k seq e) is ∙ held_back k e f s)
no_way k e f (x ∷ xs) (suc i) (suc j) y l g s = and_later (stay k seq e x) (parts_left k seq e xs i y) (no_way k e f xs i j y (omega arith) g s)

map_none : (g : List Tree → Tree) (o : Option (List Tree)) (z : Tree) → o ≡ None → option_map g o ≡ Some z → ⊥
map_none g None z h e = cc
map_none g (Some xs) z h e = cc

pub none_so_far : (w : Tables) (xs : List Tree) (held : List ℕ) (s : Search) → ((n : ℕ) → IsIn n held → ⊥) → EntersSome w xs 0 held s s
none_so_far w xs held s none = record { later = stays w s; comes = λ i x l. absurd (omega arith); holding = λ at h. absurd (none at h) }

held_later : (xs : List Tree) (m n at : ℕ) → m < n → IsHeldAt xs m at → IsHeldAt xs n at
held_later xs m n at l h = record { index = h.index; before = omega (arith, h.before, l); event = h.event; there = h.there; placed = h.placed }

pub one_more : (w : Tables) (xs : List Tree) (n : ℕ) (x : Tree) (held holds : List ℕ) (old mid new : Search) → slice_get xs n ≡ Some x → EntersSome w xs n held old mid → EntersBehind w x held holds mid new → EntersSome w xs (n + 1) holds old new
one_more w xs n x held holds old mid new is h b = record {
  later = on w old mid new h.later b.later;
  comes = λ i y l g e t. by i y g e t (at_last n i l);
  holding = λ at i. at_held at (b.holding at i);
}
  where
    here : (e : TermEvent) → IsMet w new e ⊎ IsIn e.at held → IsMet w new e ⊎ IsHeldAt xs n e.at
    here e (inl m) = inl m
    here e (inr i) = inr (h.holding e.at i)

    before : (i : ℕ) (e : TermEvent) → IsMet w mid e ⊎ IsHeldAt xs i e.at → IsMet w new e ⊎ IsHeldAt xs i e.at
    before i e (inl m) = inl (b.later.keeps e m)
    before i e (inr q) = inr q

    by : (i : ℕ) (y : Tree) → slice_get xs i ≡ Some y → (e : TermEvent) → CanTake w y e → (i < n) ⊎ (i ≡ n) → IsMet w new e ⊎ IsHeldAt xs i e.at
    by i y g e t (inl l) = before i e (h.comes i y l g e t)
    by i y g e t (inr q) =
        let same : Some y ≡ Some x = sym g ∙ ap (slice_get xs) q ∙ is in
        let one : y ≡ x = cc in
        subst (λ (m : ℕ). IsMet w new e ⊎ IsHeldAt xs m e.at) (sym q) (here e (b.comes e (subst (λ (z : Tree). CanTake w z e) one t)))

    at_held : (at : ℕ) → IsIn at held ⊎ ((e : TermEvent) × (x ≡ Event e) × (e.at ≡ at)) → IsHeldAt xs (n + 1) at
    at_held at (inl i) = held_later xs n (n + 1) at (omega arith) (h.holding at i)
    at_held at (inr p) = record { index = n; before = omega arith; event = p.0; there = is ∙ ap Some p.1; placed = p.2 }

pub whole_row : (w : Tables) (xs : List Tree) (n : ℕ) (held : List ℕ) (old new : Search) → length xs ≤ n → EntersSome w xs n held old new → Enters w (Join seq (trees xs)) old new
whole_row w xs n held old new is h = record { later = h.later; comes = λ e t. by e t (in-child (permits_of w) t.1) }
  where
    k : NetPermits
    k = permits_of w

    by : (e : TermEvent) (t : CanTake w (Join seq (trees xs)) e) → ((Join seq (trees xs) ≡ Event e) × (t.0 ≡ Nil)) ⊎ taken.IsInChild k (Join seq (trees xs)) e t.0 → IsMet w new e
    by e t (inl q) = let no = q.0 in cc
    by e t (inr c) =
        let there : slice_get xs c.index ≡ Some c.inner = ap (λ (l : List Tree). slice_get l c.index) (sym (items-trees xs)) ∙ c.there in
        let way : option_map (join_all seq) (parts_left k seq e xs c.index c.left) ≡ Some t.0 = ap (λ (l : List Tree). option_map (join_all seq) (parts_left k seq e l c.index c.left)) (sym (items-trees xs)) ∙ c.whole in
        elim (h.comes c.index c.inner (let l = slice_get_within xs c.index c.inner there in omega (arith, l, is)) there e (c.left, c.taken)) [
          | inl m ↦ m
          | inr b ↦ absurd (map_none (join_all seq) (parts_left k seq e xs c.index c.left) t.0 (no_way k e b.event xs c.index b.index c.left b.before b.there b.placed) way)
        ]

-- a part of a row that isn't an event waits
pub wait_part : (w : Tables) (x : Tree) (held : List ℕ) (old new : Search) → IsReady w x → Awaits x old new → EntersBehind w x held held old new
wait_part w x held old new r a = record { later = await_later w x old new r a; comes = λ e t. inl (a.comes w e t); holding = λ at i. inl i }

-- an event at an instance that is held is passed
pub pass_part : (w : Tables) (x : Tree) (label at : ℕ) (held : List ℕ) (s : Search) → IsEventOf x label at → IsIn at held → EntersBehind w x held held s s
pass_part w x label at held s is i = record {
  later = stays w s;
  comes = λ e t. inr (subst (λ (m : ℕ). IsIn m held) (sym is.placed ∙ ap (λ (f : TermEvent). f.at) (sym (own_event w x is.event e is.is t))) i);
  holding = λ at j. inl j;
}

-- another is met
pub meet_part : (w : Tables) (x : Tree) (label at : ℕ) (held holds : List ℕ) (old new : Search) → IsEventOf x label at → Meets label old new → ((m : ℕ) → IsIn m holds → IsIn m held ⊎ (m ≡ at)) → EntersBehind w x held holds old new
meet_part w x label at held holds old new is m grows = record {
  later = meet_later w label old new m;
  comes = λ e t. inl (m.comes w e (ap (λ (f : TermEvent). f.label) (own_event w x is.event e is.is t) ∙ is.labelled));
  holding = λ b i. elim (grows b i) [ inl j ↦ inl j | inr q ↦ inr (is.event, is.is, is.placed ∙ sym q) ];
}

-- ---- the whole search

-- all terms that wait are ready, and the search comes to each event of the term
pub record Searches (w : Tables) (x : Tree) (s : Search) : Type 0 where
  pub ready : AreReady w s
  pub comes : (e : TermEvent) → CanTake w x e → IsMet w s e

pub goes_on : (w : Tables) (x y : Tree) (old mid new : Search) → Searches w x old → Hands y old mid → Enters w y mid new → Searches w x new
goes_on w x y old mid new s h n = record { ready = n.later.ready (h.ready w s.ready); comes = λ e t. by e (h.rest w e (s.comes e t)) }
  where
    by : (e : TermEvent) → CanTake w y e ⊎ IsMet w mid e → IsMet w new e
    by e (inl t) = n.comes e t
    by e (inr m) = n.later.keeps e m

pub ends : (w : Tables) (x : Tree) (s : Search) → Searches w x s → s.waiting.items ≡ [] → HaveFirst w x s.labels.items
ends w x s h none e t = elim (h.comes e t) [ inl i ↦ i | inr b ↦ absurd (subst (λ (l : List Tree). IsAmong l b.term) none b.among) ]

pub ruleset entering = (enter_event, enter_inner, enter_as, none_entered, child_entered, all_children, none_so_far, one_more, whole_row, goes_on, ends)
