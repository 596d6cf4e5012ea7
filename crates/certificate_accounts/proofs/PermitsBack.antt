-- From an account of what permission leaves of a term to one of the term.
use Rattle.std.specs.List.{list_any}
use Rattle.std.specs.Option.{option_map}
use Rattle.std.specs.Prelude.{ℕ, zero, suc, Bool, true, false, List, [], ◌∷◌, ◌≡◌, ◌⊎◌, ◌||◌, Option, Some, None, refl, cond}
use Rattle.std.proofs.Common.{ap, sym, inl, inr}
use Rattle.std.proofs.lemmas.Bool.{and_parts, or_cases}
use Rattle.std.proofs.lemmas.Option.{none-some}
use Rattle.list_facts.proofs.Orders.{stands_either}
use Rattle.msc_base.specs.Lists.{IsIn}
use Rattle.msc_base.specs.Orders.{Among, first, later}
use Rattle.msc_base.specs.Patterns.{Mode, seq, empty, one, join, bind}
use Rattle.hmsc_graph.specs.Graphs.{Spot, At, Goal, To, End, Any, reach}
use Rattle.chart_term.specs.Equality.{same_tree}
use Rattle.chart_term.specs.Facts.{misses}
use Rattle.chart_term.specs.NormalForms.{NetPermits, only, cut, join_all, and_then, or_skip, unless, choice_form, unless_same, without, distinct, open_choice, open_choices, tie_of, bound_form, kept_pairs, numbers, turns_in, loop_of, walk_form, walk_of, allowed, are_nil}
use Rattle.chart_term.specs.Spreads.{touch}
use Rattle.chart_term.specs.Tables.{nth_tree}
use Rattle.chart_term.specs.TermMeanings.{NetTerms, UpTo, HasPattern, holds_tie, Leaves, terms_of}
use Rattle.chart_term.specs.TermPatterns.{Shape, Avoids, HasNoEvent, Agree, Occurs, InPairs, ◌≈◌, same, back, on, in_join, in_bind, assoc, left, right, bind_none, bind_as, Both}
use Rattle.chart_term.specs.Terms.{TermEvent, Block, hits, Tree, Nil, Event, Join, Choice, Tied, Loop, Walk, Trees, none, more, Row, ends, gap, turn, items, trees, Part, Gap, Turn, parts, ◌∪◌}
use Rattle.chart_term.proofs.Binding.{Shows, agrees}
use Rattle.chart_term.proofs.Equal.{tree_is, same_tree_is_exact}
use Rattle.chart_term.proofs.Instances.{cut_avoids, both_avoids}
use Rattle.chart_term.proofs.Lists.{items-trees}
use Rattle.chart_term.proofs.Running.{no_event}
use Rattle.chart_term.proofs.Sameness.{avoids}
use Rattle.chart_term.proofs.Walking.{IsExactNet}
use Rattle.term_laws.specs.Permission.{permit, permit_all, permit_some, permit_row, wider, with_turn}
use Rattle.term_laws.specs.Taking.{HasGap}
use Rattle.term_laws.proofs.Permitting.{IsRegular, AreRegular, IsRegularRow, IsFree, Fits, FitsAll, FitsRow, permit_law, only_fits, touched}
use Rattle.certificates.specs.Certificates.{HasEmpty}
use Rattle.certificates.proofs.Places.{some_same}
use Rattle.certificate_accounts.specs.Accounts.{Account, nothing, at_place, of_parts, of_branch, of_row, of_walk, Accounts, no_accounts, account_and, RowAccount, Visits, placed_event, Tells, tells_nothing, tells_event, tells_parts, tells_branch, tells_tie, tells_row, tells_walk, TellsAll, tells_none, tells_part, TellsOne, tells_this, tells_that, TellsRow, tells_over, tells_turn, tells_shut, tells_more, TellsWalk, tells_arrived, tells_visit}
use Rattle.certificate_accounts.specs.JoinsBack.{first_of, rest_of, parts_back}
use Rattle.certificate_accounts.specs.RowsBack.{loop_back, put_gap, put_begun}
use Rattle.certificate_accounts.specs.PermitsBack.{join_some, loop_some, is_itself, stays, unless_stays, opens_to, index_in, reopened, reopened_some, later_branch, first_or_later, branch_in, choice_back, permit_back, all_back, some_back, gaps_back}
use Rattle.certificates.proofs.Padding.{none_is_empty}
use Rattle.certificate_accounts.proofs.Telling.{named, avoids_named, told, eased}
use Rattle.certificate_accounts.proofs.JoinsBack.{parts_back_tells}
use Rattle.certificate_accounts.proofs.RowsBack.{TellsCounted, loop_told}

not_both : (b : Bool) → b ≡ true → b ≡ false → ⊥
not_both b h k = cc

same_self : (z : Tree) → same_tree z z ≡ true
same_self z = same_tree_is_exact.whole z z refl

-- the same numbers occur in the same patterns
pub occurs_same : {x y : Shape} (n : ℕ) → x ≈ y → Both (Occurs n x) (Occurs n y)
occurs_same n same = record { to = λ h. h; from = λ h. h }
occurs_same n (back p) = let r = occurs_same n p in record { to = r.from; from = r.to }
occurs_same n (on p q) = let r = occurs_same n p in let s = occurs_same n q in record { to = λ h. s.to (r.to h); from = λ h. r.from (s.from h) }
occurs_same n (in_join p q) = let r = occurs_same n p in let s = occurs_same n q in record { to = λ h. elim h [ inl i ↦ inl (r.to i) | inr i ↦ inr (s.to i) ]; from = λ h. elim h [ inl i ↦ inl (r.from i) | inr i ↦ inr (s.from i) ] }
occurs_same n (in_bind p) = let r = occurs_same n p in record { to = r.to; from = r.from }
occurs_same n assoc = record { to = λ h. elim h [ inl i ↦ elim i [ inl j ↦ inl j | inr j ↦ inr (inl j) ] | inr i ↦ inr (inr i) ]; from = λ h. elim h [ inl i ↦ inl (inl i) | inr i ↦ elim i [ inl j ↦ inl (inr j) | inr j ↦ inr j ] ] }
occurs_same n left = record { to = λ h. elim h [ inl i ↦ absurd i | inr i ↦ i ]; from = λ h. inr h }
occurs_same n right = record { to = λ h. elim h [ inl i ↦ i | inr i ↦ absurd i ]; from = λ h. inl h }
occurs_same n bind_none = record { to = λ h. h; from = λ h. h }
occurs_same n (bind_as a) = record { to = λ h. h; from = λ h. h }

occurs_named : (ev : ℕ → TermEvent) (n : ℕ) (s : Shape) → Occurs n s → Occurs n (named ev s)
occurs_named ev n empty h = h
occurs_named ev n (one d) h = h
occurs_named ev n (join m x y) (inl h) = inl (occurs_named ev n x h)
occurs_named ev n (join m x y) (inr h) = inr (occurs_named ev n y h)
occurs_named ev n (bind x q) h = occurs_named ev n x h

module _ (k : NetPermits) (node : ℕ → ℕ → Tree) (ev : ℕ → TermEvent) where
  abbrev w : NetTerms
  w = terms_of k node

  -- an account of y, as one of x: it avoids the block
  abbrev pub Back : Tree → (Account → Account) → Block → Tree → Type 0
  Back x f b y = (a : Account) (s : Shape) → Tells w ev y a s → (t : Shape) × Tells w ev x (f a) t × Avoids b t × (s ≈ t)

  -- the empty pattern
  empty_left : (b : Block) (x y : Tree) → Leaves w false b x (permit k b x) → permit k b x ≡ Some y → HasEmpty w y → HasEmpty w x
  empty_left b x y l e h = let f = rw e at (l.sound) in let i = f h.pattern h.has in record { pattern = i.0; has = i.1.0; none = (no_event i.2).to h.none }

  -- what avoids the instances avoids the block, where its numbers are elsewhere
  free_told : (b : Block) (x : Tree) → IsFree k node false b x → (a : Account) (s : Shape) → Tells w ev x a s → Avoids (only b.instances) s → Avoids b s
  free_told b x f a s h av =
      let (t, i, e) = told w ev h in
      (avoids_named ev b s).to ((avoids b e).to (f t i ((avoids (only b.instances) e).from ((avoids_named ev (only b.instances) s).from av))))

  -- events
  event_back : (b : Block) (e : TermEvent) (t : Bool) → hits b e ≡ t → (y : Tree) → unless t (Event e) ≡ Some y → Back (Event e) (λ a. a) b y
  event_back b e true p y g a s h = absurd (none-some y g)
  event_back b e false p y g a s h = at_event a s (rw (← some_same (Event e) y g) at h)
    where
      at_event : (a : Account) (s : Shape) → Tells w ev (Event e) a s → (t : Shape) × Tells w ev (Event e) a t × Avoids b t × (s ≈ t)
      at_event a s (tells_event {n = n} h) = (one (placed_event e n), tells_event h, p, same)
      at_event a s (tells_nothing h) = (empty, tells_nothing h, tt, same)

  nil_back : (b : Block) (y : Tree) → Some Nil ≡ Some y → Back Nil (λ a. a) b y
  nil_back b y g a s h = at_nil a s (rw (← some_same Nil y g) at h)
    where
      at_nil : (a : Account) (s : Shape) → Tells w ev Nil a s → (t : Shape) × Tells w ev Nil a t × Avoids b t × (s ≈ t)
      at_nil a s (tells_nothing h) = (empty, tells_nothing h, tt, same)

  -- parts of a join
  abbrev AllBack : Mode → List Tree → (Accounts → Accounts) → Block → List Tree → Type 0
  AllBack m xs f b ys = (us : Accounts) (s : Shape) → TellsAll w ev m ys us s → (t : Shape) × TellsAll w ev m xs (f us) t × Avoids b t × (s ≈ t)

  two_some : (r : Option Tree) (p : Option (List Tree)) (ys : List Tree) → and_then r p ≡ Some ys → (z : Tree) × (zs : List Tree) × (r ≡ Some z) × (p ≡ Some zs) × (ys ≡ z ∷ zs)
  two_some None p ys e = absurd (none-some ys e)
  two_some (Some z) None ys e = absurd (none-some ys e)
  two_some (Some z) (Some zs) ys e = (z, zs, refl, refl, sym (some_same (z ∷ zs) ys e))

  more_back : (m : Mode) (b : Block) (x : Tree) (xs : List Tree) (f : Account → Account) (g : Accounts → Accounts) (z : Tree) (zs ys : List Tree) → ys ≡ z ∷ zs → Back x f b z → AllBack m xs g b zs
      → AllBack m (x ∷ xs) (λ us. account_and (f (first_of us)) (g (rest_of us))) b ys
  more_back m b x xs f g z zs ys e p q us s h = at_more us s (rw e at h)
    where
      at_more : (us : Accounts) (s : Shape) → TellsAll w ev m (z ∷ zs) us s → (t : Shape) × TellsAll w ev m (x ∷ xs) (account_and (f (first_of us)) (g (rest_of us))) t × Avoids b t × (s ≈ t)
      at_more us s (tells_part a r) = let i = p _ _ a in let j = q _ _ r in (join m i.0 j.0, tells_part i.1 j.1, (i.2, j.2), in_join i.3 j.3)

  none_back : (m : Mode) (b : Block) (ys : List Tree) → Some [] ≡ Some ys → AllBack m [] (λ us. no_accounts) b ys
  none_back m b ys g us s h = at_none us s (rw (← some_same [] ys g) at h)
    where
      at_none : (us : Accounts) (s : Shape) → TellsAll w ev m [] us s → (t : Shape) × TellsAll w ev m [] no_accounts t × Avoids b t × (s ≈ t)
      at_none us s tells_none = (empty, tells_none, tt, same)

  join_back : (m : Mode) (b : Block) (xs : Trees) (g : Accounts → Accounts) (p : Option (List Tree)) → ((ys : List Tree) → p ≡ Some ys → AllBack m (items xs) g b ys) → (y : Tree) → option_map (join_all m) p ≡ Some y
      → Back (Join m xs) (λ a. join_some m p a g) b y
  join_back m b xs g None f y e a s h = absurd (none-some y e)
  join_back m b xs g (Some ys) f y e a s h =
      let i = parts_back_tells w ev m ys a s (rw (← some_same (join_all m ys) y e) at h) in
      let j = f ys refl (parts_back m ys a) i.0 i.1 in
      (j.0, tells_parts j.1, j.2, on i.2 j.3)

  -- choices
  unless_among : (t : Bool) (y z : Tree) (ys zs : List Tree) → (Among z ys → Among z zs) → Among z (unless_same t y ys) → Among z (y ∷ zs)
  unless_among true y z ys zs f h = later (f h)
  unless_among false y z ys zs f first = first
  unless_among false y z ys zs f (later h) = later (f h)

  in_without : (x z : Tree) (ys : List Tree) → Among z (without x ys) → Among z ys
  in_without x z [] h = h
  in_without x z (y ∷ ys) h = unless_among (same_tree x y) y z (without x ys) ys (in_without x z ys) h

  in_distinct : (z : Tree) (ys : List Tree) → Among z (distinct ys) → Among z ys
  in_distinct z [] h = h
  in_distinct z (y ∷ ys) first = first
  in_distinct z (y ∷ ys) (later h) = later (in_distinct z ys (in_without y z (distinct ys) h))

  among_any : (z : Tree) (ys : List Tree) → Among z ys → list_any (same_tree z) ys ≡ true
  among_any z [] h = elim h [ ]
  among_any z (_ ∷ ys) first = ap (λ t. t || list_any (same_tree z) ys) (same_self z)
  among_any z (y ∷ ys) (later h) = go (same_tree z y) (among_any z ys h)
    where
      go : (t : Bool) → list_any (same_tree z) ys ≡ true → (t || list_any (same_tree z) ys) ≡ true
      go true e = refl
      go false e = e

  moved : (z y : Tree) → z ≡ y → (a : Account) (s : Shape) → Tells w ev z a s → Tells w ev y a s
  moved z y e a s h = rw e at h

  index_told : (zs : List Tree) (z : Tree) (a : Account) (s : Shape) → list_any (same_tree z) zs ≡ true → Tells w ev z a s → TellsOne w ev zs (index_in zs z) a s
  index_told [] z a s e h = cc
  index_told (y ∷ ys) z a s e h = go (same_tree z y) refl e (λ g. index_told ys z a s g h)
    where
      go : (t : Bool) → same_tree z y ≡ t → (t || list_any (same_tree z) ys) ≡ true → (list_any (same_tree z) ys ≡ true → TellsOne w ev ys (index_in ys z) a s) → TellsOne w ev (y ∷ ys) (cond t zero (suc (index_in ys z))) a s
      go true p e f = tells_this (moved z y (tree_is z y p) a s h)
      go false p e f = tells_that (f e)

  lone : (z y : Tree) → (same_tree z y || false) ≡ true → z ≡ y
  lone z y e = elim (or_cases (same_tree z y) false e) [ inl p ↦ tree_is z y p | inr p ↦ cc ]

  reopened_told : (y z : Tree) (a : Account) (s : Shape) → list_any (same_tree z) (open_choice y) ≡ true → Tells w ev z a s → Tells w ev y (reopened y z a) s
  reopened_told Nil z a s e h = moved z Nil (lone z Nil e) a s h
  reopened_told (Event f) z a s e h = moved z (Event f) (lone z (Event f) e) a s h
  reopened_told (Join m xs) z a s e h = moved z (Join m xs) (lone z (Join m xs) e) a s h
  reopened_told (Choice zs) z a s e h = tells_branch (index_told (items zs) z a s e h)
  reopened_told (Tied x q) z a s e h = moved z (Tied x q) (lone z (Tied x q) e) a s h
  reopened_told (Loop x lo hi r) z a s e h = moved z (Loop x lo hi r) (lone z (Loop x lo hi r) e) a s h
  reopened_told (Walk n f t c) z a s e h = moved z (Walk n f t c) (lone z (Walk n f t c) e) a s h

  -- a part of a choice with its account
  record TellsSome (xs : List Tree) (c : Account) (b : Block) (s : Shape) : Type 0 where
    index : ℕ
    account : Account
    pattern : Shape
    is : c ≡ of_branch index account
    tells : TellsOne w ev xs index account pattern
    avoids_it : Avoids b pattern
    same_as : s ≈ pattern

  abbrev SomeBack : List Tree → (Tree → Account → Account) → Block → List Tree → Type 0
  SomeBack xs f b zs = (z : Tree) → Among z zs → (a : Account) (s : Shape) → Tells w ev z a s → TellsSome xs (f z a) b s

  some_more : (b : Block) (x : Tree) (xs : List Tree) (r : Option Tree) (f : Account → Account) (g : Tree → Account → Account) (ys : List Tree)
      → ((y : Tree) → r ≡ Some y → Back x f b y) → SomeBack xs g b (open_choices ys)
      → SomeBack (x ∷ xs) (λ z a. first_or_later (opens_to r z) (f (reopened_some r z a)) (g z a)) b (open_choices (or_skip r ys))
  some_more b x xs None f g ys p q z i a s h = later_one (q z i a s h)
    where
      later_one : TellsSome xs (g z a) b s → TellsSome (x ∷ xs) (later_branch (g z a)) b s
      later_one t = record { index = suc t.index; account = t.account; pattern = t.pattern; is = ap later_branch t.is; tells = tells_that t.tells; avoids_it = t.avoids_it; same_as = t.same_as }
  some_more b x xs (Some y) f g ys p q z i a s h = by_test (list_any (same_tree z) (open_choice y)) refl
    where
      later_one : TellsSome xs (g z a) b s → TellsSome (x ∷ xs) (later_branch (g z a)) b s
      later_one t = record { index = suc t.index; account = t.account; pattern = t.pattern; is = ap later_branch t.is; tells = tells_that t.tells; avoids_it = t.avoids_it; same_as = t.same_as }

      by_test : (t : Bool) → list_any (same_tree z) (open_choice y) ≡ t → TellsSome (x ∷ xs) (first_or_later t (f (reopened y z a)) (g z a)) b s
      by_test true e = let j = p y refl (reopened y z a) s (reopened_told y z a s e h) in record { index = zero; account = f (reopened y z a); pattern = j.0; is = refl; tells = tells_this j.1; avoids_it = j.2; same_as = j.3 }
      by_test false e = later_one (q z (elim (stands_either (open_choice y) (open_choices ys) z i) [ inl u ↦ absurd (not_both (list_any (same_tree z) (open_choice y)) (among_any z (open_choice y) u) e) | inr u ↦ u ]) a s h)

  -- which part of a choice it is
  nth_told : (zs : List Tree) (i : ℕ) (a : Account) (s : Shape) → TellsOne w ev zs i a s → Among (nth_tree zs i) zs × Tells w ev (nth_tree zs i) a s
  nth_told (z ∷ zs) zero a s (tells_this h) = (first, h)
  nth_told (z ∷ zs) (suc i) a s (tells_that h) = let j = nth_told zs i a s h in (later j.0, j.1)
  nth_told [] i a s h = elim h [ ]

  some_of : (xs : Trees) (c : Account) (b : Block) (s : Shape) → TellsSome (items xs) c b s → (t : Shape) × Tells w ev (Choice xs) c t × Avoids b t × (s ≈ t)
  some_of xs c b s t = (t.pattern, rw t.is (tells_branch t.tells), t.avoids_it, t.same_as)

  choice_told : (b : Block) (xs : Trees) (f : Tree → Account → Account) (y : Tree) → (HasEmpty w y → HasEmpty w (Choice xs)) → (zs : List Tree) → SomeBack (items xs) f b zs → choice_form zs ≡ Some y → Back (Choice xs) (λ a. choice_back zs a f) b y
  choice_told b xs f y g [] q e a s h = absurd (none-some y e)
  choice_told b xs f y g (z ∷ []) q e a s h = some_of xs (f z a) b s (q z first a s (rw (← some_same z y e) at h))
  choice_told b xs f y g (z ∷ v ∷ zs) q e a s h = at_choice a s (rw (← i) at h)
    where
      i : Choice (trees (z ∷ v ∷ zs)) ≡ y
      i = some_same (Choice (trees (z ∷ v ∷ zs))) y e

      empty_choice : HasEmpty w (Choice (trees (z ∷ v ∷ zs))) → HasEmpty w (Choice xs)
      empty_choice h = g (rw i at h)

      at_choice : (a : Account) (s : Shape) → Tells w ev (Choice (trees (z ∷ v ∷ zs))) a s → (t : Shape) × Tells w ev (Choice xs) (branch_in (z ∷ v ∷ zs) a f) t × Avoids b t × (s ≈ t)
      at_choice a s (tells_nothing h) = (empty, tells_nothing (empty_choice h), tt, same)
      at_choice a s (tells_branch {i = n} {a = c} h) = let j = nth_told (z ∷ v ∷ zs) n c s (rw (items-trees zs) at h) in some_of xs (f (nth_tree (z ∷ v ∷ zs) n) c) b s (q (nth_tree (z ∷ v ∷ zs) n) j.0 c s j.1)

  -- ties
  named_agrees : (y : Tree) (q : List (ℕ × ℕ)) → ((j : ℕ) → InPairs j q → Shows w false y j) → (a : Account) (s : Shape) → Tells w ev y a s → Agree (kept_pairs (numbers y) q) q s
  named_agrees y q f a s h m n i j =
      let (t, p, e) = told w ev h in
      sym (agrees w false y q f t p m n ((occurs_same m e).from (occurs_named ev m s i)) ((occurs_same n e).from (occurs_named ev n s j)))

  as_tie : (y : Tree) (q r : List (ℕ × ℕ)) → ((a : Account) (s : Shape) → Tells w ev y a s → Agree r q s) → (a : Account) (s : Shape) → Tells w ev (bound_form y r) a s → (t : Shape) × Tells w ev (Tied y q) a t × (s ≈ t)
  as_tie y q [] f a s h = (bind s q, tells_tie h, on (back bind_none) (bind_as (f a s h)))
  as_tie y q (p ∷ r) f a s h = at_tie a s h
    where
      empty_below : (u : Shape) → HasPattern w false (Tied y (p ∷ r)) u → HasNoEvent u → HasEmpty w (Tied y q)
      empty_below u (holds_tie {s = v} i) nn = record { pattern = bind v q; has = holds_tie i; none = nn }

      at_tie : (a : Account) (s : Shape) → Tells w ev (Tied y (p ∷ r)) a s → (t : Shape) × Tells w ev (Tied y q) a t × (s ≈ t)
      at_tie a s (tells_tie {s = u} i) = (bind u q, tells_tie i, bind_as (f a u i))
      at_tie a s (tells_nothing i) = (empty, tells_nothing (empty_below i.pattern i.has i.none), same)

  pub tie_told : (y : Tree) (q : List (ℕ × ℕ)) → ((j : ℕ) → InPairs j q → Shows w false y j) → (a : Account) (s : Shape) → Tells w ev (tie_of y q) a s → (t : Shape) × Tells w ev (Tied y q) a t × (s ≈ t)
  tie_told y q f a s h = as_tie y q (kept_pairs (numbers y) q) (named_agrees y q f) a s h

  -- an account without events of what is below a tie
  below_tie : (x y : Tree) (q : List (ℕ × ℕ)) (f : Account → Account) (b : Block) → Back x f b y → Back (Tied x q) f b (Tied y q)
  below_tie x y q f b p a s (tells_tie h) = let i = p a _ h in (bind i.0 q, tells_tie i.1, i.2, in_bind i.3)
  below_tie x y q f b p a s (tells_nothing h) = go h.pattern h.has h.none
    where
      go : (u : Shape) → HasPattern w false (Tied y q) u → HasNoEvent u → (t : Shape) × Tells w ev (Tied x q) (f nothing) t × Avoids b t × (empty ≈ t)
      go u (holds_tie {s = v} i) nn =
          let j = p nothing empty (tells_nothing (record { pattern = v; has = i; none = nn })) in
          (bind j.0 q, tells_tie j.1, j.2, back (none_is_empty (bind j.0 q) ((no_event j.3).to tt)))

  tied_back : (b : Block) (x : Tree) (q : List (ℕ × ℕ)) (f : Account → Account) (r : Option Tree) → ((j : ℕ) → InPairs j q → (y : Tree) → r ≡ Some y → Shows w false y j) → ((y : Tree) → r ≡ Some y → Back x f b y)
      → (y : Tree) → option_map (λ y. tie_of y q) r ≡ Some y → Back (Tied x q) f b y
  tied_back b x q f None v p y e a s h = absurd (none-some y e)
  tied_back b x q f (Some z) v p y e a s h =
      let i = tie_told z q (λ j m. v j m z refl) a s (rw (← some_same (tie_of z q) y e) at h) in
      let j = below_tie x z q f b (p z refl) a i.0 i.1 in
      (j.0, j.1, j.2, on i.2 j.3)

  -- rows
  abbrev RowsBack : Tree → List Part → (RowAccount → RowAccount) → Block → List Part → Type 0
  RowsBack x ps f b qs = (rb : RowAccount) (n : ℕ) (s : Shape) → TellsRow w ev x qs rb n s → (t : Shape) × TellsRow w ev x ps (f rb) n t × Avoids b t × (s ≈ t)

  row_end : (x : Tree) (b : Block) (qs : List Part) → Some [] ≡ Some qs → RowsBack x [] (λ rb. rb) b qs
  row_end x b qs e rb n s h = at_end rb n s (rw (← some_same [] qs e) at h)
    where
      at_end : (rb : RowAccount) (n : ℕ) (s : Shape) → TellsRow w ev x [] rb n s → (t : Shape) × TellsRow w ev x [] rb n t × Avoids b t × (s ≈ t)
      at_end rb n s tells_over = (empty, tells_over, tt, same)

  at_gap : (x : Tree) (b : Block) (c d : List ℕ) (ps qs : List Part) (g : RowAccount → RowAccount) → ((a : Account) (s : Shape) → Tells w ev x a s → Avoids (only d) s → Avoids (only c) s × Avoids b s) → RowsBack x ps g b qs
      → RowsBack x (Gap c ∷ ps) (λ rb. put_gap rb g) b (Gap d ∷ qs)
  at_gap x b c d ps qs g f p rb n s (tells_shut r) = let i = p _ n s r in (i.0, tells_shut i.1, i.2, i.3)
  at_gap x b c d ps qs g f p rb (suc n) s (tells_more {s = u} h av r) =
      let i = at_gap x b c d ps qs g f p _ n _ r in
      let j = f _ u h av in
      (join seq u i.0, tells_more h j.0 i.1, (j.1, i.2), in_join same i.3)

  wide : (x : Tree) (b : Block) → IsFree k node false b x → (c : List ℕ) (a : Account) (s : Shape) → Tells w ev x a s → Avoids (only (c ∪ b.instances)) s → Avoids (only c) s × Avoids b s
  wide x b f c a s h av = let p = (both_avoids c b.instances s).to av in (p.0, free_told b x f a s h p.1)

  gap_back : (x : Tree) (b : Block) → IsFree k node false b x → (c : List ℕ) (ps : List Part) (g : RowAccount → RowAccount) (r : Option (List Part)) → ((qs : List Part) → r ≡ Some qs → RowsBack x ps g b qs) → (qs : List Part) → wider c r b.instances ≡ Some qs
      → RowsBack x (Gap c ∷ ps) (λ rb. put_gap rb g) b qs
  gap_back x b f c ps g None p qs e rb n s h = absurd (none-some qs e)
  gap_back x b f c ps g (Some rs) p qs e rb n s h = at_gap x b c (c ∪ b.instances) ps rs g (wide x b f c) (p rs refl) rb n s (rw (← some_same (Gap (c ∪ b.instances) ∷ rs) qs e) at h)

  at_turn : (x y z : Tree) (b : Block) (ps qs : List Part) (f : Account → Account) (g : RowAccount → RowAccount) → Back y f b z → RowsBack x ps g b qs → RowsBack x (Turn y ∷ ps) (λ rb. put_begun rb f g) b (Turn z ∷ qs)
  at_turn x y z b ps qs f g p q rb n s (tells_turn h r) = let i = p _ _ h in let j = q _ n _ r in (join seq i.0 j.0, tells_turn i.1 j.1, (i.2, j.2), in_join i.3 j.3)

  turn_back : (x y : Tree) (b : Block) (ps : List Part) (f : Account → Account) (g : RowAccount → RowAccount) (t : Option Tree) (r : Option (List Part)) → ((z : Tree) → t ≡ Some z → Back y f b z) → ((qs : List Part) → r ≡ Some qs → RowsBack x ps g b qs)
      → (qs : List Part) → with_turn t r ≡ Some qs → RowsBack x (Turn y ∷ ps) (λ rb. put_begun rb f g) b qs
  turn_back x y b ps f g None r p q qs e rb n s h = absurd (none-some qs e)
  turn_back x y b ps f g (Some z) None p q qs e rb n s h = absurd (none-some qs e)
  turn_back x y b ps f g (Some z) (Some rs) p q qs e rb n s h = at_turn x y z b ps rs f g (p z refl) (q rs refl) rb n s (rw (← some_same (Turn z ∷ rs) qs e) at h)

  -- a row has the gaps that it had
  gap_stays : (b : Block) (r : Row) (qs : List Part) → permit_row k b r ≡ Some qs → HasGap qs → HasGap (parts r)
  gap_stays b ends qs e h = let g : [] ≡ qs = some_same [] qs e in rw (← g) at h
  gap_stays b (gap c r) qs e h = tt
  gap_stays b (turn y r) qs e h = go (permit k b y) (permit_row k b r) e (λ us g i. gap_stays b r us g i)
    where
      go : (t : Option Tree) (p : Option (List Part)) → with_turn t p ≡ Some qs → ((us : List Part) → p ≡ Some us → HasGap us → HasGap (parts r)) → HasGap (parts r)
      go None p e f = absurd (none-some qs e)
      go (Some z) None e f = absurd (none-some qs e)
      go (Some z) (Some us) e f = let g : Turn z ∷ us ≡ qs = some_same (Turn z ∷ us) qs e in f us refl (rw (← g) at h)

  abbrev operand_left : Tree → List ℕ → Option Tree
  operand_left x c = permit k (only c) x

  operand_leaves : (x : Tree) → IsRegular k node false x → (c : List ℕ) → Leaves w false (only c) x (operand_left x c)
  operand_leaves x h c = permit_law k node false x h (only c) (only_fits k node false c x)

  operand_ease : (x : Tree) → IsRegular k node false x → (c : List ℕ) (a : Account) (s : Shape) → Tells w ev x a s → Avoids (only (cut (touch k.spread x) c)) s → Avoids (only c) s
  operand_ease x h c = eased w ev x (cut (touch k.spread x) c) c (λ s a. (touched k node false x h c s a).to)

  pub loop_of_told : (x : Tree) → IsRegular k node false x → (lo : ℕ) (hi : Option ℕ) (ps : List Part) (z : Tree) → loop_of (operand_left x) (touch k.spread x) x lo hi ps ≡ Some z → (a : Account) (s : Shape) → Tells w ev z a s
      → TellsCounted w ev x lo hi ps (loop_back (operand_left x) (touch k.spread x) hi ps a) s
  loop_of_told x h lo hi ps z e a s i = loop_told w ev x (operand_left x) (operand_leaves x h) (touch k.spread x) (operand_ease x h) lo hi ps z e a s i

  row_back_told : (b : Block) (x : Tree) → IsRegular k node false x → (lo : ℕ) (hi : Option ℕ) → UpTo hi lo → (r : Row) (g : RowAccount → RowAccount) (p : Option (List Part))
      → ((qs : List Part) → p ≡ Some qs → RowsBack x (parts r) g b qs) → ((qs : List Part) → p ≡ Some qs → HasGap qs → HasGap (parts r))
      → (y : Tree) → turns_in (operand_left x) (touch k.spread x) x lo hi p ≡ Some y → Back (Loop x lo hi r) (λ a. loop_some (operand_left x) (touch k.spread x) hi p a g) b y
  row_back_told b x h lo hi u r g None f v y e a s i = absurd (none-some y e)
  row_back_told b x h lo hi u r g (Some ps) f v y e a s i =
      let c = loop_of_told x h lo hi ps y e a s i in
      let j = f ps refl (loop_back (operand_left x) (touch k.spread x) hi ps a) c.turns c.pattern c.tells in
      (j.0, tells_row {r = r} c.turns u j.1 c.upper (elim c.lower [ inl l ↦ inl l | inr l ↦ inr (v ps refl l.0, l.1) ]), j.2, on c.same_as j.3)

  -- walks
  walk_form_is : (a c : Bool) (x y : Tree) → walk_form a c x ≡ Some y → (y ≡ Nil) ⊎ (y ≡ x)
  walk_form_is false c x y e = absurd (none-some y e)
  walk_form_is true true x y e = inl (sym (some_same Nil y e))
  walk_form_is true false x y e = inr (sym (some_same x y e))

  walk_is : (n : ℕ) (f : Spot) (t : Goal) (c : List ℕ) (y : Tree) → walk_of k n f t c ≡ Some y → (y ≡ Nil) ⊎ (y ≡ Walk n f t (cut (k.spread n) c))
  walk_is n f Any c y e = inr (sym (some_same (Walk n f Any (cut (k.spread n) c)) y e))
  walk_is n f End c y e = let d = cut (k.spread n) c in walk_form_is (reach (k.net n) (allowed k n d) f End) (are_nil k n f End d (allowed k n d)) (Walk n f End d) y e
  walk_is n f (To m) c y e = let d = cut (k.spread n) c in walk_form_is (reach (k.net n) (allowed k n d) f (To m)) (are_nil k n f (To m) d (allowed k n d)) (Walk n f (To m) d) y e

  -- a walk with a block that may be wider
  pub widened : (n : ℕ) → IsExactNet k node false n → (b : Block) (c d : List ℕ) → ((m : ℕ) → IsIn m (k.nodes n) → (a : Account) (s : Shape) → Tells w ev (node n m) a s → Avoids (only d) s → Avoids (only c) s × Avoids b s) → (f : Spot) (t : Goal) (v : Visits) (s : Shape) → TellsWalk w ev n f t d v s → TellsWalk w ev n f t c v s × Avoids b s
  widened n fine b c d g f t v s (tells_arrived m i a) = (tells_arrived m i a, tt)
  widened n fine b c d g f t v s (tells_visit m {a = a} {s = u} i h av r) =
      let q = g m (fine.within f m i) a u h av in
      let j = widened n fine b c d g (At m) t _ _ r in
      (tells_visit m i h q.0 j.0, (q.1, j.1))

  node_wide : (n : ℕ) → IsExactNet k node false n → (b : Block) → ((m : ℕ) → IsIn m (k.nodes n) → IsFree k node false b (node n m)) → (c : List ℕ) (m : ℕ) → IsIn m (k.nodes n) → (a : Account) (s : Shape) → Tells w ev (node n m) a s → Avoids (only (cut (k.spread n) (c ∪ b.instances))) s → Avoids (only c) s × Avoids b s
  node_wide n fine b free c m l a s h av = wide (node n m) b (free m l) c a s h (eased w ev (node n m) (cut (k.spread n) (c ∪ b.instances)) (c ∪ b.instances) (λ u g. (cut_avoids (k.spread n) (c ∪ b.instances) u (fine.inside m l u g)).to) a s h av)

  walk_back_told : (b : Block) (n : ℕ) (f : Spot) (t : Goal) (c : List ℕ) → IsExactNet k node false n → ((m : ℕ) → IsIn m (k.nodes n) → IsFree k node false b (node n m)) → (y : Tree) → (HasEmpty w y → HasEmpty w (Walk n f t c)) → walk_of k n f t (c ∪ b.instances) ≡ Some y → Back (Walk n f t c) (λ a. a) b y
  walk_back_told b n f t c fine free y g e a s h = elim (walk_is n f t (c ∪ b.instances) y e) [ inl i ↦ at_nil i a s h | inr i ↦ at_walk a s i (rw i at h) ]
    where
      at_nil : y ≡ Nil → (a : Account) (s : Shape) → Tells w ev y a s → (u : Shape) × Tells w ev (Walk n f t c) a u × Avoids b u × (s ≈ u)
      at_nil i a s h = from_nil a s (rw i at h)
        where
          from_nil : (a : Account) (s : Shape) → Tells w ev Nil a s → (u : Shape) × Tells w ev (Walk n f t c) a u × Avoids b u × (s ≈ u)
          from_nil a s (tells_nothing j) = (empty, tells_nothing (g (rw i j)), tt, same)

      at_walk : (a : Account) (s : Shape) → y ≡ Walk n f t (cut (k.spread n) (c ∪ b.instances)) → Tells w ev (Walk n f t (cut (k.spread n) (c ∪ b.instances))) a s → (u : Shape) × Tells w ev (Walk n f t c) a u × Avoids b u × (s ≈ u)
      at_walk a s i (tells_walk {v = v} j) = let p = widened n fine b c (cut (k.spread n) (c ∪ b.instances)) (node_wide n fine b free c) f t v s j in (s, tells_walk p.0, p.1, same)
      at_walk a s i (tells_nothing j) = (empty, tells_nothing (g (rw i j)), tt, same)

  pub walk_of_told : (n : ℕ) (f : Spot) (t : Goal) (c : List ℕ) → IsExactNet k node false n → (y : Tree) → walk_of k n f t c ≡ Some y → (a : Account) (s : Shape) → Tells w ev y a s → (u : Shape) × Tells w ev (Walk n f t c) a u × (s ≈ u)
  walk_of_told n f t c fine y e a s h =
      let i = walk_back_told (only []) n f t c fine (λ m l s a h. h) y (empty_left (only []) (Walk n f t c) y (permit_law k node false (Walk n f t c) fine (only []) (only_fits k node false [] (Walk n f t c))) e) e a s h in
      (i.0, i.1, i.3)

  -- where permission leaves a term as it is
  itself : (x y : Tree) (r : Option Tree) → r ≡ Some y → is_itself x r ≡ true → y ≡ x
  itself x y None e h = cc
  itself x y (Some z) e h = rw (← some_same z y e) (tree_is z x h)

  left_avoids : (b : Block) (x y : Tree) → Leaves w false b x (permit k b x) → permit k b x ≡ Some y → y ≡ x → (a : Account) (s : Shape) → Tells w ev x a s → Avoids b s
  left_avoids b x y l e i a s h =
      let (t, p, f) = told w ev h in
      let g = rw e at (l.sound) in
      let j = g t (rw i p) in
      (avoids_named ev b s).to ((avoids b f).to ((avoids b j.2).from j.1.1))

  nothing_told : {y : Tree} {s : Shape} → Tells w ev y nothing s → HasEmpty w y × HasNoEvent s
  nothing_told (tells_nothing h) = (h, tt)
  nothing_told (tells_tie {q = q} h) = let (g, n) = nothing_told h in (record { pattern = bind g.pattern q; has = holds_tie g.has; none = g.none }, n)

  unless_stays_told : (b : Block) (x y : Tree) (t : Bool) → (t ≡ true → y ≡ x) → Leaves w false b x (permit k b x) → permit k b x ≡ Some y → (f : Account → Account) → Back x f b y → Back x (λ a. unless_stays t a (f a)) b y
  unless_stays_told b x y true i l e f p a s h = let g = moved y x (i refl) a s h in (s, g, left_avoids b x y l e (i refl) a s g, same)
  unless_stays_told b x y false i l e f p nothing s h = let (g, n) = nothing_told h in (empty, tells_nothing (empty_left b x y l e g), tt, none_is_empty s n)
  unless_stays_told b x y false i l e f p (at_place n) s h = p (at_place n) s h
  unless_stays_told b x y false i l e f p (of_parts us) s h = p (of_parts us) s h
  unless_stays_told b x y false i l e f p (of_branch n a) s h = p (of_branch n a) s h
  unless_stays_told b x y false i l e f p (of_row r) s h = p (of_row r) s h
  unless_stays_told b x y false i l e f p (of_walk v) s h = p (of_walk v) s h

  staying_told : (b : Block) (x y : Tree) → IsRegular k node false x → Fits k node false b x → permit k b x ≡ Some y → (f : Account → Account) → Back x f b y → Back x (λ a. unless_stays (stays k b x) a (f a)) b y
  staying_told b x y h g e f p =
      unless_stays_told b x y (stays k b x) (λ t. itself x y (permit k b x) e (and_parts (misses (record { instances = b.instances; events = b.numbers }) x) (is_itself x (permit k b x)) t).1) (permit_law k node false x h b g) e f p

  mutual
    pub permit_told : (x : Tree) → IsRegular k node false x → (b : Block) → Fits k node false b x → (y : Tree) → permit k b x ≡ Some y → Back x (permit_back k b x) b y
    permit_told Nil h b g y e = nil_back b y e
    permit_told (Event f) h b g y e = event_back b f (hits b f) refl y e
    permit_told (Join m xs) h b g y e = staying_told b (Join m xs) y h g e (λ a. join_some m (permit_all k b xs) a (all_back k b xs)) (join_back m b xs (all_back k b xs) (permit_all k b xs) (λ ys i. all_told m xs h b g ys i) y e)
    permit_told (Choice xs) h b g y e =
        staying_told b (Choice xs) y h g e (λ a. choice_back (distinct (open_choices (permit_some k b xs))) a (some_back k b xs))
        (choice_told b xs (some_back k b xs) y (empty_left b (Choice xs) y (permit_law k node false (Choice xs) h b g) e) (distinct (open_choices (permit_some k b xs)))
        (λ z i. some_told xs h b g z (in_distinct z (open_choices (permit_some k b xs)) i)) e)
    permit_told (Tied x q) h b g y e = staying_told b (Tied x q) y h g e (permit_back k b x) (tied_back b x q (permit_back k b x) (permit k b x) (λ j i z d. h.1 j i b z d) (λ z i. permit_told x h.0 b g z i) y e)
    permit_told (Loop x lo hi r) h b g y e =
        staying_told b (Loop x lo hi r) y h g e (λ a. loop_some (operand_left x) (touch k.spread x) hi (permit_row k b r) a (gaps_back k b r))
        (row_back_told b x h.0 lo hi h.2 r (gaps_back k b r) (permit_row k b r) (λ qs i. row_told x r h.1 b g.0 g.1 qs i) (gap_stays b r) y e)
    permit_told (Walk n f t c) h b g y e = walk_back_told b n f t c h g y (empty_left b (Walk n f t c) y (permit_law k node false (Walk n f t c) h b g) e) e

    all_told : (m : Mode) (xs : Trees) → AreRegular k node false xs → (b : Block) → FitsAll k node false b xs → (ys : List Tree) → permit_all k b xs ≡ Some ys → AllBack m (items xs) (all_back k b xs) b ys
    all_told m none h b g ys e = none_back m b ys e
    all_told m (more x xs) h b g ys e =
        let (z, zs, p, q, r) = two_some (permit k b x) (permit_all k b xs) ys e in
        more_back m b x (items xs) (permit_back k b x) (all_back k b xs) z zs ys r (permit_told x h.0 b g.0 z p) (all_told m xs h.1 b g.1 zs q)

    some_told : (xs : Trees) → AreRegular k node false xs → (b : Block) → FitsAll k node false b xs → SomeBack (items xs) (some_back k b xs) b (open_choices (permit_some k b xs))
    some_told none h b g z i a s t = elim i [ ]
    some_told (more x xs) h b g z i a s t = some_more b x (items xs) (permit k b x) (permit_back k b x) (some_back k b xs) (permit_some k b xs) (λ y e. permit_told x h.0 b g.0 y e) (some_told xs h.1 b g.1) z i a s t

    row_told : (x : Tree) (r : Row) → IsRegularRow k node false r → (b : Block) → IsFree k node false b x → FitsRow k node false b r → (qs : List Part) → permit_row k b r ≡ Some qs → RowsBack x (parts r) (gaps_back k b r) b qs
    row_told x ends h b f g qs e = row_end x b qs e
    row_told x (gap c r) h b f g qs e = gap_back x b f c (parts r) (gaps_back k b r) (permit_row k b r) (λ us i. row_told x r h b f g us i) qs e
    row_told x (turn y r) h b f g qs e = turn_back x y b (parts r) (permit_back k b y) (gaps_back k b r) (permit k b y) (permit_row k b r) (λ z i. permit_told y h.0 b g.0 z i) (λ us i. row_told x r h.1 b f g.1 us i) qs e
