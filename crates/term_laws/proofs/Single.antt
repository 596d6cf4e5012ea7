-- Terms in which each label stands at one place, but for the begun turns of a loop without choices and loops: permission and taking keep
-- them so.
use Rattle.std.specs.Option.{option_map}
use Rattle.std.specs.Prelude.{ℕ, zero, suc, ◌<◌, ◌==◌, Bool, true, false, List, [], ◌∷◌, ◌≡◌, ◌⊎◌, ◌||◌, Option, Some, None, refl}
use Rattle.std.proofs.Common.{ap, ◌∙◌, inl, inr}
use Rattle.std.proofs.lemmas.Bool.{eqb-true}
use Rattle.msc_base.specs.Patterns.{Mode, seq, par}
use Rattle.list_facts.proofs.Bools.{or_true}
use Rattle.chart_term.specs.NormalForms.{NetPermits, only, cut, open_part, flat, join_of, join_all, and_then, or_skip, unless, open_choice, open_choices, distinct, choice_form, choice_of, bound_form, tie_of, kept_pairs, numbers, cut_gaps, drop_nil, at_zero, live, drop_free, has_free, lower_of, thin, has_gap, begun, turns_form, loop_of, turns_in}
use Rattle.chart_term.specs.Properties.{Each, EachTurn, MayHave, Every, EveryOf}
use Rattle.chart_term.specs.TermPatterns.{instances_of, earlier, some_list}
use Rattle.chart_term.specs.Terms.{TermEvent, Block, has, has_some, hits, Tree, Nil, Event, Join, Choice, Tied, Loop, Walk, Trees, none, more, Row, ends, gap, turn, items, trees, Part, Gap, Turn, parts, row_of, weight, ◌∪◌}
use Rattle.chart_term.proofs.Instances.{has_self, has_left, has_right, has_union, cut_into}
use Rattle.chart_term.proofs.Lists.{items-trees}
use Rattle.chart_term.proofs.Looping.{IsSubRow, sub_end, sub_gap, sub_drop, sub_turn, sub_over, sub_nil, sub_zero, sub_live, sub_free}
use Rattle.chart_term.specs.Spreads.{touch, touch_all}
use Rattle.term_laws.specs.Permission.{permit, permit_all, permit_some, permit_row, with_turn}
use Rattle.term_laws.specs.Taking.{Stays, fewer, down, IsAfter, after_event, after_choice, after_join, after_tied, after_loop, after_walk, IsAfterOne, first_one, later_one, IsAfterJoin, first_part, later_part, IsAfterRow, in_turn, in_gap, past_turn, past_gap}
use Rattle.term_laws.proofs.Apart.{Apart, AllApart, Fewer, fewer_self, permit_fewer, after_fewer, Thins, thin_end, thin_keep, thin_skip, thins_self, apart_thins, flat_apart, choices_apart, distinct_thins}
use Rattle.term_laws.proofs.Everywhere.{permit_every}
use Rattle.term_laws.proofs.Keeping.{AliveAt, AliveGaps, alive_sub, alive_live, each_turn_sub, each_turn_cut, sub_thin}
use Rattle.term_laws.proofs.Numbers.{has_either}
use Rattle.term_laws.proofs.Steady.{Plain, PlainAll, plain_sure, permit_plain, after_plain, taken_every}
use Rattle.term_laws.proofs.Opening.{each_flat, each_choices, each_distinct}

-- nothing stands behind a gap
abbrev pub IsEnd : Row → Type 0
IsEnd ends = Unit {0}
IsEnd (gap c r) = ⊥
IsEnd (turn x r) = ⊥

-- m: more than any loop operand weighs
module _ (m : ℕ) where
  abbrev mutual
    pub Single : Tree → Type 0
    Single Nil = Unit {0}
    Single (Event e) = Unit {0}
    Single (Join n xs) = SingleAll xs × AllApart n (items xs)
    Single (Choice xs) = SingleAll xs × AllApart par (items xs)
    Single (Tied x q) = Single x
    Single (Loop x lo hi r) = (Plain x × Single x) × SingleRow r × (weight x < m)
    Single (Walk n f t c) = ⊥

    pub SingleAll : Trees → Type 0
    SingleAll none = Unit {0}
    SingleAll (more x xs) = Single x × SingleAll xs

    pub SingleRow : Row → Type 0
    SingleRow ends = Unit {0}
    SingleRow (gap c r) = IsEnd r
    SingleRow (turn x r) = (Plain x × Single x) × SingleRow r

  abbrev pub Begun : Tree → Type 0
  Begun x = Plain x × Single x

  single_in : (xs : List Tree) → Each Single xs → SingleAll (trees xs)
  single_in [] h = tt
  single_in (x ∷ xs) h = (h.0, single_in xs h.1)

  pub single_out : (xs : Trees) → SingleAll xs → Each Single (items xs)
  single_out none h = tt
  single_out (more x xs) h = (h.0, single_out xs h.1)

  -- joins

  open_apart : (n : Mode) (x : Tree) → Single x → AllApart n (open_part n x)
  open_apart n Nil h = tt
  open_apart seq (Join seq xs) h = h.1
  open_apart seq (Join par xs) h = (tt, tt)
  open_apart par (Join seq xs) h = (tt, tt)
  open_apart par (Join par xs) h = h.1
  open_apart n (Event e) h = (tt, tt)
  open_apart n (Choice xs) h = (tt, tt)
  open_apart n (Tied x q) h = (tt, tt)
  open_apart n (Loop x lo hi r) h = (tt, tt)
  open_apart n (Walk i f t c) h = (tt, tt)

  each_open : (n : Mode) (xs : List Tree) → Each Single xs → Each (λ x. AllApart n (open_part n x)) xs
  each_open n [] h = tt
  each_open n (x ∷ xs) h = (open_apart n x h.0, each_open n xs h.1)

  flat_single : (n : Mode) (xs : List Tree) → Each Single xs → Each Single (flat n xs)
  flat_single n xs h = each_flat Single n (λ ys i. single_out ys i.0) xs h

  of_single : (n : Mode) (xs : List Tree) → Each Single xs → AllApart n xs → Single (join_of n xs)
  of_single n [] h a = tt
  of_single n (x ∷ []) h a = h.0
  of_single n (x ∷ y ∷ ys) h a = (single_in (x ∷ y ∷ ys) h, apart_trees n (x ∷ y ∷ ys) a)
    where
      apart_trees : (n : Mode) (xs : List Tree) → AllApart n xs → AllApart n (items (trees xs))
      apart_trees n xs a = rw (items-trees xs) a

  pub join_single : (n : Mode) (xs : List Tree) → Each Single xs → AllApart n xs → Single (join_all n xs)
  join_single n xs h a = of_single n (flat n xs) (flat_single n xs h) (flat_apart n xs (each_open n xs h) a)

  -- choices

  opened_apart : (x : Tree) → Single x → AllApart par (open_choice x)
  opened_apart (Choice xs) h = h.1
  opened_apart Nil h = (tt, tt)
  opened_apart (Event e) h = (tt, tt)
  opened_apart (Join n xs) h = (tt, tt)
  opened_apart (Tied x q) h = (tt, tt)
  opened_apart (Loop x lo hi r) h = (tt, tt)
  opened_apart (Walk i f t c) h = (tt, tt)

  each_opened : (xs : List Tree) → Each Single xs → Each (λ x. AllApart par (open_choice x)) xs
  each_opened [] h = tt
  each_opened (x ∷ xs) h = (opened_apart x h.0, each_opened xs h.1)

  choices_single : (xs : List Tree) → Each Single xs → Each Single (open_choices xs)
  choices_single xs h = each_choices Single (λ ys i. single_out ys i.0) xs h

  form_single : (xs : List Tree) → Each Single xs → AllApart par xs → MayHave Single (choice_form xs)
  form_single [] h a = tt
  form_single (x ∷ []) h a = h.0
  form_single (x ∷ y ∷ ys) h a = (single_in (x ∷ y ∷ ys) h, apart_trees (x ∷ y ∷ ys) a)
    where
      apart_trees : (xs : List Tree) → AllApart par xs → AllApart par (items (trees xs))
      apart_trees xs a = rw (items-trees xs) a

  pub choice_single : (xs : List Tree) → Each Single xs → AllApart par xs → MayHave Single (choice_of xs)
  choice_single xs h a =
      form_single (distinct (open_choices xs)) (each_distinct Single (open_choices xs) (choices_single xs h)) (apart_thins par (distinct_thins (open_choices xs)) (choices_apart xs (each_opened xs h) a))

  -- ties
  tie_single : (x : Tree) (q : List (ℕ × ℕ)) → Single x → Single (bound_form x q)
  tie_single x [] h = h
  tie_single x (p ∷ q) h = h

  bound_single : (x : Tree) (q : List (ℕ × ℕ)) → Single x → Single (tie_of x q)
  bound_single x q h = tie_single x (kept_pairs (numbers x) q) h

  pub single_some : (r : Option Tree) (y : Tree) → r ≡ Some y → MayHave Single r → Single y
  single_some r y e h = rw e at h

  -- nothing stands behind the gap, or it holds back an instance of the operand
  abbrev pub IsLast : List Part → Type 0
  IsLast [] = Unit {0}
  IsLast (p ∷ ps) = ⊥

  abbrev Holds : List ℕ → List ℕ → Type 0
  Holds all c = (n : ℕ) × (has all n ≡ true) × (has c n ≡ true)

  abbrev Settled : List ℕ → List Part → Type 0
  Settled all [] = Unit {0}
  Settled all (Gap c ∷ ps) = (IsLast ps ⊎ Holds all c) × Settled all ps
  Settled all (Turn x ∷ ps) = Settled all ps

  last_sub : {ps qs : List Part} → IsSubRow qs ps → IsLast ps → IsLast qs
  last_sub sub_end h = tt
  last_sub (sub_gap s) h = absurd h
  last_sub (sub_drop s) h = absurd h
  last_sub (sub_turn s) h = absurd h
  last_sub (sub_over s) h = absurd h

  settled_sub : (all : List ℕ) {ps qs : List Part} → IsSubRow qs ps → Settled all ps → Settled all qs
  settled_sub all sub_end h = tt
  settled_sub all (sub_gap {c = c} {ps = ps} {qs = qs} s) h = (go h.0, settled_sub all s h.1)
    where
      go : IsLast qs ⊎ Holds all c → IsLast ps ⊎ Holds all c
      go (inl i) = inl (last_sub s i)
      go (inr i) = inr i
  settled_sub all (sub_drop s) h = settled_sub all s h.1
  settled_sub all (sub_turn s) h = settled_sub all s h
  settled_sub all (sub_over s) h = settled_sub all s h

  settled_cut : (all : List ℕ) (ps : List Part) → Settled all ps → Settled all (cut_gaps all ps)
  settled_cut all [] h = tt
  settled_cut all (Gap c ∷ ps) h = (go h.0, settled_cut all ps h.1)
    where
      last : (ps : List Part) → IsLast ps → IsLast (cut_gaps all ps)
      last [] i = tt
      last (p ∷ ps) i = absurd i

      go : IsLast ps ⊎ Holds all c → IsLast (cut_gaps all ps) ⊎ Holds all (cut all c)
      go (inl i) = inl (last ps i)
      go (inr (n, a, b)) = inr (n, a, cut_into all c n a b)
  settled_cut all (Turn x ∷ ps) h = settled_cut all ps h

  has_same : (c : List ℕ) (i n : ℕ) → (i == n) ≡ true → has c n ≡ true → has c i ≡ true
  has_same c i n e h = let p : i ≡ n = eqb-true i n e in rw p h

  hit_by : (c : List ℕ) (n at : ℕ) (o : Option ℕ) → has (at ∷ some_list o) n ≡ true → has c n ≡ true → ((has c at || has_some c o) || false) ≡ true
  hit_by c n at None h i = go (at == n) refl h
    where
      go : (t : Bool) → (at == n) ≡ t → (t || false) ≡ true → ((has c at || false) || false) ≡ true
      go true e h = let p : has c at ≡ true = has_same c at n e i in rw p refl
      go false e h = cc
  hit_by c n at (Some k) h i = go (at == n) (k == n) refl refl h
    where
      go : (t u : Bool) → (at == n) ≡ t → (k == n) ≡ u → (t || (u || false)) ≡ true → ((has c at || has c k) || false) ≡ true
      go true u e f h = let p : has c at ≡ true = has_same c at n e i in rw p refl
      go false true e f h = let p : has c k ≡ true = has_same c k n f i in rw p (rw (or_true (has c at)) refl)
      go false false e f h = cc

  module _ (k : NetPermits) where
    -- a block that holds an instance of a plain term holds the term back
    and_fails : (r : Option Tree) (p : Option (List Tree)) → p ≡ None → and_then r p ≡ None
    and_fails None p e = refl
    and_fails (Some x) p e = rw e refl

    first_fails : (r : Option Tree) (p : Option (List Tree)) → r ≡ None → and_then r p ≡ None
    first_fails r p e = rw e refl

    join_fails : (n : Mode) (p : Option (List Tree)) → p ≡ None → option_map (join_all n) p ≡ None
    join_fails n p e = rw e refl

    mutual
      plain_held : (c : List ℕ) (i : ℕ) → has c i ≡ true → (x : Tree) → Plain x → has (touch k.spread x) i ≡ true → permit k (only c) x ≡ None
      plain_held c i g Nil h t = cc
      plain_held c i g (Event e) h t = ap (λ u. unless u (Event e)) (hit_by c i e.at e.also t g)
      plain_held c i g (Join n xs) h t = join_fails n (permit_all k (only c) xs) (plains_held c i g xs h t)
      plain_held c i g (Choice xs) h t = absurd h
      plain_held c i g (Tied x q) h t = ap (option_map (λ y. tie_of y q)) (plain_held c i g x h t)
      plain_held c i g (Loop x lo hi r) h t = absurd h
      plain_held c i g (Walk n f u d) h t = absurd h

      plains_held : (c : List ℕ) (i : ℕ) → has c i ≡ true → (xs : Trees) → PlainAll xs → has (touch_all k.spread xs) i ≡ true → permit_all k (only c) xs ≡ None
      plains_held c i g none h t = cc
      plains_held c i g (more x xs) h t =
          elim (has_either (touch k.spread x) (touch_all k.spread xs) i t) [
            | inl p ↦ first_fails (permit k (only c) x) (permit_all k (only c) xs) (plain_held c i g x h.0 p)
            | inr p ↦ and_fails (permit k (only c) x) (permit_all k (only c) xs) (plains_held c i g xs h.1 p)
          ]

    -- the instance of each event of a plain term is one that the term touches
    mutual
      touched : (all : List ℕ) (x : Tree) → Plain x → ((n : ℕ) → has (touch k.spread x) n ≡ true → has all n ≡ true) → Every (λ f. has all f.at ≡ true) (λ n. ⊥) x
      touched all Nil h f = tt
      touched all (Event e) h f = f e.at (has_self e.at (some_list e.also))
      touched all (Join n xs) h f = all_touched all xs h f
      touched all (Choice xs) h f = absurd h
      touched all (Tied x q) h f = touched all x h f
      touched all (Loop x lo hi r) h f = absurd h
      touched all (Walk n g t c) h f = absurd h

      all_touched : (all : List ℕ) (xs : Trees) → PlainAll xs → ((n : ℕ) → has (touch_all k.spread xs) n ≡ true → has all n ≡ true) → EveryOf (λ f. has all f.at ≡ true) (λ n. ⊥) xs
      all_touched all none h f = tt
      all_touched all (more x xs) h f =
          (touched all x h.0 (λ n i. f n (has_left (touch k.spread x) (touch_all k.spread xs) n i)), all_touched all xs h.1 (λ n i. f n (has_right (touch k.spread x) (touch_all k.spread xs) n i)))

    every_some : (E : TermEvent → Type 0) (r : Option Tree) (y : Tree) → r ≡ Some y → MayHave (Every E (λ n. ⊥)) r → Every E (λ n. ⊥) y
    every_some E r y e h = rw e at h

    -- what is left of the operand of a loop touches its instances
    gap_holds : (x y z : Tree) (c : List ℕ) (e : TermEvent) → Plain x → permit k (only c) x ≡ Some y → IsAfter k y e z → Holds (touch k.spread x) (c ∪ (instances_of e).instances)
    gap_holds x y z c e h p a = (
      e.at,
      taken_every k (λ f. has (touch k.spread x) f.at ≡ true) a
          (every_some (λ f. has (touch k.spread x) f.at ≡ true) (permit k (only c) x) y p (permit_every (λ f. has (touch k.spread x) f.at ≡ true) (λ n. ⊥) k (only c) x (touched (touch k.spread x) x h (λ n i. i)))),
      own c e,
    )
      where
        own : (c : List ℕ) (e : TermEvent) → has (c ∪ (instances_of e).instances) e.at ≡ true
        own c e = let p : has (instances_of e).instances e.at ≡ true = has_self e.at (some_list e.also) in has_union c (instances_of e).instances e.at ∙ rw p (or_true (has c e.at))

    -- loops
    row_single : (x : Tree) → Plain x → (ps : List Part) → EachTurn Begun ps → Settled (touch k.spread x) ps → AliveGaps k x ps → SingleRow (row_of ps)
    row_single x h [] d s a = tt
    row_single x h (Gap c ∷ ps) d s a = elim s.0 [ inl i ↦ last ps i | inr i ↦ absurd (dead a.0 i) ]
      where
        last : (ps : List Part) → IsLast ps → IsEnd (row_of ps)
        last [] i = tt
        last (p ∷ ps) i = absurd i

        clash : (y : Tree) (r : Option Tree) → r ≡ Some y → r ≡ None → ⊥
        clash y r p q = cc

        dead : AliveAt k x c → Holds (touch k.spread x) c → ⊥
        dead (y, p) (n, i, j) = clash y (permit k (only c) x) p (plain_held c n j x h i)
    row_single x h (Turn y ∷ ps) d s a = (d.0, row_single x h ps d.1 s a)

    begun_single : (ps : List Part) → EachTurn Begun ps → Each Single (begun ps)
    begun_single [] h = tt
    begun_single (Gap c ∷ ps) h = begun_single ps h
    begun_single (Turn x ∷ ps) h = (h.0.1, begun_single ps h.1)

    begun_apart : (ps : List Part) → EachTurn Begun ps → AllApart seq (begun ps)
    begun_apart [] h = tt
    begun_apart (Gap c ∷ ps) h = begun_apart ps h
    begun_apart (Turn x ∷ ps) h = (each_sure (begun ps), begun_apart ps h.1)
      where
        each_sure : (ys : List Tree) → Each (Apart seq x) ys
        each_sure [] = tt
        each_sure (y ∷ ys) = (λ a. inl (plain_sure a x h.0.0), each_sure ys)

    form_single_loop : (t : Bool) (x : Tree) (lo : ℕ) (hi : Option ℕ) (ps : List Part) → Begun x → weight x < m → EachTurn Begun ps → Settled (touch k.spread x) ps → AliveGaps k x ps → MayHave Single (turns_form t x lo hi ps)
    form_single_loop true x lo hi ps h l d s a = (h, row_single x h.0 ps d s a, l)
    form_single_loop false x zero hi ps h l d s a = join_single seq (begun ps) (begun_single ps d) (begun_apart ps d)
    form_single_loop false x (suc lo) hi ps h l d s a = tt

    turns_single : (x : Tree) (lo : ℕ) (hi : Option ℕ) (ps : List Part) → Begun x → weight x < m → EachTurn Begun ps → Settled (touch k.spread x) ps → MayHave Single (loop_of (λ c. permit k (only c) x) (touch k.spread x) x lo hi ps)
    turns_single x lo hi ps h l d s =
        let p : List ℕ → Option Tree = λ c. permit k (only c) x in
        let a0 = cut_gaps (touch k.spread x) ps in
        let a1 = drop_nil a0 in
        let a2 = at_zero hi a1 in
        let a3 = live p a2 in
        let a4 = drop_free p a3 in
        let a5 = thin a4 in
        let all : List ℕ = touch k.spread x in
        let s5 = settled_sub all (sub_thin a4) (settled_sub all (sub_free p a3) (settled_sub all (sub_live p a2) (settled_sub all (sub_zero hi a1) (settled_sub all (sub_nil a0) (settled_cut all ps s))))) in
        let d5 = each_turn_sub Begun (sub_thin a4) (each_turn_sub Begun (sub_free p a3) (each_turn_sub Begun (sub_live p a2) (each_turn_sub Begun (sub_zero hi a1) (each_turn_sub Begun (sub_nil a0) (each_turn_cut Begun all ps d))))) in
        form_single_loop (has_gap a5) x (lower_of (has_free p a3) lo) hi a5 h l d5 s5 (alive_sub k x (sub_thin a4) (alive_sub k x (sub_free p a3) (alive_live k x a2)))

    -- permission
    abbrev AllOf : List Tree → Option (List Tree) → Type 0
    AllOf xs None = Unit {0}
    AllOf xs (Some ys) = Each Single ys × Thins xs ys

    abbrev RowOf : List ℕ → Option (List Part) → Type 0
    RowOf all None = Unit {0}
    RowOf all (Some ps) = EachTurn Begun ps × Settled all ps

    and_single : (x : Tree) (xs : List Tree) (r : Option Tree) (p : Option (List Tree)) → ((y : Tree) → r ≡ Some y → Fewer x y) → MayHave Single r → AllOf xs p → AllOf (x ∷ xs) (and_then r p)
    and_single x xs None p f h i = tt
    and_single x xs (Some y) None f h i = tt
    and_single x xs (Some y) (Some ys) f h i = ((h, i.0), thin_keep (f y refl) i.1)

    skip_single : (x : Tree) (xs : List Tree) (r : Option Tree) (ys : List Tree) → ((y : Tree) → r ≡ Some y → Fewer x y) → MayHave Single r → Each Single ys × Thins xs ys → Each Single (or_skip r ys) × Thins (x ∷ xs) (or_skip r ys)
    skip_single x xs None ys f h i = (i.0, thin_skip i.1)
    skip_single x xs (Some y) ys f h i = ((h, i.0), thin_keep (f y refl) i.1)

    map_single : (n : Mode) (xs : List Tree) (p : Option (List Tree)) → AllOf xs p → AllApart n xs → MayHave Single (option_map (join_all n) p)
    map_single n xs None h a = tt
    map_single n xs (Some ys) h a = join_single n ys h.0 (apart_thins n h.1 a)

    tied_single : (q : List (ℕ × ℕ)) (r : Option Tree) → MayHave Single r → MayHave Single (option_map (λ y. tie_of y q) r)
    tied_single q None h = tt
    tied_single q (Some y) h = bound_single y q h

    event_single : (t : Bool) (e : TermEvent) → MayHave Single (unless t (Event e))
    event_single true e = tt
    event_single false e = tt

    in_single : (x : Tree) (lo : ℕ) (hi : Option ℕ) (p : Option (List Part)) → Begun x → weight x < m → RowOf (touch k.spread x) p → MayHave Single (turns_in (λ c. permit k (only c) x) (touch k.spread x) x lo hi p)
    in_single x lo hi None h l i = tt
    in_single x lo hi (Some ps) h l i = turns_single x lo hi ps h l i.0 i.1

    with_single : (all : List ℕ) (r : Option Tree) (p : Option (List Part)) → MayHave Begun r → RowOf all p → RowOf all (with_turn r p)
    with_single all None p h i = tt
    with_single all (Some y) None h i = tt
    with_single all (Some y) (Some ps) h i = ((h, i.0), i.1)

    both : (r : Option Tree) → MayHave Plain r → MayHave Single r → MayHave Begun r
    both None h i = tt
    both (Some y) h i = (h, i)

    mutual
      pub permit_single : (b : Block) (x : Tree) → Single x → MayHave Single (permit k b x)
      permit_single b Nil h = tt
      permit_single b (Event e) h = event_single (hits b e) e
      permit_single b (Join n xs) h = map_single n (items xs) (permit_all k b xs) (all_single b xs h.0) h.1
      permit_single b (Choice xs) h = let i = some_single b xs h.0 in choice_single (permit_some k b xs) i.0 (apart_thins par i.1 h.1)
      permit_single b (Tied x q) h = tied_single q (permit k b x) (permit_single b x h)
      permit_single b (Loop x lo hi r) h = in_single x lo hi (permit_row k b r) h.0 h.2 (row_permit b (touch k.spread x) r h.1)
      permit_single b (Walk n f t c) h = absurd h

      all_single : (b : Block) (xs : Trees) → SingleAll xs → AllOf (items xs) (permit_all k b xs)
      all_single b none h = (tt, thin_end)
      all_single b (more x xs) h = and_single x (items xs) (permit k b x) (permit_all k b xs) (permit_fewer k b x) (permit_single b x h.0) (all_single b xs h.1)

      some_single : (b : Block) (xs : Trees) → SingleAll xs → Each Single (permit_some k b xs) × Thins (items xs) (permit_some k b xs)
      some_single b none h = (tt, thin_end)
      some_single b (more x xs) h = skip_single x (items xs) (permit k b x) (permit_some k b xs) (permit_fewer k b x) (permit_single b x h.0) (some_single b xs h.1)

      row_permit : (b : Block) (all : List ℕ) (r : Row) → SingleRow r → RowOf all (permit_row k b r)
      row_permit b all ends h = (tt, tt)
      row_permit b all (gap c ends) h = (tt, (inl tt, tt))
      row_permit b all (gap c (gap d r)) h = absurd h
      row_permit b all (gap c (turn y r)) h = absurd h
      row_permit b all (turn y r) h = with_single all (permit k b y) (permit_row k b r) (both (permit k b y) (permit_plain k b y h.0.0) (permit_single b y h.0.1)) (row_permit b all r h.1)

    begun_some : (r : Option Tree) (y : Tree) → r ≡ Some y → MayHave Begun r → Begun y
    begun_some r y e h = rw e at h

    pub permit_begun : (b : Block) (x y : Tree) → permit k b x ≡ Some y → Begun x → Begun y
    permit_begun b x y e h = begun_some (permit k b x) y e (both (permit k b x) (permit_plain k b x h.0) (permit_single b x h.1))

    -- taking
    stays_single : (n : Mode) (e : TermEvent) (x y : Tree) → Stays k n e x y → Single x → Single y
    stays_single seq e x y s h = single_some (permit k (only (instances_of e).instances) x) y s (permit_single (only (instances_of e).instances) x h)
    stays_single par e x y s h = rw s h

    stays_fewer : (n : Mode) (e : TermEvent) (x y : Tree) → Stays k n e x y → Fewer x y
    stays_fewer seq e x y s = permit_fewer k (only (instances_of e).instances) x y s
    stays_fewer par e x y s = rw s (fewer_self x)

    parts_thin : {n : Mode} {xs : Trees} {ys : List Tree} {e : TermEvent} → IsAfterJoin k n xs e ys → Thins (items xs) ys
    parts_thin (first_part {xs = xs} a) = thin_keep (after_fewer k a) (thins_self (items xs))
    parts_thin (later_part {m = n} {x = x} {x' = y} {e = e} s a) = thin_keep (stays_fewer n e x y s) (parts_thin a)

    -- nothing stands behind a gap
    abbrev pub Lasting : List Part → Type 0
    Lasting [] = Unit {0}
    Lasting (Gap c ∷ ps) = IsLast ps
    Lasting (Turn y ∷ ps) = Lasting ps

    pub lasting : (r : Row) → SingleRow r → Lasting (parts r)
    lasting ends h = tt
    lasting (gap c ends) h = tt
    lasting (gap c (gap d r)) h = absurd h
    lasting (gap c (turn y r)) h = absurd h
    lasting (turn y r) h = lasting r h.1

    pub turns_begun : (r : Row) → SingleRow r → EachTurn Begun (parts r)
    turns_begun ends h = tt
    turns_begun (gap c ends) h = tt
    turns_begun (gap c (gap d r)) h = absurd h
    turns_begun (gap c (turn y r)) h = absurd h
    turns_begun (turn y r) h = (h.0, turns_begun r h.1)

    settled : (all : List ℕ) (ps : List Part) → Lasting ps → Settled all ps
    settled all [] h = tt
    settled all (Gap c ∷ []) h = (inl tt, tt)
    settled all (Gap c ∷ p ∷ ps) h = absurd h
    settled all (Turn y ∷ ps) h = settled all ps h

    pub none_last : {x : Tree} {b : Bool} {ps qs : List Part} {e : TermEvent} → IsAfterRow k x b ps e qs → IsLast ps → ⊥
    none_last (in_turn a) h = h
    none_last (in_gap p a) h = h
    none_last (past_turn p a) h = h
    none_last (past_gap a) h = h

    mutual
      pub after_single : {x y : Tree} {e : TermEvent} → IsAfter k x e y → Single x → Single y
      after_single after_event h = tt
      after_single (after_choice a) h = one_single a h.0
      after_single (after_join {m = n} {xs = xs} {ys = ys} a) h = join_single n ys (parts_single a h.0) (apart_thins n (parts_thin a) h.1)
      after_single (after_tied {y = y} {z = z} {q = q} {e = e} a p) h = bound_single z q (single_some (permit k (earlier q e) y) z p (permit_single (earlier q e) y (after_single a h)))
      after_single (after_loop {x = x} {z = z} {lo = lo} {hi = hi} {r = r} {e = e} b {ps = ps} a g p) h =
          let i = row_after a h.0 (turns_begun r h.1) (lasting r h.1) in
          single_some (loop_of (λ c. permit k (only c) x) (touch k.spread x) x (down b lo) (fewer b hi) ps) z p (turns_single x (down b lo) (fewer b hi) ps h.0 h.2 i.0 i.1)
      after_single (after_walk n p a l1 l2 q r) h = absurd h

      one_single : {xs : Trees} {y : Tree} {e : TermEvent} → IsAfterOne k xs e y → SingleAll xs → Single y
      one_single (first_one a) h = after_single a h.0
      one_single (later_one a) h = one_single a h.1

      parts_single : {n : Mode} {xs : Trees} {ys : List Tree} {e : TermEvent} → IsAfterJoin k n xs e ys → SingleAll xs → Each Single ys
      parts_single (first_part {xs = xs} a) h = (after_single a h.0, single_out xs h.1)
      parts_single (later_part {m = n} {x = x} {x' = y} {e = e} s a) h = (stays_single n e x y s h.0, parts_single a h.1)

      row_after : {x : Tree} {b : Bool} {ps qs : List Part} {e : TermEvent} → IsAfterRow k x b ps e qs → Begun x → EachTurn Begun ps → Lasting ps → EachTurn Begun qs × Settled (touch k.spread x) qs
      row_after (in_turn {x = x} {ps = ps} a) h d l = (((after_plain k a d.0.0, after_single a d.0.1), d.1), settled (touch k.spread x) ps l)
      row_after (in_gap {x = x} {y = y} {z = z} {c = c} {ps = ps} {e = e} p a) h d l =
          let i = permit_begun (only c) x y p h in
          (((after_plain k a i.0, after_single a i.1), d), (inr (gap_holds x y z c e h.0 p a), settled (touch k.spread x) (Gap c ∷ ps) l))
      row_after (past_turn {y = y} {z = z} {e = e} p a) h d l =
          let i = row_after a h d.1 l in
          ((permit_begun (only (instances_of e).instances) y z p d.0, i.0), i.1)
      row_after (past_gap a) h d l = absurd (none_last a l)
