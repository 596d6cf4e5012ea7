-- In a sound term no number stands before itself, since each pattern has a linear order.
use Rattle.std.specs.Prelude.{ℕ, ◌≤◌, ◌==◌, ◌&&◌, ◌||◌, ◌⊎◌, Bool, true, false, List, [], ◌∷◌, ◌≡◌, Option, refl}
use Rattle.std.proofs.Common.{arith, inl, inr, sym, ◌∙◌}
use Rattle.std.proofs.lemmas.Bool.{eqb-true}
use Rattle.msc_base.specs.Patterns.{Mode, seq, empty, one, join, bind}
use Rattle.chart_term.specs.NormalForms.{numbers}
use Rattle.chart_term.specs.Properties.{Each, EachTurn}
use Rattle.chart_term.specs.Tables.{Tables, terms_over}
use Rattle.chart_term.specs.TermMeanings.{HasPattern, has_join, has_choice, holds_tie, holds_loop, HasParts, one_part, HasChoice, this_one, that_one, HasRow, gaps_end, gaps_turn, gaps_shut, gaps_more}
use Rattle.chart_term.specs.TermPatterns.{Shape, Avoids, Takes, take_one, take_first, take_later, take_bind, earlier, HasNoEvent, InPairs, pairs}
use Rattle.chart_term.specs.TermRuns.{Runs, run_end, run_take}
use Rattle.chart_term.specs.Terms.{TermEvent, Block, has, hits, Tree, Nil, Event, Join, Choice, Tied, Loop, Walk, Trees, none, more, Row, ends, gap, turn, items, Part, parts}
use Rattle.chart_term.proofs.Arranging.{linear_run}
use Rattle.chart_term.proofs.Sameness.{hits_earlier}
use Rattle.term_laws.specs.FullSoundness.{EveryPartOf, EveryRowPart, times, HasOrders, HaveOperandsOrders}
use Rattle.term_laws.specs.Normality.{AreShown, AreNormalTables, AreNormal, IsNormalRow, IsNormalOver}
use Rattle.term_laws.specs.Permission.{permits_of}
use Rattle.term_laws.specs.Soundness.{AreTidyTables, AreTidy, IsTidyRow, IsTidyOver, NetLacks, IsKnown}
use Rattle.term_laws.proofs.Even.{AllEven, RowEven, IsEvenOver, some_even}
use Rattle.term_laws.proofs.Times.{one_or_none, some_parts, some_with}

-- Runs of the parts of a pattern

first_runs : {m : Mode} {s t : Shape} {l : List ℕ} → Runs (join m s t) l → (k : List ℕ) × Runs s k
first_runs (run_end h) = ([], run_end h.0)
first_runs (run_take {e = e} (take_first a) r) = let i = first_runs r in (e.label ∷ i.0, run_take a i.1)
first_runs (run_take (take_later p a) r) = first_runs r

second_runs : {m : Mode} {s t : Shape} {l : List ℕ} → Runs (join m s t) l → (k : List ℕ) × Runs t k
second_runs (run_end h) = ([], run_end h.1)
second_runs (run_take (take_first a) r) = second_runs r
second_runs (run_take {e = e} (take_later p a) r) = let i = second_runs r in (e.label ∷ i.0, run_take a i.1)

inner_runs : {s : Shape} {q : List (ℕ × ℕ)} {l : List ℕ} → Runs (bind s q) l → (k : List ℕ) × Runs s k
inner_runs (run_end h) = ([], run_end h)
inner_runs (run_take {e = e} (take_bind a p) r) = let i = inner_runs r in (e.label ∷ i.0, run_take a i.1)

-- A tie of a number with itself lets no event of the number go

taken_hit : (b : Block) {s t : Shape} {e : TermEvent} → Takes s e t → Avoids b s → hits b e ≡ false
taken_hit b take_one h = h
taken_hit b (take_first a) h = taken_hit b a h.0
taken_hit b (take_later p a) h = taken_hit b a h.1
taken_hit b (take_bind a p) h = taken_hit b a h

one_off : (e : TermEvent) (j : ℕ) → (e.number == j) ≡ false → times j (one e) ≡ 0
one_off e j h = go (e.number == j) h
  where
    go : (t : Bool) → t ≡ false → one_or_none t ≡ 0
    go true p = cc
    go false p = refl

taken_times : (j : ℕ) {s t : Shape} {e : TermEvent} → Takes s e t → (e.number == j) ≡ false → times j s ≡ times j t
taken_times j (take_one {e = e}) h = one_off e j h
taken_times j (take_first a) h = let p = taken_times j a h in omega arith
taken_times j (take_later l a) h = let p = taken_times j a h in omega arith
taken_times j (take_bind a l) h = taken_times j a h

over_times : (j : ℕ) (s : Shape) → HasNoEvent s → times j s ≡ 0
over_times j empty h = refl
over_times j (one e) h = absurd h
over_times j (join m x y) h = let p = over_times j x h.0 in let q = over_times j y h.1 in omega arith
over_times j (bind x q) h = over_times j x h

self_clash : (q : List (ℕ × ℕ)) (i j : ℕ) → i ≡ j → pairs q i i ≡ false → pairs q j j ≡ true → ⊥
self_clash q i j e h p = cc

stuck : (j : ℕ) (q : List (ℕ × ℕ)) → pairs q j j ≡ true → {s : Shape} {l : List ℕ} → Runs (bind s q) l → 1 ≤ times j s → ⊥
stuck j q p {s = s} (run_end h) i = let e = over_times j s h in absurd (omega arith)
stuck j q p {s = s} (run_take {e = e} (take_bind {x' = t} a v) r) i = go (e.number == j) refl (λ u. stuck j q p r u)
  where
    go : (u : Bool) → (e.number == j) ≡ u → (1 ≤ times j t → ⊥) → ⊥
    go true w f = self_clash q e.number j (eqb-true e.number j w) (sym (hits_earlier q e e) ∙ taken_hit (earlier q e) a v) p
    go false w f = let k = taken_times j a w in f (omega arith)

-- a number of a pair is one of the numbers
eq_or : (a b : ℕ) (t u : Bool) → (((a == b) && t) || u) ≡ true → ((a ≡ b) × (t ≡ true)) ⊎ (u ≡ true)
eq_or a b t u h = go (a == b) refl h
  where
    go : (v : Bool) → (a == b) ≡ v → ((v && t) || u) ≡ true → ((a ≡ b) × (t ≡ true)) ⊎ (u ≡ true)
    go true e h = two t h (eqb-true a b e)
      where
        two : (t : Bool) → (t || u) ≡ true → a ≡ b → ((a ≡ b) × (t ≡ true)) ⊎ (u ≡ true)
        two true h e = inl (e, refl)
        two false h e = inr h
    go false e h = inr h

in_pairs : (q : List (ℕ × ℕ)) (j : ℕ) → pairs q j j ≡ true → InPairs j q
in_pairs [] j h = cc
in_pairs (p ∷ q) j h = elim (eq_or j p.0 (j == p.1) (pairs q j j) h) [ inl e ↦ inl (inl e.0) | inr i ↦ inr (in_pairs q j i) ]

shown : (ns : List ℕ) (q : List (ℕ × ℕ)) (j : ℕ) → AreShown ns q → pairs q j j ≡ true → has ns j ≡ true
shown ns [] j s h = cc
shown ns (p ∷ q) j s h = elim (eq_or j p.0 (j == p.1) (pairs q j j) h) [ inl e ↦ at j p.0 e.0 s.0 | inr i ↦ shown ns q j s.2 i ]
  where
    at : (i k : ℕ) → i ≡ k → has ns k ≡ true → has ns i ≡ true
    at i k e h = rw e h

-- Terms whose patterns all have runs

module _ (w : Tables) where
  abbrev RunsOf : Tree → Type 0
  RunsOf x = (s : Shape) → HasPattern (terms_over w) true x s → (l : List ℕ) × Runs s l

  pub runs_of : (x : Tree) → HasOrders w x → RunsOf x
  runs_of x h s a = let i = h s a in (i.run, linear_run s i.run i.is)

  choice_runs : (xs : Trees) → ((s : Shape) → HasChoice (terms_over w) true (items xs) s → (l : List ℕ) × Runs s l) → Each RunsOf (items xs)
  choice_runs none f = tt
  choice_runs (more x xs) f = (λ s a. f s (this_one a), choice_runs xs (λ s a. f s (that_one a)))

  row_runs : {x : Tree} {ps : List Part} {n : ℕ} {s : Shape} → HasRow (terms_over w) true x ps n s → ((u : Shape) → HasRow (terms_over w) true x ps n u → (l : List ℕ) × Runs u l) → EachTurn RunsOf ps
  row_runs gaps_end f = tt
  row_runs (gaps_turn {s = t} {u = u} b r) f = (λ s a. first_runs (f (join seq s u) (gaps_turn a r)).1, row_runs r (λ v c. second_runs (f (join seq t v) (gaps_turn b c)).1))
  row_runs (gaps_shut r) f = row_runs r (λ v c. f v (gaps_shut c))
  row_runs (gaps_more {s = t} a av r) f = row_runs r (λ v c. second_runs (f (join seq t v) (gaps_more a av c)).1)

  turns_runs : {x : Tree} {lo : ℕ} {hi : Option ℕ} {r : Row} {s : Shape} → HasPattern (terms_over w) true (Loop x lo hi r) s → RunsOf (Loop x lo hi r) → EachTurn RunsOf (parts r)
  turns_runs (holds_loop n a l u) f = row_runs a (λ v c. f v (holds_loop n c l u))

  module _ (h : AreTidyTables w) (g : AreNormalTables w) where
    parts_runs : (m : Mode) (xs : Trees) → AllEven (NetLacks w) (IsKnown w) xs → AreNormal (permits_of w) xs → ((s : Shape) → HasParts (terms_over w) true m (items xs) s → (l : List ℕ) × Runs s l) → Each RunsOf (items xs)
    parts_runs m none e n f = tt
    parts_runs m (more x xs) e n f = (
      λ s a. let r = some_parts w h 0 g m xs e.1 n.1 in first_runs (f (join m s r.0) (one_part a r.1)).1,
      parts_runs m xs e.1 n.1 (λ s a. let r = some_even w h g x e.0 n.0 in second_runs (f (join m r.0 s) (one_part r.1 a)).1),
    )

    self_free : (x : Tree) (q : List (ℕ × ℕ)) → IsEvenOver w (Tied x q) → IsNormalOver w (Tied x q) → RunsOf (Tied x q) → (j : ℕ) → pairs q j j ≡ false
    self_free x q e n f j = go (pairs q j j) refl
      where
        go : (t : Bool) → pairs q j j ≡ t → pairs q j j ≡ false
        go true p =
            let i = some_with w h j g x (e.1 j (in_pairs q j p)) e.0 n.0 (shown (numbers x) q j n.2 p) in
            absurd (stuck j q p (f (bind i.0 q) (holds_tie i.1)).1 i.2)
        go false p = p

    abbrev OperandsOf : Trees → Type 0
    OperandsOf xs = EveryPartOf (λ e. Unit {0}) (λ y q. Unit {0}) (HasOrders w) (λ n f t. Unit {0}) xs

    abbrev RowOperands : Row → Type 0
    RowOperands r = EveryRowPart (λ e. Unit {0}) (λ y q. Unit {0}) (HasOrders w) (λ n f t. Unit {0}) r

    mutual
      pub tidy_from : (x : Tree) → IsEvenOver w x → IsNormalOver w x → RunsOf x → HaveOperandsOrders w x → IsTidyOver w x
      tidy_from Nil e n f o = tt
      tidy_from (Event d) e n f o = tt
      tidy_from (Join m xs) e n f o = all_from xs e n.0 (parts_runs m xs e n.0 (λ s a. f s (has_join a))) o
      tidy_from (Choice xs) e n f o = all_from xs e n.0 (choice_runs xs (λ s a. f s (has_choice a))) o
      tidy_from (Tied x q) e n f o = (tidy_from x e.0 n.0 (λ s a. inner_runs (f (bind s q) (holds_tie a)).1) o.0, e.1, self_free x q e n f)
      tidy_from (Loop x lo hi r) e n f o =
          let i = some_even w h g (Loop x lo hi r) e n in
          (tidy_from x e.0 n.0 (runs_of x o.1) o.0, row_from r e.1 n.1 (turns_runs i.1 f) o.2, e.2, e.3)
      tidy_from (Walk n f t c) e m r o = e

      all_from : (xs : Trees) → AllEven (NetLacks w) (IsKnown w) xs → AreNormal (permits_of w) xs → Each RunsOf (items xs) → OperandsOf xs → AreTidy (NetLacks w) (IsKnown w) xs
      all_from none e n f o = tt
      all_from (more x xs) e n f o = (tidy_from x e.0 n.0 f.0 o.0, all_from xs e.1 n.1 f.1 o.1)

      row_from : (r : Row) → RowEven (NetLacks w) (IsKnown w) r → IsNormalRow (permits_of w) r → EachTurn RunsOf (parts r) → RowOperands r → IsTidyRow (NetLacks w) (IsKnown w) r
      row_from ends e n f o = tt
      row_from (gap c r) e n f o = row_from r e n f o
      row_from (turn x r) e n f o = (tidy_from x e.0 n.0 f.0 o.0, row_from r e.1 n.1 f.1 o.1)
