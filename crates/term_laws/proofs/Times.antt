-- How often a number stands in the patterns of a term, against the term's form.
use Rattle.std.specs.Prelude.{ℕ, ◌≤◌, ◌==◌, ◌≢◌, ◌||◌, Bool, true, false, cond, List, ◌≡◌, ◌⊎◌, refl}
use Rattle.std.proofs.Common.{inl, inr, arith}
use Rattle.std.proofs.lemmas.Bool.{eqb-true, or_parts, both_ways}
use Rattle.msc_base.specs.Patterns.{Mode, empty, one, join, bind}
use Rattle.chart_term.specs.NormalForms.{numbers, numbers_all, numbers_row}
use Rattle.chart_term.specs.Properties.{Each, EveryRow}
use Rattle.chart_term.specs.Tables.{Tables, net_count, node_of, terms_over}
use Rattle.chart_term.specs.TermMeanings.{HasPattern, has_nil, has_event, has_join, has_choice, holds_tie, holds_loop, holds_walk, HasParts, no_part, one_part, HasChoice, this_one, that_one}
use Rattle.chart_term.specs.TermPatterns.{Shape, InPairs}
use Rattle.chart_term.specs.Terms.{TermEvent, has, Tree, Nil, Event, Join, Choice, Tied, Loop, Walk, Trees, none, more, Row, ends, gap, turn, items}
use Rattle.term_laws.specs.FullSoundness.{times, EveryPart, EveryPartOf, EveryRowPart, AreTiesOnce}
use Rattle.term_laws.specs.Normality.{AreNormalTables, IsNormalOver, AreNormal, IsNormalRow}
use Rattle.term_laws.specs.Permission.{permits_of}
use Rattle.term_laws.specs.Soundness.{AreTidyTables, IsTidyOver, IsOutside, AreOutside, Lacks, NetLacks, IsKnown}
use Rattle.term_laws.proofs.EveryPart.{part_map}
use Rattle.term_laws.proofs.Even.{AllEven, RowEven, IsEvenOver, some_even}
use Rattle.term_laws.proofs.Later.{tidy_below}
use Rattle.term_laws.proofs.Numbers.{number_not, lacks_both, has_either}
use Rattle.term_laws.proofs.Once.{Once, OnceAll, OnceEach, OnceList, FreeAll, once_out, each_out}
use Rattle.term_laws.proofs.TidyKept.{NoNumber, lacks_none}
use Rattle.term_laws.proofs.TidyTables.{nets_good}

-- the property of ties by the form of the term
abbrev pub TiesOnce : (ℕ → ℕ → Type 0) → Tree → Type 0
TiesOnce NL x = EveryPart (λ e. Unit {0}) (λ y q. (j : ℕ) → InPairs j q → Once NL j y) (λ y. Unit {0}) (λ n f t. Unit {0}) x

abbrev pub one_or_none : Bool → ℕ
one_or_none t = cond t 1 0

one_if : (t : Bool) → one_or_none t ≤ 1
one_if true = omega arith
one_if false = omega arith

none_times : (j : ℕ) (s : Shape) → NoNumber j s → times j s ≡ 0
none_times j empty h = refl
none_times j (one e) h = go (e.number == j) refl
  where
    go : (t : Bool) → (e.number == j) ≡ t → one_or_none t ≡ 0
    go true p = absurd (h (eqb-true e.number j p))
    go false p = refl
none_times j (join m x y) h = let p = none_times j x h.0 in let q = none_times j y h.1 in omega arith
none_times j (bind x q) h = none_times j x h

event_times : (j : ℕ) (e : TermEvent) → ((e.number == j) || false) ≡ true → 1 ≤ times j (one e)
event_times j e h = go (e.number == j) h
  where
    go : (t : Bool) → (t || false) ≡ true → 1 ≤ one_or_none t
    go true h = omega arith
    go false h = cc

module _ (NL : ℕ → ℕ → Type 0) (j : ℕ) where
  -- a number that a term lacks is none of its numbers, and the other way round outside loops and nets
  mutual
    lacks_numbers : (x : Tree) → Lacks NL j x → has (numbers x) j ≡ true → ⊥
    lacks_numbers Nil h i = both_ways false refl i
    lacks_numbers (Event e) h i = go (e.number == j) refl i
      where
        go : (t : Bool) → (e.number == j) ≡ t → (t || false) ≡ true → ⊥
        go true p i = h (eqb-true e.number j p)
        go false p i = both_ways false refl i
    lacks_numbers (Join m xs) h i = lacks_all_numbers xs h i
    lacks_numbers (Choice xs) h i = lacks_all_numbers xs h i
    lacks_numbers (Tied x q) h i = lacks_numbers x h i
    lacks_numbers (Loop x lo hi r) h i = elim (has_either (numbers x) (numbers_row r) j i) [ inl p ↦ lacks_numbers x h.0 p | inr p ↦ lacks_row_numbers r h.1 p ]
    lacks_numbers (Walk n f t c) h i = both_ways false refl i

    lacks_all_numbers : (xs : Trees) → FreeAll NL j xs → has (numbers_all xs) j ≡ true → ⊥
    lacks_all_numbers none h i = both_ways false refl i
    lacks_all_numbers (more x xs) h i = elim (has_either (numbers x) (numbers_all xs) j i) [ inl p ↦ lacks_numbers x h.0 p | inr p ↦ lacks_all_numbers xs h.1 p ]

    lacks_row_numbers : (r : Row) → EveryRow (λ e. e.number ≢ j) (NL j) r → has (numbers_row r) j ≡ true → ⊥
    lacks_row_numbers ends h i = both_ways false refl i
    lacks_row_numbers (gap c r) h i = lacks_row_numbers r h i
    lacks_row_numbers (turn x r) h i = elim (has_either (numbers x) (numbers_row r) j i) [ inl p ↦ lacks_numbers x h.0 p | inr p ↦ lacks_row_numbers r h.1 p ]

  mutual
    lacks_if : (x : Tree) → IsOutside NL j x → has (numbers x) j ≡ false → Lacks NL j x
    lacks_if Nil o h = tt
    lacks_if (Event e) o h = number_not e.number j ((or_parts (e.number == j) false h).0)
    lacks_if (Join m xs) o h = all_lacks_if xs o h
    lacks_if (Choice xs) o h = all_lacks_if xs o h
    lacks_if (Tied x q) o h = lacks_if x o h
    lacks_if (Loop x lo hi r) o h = o
    lacks_if (Walk n f t c) o h = o

    all_lacks_if : (xs : Trees) → AreOutside NL j xs → has (numbers_all xs) j ≡ false → FreeAll NL j xs
    all_lacks_if none o h = tt
    all_lacks_if (more x xs) o h = let i = lacks_both (numbers x) (numbers_all xs) j h in (lacks_if x o.0 i.0, all_lacks_if xs o.1 i.1)

module _ (w : Tables) (h : AreTidyTables w) (j : ℕ) where
  abbrev P : Tree → Shape → Type 0
  P x s = HasPattern (terms_over w) true x s

  abbrev Parts : Mode → Trees → Shape → Type 0
  Parts m xs s = HasParts (terms_over w) true m (items xs) s

  -- a term of that form has patterns with the number once at most
  free_zero : {x : Tree} {s : Shape} → P x s → Lacks (NetLacks w) j x → times j s ≡ 0
  free_zero {s = s} a l = none_times j s (lacks_none (permits_of w) (node_of w) true (NetLacks w) (IsKnown w) (nets_good true w h) j a l)

  parts_zero : {m : Mode} {xs : List Tree} {s : Shape} → HasParts (terms_over w) true m xs s → Each (Lacks (NetLacks w) j) xs → times j s ≡ 0
  parts_zero no_part l = refl
  parts_zero (one_part a r) l = let p = free_zero a l.0 in let q = parts_zero r l.1 in omega arith

  mutual
    pub once_times : {x : Tree} {s : Shape} → P x s → Once (NetLacks w) j x → times j s ≤ 1
    once_times has_nil o = omega arith
    once_times (has_event {e = e}) o = one_if (e.number == j)
    once_times (has_join {xs = xs} a) o = parts_times a (once_out (NetLacks w) j xs o)
    once_times (has_choice {xs = xs} a) o = choice_times a (each_out (NetLacks w) j xs o)
    once_times (holds_tie a) o = once_times a o
    once_times (holds_loop {x = x} {lo = lo} {hi = hi} {r = r} n a l u) o = let p = free_zero {x = Loop x lo hi r} (holds_loop n a l u) o in omega arith
    once_times (holds_walk {n = n} {f = f} {t = t} {c = c} a) o = let p = free_zero {x = Walk n f t c} (holds_walk a) o in omega arith

    parts_times : {m : Mode} {xs : List Tree} {s : Shape} → HasParts (terms_over w) true m xs s → OnceList (NetLacks w) j xs → times j s ≤ 1
    parts_times no_part o = omega arith
    parts_times (one_part a r) (inl o) = let p = free_zero a o.0 in let q = parts_times r o.1 in omega arith
    parts_times (one_part a r) (inr o) = let p = once_times a o.0 in let q = parts_zero r o.1 in omega arith

    choice_times : {xs : List Tree} {s : Shape} → HasChoice (terms_over w) true xs s → Each (Once (NetLacks w) j) xs → times j s ≤ 1
    choice_times (this_one a) o = once_times a o.0
    choice_times (that_one a) o = choice_times a o.1

  -- and the other way round, for terms in normal form
  module _ (g : AreNormalTables w) where
    some_of : (x : Tree) → IsEvenOver w x → IsNormalOver w x → (s : Shape) × P x s
    some_of x t n = some_even w h g x t n

    pub some_parts : (m : Mode) (xs : Trees) → AllEven (NetLacks w) (IsKnown w) xs → AreNormal (permits_of w) xs → (s : Shape) × Parts m xs s
    some_parts m none t n = (empty, no_part)
    some_parts m (more x xs) t n = let i = some_of x t.0 n.0 in let r = some_parts m xs t.1 n.1 in (join m i.0 r.0, one_part i.1 r.1)

    -- a pattern with the number
    mutual
      pub some_with : (x : Tree) → IsOutside (NetLacks w) j x → IsEvenOver w x → IsNormalOver w x → has (numbers x) j ≡ true → (s : Shape) × P x s × (1 ≤ times j s)
      some_with Nil o t n i = absurd (both_ways false refl i)
      some_with (Event e) o t n i = (one e, has_event, event_times j e i)
      some_with (Join m xs) o t n i = let r = some_in m xs o t n.0 i in (r.0, has_join r.1, r.2)
      some_with (Choice xs) o t n i = let r = some_one xs o t n.0 i in (r.0, has_choice r.1, r.2)
      some_with (Tied x q) o t n i = let r = some_with x o t.0 n.0 i in (bind r.0 q, holds_tie r.1, r.2)
      some_with (Loop x lo hi r) o t n i = absurd (lacks_numbers (NetLacks w) j (Loop x lo hi r) o i)
      some_with (Walk n f t c) o l m i = absurd (both_ways false refl i)

      some_in : (m : Mode) (xs : Trees) → AreOutside (NetLacks w) j xs → AllEven (NetLacks w) (IsKnown w) xs → AreNormal (permits_of w) xs → has (numbers_all xs) j ≡ true → (s : Shape) × Parts m xs s × (1 ≤ times j s)
      some_in m none o t n i = absurd (both_ways false refl i)
      some_in m (more x xs) o t n i =
          elim (has_either (numbers x) (numbers_all xs) j i) [
            | inl p ↦ let r = some_with x o.0 t.0 n.0 p in let u = some_parts m xs t.1 n.1 in (join m r.0 u.0, one_part r.1 u.1, omega (arith, r.2))
            | inr p ↦ let r = some_of x t.0 n.0 in let u = some_in m xs o.1 t.1 n.1 p in (join m r.0 u.0, one_part r.1 u.1, omega (arith, u.2))
          ]

      some_one : (xs : Trees) → AreOutside (NetLacks w) j xs → AllEven (NetLacks w) (IsKnown w) xs → AreNormal (permits_of w) xs → has (numbers_all xs) j ≡ true → (s : Shape) × HasChoice (terms_over w) true (items xs) s × (1 ≤ times j s)
      some_one none o t n i = absurd (both_ways false refl i)
      some_one (more x xs) o t n i =
          elim (has_either (numbers x) (numbers_all xs) j i) [
            | inl p ↦ let r = some_with x o.0 t.0 n.0 p in (r.0, this_one r.1, r.2)
            | inr p ↦ let r = some_one xs o.1 t.1 n.1 p in (r.0, that_one r.1, r.2)
          ]

    too_many : (n : ℕ) → 1 ≤ n → n ≤ 0 → ⊥
    too_many n p q = absurd (omega arith)

    -- no part has the number where no pattern of the parts has it
    all_free : (m : Mode) (xs : Trees) → AreOutside (NetLacks w) j xs → AllEven (NetLacks w) (IsKnown w) xs → AreNormal (permits_of w) xs → ((s : Shape) → Parts m xs s → times j s ≤ 0) → FreeAll (NetLacks w) j xs
    all_free m xs o t n f = go (has (numbers_all xs) j) refl
      where
        go : (u : Bool) → has (numbers_all xs) j ≡ u → FreeAll (NetLacks w) j xs
        go true i = let r = some_in m xs o t n i in absurd (too_many (times j r.0) r.2 (f r.0 r.1))
        go false i = all_lacks_if (NetLacks w) j xs o i

    first_has : (m : Mode) (x : Tree) (xs : Trees) → AreOutside (NetLacks w) j (more x xs) → AllEven (NetLacks w) (IsKnown w) (more x xs) → AreNormal (permits_of w) (more x xs) → ((s : Shape) → Parts m (more x xs) s → times j s ≤ 1)
        → (u : Bool) → has (numbers x) j ≡ u → (has (numbers x) j ≡ false → OnceAll (NetLacks w) j xs) → Once (NetLacks w) j x → (Lacks (NetLacks w) j x × OnceAll (NetLacks w) j xs) ⊎ (Once (NetLacks w) j x × FreeAll (NetLacks w) j xs)
    first_has m x xs o t n f true i c d = let r = some_with x o.0 t.0 n.0 i in inr (d, all_free m xs o.1 t.1 n.1 (λ s a. let p = f (join m r.0 s) (one_part r.1 a) in omega (arith, r.2)))
    first_has m x xs o t n f false i c d = inl (lacks_if (NetLacks w) j x o.0 i, c i)

    mutual
      pub once_if : (x : Tree) → IsOutside (NetLacks w) j x → IsEvenOver w x → IsNormalOver w x → ((s : Shape) → P x s → times j s ≤ 1) → Once (NetLacks w) j x
      once_if Nil o t n f = tt
      once_if (Event e) o t n f = tt
      once_if (Join m xs) o t n f = once_all_if m xs o t n.0 (λ s a. f s (has_join a))
      once_if (Choice xs) o t n f = once_each_if xs o t n.0 (λ s a. f s (has_choice a))
      once_if (Tied x q) o t n f = once_if x o t.0 n.0 (λ s a. f (bind s q) (holds_tie a))
      once_if (Loop x lo hi r) o t n f = o
      once_if (Walk n f t c) o l m g = o

      once_all_if : (m : Mode) (xs : Trees) → AreOutside (NetLacks w) j xs → AllEven (NetLacks w) (IsKnown w) xs → AreNormal (permits_of w) xs → ((s : Shape) → Parts m xs s → times j s ≤ 1) → OnceAll (NetLacks w) j xs
      once_all_if m none o t n f = tt
      once_all_if m (more x xs) o t n f =
          first_has m x xs o t n f (has (numbers x) j) refl (λ i. let r = some_of x t.0 n.0 in once_all_if m xs o.1 t.1 n.1 (λ s a. let p = f (join m r.0 s) (one_part r.1 a) in omega arith))
          (let r = some_parts m xs t.1 n.1 in once_if x o.0 t.0 n.0 (λ s a. let p = f (join m s r.0) (one_part a r.1) in omega arith))

      once_each_if : (xs : Trees) → AreOutside (NetLacks w) j xs → AllEven (NetLacks w) (IsKnown w) xs → AreNormal (permits_of w) xs → ((s : Shape) → HasChoice (terms_over w) true (items xs) s → times j s ≤ 1) → OnceEach (NetLacks w) j xs
      once_each_if none o t n f = tt
      once_each_if (more x xs) o t n f = (once_if x o.0 t.0 n.0 (λ s a. f s (this_one a)), once_each_if xs o.1 t.1 n.1 (λ s a. f s (that_one a)))

-- the two readings of the property of ties
module _ (w : Tables) (h : AreTidyTables w) where
  pub ties_from : (x : Tree) → IsTidyOver w x → TiesOnce (NetLacks w) x → AreTiesOnce w x
  ties_from x t =
      part_map (λ e. Unit {0}) (λ e. Unit {0}) (λ y q. (j : ℕ) → InPairs j q → Once (NetLacks w) j y) (λ y q. (j : ℕ) → InPairs j q → (s : Shape) → HasPattern (terms_over w) true y s → times j s ≤ 1)
      (λ y. Unit {0}) (λ y. Unit {0}) (λ n f t. Unit {0}) (λ n f t. Unit {0}) (net_count w) (λ e i. i) (λ y q b f j p s a. once_times w h j a (f j p)) (λ y b i. i) (λ n f t l i. i) x (tidy_below w x t)

  module _ (g : AreNormalTables w) where
    abbrev TiesOf : Trees → Type 0
    TiesOf xs = EveryPartOf (λ e. Unit {0}) (λ y q. (j : ℕ) → InPairs j q → (s : Shape) → HasPattern (terms_over w) true y s → times j s ≤ 1) (λ y. Unit {0}) (λ n f t. Unit {0}) xs

    abbrev RowTies : Row → Type 0
    RowTies r = EveryRowPart (λ e. Unit {0}) (λ y q. (j : ℕ) → InPairs j q → (s : Shape) → HasPattern (terms_over w) true y s → times j s ≤ 1) (λ y. Unit {0}) (λ n f t. Unit {0}) r

    abbrev FormTies : Trees → Type 0
    FormTies xs = EveryPartOf (λ e. Unit {0}) (λ y q. (j : ℕ) → InPairs j q → Once (NetLacks w) j y) (λ y. Unit {0}) (λ n f t. Unit {0}) xs

    abbrev FormRowTies : Row → Type 0
    FormRowTies r = EveryRowPart (λ e. Unit {0}) (λ y q. (j : ℕ) → InPairs j q → Once (NetLacks w) j y) (λ y. Unit {0}) (λ n f t. Unit {0}) r

    mutual
      pub ties_to : (x : Tree) → IsEvenOver w x → IsNormalOver w x → AreTiesOnce w x → TiesOnce (NetLacks w) x
      ties_to Nil t n i = tt
      ties_to (Event e) t n i = tt
      ties_to (Join m xs) t n i = all_ties_to xs t n.0 i
      ties_to (Choice xs) t n i = all_ties_to xs t n.0 i
      ties_to (Tied x q) t n i = (ties_to x t.0 n.0 i.0, λ j p. once_if w h j g x (t.1 j p) t.0 n.0 (i.1 j p))
      ties_to (Loop x lo hi r) t n i = (ties_to x t.0 n.0 i.0, tt, row_ties_to r t.1 n.1 i.2)
      ties_to (Walk n f t c) l m i = tt

      all_ties_to : (xs : Trees) → AllEven (NetLacks w) (IsKnown w) xs → AreNormal (permits_of w) xs → TiesOf xs → FormTies xs
      all_ties_to none t n i = tt
      all_ties_to (more x xs) t n i = (ties_to x t.0 n.0 i.0, all_ties_to xs t.1 n.1 i.1)

      row_ties_to : (r : Row) → RowEven (NetLacks w) (IsKnown w) r → IsNormalRow (permits_of w) r → RowTies r → FormRowTies r
      row_ties_to ends t n i = tt
      row_ties_to (gap c r) t n i = row_ties_to r t n i
      row_ties_to (turn x r) t n i = (ties_to x t.0 n.0 i.0, row_ties_to r t.1 n.1 i.1)
