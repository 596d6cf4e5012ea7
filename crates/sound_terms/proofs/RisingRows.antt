-- A row of events whose numbers rise, below a tie whose pairs rise, is sound in full.
use Rattle.std.specs.Prelude.{ℕ, suc, ◌<◌, ◌≤◌, ◌+◌, ◌==◌, Bool, true, false, List, [], ◌∷◌, ◌≡◌, map}
use Rattle.std.proofs.Common.{ap, sym, ◌∙◌, inl, inr, refl, subst, arith}
use Rattle.std.proofs.lemmas.Bool.Decides.{Decides-eqb}
use Rattle.msc_base.specs.Patterns.{Mode, seq, bind, Position, event_at, Before}
use Rattle.chart_term.specs.NormalForms.{join_all, join_of, flat, tie_of}
use Rattle.chart_term.specs.Properties.{Each}
use Rattle.chart_term.specs.Tables.{Tables, terms_over}
use Rattle.chart_term.specs.TermMeanings.{NetTerms, HasPattern, has_event, holds_tie, HasParts, no_part, one_part}
use Rattle.chart_term.specs.TermPatterns.{Shape, numbered, pairs, InPairs, ◌≈◌, same, back, on, in_join, in_bind, assoc, left, right, bind_none, bind_as}
use Rattle.chart_term.specs.Terms.{TermEvent, Tree, Event, Tied, trees}
use Rattle.term_laws.specs.ConstructorLaws.{NormalFormsKeepPatterns}
use Rattle.term_laws.specs.FullSoundness.{times, EveryPart, EveryPartOf, HasOrders, IsSoundNode, AreSoundNets, ConstructorsKeepSoundness}
use Rattle.term_laws.specs.Sound.{HasOrder}
use Rattle.term_laws.specs.Soundness.{IsOutside, AreOutside, NetLacks}
use Rattle.term_laws.proofs.Times.{one_or_none}
use Rattle.hmsc_graph.specs.Graphs.{Spot, Goal}
use Rattle.sound_terms.specs.RisingRows.{AreNumberedFrom, DoRise, RisingRowsAreSound}
use Rattle.sound_terms.proofs.Orders.{ranked}
use Rattle.sound_terms.proofs.SameRuns.{same_patterns_run}

-- same patterns have each number as often
pub times_same : {s t : Shape} (j : ℕ) → s ≈ t → times j s ≡ times j t
times_same j same = refl
times_same j (back p) = sym (times_same j p)
times_same j (on p q) = times_same j p ∙ times_same j q
times_same j (in_join p q) = let a = times_same j p in let b = times_same j q in omega (arith, a, b)
times_same j (in_bind p) = times_same j p
times_same j assoc = omega arith
times_same j left = omega arith
times_same j right = omega arith
times_same j bind_none = refl
times_same j (bind_as a) = refl

-- a pattern that is the same as one with a linear order has one
pub order_same : (s t : Shape) → s ≈ t → HasOrder t → HasOrder s
order_same s t p h = record { run = h.run; is = (same_patterns_run.same s t h.run p).from h.is }

module _ (labels : ℕ) (w : NetTerms) where
  -- in the pattern of a row of events the numbers are those from n on, and rise
  above_n : (n : ℕ) (es : List TermEvent) → AreNumberedFrom labels n es → (s : Shape) → HasParts w true seq (map Event es) s → (p : Position s) → n ≤ (event_at numbered s p).number
  above_n n [] h s no_part p = absurd p
  above_n n (e ∷ es) (h, l, i) _ (one_part {t = t} has_event k) (inl p) = omega (arith, h)
  above_n n (e ∷ es) (h, l, i) _ (one_part {t = t} has_event k) (inr p) = omega (arith, above_n (suc n) es i t k p)

  rise : (n : ℕ) (es : List TermEvent) → AreNumberedFrom labels n es → (s : Shape) → HasParts w true seq (map Event es) s
      → (p q : Position s) → Before numbered s p q → (event_at numbered s p).number < (event_at numbered s q).number
  rise n [] h s no_part p q b = absurd p
  rise n (e ∷ es) (h, l, i) _ (one_part {t = t} has_event k) (inl p) (inl q) b = absurd b
  rise n (e ∷ es) (h, l, i) _ (one_part {t = t} has_event k) (inl p) (inr q) b = omega (arith, h, above_n (suc n) es i t k q)
  rise n (e ∷ es) (h, l, i) _ (one_part {t = t} has_event k) (inr p) (inl q) b = absurd b
  rise n (e ∷ es) (h, l, i) _ (one_part {t = t} has_event k) (inr p) (inr q) b = rise (suc n) es i t k p q b

  none_if : (b : Bool) → b ≡ false → one_or_none b ≡ 0
  none_if true h = absurd cc
  none_if false h = refl

  not_equal : (m j : ℕ) → j < m → (m == j) ≡ false
  not_equal m j lt = by (m == j) refl
    where
      by : (b : Bool) → (m == j) ≡ b → b ≡ false
      by true e = let k = (Decides-eqb m j).0 e in absurd (omega (arith, lt, k))
      by false e = refl

  none_below : (n : ℕ) (es : List TermEvent) → AreNumberedFrom labels n es → (s : Shape) → HasParts w true seq (map Event es) s → (j : ℕ) → j < n → times j s ≡ 0
  none_below n [] h s no_part j lt = refl
  none_below n (e ∷ es) (h, l, i) _ (one_part {t = t} has_event k) j lt =
      let a = none_if (e.number == j) (not_equal e.number j (omega (arith, h, lt))) in
      let b = none_below (suc n) es i t k j (omega (arith, lt)) in
      omega (arith, a, b)

  once_each : (n : ℕ) (es : List TermEvent) → AreNumberedFrom labels n es → (s : Shape) → HasParts w true seq (map Event es) s → (j : ℕ) → times j s ≤ 1
  once_each n [] h s no_part j = omega arith
  once_each n (e ∷ es) (h, l, i) _ (one_part {t = t} has_event k) j =
      first_or (e.number == j) refl (once_each (suc n) es i t k j)
    where
      first_or : (b : Bool) → (e.number == j) ≡ b → times j t ≤ 1 → one_or_none b + times j t ≤ 1
      first_or true q few =
          let m = (Decides-eqb e.number j).0 q in
          let b = none_below (suc n) es i t k j (omega (arith, h, m)) in
          omega (arith, b)
      first_or false q few = omega (arith, few)

-- a row of events is open already
pub flat_events : (es : List TermEvent) → flat seq (map Event es) ≡ map Event es
flat_events [] = refl
flat_events (e ∷ es) = ap (λ l. Event e ∷ l) (flat_events es)

-- all parts of a row of events
module _ (E : TermEvent → Type 0) (B : Tree → List (ℕ × ℕ) → Type 0) (L : Tree → Type 0) (N : ℕ → Spot → Goal → Type 0) where
  part_trees : (xs : List Tree) → Each (EveryPart E B L N) xs → EveryPartOf E B L N (trees xs)
  part_trees [] h = tt
  part_trees (x ∷ xs) (h, k) = (h, part_trees xs k)

  part_join : (m : Mode) (xs : List Tree) → Each (EveryPart E B L N) xs → EveryPart E B L N (join_of m xs)
  part_join m [] h = tt
  part_join m (x ∷ []) h = h.0
  part_join m (x ∷ y ∷ xs) h = part_trees (x ∷ y ∷ xs) h

  part_events : (es : List TermEvent) → ((e : TermEvent) → E e) → Each (EveryPart E B L N) (map Event es)
  part_events [] h = tt
  part_events (e ∷ es) h = (h e, part_events es h)

  part_row : (es : List TermEvent) → ((e : TermEvent) → E e) → EveryPart E B L N (join_all seq (map Event es))
  part_row es h = part_join seq (flat seq (map Event es)) (subst (λ (xs : List Tree). Each (EveryPart E B L N) xs) (sym (flat_events es)) (part_events es h))

module _ (w : Tables) (j : ℕ) where
  outside_trees : (xs : List Tree) → Each (IsOutside (NetLacks w) j) xs → AreOutside (NetLacks w) j (trees xs)
  outside_trees [] h = tt
  outside_trees (x ∷ xs) (h, k) = (h, outside_trees xs k)

  outside_join : (m : Mode) (xs : List Tree) → Each (IsOutside (NetLacks w) j) xs → IsOutside (NetLacks w) j (join_of m xs)
  outside_join m [] h = tt
  outside_join m (x ∷ []) h = h.0
  outside_join m (x ∷ y ∷ xs) h = outside_trees (x ∷ y ∷ xs) h

  outside_events : (es : List TermEvent) → Each (IsOutside (NetLacks w) j) (map Event es)
  outside_events [] = tt
  outside_events (e ∷ es) = (tt, outside_events es)

  pub outside_row : (es : List TermEvent) → IsOutside (NetLacks w) j (join_all seq (map Event es))
  outside_row es = outside_join seq (flat seq (map Event es)) (subst (λ (xs : List Tree). Each (IsOutside (NetLacks w) j) xs) (sym (flat_events es)) (outside_events es))

nodes_of_events : ConstructorsKeepSoundness → (labels : ℕ) (w : Tables) (n : ℕ) (es : List TermEvent) → AreNumberedFrom labels n es → Each (IsSoundNode labels w) (map Event es)
nodes_of_events keep labels w n [] h = tt
nodes_of_events keep labels w n (e ∷ es) (h, l, k) = (keep.event labels w e l, nodes_of_events keep labels w (suc n) es k)

row_is_sound : NormalFormsKeepPatterns → ConstructorsKeepSoundness → (labels n : ℕ) (w : Tables) (es : List TermEvent) (q : List (ℕ × ℕ)) → AreSoundNets labels w → AreNumberedFrom labels n es → DoRise q
    → IsSoundNode labels w (tie_of (join_all seq (map Event es)) q)
row_is_sound same_as keep labels n w es q nets h up =
    keep.tied labels w x q nets (keep.join labels w seq (map Event es) nets (nodes_of_events keep labels w n es h))
    (part_row (λ e. Unit {0}) (λ y r. (j : ℕ) → InPairs j r → IsOutside (NetLacks w) j y) (λ y. Unit {0}) (λ n f t. Unit {0}) es (λ e. tt), λ j i. outside_row w j es)
    (part_row (λ e. Unit {0}) (λ y r. (j : ℕ) → InPairs j r → (s : Shape) → HasPattern (terms_over w) true y s → times j s ≤ 1) (λ y. Unit {0}) (λ n f t. Unit {0}) es (λ e. tt), once)
    (λ j. self_less (pairs q j j) j (up j j)) orders
  where
    x : Tree
    x = join_all seq (map Event es)

    self_less : (b : Bool) (j : ℕ) → (b ≡ true → j < j) → b ≡ false
    self_less true j f = absurd (omega (arith, f refl))
    self_less false j f = refl

    orders : HasOrders w (Tied x q)
    orders _ (holds_tie {s = s} k) =
        let (t, p, e) = (same_as.join true w seq (map Event es)).to s k in
        order_same (bind s q) (bind t q) (in_bind e)
        (ranked (bind t q) (λ i. (event_at numbered t i).number) (λ i j b. elim b [
          | inl a ↦ rise labels (terms_over w) n es h t p i j a
          | inr a ↦ up (event_at numbered t i).number (event_at numbered t j).number a
        ]))

    once : (j : ℕ) → InPairs j q → (s : Shape) → HasPattern (terms_over w) true x s → times j s ≤ 1
    once j i s k =
        let (t, p, e) = (same_as.join true w seq (map Event es)).to s k in
        let a = times_same j e in
        let b = once_each labels (terms_over w) n es h t p j in
        omega (arith, a, b)

pub rising_rows_are_sound : NormalFormsKeepPatterns → ConstructorsKeepSoundness → RisingRowsAreSound
rising_rows_are_sound same_as keep = record { sound = row_is_sound same_as keep }
