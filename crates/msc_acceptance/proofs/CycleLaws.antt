-- The earliest chart whose order is cyclic, by what is told of each.
use Rattle.std.proofs.Common.{◌≡◌, ◌<◌, ◌+◌, arith, drop, get_or, length, inl, inr, ℕ, Bool, true, false, List, [], ◌∷◌, Option, None, map, refl, sym, subst, ap, ◌∙◌}
use Rattle.chart_cycles.specs.Cycles.{AreOrdered, IsOrdered, TellCycles, TellsCycle}
use Rattle.std.proofs.lemmas.List.{get_or_default}
use Rattle.level_pieces.proofs.LeastLaws.{least_same}
use Rattle.list_facts.proofs.Reading.{drop_end, drop_read}
use Rattle.msc_base.proofs.Narrowing.{Narrows, narrows_end, narrows_rest, narrows_step}
use Rattle.msc_base.specs.Lists.{IsAmong}
use Rattle.msc_base.specs.Places.{IsLeast, earliest_if}
use Rattle.msc_base.specs.declared.limits.TheConstants.Limits.{EXPANDED_NESTING}
use Rattle.msc_base.specs.declared.place.Place.{Place}
use Rattle.msc_instances.specs.Instances.{instances}
use Rattle.msc_meaning.specs.Tables.{Table}
use Rattle.msc_meaning.specs.WovenTables.{AreEntriesOf, entry_and}
use Rattle.msc_tree.specs.Charts.{Chart}
use Rattle.msc_acceptance.specs.ChartFaults.{IsCyclicAt}
use Rattle.msc_acceptance.specs.Deciding.{IsFlagged, TellsEarliest}
use Rattle.msc_acceptance.proofs.OneTable.{one_table}

abbrev places_of : List Chart → List Place
places_of charts = map (λ (c : Chart). c.place) charts

module _ (table : Table) where
  -- the chart whose flag is set there is cyclic
  flagged_is : (charts : List Chart) (entries : Table) (flags : List Bool) → AreEntriesOf instances charts entries → TellCycles table EXPANDED_NESTING entries flags → (q : Place) → IsFlagged (places_of charts) flags q
      → (c : Chart) × IsAmong charts c × (c.place ≡ q) × (IsOrdered table EXPANDED_NESTING c.name → ⊥)
  flagged_is [] [] flags h told q g = absurd g
  flagged_is [] (e ∷ entries) flags h told q g = absurd g
  flagged_is (c ∷ charts) [] flags h told q g = elim h [ ]
  flagged_is (c ∷ charts) (e ∷ entries) [] h told q g = absurd g
  flagged_is (c ∷ charts) (e ∷ entries) (b ∷ flags) (entry_and is others) told q (inl g) =
      (c, inl refl, g.0, λ ordered. (subst (TellsCycle table EXPANDED_NESTING e) g.1 told.0) (subst (IsOrdered table EXPANDED_NESTING) (sym is.name) ordered))
  flagged_is (c ∷ charts) (e ∷ entries) (b ∷ flags) (entry_and is others) told q (inr g) =
      let (d, m, at, cyclic) = flagged_is charts entries flags others told.1 q g in (d, inr m, at, cyclic)

  -- a cyclic chart has its flag set
  is_flagged : (charts : List Chart) (entries : Table) (flags : List Bool) → AreEntriesOf instances charts entries → TellCycles table EXPANDED_NESTING entries flags → (c : Chart) → IsAmong charts c
      → (IsOrdered table EXPANDED_NESTING c.name → ⊥) → IsFlagged (places_of charts) flags c.place
  is_flagged [] entries flags h told c m cyclic = absurd m
  is_flagged (d ∷ charts) [] flags h told c m cyclic = elim h [ ]
  is_flagged (d ∷ charts) (e ∷ entries) [] h told c m cyclic = absurd told
  is_flagged (d ∷ charts) (e ∷ entries) (b ∷ flags) (entry_and is others) told c (inl same) cyclic = inl (ap (λ (x : Chart). x.place) (sym same), set b told.0)
    where
      name : e.name ≡ c.name
      name = is.name ∙ ap (λ (x : Chart). x.name) (sym same)

      set : (b : Bool) → TellsCycle table EXPANDED_NESTING e b → b ≡ true
      set true t = refl
      set false t = absurd (cyclic (subst (IsOrdered table EXPANDED_NESTING) name t))
  is_flagged (d ∷ charts) (e ∷ entries) (b ∷ flags) (entry_and is others) told c (inr m) cyclic = inr (is_flagged charts entries flags others told.1 c m cyclic)

  unflagged_ordered : (charts : List Chart) (entries : Table) (flags : List Bool) → AreEntriesOf instances charts entries → TellCycles table EXPANDED_NESTING entries flags → ((q : Place) → IsFlagged (places_of charts) flags q → ⊥)
      → AreOrdered table EXPANDED_NESTING entries
  unflagged_ordered charts [] flags h told none = tt
  unflagged_ordered [] (e ∷ entries) flags h told none = elim h [ ]
  unflagged_ordered (c ∷ charts) (e ∷ entries) [] h told none = absurd told
  unflagged_ordered (c ∷ charts) (e ∷ entries) (true ∷ flags) (entry_and is others) told none = absurd (none c.place (inl (refl, refl)))
  unflagged_ordered (c ∷ charts) (e ∷ entries) (false ∷ flags) (entry_and is others) told none = (told.0, unflagged_ordered charts entries flags others told.1 (λ q g. none q (inr g)))

-- ---- the loop over the flags

module _ (stands : List Place) (flags : List Bool) where
  pub flag_step : (i n : ℕ) (d : Place) (e : Bool) (best : Option Place) → n < length stands → i < length flags
      → Narrows (IsFlagged stands flags) (IsFlagged (drop n stands) (drop i flags)) best
      → Narrows (IsFlagged stands flags) (IsFlagged (drop (n + 1) stands) (drop (i + 1) flags)) (earliest_if (get_or flags i e) best (get_or stands n d))
  flag_step i n d e best low small h =
      let p = get_or stands n d in
      let b = get_or flags i e in
      let now : Narrows (IsFlagged stands flags) (IsFlagged (p ∷ drop (n + 1) stands) (b ∷ drop (i + 1) flags)) best =
      subst (λ (l : List Bool). Narrows (IsFlagged stands flags) (IsFlagged (p ∷ drop (n + 1) stands) l) best) (drop_read flags i b small (get_or_default flags i e b small))
      (subst (λ (l : List Place). Narrows (IsFlagged stands flags) (IsFlagged l (drop i flags)) best) (drop_read stands n p low (get_or_default stands n d p low)) h) in
      narrows_step (IsFlagged stands flags) (IsFlagged (drop (n + 1) stands) (drop (i + 1) flags)) best p b (b ≡ true) now (λ e. e) (λ e. e)

  -- behind the last place
  none_left : (n : ℕ) (l : List Bool) (q : Place) → (n < length stands → ⊥) → IsFlagged (drop n stands) l q → ⊥
  none_left n l q high g = subst (λ (s : List Place). IsFlagged s l q) (drop_end stands n high) g

  pub flag_skip : (i n : ℕ) (best : Option Place) → (n < length stands → ⊥) → Narrows (IsFlagged stands flags) (IsFlagged (drop n stands) (drop i flags)) best
      → Narrows (IsFlagged stands flags) (IsFlagged (drop (n + 1) stands) (drop (i + 1) flags)) best
  flag_skip i n best high h =
      narrows_rest (IsFlagged stands flags) (IsFlagged (drop n stands) (drop i flags)) (IsFlagged (drop (n + 1) stands) (drop (i + 1) flags)) best h (λ q g. absurd (none_left n (drop i flags) q high g))
      (λ q g. absurd (none_left (n + 1) (drop (i + 1) flags) q (λ lt. high (omega (arith, lt))) g))

  no_flag : (s : List Place) (q : Place) → IsFlagged s [] q → ⊥
  no_flag [] q g = g
  no_flag (p ∷ s) q g = g

  pub flag_end : (i n : ℕ) (best : Option Place) → (i < length flags → ⊥) → Narrows (IsFlagged stands flags) (IsFlagged (drop n stands) (drop i flags)) best → IsLeast (IsFlagged stands flags) best
  flag_end i n best high h =
      narrows_end (IsFlagged stands flags) (IsFlagged (drop n stands) (drop i flags)) best h (λ q g. no_flag (drop n stands) q (subst (λ (l : List Bool). IsFlagged (drop n stands) l q) (drop_end flags i high) g))

module _ (charts : List Chart) (table : Table) (are : AreEntriesOf instances charts table) (stands : List Place) (same : stands ≡ places_of charts) (place : Option Place) (told : TellsEarliest table stands place) where
  flagged : IsLeast (IsFlagged (places_of charts) told.flags) place
  flagged = subst (λ (ps : List Place). IsLeast (IsFlagged ps told.flags) place) same told.least

  to_cyclic : (q : Place) → IsFlagged (places_of charts) told.flags q → IsCyclicAt charts q
  to_cyclic q g =
      let (c, m, at, cyclic) = flagged_is table charts table told.flags are told.told q g in
      record { table = table; woven = are; chart = c; among = m; there = at; cyclic = cyclic }

  from_cyclic : (q : Place) → IsCyclicAt charts q → IsFlagged (places_of charts) told.flags q
  from_cyclic q g =
      let one : g.table ≡ table = one_table charts g.table table g.woven are in
      subst (IsFlagged (places_of charts) told.flags) g.there
      (is_flagged table charts table told.flags are told.told g.chart g.among (subst (λ (t : Table). IsOrdered t EXPANDED_NESTING g.chart.name → ⊥) one g.cyclic))

  pub cyclic_least : IsLeast (IsCyclicAt charts) place
  cyclic_least = least_same (IsFlagged (places_of charts) told.flags) (IsCyclicAt charts) place to_cyclic from_cyclic flagged

  pub ordered_where_none : place ≡ None → AreOrdered table EXPANDED_NESTING table
  ordered_where_none none = unflagged_ordered table charts table told.flags are told.told (subst (λ (o : Option Place). IsLeast (IsFlagged (places_of charts) told.flags) o) none flagged)
