-- The events of a chart's numbered expansion have room in a term.
use Rattle.std.specs.Prelude.{ℕ, ◌<◌, ◌≤◌, Bool, true, false, List, [], ◌∷◌, Option, Some, None, length, map, nat_lt, option_map}
use Rattle.std.specs.List.{slice_get}
use Rattle.std.specs.Option.{unwrap_or}
use Rattle.std.proofs.Common.{◌≡◌, ◌∙◌, refl, sym, ap, subst, arith}
use Rattle.std.proofs.lemmas.Bool.Decides.{Decides-ltb}
use Rattle.std.proofs.lemmas.Option.{same_Some}
use Rattle.msc_base.specs.declared.limits.TheConstants.Limits.{INSTANCES}
use Rattle.msc_base.specs.Orders.{Among, first, later}
use Rattle.msc_meaning.specs.Tables.{Table}
use Rattle.expansion_tree.specs.Expansions.{events_in}
use Rattle.expansion_tree.specs.declared.tree.ExpandedEvent.{ExpandedEvent}
use Rattle.expanded_charts.specs.Expanding.{NumberedEvent}
use Rattle.expanded_charts.specs.Numbering.{at_instances, event_by, instance_number, number_of_label}
use Rattle.expanded_charts.specs.declared.numbering.Numbering.{Numbering}
use Rattle.expansion_terms.specs.Stored.{IsStored, AreStored}
use Rattle.expanded_terms.proofs.RankedChartTerms.{mapped_events}
use Rattle.table_terms.specs.TableTerms.{chart_expansion, chart_numbering, numbered_chart, HasRoom}
use Rattle.table_terms.proofs.Numbered.{Has, have_events, name_found}

module _ (f : NumberedEvent → ExpandedEvent) where
  came_from : (es : List NumberedEvent) (d : ExpandedEvent) → Among d (map f es) → (e : NumberedEvent) × Among e es × (f e ≡ d)
  came_from (e ∷ es) _ first = (e, first, refl)
  came_from (e ∷ es) d (later h) = let (c, i, q) = came_from es d h in (c, later i, q)
  came_from [] d h = elim h [ ]

-- the number of an instance that is there
number_is : (s : Numbering) (i : List ℕ) → Among i s.names → (k : ℕ) × (instance_number s i ≡ k) × (slice_get s.names k ≡ Some i) × (k < length s.names)
number_is s i h = let (k, a, b, c) = name_found s.names i h in (k, ap (λ (o : Option ℕ). unwrap_or o 0) a, b, c)

two_stored : (n label i j : ℕ) → i < INSTANCES → j < INSTANCES → (i ≡ j → ⊥) → IsStored (at_instances n label i (Some j))
two_stored n label i j a b c = by (nat_lt j i) refl
  where
    by : (t : Bool) → nat_lt j i ≡ t → IsStored (at_instances n label i (Some j))
    by true e = let less = (Decides-ltb j i).0 e in rw e (record { at = b; also = λ x q. let r : i ≡ x = same_Some i x q in (omega (arith, less, r), omega (arith, a, r)) })
    by false e = let low = more (λ k. clash (sym e ∙ (Decides-ltb j i).1 k)) in rw e (record { at = a; also = λ x q. let r : j ≡ x = same_Some j x q in (omega (arith, low, r), omega (arith, b, r)) })
      where
        clash : false ≡ true → ⊥
        clash q = cc

        more : (j < i → ⊥) → i < j
        more f = omega (arith, f, c)

event_stored : (s : Numbering) (e : NumberedEvent) → Has s e → length s.names ≤ INSTANCES → (e.happening.also ≡ Some e.happening.label.at → ⊥) → IsStored (event_by s e)
event_stored s e h few apart = by e.happening.also refl (number_is s e.happening.label.at h.at)
  where
    by : (o : Option (List ℕ)) → e.happening.also ≡ o → (k : ℕ) × (instance_number s e.happening.label.at ≡ k) × (slice_get s.names k ≡ Some e.happening.label.at) × (k < length s.names)
        → IsStored (at_instances e.number (number_of_label s e.happening.label) (instance_number s e.happening.label.at) (option_map (instance_number s) o))
    by None q (k, is, got, less) = record { at = omega (arith, is, less, few); also = λ x u. absurd cc }
    by (Some j) q (k, is, got, less) = second (number_is s j (h.also j q))
      where
        second : (l : ℕ) × (instance_number s j ≡ l) × (slice_get s.names l ≡ Some j) × (l < length s.names)
            → IsStored (at_instances e.number (number_of_label s e.happening.label) (instance_number s e.happening.label.at) (Some (instance_number s j)))
        second (l, are, has, low) = two_stored e.number (number_of_label s e.happening.label) (instance_number s e.happening.label.at) (instance_number s j) (omega (arith, is, less, few)) (omega (arith, are, low, few)) differ
          where
            differ : instance_number s e.happening.label.at ≡ instance_number s j → ⊥
            differ same = apart (q ∙ ap Some (same_Some j e.happening.label.at (sym has ∙ (ap (λ (m : ℕ). slice_get s.names m) (sym are ∙ (sym same ∙ is)) ∙ got))))

pub chart_stored : (table : Table) (name : List ℕ) → HasRoom table name → AreStored (events_in (numbered_chart table name))
chart_stored table name h d i = by (came_from (event_by (chart_numbering table name)) (events_in (chart_expansion table name)) d
    (subst (λ (l : List ExpandedEvent). Among d l) (mapped_events (event_by (chart_numbering table name)) (chart_expansion table name)) i))
  where
    by : (e : NumberedEvent) × Among e (events_in (chart_expansion table name)) × (event_by (chart_numbering table name) e ≡ d) → IsStored d
    by (e, j, q) = subst (λ (d : ExpandedEvent). IsStored d) q (event_stored (chart_numbering table name) e (have_events (events_in (chart_expansion table name)) (record { names = []; labels = [] }) e j) h.few (h.apart e j))
