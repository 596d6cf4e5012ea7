-- A worked chart meets what the laws ask.
use Rattle.std.specs.Prelude.{ℕ, zero, suc, ◌<◌, Bool, true, false, List, [], ◌∷◌, Some, None, codes, if◌then◌else◌}
use Rattle.std.specs.Str.{bytes_eq}
use Rattle.std.proofs.lemmas.Slice.Eq.{bytes_eq-Decides}
use Rattle.std.proofs.Common.{◌≡◌, refl, sym, subst, arith}
use Rattle.msc_base.specs.Orders.{Among, first, later}
use Rattle.msc_base.specs.declared.limits.TheConstants.Limits.{EXPANDED_NESTING}
use Rattle.expansion_tree.specs.Expansions.{events_in}
use Rattle.expansion_order.specs.declared.stops.Stop.{Stop}
use Rattle.expansion_order.specs.Ranks.{CanBeRanked, DoPrecede}
use Rattle.expanded_charts.specs.Expanding.{NumberedEvent}
use Rattle.expanded_charts.specs.WorkedExpansions.{acting, twice, used_twice, using}
use Rattle.expanded_terms.specs.FewPairs.{HasFewOwn}
use Rattle.expanded_terms.specs.FitBodies.{AreEndsOf}
use Rattle.expanded_terms.specs.GateTies.{IsQuietTable}
use Rattle.expanded_terms.specs.JoinProducts.{IsFewTo}
use Rattle.expanded_terms.specs.WholeCharts.{IsWholeTo}
use Rattle.gate_ends.specs.FoundEnds.{called_ends, chart_gates, table_ends}
use Rattle.msc_meaning.specs.Bodies.{WovenItems, no_items, item_and, Single, Refer}
use Rattle.msc_meaning.specs.Calls.{Call, calls}
use Rattle.msc_meaning.specs.InnerEvents.{AreEnds, no_ends}
use Rattle.msc_meaning.specs.MeaningLaws.{HaveOneEnd}
use Rattle.msc_meaning.specs.WorkedCharts.{i}
use Rattle.msc_meaning.specs.WorkedParts.{action, node, somewhere}
use Rattle.expanded_terms.specs.PlacedTerms.{child_of}
use Rattle.msc_meaning.specs.Tables.{ChartEntry, Basic}
use Rattle.node_ranks.specs.NamedCharts.{IsNestedTo}
use Rattle.made_terms.specs.DrawnWalks.{IsEndingTo}
use Rattle.table_terms.specs.SoundGraphs.{IsJudgedTo}
use Rattle.table_terms.specs.TableTerms.{chart_expansion, numbered_chart}
use Rattle.table_terms.specs.WorkedPremises.{PremisesAreMet}

nothing_among : {P : Type 0} {p : P} → Among p [] → ⊥
nothing_among a = elim a [ ]

none_behind : (rank : ℕ → ℕ) (ss : List Stop) → DoPrecede rank ss []
none_behind rank ss s t a b e = absurd (nothing_among b)

goes_before : DoPrecede (λ n. n) (record { column = 0; number = 0 } ∷ []) (record { column = 0; number = 1 } ∷ [])
goes_before s t first first e = omega arith
goes_before s t (later a) b e = absurd (nothing_among a)
goes_before s t first (later b) e = absurd (nothing_among b)

ends_of : (held : WovenItems) → calls held ≡ [] → AreEndsOf used_twice (table_ends used_twice) held
ends_of held e = record {
  there = subst (λ (cs : List Call). AreEnds used_twice held cs (called_ends (chart_gates used_twice) held cs)) (sym e) no_ends;
  one = subst (λ (cs : List Call). HaveOneEnd used_twice held cs) (sym e) (λ c a. absurd (nothing_among a));
}

acting_whole : (depth : ℕ) → IsWholeTo used_twice (table_ends used_twice) (suc depth) (codes "B")
acting_whole depth = record { entry = record { name = codes "B"; decls = []; content = Basic acting }; is = refl; whole = (ends_of (item_and (Single (node 0 i (action (codes "'x'")))) no_items) refl, (tt, tt)) }

abbrev using_items : WovenItems
using_items = item_and (Refer (record { name = None; expression = twice; joins = []; cover = i ∷ []; place = somewhere })) no_items

has_whole : IsWholeTo used_twice (table_ends used_twice) EXPANDED_NESTING (codes "Z")
has_whole = record { entry = record { name = codes "Z"; decls = []; content = Basic using }; is = refl; whole = (ends_of using_items refl, ((acting_whole 254, (acting_whole 254, tt)), tt)) }

is_quiet : IsQuietTable used_twice
is_quiet _ first = record { deep = tt; quiet = (λ c a. absurd (nothing_among a), tt) }
is_quiet _ (later first) = record { deep = (tt, (tt, tt)); quiet = (λ c a. absurd (nothing_among a), tt) }
is_quiet c (later (later a)) = absurd (nothing_among a)

acting_few : HasFewOwn (item_and (Single (node 0 i (action (codes "'x'")))) no_items) []
acting_few = record { numbers = (λ a. nothing_among a, tt); pairs = omega arith; calls = tt }

using_few : HasFewOwn (item_and (Refer (record { name = None; expression = twice; joins = []; cover = i ∷ []; place = somewhere })) no_items) []
using_few = record { numbers = tt; pairs = omega arith; calls = tt }

has_few : IsFewTo used_twice EXPANDED_NESTING (codes "Z")
has_few = (using_few, (((acting_few, (tt, tt)), ((acting_few, (tt, tt)), tt)), tt))

has_ranks : CanBeRanked (numbered_chart used_twice (codes "Z"))
has_ranks = record { rank = λ n. n; ranked = (λ p a. absurd (nothing_among a), (((λ p a. absurd (nothing_among a), (tt, (λ e. none_behind (λ n. n) _), tt)), (λ e. goes_before), (((λ n. n), (λ p a. absurd (nothing_among a), (tt, (λ e. none_behind (λ n. n) _), tt))), (λ e. none_behind (λ n. n) _), tt)), (λ e. none_behind (λ n. n) _), tt)) }

-- ---- charts

abbrev the_acting : ChartEntry
the_acting = record { name = codes "B"; decls = []; content = Basic acting }

abbrev the_using : ChartEntry
the_using = record { name = codes "Z"; decls = []; content = Basic using }

acting_nested : (depth : ℕ) → IsNestedTo used_twice (suc depth) (codes "B")
acting_nested depth = record { entry = record { name = codes "B"; decls = []; content = Basic acting }; is = refl; names = (tt, tt) }

is_nested : IsNestedTo used_twice EXPANDED_NESTING (codes "Z")
is_nested = record { entry = record { name = codes "Z"; decls = []; content = Basic using }; is = refl; names = ((acting_nested 254, (acting_nested 254, tt)), tt) }

acting_ending : (depth : ℕ) → IsEndingTo used_twice (suc depth) (codes "B")
acting_ending depth = record { has = record { entry = record { name = codes "B"; decls = []; content = Basic acting }; is = refl; names = (tt, tt) }; graphs = λ g i. elim i [ ] }

is_judged : IsJudgedTo used_twice EXPANDED_NESTING (codes "Z")
is_judged = record { has = record { entry = record { name = codes "Z"; decls = []; content = Basic using }; is = refl; names = ((acting_ending 254, (acting_ending 254, tt)), tt) }; content = tt }

acting_ranks : CanBeRanked (numbered_chart used_twice (codes "B"))
acting_ranks = record { rank = λ n. n; ranked = (λ p a. absurd (nothing_among a), (tt, (λ e. none_behind (λ n. n) _), tt)) }

-- a chart that is there is one of the two
are_ranked : (depth : ℕ) (other : List ℕ) → depth < EXPANDED_NESTING → IsNestedTo used_twice depth other → CanBeRanked (numbered_chart used_twice other)
are_ranked zero other l w = absurd w
are_ranked (suc depth) other l w = by (bytes_eq (codes "B") other) (bytes_eq (codes "Z") other) refl refl w.is
  where
    by : (a b : Bool) → bytes_eq (codes "B") other ≡ a → bytes_eq (codes "Z") other ≡ b → (if a then Some the_acting else (if b then Some the_using else None)) ≡ Some w.entry → CanBeRanked (numbered_chart used_twice other)
    by true b p q e = subst (λ (n : List ℕ). CanBeRanked (numbered_chart used_twice n)) ((bytes_eq-Decides (codes "B") other).0 p) acting_ranks
    by false true p q e = subst (λ (n : List ℕ). CanBeRanked (numbered_chart used_twice n)) ((bytes_eq-Decides (codes "Z") other).0 q) has_ranks
    by false false p q e = absurd cc

is_placed : (e : NumberedEvent) → Among e (events_in (chart_expansion used_twice (codes "Z"))) → e.happening.also ≡ child_of e.happening.label
is_placed e first = refl
is_placed e (later first) = refl
is_placed e (later (later a)) = absurd (nothing_among a)

is_apart : (e : NumberedEvent) → Among e (events_in (chart_expansion used_twice (codes "Z"))) → e.happening.also ≡ Some e.happening.label.at → ⊥
is_apart e first q = absurd cc
is_apart e (later first) q = absurd cc
is_apart e (later (later a)) q = absurd (nothing_among a)

pub premises_are_met : PremisesAreMet
premises_are_met = record {
  graphs = record { judged = is_judged; nested = is_nested; ranked = are_ranked };
  whole = has_whole;
  quiet = is_quiet;
  ranked = has_ranks;
  few = has_few;
  room = record { few = omega arith; apart = is_apart };
  placed = is_placed;
}
