-- Where the charts of a document break the rules on decomposed instances: where those of its one table do; where no chart has decomposed
-- instances, nowhere.
use Rattle.std.proofs.Common.{◌≡◌, ◌∙◌, inl, inr, ℕ, Bool, true, false, ◌||◌, List, [], ◌∷◌, ◌++◌, Option, None, Some, map, refl, sym, subst, ap}
use Rattle.std.specs.List.{flat_map, list_any}
use Rattle.std.specs.Borrow.{Bor}
use Rattle.std.specs.Option.{is_some, option_copied}
use Rattle.std.proofs.lemmas.Bool.{or_left, or_right}
use Rattle.chart_links.specs.Summaries.{Summary, summary_of}
use Rattle.chart_links.specs.declared.tables.LinkTables.{LinkTables}
use Rattle.chart_text.specs.Texts.{Passage, chart_text}
use Rattle.msc_acceptance.proofs.AcceptedLaws.{chart_names, entry_names}
use Rattle.msc_acceptance.proofs.GroupLaws.{four_best}
use Rattle.msc_acceptance.proofs.OneTable.{one_table}
use Rattle.msc_acceptance.proofs.WalkLaws.{either_least}
use Rattle.msc_acceptance.specs.Acceptance.{BreaksOf}
use Rattle.msc_acceptance.specs.ChartFaults.{BreaksRefinementAt}
use Rattle.msc_acceptance.specs.Deciding.{decompositions}
use Rattle.msc_acceptance.specs.Deciding as deciding
use Rattle.msc_acceptance.specs.RefinedTexts.{AreKnownLinks, AreLinksOf, AreRefinementPlaces, is_refined, is_refined_chart, is_refined_text, passage_refines}
use Rattle.msc_acceptance.specs.Rules.{InOne}
use Rattle.level_pieces.proofs.LeastLaws.{least_same}
use Rattle.msc_base.specs.Lists.{IsAmong}
use Rattle.msc_base.specs.Places.{IsLeast}
use Rattle.msc_base.specs.declared.place.Place.{Place}
use Rattle.msc_instances.specs.Instances.{instances}
use Rattle.msc_meaning.specs.Tables.{ChartEntry, Table}
use Rattle.msc_meaning.specs.Views.{table_view}
use Rattle.msc_meaning.specs.declared.body.ChartEntry as code
use Rattle.msc_meaning.specs.WovenTables.{AreEntriesOf, IsEntryOf, chart_decls, declares, entry_and}
use Rattle.msc_rules.specs.FirstFaults.{IsBest, earlier_of, fault_of}
use Rattle.msc_rules.specs.Rules.{number_of}
use Rattle.msc_rules.specs.declared.rule.Rule.TheVariants.{DecompositionMismatch, Inside, LocalEvent, SharedPart}
use Rattle.msc_tree.specs.Charts.{Chart}
use Rattle.msc_tree.specs.declared.chart.Decl.{Decl}
use Rattle.refinement_rules.specs.Coregions.{HasLocalCoregion}
use Rattle.refinement_rules.specs.RefinementRules.{BreaksRefinementRule}
use Rattle.refinement_rules.specs.declared.faults.RefinementPlaces.{RefinementPlaces}
use Rattle.refinement_rules.specs.declared.faults.RefinementRule.{RefinementRule}
use Rattle.refinement_rules.specs.declared.faults.RefinementRule.TheVariants as rule

-- ---- the summaries have the names of the entries

names_same : (charts : List Chart) → map (λ (s : Summary). s.name) (map summary_of charts) ≡ chart_names charts
names_same [] = refl
names_same (c ∷ charts) = ap (λ (ns : List (List ℕ)). c.name ∷ ns) (names_same charts)

pub summary_names : (charts : List Chart) (table : Table) → AreEntriesOf instances charts table → map (λ (s : Summary). s.name) (map summary_of charts) ≡ map (λ (e : ChartEntry). e.name) table
summary_names charts table are = names_same charts ∙ sym (entry_names charts table are)

pub view_names : (entries : List code.ChartEntry) → map (λ (e : ChartEntry). e.name) (table_view entries) ≡ map (λ (e : code.ChartEntry). e.name) entries
view_names [] = refl
view_names (e ∷ entries) = ap (λ (ns : List (List ℕ)). e.name ∷ ns) (view_names entries)

-- what is known is lent
pub known_lent : (charts : List Chart) (o : Option (Bor LinkTables)) → AreLinksOf charts (option_copied o) → AreKnownLinks charts o
known_lent charts None h = h
known_lent charts (Some t) h = h

-- ---- no decomposed instances

any_left : (xs ys : List Decl) → list_any is_refined (xs ++ ys) ≡ (list_any is_refined xs || list_any is_refined ys)
any_left [] ys = refl
any_left (x ∷ xs) ys = by (is_refined x) (any_left xs ys)
  where
    by : (b : Bool) → list_any is_refined (xs ++ ys) ≡ (list_any is_refined xs || list_any is_refined ys) → (b || list_any is_refined (xs ++ ys)) ≡ ((b || list_any is_refined xs) || list_any is_refined ys)
    by true h = refl
    by false h = h

text_decls : (text : List Passage) → list_any is_refined (flat_map declares text) ≡ is_refined_text text
text_decls [] = refl
text_decls (p ∷ text) = any_left (declares p) (flat_map declares text) ∙ ap (λ (b : Bool). passage_refines p || b) (text_decls text)

one_refined : (ds : List Decl) (d : Decl) (chart : List ℕ) → IsAmong ds d → d.refined ≡ Some chart → list_any is_refined ds ≡ true
one_refined [] d chart m h = absurd m
one_refined (e ∷ ds) d chart (inl is) h = or_left (is_refined e) (list_any is_refined ds) (ap (λ (x : Decl). is_some x.refined) (sym is) ∙ ap (λ (o : Option (List ℕ)). is_some o) h)
one_refined (e ∷ ds) d chart (inr m) h = or_right (is_refined e) (list_any is_refined ds) (one_refined ds d chart m h)

drawn_of : (charts : List Chart) (table : Table) → AreEntriesOf instances charts table → (e : ChartEntry) → IsAmong table e → (c : Chart) × IsAmong charts c × IsEntryOf (instances c) c e
drawn_of [] [] are e m = absurd m
drawn_of [] (x ∷ table) are e m = elim are [ ]
drawn_of (c ∷ charts) [] are e m = absurd m
drawn_of (c ∷ charts) (x ∷ table) (entry_and is others) e (inl same) = (c, inl refl, subst (λ (y : ChartEntry). IsEntryOf (instances c) c y) (sym same) is)
drawn_of (c ∷ charts) (x ∷ table) (entry_and is others) e (inr m) = let (d, k, i) = drawn_of charts table others e m in (d, inr k, i)

none_true : (b : Bool) → b ≡ false → b ≡ true → ⊥
none_true true e f = absurd cc
none_true false e f = absurd cc

none_broken : (charts : List Chart) (table : Table) → AreEntriesOf instances charts table → ((c : Chart) → IsAmong charts c → is_refined_chart c ≡ false) → (links : List Summary) (rule : RefinementRule) (q : Place) → BreaksRefinementRule links table rule q → ⊥
none_broken charts table are none links rule q b =
    let (c, m, is) = drawn_of charts table are b.chart b.among in
    none_true (is_refined_chart c) (none c m)
    (sym (text_decls (chart_text c)) ∙ one_refined (chart_decls c) b.decl b.refining (subst (λ (ds : List Decl). IsAmong ds b.decl) is.decls b.declares) b.refines)

pub none_placed : (charts : List Chart) (table : Table) → AreEntriesOf instances charts table → ((c : Chart) → IsAmong charts c → is_refined_chart c ≡ false) → AreRefinementPlaces (map summary_of charts) table (record { mismatch = None; shared = None; inside = None; local = None })
none_placed charts table are none = record {
  mismatch = none_broken charts table are none (map summary_of charts) rule.DecompositionMismatch;
  shared = none_broken charts table are none (map summary_of charts) rule.SharedPart;
  inside = none_broken charts table are none (map summary_of charts) rule.Inside;
  local = none_broken charts table are none (map summary_of charts) rule.LocalEvent;
}

-- ---- the one table

module _ (charts : List Chart) (table : Table) (are : AreEntriesOf instances charts table) where
  table_breaks : (rule : RefinementRule) (q : Place) → BreaksRefinementRule (map summary_of charts) table rule q → BreaksRefinementAt rule charts q
  table_breaks rule q g = record { table = table; woven = are; breaks = g }

  chart_breaks : (rule : RefinementRule) (q : Place) → BreaksRefinementAt rule charts q → BreaksRefinementRule (map summary_of charts) table rule q
  chart_breaks rule q g = subst (λ (t : Table). BreaksRefinementRule (map summary_of charts) t rule q) (one_table charts g.table table g.woven are) g.breaks

  least_broken : (rule : RefinementRule) (place : Option Place) → IsLeast (BreaksRefinementRule (map summary_of charts) table rule) place → IsLeast (BreaksRefinementAt rule charts) place
  least_broken rule place h = least_same (BreaksRefinementRule (map summary_of charts) table rule) (BreaksRefinementAt rule charts) place (table_breaks rule) (chart_breaks rule) h

  pub refinements_best : (places : RefinementPlaces) (coregion : Option Place) → AreRefinementPlaces (map summary_of charts) table places → IsLeast (InOne HasLocalCoregion charts) coregion
      → IsBest number_of (BreaksOf charts) decompositions (earlier_of number_of (earlier_of number_of (earlier_of number_of (fault_of DecompositionMismatch places.mismatch) (fault_of SharedPart places.shared)) (fault_of Inside places.inside)) (fault_of LocalEvent (deciding.earlier_of coregion places.local)))
  refinements_best places coregion h k = four_best charts DecompositionMismatch SharedPart Inside LocalEvent places.mismatch places.shared places.inside (deciding.earlier_of coregion places.local)
      (least_broken rule.DecompositionMismatch places.mismatch h.mismatch) (least_broken rule.SharedPart places.shared h.shared) (least_broken rule.Inside places.inside h.inside)
      (either_least (InOne HasLocalCoregion charts) (BreaksRefinementAt rule.LocalEvent charts) coregion places.local k (least_broken rule.LocalEvent places.local h.local))
