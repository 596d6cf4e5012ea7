-- The rules by numbers are those by names.
use Rattle.std.proofs.Common.{◌≡◌, ◌↔◌, ◌⊎◌, inl, inr, ℕ, Bool, true, false, not, ◌&&◌, ◌||◌, if◌then◌else◌, List, [], ◌∷◌, ◌++◌, map, Option, Some, None, refl, sym, ap, subst, ◌∙◌}
use Rattle.std.proofs.lemmas.Bool.{true≢false, or_left, or_right, or_cases, false_from_ne_true}
use Rattle.std.proofs.lemmas.List.Folds.{list_any-append}
use Rattle.std.proofs.lemmas.Slice.Eq.{bytes_eq-Decides}
use Rattle.std.specs.List.{find, list_any}
use Rattle.std.specs.Option.{is_some, option_or}
use Rattle.std.specs.Str.{bytes_eq}
use Rattle.chart_forms.specs.BodyEvents.{events_within, operands_within}
use Rattle.chart_links.proofs.TableFacts.{called_leads, expanded_numbered, has_number, same_name, same_number}
use Rattle.chart_links.specs.References.{HaveCommon, IsCalled, IsExpanded, Leads}
use Rattle.chart_links.specs.Rows.{RowHas}
use Rattle.chart_links.specs.Sets.{HasExpanded}
use Rattle.chart_links.specs.Summaries.{Summary}
use Rattle.chart_links.specs.Tables.{AreTables, IsNumber}
use Rattle.gate_ends.specs.FoundEnds.{level_names}
use Rattle.gate_ends.specs.LevelGates.{items_in}
use Rattle.msc_base.specs.Lists.{IsAmong}
use Rattle.msc_base.specs.declared.place.Place.{Place}
use Rattle.msc_meaning.specs.Bodies.{EventNode, Body, WovenItems, no_items, item_and, WovenItem, Single, Coregion, Inline, Refer, item_list}
use Rattle.msc_meaning.specs.Refinements.{is_env}
use Rattle.msc_meaning.specs.Tables.{Table, ChartEntry, Woven, Basic, HighLevel, body_in, body_at, chart_at, refined_as}
use Rattle.msc_tree.specs.declared.chart.Decl.{Decl}
use Rattle.refinement_rules.specs.Judging.{OfRefining, Decomposes, DeclHolds, some_refined, MismatchBy, OwnNumber, IsDouble, IsTaken, HasTaken, SharedBy, some_env, env_within, EnvNumber, operand_env, operands_env, inside_content, inside_entry, LeadsToEnv, InsideBy, CoversRefined, ItemLocal, BodyBreaks, ContentBreaks, EntryBreaks, TableBreaks}
use Rattle.refinement_rules.specs.PlainEvents.{is_plain}
use Rattle.refinement_rules.specs.RefinementRules.{IsShared, SharesPart, by_item, by_own, by_reference, by_other, HasEnv, IsInside, is_graph, is_refined, in_operand, in_other, IsLocalEvent, IsLocalPart, BreaksAt, BreaksRefinementRule, covered, item_cover, item_place, operand_events}
use Rattle.refinement_rules.specs.Walks.{OneHolds}
use Rattle.refinement_rules.specs.declared.faults.RefinementRule.{RefinementRule}
use Rattle.refinement_rules.specs.declared.faults.RefinementRule.TheVariants as rule
use Rattle.refinement_rules.proofs.DeclFacts.{refinements_some, some_refinements}
use Rattle.refinement_rules.proofs.Walked.{one_of, one_from, one_same}

-- ---- declarations

-- a declaration that says that a chart refines an instance of which it holds
pub record DeclFound (Holds : List ℕ → List ℕ → Type 0) (decls : List Decl) (place : Place) : Type 0 where
  pub decl : Decl
  pub declares : IsAmong decls decl
  pub refining : List ℕ
  pub refines : decl.refined ≡ Some refining
  pub stands : decl.place ≡ place
  pub holds : Holds decl.name refining

pub refining_of : (Holds : List ℕ → Type 0) (o : Option (List ℕ)) → OfRefining Holds o → (chart : List ℕ) × (o ≡ Some chart) × Holds chart
refining_of Holds None h = absurd h
refining_of Holds (Some chart) h = (chart, refl, h)

pub of_refining : (Holds : List ℕ → Type 0) (o : Option (List ℕ)) (chart : List ℕ) → o ≡ Some chart → Holds chart → OfRefining Holds o
of_refining Holds o chart is h = subst (OfRefining Holds) (sym is) h

pub decl_found : (Holds : List ℕ → List ℕ → Type 0) (decls : List Decl) (place : Place) → OneHolds (DeclHolds Holds) decls place ↔ DeclFound Holds decls place
decl_found Holds decls place = (
  λ h.
      let o = one_of (DeclHolds Holds) decls place h in
      let r = refining_of (Holds o.0.name) o.0.refined o.2.1 in
      record { decl = o.0; declares = o.1; refining = r.0; refines = r.1; stands = o.2.0; holds = r.2 },
  λ d. one_from (DeclHolds Holds) decls place d.decl d.declares (d.stands, of_refining (Holds d.decl.name) d.decl.refined d.refining d.refines d.holds),
)

-- an instance that is decomposed
pub record IsRefinedIn (decls : List Decl) (name : List ℕ) : Type 0 where
  pub decl : Decl
  pub declares : IsAmong decls decl
  pub called : decl.name ≡ name
  pub refining : List ℕ
  pub refines : decl.refined ≡ Some refining

pub decomposed_is : (decls : List Decl) (name : List ℕ) → OneHolds Decomposes decls name ↔ IsRefinedIn decls name
decomposed_is decls name = (
  λ h.
      let o = one_of Decomposes decls name h in
      let r = refining_of (λ chart. Unit {0}) o.0.refined o.2.0 in
      record { decl = o.0; declares = o.1; called = o.2.1; refining = r.0; refines = r.1 },
  λ d. one_from Decomposes decls name d.decl d.declares (of_refining (λ chart. Unit {0}) d.decl.refined d.refining d.refines tt, d.called),
)

-- ---- events with the environment

pub env_is : (ns : List EventNode) → (some_env ns ≡ true) ↔ HasEnv ns
env_is [] = (λ h. absurd (true≢false (sym h)), λ e. absurd e.among)
env_is (n ∷ ns) = (to (env_is ns).0, λ e. from (env_is ns).1 e.event e.among e.env)
  where
    to : (some_env ns ≡ true → HasEnv ns) → some_env (n ∷ ns) ≡ true → HasEnv (n ∷ ns)
    to behind h = elim (or_cases (is_env n.event.target) (some_env ns) h) [
      | inl here ↦ record { event = n; among = inl refl; env = here }
      | inr there ↦ let e = behind there in record { event = e.event; among = inr e.among; env = e.env }
    ]

    from : (HasEnv ns → some_env ns ≡ true) → (e : EventNode) → IsAmong (n ∷ ns) e → is_env e.event.target ≡ true → some_env (n ∷ ns) ≡ true
    from behind e (inl is) env = or_left (is_env n.event.target) (some_env ns) (subst (λ (x : EventNode). is_env x.event.target ≡ true) is env)
    from behind e (inr m) env = or_right (is_env n.event.target) (some_env ns) (behind (record { event = e; among = m; env = env }))

pub operands_is : (xs : WovenItems) → operands_env xs ≡ some_env (operand_events xs)
operands_is no_items = refl
operands_is (item_and (Single n) xs) = operands_is xs
operands_is (item_and (Coregion ns) xs) = operands_is xs
operands_is (item_and (Inline form part operands) xs) =
    ap (λ b. some_env (operands_within operands) || b) (operands_is xs) ∙ sym (list_any-append (λ (n : EventNode). is_env n.event.target) (operands_within operands) (operand_events xs))
operands_is (item_and (Refer part) xs) = operands_is xs

-- ---- local events

-- ---- local events

-- at that place an item of an instance of which it holds is no plain message event
pub data LocalFound (Refined : List ℕ → Type 0) (held : WovenItems) (place : Place) : Type 0 where
  an_event : (name : List ℕ) → Refined name → IsLocalEvent held name place → LocalFound Refined held place
  a_part : (name : List ℕ) → Refined name → IsLocalPart held name place → LocalFound Refined held place

local_of : (Refined : List ℕ → Type 0) (held : WovenItems) (place : Place) (x : WovenItem) → IsAmong (item_list held) x → ItemLocal Refined x place → LocalFound Refined held place
local_of Refined held place (Single n) m h = an_event n.at h.1.0 (record { event = n; among = m; own = refl; plain = λ t. true≢false (sym t ∙ h.1.1); stands = h.0 })
local_of Refined held place (Coregion ns) m h = absurd h
local_of Refined held place (Inline form part operands) m h = a_part h.1.name h.1.refined (record { item = Inline form part operands; among = m; own = h.1.among; stands = ap Some h.0 })
local_of Refined held place (Refer part) m h = a_part h.1.name h.1.refined (record { item = Refer part; among = m; own = h.1.among; stands = ap Some h.0 })

same_place : (a b : Place) → Some a ≡ Some b → a ≡ b
same_place a b e = cc

part_local : (Refined : List ℕ → Type 0) (name : List ℕ) (place : Place) (x : WovenItem) → Refined name → IsAmong (item_cover x) name → item_place x ≡ Some place → ItemLocal Refined x place
part_local Refined name place (Single n) r m e = absurd m
part_local Refined name place (Coregion ns) r m e = absurd m
part_local Refined name place (Inline form part operands) r m e = (same_place part.place place e, record { name = name; among = m; refined = r })
part_local Refined name place (Refer part) r m e = (same_place part.place place e, record { name = name; among = m; refined = r })

pub local_found : (Refined : List ℕ → Type 0) (held : WovenItems) (place : Place) → OneHolds (ItemLocal Refined) (item_list held) place ↔ LocalFound Refined held place
local_found Refined held place = (λ h. let o = one_of (ItemLocal Refined) (item_list held) place h in local_of Refined held place o.0 o.1 o.2, from)
  where
    from : LocalFound Refined held place → OneHolds (ItemLocal Refined) (item_list held) place
    from (an_event name r l) = one_from (ItemLocal Refined) (item_list held) place (Single l.event) l.among (l.stands, (subst Refined (sym l.own) r, false_from_ne_true (is_plain l.event.event) l.plain))
    from (a_part name r l) = one_from (ItemLocal Refined) (item_list held) place l.item l.among (part_local Refined name place l.item r l.own l.stands)

-- ---- charts by their names

pub found_chart : (table : Table) (name : List ℕ) (c : ChartEntry) → chart_at table name ≡ Some c → IsAmong table c × (c.name ≡ name)
found_chart [] name c h = let none : None ≡ Some c = h in absurd (cc)
found_chart (d ∷ table) name c h = by (found_chart table name c) (bytes_eq d.name name) refl h
  where
    by : (chart_at table name ≡ Some c → IsAmong table c × (c.name ≡ name)) → (b : Bool) → bytes_eq d.name name ≡ b → (if b then Some d else chart_at table name) ≡ Some c → IsAmong (d ∷ table) c × (c.name ≡ name)
    by behind true e f = let same : c ≡ d = cc in (inl same, ap (λ (x : ChartEntry). x.name) same ∙ (bytes_eq-Decides d.name name).0 e)
    by behind false e f = let r = behind f in (inr r.0, r.1)

-- one of the name is there
pub chart_there : (table : Table) (name : List ℕ) (c : ChartEntry) → IsAmong table c → c.name ≡ name → (d : ChartEntry) × (chart_at table name ≡ Some d)
chart_there [] name c m is = absurd m
chart_there (d ∷ table) name c m is = by (λ f. chart_there table name c f is) (bytes_eq d.name name) refl m
  where
    by : (IsAmong table c → (x : ChartEntry) × (chart_at table name ≡ Some x)) → (b : Bool) → bytes_eq d.name name ≡ b → IsAmong (d ∷ table) c → (x : ChartEntry) × ((if b then Some d else chart_at table name) ≡ Some x)
    by behind true e f = (d, refl)
    by behind false e (inl same) = absurd (true≢false (sym ((bytes_eq-Decides d.name name).1 (ap (λ (x : ChartEntry). x.name) (sym same) ∙ is)) ∙ e))
    by behind false e (inr f) = behind f

pub body_there : (o : Option ChartEntry) (b : Body) → body_in o ≡ Some b → (c : ChartEntry) × (o ≡ Some c) × (c.content ≡ Basic b)
body_there None b e = let none : None ≡ Some b = e in absurd (cc)
body_there (Some c) b e = (c, refl, by c.content refl e)
  where
    by : (w : Woven) → c.content ≡ w → body_in (Some (record { name = c.name; decls = c.decls; content = w })) ≡ Some b → c.content ≡ Basic b
    by (Basic body) at f = let same : body ≡ b = cc in at ∙ ap Basic same
    by (HighLevel drawn) at f = let none : None ≡ Some b = f in absurd (cc)
