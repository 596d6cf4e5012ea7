-- The rules by the numbers of charts and instances are those by their names.
use Rattle.std.proofs.Common.{◌≡◌, ◌↔◌, ◌⊎◌, inl, inr, ℕ, Bool, true, false, ◌||◌, List, [], ◌∷◌, Option, Some, None, refl, sym, ap, subst, ◌∙◌}
use Rattle.std.proofs.lemmas.Bool.{true≢false, or_left, or_right, or_cases}
use Rattle.std.proofs.lemmas.Slice.Eq.{bytes_eq-Decides}
use Rattle.std.specs.Str.{bytes_eq}
use Rattle.chart_forms.specs.BodyEvents.{events_within}
use Rattle.chart_links.proofs.TableFacts.{called_leads, expanded_numbered, has_number, same_name, same_number}
use Rattle.chart_links.specs.References.{HaveCommon, IsCalled, IsExpanded, Leads, there, onward}
use Rattle.chart_links.specs.Rows.{RowHas}
use Rattle.chart_links.specs.Sets.{HasExpanded}
use Rattle.chart_links.specs.Summaries.{Summary}
use Rattle.chart_links.specs.Tables.{AreTables, IsNumber}
use Rattle.gate_ends.specs.FoundEnds.{level_names}
use Rattle.gate_ends.specs.LevelGates.{items_in}
use Rattle.msc_base.specs.Lists.{IsAmong}
use Rattle.msc_base.specs.declared.place.Place.{Place}
use Rattle.msc_meaning.specs.Bodies.{Body, item_list}
use Rattle.msc_meaning.specs.Tables.{Table, ChartEntry, Woven, Basic, HighLevel, body_in, body_at, chart_at, refined_as, refinements}
use Rattle.msc_tree.specs.declared.chart.Decl.{Decl}
use Rattle.refinement_rules.specs.Judging.{OfRefining, Decomposes, some_refined, MismatchBy, OwnNumber, IsDouble, IsTaken, HasTaken, SharedBy, some_env, env_within, EnvNumber, operands_env, inside_content, inside_entry, LeadsToEnv, InsideBy, ContentBreaks, EntryBreaks, TableBreaks}
use Rattle.refinement_rules.specs.RefinementRules.{IsShared, SharesPart, by_item, by_own, by_reference, by_other, HasEnv, IsInside, is_graph, is_refined, in_operand, in_other, BreaksAt, BreaksRefinementRule, IsLocalEvent, IsLocalPart, covered, operand_events}
use Rattle.refinement_rules.specs.Walks.{OneHolds}
use Rattle.refinement_rules.specs.declared.faults.RefinementRule.{RefinementRule}
use Rattle.refinement_rules.specs.declared.faults.RefinementRule.TheVariants as rule
use Rattle.refinement_rules.proofs.DeclFacts.{of_unrefined, refinements_some, some_refinements, unrefined_of}
use Rattle.refinement_rules.proofs.Semantics.{DeclFound, LocalFound, an_event, a_part, body_there, chart_there, decl_found, decomposed_is, env_is, found_chart, local_found, operands_is, refining_of, of_refining}
use Rattle.refinement_rules.proofs.Walked.{one_from, one_of}

same_or_not : (a b : List ℕ) → (a ≡ b) ⊎ (a ≡ b → ⊥)
same_or_not a b = by (bytes_eq a b) refl
  where
    by : (t : Bool) → bytes_eq a b ≡ t → (a ≡ b) ⊎ (a ≡ b → ⊥)
    by true e = inl ((bytes_eq-Decides a b).0 e)
    by false e = inr (λ same. true≢false (sym ((bytes_eq-Decides a b).1 same) ∙ e))

module _ (links : List Summary) (names known reach expanded : List (List ℕ)) (t : AreTables links names known reach expanded) where
  -- ---- expanded instances by their numbers

  -- the instance that has the number
  pub record IsNumbered (chart : List ℕ) (n : ℕ) : Type 0 where
    pub instance : List ℕ
    pub number_is : IsNumber known instance n
    pub expanded_is : IsExpanded links chart instance

  numbered_of : (chart : List ℕ) (n : ℕ) → HasExpanded names expanded chart n → IsNumbered chart n
  numbered_of chart n h =
      let i = t.numbered h.from n h.has in
      record { instance = i.0; number_is = i.1; expanded_is = (t.expands chart i.0 h.from n h.from_is i.1).0 h.has }

  expanded_of : (chart instance : List ℕ) (n : ℕ) → HasExpanded names expanded chart n → IsNumber known instance n → IsExpanded links chart instance
  expanded_of chart instance n h is = (t.expands chart instance h.from n h.from_is is).0 h.has

  number_of : (chart instance : List ℕ) → IsExpanded links chart instance → (n : ℕ) × IsNumber known instance n × HasExpanded names expanded chart n
  number_of chart instance x =
      let k = expanded_numbered links names known reach expanded t chart instance x in
      (k.1.0, k.1.1, record { from = k.0.0; from_is = k.0.1; has = (t.expands chart instance k.0.0 k.1.0 k.0.1 k.1.1).1 x })

  has_of : (chart instance : List ℕ) (n : ℕ) → IsExpanded links chart instance → IsNumber known instance n → HasExpanded names expanded chart n
  has_of chart instance n x is =
      let k = number_of chart instance x in
      subst (HasExpanded names expanded chart) (same_number known instance k.0 n k.1 is) k.2

  common_of : (a b : List ℕ) (n : ℕ) → HasExpanded names expanded a n → HasExpanded names expanded b n → HaveCommon links a b
  common_of a b n h g = let i = numbered_of a n h in record { instance = i.instance; first = i.expanded_is; second = expanded_of b i.instance n g i.number_is }

  -- ---- shared

  module _ (c : ChartEntry) (body : Body) (decl : Decl) (declares : IsAmong c.decls decl) (refining : List ℕ) (refines : decl.refined ≡ Some refining) where
    other_shares : (d : Decl) (n : ℕ) → IsAmong c.decls d → (d.name ≡ decl.name → ⊥) → OfRefining (λ chart. HasExpanded names expanded chart n) d.refined → HasExpanded names expanded refining n → SharesPart links c body decl.name refining
    other_shares d n m differs h mine =
        let r = refining_of (λ chart. HasExpanded names expanded chart n) d.refined h in
        by_other d r.0 m differs r.1 (common_of refining r.0 n mine r.2)

    double_shares : (n : ℕ) → HasExpanded names expanded refining n → IsDouble names expanded c.decls n → SharesPart links c body decl.name refining
    double_shares n mine d = elim (same_or_not d.one.name decl.name) [
      | inl same ↦ other_shares d.other n d.other_among (λ e. d.differs (same ∙ sym e)) d.second mine
      | inr apart ↦ other_shares d.one n d.one_among apart d.first mine
    ]

    taken_shares : (n : ℕ) → HasExpanded names expanded refining n → IsTaken names known expanded c.decls body n → SharesPart links c body decl.name refining
    taken_shares n mine (inl own) =
        let o = one_of (OwnNumber known (OneHolds Decomposes c.decls)) (covered body) n own in
        by_own o.0 o.1 (unrefined_of c.decls o.0 o.2.0) (expanded_of refining o.0 n mine o.2.1)
    taken_shares n mine (inr (inl named)) =
        let o = one_of (HasExpanded names expanded) (level_names body) n named in
        by_reference o.0 o.1 (common_of refining o.0 n mine o.2)
    taken_shares n mine (inr (inr double)) = double_shares n mine double

    pub shared_to : SharedBy names known expanded c.decls body decl.name refining → SharesPart links c body decl.name refining
    shared_to (inl item) = by_item item
    shared_to (inr h) = taken_shares h.number h.there h.taken

    pub shared_from : SharesPart links c body decl.name refining → SharedBy names known expanded c.decls body decl.name refining
    shared_from (by_item item) = inl item
    shared_from (by_own own m none x) =
        let k = number_of refining own x in
        inr (record { number = k.0; there = k.2; taken = inl (one_from (OwnNumber known (OneHolds Decomposes c.decls)) (covered body) k.0 own m (of_unrefined c.decls own none, k.1)) })
    shared_from (by_reference name m common) =
        let k = number_of refining common.instance common.first in
        inr (record { number = k.0; there = k.2; taken = inr (inl (one_from (HasExpanded names expanded) (level_names body) k.0 name m (has_of name common.instance k.0 common.second k.1))) })
    shared_from (by_other d name m differs is common) =
        let k = number_of refining common.instance common.first in
        let theirs = has_of name common.instance k.0 common.second k.1 in
        inr (record {
          number = k.0;
          there = k.2;
          taken = inr (inr (record {
            one = decl;
            other = d;
            one_among = declares;
            other_among = m;
            differs = λ e. differs (sym e);
            first = of_refining (λ chart. HasExpanded names expanded chart k.0) decl.refined refining refines k.2;
            second = of_refining (λ chart. HasExpanded names expanded chart k.0) d.refined name is theirs;
          }));
        })

  -- ---- inside

  module _ (table : Table) (called : (c : ChartEntry) → IsAmong table c → IsCalled links c.name) (chart : List ℕ) where
    content_inside : (c : ChartEntry) → chart_at table chart ≡ Some c → (w : Woven) → c.content ≡ w → inside_content w ≡ true → IsInside links table chart
    content_inside c is (Basic body) at h = in_operand body (ap body_in is ∙ basic) ((env_is (operand_events (items_in body))).0 (sym (operands_is (items_in body)) ∙ h))
      where
        basic : body_in (Some c) ≡ Some body
        basic = ap (λ (w : Woven). body_in (Some (record { name = c.name; decls = c.decls; content = w }))) at
    content_inside c is (HighLevel drawn) at h = is_graph (ap body_in is ∙ ap (λ (w : Woven). body_in (Some (record { name = c.name; decls = c.decls; content = w }))) at)

    entry_inside : (o : Option ChartEntry) → chart_at table chart ≡ o → inside_entry o ≡ true → IsInside links table chart
    entry_inside None is h = is_graph (ap body_in is)
    entry_inside (Some c) is h = elim (or_cases (some_refined c.decls) (inside_content c.content) h) [
      | inl r ↦ is_refined c is (some_refinements c.decls r)
      | inr w ↦ content_inside c is c.content refl w
    ]

    env_body : (o : Option Body) → env_within o ≡ true → (b : Body) × (o ≡ Some b) × HasEnv (events_within b)
    env_body None h = absurd (true≢false (sym h))
    env_body (Some b) h = (b, refl, (env_is (events_within b)).0 h)

    leads_inside : LeadsToEnv table names reach chart → IsInside links table chart
    leads_inside l =
        let o = one_of (EnvNumber table names) table l.number l.env in
        let b = env_body (body_at table o.0.name) o.2.0 in
        in_other o.0.name b.0 (λ same. l.other (same_number names chart l.number l.from (subst (λ (x : List ℕ). IsNumber names x l.number) same o.2.1) l.from_is))
        ((t.leads chart o.0.name l.from l.number l.from_is o.2.1).0 l.there) b.1 b.2

    pub inside_to : InsideBy table names reach chart → IsInside links table chart
    inside_to (inl h) = entry_inside (chart_at table chart) refl h
    inside_to (inr l) = leads_inside l

    graph_entry : (o : Option ChartEntry) → body_in o ≡ None → inside_entry o ≡ true
    graph_entry None h = refl
    graph_entry (Some c) h = or_right (some_refined c.decls) (inside_content c.content) (by c.content refl)
      where
        by : (w : Woven) → c.content ≡ w → inside_content c.content ≡ true
        by (Basic body) at = let none : Some body ≡ None = sym (ap (λ (w : Woven). body_in (Some (record { name = c.name; decls = c.decls; content = w }))) at) ∙ h in absurd (cc)
        by (HighLevel drawn) at = ap inside_content at

    operand_entry : (o : Option ChartEntry) (body : Body) → body_in o ≡ Some body → HasEnv (operand_events (items_in body)) → inside_entry o ≡ true
    operand_entry o body is env =
        let c = body_there o body is in
        let held : inside_content c.0.content ≡ true = ap inside_content c.2 ∙ operands_is (items_in body) ∙ (env_is (operand_events (items_in body))).1 env in
        ap inside_entry c.1 ∙ or_right (some_refined c.0.decls) (inside_content c.0.content) held

    pub inside_from : IsInside links table chart → InsideBy table names reach chart
    inside_from (is_graph none) = inl (graph_entry (chart_at table chart) none)
    inside_from (is_refined c is some) = inl (ap inside_entry is ∙ or_left (some_refined c.decls) (inside_content c.content) (refinements_some c.decls some))
    inside_from (in_operand body is env) = inl (operand_entry (chart_at table chart) body is env)
    inside_from (in_other other body apart leads is env) =
        let e = body_there (chart_at table other) body is in
        let c = found_chart table other e.0 e.1 in
        let at = has_number names other ((t.names_are other).1 (subst (IsCalled links) c.1 (called e.0 c.0))) in
        let from = has_number names chart ((t.names_are chart).1 (called_leads links chart other leads (subst (IsCalled links) c.1 (called e.0 c.0)))) in
        let within : env_within (body_at table e.0.name) ≡ true = ap (λ (x : List ℕ). env_within (body_at table x)) c.1 ∙ ap env_within is ∙ (env_is (events_within body)).1 env in
        inr (record {
          from = from.0;
          from_is = from.1;
          number = at.0;
          other = λ same. apart (same_name names other chart at.0 at.1 (subst (IsNumber names chart) (sym same) from.1));
          there = (t.leads chart other from.0 at.0 from.1 at.1).1 leads;
          env = one_from (EnvNumber table names) table at.0 e.0 c.0 (within, subst (λ (x : List ℕ). IsNumber names x at.0) (sym c.1) at.1);
        })

  -- ---- all rules

  module _ (table : Table) (called : (c : ChartEntry) → IsAmong table c → IsCalled links c.name) (place : Place) where
    body_breaks : (r : RefinementRule) (c : ChartEntry) → IsAmong table c → (w : Woven) → c.content ≡ w → ContentBreaks table names known reach expanded r c.decls w place → BreaksRefinementRule links table r place
    body_breaks r c m (HighLevel drawn) is h = absurd h
    body_breaks rule.DecompositionMismatch c m (Basic body) is h =
        let d = (decl_found (MismatchBy table (items_in body)) c.decls place).0 h in
        record { chart = c; among = m; body = body; is = is; decl = d.decl; declares = d.declares; refining = d.refining; refines = d.refines; breaks = (d.stands, d.holds) }
    body_breaks rule.SharedPart c m (Basic body) is h =
        let d = (decl_found (SharedBy names known expanded c.decls body) c.decls place).0 h in
        record { chart = c; among = m; body = body; is = is; decl = d.decl; declares = d.declares; refining = d.refining; refines = d.refines; breaks = (d.stands, shared_to c body d.decl d.declares d.refining d.refines d.holds) }
    body_breaks rule.Inside c m (Basic body) is h =
        let d = (decl_found (λ instance. InsideBy table names reach) c.decls place).0 h in
        record { chart = c; among = m; body = body; is = is; decl = d.decl; declares = d.declares; refining = d.refining; refines = d.refines; breaks = (d.stands, inside_to table called d.refining d.holds) }
    body_breaks rule.LocalEvent c m (Basic body) is h = by ((local_found (OneHolds Decomposes c.decls) (items_in body) place).0 h)
      where
        by : LocalFound (OneHolds Decomposes c.decls) (items_in body) place → BreaksRefinementRule links table rule.LocalEvent place
        by (an_event name refined l) =
            let d = (decomposed_is c.decls name).0 refined in
            record { chart = c; among = m; body = body; is = is; decl = d.decl; declares = d.declares; refining = d.refining; refines = d.refines; breaks = inl (subst (λ (x : List ℕ). IsLocalEvent (items_in body) x place) (sym d.called) l) }
        by (a_part name refined l) =
            let d = (decomposed_is c.decls name).0 refined in
            record { chart = c; among = m; body = body; is = is; decl = d.decl; declares = d.declares; refining = d.refining; refines = d.refines; breaks = inr (subst (λ (x : List ℕ). IsLocalPart (items_in body) x place) (sym d.called) l) }

    breaks_body : (r : RefinementRule) (c : ChartEntry) (body : Body) (decl : Decl) → IsAmong c.decls decl → (refining : List ℕ) → decl.refined ≡ Some refining → BreaksAt links table r c body decl.name refining decl.place place
        → ContentBreaks table names known reach expanded r c.decls (Basic body) place
    breaks_body rule.DecompositionMismatch c body decl m refining is h =
        (decl_found (MismatchBy table (items_in body)) c.decls place).1 (record { decl = decl; declares = m; refining = refining; refines = is; stands = h.0; holds = h.1 })
    breaks_body rule.SharedPart c body decl m refining is h =
        (decl_found (SharedBy names known expanded c.decls body) c.decls place).1 (record { decl = decl; declares = m; refining = refining; refines = is; stands = h.0; holds = shared_from c body decl m refining is h.1 })
    breaks_body rule.Inside c body decl m refining is h =
        (decl_found (λ instance. InsideBy table names reach) c.decls place).1 (record { decl = decl; declares = m; refining = refining; refines = is; stands = h.0; holds = inside_from table called refining h.1 })
    breaks_body rule.LocalEvent c body decl m refining is h =
        let refined : OneHolds Decomposes c.decls decl.name = (decomposed_is c.decls decl.name).1 (record { decl = decl; declares = m; called = refl; refining = refining; refines = is }) in
        (local_found (OneHolds Decomposes c.decls) (items_in body) place).1 (elim h [ inl e ↦ an_event decl.name refined e | inr p ↦ a_part decl.name refined p ])

    pub table_breaks : (r : RefinementRule) → TableBreaks table names known reach expanded r place ↔ BreaksRefinementRule links table r place
    table_breaks r = (
      λ h. let o = one_of (EntryBreaks table names known reach expanded r) table place h in body_breaks r o.0 o.1 o.0.content refl o.2,
      λ b. one_from (EntryBreaks table names known reach expanded r) table place b.chart b.among
          (subst (λ (w : Woven). ContentBreaks table names known reach expanded r b.chart.decls w place) (sym b.is) (breaks_body r b.chart b.body b.decl b.declares b.refining b.refines b.breaks)),
    )
