-- The levels of charts that keep the rules on gates have one end of each called gate.
use Rattle.std.proofs.Common.{◌≡◌, inl, inr, ℕ, zero, suc, List, [], ◌∷◌, ◌++◌, Some, map, refl, sym, ap, subst}
use Rattle.gate_ends.specs.FoundEnds.{AreAll, GoesTo, body_names}
use Rattle.gate_ends.specs.LevelGates.{items_in}
use Rattle.gate_rules.specs.GateLaws.{HasGates, LevelsHaveGates}
use Rattle.gate_rules.specs.GateRules.{BreaksGateRule}
use Rattle.gate_rules.specs.declared.faults.GateRule.{GateRule}
use Rattle.gate_rules.specs.declared.faults.GateRule.TheVariants as gate
use Rattle.msc_acceptance.proofs.GatePlaces.{table_gates}
use Rattle.msc_acceptance.specs.Acceptance.{BreaksOf}
use Rattle.msc_acceptance.specs.AcceptedCharts.{EachChart, IsThereTo, content_levels, content_names, used_refinements}
use Rattle.msc_acceptance.specs.Deciding.{AllKept, table_groups}
use Rattle.msc_base.specs.Orders.{Among, first, later}
use Rattle.msc_base.specs.declared.limits.TheConstants.Limits.{EXPANDED_NESTING}
use Rattle.msc_base.specs.declared.place.Place.{Place}
use Rattle.msc_instances.specs.Instances.{instances}
use Rattle.msc_meaning.specs.Views.{table_view}
use Rattle.msc_meaning.specs.declared.body.ChartEntry as code
use Rattle.msc_meaning.specs.BodyLevels.{EachLevel}
use Rattle.msc_meaning.specs.Tables.{ChartEntry, Table, Woven, Basic, HighLevel, Refinement, body_in}
use Rattle.msc_meaning.specs.WovenTables.{AreEntriesOf}
use Rattle.msc_rules.specs.declared.rule.Rule.TheVariants.{GateOnLoop, GateSplit, GateTwice, GateWays, NoGate}
use Rattle.msc_tree.specs.Charts.{Chart}

-- ---- charts that are there

module _ (P Q : List ℕ → Type 0) (f : (name : List ℕ) → P name → Q name) where
  all_turned : (names : List (List ℕ)) → AreAll P names → AreAll Q names
  all_turned [] h = tt
  all_turned (n ∷ names) h = (f n h.0, all_turned names h.1)

pub all_left : (P : List ℕ → Type 0) (xs ys : List (List ℕ)) → AreAll P (xs ++ ys) → AreAll P xs
all_left P [] ys h = tt
all_left P (x ∷ xs) ys h = (h.0, all_left P xs ys h.1)

-- the names of the body of a chart are those of its content
named_body : (P : List ℕ → Type 0) (c : ChartEntry) (w : Woven) → c.content ≡ w → AreAll P (content_names w) → AreAll P (body_names (body_in (Some c)))
named_body P c (Basic b) e h = subst (λ (v : Woven). AreAll P (body_names (body_in (Some (record { name = c.name; decls = c.decls; content = v }))))) (sym e) h
named_body P c (HighLevel drawn) e h = subst (λ (v : Woven). AreAll P (body_names (body_in (Some (record { name = c.name; decls = c.decls; content = v }))))) (sym e) tt

pub there_goes : (table : Table) (depth : ℕ) (name : List ℕ) → IsThereTo table depth name → GoesTo table depth name
there_goes table zero name h = h
there_goes table (suc depth) name h =
    subst (λ o. AreAll (GoesTo table depth) (body_names o)) (sym (ap body_in h.is))
    (named_body (GoesTo table depth) h.chart h.chart.content refl (all_turned (IsThereTo table depth) (GoesTo table depth) (there_goes table depth) (content_names h.chart.content) (all_left (IsThereTo table depth) (content_names h.chart.content) (map (λ (r : Refinement). r.chart) (used_refinements h.chart.decls h.chart.content)) h.named)))

of_each : (P : ChartEntry → Type 0) (table : Table) → EachChart P table → (c : ChartEntry) → Among c table → P c
of_each P (d ∷ table) h _ first = h.0
of_each P (d ∷ table) h c (later i) = of_each P table h.1 c i
of_each P [] h c i = elim i [ ]

pub all_go : (table : Table) (entries : List code.ChartEntry) → EachChart (λ (c : ChartEntry). IsThereTo table EXPANDED_NESTING c.name) (table_view entries) → AreAll (GoesTo table EXPANDED_NESTING) (map (λ (c : code.ChartEntry). c.name) entries)
all_go table [] h = tt
all_go table (c ∷ entries) h = (there_goes table EXPANDED_NESTING c.name h.0, all_go table entries h.1)

-- ---- gates

each_of : (P : ChartEntry → Type 0) (table : Table) → ((c : ChartEntry) → Among c table → P c) → EachChart P table
each_of P [] f = tt
each_of P (c ∷ table) f = (f c first, each_of P table (λ d i. f d (later i)))

module _ (charts : List Chart) (table : Table) (are : AreEntriesOf instances charts table) (together : AllKept (BreaksOf charts) table_groups) where
  -- the table breaks no rule on gates
  none_broken : (rule : GateRule) (p : Place) → BreaksGateRule table rule p → ⊥
  none_broken gate.NoGate p b = together.0 NoGate p (inl refl) (table_gates charts table are gate.NoGate p b)
  none_broken gate.GateTwice p b = together.0 GateTwice p (inr (inl refl)) (table_gates charts table are gate.GateTwice p b)
  none_broken gate.GateWays p b = together.0 GateWays p (inr (inr (inl refl))) (table_gates charts table are gate.GateWays p b)
  none_broken gate.GateSplit p b = together.0 GateSplit p (inr (inr (inr (inl refl)))) (table_gates charts table are gate.GateSplit p b)
  none_broken gate.GateOnLoop p b = together.0 GateOnLoop p (inr (inr (inr (inr (inl refl))))) (table_gates charts table are gate.GateOnLoop p b)

  content_held : LevelsHaveGates → (c : ChartEntry) → Among c table → AreAll (GoesTo table EXPANDED_NESTING) (content_names c.content) → (w : Woven) → c.content ≡ w → EachLevel (λ l. HasGates table (items_in l.body)) (content_levels w)
  content_held law c i deep (Basic b) e = law.have table none_broken c i b e (subst (λ (w : Woven). AreAll (GoesTo table EXPANDED_NESTING) (content_names w)) e deep)
  content_held law c i deep (HighLevel drawn) e = tt

  pub gates_held : LevelsHaveGates → EachChart (λ c. AreAll (GoesTo table EXPANDED_NESTING) (content_names c.content)) table → EachChart (λ c. EachLevel (λ l. HasGates table (items_in l.body)) (content_levels c.content)) table
  gates_held law deep = each_of (λ c. EachLevel (λ l. HasGates table (items_in l.body)) (content_levels c.content)) table
      (λ c i. content_held law c i (of_each (λ c. AreAll (GoesTo table EXPANDED_NESTING) (content_names c.content)) table deep c i) c.content refl)
