-- The contents of the charts that are there, in a table of accepted charts.
use Rattle.std.specs.Prelude.{ℕ, zero, suc, List, [], ◌∷◌, ◌++◌, Some, map, Option}
use Rattle.std.proofs.Common.{◌≡◌}
use Rattle.gate_ends.specs.FoundEnds.{AreAll}
use Rattle.gate_ends.specs.LevelGates.{items_in}
use Rattle.gate_rules.specs.GateLaws.{HasGates}
use Rattle.msc_acceptance.specs.AcceptedCharts.{EachChart, HasNamed, IsAcceptedChart, IsAcceptedContent, IsThereTo, content_levels, content_names, named_charts, used_refinements}
use Rattle.msc_meaning.specs.BodyLevels.{BodyLevel, EachLevel}
use Rattle.msc_meaning.specs.Bodies.{Body}
use Rattle.msc_meaning.specs.Tables.{ChartEntry, Table, body_in, chart_at, Woven, Refinement}
use Rattle.msc_tree.specs.declared.chart.Decl.{Decl}
use Rattle.chart_judge.proofs.TableEntries.{entry_has}

abbrev pub IsGatedLevel : Table → BodyLevel → Type 0
IsGatedLevel table l = HasGates table (items_in l.body)

abbrev pub refining_names : List Refinement → List (List ℕ)
refining_names rs = map (λ (r : Refinement). r.chart) rs

-- the body of a chart of that content, if it is a basic one
abbrev pub content_body : List ℕ → List Decl → Woven → Option Body
content_body name decls w = body_in (Some (record { name = name; decls = decls; content = w }))

-- ---- names of two lists

module _ (P : List ℕ → Type 0) where
  pub all_left : (xs ys : List (List ℕ)) → AreAll P (xs ++ ys) → AreAll P xs
  all_left [] ys h = tt
  all_left (x ∷ xs) ys h = (h.0, all_left xs ys h.1)

  pub all_right : (xs ys : List (List ℕ)) → AreAll P (xs ++ ys) → AreAll P ys
  all_right [] ys h = h
  all_right (x ∷ xs) ys h = all_right xs ys h.1

module _ (P Q : List ℕ → Type 0) (f : (name : List ℕ) → P name → Q name) where
  pub all_turned : (names : List (List ℕ)) → AreAll P names → AreAll Q names
  all_turned [] h = tt
  all_turned (n ∷ names) h = (f n h.0, all_turned names h.1)

-- ---- a chart that is there

-- less than so deep, and so less than one deeper
pub there_deeper : (table : Table) (depth : ℕ) (name : List ℕ) → IsThereTo table depth name → IsThereTo table (suc depth) name
there_deeper table zero name h = absurd h
there_deeper table (suc depth) name h = record {
  chart = h.chart;
  is = h.is;
  named = all_turned (IsThereTo table depth) (IsThereTo table (suc depth)) (there_deeper table depth) (named_charts h.chart) h.named;
}

-- its content; what it references is there, and what refines its instances
pub record HasContent (table : Table) (IsThere : List ℕ → Type 0) (name : List ℕ) : Type 0 where
  pub chart : ChartEntry
  pub is : chart_at table name ≡ Some chart
  pub accepted : IsAcceptedContent chart.content
  pub gated : EachLevel (IsGatedLevel table) (content_levels chart.content)
  pub named : AreAll IsThere (content_names chart.content)
  pub refining : AreAll IsThere (refining_names (used_refinements chart.decls chart.content))

module _ (table : Table) (charts : EachChart IsAcceptedChart table) (gates : EachChart (λ c. EachLevel (IsGatedLevel table) (content_levels c.content)) table) where
  pub has_content : (IsThere : List ℕ → Type 0) (name : List ℕ) → HasNamed table IsThere name → HasContent table IsThere name
  has_content IsThere name h = record {
    chart = h.chart;
    is = h.is;
    accepted = entry_has IsAcceptedChart table name h.chart charts h.is;
    gated = entry_has (λ c. EachLevel (IsGatedLevel table) (content_levels c.content)) table name h.chart gates h.is;
    named = all_left IsThere (content_names h.chart.content) (refining_names (used_refinements h.chart.decls h.chart.content)) h.named;
    refining = all_right IsThere (content_names h.chart.content) (refining_names (used_refinements h.chart.decls h.chart.content)) h.named;
  }

  -- so is that of a chart that is there so deep
  pub there_content : (depth : ℕ) (name : List ℕ) → IsThereTo table depth name → HasContent table (IsThereTo table depth) name
  there_content depth name h = has_content (IsThereTo table depth) name (there_deeper table depth name h)
