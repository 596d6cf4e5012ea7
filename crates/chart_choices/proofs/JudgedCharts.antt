-- A basic chart of an accepted table has parts for its choices, of which terms can be made over tables of its labels.
use Rattle.std.specs.Prelude.{◌≡◌, ℕ, List, [], ◌∷◌, Some}
use Rattle.std.proofs.Common.{◌∙◌, ap, subst, sym}
use Rattle.msc_base.specs.declared.label.Label.{Label}
use Rattle.msc_base.specs.declared.limits.TheConstants.Limits.{EXPANDED_NESTING}
use Rattle.term_tables.specs.NetValues.{NetsValue}
use Rattle.msc_tree.specs.declared.chart.Decl.{Decl}
use Rattle.msc_meaning.specs.Bodies.{Body}
use Rattle.msc_meaning.specs.Tables.{Basic, ChartEntry, HighLevel, Refinement, Table, Woven, chart_at, refinements}
use Rattle.gate_ends.specs.EndLaws.{EndsAreFound}
use Rattle.chart_cycles.specs.Cycles.{AreOrdered, IsOrdered}
use Rattle.msc_acceptance.specs.AcceptedCharts.{EachChart, IsAcceptedTable, IsThereTo}
use Rattle.expansion_tree.specs.Numbered.{Expansion}
use Rattle.expanded_charts.specs.declared.numbering.Numbering.{Numbering}
use Rattle.table_terms.specs.TableTerms.{chart_numbering, numbered_chart}
use Rattle.choice_meaning.specs.ChoiceLists.{AreMade, no_choice}
use Rattle.choice_meaning.specs.Choices.{choices_of, woven_choices}
use Rattle.choice_parts.specs.ChoiceParts.{woven_parts}
use Rattle.choice_terms.specs.ChoiceLaws.{ChoicesHaveParts, IsJudgedChart}
use Rattle.choice_terms.specs.JudgedParts.{AreChoiceParts}
use Rattle.chart_judge.specs.ChartsTold.{ChartsHaveTerms}
use Rattle.chart_judge.proofs.TableEntries.{name_has}
use Rattle.chart_judge.proofs.TableRoom.{are_placed}
use Rattle.chart_judge.proofs.WholeTables.{all_quiet, whole_to}
use Rattle.chart_choices.specs.declared.choice.Choice as found
use Rattle.chart_choices.specs.declared.tables.TermTables.{TermTables}
use Rattle.chart_choices.specs.Listed.{made_choices}
use Rattle.chart_choices.specs.Making.{AreFound, AreJudged, AreReady, IsBasicChart}
use Rattle.chart_choices.proofs.FoundChoices.{are_judged, found_made}

each_ordered : (table : Table) (depth : ℕ) (charts : List ChartEntry) → AreOrdered table depth charts → EachChart (λ c. IsOrdered table depth c.name) charts
each_ordered table depth [] h = tt
each_ordered table depth (c ∷ charts) h = (h.0, each_ordered table depth charts h.1)

judged_chart : ChartsHaveTerms → EndsAreFound → (table : Table) (name : List ℕ) (chart : ChartEntry) → chart_at table name ≡ Some chart → IsAcceptedTable table → IsJudgedChart table name
judged_chart terms found table name chart is accepted = record {
  graphs = terms.graphs table name chart is accepted;
  quiet = all_quiet table accepted.gates accepted.there;
  whole = whole_to found table accepted.charts accepted.gates accepted.there EXPANDED_NESTING name (name_has (IsThereTo table EXPANDED_NESTING) table name chart accepted.there is);
  ranked = name_has (IsOrdered table EXPANDED_NESTING) table name chart (each_ordered table EXPANDED_NESTING table accepted.ordered) is;
  room = terms.room table name chart is accepted;
  placed = are_placed table accepted name;
}

abbrev pub IsGraph : Woven → Type 0
IsGraph (Basic body) = ⊥
IsGraph (HighLevel drawn) = Unit {0}

-- a graph has no choices
pub graph_has_none : (table : Table) (chart : ChartEntry) (w : Woven) → chart.content ≡ w → IsGraph w → AreMade table (choices_of chart) []
graph_has_none table chart (Basic body) e h = absurd h
graph_has_none table chart (HighLevel drawn) e h = subst (λ (v : Woven). AreMade table (woven_choices (refinements chart.decls) v) []) (sym e) (none (refinements chart.decls))
  where
    none : (rs : List Refinement) → AreMade table (woven_choices rs (HighLevel drawn)) []
    none [] = no_choice
    none (r ∷ rs) = no_choice

-- ---- a basic chart

-- with tables of its labels, and its expansion
pub record IsStart (table : Table) (decls : List Decl) (body : Body) (s : TermTables) (y : Expansion) : Type 0 where
  pub parts : AreChoiceParts s.names s.nets.labels table (woven_choices (refinements decls) (Basic body)) (woven_parts (refinements decls) (Basic body) y)
  pub ready : AreReady s

module _ (terms : ChartsHaveTerms) (found : EndsAreFound) (have : ChoicesHaveParts) (table : Table) (name : List ℕ) (accepted : IsAcceptedTable table) (decls : List Decl) (body : Body) (basic : IsBasicChart table name decls body) where
  abbrev names : List (List ℕ)
  names = (chart_numbering table name).names

  abbrev labels : List Label
  labels = (chart_numbering table name).labels

  abbrev Parts : List Decl → Woven → Type 0
  Parts ds w = AreChoiceParts names labels table (woven_choices (refinements ds) w) (woven_parts (refinements ds) w (numbered_chart table name))

  chart_parts : Parts decls (Basic body)
  chart_parts =
      subst (λ (w : Woven). Parts decls w) basic.content (subst (λ (ds : List Decl). Parts ds basic.chart.content) basic.decls
      (have table name basic.chart basic.is (judged_chart terms found table name basic.chart basic.is accepted)))

  abbrev first : TermTables
  first = record { names = names; nets = record { labels = labels; tables = [] } }

  started : IsStart table decls body first (numbered_chart table name)
  started = record { parts = chart_parts; ready = record { fit = record { sound = tt; placed = tt }; ready = tt } }

  -- whatever the tables and the expansion are called
  pub start_at : (numbering : Numbering) (s : TermTables) (y : Expansion) → numbering ≡ chart_numbering table name → s.names ≡ numbering.names → s.nets ≡ record { labels = numbering.labels; tables = [] } → y ≡ numbered_chart table name → IsStart table decls body s y
  start_at numbering s y e n m is = subst (λ (z : Expansion). IsStart table decls body s z) (sym is) (subst (λ (t : TermTables). IsStart table decls body t (numbered_chart table name)) (sym same) started)
    where
      same : s ≡ first
      same = ap (λ (ns : List (List ℕ)). let u : TermTables = record { names = ns; nets = s.nets } in u) (n ∙ ap (λ (k : Numbering). k.names) e)
          ∙ ap (λ (v : NetsValue). let u : TermTables = record { names = names; nets = v } in u) (m ∙ ap (λ (k : Numbering). let v : NetsValue = record { labels = k.labels; tables = [] } in v) e)

pub start_judged : (table : Table) (decls : List Decl) (body : Body) (s : TermTables) (y : Expansion) → IsStart table decls body s y → AreJudged s.names s.nets.labels (woven_parts (refinements decls) (Basic body) y)
start_judged table decls body s y h = are_judged s.names s.nets.labels table h.parts

pub start_made : (table : Table) (decls : List Decl) (body : Body) (s : TermTables) (y : Expansion) (cs : List found.Choice) → IsStart table decls body s y → AreFound s.names s.nets.labels (woven_parts (refinements decls) (Basic body) y) cs
    → AreMade table (woven_choices (refinements decls) (Basic body)) (made_choices cs)
start_made table decls body s y cs h f = found_made s.names s.nets.labels table h.parts f
