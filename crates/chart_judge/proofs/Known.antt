-- What is known of the term of a chart of an accepted table, by the laws of such terms.
use Rattle.std.proofs.Common.{◌≡◌, ◌≤◌, ◌+◌, ℕ, List, [], ◌∷◌, Some, arith, refl, sym, ◌∙◌}
use Rattle.msc_base.specs.declared.limits.TheConstants.Limits.{EXPANDED_NESTING, EXPANDED_SIZE}
use Rattle.msc_base.specs.declared.verdict.Verdict.TheVariants.{TooLarge}
use Rattle.chart_cycles.specs.Cycles.{AreOrdered, IsOrdered}
use Rattle.chart_forms.specs.TableSizes.{counted_size}
use Rattle.chart_term.specs.Terms.{Tree, weight}
use Rattle.msc_acceptance.specs.AcceptedCharts.{EachChart, IsAcceptedTable, IsThereTo}
use Rattle.msc_meaning.specs.Meanings.{Finished, Begun}
use Rattle.msc_meaning.specs.Tables.{ChartEntry, Table, chart_at}
use Rattle.expanded_terms.specs.GateTies.{IsQuietTable}
use Rattle.expanded_terms.specs.GraphWalks.{NetsAreWhole}
use Rattle.expanded_terms.specs.NetWeights.{nets_weight}
use Rattle.graph_rules.specs.EndingGraphs.{WalksEnd}
use Rattle.expanded_terms.specs.WholeCharts.{IsWholeTo}
use Rattle.gate_ends.specs.EndLaws.{EndsAreFound}
use Rattle.gate_ends.specs.FoundEnds.{table_ends}
use Rattle.table_terms.specs.TableLaws.{TableTermsAreLight, TableTermsArePlaced, TableTermsAreSound, TableTermsMean}
use Rattle.table_terms.specs.SoundGraphs.{HasSoundGraphs}
use Rattle.table_terms.specs.TableTerms.{IsTermOf, chart_made, chart_numbering, chart_tables}
use Rattle.term_meaning.specs.Meanings.{Means}
use Rattle.term_tables.specs.NetValues.{NetsValue}
use Rattle.trace_judge.specs.Laws.{VerdictsTellRuns}
use Rattle.trace_judge.specs.Sets.{IsSoundFor}
use Rattle.verdict_meaning.proofs.Labelled.{begun_there}
use Rattle.verdict_meaning.specs.Budgets.{BudgetSuffices}
use Rattle.chart_judge.specs.ChartBudgets.{ChartBudgetsSuffice}
use Rattle.chart_judge.specs.ChartsTold.{ChartsHaveRuns, ChartsHaveTerms, VerdictsAreTold}
use Rattle.chart_judge.specs.NextLabels.{BeginningsAreTold}
use Rattle.chart_judge.proofs.NestedTables.{sound_graphs}
use Rattle.chart_judge.proofs.WholeTables.{all_quiet, whole_to}
use Rattle.chart_judge.proofs.FewTables.{few_to}
use Rattle.chart_judge.proofs.TableEntries.{name_has}
use Rattle.chart_judge.proofs.TableRoom.{are_placed, has_room}
use Rattle.chart_judge.proofs.Verdicts.{IsKnown, begin_term, begins_empty, to_residual, told}

one_term : (table : Table) (name : List ℕ) (v w : NetsValue) (x y : Tree) → IsTermOf table name v x → IsTermOf table name w y → (v ≡ w) × (x ≡ y)
one_term table name v w x y a b = (a.nets ∙ sym b.nets, a.term ∙ sym b.term)

each_ordered : (table : Table) (depth : ℕ) (charts : List ChartEntry) → AreOrdered table depth charts → EachChart (λ c. IsOrdered table depth c.name) charts
each_ordered table depth [] h = tt
each_ordered table depth (c ∷ charts) h = (h.0, each_ordered table depth charts h.1)

below : (a b c : ℕ) → a ≤ b → b ≤ c → a ≤ c
below a b c h g = omega (arith, h, g)

module _ (table : Table) (name : List ℕ) (chart : ChartEntry) (is : chart_at table name ≡ Some chart) (accepted : IsAcceptedTable table) where
  quiet : IsQuietTable table
  quiet = all_quiet table accepted.gates accepted.there

  there : IsThereTo table EXPANDED_NESTING name
  there = name_has (IsThereTo table EXPANDED_NESTING) table name chart accepted.there is

  whole : EndsAreFound → IsWholeTo table (table_ends table) EXPANDED_NESTING name
  whole law = whole_to law table accepted.charts accepted.gates accepted.there EXPANDED_NESTING name there

  ordered : IsOrdered table EXPANDED_NESTING name
  ordered = name_has (IsOrdered table EXPANDED_NESTING) table name chart (each_ordered table EXPANDED_NESTING table accepted.ordered) is

  graphs : NetsAreWhole → WalksEnd → HasSoundGraphs table name
  graphs nets ends = sound_graphs table accepted.charts accepted.gates nets ends accepted.ending (each_ordered table EXPANDED_NESTING table accepted.ordered) name there

  small : counted_size table name ≤ EXPANDED_SIZE
  small = name_has (λ n. counted_size table n ≤ EXPANDED_SIZE) table name chart accepted.small is

  module _ (nets : NetsAreWhole) (ends : WalksEnd) (v : NetsValue) (x : Tree) (made : IsTermOf table name v x) where
    chart_means : EndsAreFound → TableTermsMean → Means v (chart_numbering table name).names x (Finished table name) (Begun table name)
    chart_means law laws = laws table name v x (graphs nets ends) quiet (whole law) made

    chart_sound : EndsAreFound → TableTermsAreSound → TableTermsArePlaced → IsSoundFor v x
    chart_sound law sound placed = record {
      full = sound table name v x (graphs nets ends) quiet made ordered;
      placed = placed table name v x made (are_placed table accepted name);
    }

    chart_weighs : TableTermsAreLight → weight x + nets_weight v.tables ≤ counted_size table name
    chart_weighs laws = laws table name v x (graphs nets ends) made (few_to table accepted.charts accepted.gates EXPANDED_NESTING name there)

    chart_light : TableTermsAreLight → weight x + nets_weight v.tables ≤ EXPANDED_SIZE
    chart_light laws = below (weight x + nets_weight v.tables) (counted_size table name) EXPANDED_SIZE (chart_weighs laws) small

pub have_terms : EndsAreFound → NetsAreWhole → WalksEnd → TableTermsMean → TableTermsAreSound → TableTermsArePlaced → TableTermsAreLight → ChartsHaveTerms
have_terms found nets ends mean sound placed light = record {
  one = one_term;
  room = λ table name chart is accepted. has_room table accepted name;
  graphs = λ table name chart is accepted. graphs table name chart is accepted nets ends;
  means = λ table name chart v x is accepted made. chart_means table name chart is accepted nets ends v x made found mean;
  sound = λ table name chart v x is accepted made. chart_sound table name chart is accepted nets ends v x made found sound placed;
  weighs = λ table name chart v x is accepted made. chart_weighs table name chart is accepted nets ends v x made light;
  light = λ table name chart v x is accepted made. chart_light table name chart is accepted nets ends v x made light;
}

known : ChartsHaveTerms → (table : Table) (name : List ℕ) (chart : ChartEntry) (v : NetsValue) (x : Tree) → chart_at table name ≡ Some chart → IsAcceptedTable table → IsTermOf table name v x → IsKnown table name v x
known terms table name chart v x is accepted made = record {
  has = record { chart = chart; is = is; made = made };
  one = λ w y has. terms.one table name w v y x has.made made;
  names = (chart_numbering table name).names;
  means = terms.means table name chart v x is accepted made;
  sound = terms.sound table name chart v x is accepted made;
}

pub verdicts_told : ChartsHaveTerms → VerdictsTellRuns → VerdictsAreTold
verdicts_told terms laws table name chart v x budget events verdict is accepted made w = told table name v x (known terms table name chart v x is accepted made) laws budget events verdict w

-- ---- beginnings

pub beginnings_told : ChartsHaveTerms → BeginningsAreTold
beginnings_told terms table name chart v x is accepted made labels = begin_term table name v x (known terms table name chart v x is accepted made) labels

-- ---- the budget that no log passes

pub budgets_suffice : ChartsHaveTerms → BudgetSuffices → ChartBudgetsSuffice
budgets_suffice terms law = record {
  never = λ table name chart v x budget events number is accepted made one enough w.
      law.never v x budget events number one enough (to_residual table name v x (known terms table name chart v x is accepted made) budget events (TooLarge number) w);
}

-- ---- runs

-- the chart has a term
the_tables : Table → List ℕ → NetsValue
the_tables table name = chart_tables table name

the_term : Table → List ℕ → Tree
the_term table name = (chart_made table name).term

a_term : (table : Table) (name : List ℕ) → IsTermOf table name (the_tables table name) (the_term table name)
unfolding the_tables the_term
a_term table name = record { term = refl; nets = refl }

known_of : ChartsHaveTerms → (table : Table) (name : List ℕ) (chart : ChartEntry) → chart_at table name ≡ Some chart → IsAcceptedTable table → IsKnown table name (the_tables table name) (the_term table name)
known_of terms table name chart is accepted = known terms table name chart (the_tables table name) (the_term table name) is accepted (a_term table name)

pub have_runs : ChartsHaveTerms → ChartsHaveRuns
have_runs terms = record {
  each = λ table name chart is accepted u b.
      let k = known_of terms table name chart is accepted in
      let s = k.means.all_ones.all u b in
      let order = k.sound.full.term.ordered s.pattern s.is in
      begun_there (the_tables table name).labels k.names s.pattern u s.stands [] [] order.run tt order.is;
  empty = λ table name chart is accepted. begins_empty table name (the_tables table name) (the_term table name) (known_of terms table name chart is accepted);
}
