-- The laws of the term of a chart of a table.
use Rattle.std.specs.Prelude.{◌≡◌, ◌≤◌, ◌+◌, ℕ, List, length}
use Rattle.msc_base.specs.declared.limits.TheConstants.Limits.{EXPANDED_NESTING}
use Rattle.msc_base.specs.Orders.{Among}
use Rattle.chart_term.specs.Terms.{Tree, weight}
use Rattle.term_laws.specs.FullSoundness.{IsFullySound}
use Rattle.term_laws.specs.Placing.{HaveOnePlace}
use Rattle.term_meaning.specs.Meanings.{Means}
use Rattle.term_tables.specs.NetValues.{NetsValue}
use Rattle.msc_meaning.specs.Meanings.{Finished, Begun}
use Rattle.msc_meaning.specs.Tables.{Table}
use Rattle.expansion_tree.specs.Expansions.{events_in}
use Rattle.expanded_charts.specs.Expanding.{NumberedEvent}
use Rattle.gate_ends.specs.FoundEnds.{table_ends}
use Rattle.expansion_order.specs.Ranks.{CanBeRanked}
use Rattle.chart_forms.specs.TableSizes.{counted_size}
use Rattle.expanded_terms.specs.JoinProducts.{IsFewTo}
use Rattle.expanded_terms.specs.NetWeights.{nets_weight}
use Rattle.expanded_terms.specs.PlacedTerms.{child_of}
use Rattle.expanded_terms.specs.GateTies.{IsQuietTable}
use Rattle.expanded_terms.specs.WholeCharts.{IsWholeTo}
use Rattle.table_terms.specs.SoundGraphs.{HasSoundGraphs}
use Rattle.table_terms.specs.TableTerms.{IsTermOf, chart_expansion, chart_numbering, numbered_chart}

-- the term of a whole chart with sound graphs, with the names of its instances, means the chart
abbrev pub TableTermsMean : Type 0
TableTermsMean = (table : Table) (name : List ℕ) (v : NetsValue) (x : Tree) → HasSoundGraphs table name → IsQuietTable table → IsWholeTo table (table_ends table) EXPANDED_NESTING name → IsTermOf table name v x
    → Means v (chart_numbering table name).names x (Finished table name) (Begun table name)

-- the term of such a chart is sound in full where its expansion can be ranked and no inner event of a called gate stands in a loop
abbrev pub TableTermsAreSound : Type 0
TableTermsAreSound = (table : Table) (name : List ℕ) (v : NetsValue) (x : Tree) → HasSoundGraphs table name → IsQuietTable table → IsTermOf table name v x → CanBeRanked (numbered_chart table name) → IsFullySound (length v.labels) v.tables x

-- it weighs, with the terms of the nodes of its nets, no more than the chart's expanded size, where each level has few pairs of its own
abbrev pub TableTermsAreLight : Type 0
TableTermsAreLight = (table : Table) (name : List ℕ) (v : NetsValue) (x : Tree) → HasSoundGraphs table name → IsTermOf table name v x → IsFewTo table EXPANDED_NESTING name → weight x + nets_weight v.tables ≤ counted_size table name

-- events of one label have the same instances, in a term and its nets, where the second instance of each is the one that its label gives
abbrev pub TableTermsArePlaced : Type 0
TableTermsArePlaced = (table : Table) (name : List ℕ) (v : NetsValue) (x : Tree) → IsTermOf table name v x
    → ((e : NumberedEvent) → Among e (events_in (chart_expansion table name)) → e.happening.also ≡ child_of e.happening.label)
    → HaveOnePlace v.tables x
