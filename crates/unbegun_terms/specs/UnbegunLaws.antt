-- The law: what certificates ask of a term and its nets holds of the terms of charts.
use Rattle.std.specs.Prelude.{ℕ, List}
use Rattle.chart_term.specs.Tables.{terms_over}
use Rattle.chart_term.specs.Terms.{Tree}
use Rattle.term_tables.specs.NetValues.{NetsValue}
use Rattle.certificates.specs.CertificateLaws.{IsUnbegun, AreUnbegunNets}
use Rattle.msc_meaning.specs.Tables.{Table}
use Rattle.expansion_order.specs.Ranks.{CanBeRanked}
use Rattle.expanded_terms.specs.GateTies.{IsQuietTable}
use Rattle.table_terms.specs.SoundGraphs.{HasSoundGraphs}
use Rattle.table_terms.specs.TableTerms.{IsTermOf, numbered_chart}

pub record TermsAreUnbegun : Type 0 where
  pub term : (table : Table) (name : List ℕ) (v : NetsValue) (x : Tree) → IsTermOf table name v x → IsUnbegun x
  -- that the term of an end is Nil is a point of soundness
  pub nets : (table : Table) (name : List ℕ) (v : NetsValue) (x : Tree) → HasSoundGraphs table name → IsQuietTable table → IsTermOf table name v x → CanBeRanked (numbered_chart table name)
      → AreUnbegunNets (terms_over v.tables)
