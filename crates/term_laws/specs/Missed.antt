-- Permission by a block that misses the term.
use Rattle.std.specs.Prelude.{◌≡◌, true, Some}
use Rattle.bit_sets.specs.Blocks.{BlockValue}
use Rattle.chart_term.specs.Facts.{misses}
use Rattle.chart_term.specs.Tables.{Tables}
use Rattle.chart_term.specs.Terms.{Tree}
use Rattle.term_laws.specs.Normality.{IsNormalOver}
use Rattle.term_laws.specs.Permission.{permit, permits_of}
use Rattle.term_laws.specs.Values.{block_of}

-- permission by a block that misses a term in normal form gives the term back
pub record PermitOfMissed : Type 0 where
  pub same : (w : Tables) (b : BlockValue) (x : Tree) → IsNormalOver w x → misses b x ≡ true → permit (permits_of w) (block_of b) x ≡ Some x
