-- Tables with one more net say the same of the terms of the older nets.
use Rattle.std.specs.Prelude.{Bool, ◌∷◌, ◌≡◌}
use Rattle.chart_term.specs.Tables.{Tables, NetEntry, terms_over}
use Rattle.chart_term.specs.TermMeanings.{HasPattern}
use Rattle.chart_term.specs.TermPatterns.{Shape, Both}
use Rattle.chart_term.specs.Terms.{Block, Tree}
use Rattle.term_laws.specs.Normality.{IsNormalOver}
use Rattle.term_laws.specs.Permission.{permit, permits_of}
use Rattle.term_laws.specs.Soundness.{AreTidyTables, IsTidyOver}

-- a tidy term over tidy tables stays tidy and in normal form, keeps its patterns, and permission leaves the same of it
pub record LaterTablesAgree : Type 0 where
  pub tidy : (w : Tables) (e : NetEntry) (x : Tree) → AreTidyTables w → IsTidyOver w x → IsTidyOver (e ∷ w) x
  pub normal : (w : Tables) (e : NetEntry) (x : Tree) → IsTidyOver w x → IsNormalOver w x → IsNormalOver (e ∷ w) x
  pub patterns : (o : Bool) (w : Tables) (e : NetEntry) (x : Tree) (s : Shape) → AreTidyTables w → IsTidyOver w x
      → Both (HasPattern (terms_over w) o x s) (HasPattern (terms_over (e ∷ w)) o x s)
  pub permits : (w : Tables) (e : NetEntry) (b : Block) (x : Tree) → IsTidyOver w x → permit (permits_of w) b x ≡ permit (permits_of (e ∷ w)) b x
