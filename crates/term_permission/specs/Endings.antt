-- Serves private contracts alone.
-- Which terms may end, and the nodes of a net whose terms may.
use Rattle.std.specs.Prelude.{ℕ, List, ◌<◌, ◌↔◌, IsTrue}
use Rattle.msc_base.specs.Lists.{IsIn}
use Rattle.chart_term.specs.Tables.{Tables, node_of, terms_over}
use Rattle.chart_term.specs.TermMeanings.{NetTerms}
use Rattle.chart_term.specs.Terms.{Tree, Part, Gap, Turn}
use Rattle.term_laws.specs.Taking.{MayEnd}
use Rattle.term_laws.proofs.Measures.{rank_in}
use Rattle.term_permission.specs.Ready.{IsReady}
use Rattle.term_permission.specs.declared.finishes.Ending.{Ending}
use Rattle.term_permission.specs.declared.finishes.Ending.TheVariants as ending

-- of the nodes below this one, those whose terms may end
pub record AreEnding (w : Tables) (n top : ℕ) (ms : List ℕ) : Type 0 where
  pub exact : (m : ℕ) → IsIn m ms ↔ ((m < top) × MayEnd (terms_over w) (node_of w n m))

-- the part of a row is a gap, or a begun turn that may end
abbrev pub MayPartEnd : NetTerms → Part → Type 0
MayPartEnd w (Gap c) = Unit {0}
MayPartEnd w (Turn x) = MayEnd w x

-- it holds exactly if this term may end, which is ready and below that rank
pub record EndsWith (w : Tables) (P : Type 0) (k : ℕ) (x : Tree) : Type 0 where
  pub ends : MayEnd (terms_over w) x ↔ P
  pub ready : IsReady w x
  pub below : rank_in w x < k

-- whether it holds is told, or it does exactly if such a term may end
abbrev pub EndsAs : Tables → Type 0 → ℕ → Ending → Type 0
EndsAs w P k (ending.Told b) = IsTrue b ↔ P
EndsAs w P k (ending.As x) = EndsWith w P k x.now
