-- Permission by a block that misses a list of turns leaves it as it is.
use Rattle.std.specs.Option.{option_map}
use Rattle.std.specs.Prelude.{true, List, [], ◌∷◌, ◌≡◌, Some, refl}
use Rattle.std.proofs.Common.{ap, ◌∙◌}
use Rattle.bit_sets.specs.Blocks.{BlockValue}
use Rattle.chart_term.specs.Facts.{row_misses}
use Rattle.chart_term.specs.NormalForms.{NetPermits, and_then, begun, flat}
use Rattle.chart_term.specs.Properties.{EachTurn}
use Rattle.chart_term.specs.Tables.{Tables}
use Rattle.chart_term.specs.Terms.{Block, Part, Gap, Turn, row_of, trees}
use Rattle.msc_base.specs.Patterns.{Mode}
use Rattle.term_permission.specs.Lefts.{opened_left}
use Rattle.term_permission.specs.Ready.{IsReady}
use Rattle.term_permission.proofs.Joins.{flat-stays}
use Rattle.term_permission.proofs.PermitRows.{normal-turns}
use Rattle.term_laws.specs.Normality.{IsPartOf}
use Rattle.term_laws.specs.Permission.{permit, permit_all, permits_of}
use Rattle.term_laws.specs.Values.{block_of}
use Rattle.term_laws.proofs.Missed.{row-misses}

all_stay : (k : NetPermits) (b : Block) (ps : List Part) → EachTurn (λ x. permit k b x ≡ Some x) ps → permit_all k b (trees (begun ps)) ≡ Some (begun ps)
all_stay k b [] h = refl
all_stay k b (Gap c ∷ ps) h = all_stay k b ps h
all_stay k b (Turn x ∷ ps) h = λ i. and_then (h.0 i) (all_stay k b ps h.1 i)

pub left-missed : (w : Tables) (b : BlockValue) (m : Mode) (ps : List Part) → EachTurn (IsReady w) ps → EachTurn (IsPartOf m) ps → row_misses b (row_of ps) ≡ true → opened_left (permits_of w) (block_of b) m (begun ps) ≡ Some (begun ps)
left-missed w b m ps h o e =
    ap (option_map (flat m)) (all_stay (permits_of w) (block_of b) ps (row-misses (permits_of w) b ps (normal-turns w ps h) e)) ∙ ap Some (flat-stays m ps o)
