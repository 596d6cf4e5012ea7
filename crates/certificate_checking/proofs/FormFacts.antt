-- Terms of the forms that a look shows.
use Rattle.std.specs.Prelude.{ℕ, ◌≡◌, List, Option, length}
use Rattle.std.proofs.Common.{ap, sym, ◌∙◌}
use Rattle.msc_base.specs.Patterns.{seq, par}
use Rattle.hmsc_graph.specs.Graphs.{Spot, Goal}
use Rattle.chart_term.specs.NormalForms.{begun}
use Rattle.chart_term.specs.PartLists.{AreTurns}
use Rattle.chart_term.specs.Terms.{Tree, Join, Choice, Tied, Loop, Walk, trees, Row, Part}
use Rattle.chart_term.proofs.Lists.{items-trees}
use Rattle.chart_term.proofs.Turns.{begun-length}
use Rattle.certificate_checking.specs.Forms.{IsJoin, IsChoice, IsTie, IsLoop, IsWalk}

pub row_join : (x : Tree) (ps : List Part) (n : ℕ) → x ≡ Join seq (trees (begun ps)) → AreTurns ps → n ≡ length ps → IsJoin seq n x
row_join x ps n e t l = record { parts = trees (begun ps); is = e; many = ap length (items-trees (begun ps)) ∙ (begun-length ps t ∙ sym l) }

pub beside_join : (x : Tree) (ps : List Part) (n : ℕ) → x ≡ Join par (trees (begun ps)) → AreTurns ps → n ≡ length ps → IsJoin par n x
beside_join x ps n e t l = record { parts = trees (begun ps); is = e; many = ap length (items-trees (begun ps)) ∙ (begun-length ps t ∙ sym l) }

pub choice_is : (x : Tree) (ps : List Part) (n : ℕ) → x ≡ Choice (trees (begun ps)) → AreTurns ps → n ≡ length ps → IsChoice n x
choice_is x ps n e t l = record { parts = trees (begun ps); is = e; many = ap length (items-trees (begun ps)) ∙ (begun-length ps t ∙ sym l) }

pub tie_is : (x y : Tree) (q : List (ℕ × ℕ)) → x ≡ Tied y q → IsTie x
tie_is x y q e = record { inner = y; pairs = q; is = e }

pub loop_is : (x y : Tree) (lo : ℕ) (hi : Option ℕ) (r : Row) → x ≡ Loop y lo hi r → IsLoop lo hi x
loop_is x y lo hi r e = record { body = y; row = r; is = e }

pub walk_is : (x : Tree) (n : ℕ) (f : Spot) (t : Goal) (c : List ℕ) → x ≡ Walk n f t c → IsWalk n x
walk_is x n f t c e = record { from = f; to = t; past = c; is = e }

pub ruleset forms = (row_join, beside_join, choice_is, tie_is, loop_is, walk_is)
