-- By what a walk over a term falls: its nodes.
use Rattle.std.specs.Prelude.{ℕ, zero, suc, ◌+◌, ◌<◌, List, [], ◌∷◌, ◌++◌, ◌≡◌, Option, Some, slice_get, length, get_or}
use Rattle.std.proofs.Common.{ap, arith}
use Rattle.msc_base.specs.Patterns.{seq, par}
use Rattle.chart_term.proofs.Cuts.{at_leaf}
use Rattle.chart_term.specs.NormalForms.{begun}
use Rattle.chart_term.specs.PartLists.{AreTurns}
use Rattle.chart_term.specs.Rows.{part_of, parts_of}
use Rattle.chart_term.specs.declared.term.RowPart.{RowPart}
use Rattle.chart_term.specs.Sizes.{nodes, part_nodes, parts_nodes, begun-nodes, nodes_row-row_of, parts_nodes-append, parts_nodes-full}
use Rattle.chart_term.specs.Terms.{Tree, Join, Choice, Tied, Loop, trees, Part, row_of}

-- for the terms that a look shows
pub nodes-then : (x : Tree) (ps : List Part) → (x ≡ Join seq (trees (begun ps))) × AreTurns ps → parts_nodes ps < nodes x
nodes-then x ps h = rw h.0 (omega (arith, begun-nodes ps h.1))

pub nodes-par : (x : Tree) (ps : List Part) → (x ≡ Join par (trees (begun ps))) × AreTurns ps → parts_nodes ps < nodes x
nodes-par x ps h = rw h.0 (omega (arith, begun-nodes ps h.1))

pub nodes-choice : (x : Tree) (ps : List Part) → (x ≡ Choice (trees (begun ps))) × AreTurns ps × (0 < length ps) → parts_nodes ps < nodes x
nodes-choice x ps h = rw h.0 (omega (arith, begun-nodes ps h.1))

pub nodes-tied : (x y : Tree) (q : List (ℕ × ℕ)) → x ≡ Tied y q → nodes y < nodes x
nodes-tied x y q e = rw e (omega arith)

pub nodes-loop : (x y : Tree) (lo : ℕ) (hi : Option ℕ) (ps : List Part) → x ≡ Loop y lo hi (row_of ps) → nodes y + parts_nodes ps < nodes x
nodes-loop x y lo hi ps e = rw e (omega (arith, nodes_row-row_of ps))

pub nodes-part : (ps : List Part) (i : ℕ) (t : Part) → slice_get ps i ≡ Some t → part_nodes t < parts_nodes ps
nodes-part [] i t h = cc
nodes-part (y ∷ ys) zero t h = let e : y ≡ t = cc in let f = ap part_nodes e in omega arith
nodes-part (y ∷ ys) (suc i) t h = omega (arith, nodes-part ys i t h)

-- for the halves of a list
pub nodes-first : (ps qs rs : List Part) → (ps ≡ qs ++ rs) × (0 < length qs) × (0 < length rs) → parts_nodes qs < parts_nodes ps
nodes-first ps qs rs h = rw h.0 (omega (arith, parts_nodes-append qs rs, parts_nodes-full rs h.2))

pub nodes-second : (ps qs rs : List Part) → (ps ≡ qs ++ rs) × (0 < length qs) × (0 < length rs) → parts_nodes rs < parts_nodes ps
nodes-second ps qs rs h = rw h.0 (omega (arith, parts_nodes-append qs rs, parts_nodes-full qs h.1))

-- for a part of a leaf
pub nodes-held : (ps : List Part) (held : List RowPart) (i : ℕ) (x : RowPart) → ps ≡ parts_of held → i < length held → x ≡ get_or held i x → part_nodes (part_of x) < parts_nodes ps
nodes-held ps held i x e lt is = nodes-part ps i (part_of x) (at_leaf ps held i x e lt is)

pub ruleset nodes_fall = (nodes-then, nodes-par, nodes-choice, nodes-tied, nodes-loop, nodes-part, nodes-first, nodes-second, nodes-held)
