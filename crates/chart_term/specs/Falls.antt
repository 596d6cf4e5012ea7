-- No part of a stretch of a list is as deep as the stretch.
use Rattle.std.specs.Prelude.{◌*◌, ◌≤◌, List, [], ◌∷◌, max}
use Rattle.std.proofs.Common.{arith}
use denote.Param.Weighed.{most}
use Rattle.chart_term.specs.declared.term.Node.TheDeep.{deep-RowPart, deep-StretchForm}
use Rattle.chart_term.specs.declared.term.RowPart.{RowPart}
use Rattle.chart_term.specs.declared.term.RowPart.TheVariants as part
use Rattle.chart_term.specs.declared.term.StretchForm.{StretchForm}
use Rattle.chart_term.specs.declared.term.StretchForm.TheVariants as stretch
use Rattle.chart_term.specs.Rows.{parts_of}
use Rattle.chart_term.specs.Sizes.{parts_nodes, parts_nodes-append, parts_nodes-full}
use Rattle.chart_term.specs.TermViews.{AreFilled, held_parts}

most-parts_nodes : (ps : List RowPart) → most deep-RowPart ps ≤ parts_nodes (parts_of ps) * 2
most-parts_nodes [] = omega arith
most-parts_nodes (part.Gap b ∷ ps) = omega (arith, most-parts_nodes ps)
most-parts_nodes (part.Turn x ∷ ps) = omega (arith, most-parts_nodes ps)

pub stretch_falls : (f : StretchForm) → AreFilled f → max (deep-StretchForm f) 0 ≤ parts_nodes (held_parts f) * 2
stretch_falls (stretch.Leaf ps) h = omega (arith, most-parts_nodes ps.items)
stretch_falls (stretch.Fork ps qs) h = omega (arith, parts_nodes-append ps qs, parts_nodes-full ps h.0, parts_nodes-full qs h.1)
