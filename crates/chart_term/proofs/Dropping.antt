-- What is left of a list of parts whose last one was taken is no deeper than the list.
use Rattle.std.proofs.Common.{◌≡◌, ℕ, ◌+◌, ◌*◌, ◌<◌, ◌≤◌, List, [], ◌∷◌, ◌++◌, arith, ap, Option}
use Rattle.std.specs.Prelude.{option_to_list}
use denote.Param.Weighed.{most}
use Rattle.chart_term.specs.declared.term.Node.TheDeep.{size-RowPart}
use Rattle.chart_term.specs.declared.term.RowPart.{RowPart}
use Rattle.chart_term.specs.declared.term.RowPart.TheVariants as part
use Rattle.chart_term.specs.Rows.{parts_of}
use Rattle.chart_term.specs.Sizes.{nodes, parts_nodes}
use Rattle.chart_term.specs.Terms.{Tree, Part}

at_least : (ps : List Part) → 1 ≤ parts_nodes ps
at_least [] = omega arith
at_least (p ∷ ps) = omega arith

most_sizes : (ps : List RowPart) → most size-RowPart ps ≤ parts_nodes (parts_of ps) * 6
most_sizes [] = omega arith
most_sizes (part.Gap b ∷ ps) = omega (arith, most_sizes ps, at_least (parts_of ps))
most_sizes (part.Turn x ∷ ps) = omega (arith, most_sizes ps, at_least (parts_of ps))

front_nodes : (ps qs : List RowPart) → parts_nodes (parts_of ps) ≤ parts_nodes (parts_of (ps ++ qs))
front_nodes [] qs = at_least (parts_of qs)
front_nodes (part.Gap b ∷ ps) qs = omega (arith, front_nodes ps qs)
front_nodes (part.Turn x ∷ ps) qs = omega (arith, front_nodes ps qs)

pub front_falls : (xs ps : List RowPart) (last : Option RowPart) → xs ≡ ps ++ option_to_list last → most size-RowPart ps ≤ parts_nodes (parts_of xs) * 6
front_falls xs ps last e = omega (arith, most_sizes ps, front_nodes ps (option_to_list last), ap (λ zs. parts_nodes (parts_of zs)) e)

-- so letting it go is measured by less than the term that held the list
pub most_falls : (xs rest : List RowPart) (last : Option RowPart) (ps : List Part) (x : Tree) (t : ℕ) → xs ≡ rest ++ option_to_list last → parts_nodes (parts_of xs) ≡ parts_nodes ps → parts_nodes ps < nodes x → 3 * (nodes x * 2 + 1 + 1) + 0 ≡ t → most size-RowPart rest < t
most_falls xs rest last ps x t e is below goes = omega (arith, front_falls xs rest last e, is, below, goes)
