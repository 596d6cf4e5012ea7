use Rattle.std.proofs.Common.{◌≡◌, ◌++◌, ◌∷◌, [], ℕ, List, length, get_or, append-nil, ap, sym, subst, ◌∙◌, arith, OnOk}
use Rattle.column_order.specs.declared.edge.Edge.{Edge}
use Rattle.level_pieces.specs.ItemEdges.{lead_edges, name_edge}
use Rattle.level_pieces.proofs.columns.push_leads.Goals as goal

one_lead : (names leads : List (List ℕ)) (at : List ℕ) (item : ℕ) → length leads ≡ 1 → at ≡ get_or leads 0 at → lead_edges names [] leads item ≡ name_edge names at item
one_lead names [] at item one is = absurd (omega (arith, one))
one_lead names (a ∷ []) at item one is = append-nil (name_edge names a item) ∙ ap (λ (n : List ℕ). name_edge names n item) (sym is)
one_lead names (a ∷ b ∷ leads) at item one is = absurd (omega (arith, one))

pub returns-then-leads-eq1 : goal.returns-then-leads-eq1
returns-then-leads-eq1 c =
    let same = one_lead c.args.table.now c.args.leads.now c.index-leads-0.result c.args.item c.if-leads-eq1.true c.index-leads-0.is in
    subst (λ (added : List Edge). OnOk c.push_edge.result (c.push_edge.new.edges.items ≡ c.args.edges.now.items ++ added)) (sym same) c.push_edge.ensures
