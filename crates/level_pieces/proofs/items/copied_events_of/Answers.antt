use Rattle.std.proofs.Common.{rules, ◌≡◌, ◌∷◌, ◌∙◌, [], ℕ, List, ap, map, sym, subst}
use Rattle.level_pieces.specs.PieceViews.{piece_view}
use Rattle.msc_meaning.specs.Bodies.{EventNode, WovenItem}
use Rattle.msc_meaning.specs.Bodies as body
use Rattle.msc_meaning.specs.Levels.{IsWovenItem, a_coregion, an_event, nodes_from}
use Rattle.msc_meaning.specs.Views.{item_view, node_view}
use Rattle.msc_meaning.specs.declared.body.Item.TheVariants as item
use Rattle.msc_tree.specs.Statements as tree
use Rattle.msc_tree.specs.Views.{form_view}
use Rattle.level_pieces.proofs.ViewFacts.{coregion_form, coregion_is, single_form, single_is}
use Rattle.level_pieces.proofs.items.copied_events_of.Goals as goal

pub returns-in_ok-node-in-Single : goal.returns-in_ok-node-in-Single
returns-in_ok-node-in-Single c = λ level.
    let made : EventNode = record { number = c.args.piece.first; at = c.at_of.result.now; event = c.in-Single.event } in
    let shown : item_view (item.Single c.in_ok-node-in-Single.node) ≡ body.Single made = single_is c.in_ok-node-in-Single.node ∙ ap (λ (n : EventNode). body.Single n) c.in_ok-node-in-Single.ensures in
    let form : form_view c.args.piece.form.now ≡ tree.Single c.in-Single.event = ap form_view c.in-Single.is ∙ single_form c.in-Single.event in
    subst (λ (i : WovenItem). IsWovenItem level (piece_view c.args.piece ∷ []) i) (sym shown) (an_event form c.at_of.ensures)

pub returns-in_ok-nodes-in-Coregion : goal.returns-in_ok-nodes-in-Coregion
returns-in_ok-nodes-in-Coregion c = λ level.
    let at : List ℕ = c.at_of-in-Coregion.result.now in
    let nodes : map node_view c.in_ok-nodes-in-Coregion.nodes ≡ nodes_from c.args.piece.first at c.in-Coregion.list = search rules in
    let shown : item_view (item.Coregion c.in_ok-nodes-in-Coregion.nodes) ≡ body.Coregion (nodes_from c.args.piece.first at c.in-Coregion.list) =
    coregion_is c.in_ok-nodes-in-Coregion.nodes ∙ ap (λ (ns : List EventNode). body.Coregion ns) nodes in
    let form : form_view c.args.piece.form.now ≡ tree.Coregion c.in-Coregion.list = ap form_view c.in-Coregion.is ∙ coregion_form c.in-Coregion.list in
    subst (λ (i : WovenItem). IsWovenItem level (piece_view c.args.piece ∷ []) i) (sym shown) (a_coregion form c.at_of-in-Coregion.ensures)
