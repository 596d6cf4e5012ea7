use Rattle.std.proofs.Common.{◌≡◌, ◌∙◌, ◌++◌, ◌∷◌, [], ℕ, length, ap}
use Rattle.chart_term.specs.Terms.{Tree}
use Rattle.empty_terms.specs.ChartTerms.{IsChartTerm}
use Rattle.empty_terms.specs.Outlines.{ArePartsKnown, Grows, IsOutlined}
use Rattle.empty_terms.specs.declared.outline.Outline.{Outline}
use Rattle.empty_terms.proofs.Numbering.{on_ok_three, net_outlined}
use Rattle.empty_terms.proofs.outline.Outline.add_net.Goals as goal

pub returns-clause-outlined : goal.returns-clause-outlined
returns-clause-outlined c =
    let w = c.args.nets.now.tables in
    let old = c.args.self.now in
    let new : Outline = record { terms = c.number_parts.new.terms; firsts = c.number_parts.new.firsts; roots = c.push.new.self } in
    let roots = c.in_ok-push.ensures.items ∙ ap (λ (n : ℕ). old.roots.items ++ n ∷ []) c.len.ensures in
    on_ok_three (ArePartsKnown new.terms new.firsts.items) (length new.firsts.items ≡ length new.terms) (Grows (length old.firsts.items) c.push_nodes.new.terms new.terms)
    ((x : Tree) → IsChartTerm w x → IsOutlined w x old → IsOutlined w x new) c.number_parts.result
    (λ known whole grows x chart before. net_outlined w x c.args.net c.push_nodes.new.terms old new chart c.requires.next roots c.in_ok-push_nodes.ensures c.requires.whole known whole grows before)
    c.number_parts.ensures.known c.number_parts.ensures.whole c.number_parts.ensures.grows
