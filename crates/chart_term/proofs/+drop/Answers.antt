use Rattle.std.proofs.Common.{rules, ◌≡◌, ◌+◌, ap, sym, ◌∙◌, arith}
use Rattle.chart_term.specs.Rows.{parts_of}
use Rattle.chart_term.specs.Sizes.{nodes, parts_nodes}
use Rattle.chart_term.specs.TermViews.{held_parts, tree_of}
use Rattle.chart_term.proofs.Dropping.{most_falls}
use Rattle.chart_term.proofs.+drop.Goals as goal

pub term::Term::drop-drop-items-requires : goal.term::Term::drop-drop-items-requires
term::Term::drop-drop-items-requires t c κs =
    let held : parts_nodes (parts_of c.in-Leaf.items.items) ≡ parts_nodes c.loop-stretch.parts = ap parts_nodes (ap held_parts (sym c.in-Leaf.is) ∙ c.stretch.view_is ∙ c.in-Some-into_inner.ensures ∙ c.parts.view_is) in
    (((most_falls c.in-Leaf.items.items c.pop.new.self.items c.pop.result c.loop-stretch.parts c.args.self t c.pop.ensures.items held c.loop-stretch.invariant.below c.decreases, search rules), search rules), search rules)

pub term::Term::drop-drop-items-requires-in_default-pop : goal.term::Term::drop-drop-items-requires-in_default-pop
term::Term::drop-drop-items-requires-in_default-pop t c κs =
    let held : parts_nodes (parts_of c.in-Leaf.items.items) ≡ parts_nodes c.loop-stretch.parts = ap parts_nodes (ap held_parts (sym c.in-Leaf.is) ∙ c.stretch.view_is ∙ c.in-Some-into_inner.ensures ∙ c.parts.view_is) in
    (((most_falls c.in-Leaf.items.items c.pop.new.self.items c.pop.result c.loop-stretch.parts c.args.self t c.pop.ensures.items held c.loop-stretch.invariant.below c.decreases, search rules), search rules), search rules)

pub term::Term::drop-loop-inside-smaller-in-Tied : goal.term::Term::drop-loop-inside-smaller-in-Tied
term::Term::drop-loop-inside-smaller-in-Tied t c =
    let held : nodes c.in-Tied.inner + 1 ≡ nodes c.loop-inside.self = ap nodes (ap tree_of (sym c.in-Tied.is) ∙ c.inside.view_is ∙ c.in-Some.ensures ∙ c.self.view_is) in
    omega (arith, held)

pub term::Term::drop-loop-inside-preserved-in-Tied : goal.term::Term::drop-loop-inside-preserved-in-Tied
term::Term::drop-loop-inside-preserved-in-Tied t c =
    let held : nodes c.in-Tied.inner + 1 ≡ nodes c.loop-inside.self = ap nodes (ap tree_of (sym c.in-Tied.is) ∙ c.inside.view_is ∙ c.in-Some.ensures ∙ c.self.view_is) in
    omega (arith, held, c.loop-inside.invariant)
