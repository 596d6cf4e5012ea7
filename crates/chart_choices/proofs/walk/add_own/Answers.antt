use Rattle.std.proofs.Common.{[], ◌∷◌, subst, sym}
use Rattle.msc_tree.specs.declared.reference.InlineForm.{InlineForm}
use Rattle.expansion_tree.specs.Views.{expansions_view}
use Rattle.choice_parts.specs.ChoiceParts.{own_parts, part_behind, part_list}
use Rattle.chart_choices.specs.Making.{AreJudged, IsWalked}
use Rattle.chart_choices.proofs.Steps.{each_last, each_left, walked_none}
use Rattle.chart_choices.proofs.walk.add_own.Goals as goal

pub add_exception-requires-clause-judged : goal.add_exception-requires-clause-judged
add_exception-requires-clause-judged c =
    let s = c.args.tables.now in
    let xs = expansions_view c.args.operands.now in
    let z = part_behind (expansions_view c.args.behind.now) c.args.pairs.now in
    let judged = subst (λ (form : InlineForm). AreJudged s.names s.nets.labels (own_parts form c.args.place xs z)) c.in-Exc.is c.requires.judged in
    each_left s.names s.nets.labels (part_list xs) (z ∷ []) judged.0

pub add_exception-requires-clause-behind : goal.add_exception-requires-clause-behind
add_exception-requires-clause-behind c =
    let s = c.args.tables.now in
    let xs = expansions_view c.args.operands.now in
    let z = part_behind (expansions_view c.args.behind.now) c.args.pairs.now in
    let judged = subst (λ (form : InlineForm). AreJudged s.names s.nets.labels (own_parts form c.args.place xs z)) c.in-Exc.is c.requires.judged in
    each_last s.names s.nets.labels (part_list xs) z judged.0

pub returns-in-Par : goal.returns-in-Par
returns-in-Par c =
    let s = c.args.tables.now in
    let a = c.args.found.now.items in
    subst (λ (form : InlineForm). IsWalked s s (own_parts form c.args.place (expansions_view c.args.operands.now) (part_behind (expansions_view c.args.behind.now) c.args.pairs.now)) a a) (sym c.in-Par.is) (walked_none s a c.requires.ready)

pub returns-in-Loop : goal.returns-in-Loop
returns-in-Loop c =
    let s = c.args.tables.now in
    let a = c.args.found.now.items in
    subst (λ (form : InlineForm). IsWalked s s (own_parts form c.args.place (expansions_view c.args.operands.now) (part_behind (expansions_view c.args.behind.now) c.args.pairs.now)) a a) (sym c.in-Loop.is) (walked_none s a c.requires.ready)
