use Rattle.std.proofs.Common.{rules, ◌≡◌, ◌∙◌, Some, ap, sym, subst}
use Rattle.std.specs.List.{slice_get}
use Rattle.hmsc_graph.specs.Graphs.{End}
use Rattle.term_tables.specs.NetValues.{NetsValue}
use Rattle.expansion_tree.specs.declared.tree.Expansion.TheViews.{the_lemmas}
use Rattle.expansion_tree.specs.Numbered.{Expansion}
use Rattle.expansion_tree.specs.Views.{expansions_view}
use Rattle.expansion_terms.specs.MadeTerms.{made}
use Rattle.expansion_terms.specs.PartTerms.{AreNormal}
use Rattle.expansion_terms.proofs.Asked.{aside_given, choice_given, event_given, exception_given, part_stored, part_whole, row_given, tied_given, turns_given, walk_given, walk_seen}
use Rattle.expansion_terms.proofs.Dropped.{item_at}
use Rattle.expansion_terms.proofs.MadeReady.{all_normal}
use Rattle.expansion_terms.proofs.MadeSteps.{as_many, made_step}
use Rattle.expansion_terms.proofs.WalkSteps.{nodes_each, nodes_ready, nodes_tables, walked_tables, walked_term}
use Rattle.expansion_terms.proofs.terms.+terms.Goals as goal

-- ---- what is asked of the parts

pub made_term-event_of-requires : goal.made_term-event_of-requires
made_term-event_of-requires t c = event_given c.args.expansion.now c.in-Event.event c.in-Event.is c.requires.stored

pub made_term-made_terms-requires : goal.made_term-made_terms-requires
made_term-made_terms-requires t c =
    let asked = row_given c.args.expansion.now c.in-InRow.parts c.as_slice.result.now c.in-InRow.is c.as_slice.ensures.value c.requires.stored c.requires.whole in
    (search (rules, the_lemmas), (asked.stored, (asked.whole, c.requires.ready)))

pub made_term-made_terms-requires-in-Aside : goal.made_term-made_terms-requires-in-Aside
made_term-made_terms-requires-in-Aside t c =
    let asked = aside_given c.args.expansion.now c.in-Aside.parts c.as_slice-in-Aside.result.now c.in-Aside.is c.as_slice-in-Aside.ensures.value c.requires.stored c.requires.whole in
    (search (rules, the_lemmas), (asked.stored, (asked.whole, c.requires.ready)))

pub made_term-made_terms-requires-in-OneOf : goal.made_term-made_terms-requires-in-OneOf
made_term-made_terms-requires-in-OneOf t c =
    let asked = choice_given c.args.expansion.now c.in-OneOf.parts c.as_slice-in-OneOf.result.now c.in-OneOf.is c.as_slice-in-OneOf.ensures.value c.requires.stored c.requires.whole in
    (search (rules, the_lemmas), (asked.stored, (asked.whole, c.requires.ready)))

pub made_term-made_term-requires : goal.made_term-made_term-requires
made_term-made_term-requires t c =
    let asked = exception_given c.args.expansion.now c.in-Exception.part c.deref.result.now c.in-Exception.is c.deref.ensures c.requires.stored c.requires.whole in
    (search (rules, the_lemmas), (asked.stored, (asked.whole, c.requires.ready)))

pub made_term-made_term-requires-in-Turns : goal.made_term-made_term-requires-in-Turns
made_term-made_term-requires-in-Turns t c =
    let asked = turns_given c.args.expansion.now c.in-Turns.field-0 c.in-Turns.lower c.in-Turns.upper c.in-Turns.part c.deref-in-Turns.result.now c.in-Turns.is c.deref-in-Turns.ensures c.requires.stored c.requires.whole in
    (search (rules, the_lemmas), (asked.stored, (asked.whole, c.requires.ready)))

pub made_term-made_term-requires-in-Tied : goal.made_term-made_term-requires-in-Tied
made_term-made_term-requires-in-Tied t c =
    let asked = tied_given c.args.expansion.now c.in-Tied.part c.in-Tied.pairs c.deref-in-Tied.result.now c.in-Tied.is c.deref-in-Tied.ensures c.requires.stored c.requires.whole in
    (search (rules, the_lemmas), (asked.stored, (asked.whole, c.requires.ready)))

-- ---- rows

pub made_term-row_of-requires-clause-each : goal.made_term-row_of-requires-clause-each
made_term-row_of-requires-clause-each t c =
    let same : c.as_slice-in-InRow.result.now ≡ c.as_slice.result.now = c.as_slice-in-InRow.ensures.value ∙ sym c.as_slice.ensures.value in
    as_many c.args.nets.now.tables c.as_slice-in-InRow.result.now c.as_slice.result.now c.in_ok-terms-in-InRow.terms same c.in_ok-terms-in-InRow.ensures.terms

pub made_term-row_of-requires-clause-normal : goal.made_term-row_of-requires-clause-normal
made_term-row_of-requires-clause-normal t c =
    let asked = row_given c.args.expansion.now c.in-InRow.parts c.as_slice.result.now c.in-InRow.is c.as_slice.ensures.value c.requires.stored c.requires.whole in
    subst AreNormal (sym c.in_ok-terms-in-InRow.ensures.terms) (all_normal c.args.nets.now.tables (expansions_view c.as_slice.result.now) asked.whole c.requires.ready)

-- ---- parts

pub made_terms-made_term-requires : goal.made_terms-made_term-requires
made_terms-made_term-requires t c =
    let at : slice_get c.args.parts.now c.loop-part.part-index ≡ Some c.part-item.result = item_at c.args.parts.now c.loop-part.part-index c.part-item.result c.loop-part-test.true c.part-item.is in
    (search (rules, the_lemmas), (part_stored c.args.parts.now c.loop-part.part-index c.part-item.result at c.requires.stored, (part_whole c.args.parts.now c.loop-part.part-index c.part-item.result at c.requires.whole, c.loop-part.invariant.ready)))

pub made_terms-loop-part-preserved : goal.made_terms-loop-part-preserved
made_terms-loop-part-preserved t c =
    made_step c.args.parts.now c.args.nets.now c.loop-part.part-index c.loop-part.nets c.made_term.new.nets c.loop-part.terms c.push.new.self c.part-item.result c.in_ok-term.term c.loop-part-test.true c.part-item.is c.requires.whole c.loop-part.invariant
    c.in_ok-term.ensures.term c.in_ok-term.ensures.tables c.in_ok-push.ensures.ok

-- ---- walks

pub made_term-made_terms-requires-in-Walk : goal.made_term-made_terms-requires-in-Walk
made_term-made_terms-requires-in-Walk t c =
    let asked = walk_given c.args.expansion.now c.in-Walk.field-0 c.in-Walk.shape c.in-Walk.parts c.as_slice-in-Walk.result.now c.in-Walk.is c.as_slice-in-Walk.ensures.value c.requires.stored c.requires.whole in
    (search (rules, the_lemmas), (asked.nodes.stored, (asked.nodes.whole, c.requires.ready)))

pub made_term-walk_of-requires-clause-faultless : goal.made_term-walk_of-requires-clause-faultless
made_term-walk_of-requires-clause-faultless t c = (walk_given c.args.expansion.now c.in-Walk.field-0 c.in-Walk.shape c.in-Walk.parts c.as_slice-in-Walk.result.now c.in-Walk.is c.as_slice-in-Walk.ensures.value c.requires.stored c.requires.whole).graph.faultless

pub made_term-walk_of-requires-clause-each : goal.made_term-walk_of-requires-clause-each
made_term-walk_of-requires-clause-each t c =
    let asked = walk_given c.args.expansion.now c.in-Walk.field-0 c.in-Walk.shape c.in-Walk.parts c.as_slice-in-Walk.result.now c.in-Walk.is c.as_slice-in-Walk.ensures.value c.requires.stored c.requires.whole in
    nodes_each c.args.nets.now c.made_terms-in-Walk.new.nets c.in-Walk.shape (expansions_view c.as_slice-in-Walk.result.now) c.in_ok-terms-in-Walk.terms c.in_ok-terms-in-Walk.ensures.terms c.in_ok-terms-in-Walk.ensures.tables asked c.requires.ready

pub made_term-walk_of-requires-clause-tables : goal.made_term-walk_of-requires-clause-tables
made_term-walk_of-requires-clause-tables t c =
    let asked = walk_given c.args.expansion.now c.in-Walk.field-0 c.in-Walk.shape c.in-Walk.parts c.as_slice-in-Walk.result.now c.in-Walk.is c.as_slice-in-Walk.ensures.value c.requires.stored c.requires.whole in
    nodes_tables c.args.nets.now c.made_terms-in-Walk.new.nets c.in-Walk.shape (expansions_view c.as_slice-in-Walk.result.now) c.in_ok-terms-in-Walk.terms c.in_ok-terms-in-Walk.ensures.terms c.in_ok-terms-in-Walk.ensures.tables asked c.requires.ready

pub made_term-walk_of-requires-clause-ready : goal.made_term-walk_of-requires-clause-ready
made_term-walk_of-requires-clause-ready t c =
    let asked = walk_given c.args.expansion.now c.in-Walk.field-0 c.in-Walk.shape c.in-Walk.parts c.as_slice-in-Walk.result.now c.in-Walk.is c.as_slice-in-Walk.ensures.value c.requires.stored c.requires.whole in
    nodes_ready c.args.nets.now c.made_terms-in-Walk.new.nets c.in-Walk.shape (expansions_view c.as_slice-in-Walk.result.now) c.in_ok-terms-in-Walk.terms c.in_ok-terms-in-Walk.ensures.terms c.in_ok-terms-in-Walk.ensures.tables asked c.requires.ready

pub made_term-returns-in_ok-term-in-Walk-clause-term : goal.made_term-returns-in_ok-term-in-Walk-clause-term
made_term-returns-in_ok-term-in-Walk-clause-term t c =
    let view = walk_seen c.args.expansion.now c.in-Walk.field-0 c.in-Walk.shape c.in-Walk.parts c.as_slice-in-Walk.result.now c.in-Walk.is c.as_slice-in-Walk.ensures.value in
    walked_term c.args.nets.now c.made_terms-in-Walk.new.nets c.in-Walk.shape (expansions_view c.as_slice-in-Walk.result.now) c.in_ok-terms-in-Walk.terms c.in_ok-terms-in-Walk.ensures.terms c.in_ok-terms-in-Walk.ensures.tables End c.in-Walk.field-0 c.in_ok-term-in-Walk.term c.in_ok-term-in-Walk.ensures.term
    ∙ sym (ap (λ (x : Expansion). (made c.args.nets.now.tables x).term) view)

pub made_term-returns-in_ok-term-in-Walk-clause-tables : goal.made_term-returns-in_ok-term-in-Walk-clause-tables
made_term-returns-in_ok-term-in-Walk-clause-tables t c =
    let v : NetsValue = c.args.nets.now in
    let view = walk_seen c.args.expansion.now c.in-Walk.field-0 c.in-Walk.shape c.in-Walk.parts c.as_slice-in-Walk.result.now c.in-Walk.is c.as_slice-in-Walk.ensures.value in
    walked_tables c.args.nets.now c.made_terms-in-Walk.new.nets c.in-Walk.shape (expansions_view c.as_slice-in-Walk.result.now) c.in_ok-terms-in-Walk.terms c.in_ok-terms-in-Walk.ensures.terms c.in_ok-terms-in-Walk.ensures.tables End c.in-Walk.field-0 c.walk_of.new.nets c.in_ok-term-in-Walk.ensures.tables
    ∙ sym (ap (λ (x : Expansion). record v { tables = (made v.tables x).tables }) view)
