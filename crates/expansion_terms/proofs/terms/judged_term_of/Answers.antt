use Rattle.std.proofs.Common.{◌∙◌, ap, sym}
use Rattle.hmsc_graph.specs.Graphs.{Any}
use Rattle.term_tables.specs.NetValues.{NetsValue}
use Rattle.expansion_tree.specs.Numbered.{Expansion}
use Rattle.expansion_tree.specs.Views.{expansion_view, expansions_view}
use Rattle.expansion_terms.specs.MadeTerms.{Made, judged}
use Rattle.expansion_terms.proofs.Asked.{walk_given, walk_seen}
use Rattle.expansion_terms.proofs.Judging.{judged_as_made}
use Rattle.expansion_terms.proofs.MadeReady.{judged_ready, ready_now}
use Rattle.expansion_terms.proofs.WalkSteps.{nodes_each, nodes_ready, nodes_tables, walked_tables, walked_term}
use Rattle.expansion_terms.proofs.terms.judged_term_of.Goals as goal

pub made_terms-requires-clause-stored : goal.made_terms-requires-clause-stored
made_terms-requires-clause-stored c = (walk_given c.args.expansion.now c.in-Walk.field-0 c.in-Walk.shape c.in-Walk.parts c.as_slice.result.now c.in-Walk.is c.as_slice.ensures.value c.requires.stored c.requires.whole).nodes.stored

pub made_terms-requires-clause-whole : goal.made_terms-requires-clause-whole
made_terms-requires-clause-whole c = (walk_given c.args.expansion.now c.in-Walk.field-0 c.in-Walk.shape c.in-Walk.parts c.as_slice.result.now c.in-Walk.is c.as_slice.ensures.value c.requires.stored c.requires.whole).nodes.whole

pub walk_of-requires-clause-faultless : goal.walk_of-requires-clause-faultless
walk_of-requires-clause-faultless c = (walk_given c.args.expansion.now c.in-Walk.field-0 c.in-Walk.shape c.in-Walk.parts c.as_slice.result.now c.in-Walk.is c.as_slice.ensures.value c.requires.stored c.requires.whole).graph.faultless

pub walk_of-requires-clause-each : goal.walk_of-requires-clause-each
walk_of-requires-clause-each c =
    let asked = walk_given c.args.expansion.now c.in-Walk.field-0 c.in-Walk.shape c.in-Walk.parts c.as_slice.result.now c.in-Walk.is c.as_slice.ensures.value c.requires.stored c.requires.whole in
    nodes_each c.args.nets.now c.made_terms.new.nets c.in-Walk.shape (expansions_view c.as_slice.result.now) c.in_ok-terms-in-Walk.terms c.in_ok-terms-in-Walk.ensures.terms c.in_ok-terms-in-Walk.ensures.tables asked c.requires.ready

pub walk_of-requires-clause-tables : goal.walk_of-requires-clause-tables
walk_of-requires-clause-tables c =
    let asked = walk_given c.args.expansion.now c.in-Walk.field-0 c.in-Walk.shape c.in-Walk.parts c.as_slice.result.now c.in-Walk.is c.as_slice.ensures.value c.requires.stored c.requires.whole in
    nodes_tables c.args.nets.now c.made_terms.new.nets c.in-Walk.shape (expansions_view c.as_slice.result.now) c.in_ok-terms-in-Walk.terms c.in_ok-terms-in-Walk.ensures.terms c.in_ok-terms-in-Walk.ensures.tables asked c.requires.ready

pub walk_of-requires-clause-ready : goal.walk_of-requires-clause-ready
walk_of-requires-clause-ready c =
    let asked = walk_given c.args.expansion.now c.in-Walk.field-0 c.in-Walk.shape c.in-Walk.parts c.as_slice.result.now c.in-Walk.is c.as_slice.ensures.value c.requires.stored c.requires.whole in
    nodes_ready c.args.nets.now c.made_terms.new.nets c.in-Walk.shape (expansions_view c.as_slice.result.now) c.in_ok-terms-in-Walk.terms c.in_ok-terms-in-Walk.ensures.terms c.in_ok-terms-in-Walk.ensures.tables asked c.requires.ready

pub returns-in_ok-term-in-Walk : goal.returns-in_ok-term-in-Walk
returns-in_ok-term-in-Walk c =
    let v : NetsValue = c.args.nets.now in
    let view = walk_seen c.args.expansion.now c.in-Walk.field-0 c.in-Walk.shape c.in-Walk.parts c.as_slice.result.now c.in-Walk.is c.as_slice.ensures.value in
    let is = walked_term c.args.nets.now c.made_terms.new.nets c.in-Walk.shape (expansions_view c.as_slice.result.now) c.in_ok-terms-in-Walk.terms c.in_ok-terms-in-Walk.ensures.terms c.in_ok-terms-in-Walk.ensures.tables Any c.in-Walk.field-0 c.in_ok-term-in-Walk.term c.in_ok-term-in-Walk.ensures.term
    ∙ sym (ap (λ (x : Expansion). (judged v.tables x).term) view) in
    let nets = walked_tables c.args.nets.now c.made_terms.new.nets c.in-Walk.shape (expansions_view c.as_slice.result.now) c.in_ok-terms-in-Walk.terms c.in_ok-terms-in-Walk.ensures.terms c.in_ok-terms-in-Walk.ensures.tables Any c.in-Walk.field-0 c.walk_of.new.nets c.in_ok-term-in-Walk.ensures.tables
    ∙ sym (ap (λ (x : Expansion). record v { tables = (judged v.tables x).tables }) view) in
    let ready = ready_now v c.walk_of.new.nets (judged v.tables (expansion_view c.args.expansion.now)) c.in_ok-term-in-Walk.term is nets (judged_ready v.tables (expansion_view c.args.expansion.now) c.requires.whole c.requires.ready) in
    record { term = is; tables = nets; ready_tables = ready.tables; ready_term = ready.term }

pub returns-in_ok-term-in_default : goal.returns-in_ok-term-in_default
returns-in_ok-term-in_default c =
    let v : NetsValue = c.args.nets.now in
    let same = judged_as_made v.tables c.args.expansion.now c.in_default.not-Walk in
    let is = c.in_ok-term-in_default.ensures.term ∙ sym (ap (λ (m : Made). m.term) same) in
    let nets = c.in_ok-term-in_default.ensures.tables ∙ sym (ap (λ (m : Made). record v { tables = m.tables }) same) in
    let ready = ready_now v c.made_term.new.nets (judged v.tables (expansion_view c.args.expansion.now)) c.in_ok-term-in_default.term is nets (judged_ready v.tables (expansion_view c.args.expansion.now) c.requires.whole c.requires.ready) in
    record { term = is; tables = nets; ready_tables = ready.tables; ready_term = ready.term }
