use Rattle.expansion_tree.specs.Views.{expansion_view}
use Rattle.expansion_terms.specs.MadeTerms.{made}
use Rattle.expansion_terms.proofs.MadeReady.{made_ready, ready_now}
use Rattle.expansion_terms.proofs.terms.term_of.Goals as goal

pub returns : goal.returns
returns c =
    let x = expansion_view c.args.expansion.now in
    let t = c.args.nets.now.tables in
    let ready = ready_now c.args.nets.now c.made_term.new.nets (made t x) c.in_ok-term.term c.in_ok-term.ensures.term c.in_ok-term.ensures.tables (made_ready t x c.requires.whole c.requires.ready) in
    record { term = c.in_ok-term.ensures.term; tables = c.in_ok-term.ensures.tables; ready_tables = ready.tables; ready_term = ready.term }
