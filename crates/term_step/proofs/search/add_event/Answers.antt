use Rattle.std.proofs.Common.{subst}
use Rattle.chart_term.specs.Terms.{Tree}
use Rattle.term_step.specs.Kept.{AreLinked}
use Rattle.term_laws.specs.Permission.{permits_of}
use Rattle.chart_term.specs.Views.{event_of}
use Rattle.term_step.proofs.Searching.{one-rebuilt, own-gathered}
use Rattle.term_step.proofs.search.add_event.Goals as goal

pub returns-in_ok-all-in-Some-left-clause-found : goal.returns-in_ok-all-in-Some-left-clause-found
returns-in_ok-all-in-Some-left-clause-found c =
    let (is, taken, labelled) = rw c.in-Some.is at c.in_ok-taken.ensures.event in
    own-gathered c.args.nets.now.tables c.args.label c.args.path.now.items c.args.term.now (event_of c.in-Some.taken.event) c.args.found.now c.add.new.self c.in_ok-all-in-Some-left.all is
    (one-rebuilt c.args.nets.now.tables c.args.label c.args.path.now.items (event_of c.in-Some.taken.event) c.args.found.now c.requires.tally c.requires.within c.in_ok-left.left c.in-Some-left.left c.add.new.self c.in_ok-all-in-Some-left.all c.in_ok-left.ensures.left c.in-Some-left.is c.in_ok-left.ensures.ready labelled c.in_ok-all-in-Some-left.ensures)

pub rebuilt-requires-clause-linked : goal.rebuilt-requires-clause-linked
rebuilt-requires-clause-linked c =
    let (is, taken, labelled) = rw c.in-Some.is at c.in_ok-taken.ensures.event in
    subst (λ (y : Tree). AreLinked (permits_of c.args.nets.now.tables) c.args.path.now.items y) is c.requires.linked
