use Rattle.log_ways.proofs.Growing.{stepped_serves, stepped_grows, stepped_leads}
use Rattle.log_ways.proofs.history.next_set.Goals as goal

pub returns-clause-serves : goal.returns-clause-serves
returns-clause-serves c =
    let joins = rw c.in-Some-2.is at c.in_ok-set.ensures.found in
    let rising = rw c.in-Some-2.is at c.in_ok-set.ensures.rising in
    stepped_serves c.args.nets.now c.args.budget c.args.memory.now c.keep.new.memory c.note.new.memory c.args.from c.args.number c.in_ok-to.to c.set.result.now c.in-Some-2.set c.requires.serves c.requires.from c.requires.labelled.label c.requires.labelled.is c.set.ensures
    (joins c.requires.labelled.label c.requires.labelled.is) rising c.keep.ensures.bounds c.keep.ensures.sets c.keep.ensures.moves c.in_ok-to.ensures.there c.note.ensures.bounds c.note.ensures.sets c.note.ensures.moves

pub returns-clause-grows : goal.returns-clause-grows
returns-clause-grows c =
    let joins = rw c.in-Some-2.is at c.in_ok-set.ensures.found in
    let rising = rw c.in-Some-2.is at c.in_ok-set.ensures.rising in
    stepped_grows c.args.nets.now c.args.budget c.args.memory.now c.keep.new.memory c.note.new.memory c.args.from c.args.number c.in_ok-to.to c.set.result.now c.in-Some-2.set c.requires.serves c.requires.from c.requires.labelled.label c.requires.labelled.is c.set.ensures
    (joins c.requires.labelled.label c.requires.labelled.is) rising c.keep.ensures.bounds c.keep.ensures.sets c.keep.ensures.moves c.in_ok-to.ensures.there c.note.ensures.bounds c.note.ensures.sets c.note.ensures.moves

pub returns-clause-next : goal.returns-clause-next
returns-clause-next c =
    let joins = rw c.in-Some-2.is at c.in_ok-set.ensures.found in
    let rising = rw c.in-Some-2.is at c.in_ok-set.ensures.rising in
    stepped_leads c.args.nets.now c.args.budget c.args.memory.now c.keep.new.memory c.note.new.memory c.args.from c.args.number c.in_ok-to.to c.set.result.now c.in-Some-2.set c.requires.serves c.requires.from c.requires.labelled.label c.requires.labelled.is c.set.ensures
    (joins c.requires.labelled.label c.requires.labelled.is) rising c.keep.ensures.bounds c.keep.ensures.sets c.keep.ensures.moves c.in_ok-to.ensures.there c.note.ensures.bounds c.note.ensures.sets c.note.ensures.moves
