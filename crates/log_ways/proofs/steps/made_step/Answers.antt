use Rattle.std.proofs.Common.{◌≡◌, Some, arith, length, refl, slice_get}
use Rattle.std.proofs.lemmas.Option.{slice_get_read}
use Rattle.list_facts.proofs.Members.{at_among}
use Rattle.log_ways.proofs.Stepped.{made, none_more}
use Rattle.log_ways.proofs.steps.made_step.Goals as goal
use Rattle.term_laws.specs.Placing.{HaveOnePlace}
use Rattle.term_permission.specs.Ready.{IsReady}
use Rattle.term_successors.proofs.TermSets.{each_at}

pub way_of-requires-clause-term : goal.way_of-requires-clause-term
way_of-requires-clause-term c =
    let at : slice_get c.in_ok-terms.terms.items c.loop-index.index ≡ Some c.index-term.result.now = slice_get_read c.in_ok-terms.terms.items (length c.in_ok-terms.terms.items) c.loop-index.index c.index-term.result.now refl (omega arith) c.index-term.ensures in
    each_at (IsReady c.args.nets.now.tables) c.args.set.now c.index-term.result.now c.requires.terms ((c.in_ok-terms.ensures c.index-term.result.now).to (at_among c.in_ok-terms.terms.items c.loop-index.index c.index-term.result.now at))

pub way_of-requires-clause-placed : goal.way_of-requires-clause-placed
way_of-requires-clause-placed c =
    let at : slice_get c.in_ok-terms.terms.items c.loop-index.index ≡ Some c.index-term.result.now = slice_get_read c.in_ok-terms.terms.items (length c.in_ok-terms.terms.items) c.loop-index.index c.index-term.result.now refl (omega arith) c.index-term.ensures in
    each_at (HaveOnePlace c.args.nets.now.tables) c.args.set.now c.index-term.result.now c.requires.placed ((c.in_ok-terms.ensures c.index-term.result.now).to (at_among c.in_ok-terms.terms.items c.loop-index.index c.index-term.result.now at))

pub returns-in-Some : goal.returns-in-Some
returns-in-Some c =
    let at : slice_get c.in_ok-terms.terms.items c.loop-index.index ≡ Some c.index-term.result.now = slice_get_read c.in_ok-terms.terms.items (length c.in_ok-terms.terms.items) c.loop-index.index c.index-term.result.now refl (omega arith) c.index-term.ensures in
    let way = rw c.in-Some.is at c.in_ok-found.ensures in
    made c.args.nets.now.tables c.args.from c.args.label c.args.set.now c.in_ok-terms.terms.items c.args.goal.now.term c.loop-index.index c.index-term.result.now
    (record { from = c.args.from; label = c.args.label; index = c.loop-index.index; step = record { before = c.in_ok-before.before; way = c.in-Some.way; after = c.in_ok-after.after } }) at c.in_ok-terms.ensures way refl refl c.in_ok-before.ensures c.in_ok-after.ensures

pub loop-index-preserved : goal.loop-index-preserved
loop-index-preserved c =
    let at : slice_get c.in_ok-terms.terms.items c.loop-index.index ≡ Some c.index-term.result.now = slice_get_read c.in_ok-terms.terms.items (length c.in_ok-terms.terms.items) c.loop-index.index c.index-term.result.now refl (omega arith) c.index-term.ensures in
    let never = rw c.in_default.is at c.in_ok-found.ensures in
    none_more c.args.nets.now.tables c.args.label c.args.goal.now.term c.in_ok-terms.terms.items c.loop-index.index c.index-term.result.now at c.loop-index.invariant never

pub way_of-requires-clause-alone : goal.way_of-requires-clause-alone
way_of-requires-clause-alone c alone =
    let at : slice_get c.in_ok-terms.terms.items c.loop-index.index ≡ Some c.index-term.result.now = slice_get_read c.in_ok-terms.terms.items (length c.in_ok-terms.terms.items) c.loop-index.index c.index-term.result.now refl (omega arith) c.index-term.ensures in
    c.requires.alone alone c.index-term.result.now ((c.in_ok-terms.ensures c.index-term.result.now).to (at_among c.in_ok-terms.terms.items c.loop-index.index c.index-term.result.now at))
