use Rattle.std.proofs.Common.{◌≡◌, Some, arith, length, refl, slice_get, subst, sym}
use Rattle.std.proofs.lemmas.Option.{slice_get_read}
use Rattle.chart_term.specs.Tables.{terms_over}
use Rattle.list_facts.proofs.Members.{at_among}
use Rattle.log_ways.proofs.Spelling.{none_end_more}
use Rattle.log_ways.proofs.terms.first_ending.Goals as goal
use Rattle.msc_base.specs.Lists.{IsAmong}
use Rattle.term_laws.specs.Taking.{MayEnd}
use Rattle.term_permission.specs.Ready.{IsReady}
use Rattle.term_successors.proofs.TermSets.{each_at}

pub may_end-requires-clause-term : goal.may_end-requires-clause-term
may_end-requires-clause-term c =
    let at : slice_get c.in_ok-terms.terms.items c.loop-index.index ≡ Some c.index-term.result.now = slice_get_read c.in_ok-terms.terms.items (length c.in_ok-terms.terms.items) c.loop-index.index c.index-term.result.now refl (omega arith) c.index-term.ensures in
    each_at (IsReady c.args.nets.now.tables) c.args.set.now c.index-term.result.now c.requires.terms ((c.in_ok-terms.ensures c.index-term.result.now).to (at_among c.in_ok-terms.terms.items c.loop-index.index c.index-term.result.now at))

pub returns-then-branch : goal.returns-then-branch
returns-then-branch c =
    let at : slice_get c.in_ok-terms.terms.items c.loop-index.index ≡ Some c.index-term.result.now = slice_get_read c.in_ok-terms.terms.items (length c.in_ok-terms.terms.items) c.loop-index.index c.index-term.result.now refl (omega arith) c.index-term.ensures in
    record {
      among = subst (IsAmong c.args.set.now) (sym c.in_ok-term.ensures) ((c.in_ok-terms.ensures c.index-term.result.now).to (at_among c.in_ok-terms.terms.items c.loop-index.index c.index-term.result.now at));
      alone = c.is_alone-alone.ensures;
      ends = subst (MayEnd (terms_over c.args.nets.now.tables)) (sym c.in_ok-term.ensures) (c.in_ok-may_end.ensures.0 c.if-branch.true);
    }

pub loop-index-preserved : goal.loop-index-preserved
loop-index-preserved c =
    let at : slice_get c.in_ok-terms.terms.items c.loop-index.index ≡ Some c.index-term.result.now = slice_get_read c.in_ok-terms.terms.items (length c.in_ok-terms.terms.items) c.loop-index.index c.index-term.result.now refl (omega arith) c.index-term.ensures in
    none_end_more (terms_over c.args.nets.now.tables) c.in_ok-terms.terms.items c.loop-index.index c.index-term.result.now c.in_ok-may_end.field-0 at c.loop-index.invariant c.in_ok-may_end.ensures c.if-branch.false

pub is_alone-alone-requires : goal.is_alone-alone-requires
is_alone-alone-requires c =
    let at : slice_get c.in_ok-terms.terms.items c.loop-index.index ≡ Some c.index-term.result.now = slice_get_read c.in_ok-terms.terms.items (length c.in_ok-terms.terms.items) c.loop-index.index c.index-term.result.now refl (omega arith) c.index-term.ensures in
    subst (IsAmong c.args.set.now) (sym c.in_ok-term.ensures) ((c.in_ok-terms.ensures c.index-term.result.now).to (at_among c.in_ok-terms.terms.items c.loop-index.index c.index-term.result.now at))
