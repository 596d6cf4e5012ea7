use Rattle.shared_parts.specs.Sharing.{AllAmong, OneIsMissing}
use Rattle.shared_parts.proofs.CoverLaws.{sets_same, yes_tells}
use Rattle.shared_parts.proofs.sharing.same_sets.Goals as goal

pub returns : goal.returns
returns c = λ t.
    sets_same c.args.names.now c.args.cover.now c.args.table.now c.in_ok-own.own c.requires c.in_ok-own.ensures.has
    (yes_tells (AllAmong c.args.table.now c.args.names.now) (OneIsMissing c.args.table.now c.args.names.now) c.all_among.result c.if-not-all_among.false c.all_among.ensures)
    (yes_tells (AllAmong c.in_ok-own.own c.args.cover.now) (OneIsMissing c.in_ok-own.own c.args.cover.now) c.all_among-2.result t c.all_among-2.ensures)
