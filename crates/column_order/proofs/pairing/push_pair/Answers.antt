use Rattle.std.proofs.Common.{◌≡◌, ◌≤◌, None, length, slice_get, sym, append-nil}
use Rattle.std.proofs.lemmas.Bool.{ltb-false}
use Rattle.std.proofs.lemmas.Option.{slice_get_past}
use Rattle.column_order.proofs.pairing.push_pair.Goals as goal

pub returns-in-None : goal.returns-in-None
returns-in-None c =
    let past : length c.args.inputs.now ≤ c.args.before = ltb-false c.args.before (length c.args.inputs.now) (sym c.in-None.ensures.lookup.0) in
    let none : slice_get c.args.inputs.now c.args.before ≡ None = slice_get_past c.args.inputs.now c.args.before past in
    rw none (sym (append-nil c.args.pairs.now.items))
