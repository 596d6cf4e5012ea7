use Rattle.std.proofs.Common.{refl, sym}
use Rattle.std.proofs.lemmas.Iterator.Adapters.{position_from-zero}
use Rattle.std.specs.Str.{bytes_eq}
use Rattle.msc_tree.proofs.finding.number_in.Goals as goal

pub loop-other-init : goal.loop-other-init
loop-other-init c = record { number = refl; found = sym (position_from-zero (bytes_eq c.args.name.now) c.args.names.now) }
