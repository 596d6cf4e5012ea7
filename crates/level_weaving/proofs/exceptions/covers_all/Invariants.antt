use Rattle.std.proofs.Common.{◌≡◌, ◌&&◌, drop}
use Rattle.level_weaving.specs.Exceptions.{covers_all}
use Rattle.level_weaving.proofs.exceptions.covers_all.Given as goal

abbrev pub invariant-loop-name : goal.invariant-loop-name
invariant-loop-name l = (l.all && covers_all (drop l.name-index l.names) l.cover) ≡ covers_all l.names l.cover
