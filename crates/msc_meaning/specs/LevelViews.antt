-- The plain levels that those of the code stand for.
use Rattle.std.specs.Prelude.{List, map}
use Rattle.msc_meaning.specs.Views.{body_view}
use Rattle.msc_meaning.specs.declared.level_list.BodyLevel.{BodyLevel}
use Rattle.msc_meaning.specs.BodyLevels as plain

abbrev pub level_view : BodyLevel → plain.BodyLevel
level_view l = record { operand_of = l.operand_of; body = body_view l.body.now }

abbrev pub levels_view : List BodyLevel → List plain.BodyLevel
levels_view ls = map level_view ls
