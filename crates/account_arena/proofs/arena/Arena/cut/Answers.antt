use Rattle.std.specs.Prelude.{refl}
use Rattle.account_arena.proofs.arena.Arena.cut.Goals as goal

pub same-front : goal.same-front
same-front c = refl
