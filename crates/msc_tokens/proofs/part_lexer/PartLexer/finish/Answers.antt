use Rattle.std.proofs.Common.{subst, sym}
use Rattle.msc_tokens.specs.Machine.{State}
use Rattle.msc_tokens.specs.Parts.{Cuts}
use Rattle.msc_tokens.specs.Views.{view}
use Rattle.msc_tokens.proofs.Parts.{ended_spells}
use Rattle.msc_tokens.proofs.part_lexer.PartLexer.finish.Goals as goal

pub returns : goal.returns
returns c = λ bytes taken h. ended_spells bytes taken (view c.self.inside.machine) c.end.result (subst (λ (s : State). Cuts bytes taken s) (sym c.self.view_is) h) c.end.ensures.ok
