use Rattle.std.proofs.Common.{◌∙◌, ap}
use Rattle.std.specs.Prelude.{fold}
use Rattle.msc_tokens.specs.Machine.{State, step}
use Rattle.msc_tokens.specs.Views.{view}
use Rattle.msc_tokens.proofs.Parts.{cuts_more, where_ok, where_err}
use Rattle.msc_tokens.proofs.part_lexer.PartLexer.feed.Goals.{then-take_all, else-take_all}
use Rattle.msc_tokens.proofs.part_lexer.PartLexer.feed.Goals as goal

pub returns-clause-cuts : goal.returns-clause-cuts
returns-clause-cuts c =
    elim c.if-take_all.branch [
      | then-take_all w ↦
          λ bytes taken h. where_ok c.if-take_all.result _
          (cuts_more bytes c.args.piece.now taken c.args.self.now (view c.take_all.new.machine) (w.if-take_all.ensures.taken ∙ ap (λ (s : State). fold step s c.args.piece.now) c.self.view_is) h)
      | else-take_all w ↦ λ bytes taken h. where_err c.if-take_all.result _ _ w.result-is
    ]
