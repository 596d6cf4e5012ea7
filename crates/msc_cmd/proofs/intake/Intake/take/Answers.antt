use Rattle.std.proofs.Common.{◌≡◌, refl, ◌-◌, min, length, take, ap, ◌∙◌}
use Rattle.msc_base.specs.declared.limits.TheConstants.Limits.{DOCUMENT_BYTES}
use Rattle.msc_cmd.proofs.Taking.{taken_more}
use Rattle.msc_cmd.proofs.intake.Intake.take.Goals as goal

pub returns-clause-taken : goal.returns-clause-taken
returns-clause-taken c =
    let cut : c.split_at.result.0.now ≡ take (min (DOCUMENT_BYTES - c.args.self.now.count) (length c.args.piece.now)) c.args.piece.now = c.split_at.ensures.front ∙ ap (λ n. take n c.args.piece.now) c.min.ensures in
    λ bytes h. taken_more bytes c.args.piece.now c.split_at.result.0.now c.args.self.now _ c.requires.room cut c.in_ok-extend_from_slice.ensures.items refl h
