use Rattle.std.proofs.Common.{◌≡◌, ◌<◌, ◌≤◌, rules}
use Rattle.msc_cmd.specs.Outcomes.{IfTold, IsTheOne, IsOutcome}
use Rattle.msc_cmd.specs.Failures.{CannotJudge}
use Rattle.std.specs.Io.KnownBytes.{Appends}
use Rattle.judge_report.specs.Writing.{AppendsPart}
use Rattle.msc_cmd.proofs.Replies.{without_told, part_told, outcome_told}
use Rattle.msc_cmd.proofs.command.run.Goals as goal

pub returns-in-Ok-emit-clause-without : goal.returns-in-Ok-emit-clause-without
returns-in-Ok-emit-clause-without g c =
    let told : c.in-Ok.reply.status < 7 → IfTold (g.S.Shelf.files c.args.shelf.now) (λ f. IsTheOne (IsOutcome c.args.words.now f) c.in-Ok.reply.status c.in-Ok.reply.text) = search rules in
    let small : c.in-Ok.reply.status ≤ 7 = search rules in
    without_told (g.S.Shelf.files c.args.shelf.now) c.args.words.now c.in-Ok.reply.status c.in-Ok.reply.text small told

pub returns-in-Ok-clause-part : goal.returns-in-Ok-clause-part
returns-in-Ok-clause-part g c =
    let small : c.in-Ok.reply.status ≤ 7 = search rules in
    let told : c.in-Ok.reply.status < 7 → IfTold (g.S.Shelf.files c.args.shelf.now) (λ f. IsTheOne (IsOutcome c.args.words.now f) c.in-Ok.reply.status c.in-Ok.reply.text) = search rules in
    let failed : c.in-Ok.reply.status ≡ 7 → CannotJudge c.args.words.now (g.S.Shelf.files c.args.shelf.now) (g.S.Shelf.faults c.args.shelf.now) (g.S.Shelf.faults c.answer.new.shelf) (g.S.Shelf.broken c.answer.new.shelf) (g.S.Shelf.last c.answer.new.shelf) c.in-Ok.reply.text = search rules in
    let part : AppendsPart (g.O.Sink.written c.args.out.now) (g.O.Sink.written c.emit.new.out) c.in-Ok.reply.text = search rules in
    λ _. part_told _ _ _ _ _ _ _ _ _ _ small told failed part

pub returns-in-Ok-emit-clause-outcome : goal.returns-in-Ok-emit-clause-outcome
returns-in-Ok-emit-clause-outcome g c =
    let told : c.in-Ok.reply.status < 7 → IfTold (g.S.Shelf.files c.args.shelf.now) (λ f. IsTheOne (IsOutcome c.args.words.now f) c.in-Ok.reply.status c.in-Ok.reply.text) = search rules in
    let wrote : Appends (g.O.Sink.written c.args.out.now) (g.O.Sink.written c.emit.new.out) c.in-Ok.reply.text = search rules in
    let small : c.in-Ok.reply.status ≤ 7 = search rules in
    outcome_told _ _ _ _ _ _ told wrote small
