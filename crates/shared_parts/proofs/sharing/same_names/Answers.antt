use Rattle.std.proofs.Common.{◌≡◌, arith}
use Rattle.shared_parts.proofs.Pairs.{always, compared_all, equal_of}
use Rattle.shared_parts.proofs.sharing.same_names.Goals as goal

pub returns : goal.returns
returns c =
    always (equal_of c.args.a.now c.args.b.now
    (compared_all (λ x y. x ≡ y) c.args.a.now c.args.b.now c.loop-index.index c.loop-index-test.false (omega (arith, c.loop-index-test.false, c.if-a-b.false)) c.loop-index.invariant))
