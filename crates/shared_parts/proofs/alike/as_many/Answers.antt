use Rattle.std.proofs.Common.{eq-eqb, eqb-true, length}
use Rattle.shared_parts.proofs.SameFacts.{many_are}
use Rattle.shared_parts.proofs.alike.as_many.Goals as goal

pub returns : goal.returns
returns c =
    let are = many_are c.args.a.now c.args.b.now in
    (λ t. are.0 (eqb-true (length c.args.a.now) (length c.args.b.now) t), λ h. eq-eqb (length c.args.a.now) (length c.args.b.now) (are.1 h))
