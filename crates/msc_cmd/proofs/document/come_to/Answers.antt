use Rattle.std.proofs.Common.{rules, IsErrOf}
use Rattle.msc_acceptance.specs.declared.accepted.DocFault.TheVariants.{Refused}
use Rattle.msc_cmd.proofs.document.come_to.Goals as goal

pub returns-in-Err-Refused : goal.returns-in-Err-Refused
returns-in-Err-Refused c =
    let e : IsErrOf c.accept.result (Refused c.in-Err-Refused.rule c.in-Err-Refused.place) = search rules in
    record {
      is = c.accept.ensures.fault c.in-Err-Refused.rule c.in-Err-Refused.place e;
      only = c.accept.ensures.only_fault c.in-Err-Refused.rule c.in-Err-Refused.place e;
      none = c.accept.ensures.none c.in-Err-Refused.rule c.in-Err-Refused.place e;
    }
