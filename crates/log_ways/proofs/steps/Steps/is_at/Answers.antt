use Rattle.std.proofs.Common.{◌≡◌, List, Some, length, refl, slice_get, subst}
use Rattle.std.proofs.lemmas.Option.{slice_get_read}
use Rattle.log_ways.proofs.steps.Steps.is_at.Goals as goal
use Rattle.log_ways.specs.declared.steps.Known.{Known}

pub returns-in-Some : goal.returns-in-Some
returns-in-Some c is =
    let h = c.is_to.ensures is in
    let l = c.in-Some.ensures.lookup in
    let k = c.in-Some.known.now in
    record {
      known = k;
      there = subst (λ (ks : List Known). slice_get ks c.args.place ≡ Some k) c.deref.ensures.value (slice_get_read c.deref.result.now (length c.deref.result.now) c.args.place k refl l.3.0 l.1);
      from_is = h.0;
      label_is = h.1;
      after = h.2;
    }
