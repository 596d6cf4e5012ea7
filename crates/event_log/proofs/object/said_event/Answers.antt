use Rattle.std.proofs.Common.{◌≡◌, List, ℕ, Some, option_map, rules, subst, ◌∙◌}
use Rattle.msc_base.specs.Names.{IsName}
use Rattle.msc_events.specs.LogEvents.{ReadsText}
use Rattle.msc_base.specs.Only.{Never, Only}
use Rattle.event_log.specs.Objects.{Said, Spelled, IsAllowed, kind_of, IsFarOf}
use Rattle.event_log.proofs.Objects.{no_text, no_far, only_said}
use Rattle.event_log.proofs.object.said_event.Goals as goal

pub returns-in_default-3 : goal.returns-in_default-3
returns-in_default-3 c =
    let said : Said = record { at = c.args.at.now; kind = c.args.kind.now; text = c.args.text.now; far = option_map (λ s. s.now) c.args.far } in
    let kind = c.in-Some.kind in
    let kind_is : kind_of c.args.kind.now ≡ Some kind = search rules in
    let none : Never (Spelled (ReadsText kind) c.as_bytes-2.result.now) = search rules in
    no_text c.args.version said kind kind_is (subst (λ (t : List ℕ). Never (Spelled (ReadsText kind) t)) c.as_bytes-2.ensures.value none)

pub returns-in_default-4 : goal.returns-in_default-4
returns-in_default-4 c =
    let said : Said = record { at = c.args.at.now; kind = c.args.kind.now; text = c.args.text.now; far = option_map (λ s. s.now) c.args.far } in
    let kind = c.in-Some.kind in
    let kind_is : kind_of c.args.kind.now ≡ Some kind = search rules in
    let only : Only (Spelled (ReadsText kind) c.as_bytes-2.result.now) c.in-Some-3.text = search rules in
    let none : Never (IsFarOf kind c.in-Some-3.text said.far) = search rules in
    no_far c.args.version said kind c.in-Some-3.text kind_is (subst (λ (t : List ℕ). Only (Spelled (ReadsText kind) t) c.in-Some-3.text) c.as_bytes-2.ensures.value only) none

pub returns : goal.returns
returns c =
    let said : Said = record { at = c.args.at.now; kind = c.args.kind.now; text = c.args.text.now; far = option_map (λ s. s.now) c.args.far } in
    let kind = c.in-Some.kind in
    let kind_is : kind_of c.args.kind.now ≡ Some kind = search rules in
    let allowed : IsAllowed c.args.version kind = search rules in
    let name : IsName c.as_bytes.result.now = search rules in
    let at : c.in-Some-2.at ≡ c.as_bytes.result.now = search rules in
    let only : Only (Spelled (ReadsText kind) c.as_bytes-2.result.now) c.in-Some-3.text = search rules in
    let far : IsFarOf kind c.in-Some-3.text said.far c.in-Some-4.far = search rules in
    only_said c.args.version said kind c.in-Some-2.at c.in-Some-3.text c.in-Some-4.far kind_is allowed (subst IsName c.as_bytes.ensures.value name) (at ∙ c.as_bytes.ensures.value)
    (subst (λ (t : List ℕ). Only (Spelled (ReadsText kind) t) c.in-Some-3.text) c.as_bytes-2.ensures.value only) far
