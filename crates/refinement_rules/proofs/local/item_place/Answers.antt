use Rattle.std.proofs.Common.{rules, ◌≡◌, ◌∙◌, ap, subst, sym}
use Rattle.msc_base.specs.Lists.{IsAmong}
use Rattle.msc_base.specs.Places.{IsLeast}
use Rattle.msc_meaning.specs.Views.{item_view}
use Rattle.msc_meaning.specs.declared.body.Item as code
use Rattle.refinement_rules.specs.Judging.{ItemLocal, some_among}
use Rattle.refinement_rules.specs.Walks.{SoFarOr}
use Rattle.refinement_rules.proofs.ItemFacts.{coregion_local, inline_item_is, reference_local, single_local}
use Rattle.refinement_rules.proofs.local.item_place.Goals as goal

pub returns-in-Single : goal.returns-in-Single
returns-in-Single c =
    let refined = c.args.refined.now in
    let node = c.in-Single.node in
    subst (λ (x : code.Item). IsLeast (SoFarOr c.args.so_far (ItemLocal (IsAmong refined) (item_view x))) c.earlier_if.result) (sym c.in-Single.is) (single_local c.args.so_far refined node c.is_local.result c.earlier_if.result c.is_local.ensures (search rules))

pub returns-in-Coregion : goal.returns-in-Coregion
returns-in-Coregion c =
    subst (λ (x : code.Item). IsLeast (SoFarOr c.args.so_far (ItemLocal (IsAmong c.args.refined.now) (item_view x))) c.args.so_far) (sym c.in-Coregion.is) (coregion_local c.args.so_far c.args.refined.now c.in-Coregion.field-0)

pub returns-in-Inline : goal.returns-in-Inline
returns-in-Inline c =
    let refined = c.args.refined.now in
    subst (λ w. IsLeast (SoFarOr c.args.so_far (ItemLocal (IsAmong refined) w)) c.inline_place.result) (sym (ap item_view c.in-Inline.is ∙ inline_item_is c.in-Inline.inline)) c.inline_place.ensures

pub returns-in-Reference : goal.returns-in-Reference
returns-in-Reference c =
    let refined = c.args.refined.now in
    let part = c.in-Reference.part in
    let cover : c.as_slice.result.now ≡ part.cover = search rules in
    subst (λ (x : code.Item). IsLeast (SoFarOr c.args.so_far (ItemLocal (IsAmong refined) (item_view x))) c.earlier_if-in-Reference.result) (sym c.in-Reference.is)
    (reference_local c.args.so_far refined part c.names_refined.result c.earlier_if-in-Reference.result (c.names_refined.ensures ∙ ap (some_among refined) cover) (search rules))
