use Rattle.std.proofs.Common.{rules, ◌≡◌, List, ℕ, OnOk, subst, sym}
use Rattle.msc_base.specs.Lists.{IsAmong}
use Rattle.msc_meaning.specs.Views.{item_view}
use Rattle.msc_meaning.specs.declared.body.Item as code
use Rattle.refinement_rules.specs.Judging.{ItemShares, PartShares}
use Rattle.refinement_rules.specs.Walks.{IsGrown}
use Rattle.refinement_rules.proofs.ItemFacts.{coregion_shares, inline_item_shares, reference_shares, single_shares}
use Rattle.refinement_rules.proofs.sharing.add_item.Goals as goal

pub returns-in-Inline : goal.returns-in-Inline
returns-in-Inline c =
    let Refined = IsAmong c.args.refined.now in
    subst (λ (x : code.Item). OnOk c.add_inline.result (IsGrown (IsAmong c.args.shared.now) (ItemShares Refined (item_view x)) (IsAmong c.add_inline.new.shared))) (sym c.in-Inline.is)
    (inline_item_shares c.add_inline.result (IsAmong c.args.shared.now) (IsAmong c.add_inline.new.shared) Refined c.in-Inline.inline c.add_inline.ensures)

pub returns-in-Reference : goal.returns-in-Reference
returns-in-Reference c =
    let Refined = IsAmong c.args.refined.now in
    let part = c.in-Reference.part in
    let cover : c.as_slice.result.now ≡ part.cover = search rules in
    subst (λ (x : code.Item). OnOk c.add_cover.result (IsGrown (IsAmong c.args.shared.now) (ItemShares Refined (item_view x)) (IsAmong c.add_cover.new.shared))) (sym c.in-Reference.is)
    (reference_shares c.add_cover.result (IsAmong c.args.shared.now) (IsAmong c.add_cover.new.shared) Refined part
    (subst (λ (l : List (List ℕ)). OnOk c.add_cover.result (IsGrown (IsAmong c.args.shared.now) (PartShares Refined l) (IsAmong c.add_cover.new.shared))) cover c.add_cover.ensures))

pub returns-in-Single : goal.returns-in-Single
returns-in-Single c =
    subst (λ (x : code.Item). IsGrown (IsAmong c.args.shared.now) (ItemShares (IsAmong c.args.refined.now) (item_view x)) (IsAmong c.args.shared.now)) (sym c.in-Single.is) (single_shares (IsAmong c.args.shared.now) (IsAmong c.args.refined.now) c.in-Single.field-0)

pub returns-in-Coregion : goal.returns-in-Coregion
returns-in-Coregion c =
    subst (λ (x : code.Item). IsGrown (IsAmong c.args.shared.now) (ItemShares (IsAmong c.args.refined.now) (item_view x)) (IsAmong c.args.shared.now)) (sym c.in-Coregion.is) (coregion_shares (IsAmong c.args.shared.now) (IsAmong c.args.refined.now) c.in-Coregion.field-0)
