use Rattle.std.proofs.Common.{rules, ◌≡◌, List, ℕ, OnOk, subst}
use Rattle.msc_base.specs.Lists.{IsAmong}
use Rattle.msc_meaning.specs.declared.body.InlineItem.{out-InlineItem}
use Rattle.refinement_rules.specs.Judging.{PartShares}
use Rattle.refinement_rules.specs.Walks.{IsGrown}
use Rattle.refinement_rules.proofs.ItemFacts.{inline_shares}
use Rattle.refinement_rules.proofs.sharing.add_inline.Goals as goal

pub returns : goal.returns
returns c =
    let i = c.args.inline.now in
    let cover : c.as_slice.result.now ≡ (out-InlineItem i).cover = search rules in
    let Refined = IsAmong c.args.refined.now in
    inline_shares c.add_cover.result (IsAmong c.args.shared.now) (IsAmong c.add_cover.new.shared) Refined i
    (subst (λ (l : List (List ℕ)). OnOk c.add_cover.result (IsGrown (IsAmong c.args.shared.now) (PartShares Refined l) (IsAmong c.add_cover.new.shared))) cover c.add_cover.ensures)
