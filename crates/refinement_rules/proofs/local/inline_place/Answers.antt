use Rattle.std.proofs.Common.{rules, ◌≡◌, ◌∙◌, ap}
use Rattle.msc_meaning.specs.declared.body.InlineItem.{out-InlineItem}
use Rattle.refinement_rules.specs.Judging.{some_among}
use Rattle.refinement_rules.proofs.ItemFacts.{inline_local}
use Rattle.refinement_rules.proofs.local.inline_place.Goals as goal

pub returns : goal.returns
returns c =
    let i = c.args.inline.now in
    let refined = c.args.refined.now in
    let cover : c.as_slice.result.now ≡ (out-InlineItem i).cover = search rules in
    inline_local c.args.so_far refined i c.names_refined.result c.earlier_if.result (c.names_refined.ensures ∙ ap (some_among refined) cover) c.earlier_if.ensures
