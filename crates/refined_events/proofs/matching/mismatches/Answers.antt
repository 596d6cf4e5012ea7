use Rattle.std.proofs.Common.{◌≡◌, ◌∙◌, false, List, ap, refl, subst}
use Rattle.msc_meaning.specs.Bodies.{EventNode, events}
use Rattle.msc_meaning.specs.ItemViews.{items_view}
use Rattle.msc_meaning.specs.Refinements.{env_events, events_at}
use Rattle.refined_events.specs.MatchViews.{nodes_view}
use Rattle.refined_events.specs.Sorted.{AreCounts, HaveOther}
use Rattle.refined_events.proofs.KeyLaws.{true_from_ne_false}
use Rattle.refined_events.proofs.MatchLaws.{told_mismatch, told_none}
use Rattle.refined_events.proofs.matching.mismatches.Goals as goal

pub returns-then-branch : goal.returns-then-branch
returns-then-branch c =
    let held = events (items_view c.args.items.now) in
    let inner = events (items_view c.args.inner.now) in
    let own : AreCounts (events_at c.args.instance.now held) c.in_ok-counts.counts = subst (λ (es : List EventNode). AreCounts es c.in_ok-counts.counts) (ap nodes_view c.as_slice.ensures.value ∙ c.in_ok-nodes.ensures) c.in_ok-counts.ensures in
    let far : AreCounts (env_events inner) c.in_ok-others.others = subst (λ (es : List EventNode). AreCounts es c.in_ok-others.others) (ap nodes_view c.as_slice-2.ensures.value ∙ c.in_ok-env.ensures) c.in_ok-others.ensures in
    (λ t. told_mismatch c.args.instance.now held inner c.in_ok-counts.counts c.in_ok-others.others own far (nodes_view c.as_slice-3.result.now) (c.in_ok-have_other.ensures.has c.if-branch.true), λ m. refl)

pub returns : goal.returns
returns c =
    let held = events (items_view c.args.items.now) in
    let inner = events (items_view c.args.inner.now) in
    let own : AreCounts (events_at c.args.instance.now held) c.in_ok-counts.counts = subst (λ (es : List EventNode). AreCounts es c.in_ok-counts.counts) (ap nodes_view c.as_slice.ensures.value ∙ c.in_ok-nodes.ensures) c.in_ok-counts.ensures in
    let far : AreCounts (env_events inner) c.in_ok-others.others = subst (λ (es : List EventNode). AreCounts es c.in_ok-others.others) (ap nodes_view c.as_slice-2.ensures.value ∙ c.in_ok-env.ensures) c.in_ok-others.ensures in
    let first : HaveOther c.in_ok-counts.counts c.in_ok-others.others (events_at c.args.instance.now held) → ⊥ =
    subst (λ (es : List EventNode). HaveOther c.in_ok-counts.counts c.in_ok-others.others es → ⊥) (ap nodes_view c.as_slice-3.ensures.value ∙ c.in_ok-nodes.ensures) (c.in_ok-have_other.ensures.lack c.if-branch.false) in
    let second : c.in_ok-told.told ≡ false → HaveOther c.in_ok-counts.counts c.in_ok-others.others (env_events inner) → ⊥ =
    λ f. subst (λ (es : List EventNode). HaveOther c.in_ok-counts.counts c.in_ok-others.others es → ⊥) (ap nodes_view c.as_slice-4.ensures.value ∙ c.in_ok-env.ensures) (c.in_ok-told.ensures.lack f) in (
      λ t. told_mismatch c.args.instance.now held inner c.in_ok-counts.counts c.in_ok-others.others own far (nodes_view c.as_slice-4.result.now) (c.in_ok-told.ensures.has t),
      λ m. true_from_ne_false c.in_ok-told.told (λ f. told_none c.args.instance.now held inner c.in_ok-counts.counts c.in_ok-others.others own far first (second f) m),
    )
