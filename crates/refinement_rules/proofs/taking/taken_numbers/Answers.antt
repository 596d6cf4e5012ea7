use Rattle.std.proofs.Common.{rules, ◌≡◌, ◌∙◌, ℕ, List, ap, subst, sym}
use Rattle.std.specs.Borrow.{Bor}
use Rattle.chart_links.specs.Sets.{HasExpanded}
use Rattle.gate_ends.specs.FoundEnds.{level_names}
use Rattle.gate_ends.specs.NameViews.{names_view}
use Rattle.msc_base.specs.Lists.{IsAmong}
use Rattle.msc_meaning.specs.Views.{body_view}
use Rattle.msc_meaning.specs.declared.body.Body.{out-Body}
use Rattle.refinement_rules.specs.Judging.{OwnNumber}
use Rattle.refinement_rules.specs.RefinementRules.{covered}
use Rattle.refinement_rules.specs.Walks.{HasBit, IsGrown, OneHolds}
use Rattle.refinement_rules.proofs.BodyFacts.{body_cover}
use Rattle.refinement_rules.proofs.SetSteps.{grown_same}
use Rattle.refinement_rules.proofs.TakenFacts.{taken_is}
use Rattle.refinement_rules.proofs.Walked.{one_made}
use Rattle.refinement_rules.proofs.taking.taken_numbers.Goals as goal

pub returns : goal.returns
returns c =
    let t = c.args.tables.now in
    let refined = c.args.refined.now in
    let b = c.args.body.now in
    let start : List ℕ = c.new-set.result in
    let own : List ℕ = c.add_own.new.set in
    let named : List ℕ = c.add_referenced.new.set in
    let held : c.as_slice.result.now ≡ (out-Body b).cover = search rules in
    let cover : c.as_slice.result.now ≡ covered (body_view b) = held ∙ sym (body_cover b) in
    let owns : IsGrown (HasBit start) (OneHolds (OwnNumber t.known (IsAmong refined)) (covered (body_view b))) (HasBit own) =
    subst (λ (l : List (List ℕ)). IsGrown (HasBit start) (OneHolds (OwnNumber t.known (IsAmong refined)) l) (HasBit own)) cover c.in_ok-add_own.ensures in
    let refs : List (Bor (List ℕ)) = c.as_slice-2.result.now in
    let views : names_view refs ≡ level_names (body_view b) = ap names_view c.as_slice-2.ensures.value ∙ c.in_ok-names.ensures in
    let Has : List ℕ → ℕ → Type 0 = HasExpanded t.names t.expanded.items in
    let referenced : IsGrown (HasBit own) (OneHolds Has (level_names (body_view b))) (HasBit named) =
    subst (λ (l : List (List ℕ)). IsGrown (HasBit own) (OneHolds Has l) (HasBit named)) views
    (grown_same (HasBit own) (OneHolds (λ (n : Bor (List ℕ)). Has n.now) refs) (OneHolds Has (names_view refs)) (HasBit named) (λ n. one_made (λ (x : Bor (List ℕ)). x.now) Has refs n) c.in_ok-add_referenced.ensures) in
    taken_is t.names t.known t.expanded.items refined c.args.decls.now (body_view b) c.as_slice-3.result.now start own named c.add_double.new.set c.new-set.ensures c.requires owns referenced
    (search (rules, c.in_ok-rows.ensures, c.as_slice-3.ensures.value)) c.in_ok-add_double.ensures
