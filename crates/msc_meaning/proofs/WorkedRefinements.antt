-- Decomposed instances: one of them, and both ends of a message.
use Rattle.std.proofs.Common.{◌≡◌, List, [], ◌∷◌, codes, refl}
use Rattle.msc_base.specs.declared.label.Label.{Label}
use Rattle.msc_unfolding.specs.Unfoldings.{Unfolding}
use Rattle.msc_meaning.specs.ChartUnfoldings.{OfWoven, no_item, item_then, single, of_refined, no_refining, refining_and}
use Rattle.msc_meaning.specs.FarEnds.{no_gates}
use Rattle.msc_meaning.specs.InnerEvents.{no_ends}
use Rattle.msc_meaning.specs.Meanings.{Finished}
use Rattle.msc_meaning.specs.Tables.{Basic}
use Rattle.msc_meaning.specs.WorkedCharts as worked
use Rattle.msc_meaning.specs.WorkedCharts.{d, e, i, j, m, n}
use Rattle.msc_meaning.specs.WorkedLaws.{DecompositionUnfolds, DecompositionConforms, MatchedInputFails, BothEndsUnfold}
use Rattle.msc_meaning.specs.WorkedParts.{sent, received}
use Rattle.msc_meaning.proofs.Showing.{Derived, drawn, only_one, run, begins_with, in_finished, refused, by_one}

-- ---- one instance

abbrev one_refined : Derived (Finished worked.refined (codes "A"))
one_refined = record {
  of = _;
  is = record { chart = _; is = refl; unfolds = of_refined no_ends (item_then single no_item) (refining_and no_ends (item_then single (item_then single (item_then single no_item))) no_refining) };
}

refined_only : (u : Unfolding) → Finished worked.refined (codes "A") u → u ≡ one_refined.of
refined_only u f = only (in_finished worked.refined (codes "A") _ refl u f)
  where
    only : {u : Unfolding} → OfWoven worked.refined no_gates (record { instance = i; chart = codes "D" } ∷ []) (Basic worked.refined_body) u → u ≡ one_refined.of
    only (of_refined no_ends (item_then single no_item) (refining_and no_ends (item_then single (item_then single (item_then single no_item))) no_refining)) = refl

pub decomposition_unfolds : DecompositionUnfolds
decomposition_unfolds = only_one _ one_refined refined_only (drawn _ one_refined.of refl refl)

pub decomposition_conforms : DecompositionConforms
decomposition_conforms = run one_refined (0 ∷ 1 ∷ 2 ∷ 3 ∷ []) refl refl

abbrev inner_message : List Label
inner_message = sent e n d ∷ received d n e ∷ []

abbrev too_early : List Label
too_early = sent e n d ∷ received d n e ∷ received d m j ∷ []

-- the matched input waits for its output
pub matched_input_fails : MatchedInputFails
matched_input_fails = record {
  begins = begins_with inner_message (sent j m d ∷ received d m j ∷ []) (run one_refined (1 ∷ 2 ∷ 0 ∷ 3 ∷ []) refl refl);
  fails = refused worked.refined (codes "A") _ worked.refined_body too_early refl refl (by_one too_early one_refined refined_only refl);
}

-- ---- both ends of a message

abbrev two_refined : Derived (Finished worked.both_refined (codes "A"))
two_refined = record {
  of = _;
  is = record {
    chart = _;
    is = refl;
    unfolds = of_refined no_ends no_item
        (refining_and no_ends (item_then single (item_then single no_item)) (refining_and no_ends (item_then single (item_then single no_item)) no_refining));
  };
}

pub both_ends_unfold : BothEndsUnfold
both_ends_unfold = only_one _ two_refined both_only (drawn _ two_refined.of refl refl)
  where
    only : {u : Unfolding} → OfWoven worked.both_refined no_gates (record { instance = i; chart = codes "D" } ∷ record { instance = j; chart = codes "E" } ∷ []) (Basic worked.both_body) u → u ≡ two_refined.of
    only (of_refined no_ends no_item (refining_and no_ends (item_then single (item_then single no_item)) (refining_and no_ends (item_then single (item_then single no_item)) no_refining))) = refl

    both_only : (u : Unfolding) → Finished worked.both_refined (codes "A") u → u ≡ two_refined.of
    both_only u f = only (in_finished worked.both_refined (codes "A") _ refl u f)
