-- A loop, a reference that is made twice, a coregion, and a creation.
use Rattle.std.proofs.Common.{◌≡◌, ℕ, suc, ◌≤◌, ◌<◌, arith, List, [], ◌∷◌, codes, refl, lit≤}
use Rattle.std.proofs.lemmas.Option.{same_Some}
use Rattle.msc_base.specs.declared.label.Far.TheVariants as far
use Rattle.msc_base.specs.declared.label.Kind.TheVariants.{Create}
use Rattle.msc_base.specs.declared.label.Label.{Label}
use Rattle.msc_unfolding.specs.Unfoldings.{Unfolding}
use Rattle.msc_tree.specs.Expressions.{Chart}
use Rattle.msc_meaning.specs.InnerEvents.{no_ends}
use Rattle.msc_meaning.specs.ChartUnfoldings.{OfWoven, OfExpression, no_event, event_and, of_level, no_item, item_then, single, coregion, inline_part, reference, turns, no_turns, no_turn, turn_and, chart, in_turn, no_part, part_and, of_body}
use Rattle.msc_meaning.specs.FarEnds.{GateMap, no_gates}
use Rattle.msc_meaning.specs.Meanings.{Finished}
use Rattle.msc_meaning.specs.Tables.{Basic}
use Rattle.msc_meaning.specs.WorkedCharts as worked
use Rattle.msc_meaning.specs.WorkedCharts.{i, j, k, b, x}
use Rattle.msc_meaning.specs.WorkedLaws.{two_messages, LoopUnfolds, OverlappingTurnsConform, OneTurnStopsEarly, ReferencesUnfold, OverlappingReferencesConform, CoregionUnfolds, InputsInOrderConform, LaterInputFails, CreationUnfolds, CreationConforms, ChildFirstFails, a_sent, a_received}
use Rattle.msc_meaning.specs.WorkedParts.{label, sent, received, done}
use Rattle.msc_meaning.proofs.WorkedChoices.{message}
use Rattle.msc_meaning.proofs.Showing.{Derived, at_entry, drawn, only_one, run, begins_with, in_finished, refused, by_one, unfinished_by_one}

-- ---- a loop

-- each turn has its own message
abbrev two_turns : Derived (Finished worked.twice (codes "D"))
two_turns = record {
  of = _;
  is = record { chart = _; is = refl; unfolds = of_body (of_level no_ends (item_then (inline_part (turns 2 (lit≤ tt) (lit≤ tt) (turn_and (of_level no_ends (item_then single (item_then single no_item))) (turn_and (of_level no_ends (item_then single (item_then single no_item))) no_turn)))) no_item)) };
}

twice_only : {u : Unfolding} → OfWoven worked.twice no_gates [] (Basic worked.twice_body) u → u ≡ two_turns.of
twice_only (of_body (of_level no_ends (item_then (inline_part (turns _ a b no_turn)) no_item))) = absurd (few a)
  where
    few : 2 ≤ 0 → ⊥
    few a = omega arith
twice_only (of_body (of_level no_ends (item_then (inline_part (turns _ a b (turn_and t no_turn))) no_item))) = absurd (few a)
  where
    few : 2 ≤ 1 → ⊥
    few a = omega arith
twice_only (of_body (of_level no_ends (item_then (inline_part (turns _ a b (turn_and (of_level no_ends (item_then single (item_then single no_item))) (turn_and (of_level no_ends (item_then single (item_then single no_item))) no_turn)))) no_item))) = refl
twice_only (of_body (of_level no_ends (item_then (inline_part (turns n a b (turn_and t (turn_and v (turn_and {n = k} w x))))) no_item))) = absurd (many k b)
  where
    many : (k : ℕ) → suc (suc (suc k)) ≤ 2 → ⊥
    many k b = omega arith
twice_only (of_body (of_level no_ends (item_then (inline_part (no_turns {most = most} e l)) no_item))) = absurd (never_less most (same_Some 2 most e) l)
  where
    never_less : (most : ℕ) → 2 ≡ most → most < 2 → ⊥
    never_less most e l = omega arith

loop_only : (u : Unfolding) → Finished worked.twice (codes "D") u → u ≡ two_turns.of
loop_only u f = twice_only (in_finished worked.twice (codes "D") _ refl u f)

pub loop_unfolds : LoopUnfolds
loop_unfolds = only_one two_messages two_turns loop_only (drawn two_messages two_turns.of refl refl)

pub overlapping_turns_conform : OverlappingTurnsConform
overlapping_turns_conform = run two_turns (0 ∷ 2 ∷ 1 ∷ 3 ∷ []) refl refl

pub one_turn_stops_early : OneTurnStopsEarly
one_turn_stops_early = record {
  begins = begins_with (a_sent ∷ a_received ∷ []) (a_sent ∷ a_received ∷ []) (run two_turns (0 ∷ 1 ∷ 2 ∷ 3 ∷ []) refl refl);
  unfinished = unfinished_by_one (a_sent ∷ a_received ∷ []) two_turns loop_only refl;
}

-- ---- a reference that is made twice

abbrev two_charts : Derived (Finished worked.referred (codes "S"))
two_charts = record {
  of = _;
  is = record {
    chart = _;
    is = refl;
    unfolds = of_body (of_level no_ends (item_then (reference (in_turn
        (part_and (chart refl (of_body (of_level no_ends (item_then single (item_then single no_item)))))
        (part_and (chart refl (of_body (of_level no_ends (item_then single (item_then single no_item))))) no_part)))) no_item));
  };
}

-- the chart has one unfolding, wherever its gates lead
one_message : {g : GateMap} {u : Unfolding} → OfExpression worked.referred g (Chart (codes "A")) u → u ≡ message.of
one_message {g} {u} (chart {entry = c} e w) = only (at_entry worked.referred (codes "A") _ g refl c u e w)
  where
    only : {g : GateMap} {v : Unfolding} → OfWoven worked.referred g [] (Basic worked.message_body) v → v ≡ message.of
    only (of_body (of_level no_ends (item_then single (item_then single no_item)))) = refl

references_only : (u : Unfolding) → Finished worked.referred (codes "S") u → u ≡ two_charts.of
references_only u f = only (in_finished worked.referred (codes "S") _ refl u f)
  where
    only : {u : Unfolding} → OfWoven worked.referred no_gates [] (Basic worked.referred_body) u → u ≡ two_charts.of
    only (of_body (of_level no_ends (item_then (reference (in_turn (part_and x (part_and y no_part)))) no_item))) = let e : _ ≡ message.of = one_message x in let f : _ ≡ message.of = one_message y in cc

pub references_unfold : ReferencesUnfold
references_unfold = only_one two_messages two_charts references_only (drawn two_messages two_charts.of refl refl)

pub overlapping_references_conform : OverlappingReferencesConform
overlapping_references_conform = run two_charts (0 ∷ 2 ∷ 1 ∷ 3 ∷ []) refl refl

-- ---- a coregion

abbrev ordered : Derived (Finished worked.concurrent (codes "G"))
ordered = record {
  of = _;
  is = record { chart = _; is = refl; unfolds = of_body (of_level no_ends (item_then single (item_then single (item_then (coregion (event_and (event_and no_event))) no_item)))) };
}

coregion_only : (u : Unfolding) → Finished worked.concurrent (codes "G") u → u ≡ ordered.of
coregion_only u f = only (in_finished worked.concurrent (codes "G") _ refl u f)
  where
    only : {u : Unfolding} → OfWoven worked.concurrent no_gates [] (Basic worked.concurrent_body) u → u ≡ ordered.of
    only (of_body (of_level no_ends (item_then single (item_then single (item_then (coregion (event_and (event_and no_event))) no_item))))) = refl

pub coregion_unfolds : CoregionUnfolds
coregion_unfolds = only_one _ ordered coregion_only (drawn _ ordered.of refl refl)

pub inputs_in_order_conform : InputsInOrderConform
inputs_in_order_conform = run ordered (0 ∷ 1 ∷ 2 ∷ 3 ∷ []) refl refl

abbrev b_first : List Label
b_first = a_sent ∷ sent i b j ∷ received j b i ∷ []

pub later_input_fails : LaterInputFails
later_input_fails = record {
  begins = begins_with (a_sent ∷ sent i b j ∷ []) (a_received ∷ received j b i ∷ []) inputs_in_order_conform;
  fails = refused worked.concurrent (codes "G") _ worked.concurrent_body b_first refl refl (by_one b_first ordered coregion_only refl);
}

-- ---- a creation

abbrev created : Derived (Finished worked.creation (codes "A"))
created = record { of = _; is = record { chart = _; is = refl; unfolds = of_body (of_level no_ends (item_then single (item_then single no_item))) } }

creation_only : (u : Unfolding) → Finished worked.creation (codes "A") u → u ≡ created.of
creation_only u f = only (in_finished worked.creation (codes "A") _ refl u f)
  where
    only : {u : Unfolding} → OfWoven worked.creation no_gates [] (Basic worked.creation_body) u → u ≡ created.of
    only (of_body (of_level no_ends (item_then single (item_then single no_item)))) = refl

pub creation_unfolds : CreationUnfolds
creation_unfolds = only_one _ created creation_only (drawn _ created.of refl refl)

pub creation_conforms : CreationConforms
creation_conforms = run created (0 ∷ 1 ∷ []) refl refl

pub child_first_fails : ChildFirstFails
child_first_fails = record {
  begins = begins_with [] (label i Create k (far.Instance k) ∷ done k x ∷ []) creation_conforms;
  fails = refused worked.creation (codes "A") _ worked.creation_body (done k x ∷ []) refl refl (by_one (done k x ∷ []) created creation_only refl);
}
