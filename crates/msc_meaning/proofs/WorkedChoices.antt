-- A message, alternatives, an option, and an exception.
use Rattle.std.proofs.Common.{◌≡◌, ◌⊎◌, List, [], ◌∷◌, codes, refl, inl, inr}
use Rattle.msc_base.specs.declared.label.Label.{Label}
use Rattle.msc_unfolding.specs.Unfoldings.{Unfolding}
use Rattle.msc_meaning.specs.InnerEvents.{no_ends}
use Rattle.msc_meaning.specs.ChartUnfoldings.{OfWoven, of_level, no_item, item_then, exception, no_exception, single, inline_part, alternative, taken, left_out, this, that, of_body}
use Rattle.msc_meaning.specs.FarEnds.{no_gates}
use Rattle.msc_meaning.specs.Meanings.{Finished}
use Rattle.msc_meaning.specs.Tables.{Basic}
use Rattle.msc_meaning.specs.WorkedCharts as worked
use Rattle.msc_meaning.specs.WorkedCharts.{i, j, b}
use Rattle.msc_meaning.specs.WorkedLaws.{MessageUnfolds, MessageConforms, InputFirstFails, NothingStopsEarly, SecondOutputFails, ab, ac, AlternativesUnfold, SecondOperandConforms, OptionUnfolds, NothingConforms, with_exception, without_exception, ExceptionUnfolds, ExceptionConforms, BehindExceptionFails, a_sent, a_received}
use Rattle.msc_meaning.specs.WorkedParts.{sent, sent_out}
use Rattle.msc_meaning.proofs.Showing.{Derived, drawn, only_one, only_two, run, begins_with, in_finished, refused, by_one, by_two, unfinished_by_one}

-- ---- a message

abbrev pub message : Derived (Finished worked.message (codes "A"))
message = record { of = _; is = record { chart = _; is = refl; unfolds = of_body (of_level no_ends (item_then single (item_then single no_item))) } }

pub message_only : (u : Unfolding) → Finished worked.message (codes "A") u → u ≡ message.of
message_only u f = only (in_finished worked.message (codes "A") _ refl u f)
  where
    only : {u : Unfolding} → OfWoven worked.message no_gates [] (Basic worked.message_body) u → u ≡ message.of
    only (of_body (of_level no_ends (item_then single (item_then single no_item)))) = refl

pub message_unfolds : MessageUnfolds
message_unfolds = only_one _ message message_only (drawn _ message.of refl refl)

pub message_conforms : MessageConforms
message_conforms = run message (0 ∷ 1 ∷ []) refl refl

pub input_first_fails : InputFirstFails
input_first_fails = record {
  begins = begins_with [] (a_sent ∷ a_received ∷ []) message_conforms;
  fails = refused worked.message (codes "A") _ worked.message_body (a_received ∷ []) refl refl (by_one (a_received ∷ []) message message_only refl);
}

pub nothing_stops_early : NothingStopsEarly
nothing_stops_early = record {
  begins = begins_with [] (a_sent ∷ a_received ∷ []) message_conforms;
  unfinished = unfinished_by_one [] message message_only refl;
}

pub second_output_fails : SecondOutputFails
second_output_fails = record {
  begins = begins_with (a_sent ∷ a_received ∷ []) [] message_conforms;
  fails = refused worked.message (codes "A") _ worked.message_body (a_sent ∷ a_received ∷ a_sent ∷ []) refl refl (by_one (a_sent ∷ a_received ∷ a_sent ∷ []) message message_only refl);
}

-- ---- alternatives

abbrev first_operand : Derived (Finished worked.alternatives (codes "C"))
first_operand = record {
  of = _;
  is = record { chart = _; is = refl; unfolds = of_body (of_level no_ends (item_then (inline_part (alternative (this (of_level no_ends (item_then single (item_then single no_item)))))) no_item)) };
}

abbrev second_operand : Derived (Finished worked.alternatives (codes "C"))
second_operand = record {
  of = _;
  is = record { chart = _; is = refl; unfolds = of_body (of_level no_ends (item_then (inline_part (alternative (that (this (of_level no_ends (item_then single (item_then single no_item))))))) no_item)) };
}

alternatives_only : (u : Unfolding) → Finished worked.alternatives (codes "C") u → (u ≡ first_operand.of) ⊎ (u ≡ second_operand.of)
alternatives_only u f = only (in_finished worked.alternatives (codes "C") _ refl u f)
  where
    only : {u : Unfolding} → OfWoven worked.alternatives no_gates [] (Basic worked.alternatives_body) u → (u ≡ first_operand.of) ⊎ (u ≡ second_operand.of)
    only (of_body (of_level no_ends (item_then (inline_part (alternative (this (of_level no_ends (item_then single (item_then single no_item)))))) no_item))) = inl refl
    only (of_body (of_level no_ends (item_then (inline_part (alternative (that (this (of_level no_ends (item_then single (item_then single no_item))))))) no_item))) = inr refl
    only (of_body (of_level no_ends (item_then (inline_part (alternative (that (that x)))) no_item))) = elim x [ ]

pub alternatives_unfold : AlternativesUnfold
alternatives_unfold = only_two ab ac first_operand second_operand alternatives_only (drawn ab first_operand.of refl refl) (drawn ac second_operand.of refl refl)

pub second_operand_conforms : SecondOperandConforms
second_operand_conforms = run second_operand (0 ∷ 1 ∷ []) refl refl

-- ---- an option

abbrev all_done : Derived (Finished worked.option (codes "B"))
all_done = record {
  of = _;
  is = record { chart = _; is = refl; unfolds = of_body (of_level no_ends (item_then (inline_part (taken (of_level no_ends (item_then single (item_then single no_item))))) no_item)) };
}

abbrev nothing_done : Derived (Finished worked.option (codes "B"))
nothing_done = record { of = _; is = record { chart = _; is = refl; unfolds = of_body (of_level no_ends (item_then (inline_part left_out) no_item)) } }

option_only : (u : Unfolding) → Finished worked.option (codes "B") u → (u ≡ all_done.of) ⊎ (u ≡ nothing_done.of)
option_only u f = only (in_finished worked.option (codes "B") _ refl u f)
  where
    only : {u : Unfolding} → OfWoven worked.option no_gates [] (Basic worked.option_body) u → (u ≡ all_done.of) ⊎ (u ≡ nothing_done.of)
    only (of_body (of_level no_ends (item_then (inline_part (taken (of_level no_ends (item_then single (item_then single no_item))))) no_item))) = inl refl
    only (of_body (of_level no_ends (item_then (inline_part left_out) no_item))) = inr refl

pub option_unfolds : OptionUnfolds
option_unfolds = only_two _ _ all_done nothing_done option_only (drawn _ all_done.of refl refl) (drawn _ nothing_done.of refl refl)

pub nothing_conforms : NothingConforms
nothing_conforms = run nothing_done [] refl refl

-- ---- an exception

abbrev in_place : Derived (Finished worked.exception (codes "F"))
in_place = record {
  of = _;
  is = record { chart = _; is = refl; unfolds = of_body (of_level no_ends (item_then single (item_then single (exception (of_level no_ends (item_then single no_item)))))) };
}

abbrev passed_over : Derived (Finished worked.exception (codes "F"))
passed_over = record {
  of = _;
  is = record { chart = _; is = refl; unfolds = of_body (of_level no_ends (item_then single (item_then single (no_exception (item_then single (item_then single no_item)))))) };
}

exception_only : (u : Unfolding) → Finished worked.exception (codes "F") u → (u ≡ in_place.of) ⊎ (u ≡ passed_over.of)
exception_only u f = only (in_finished worked.exception (codes "F") _ refl u f)
  where
    only : {u : Unfolding} → OfWoven worked.exception no_gates [] (Basic worked.exception_body) u → (u ≡ in_place.of) ⊎ (u ≡ passed_over.of)
    only (of_body (of_level no_ends (item_then single (item_then single (exception (of_level no_ends (item_then single no_item))))))) = inl refl
    only (of_body (of_level no_ends (item_then single (item_then single (no_exception (item_then single (item_then single no_item))))))) = inr refl
    only (of_body (of_level no_ends (item_then single (item_then single (item_then (inline_part f) r))))) = elim f [ ]

pub exception_unfolds : ExceptionUnfolds
exception_unfolds = only_two with_exception without_exception in_place passed_over exception_only (drawn with_exception in_place.of refl refl) (drawn without_exception passed_over.of refl refl)

pub exception_conforms : ExceptionConforms
exception_conforms = run in_place (0 ∷ 1 ∷ 2 ∷ []) refl refl

abbrev behind : List Label
behind = a_sent ∷ a_received ∷ sent_out i (codes "x") ∷ sent i b j ∷ []

pub behind_exception_fails : BehindExceptionFails
behind_exception_fails = record {
  begins = begins_with (a_sent ∷ a_received ∷ sent_out i (codes "x") ∷ []) [] exception_conforms;
  fails = refused worked.exception (codes "F") _ worked.exception_body behind refl refl (by_two behind in_place passed_over exception_only refl refl);
}
