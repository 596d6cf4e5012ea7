-- The loop of one message by the rules of portions.
use Rattle.std.specs.Prelude.{ℕ, Bool, false, [], ◌∷◌, ◌++◌, Some, ◌≡◌}
use Rattle.std.specs.Str.{bytes_eq}
use Rattle.std.proofs.Common.{refl, arith, inl}
use Rattle.std.proofs.lemmas.Bool.Decides.{nat_tests}
use Rattle.label_table.proofs.Equality.{bytes_self}
use Rattle.msc_base.specs.Orders.{Once}
use Rattle.msc_base.specs.Patterns.{seq}
use Rattle.msc_unfolding.specs.Unfoldings.{Unfolding}
use Rattle.chart_term.specs.NormalForms.{join_all}
use Rattle.chart_term.specs.Tables.{terms_over}
use Rattle.chart_term.specs.TermMeanings.{HasPattern, PatternsOf}
use Rattle.chart_term.specs.TermPatterns.{Shape, pairs}
use Rattle.chart_term.specs.Terms.{Event}
use Rattle.term_laws.specs.ConstructorLaws.{NormalFormsKeepPatterns}
use Rattle.term_laws.specs.FullSoundness.{fresh_loop}
use Rattle.term_laws.specs.Soundness.{IsTidyOver}
use Rattle.term_meaning.specs.LoopedMessage.{sending, taking, message_tie, loop_tie, loop_tables, loop_names, first_event, second_event, operand, Turned, LoopedMessageMeans}
use Rattle.term_meaning.specs.Portions.{Shown, shown_at, past_shown, shown_pairs, IsPortion}
use Rattle.term_meaning.specs.UnfoldingSets.{OnlyEmpty, OnlyEvent, AreJoined, AreTied, AreSomeOften}
use Rattle.term_meaning.proofs.PortionRules.{portion_event, portion_no_part, portion_part, portion_join_all, portion_tie, portion_bound_of, portion_turns, portion_fresh_loop, portion_pass, portion_means}
use Rattle.term_meaning.proofs.SeenRules.{named_alone}
use Rattle.term_meaning.proofs.ShownTags.{shown_say}
use Rattle.term_meaning.proofs.TwoMessages.{found_once}

abbrev Here : ℕ → ℕ → Shown → (Shape → Type 0) → (Unfolding → Type 0) → Type 0
Here lo hi sh P U = IsPortion loop_tables.labels loop_names lo hi sh P U

names_once : Once loop_names
names_once = found_once bytes_eq bytes_self loop_names refl

module _ (keep : NormalFormsKeepPatterns) (o : Bool) where
  first : Here 0 1 (shown_at 0 sending.tags) (HasPattern (terms_over []) o (Event first_event)) (OnlyEvent sending)
  first = portion_event loop_tables.labels loop_names (terms_over []) o first_event sending (named_alone loop_tables.labels loop_names first_event sending refl refl refl refl)

  second : Here 1 2 (shown_at 1 taking.tags) (HasPattern (terms_over []) o (Event second_event)) (OnlyEvent taking)
  second = portion_event loop_tables.labels loop_names (terms_over []) o second_event taking (named_alone loop_tables.labels loop_names second_event taking refl refl refl refl)

  abbrev seen : Shown
  seen = shown_at 0 sending.tags ++ (shown_at 1 taking.tags ++ [])

  abbrev Woven : Unfolding → Type 0
  Woven = AreJoined seq (OnlyEvent sending) (AreJoined seq (OnlyEvent taking) OnlyEmpty)

  in_row : Here 0 2 seen (HasPattern (terms_over []) o (join_all seq (Event first_event ∷ Event second_event ∷ []))) Woven
  in_row =
      portion_join_all loop_tables.labels loop_names keep o [] 0 2 seen Woven seq (Event first_event ∷ Event second_event ∷ [])
      (portion_part loop_tables.labels loop_names (terms_over []) o 0 1 1 2 0 2 (shown_at 0 sending.tags) (shown_at 1 taking.tags ++ []) (inl (omega arith)) (omega arith) (omega arith) (omega arith) (omega arith) names_once seq (Event first_event) (Event second_event ∷ [])
      (OnlyEvent sending) (AreJoined seq (OnlyEvent taking) OnlyEmpty) first
      (portion_part loop_tables.labels loop_names (terms_over []) o 1 2 2 2 1 2 (shown_at 1 taking.tags) [] (inl (omega arith)) (omega arith) (omega arith) (omega arith) (omega arith) names_once seq (Event second_event) [] (OnlyEvent taking) OnlyEmpty second
      (portion_no_part loop_tables.labels loop_names (terms_over []) o seq 2)))

  tied_up : Here 0 2 (past_shown message_tie.past seen) (HasPattern (terms_over []) o operand) (AreTied Woven message_tie)
  tied_up =
      portion_bound_of loop_tables.labels loop_names keep o [] 0 2 (past_shown message_tie.past seen) (AreTied Woven message_tie) (join_all seq (Event first_event ∷ Event second_event ∷ [])) ((0, 1) ∷ []) tt (λ j i. (tt, (tt, tt)))
      (portion_tie loop_tables.labels loop_names (terms_over []) o 0 2 seen (join_all seq (Event first_event ∷ Event second_event ∷ [])) (shown_pairs message_tie.pairs seen seen) message_tie Woven (λ m n i j. shown_say message_tie.pairs seen m n) in_row)

  looped : Here 0 2 (past_shown loop_tie.past (past_shown message_tie.past seen)) (PatternsOf (terms_over []) o (fresh_loop [] operand 1 (Some 2))) Turned
  looped =
      portion_pass loop_tables.labels loop_names 0 2 (past_shown message_tie.past seen) (PatternsOf (terms_over []) o (fresh_loop [] operand 1 (Some 2))) loop_tie (AreSomeOften (AreTied Woven message_tie) 1 (Some 2)) refl
      (portion_fresh_loop loop_tables.labels loop_names keep o [] 0 2 (past_shown message_tie.past seen) (AreSomeOften (AreTied Woven message_tie) 1 (Some 2)) operand 1 (Some 2) tt tidy (omega arith)
      (portion_turns loop_tables.labels loop_names (terms_over []) o names_once 0 2 (past_shown message_tie.past seen) operand 1 (Some 2) (AreTied Woven message_tie) tied_up))
    where
      tidy : IsTidyOver [] operand
      tidy = ((tt, (tt, tt)), (λ j i. (tt, (tt, tt))), free)
        where
          free : (j : ℕ) → pairs ((0, 1) ∷ []) j j ≡ false
          free j = grind (arith, nat_tests)

pub looped_message_means : NormalFormsKeepPatterns → LoopedMessageMeans
looped_message_means keep = record { means = λ o. portion_means loop_tables.labels loop_names 0 2 (past_shown loop_tie.past (past_shown message_tie.past (shown_at 0 sending.tags ++ (shown_at 1 taking.tags ++ [])))) (PatternsOf (terms_over []) o (fresh_loop [] operand 1 (Some 2))) Turned (looped keep o) }
