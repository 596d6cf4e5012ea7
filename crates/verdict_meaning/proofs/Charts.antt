-- The residual terms of a chart's term tell of the chart; and a chart of one message, whose term means it.
use Rattle.std.specs.Prelude.{◌⊎◌, ℕ, List, [], ◌∷◌, false, true, codes, map}
use Rattle.std.specs.Str.{bytes_eq}
use Rattle.std.proofs.Common.{refl, sym, subst, inl, inr, arith}
use Rattle.std.proofs.lemmas.Bool.Decides.{nat_tests}
use Rattle.label_table.specs.Labels.{same_label}
use Rattle.label_table.proofs.Equality.{label_self, bytes_self}
use Rattle.msc_unfolding.specs.Unfoldings.{Unfolding}
use Rattle.msc_meaning.specs.Meanings.{Finished, Open, Begun}
use Rattle.msc_meaning.specs.WorkedCharts.{message, message_body}
use Rattle.msc_meaning.specs.WorkedLaws.{a_sent, a_received}
use Rattle.msc_meaning.proofs.Showing.{not_open}
use Rattle.msc_meaning.proofs.WorkedChoices as worked
use Rattle.msc_base.specs.Patterns.{seq}
use Rattle.chart_term.specs.NormalForms.{join_all}
use Rattle.chart_term.specs.Tables.{terms_over}
use Rattle.chart_term.specs.TermMeanings.{HasPattern}
use Rattle.chart_term.specs.TermPatterns.{Both}
use Rattle.chart_term.specs.Terms.{Event}
use Rattle.sound_terms.specs.RisingRows.{DoRise}
use Rattle.term_laws.specs.Permission.{permits_of}
use Rattle.term_laws.proofs.Placed.{join-placed, tie-placed}
use Rattle.term_meaning.specs.Naming.{IsNamed}
use Rattle.term_meaning.specs.TiedRows.{TiedRow, AreRowOf, tied_row, TiedRowsMean}
use Rattle.term_meaning.proofs.MeaningRules.{mean_sets}
use Rattle.term_meaning.proofs.TwoMessages.{found_once}
use Rattle.trace_judge.specs.Laws.{SetsTellRuns, VerdictsTellRuns}
use Rattle.verdict_meaning.specs.ChartsTold.{ChartsAreTold}
use Rattle.verdict_meaning.specs.MessageTold.{message_tables, message_names, message_events, MessageIsTold}
use Rattle.verdict_meaning.proofs.Meaning.{empty_set, ending_set, verdict_tells}

pub charts_are_told : SetsTellRuns → VerdictsTellRuns → ChartsAreTold
charts_are_told sets verdicts = record {
  empty = λ table name v names x t labels set r. empty_set v names x t.means.once sets (Begun table name) t.means.all_ones t.sound labels set r;
  ends = λ table name v names x t labels set r. ending_set v names x t.means.once sets (Finished table name) t.means.finished_ones t.sound labels set r;
  verdict = λ table name v names x t budget events verdict h. verdict_tells v names x t.means.once verdicts (Finished table name) (Begun table name) t.means.finished_ones t.means.all_ones t.sound budget events verdict h;
}

-- ---- a message

abbrev pair : List (ℕ × ℕ)
pair = (0, 1) ∷ []

rises : DoRise pair
rises m n h = grind (arith, nat_tests)

row : AreRowOf message_tables message_names (a_sent ∷ a_received ∷ []) message_events
row = record {
  names_once = found_once bytes_eq bytes_self message_names refl;
  labels_once = found_once same_label label_self message_tables.labels refl;
  nets = tt;
  events = (record { number = refl; alone = refl; label = refl; at = refl }, (record { number = refl; alone = refl; label = refl; at = refl }, tt));
}

-- the chart's one unfolding is that of its two events in a row below the tie
one_finished : (u : Unfolding) → Both (TiedRow (a_sent ∷ a_received ∷ []) pair u) (Finished message (codes "A") u)
one_finished u = record { to = λ e. let P : Unfolding → Type 0 = λ v. Finished message (codes "A") v in subst P (sym e) worked.message.is; from = λ f. worked.message_only u f }

one_begun : (u : Unfolding) → Both (TiedRow (a_sent ∷ a_received ∷ []) pair u) (Begun message (codes "A") u)
one_begun u = record { to = λ e. inl ((one_finished u).to e); from = λ f. from f }
  where
    from : Finished message (codes "A") u ⊎ Open message (codes "A") u → TiedRow (a_sent ∷ a_received ∷ []) pair u
    from (inl f) = (one_finished u).from f
    from (inr o) = absurd (not_open message (codes "A") _ message_body refl refl u o)

-- each label is at the instance of its number
abbrev own_instance : ℕ → List ℕ
own_instance n = n ∷ []

pub message_is_told : TiedRowsMean → MessageIsTold
message_is_told rows = record {
  means = record {
    once = row.labels_once;
    finished_ones = mean_sets (IsNamed message_tables.labels message_names) (HasPattern (terms_over []) false (tied_row message_events pair)) (TiedRow (a_sent ∷ a_received ∷ []) pair) (Finished message (codes "A")) one_finished
        (rows.means message_tables message_names (a_sent ∷ a_received ∷ []) message_events pair false row);
    all_ones = mean_sets (IsNamed message_tables.labels message_names) (HasPattern (terms_over []) true (tied_row message_events pair)) (TiedRow (a_sent ∷ a_received ∷ []) pair) (Begun message (codes "A")) one_begun
        (rows.means message_tables message_names (a_sent ∷ a_received ∷ []) message_events pair true row);
  };
  sound = record {
    full = rows.sound message_tables message_names (a_sent ∷ a_received ∷ []) message_events pair row rises;
    placed = record { places = own_instance; nets = tt; term = tie-placed own_instance (permits_of []) (join_all seq (map Event message_events)) pair (join-placed own_instance (permits_of []) seq (map Event message_events) (refl, (refl, tt))) };
  };
}
