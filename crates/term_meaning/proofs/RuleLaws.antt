-- The rules of standing and of meaning, put together.
use Rattle.std.specs.Prelude.{ℕ, true, false}
use Rattle.hmsc_graph.specs.Graphs.{End, Any}
use Rattle.msc_unfolding.specs.Unfoldings.{Happening, Unfolding, plain}
use Rattle.chart_term.specs.Tables.{terms_over, net_of}
use Rattle.chart_term.specs.TermMeanings.{HasPattern}
use Rattle.chart_term.specs.TermPatterns.{numbered, back}
use Rattle.chart_term.specs.Terms.{TermEvent}
use Rattle.term_laws.specs.ConstructorLaws.{NormalFormsKeepPatterns}
use Rattle.term_laws.specs.LaterTables.{LaterTablesAgree}
use Rattle.term_meaning.specs.LineWalks.{IsFinished, IsUnderWay}
use Rattle.term_meaning.specs.MeaningRules.{MeaningRules}
use Rattle.term_meaning.specs.StandingRules.{StandingRules}
use Rattle.term_meaning.specs.UnfoldingSets.{AreTied, Either, AreSomeOften}
use Rattle.term_meaning.proofs.LineMeaning.{mean_finished, mean_to_end, mean_under_way}
use Rattle.term_meaning.proofs.MeaningRules.{stands_same, mean_nil, mean_event, mean_no_part, mean_part, mean_no_choice, mean_choice, mean_turns, mean_tie, mean_pass, mean_as, mean_join_all, mean_choice_of, mean_bound_of, mean_fresh_loop, mean_fresh_walk, mean_later}
use Rattle.term_meaning.proofs.Ordered.{mean_ordered}
use Rattle.term_meaning.proofs.Standing.{stands_there, stands_here}
use Rattle.term_meaning.proofs.StandRules.{stands_empty, stands_one, stands_join, stands_bind, stands_pass, stands_as}

pub standing_rules : (In Out : TermEvent → Happening → Type 0) → StandingRules In Out
standing_rules In Out = record {
  empties = stands_empty numbered plain In;
  events = stands_one numbered plain In;
  joins = λ meet m x y s v h k. stands_join numbered plain In meet m x y s v h k;
  ties = λ q t up tie x s h. stands_bind numbered plain In Out q t up tie x s h;
  passes = λ t up none x s h. stands_pass numbered plain In Out t up none x s h;
  knows = λ x s more h. stands_as numbered plain In Out x s more h;
  same = λ x y s e. record { to = λ h. stands_same In (back e) s h; from = λ h. stands_same In e s h };
  there = λ x s h l k. stands_there numbered plain In x s h l k;
  here = λ x s h l k. stands_here numbered plain In x s h l k;
}

pub meaning_rules : NormalFormsKeepPatterns → LaterTablesAgree → (In Out : TermEvent → Happening → Type 0) (A B : Unfolding → Type 0) (N : ℕ → Unfolding → Type 0) → MeaningRules In Out A B N
meaning_rules keep agree In Out A B N = record {
  nil = λ w o. mean_nil In (terms_over w) o;
  event = λ w o e h k. mean_event In (terms_over w) o e h k;
  no_part = λ w o m. mean_no_part In (terms_over w) o m;
  part = λ w o m x xs meet a b. mean_part In (terms_over w) o meet m x xs A B a b;
  join = λ w o m xs a. mean_join_all keep In o w m xs A a;
  no_choice = λ w o. mean_no_choice In (terms_over w) o;
  alternative = λ w o x xs a b. mean_choice In (terms_over w) o x xs A B a b;
  choice = λ w o xs a. mean_choice_of keep In o w xs A a;
  tied = λ w o x q t tidy lacks up tie a. mean_bound_of keep Out o w x q (AreTied A t) tidy lacks (mean_tie In Out (terms_over w) o x q t A up tie a);
  passed = λ w o x t up none a. mean_pass In Out (HasPattern (terms_over w) o x) t A up none a;
  known = λ w o x more a. mean_as In Out (HasPattern (terms_over w) o x) A more a;
  loop = λ w o x lo hi meet tidy over upto a. mean_fresh_loop keep In o w x lo hi (AreSomeOften A lo hi) tidy over upto (mean_turns In (terms_over w) o meet x lo hi A a);
  to_end = λ w o n meet tidy known ends a. mean_fresh_walk keep In o w n End (IsFinished (net_of w n) N) tidy known (mean_to_end In (terms_over w) meet n N ends o a);
  finished = λ w n meet tidy known ends a. mean_fresh_walk keep In false w n Any (IsFinished (net_of w n) N) tidy known (mean_finished In (terms_over w) meet n N ends a);
  under_way = λ w n meet tidy known ends a. mean_fresh_walk keep In true w n Any (Either (IsFinished (net_of w n) N) (IsUnderWay (net_of w n) N)) tidy known (mean_under_way In (terms_over w) meet n N ends a);
  later = λ w o e x tidy over a. mean_later agree In o w e x A tidy over a;
  ordered = λ w o x a orders s p. mean_ordered In (HasPattern (terms_over w) o x) A a orders s p;
}
