-- Values that meet the premises of the laws: a message, a loop whose later turn overtakes an earlier one, and a graph.
use Rattle.std.specs.Prelude.{ℕ, zero, suc, true, false, List, [], ◌∷◌, ◌≡◌, ◌||◌, ◌&&◌, ◌==◌, Some, None, refl}
use Rattle.std.proofs.Common.{inl, inr, arith}
use Rattle.std.proofs.lemmas.Bool.Decides.{nat_tests}
use Rattle.msc_base.specs.Patterns.{seq}
use Rattle.hmsc_graph.specs.Graphs.{Start, At, End}
use Rattle.chart_term.specs.NormalForms.{only}
use Rattle.chart_term.specs.Tables.{NetEntry, terms_over}
use Rattle.chart_term.specs.TermMeanings.{HasPattern, has_event, has_join, holds_tie, holds_loop, no_part, one_part, HasRow, gaps_end, gaps_shut, gaps_more}
use Rattle.chart_term.specs.TermPatterns.{Shape, take_one, take_first, take_later, take_bind, back, left}
use Rattle.chart_term.specs.TermRuns.{Runs, run_end, run_take}
use Rattle.chart_term.specs.Terms.{TermEvent, Tree, Nil, Event, Join, Tied, Loop, Walk, none, more, ends, gap, turn, Gap}
use Rattle.chart_term.proofs.Running.{runs_same}
use Rattle.term_laws.specs.Laws.{Fits}
use Rattle.term_laws.specs.Listing.{residual_set}
use Rattle.term_laws.specs.Permission.{permit, permits_of}
use Rattle.term_laws.specs.Sound.{HasOrder, AreSoundTables, IsSound}
use Rattle.term_laws.specs.Soundness.{LeadsWithin}
use Rattle.term_laws.specs.Taking.{IsAfter, after_event, after_join, after_tied, first_part, MayEnd, end_zero, past_gap, no_turns}
use Rattle.term_laws.proofs.SoundLaws.{order_of}

abbrev pub event : ℕ → ℕ → ℕ → TermEvent
event n i a = record { number = n; at = i; also = None; label = a }

abbrev no_nets : AreSoundTables []
no_nets = record { tidy = tt; normal = tt }

-- A message

abbrev pub message : Tree
message = Tied (Join seq (more (Event (event 1 0 0)) (more (Event (event 2 1 1)) none))) ((1, 2) ∷ [])

not_self : (j : ℕ) → (((j == 1) && (j == 2)) || false) ≡ false
not_self j = grind (arith, nat_tests)

message_order : (s : Shape) → HasPattern (terms_over []) true message s → HasOrder s
message_order s (holds_tie (has_join (one_part has_event (one_part has_event no_part)))) =
    order_of s (0 ∷ 1 ∷ []) (run_take (take_bind (take_first take_one) (refl, (refl, tt))) (run_take (take_bind (take_later tt (take_first take_one)) (tt, (refl, tt))) (run_end (tt, (tt, tt)))))

pub message_sound : IsSound [] message
message_sound = record {
  tables = no_nets;
  tidy = ((tt, (tt, tt)), (λ j p. (tt, (tt, tt))), not_self);
  normal = (((tt, (tt, tt)), (tt, (tt, tt)), tt), tt, (refl, refl, tt), (refl, tt));
  ordered = message_order;
}

-- a block of numbers that fits it
message_fits : Fits [] (record { instances = []; numbers = 2 ∷ [] }) message
message_fits j h = (tt, (tt, tt))

-- what is left of it after its first event
message_after : IsAfter (permits_of []) message (event 1 0 0) (Event (event 2 1 1))
message_after = after_tied (after_join (first_part after_event)) refl

-- A loop of one action

abbrev pub action : Tree
action = Event (event 1 7 1)

abbrev loop : Tree
loop = Loop action 1 None (gap [] ends)

row_runs : (n : ℕ) (s : Shape) → HasRow (terms_over []) true action (Gap [] ∷ []) n s → (r : List ℕ) × Runs s r
row_runs zero s (gaps_shut gaps_end) = ([], run_end tt)
row_runs (suc n) s (gaps_shut h) = elim h [ ]
row_runs (suc n) s (gaps_more {u = u} has_event av h) = let i = row_runs n u h in (1 ∷ i.0, run_take (take_first take_one) (runs_same i.1 (back left)))

loop_order : (s : Shape) → HasPattern (terms_over []) true loop s → HasOrder s
loop_order s (holds_loop n a l u) = let i = row_runs n s a in order_of s i.0 i.1

loop_sound : IsSound [] loop
loop_sound = record {
  tables = no_nets;
  tidy = (tt, tt, tt, (tt, tt));
  normal = (tt, tt, record { sets = (tt, tt); cuts = (refl, tt); leaves = (refl, tt); not_free = (refl, tt); not_over = tt; positive = tt; apart = (tt, tt); some = refl });
  ordered = loop_order;
}

-- where its instance is blocked, no turn can begin, and one is owed
loop_blocked : permit (permits_of []) (only (7 ∷ [])) loop ≡ None
loop_blocked = refl

loop_passed : permit (permits_of []) (only (8 ∷ [])) loop ≡ Some loop
loop_passed = refl

-- A loop whose later turn overtakes an earlier one: a is at one instance, b at another

abbrev b_event : Tree
b_event = Event (event 2 1 1)

abbrev both : Tree
both = Join seq (more (Event (event 1 0 0)) (more b_event none))

abbrev after : List ℕ → List Tree
after l = residual_set 6 (permits_of []) (Loop both 1 None (gap [] ends) ∷ []) l

after_a : after (0 ∷ []) ≡ Loop both 0 None (turn b_event (gap [] ends)) ∷ []
after_a = refl

after_a_a : after (0 ∷ 0 ∷ []) ≡ Loop both 0 None (turn b_event (turn b_event (gap [] ends))) ∷ []
after_a_a = refl

after_a_a_b : after (0 ∷ 0 ∷ 1 ∷ []) ≡ Loop both 0 None (turn b_event (gap [] ends)) ∷ []
after_a_a_b = refl

after_a_a_b_b : after (0 ∷ 0 ∷ 1 ∷ 1 ∷ []) ≡ Loop both 0 None (gap [] ends) ∷ []
after_a_a_b_b = refl

-- nothing orders a and b, so b may come first
after_b : after (1 ∷ []) ≡ Loop both 0 None (turn (Event (event 1 0 0)) (gap [] ends)) ∷ []
after_b = refl

-- what is left in the end may end
may_end : MayEnd (terms_over []) (Loop both 0 None (gap [] ends))
may_end = end_zero (past_gap no_turns)

-- A graph: a node with one action, which leads to itself and to an end

abbrev pub entry : NetEntry
entry = record { net = record { starts = 0 ∷ []; next = (0 ∷ 1 ∷ []) ∷ [] ∷ []; ends = false ∷ true ∷ [] }; nodes = action ∷ Nil ∷ [] }

pub within : LeadsWithin entry
within Start m (inl p) = inl p
within Start m (inr h) = absurd h
within (At zero) m (inl p) = inl p
within (At zero) m (inr (inl p)) = inr (inl p)
within (At zero) m (inr (inr h)) = absurd h
within (At (suc zero)) m h = absurd h
within (At (suc (suc n))) m h = absurd h

tables_sound : AreSoundTables (entry ∷ [])
tables_sound = record { tidy = (tt, (tt, (tt, tt)), (tt, (tt, tt)), within); normal = (tt, (tt, (tt, tt))) }

abbrev graph : Tree
graph = Walk 0 Start End []

graph_blocked : permit (permits_of (entry ∷ [])) (only (7 ∷ [])) graph ≡ None
graph_blocked = refl

graph_passed : permit (permits_of (entry ∷ [])) (only (8 ∷ [])) graph ≡ Some graph
graph_passed = refl

-- from the action's node the end can be reached without an event
rest_blocked : permit (permits_of (entry ∷ [])) (only (7 ∷ [])) (Walk 0 (At 0) End []) ≡ Some Nil
rest_blocked = refl

-- what is left after one action, and after two: the rest of the walk
graph_after : residual_set 4 (permits_of (entry ∷ [])) (graph ∷ []) (1 ∷ []) ≡ Walk 0 (At 0) End [] ∷ []
graph_after = refl

graph_after_two : residual_set 4 (permits_of (entry ∷ [])) (graph ∷ []) (1 ∷ 1 ∷ []) ≡ Walk 0 (At 0) End [] ∷ []
graph_after_two = refl
