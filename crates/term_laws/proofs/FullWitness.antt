-- Terms and tables that are sound in full: a message, a loop of messages, and walks through a graph.
use Rattle.std.specs.Prelude.{ℕ, zero, suc, ◌==◌, ◌≢◌, ◌⊎◌, Bool, true, false, [], ◌∷◌, ◌≡◌, None, refl}
use Rattle.std.proofs.Common.{arith, inl, inr}
use Rattle.std.proofs.lemmas.Bool.Decides.{nat_tests}
use Rattle.hmsc_graph.specs.Graphs.{Start, End, Any}
use Rattle.chart_term.specs.Tables.{terms_over}
use Rattle.chart_term.specs.TermMeanings.{HasPattern, has_event}
use Rattle.chart_term.specs.TermPatterns.{Shape, take_one}
use Rattle.chart_term.specs.TermRuns.{run_end, run_take}
use Rattle.chart_term.specs.Terms.{Nil, Loop, Walk, gap, ends}
use Rattle.term_laws.specs.FullSoundness.{IsSoundNode, IsFullySound, AreSoundNets, AreEndsNil}
use Rattle.term_laws.specs.Sound.{HasOrder}
use Rattle.term_laws.proofs.FreshTerms.{fresh_terms_are_sound, nil_orders}
use Rattle.term_laws.proofs.Times.{ties_from}
use Rattle.term_laws.proofs.Witness.{message, message_sound, action, entry, within}
use Rattle.term_laws.proofs.SoundLaws.{order_of}

-- A message: each number stands at one event

apart : (j : ℕ) → (2 == j) ≡ true → 1 ≢ j
apart j e = λ p. grind (arith, nat_tests)

other : (j : ℕ) → (2 == j) ≡ false → 2 ≢ j
other j e = λ p. grind (arith, nat_tests)

abbrev OneOfTwo : ℕ → Type 0
OneOfTwo j = ((1 ≢ j) × (((2 ≢ j) × Unit {0}) ⊎ (Unit {0} × Unit {0}))) ⊎ (Unit {0} × ((2 ≢ j) × Unit {0}))

one_of_two : (j : ℕ) → OneOfTwo j
one_of_two j = go (2 == j) refl
  where
    go : (t : Bool) → (2 == j) ≡ t → OneOfTwo j
    go true e = inl (apart j e, inr (tt, tt))
    go false e = inr (tt, (other j e, tt))

message_full : IsFullySound 2 [] message
message_full = record {
  nets = tt;
  term = record {
    normal = message_sound.normal;
    known = ((omega arith, (omega arith, tt)), tt);
    once = ties_from [] tt message message_sound.tidy ((tt, (tt, tt)), λ j p. one_of_two j);
    outside = ((tt, (tt, tt)), λ j p. (tt, (tt, tt)));
    falling = (tt, (tt, tt));
    counts = (tt, (tt, tt));
    last = ((tt, (tt, tt)), tt);
    ordered = message_sound.ordered;
    operands = ((tt, (tt, tt)), tt);
  };
}

-- A loop of messages

messages_full : IsFullySound 2 [] (Loop message 1 None (gap [] ends))
messages_full = fresh_terms_are_sound.loop 2 [] message 1 None message_full ((tt, (tt, tt)), tt) tt

-- A graph with a node of one action, which leads to itself and to an end

action_node : IsSoundNode 2 [] action
action_node = record {
  sound = record { normal = tt; known = omega arith; once = tt; outside = tt; falling = tt; counts = tt; last = tt; ordered = action_orders; operands = tt };
  closed = tt;
}
  where
    action_orders : (s : Shape) → HasPattern (terms_over []) true action s → HasOrder s
    action_orders s has_event = order_of s (1 ∷ []) (run_take take_one (run_end tt))

nil_node : IsSoundNode 2 [] Nil
nil_node = record {
  sound = record { normal = tt; known = tt; once = tt; outside = tt; falling = tt; counts = tt; last = tt; ordered = nil_orders []; operands = tt };
  closed = tt;
}

ends_nil : AreEndsNil entry
ends_nil zero h = cc
ends_nil (suc zero) h = refl
ends_nil (suc (suc m)) h = refl

graph_nets : AreSoundNets 2 (entry ∷ [])
graph_nets = (tt, (action_node, (nil_node, tt)), (tt, (tt, tt)), within, ends_nil, refl)

finished_full : IsFullySound 2 (entry ∷ []) (Walk 0 Start End [])
finished_full = fresh_terms_are_sound.walk 2 (entry ∷ []) 0 End graph_nets (omega arith) tt

under_way_full : IsFullySound 2 (entry ∷ []) (Walk 0 Start Any [])
under_way_full = fresh_terms_are_sound.walk 2 (entry ∷ []) 0 Any graph_nets (omega arith) tt
