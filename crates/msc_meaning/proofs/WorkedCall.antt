-- A whole chart in columns, one call: what its text is woven to, its two unfoldings, and a run.
use Rattle.std.proofs.Common.{◌≡◌, ◌⊎◌, List, [], ◌∷◌, codes, refl, ap, inl, inr}
use Rattle.msc_base.specs.Patterns.{seq, one, join, bind}
use Rattle.msc_unfolding.specs.Unfoldings.{Unfolding, level_tie}
use Rattle.msc_meaning.specs.Bodies.{EventNode, events}
use Rattle.msc_meaning.specs.Ties.{ties}
use Rattle.msc_tree.specs.Statements as tree
use Rattle.msc_meaning.specs.ChartUnfoldings.{gates_of, under, OfItems, OfWoven, of_level, no_item, item_then, single, inline_part, alternative, this, that, of_body}
use Rattle.msc_meaning.specs.FarEnds.{no_gates, Gates, happening}
use Rattle.msc_meaning.specs.InnerEvents.{no_ends}
use Rattle.msc_meaning.specs.Levels.{IsWovenLevel, woven, no_woven, woven_and, an_event, an_inline, no_woven_operand, woven_operand_and}
use Rattle.msc_meaning.specs.Meanings.{Finished}
use Rattle.msc_meaning.specs.Pieces.{statements_pieces}
use Rattle.msc_meaning.specs.Tables.{Basic}
use Rattle.msc_meaning.specs.WorkedCall.{all, text, choice_items, call_items, call_pairs, call, table, CallIsWoven, dials, hangs_up, CallUnfolds, CallConforms}
use Rattle.msc_meaning.proofs.PairingTest.{pairs_so}
use Rattle.msc_meaning.proofs.Showing.{Derived, drawn, only_two, run, in_finished}
use Rattle.msc_meaning.proofs.WeavingTest.{woven_so}

-- each operand is made of the parts in the three columns
call_woven : IsWovenLevel all (statements_pieces all 0 (tree.statements text)) call
call_woven = woven {order = 0 ∷ 1 ∷ 3 ∷ 4 ∷ 5 ∷ 6 ∷ 7 ∷ 8 ∷ 9 ∷ 10 ∷ 2 ∷ []}
    (woven_so 11 ((0 ∷ 1 ∷ 2 ∷ []) ∷ (3 ∷ 4 ∷ 5 ∷ 6 ∷ 7 ∷ 2 ∷ []) ∷ (8 ∷ 9 ∷ 10 ∷ 2 ∷ []) ∷ []) (0 ∷ 1 ∷ 3 ∷ 4 ∷ 5 ∷ 6 ∷ 7 ∷ 8 ∷ 9 ∷ 10 ∷ 2 ∷ []) refl)
    (woven_and refl (an_event refl refl) (woven_and refl (an_event refl refl) (woven_and refl (an_event refl refl) (woven_and refl (an_event refl refl) (woven_and refl (an_event refl refl) (woven_and refl (an_event refl refl) (woven_and refl (an_event refl refl) (woven_and refl (an_event refl refl) (woven_and refl (an_event refl refl) (woven_and refl (an_event refl refl) (woven_and refl (an_inline refl (woven_operand_and (woven {order = 0 ∷ 1 ∷ 2 ∷ 3 ∷ 4 ∷ []} (woven_so 5 ((0 ∷ []) ∷ (1 ∷ 2 ∷ 3 ∷ []) ∷ (4 ∷ []) ∷ []) (0 ∷ 1 ∷ 2 ∷ 3 ∷ 4 ∷ []) refl) (woven_and refl (an_event refl refl) (woven_and refl (an_event refl refl) (woven_and refl (an_event refl refl) (woven_and refl (an_event refl refl) (woven_and refl (an_event refl refl) no_woven))))) (pairs_so _ _ ((0, 1) ∷ (3, 4) ∷ []) refl refl refl)) (woven_operand_and (woven {order = 0 ∷ 1 ∷ 2 ∷ 3 ∷ 4 ∷ []} (woven_so 5 ((0 ∷ []) ∷ (1 ∷ 2 ∷ 3 ∷ []) ∷ (4 ∷ []) ∷ []) (0 ∷ 1 ∷ 2 ∷ 3 ∷ 4 ∷ []) refl) (woven_and refl (an_event refl refl) (woven_and refl (an_event refl refl) (woven_and refl (an_event refl refl) (woven_and refl (an_event refl refl) (woven_and refl (an_event refl refl) no_woven))))) (pairs_so _ _ ((0, 1) ∷ (3, 4) ∷ []) refl refl refl)) no_woven_operand))) no_woven)))))))))))
    (pairs_so _ _ ((0, 2) ∷ (4, 7) ∷ (6, 1) ∷ (9, 5) ∷ []) refl refl refl)

pub call_is_woven : CallIsWoven
call_is_woven = record { name = refl; decls = refl; content = call_woven }

abbrev dialled : Derived (Finished table (codes "Call"))
dialled = record {
  of = _;
  is = record { chart = _; is = refl; unfolds = of_body (of_level no_ends (item_then single (item_then single (item_then single (item_then single (item_then single (item_then single (item_then single (item_then single (item_then single (item_then single (item_then (inline_part (alternative (this (of_level no_ends (item_then single (item_then single (item_then single (item_then single (item_then single no_item))))))))) no_item)))))))))))) };
}

abbrev hung_up : Derived (Finished table (codes "Call"))
hung_up = record {
  of = _;
  is = record { chart = _; is = refl; unfolds = of_body (of_level no_ends (item_then single (item_then single (item_then single (item_then single (item_then single (item_then single (item_then single (item_then single (item_then single (item_then single (item_then (inline_part (alternative (that (this (of_level no_ends (item_then single (item_then single (item_then single (item_then single (item_then single no_item)))))))))) no_item)))))))))))) };
}

-- what stands behind the ten events
abbrev choice_gates : Gates
choice_gates = gates_of call_items []

abbrev first_choice : Derived (OfItems table choice_gates (under no_gates) choice_items)
first_choice = record { of = _; is = item_then (inline_part (alternative (this (of_level no_ends (item_then single (item_then single (item_then single (item_then single (item_then single no_item))))))))) no_item }

abbrev second_choice : Derived (OfItems table choice_gates (under no_gates) choice_items)
second_choice = record { of = _; is = item_then (inline_part (alternative (that (this (of_level no_ends (item_then single (item_then single (item_then single (item_then single (item_then single no_item)))))))))) no_item }

choose : {v : Unfolding} → OfItems table choice_gates (under no_gates) choice_items v → (v ≡ first_choice.of) ⊎ (v ≡ second_choice.of)
choose (item_then (inline_part (alternative (this (of_level no_ends (item_then single (item_then single (item_then single (item_then single (item_then single no_item))))))))) no_item) = inl refl
choose (item_then (inline_part (alternative (that (this (of_level no_ends (item_then single (item_then single (item_then single (item_then single (item_then single no_item)))))))))) no_item) = inr refl
choose (item_then (inline_part (alternative (that (that x)))) no_item) = elim x [ ]

-- the whole level, by what stands behind its events
abbrev row_then : List EventNode → Unfolding → Unfolding
row_then [] v = v
row_then (n ∷ ns) v = join seq (one (happening [] (under no_gates) n)) (row_then ns v)

abbrev whole : Unfolding → Unfolding
whole v = bind (row_then (events call_items) v) (level_tie (ties call_items call_pairs [] []))

both_ways : (f : Unfolding → Unfolding) (v a b : Unfolding) → (v ≡ a) ⊎ (v ≡ b) → (f v ≡ f a) ⊎ (f v ≡ f b)
both_ways f v a b (inl e) = inl (ap f e)
both_ways f v a b (inr e) = inr (ap f e)

call_only : (u : Unfolding) → Finished table (codes "Call") u → (u ≡ dialled.of) ⊎ (u ≡ hung_up.of)
call_only u f = only (in_finished table (codes "Call") _ refl u f)
  where
    only : {u : Unfolding} → OfWoven table no_gates [] (Basic call) u → (u ≡ dialled.of) ⊎ (u ≡ hung_up.of)
    only (of_body (of_level no_ends (item_then single (item_then single (item_then single (item_then single (item_then single (item_then single (item_then single (item_then single (item_then single (item_then {v = v} single r)))))))))))) = both_ways whole v first_choice.of second_choice.of (choose r)

pub call_unfolds : CallUnfolds
call_unfolds = only_two dials hangs_up dialled hung_up call_only (drawn dials dialled.of refl refl) (drawn hangs_up hung_up.of refl refl)

pub call_conforms : CallConforms
call_conforms = run dialled (0 ∷ 2 ∷ 3 ∷ 4 ∷ 7 ∷ 8 ∷ 9 ∷ 5 ∷ 6 ∷ 1 ∷ 10 ∷ 11 ∷ 12 ∷ 13 ∷ 14 ∷ []) refl refl
