-- The choices of the worked charts.
use Rattle.std.specs.Cmp.Lexicographic.{slice_cmp}
use Rattle.std.specs.List.Sorted.{IsStrictlySortedBy}
use Rattle.std.specs.Ordering.{nat_cmp}
use Rattle.std.specs.Prelude.{◌≡◌, ◌⊎◌, ℕ, suc, None, List, [], ◌∷◌, refl, true, false, codes}
use Rattle.std.proofs.Common.{inl, inr, subst, sym, arith}
use Rattle.std.proofs.lemmas.List.Sorted.{IsPermutation-refl}
use Rattle.msc_tree.specs.declared.event.Target.TheVariants.{Env}
use Rattle.msc_base.specs.Lists.{IsAmong}
use Rattle.msc_base.specs.Orders.{Among, first, later}
use Rattle.msc_base.specs.Patterns.{Position, seq, one, join, bind, empty, event_at}
use Rattle.msc_unfolding.specs.Unfoldings.{Own, Unfolding, level_tie, plain}
use Rattle.msc_meaning.specs.Bodies.{Single, WovenItems, items, level}
use Rattle.msc_meaning.specs.ChartUnfoldings.{item_then, no_item, single, under}
use Rattle.msc_meaning.specs.FarEnds.{happening, no_gates}
use Rattle.msc_meaning.specs.InnerEvents.{no_ends}
use Rattle.msc_meaning.specs.Tables.{Table}
use Rattle.msc_meaning.specs.WorkedCharts.{a, alternatives, b, i, j}
use Rattle.msc_meaning.specs.WorkedParts.{action, node, out, out_to, pair, somewhere, taken_in}
use Rattle.choice_meaning.specs.ChoiceLists.{AreMakersInOrder, by_one, by_several, no_choice}
use Rattle.choice_meaning.specs.Choices.{Choice, Operand, whole}
use Rattle.choice_meaning.specs.FirstInstances.{BeginsAt, IsFirst, IsMadeAt, OfOperand, of_operand}
use Rattle.choice_meaning.specs.WorkedChoices.{BothMakeIt, ExceptionIsMade, OneMakesIt, behind, exception, exception_body, an_action, of_two}

abbrev Names : Type 0
Names = List (List ℕ)

-- the instances of a choice of two operands are those of the one and of the other
module _ (table : Table) (c : Choice) (x y : Operand) (are : c.operands ≡ x ∷ y ∷ []) where
  of_both : (k : List ℕ) → IsMadeAt table c k → BeginsAt table x k ⊎ BeginsAt table y k
  of_both k h = by h.operand (subst (λ (os : List Operand). Among h.operand os) are h.among) h.begins
    where
      by : (o : Operand) → Among o (x ∷ y ∷ []) → BeginsAt table o k → BeginsAt table x k ⊎ BeginsAt table y k
      by _ first b = inl b
      by _ (later first) b = inr b
      by o (later (later a)) b = elim a [ ]

  by_first : (k : List ℕ) → BeginsAt table x k → IsMadeAt table c k
  by_first k b = record { operand = x; among = subst (λ (os : List Operand). Among x os) (sym are) first; begins = b }

  by_second : (k : List ℕ) → BeginsAt table y k → IsMadeAt table c k
  by_second k b = record { operand = y; among = subst (λ (os : List Operand). Among y os) (sym are) (later first); begins = b }

-- two names in order, and one
two_rise : IsStrictlySortedBy (slice_cmp nat_cmp) (i ∷ j ∷ [])
unfolding IsStrictlySortedBy
two_rise = ((refl, tt), (tt, tt))

one_rises : IsStrictlySortedBy (slice_cmp nat_cmp) (i ∷ [])
unfolding IsStrictlySortedBy
one_rises = (tt, tt)

-- where it is made at both, and nowhere else
two_makers : (table : Table) (c : Choice) → IsMadeAt table c i → IsMadeAt table c j → ((k : List ℕ) → IsMadeAt table c k → (i ≡ k) ⊎ (j ≡ k)) → AreMakersInOrder table c (i ∷ j ∷ [])
two_makers table c a b only = record { exact = λ k. (to k, from k); rising = two_rise }
  where
    to : (k : List ℕ) → IsAmong (i ∷ j ∷ []) k → IsMadeAt table c k
    to k (inl e) = subst (λ (n : List ℕ). IsMadeAt table c n) (sym e) a
    to k (inr (inl e)) = subst (λ (n : List ℕ). IsMadeAt table c n) (sym e) b
    to k (inr (inr h)) = absurd h

    from : (k : List ℕ) → IsMadeAt table c k → IsAmong (i ∷ j ∷ []) k
    from k h = elim (only k h) [ inl e ↦ inl (sym e) | inr e ↦ inr (inl (sym e)) ]

-- where it is made at one
one_maker : (table : Table) (c : Choice) → IsMadeAt table c i → ((k : List ℕ) → IsMadeAt table c k → i ≡ k) → AreMakersInOrder table c (i ∷ [])
one_maker table c a only = record { exact = λ k. (to k, λ h. inl (sym (only k h))); rising = one_rises }
  where
    to : (k : List ℕ) → IsAmong (i ∷ []) k → IsMadeAt table c k
    to k (inl e) = subst (λ (n : List ℕ). IsMadeAt table c n) (sym e) a
    to k (inr h) = absurd h

clash : {R : Type 0} → false ≡ true → R
clash e = absurd cc

-- ---- an operand of one action

module _ (table : Table) (number : ℕ) (at text : List ℕ) where
  -- its only event
  abbrev alone : Unfolding
  alone = bind (join seq (one (happening [] (under no_gates) (node number at (action text)))) empty) (level_tie [])

  nothing_before : IsFirst alone (inl tt)
  nothing_before (inl q) (inl b) = b
  nothing_before (inl q) (inr e) = clash e
  nothing_before (inr q) b = absurd q

  action_begins : BeginsAt table (whole (an_action number at text)) at
  action_begins = by (of_operand no_ends (item_then single no_item))
    where
      by : {u : Unfolding} → OfOperand table (whole (an_action number at text)) u → BeginsAt table (whole (an_action number at text)) at
      by (of_operand no_ends (item_then single no_item)) = record { of = _; is = of_operand no_ends (item_then single no_item); position = inl tt; first = nothing_before; at = refl }

  action_only : (k : List ℕ) → BeginsAt table (whole (an_action number at text)) k → at ≡ k
  action_only k b = by b.is b.position b.at
    where
      by : {u : Unfolding} → OfOperand table (whole (an_action number at text)) u → (p : Position u) → (event_at plain u p).label.at ≡ k → at ≡ k
      by (of_operand no_ends (item_then single no_item)) (inl p) e = e
      by (of_operand no_ends (item_then single no_item)) (inr p) e = absurd p

-- ---- an alternative that both instances make

abbrev two_actions : Choice
two_actions = record { place = behind 22; operands = whole (an_action 0 i (codes "'a'")) ∷ whole (an_action 1 j (codes "'b'")) ∷ [] }

pub both_make_it : BothMakeIt
both_make_it = record {
  chart = _;
  is = refl;
  made = _;
  are = by_several (two_makers of_two two_actions at_i at_j only) (omega arith) no_choice;
  same = IsPermutation-refl _;
  ordered = ((λ n h. elim h [ ]), tt);
}
  where
    at_i : IsMadeAt of_two two_actions i
    at_i = by_first of_two two_actions _ _ refl i (action_begins of_two 0 i (codes "'a'"))

    at_j : IsMadeAt of_two two_actions j
    at_j = by_second of_two two_actions _ _ refl j (action_begins of_two 1 j (codes "'b'"))

    only : (k : List ℕ) → IsMadeAt of_two two_actions k → (i ≡ k) ⊎ (j ≡ k)
    only k h = elim (of_both of_two two_actions _ _ refl k h) [ inl b ↦ inl (action_only of_two 0 i (codes "'a'") k b) | inr b ↦ inr (action_only of_two 1 j (codes "'b'") k b) ]

-- ---- one that a single instance makes

abbrev two_outputs : List ℕ → ℕ → Operand
two_outputs text n = whole (level (i ∷ []) (items (Single (node n i (out_to a (Env None))) ∷ Single (node (suc n) i (out_to text (Env None))) ∷ [])) [])

abbrev of_one : Choice
of_one = record { place = somewhere; operands = two_outputs b 0 ∷ two_outputs (codes "c") 2 ∷ [] }

outputs_begin : (text : List ℕ) (n : ℕ) → BeginsAt alternatives (two_outputs text n) i
outputs_begin text n = record { of = outputs; is = of_operand no_ends (item_then single (item_then single no_item)); position = inl tt; first = nothing_earlier; at = refl }
  where
    outputs : Unfolding
    outputs = bind (join seq (one (happening [] (under no_gates) (node n i (out_to a (Env None))))) (join seq (one (happening [] (under no_gates) (node (suc n) i (out_to text (Env None))))) empty)) (level_tie [])

    nothing_earlier : IsFirst outputs (inl tt)
    nothing_earlier (inl q) (inl b) = b
    nothing_earlier (inl q) (inr e) = clash e
    nothing_earlier (inr (inl q)) (inl b) = b
    nothing_earlier (inr (inl q)) (inr e) = clash e
    nothing_earlier (inr (inr q)) b = absurd q

outputs_only : (text : List ℕ) (n : ℕ) (k : List ℕ) → BeginsAt alternatives (two_outputs text n) k → i ≡ k
outputs_only text n k b = by b.is b.position b.at
  where
    by : {u : Unfolding} → OfOperand alternatives (two_outputs text n) u → (p : Position u) → (event_at plain u p).label.at ≡ k → i ≡ k
    by (of_operand no_ends (item_then single (item_then single no_item))) (inl p) e = e
    by (of_operand no_ends (item_then single (item_then single no_item))) (inr (inl p)) e = e
    by (of_operand no_ends (item_then single (item_then single no_item))) (inr (inr p)) e = absurd p

pub one_makes_it : OneMakesIt
one_makes_it = record {
  chart = _;
  is = refl;
  made = _;
  are = by_one (one_maker alternatives of_one (by_first alternatives of_one _ _ refl i (outputs_begin b 0)) only) (omega arith) no_choice;
  same = IsPermutation-refl _;
  ordered = tt;
}
  where
    only : (k : List ℕ) → IsMadeAt alternatives of_one k → i ≡ k
    only k h = elim (of_both alternatives of_one _ _ refl k h) [ inl m ↦ outputs_only b 0 k m | inr m ↦ outputs_only (codes "c") 2 k m ]

-- ---- an exception

abbrev exception_items : WovenItems
exception_items = (whole exception_body).held

abbrev message_behind : Operand
message_behind = record { held = exception_items; pairs = pair 2 3 ∷ []; taken = items (Single (node 2 i (out a j)) ∷ Single (node 3 j (taken_in a i)) ∷ []) }

abbrev or_message : Choice
or_message = record { place = behind 37; operands = whole (an_action 1 j (codes "'x'")) ∷ message_behind ∷ [] }

message_begins : BeginsAt exception message_behind i
message_begins = record { of = message; is = of_operand no_ends (item_then single (item_then single no_item)); position = inl tt; first = nothing_earlier; at = refl }
  where
    message : Unfolding
    message = bind (join seq (one (happening [] (under no_gates) (node 2 i (out a j)))) (join seq (one (happening [] (under no_gates) (node 3 j (taken_in a i)))) empty)) (level_tie ((Own 2, Own 3) ∷ []))

    nothing_earlier : IsFirst message (inl tt)
    nothing_earlier (inl q) (inl b) = b
    nothing_earlier (inl q) (inr e) = clash e
    nothing_earlier (inr (inl q)) (inl b) = b
    nothing_earlier (inr (inl q)) (inr e) = clash e
    nothing_earlier (inr (inr q)) b = absurd q

-- the input waits for the output
message_only : (k : List ℕ) → BeginsAt exception message_behind k → i ≡ k
message_only k b = by b.is b.position b.first b.at
  where
    by : {u : Unfolding} → OfOperand exception message_behind u → (p : Position u) → IsFirst u p → (event_at plain u p).label.at ≡ k → i ≡ k
    by (of_operand no_ends (item_then single (item_then single no_item))) (inl p) f e = e
    by (of_operand no_ends (item_then single (item_then single no_item))) (inr (inl p)) f e = absurd (f (inl tt) (inr refl))
    by (of_operand no_ends (item_then single (item_then single no_item))) (inr (inr p)) f e = absurd p

pub exception_is_made : ExceptionIsMade
exception_is_made = record {
  chart = _;
  is = refl;
  made = _;
  are = by_several (two_makers exception or_message at_i at_j only) (omega arith) no_choice;
  same = IsPermutation-refl _;
  ordered = ((λ n h. elim h [ ]), tt);
}
  where
    at_i : IsMadeAt exception or_message i
    at_i = by_second exception or_message _ _ refl i message_begins

    at_j : IsMadeAt exception or_message j
    at_j = by_first exception or_message _ _ refl j (action_begins exception 1 j (codes "'x'"))

    only : (k : List ℕ) → IsMadeAt exception or_message k → (i ≡ k) ⊎ (j ≡ k)
    only k h = elim (of_both exception or_message _ _ refl k h) [ inl m ↦ inr (action_only exception 1 j (codes "'x'") k m) | inr m ↦ inl (message_only k m) ]
