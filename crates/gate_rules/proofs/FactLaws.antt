-- What rules ask of the inner events of a gate, by what is known of them.
use Rattle.std.proofs.Common.{◌≡◌, ◌≤◌, ℕ, Bool, true, false, not, ◌||◌, ◌&&◌, nat_lt, List, [], ◌∷◌, length, Option, None, Some, option_map, refl, sym, ap, ap₂, ◌∙◌, arith}
use Rattle.std.proofs.lemmas.List.{length-append}
use Rattle.std.specs.List.{list_any}
use Rattle.std.specs.Option.{is_some}
use Rattle.msc_base.specs.declared.label.Kind.{Kind}
use Rattle.msc_base.specs.declared.label.Kind.TheVariants.{Output, Input, OutputLost, InputFound, Action, TimerStart, TimerStop, Timeout, Create}
use Rattle.msc_meaning.specs.Bodies.{EventNode}
use Rattle.msc_meaning.specs.InnerEvents.{InnerEvent}
use Rattle.gate_ends.specs.FoundEnds.{GateEvents, no_event, an_event, both, either, in_loop, listed, looped, most}
use Rattle.list_facts.proofs.Joining.{left_nil, right_nil}
use Rattle.gate_tables.specs.declared.facts.GateFacts.{GateFacts}
use Rattle.gate_tables.specs.FactViews.{facts_view}
use Rattle.gate_tables.specs.GateFacts.{Facts, all_inputs, all_outputs, facts_by, facts_of, has_other_text, is_among_events}
use Rattle.gate_tables.specs.MessageTexts.{MessageText, is_same_text, text_parts}
use Rattle.gate_tables.proofs.MessageLaws.{same_text}
use Rattle.msc_meaning.specs.Bodies.{WovenItems}
use Rattle.msc_meaning.specs.Tables.{Table}
use Rattle.msc_tree.specs.declared.reference.JoinEnd.{JoinEnd}
use Rattle.msc_tree.specs.declared.reference.JoinEnd.TheVariants as join_end
use Rattle.list_facts.proofs.Bools.{or_false}
use Rattle.gate_rules.specs.Callers.{far_gate, own_gate_of}
use Rattle.gate_rules.specs.GateRules.{Caller, by_event, by_join, GateName, answer, any_called, clash, goes_along, inner_at, is_empty, is_looped, is_several, is_split, joined_ways, splits, ways_differ}
use Rattle.gate_rules.specs.KnownGates.{along, answering, ends_found, found, lacks, own_called, some_end, tied_ways, ways_by, with_facts}
use Rattle.gate_rules.proofs.ClaimLaws.{called_by, called_is}

-- one branch has no more than there are
pub most_listed : (a : GateEvents) → most a ≤ length (listed a)
most_listed no_event = omega arith
most_listed (an_event e) = omega arith
most_listed (both a b) = omega (arith, most_listed a, most_listed b, length-append (listed a) (listed b))
most_listed (either a b) = omega (arith, most_listed a, most_listed b, length-append (listed a) (listed b))
most_listed (in_loop a) = most_listed a

-- those in loops are among them
pub looped_none : (a : GateEvents) → listed a ≡ [] → looped a ≡ []
looped_none no_event h = refl
looped_none (an_event e) h = refl
looped_none (both a b) h = cc (looped_none a (left_nil (listed a) (listed b) h), looped_none b (right_nil (listed a) (listed b) h))
looped_none (either a b) h = cc (looped_none a (left_nil (listed a) (listed b) h), looped_none b (right_nil (listed a) (listed b) h))
looped_none (in_loop a) h = h

pub lacks_is : (a : GateEvents) → lacks (Some (facts_of a)) ≡ is_empty a
lacks_is a = by (listed a)
  where
    by : (es : List InnerEvent) → lacks (Some (facts_by a es)) ≡ not (is_among_events es)
    by [] = refl
    by (e ∷ es) = refl

pub none_is : (o : Option GateFacts) (a : GateEvents) (b : Bool) → is_some o ≡ not b → option_map facts_view o ≡ facts_of a → b ≡ is_empty a
none_is None a true e h = ap (λ (f : Option Facts). lacks (Some f)) h ∙ lacks_is a
none_is None a false e h = cc
none_is (Some f) a true e h = cc
none_is (Some f) a false e h = ap (λ (g : Option Facts). lacks (Some g)) h ∙ lacks_is a

pub several_is : (a : GateEvents) → with_facts (λ f. f.several) (Some (facts_of a)) ≡ is_several a
several_is a = by (listed a) (most_listed a)
  where
    by : (es : List InnerEvent) → most a ≤ length es → with_facts (λ f. f.several) (Some (facts_by a es)) ≡ nat_lt 1 (most a)
    by [] low = let none : most a ≡ 0 = omega (arith, low) in ap (λ (n : ℕ). nat_lt 1 n) (sym none)
    by (e ∷ es) low = refl

pub split_is : (a : GateEvents) → with_facts (λ f. f.apart) (Some (facts_of a)) ≡ is_split a
split_is a = by (listed a)
  where
    by : (es : List InnerEvent) → with_facts (λ f. f.apart) (Some (facts_by a es)) ≡ splits es
    by [] = refl
    by (e ∷ es) = refl

pub looped_is : (a : GateEvents) → with_facts (λ f. f.looped) (Some (facts_of a)) ≡ is_looped a
looped_is a = by (listed a) refl
  where
    by : (es : List InnerEvent) → listed a ≡ es → with_facts (λ f. f.looped) (Some (facts_by a es)) ≡ is_among_events (looped a)
    by [] e = ap is_among_events (sym (looped_none a e))
    by (x ∷ es) e = refl

-- ---- texts and ways

-- another text than a given one
pub other_text : (text : MessageText) (e : InnerEvent) (es : List InnerEvent) → (not (is_same_text (text_parts e.node.event) text) || has_other_text (text_parts e.node.event) (e ∷ es)) ≡ has_other_text text (e ∷ es)
other_text text e es = by (is_same_text (text_parts e.node.event) text) refl
  where
    by : (b : Bool) → is_same_text (text_parts e.node.event) text ≡ b → (not b || has_other_text (text_parts e.node.event) (e ∷ es)) ≡ (not b || has_other_text text es)
    by true h =
        let same : text_parts e.node.event ≡ text = same_text (text_parts e.node.event) text h in
        ap (λ (t : MessageText). has_other_text t (e ∷ es)) same ∙ ap (λ (b : Bool). not b || has_other_text text es) h
    by false h = refl

pub along_is : (n : EventNode) (a : GateEvents) → with_facts (along n.event.kind (text_parts n.event)) (Some (facts_of a)) ≡ goes_along n (listed a)
along_is n a = by (listed a)
  where
    answers : (k : Kind) (e : InnerEvent) (es : List InnerEvent) → with_facts (answering k) (Some (facts_by a (e ∷ es))) ≡ answer k (e ∷ es)
    answers Output e es = refl
    answers Input e es = refl
    answers OutputLost e es = refl
    answers InputFound e es = refl
    answers Action e es = refl
    answers TimerStart e es = refl
    answers TimerStop e es = refl
    answers Timeout e es = refl
    answers Create e es = refl

    by : (es : List InnerEvent) → with_facts (along n.event.kind (text_parts n.event)) (Some (facts_by a es)) ≡ goes_along n es
    by [] = refl
    by (e ∷ es) = ap₂ (λ (a b : Bool). not a || b) (answers n.event.kind e es) (other_text (text_parts n.event) e es)

pub clash_is : (a b : GateEvents) → with_facts (λ f. with_facts (tied_ways f) (Some (facts_of b))) (Some (facts_of a)) ≡ clash (listed a) (listed b)
clash_is a b = by (listed a) (listed b)
  where
    by : (es fs : List InnerEvent) → with_facts (λ f. with_facts (tied_ways f) (Some (facts_by b fs))) (Some (facts_by a es)) ≡ clash es fs
    by [] [] = refl
    by [] (f ∷ fs) = refl
    by (e ∷ es) [] = refl
    by (e ∷ es) (f ∷ fs) =
        ap (λ (x : Bool). not ((all_outputs (e ∷ es) && all_inputs (f ∷ fs)) || (all_inputs (e ∷ es) && all_outputs (f ∷ fs))) || (has_other_text (text_parts e.node.event) (e ∷ es) || x)) (other_text (text_parts e.node.event) f fs)

-- ---- the gates that a caller calls

module _ (table : Table) (held : WovenItems) where
  -- a test of their inner events, by what is known of them
  pub called_by_facts : (test : GateEvents → Bool) (known : Option (Option Facts) → Bool) → known None ≡ false → ((a : GateEvents) → known (Some (facts_of a)) ≡ test a)
      → (c : Caller) → some_end known (ends_found table held c) ≡ any_called table held test c
  called_by_facts test known none some c =
      by (own_gate_of c) (far_gate c) ∙ ap (λ (xs : List GateName). list_any (λ x. test (inner_at table held x)) xs) (sym (called_is c))
    where
      one : (x : GateName) → known (Some (facts_of (inner_at table held x))) ≡ test (inner_at table held x)
      one x = some (inner_at table held x)

      by : (own far : Option GateName) → (known (found table held (own_called own far)) || known (found table held far)) ≡ list_any (λ x. test (inner_at table held x)) (called_by own far)
      by None None = ap₂ (λ a b. a || b) none none
      by (Some x) None = ap₂ (λ a b. a || b) none none
      by None (Some y) = ap₂ (λ a b. a || b) none (one y) ∙ sym (or_false (test (inner_at table held y)))
      by (Some x) (Some y) = ap₂ (λ a b. a || b) (one x) (one y) ∙ ap (λ b. test (inner_at table held x) || b) (sym (or_false (test (inner_at table held y))))

  pub ways_is : (c : Caller) → ways_by c (ends_found table held c) ≡ ways_differ table held c
  ways_is (by_event n name gate) = along_is n (inner_at table held (record { name = name; gate = gate }))
  ways_is (by_join part j) = by part.name j.to
    where
      by : (own : Option (List ℕ)) (to : JoinEnd) → ways_by (by_join (record part { name = own }) (record j { to = to })) (ends_found table held (by_join (record part { name = own }) (record j { to = to }))) ≡ joined_ways table held own j.gate to
      by None (join_end.Env to) = refl
      by None (join_end.Reference name to) = refl
      by (Some own) (join_end.Env to) = refl
      by (Some own) (join_end.Reference name to) = clash_is (inner_at table held (record { name = own; gate = j.gate })) (inner_at table held (record { name = name; gate = to }))
