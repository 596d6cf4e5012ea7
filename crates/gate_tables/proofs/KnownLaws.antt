-- What is known of gates by the charts that are named is the facts of their inner events.
use Rattle.std.specs.Prelude.{◌≡◌, ℕ, Bool, true, false, List, [], ◌∷◌, Option}
use Rattle.std.specs.Str.{bytes_eq}
use Rattle.std.proofs.Common.{◌∙◌, refl, sym, ap}
use Rattle.msc_tree.specs.declared.reference.InlineForm.{InlineForm}
use Rattle.msc_tree.specs.declared.reference.InlineForm.TheVariants as inline
use Rattle.msc_tree.specs.declared.reference.Join.{Join}
use Rattle.msc_tree.specs.declared.reference.JoinEnd.{JoinEnd}
use Rattle.msc_tree.specs.declared.reference.JoinEnd.TheVariants as join_end
use Rattle.msc_tree.specs.Expressions.{Expression, Empty, Chart, Alt, Par, Seq, Opt, Loop, Expressions, none, more}
use Rattle.msc_meaning.specs.Bodies.{EventNode, Body, level, WovenItems, no_items, item_and, WovenItem, Single, Coregion, Inline, Refer, Bodies, no_bodies, body_and}
use Rattle.msc_meaning.specs.Calls.{Call, calls, is_called}
use Rattle.msc_meaning.specs.InnerEvents.{charts_in, charts_in_all, here}
use Rattle.gate_ends.specs.FoundEnds.{level_names, items_names, item_names, operands_names, AreAll, GateEvents, an_event, is_gate, is_name, beside, event_inner, events_inner, operand_beside, turned, expression_inner, choice_inner, parts_inner, joined_inner, joins_inner, level_inner, items_inner, item_inner, inline_inner, operands_inner, inner_of_item, inner_of}
use Rattle.gate_ends.proofs.FoundEnds.{all_left, all_right}
use Rattle.gate_tables.specs.GateFacts.{Facts, facts_of}
use Rattle.gate_tables.specs.KnownFacts.{event_known, events_known, goes_on, is_par, turned_known, expression_known, parts_known, joined_known, joins_known, level_known, items_known, item_known, operands_known, inline_known, item_of_known, known_of}
use Rattle.gate_tables.specs.Together.{facts_if, facts_unless, in_loop_facts, together}
use Rattle.gate_tables.proofs.FactLaws.{facts_both, facts_either, facts_event, facts_loop, facts_no, facts_these}

pub both_same : (b : Bool) {x y v w : Option Facts} → x ≡ v → y ≡ w → together b x y ≡ together b v w
both_same b {y = y} {v = v} p q = ap (λ (o : Option Facts). together b o y) p ∙ ap (together b v) q

event_is : (n : EventNode) (g : List ℕ) → event_known n g ≡ facts_of (event_inner n g)
event_is n g = ap (facts_if (is_gate n.event.target g)) (sym (facts_event (here n))) ∙ sym (facts_these (is_gate n.event.target g) (an_event (here n)))

events_are : (ns : List EventNode) (g : List ℕ) → events_known ns g ≡ facts_of (events_inner ns g)
events_are [] g = refl
events_are (n ∷ ns) g = both_same true (event_is n g) (events_are ns g) ∙ sym (facts_both (event_inner n g) (events_inner ns g))

beside_is : (x : WovenItem) (a b : GateEvents) → facts_of (beside x a b) ≡ together (goes_on x) (facts_of a) (facts_of b)
beside_is (Single n) a b = facts_both a b
beside_is (Coregion ns) a b = facts_both a b
beside_is (Inline inline.Alt part operands) a b = facts_both a b
beside_is (Inline inline.Opt part operands) a b = facts_both a b
beside_is (Inline inline.Par part operands) a b = facts_both a b
beside_is (Inline inline.Loop part operands) a b = facts_both a b
beside_is (Inline inline.Exc part operands) a b = facts_either a b
beside_is (Refer part) a b = facts_both a b

operand_is : (form : InlineForm) (a b : GateEvents) → facts_of (operand_beside form a b) ≡ together (is_par form) (facts_of a) (facts_of b)
operand_is inline.Alt a b = facts_either a b
operand_is inline.Opt a b = facts_either a b
operand_is inline.Par a b = facts_both a b
operand_is inline.Loop a b = facts_either a b
operand_is inline.Exc a b = facts_either a b

turned_is : (form : InlineForm) (a : GateEvents) → facts_of (turned form a) ≡ turned_known form (facts_of a)
turned_is inline.Alt a = refl
turned_is inline.Opt a = refl
turned_is inline.Par a = refl
turned_is inline.Loop a = facts_loop a
turned_is inline.Exc a = refl

module _ (known : List ℕ → List ℕ → Option Facts) (inner : List ℕ → List ℕ → GateEvents) where
  -- the facts of the chart's gates are known
  abbrev pub IsKnown : List ℕ → Type 0
  IsKnown name = (g : List ℕ) → known name g ≡ facts_of (inner name g)

  mutual
    pub expression_is : (e : Expression) (g : List ℕ) → AreAll IsKnown (charts_in e) → expression_known known e g ≡ facts_of (expression_inner inner e g)
    expression_is Empty g h = refl
    expression_is (Chart name) g h = h.0 g
    expression_is (Alt parts) g h = choice_is parts g h
    expression_is (Par parts) g h = parts_are parts g h
    expression_is (Seq parts) g h = parts_are parts g h
    expression_is (Opt part) g h = expression_is part g h
    expression_is (Loop lower upper part) g h = ap in_loop_facts (expression_is part g h) ∙ sym (facts_loop (expression_inner inner part g))

    choice_is : (es : Expressions) (g : List ℕ) → AreAll IsKnown (charts_in_all es) → parts_known known false es g ≡ facts_of (choice_inner inner es g)
    choice_is none g h = refl
    choice_is (more x xs) g h =
        both_same false (expression_is x g (all_left IsKnown (charts_in x) (charts_in_all xs) h)) (choice_is xs g (all_right IsKnown (charts_in x) (charts_in_all xs) h))
        ∙ sym (facts_either (expression_inner inner x g) (choice_inner inner xs g))

    parts_are : (es : Expressions) (g : List ℕ) → AreAll IsKnown (charts_in_all es) → parts_known known true es g ≡ facts_of (parts_inner inner es g)
    parts_are none g h = refl
    parts_are (more x xs) g h =
        both_same true (expression_is x g (all_left IsKnown (charts_in x) (charts_in_all xs) h)) (parts_are xs g (all_right IsKnown (charts_in x) (charts_in_all xs) h))
        ∙ sym (facts_both (expression_inner inner x g) (parts_inner inner xs g))

  joined_is : (e : Expression) (gate : List ℕ) (to : JoinEnd) (g : List ℕ) → AreAll IsKnown (charts_in e) → joined_known (expression_known known e) gate to g ≡ facts_of (joined_inner inner e gate to g)
  joined_is e gate (join_end.Env to) g h = ap (facts_if (bytes_eq to g)) (expression_is e gate h) ∙ sym (facts_these (bytes_eq to g) (expression_inner inner e gate))
  joined_is e gate (join_end.Reference name to) g h = refl

  joins_are : (e : Expression) (js : List Join) (g : List ℕ) → AreAll IsKnown (charts_in e) → joins_known (expression_known known e) js g ≡ facts_of (joins_inner inner e js g)
  joins_are e [] g h = refl
  joins_are e (j ∷ js) g h = both_same true (joined_is e j.gate j.to g h) (joins_are e js g h) ∙ sym (facts_both (joined_inner inner e j.gate j.to g) (joins_inner inner e js g))

  mutual
    pub level_is : (b : Body) (g : List ℕ) → AreAll IsKnown (level_names b) → level_known known b g ≡ facts_of (level_inner inner b g)
    level_is (level cover held pairs) g h = items_are (calls held) held g h

    items_are : (cs : List Call) (xs : WovenItems) (g : List ℕ) → AreAll IsKnown (items_names xs) → items_known known cs xs g ≡ facts_of (items_inner inner cs xs g)
    items_are cs no_items g h = refl
    items_are cs (item_and x xs) g h =
        both_same (goes_on x) (item_is cs x g (all_left IsKnown (item_names x) (items_names xs) h)) (items_are cs xs g (all_right IsKnown (item_names x) (items_names xs) h))
        ∙ sym (beside_is x (item_inner inner cs x g) (items_inner inner cs xs g))

    item_is : (cs : List Call) (x : WovenItem) (g : List ℕ) → AreAll IsKnown (item_names x) → item_known known cs x g ≡ facts_of (item_inner inner cs x g)
    item_is cs (Single n) g h = event_is n g
    item_is cs (Coregion ns) g h = events_are ns g
    item_is cs (Inline form part operands) g h =
        ap (λ (o : Option Facts). facts_unless (is_called cs part.name g) (turned_known form o)) (operands_are form operands g h)
        ∙ ap (facts_unless (is_called cs part.name g)) (sym (turned_is form (operands_inner inner form operands g)))
        ∙ sym (facts_no (is_called cs part.name g) (turned form (operands_inner inner form operands g)))
    item_is cs (Refer part) g h = joins_are part.expression part.joins g h

    operands_are : (form : InlineForm) (bs : Bodies) (g : List ℕ) → AreAll IsKnown (operands_names bs) → operands_known known form bs g ≡ facts_of (operands_inner inner form bs g)
    operands_are form no_bodies g h = refl
    operands_are form (body_and b bs) g h =
        both_same (is_par form) (level_is b g (all_left IsKnown (level_names b) (operands_names bs) h)) (operands_are form bs g (all_right IsKnown (level_names b) (operands_names bs) h))
        ∙ sym (operand_is form (level_inner inner b g) (operands_inner inner form bs g))

  inline_is : (form : InlineForm) (bs : Bodies) (g : List ℕ) → AreAll IsKnown (operands_names bs) → inline_known known form bs g ≡ facts_of (inline_inner inner form bs g)
  inline_is form bs g h = ap (turned_known form) (operands_are form bs g h) ∙ sym (turned_is form (operands_inner inner form bs g))

  item_of_is : (x : WovenItem) (name g : List ℕ) → AreAll IsKnown (item_names x) → item_of_known known x name g ≡ facts_of (inner_of_item inner x name g)
  item_of_is (Single n) name g h = refl
  item_of_is (Coregion ns) name g h = refl
  item_of_is (Inline form part operands) name g h = ap (facts_if (is_name part.name name)) (inline_is form operands g h) ∙ sym (facts_these (is_name part.name name) (inline_inner inner form operands g))
  item_of_is (Refer part) name g h = ap (facts_if (is_name part.name name)) (expression_is part.expression g h) ∙ sym (facts_these (is_name part.name name) (expression_inner inner part.expression g))

  pub of_items_is : (xs : WovenItems) (name g : List ℕ) → AreAll IsKnown (items_names xs) → known_of known xs name g ≡ facts_of (inner_of inner xs name g)
  of_items_is no_items name g h = refl
  of_items_is (item_and x xs) name g h =
      both_same true (item_of_is x name g (all_left IsKnown (item_names x) (items_names xs) h)) (of_items_is xs name g (all_right IsKnown (item_names x) (items_names xs) h))
      ∙ sym (facts_both (inner_of_item inner x name g) (inner_of inner xs name g))
