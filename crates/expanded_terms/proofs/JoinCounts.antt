-- No more numbers have the tag of a gate than the gate has inner events, which are those of the whole body where instances are decomposed.
-- So the joins of a reference come to no more by tags than by inner events that are counted in the table, and neither does the size of a
-- chart.
use Rattle.std.specs.Prelude.{ℕ, zero, suc, ◌+◌, ◌≤◌, Bool, true, false, ◌&&◌, List, [], ◌∷◌, ◌++◌, Option, None, Some, length}
use Rattle.std.specs.Str.{bytes_eq}
use Rattle.std.proofs.Common.{◌≡◌, refl, sym, ◌∙◌, ap, subst, arith, length-append}
use Rattle.std.proofs.lemmas.Nat.{mul-le}
use Rattle.std.proofs.lemmas.Slice.Eq.{bytes_eq-Decides}
use Rattle.msc_unfolding.specs.Unfoldings.{Tag, Own, Via, On, past_level}
use Rattle.term_meaning.specs.Portions.{Shown, shown_at, past_shown}
use Rattle.msc_tree.specs.declared.event.Target.{Target}
use Rattle.msc_tree.specs.declared.event.Target.TheVariants as target
use Rattle.msc_tree.specs.declared.reference.InlineForm.{InlineForm}
use Rattle.msc_tree.specs.declared.reference.InlineForm.TheVariants as inline
use Rattle.msc_tree.specs.declared.reference.Join.{Join}
use Rattle.msc_tree.specs.declared.reference.JoinEnd.{JoinEnd}
use Rattle.msc_tree.specs.declared.reference.JoinEnd.TheVariants as join_end
use Rattle.msc_tree.specs.Expressions.{Expression, Empty, Chart, Alt, Par, Seq, Opt, Expressions, none, more}
use Rattle.msc_tree.specs.Expressions as expression
use Rattle.msc_tree.specs.Graphs as tree
use Rattle.msc_tree.specs.Graphs.{graph, Lines, no_lines, line_and, line, Node, Ends, Connect, Condition, Frames, Graphs, no_graphs, graph_and}
use Rattle.msc_meaning.specs.Bodies.{EventNode, ReferencePart, Body, level, WovenItems, no_items, item_and, WovenItem, Single, Coregion, Inline, Refer, Bodies, no_bodies, body_and}
use Rattle.msc_meaning.specs.Calls.{Call, calls, is_called, passed_to}
use Rattle.msc_meaning.specs.FarEnds.{gate_tags}
use Rattle.msc_meaning.specs.InnerEvents.{GateEnd, here}
use Rattle.msc_meaning.specs.Tables.{Table, ChartEntry, chart_at, body_at, body_in, Woven, Basic, HighLevel, Refinement, refinements}
use Rattle.msc_meaning.specs.Ties.{called_tag, past_inline, via_list, past_reference}
use Rattle.gate_ends.specs.FoundEnds.{GateEvents, no_event, an_event, both, either, in_loop, listed, event_count, seen_in, is_gate, is_name, these_if, unless, beside, operand_beside, turned, event_inner, events_inner, expression_inner, choice_inner, parts_inner}
use Rattle.gate_ends.specs.FoundEnds.{joined_inner, joins_inner, level_inner, items_inner, item_inner, operands_inner, inline_inner, inner_of_item, inner_of, body_inner, inner_to}
use Rattle.gate_ends.specs.JoinCounts.{join_count, joins_count, reference_count}
use Rattle.chart_forms.specs.TableSizes.{lines_size, node_size, graphs_size, expression_size, expressions_size, level_size, items_size, item_size, operands_size, body_size, refined_size, woven_size, entry_size, size_to}
use Rattle.expanded_terms.specs.ExpandedTerms.{Leaves, Charts, charts_to, entry_shown, event_shown, events_shown, expression_shown, expressions_shown, level_shown, items_shown, item_shown, operands_shown, refined_shown, woven_shown, expression_count, item_count, level_count}
use Rattle.expanded_terms.specs.JoinProducts.{AreFewLines, IsFewNode, AreFewFrames, often, join_product, joins_product, product_in, IsFewExpression, AreFewExpressions, IsFewLevel, AreFewItems, IsFewItem, AreFewOperands, IsFewBody, AreFewRefined, IsFewWoven, IsFewEntry, IsFewTo}
use Rattle.expanded_terms.specs.TagNumbers.{number_if}
use Rattle.expanded_terms.proofs.DecomposedOnce.{DecomposeOnce, decompose_once}
use Rattle.expanded_terms.proofs.FewPairs.{often_both}
use Rattle.expanded_terms.proofs.RefinedCounts.{only_if, only_both, refined_often}
use Rattle.expanded_terms.proofs.ShownAnywhere.{tags, charts_same}

-- ---- inner events, counted

beside_count : (x : WovenItem) (a b : GateEvents) → event_count (beside x a b) ≡ event_count a + event_count b
beside_count (Single n) a b = length-append (listed a) (listed b)
beside_count (Coregion ns) a b = length-append (listed a) (listed b)
beside_count (Inline inline.Alt part operands) a b = length-append (listed a) (listed b)
beside_count (Inline inline.Opt part operands) a b = length-append (listed a) (listed b)
beside_count (Inline inline.Par part operands) a b = length-append (listed a) (listed b)
beside_count (Inline inline.Loop part operands) a b = length-append (listed a) (listed b)
beside_count (Inline inline.Exc part operands) a b = length-append (listed a) (listed b)
beside_count (Refer part) a b = length-append (listed a) (listed b)

operand_count : (form : InlineForm) (a b : GateEvents) → event_count (operand_beside form a b) ≡ event_count a + event_count b
operand_count inline.Alt a b = length-append (listed a) (listed b)
operand_count inline.Opt a b = length-append (listed a) (listed b)
operand_count inline.Par a b = length-append (listed a) (listed b)
operand_count inline.Loop a b = length-append (listed a) (listed b)
operand_count inline.Exc a b = length-append (listed a) (listed b)

turned_count : (form : InlineForm) (a : GateEvents) → event_count (turned form a) ≡ event_count a
turned_count inline.Alt a = refl
turned_count inline.Opt a = refl
turned_count inline.Par a = refl
turned_count inline.Loop a = refl
turned_count inline.Exc a = refl

seen_count : (name : List ℕ) (a : GateEvents) → event_count (seen_in name a) ≡ event_count a
seen_count name no_event = refl
seen_count name (an_event e) = refl
seen_count name (both a b) = omega (arith, length-append (listed (seen_in name a)) (listed (seen_in name b)), length-append (listed a) (listed b), seen_count name a, seen_count name b)
seen_count name (either a b) = omega (arith, length-append (listed (seen_in name a)) (listed (seen_in name b)), length-append (listed a) (listed b), seen_count name a, seen_count name b)
seen_count name (in_loop a) = seen_count name a

-- ---- numbers with a tag, above what changes tags

past_most : (t u : Tag) (f : Tag → List Tag) → ((n : ℕ) (a : Tag) → often t (shown_at n (f a)) ≤ often u ((n, a) ∷ [])) → (sh : Shown) → often t (past_shown f sh) ≤ often u sh
past_most t u f h [] = omega arith
past_most t u f h (p ∷ sh) = omega (arith, often_both t (shown_at p.0 (f p.1)) (past_shown f sh), often_both u (p ∷ []) sh, h p.0 p.1, past_most t u f h sh)

past_none : (t : Tag) (f : Tag → List Tag) → ((n : ℕ) (a : Tag) → often t (shown_at n (f a)) ≡ 0) → (sh : Shown) → often t (past_shown f sh) ≡ 0
past_none t f h [] = refl
past_none t f h (p ∷ sh) = omega (arith, often_both t (shown_at p.0 (f p.1)) (past_shown f sh), h p.0 p.1, past_none t f h sh)

level_past : (g : List ℕ) (n : ℕ) (a : Tag) → often (Via g) (shown_at n (past_level a)) ≤ often (Via g) ((n, a) ∷ [])
level_past g n (Own k) = omega arith
level_past g n (Via f) = omega arith
level_past g n (On z f) = omega arith

-- a called gate's tag is no gate of the level
called_via : (b : Bool) (own : Option (List ℕ)) (g : List ℕ) (n : ℕ) (f : List ℕ) (others : List Tag) → often (Via g) (shown_at n (called_tag b own f others)) ≤ often (Via g) (shown_at n others)
called_via true (Some o) g n f others = omega arith
called_via true None g n f others = omega arith
called_via false own g n f others = omega arith

called_away : (cs : List Call) (own : Option (List ℕ)) (g : List ℕ) (n : ℕ) → is_called cs own g ≡ true → often (Via g) (shown_at n (called_tag (is_called cs own g) own g (Via g ∷ []))) ≡ 0
called_away cs None g n e = absurd cc
called_away cs (Some o) g n e = ap (λ b. often (Via g) (shown_at n (called_tag b (Some o) g (Via g ∷ [])))) e

inline_via : (cs : List Call) (own : Option (List ℕ)) (g : List ℕ) (n : ℕ) (a : Tag) → often (Via g) (shown_at n (past_inline cs own a)) ≤ often (Via g) ((n, a) ∷ [])
inline_via cs own g n (Own k) = omega arith
inline_via cs own g n (Via f) = called_via (is_called cs own f) own g n f (Via f ∷ [])
inline_via cs own g n (On z f) = omega arith

inline_away : (cs : List Call) (own : Option (List ℕ)) (g : List ℕ) → is_called cs own g ≡ true → (n : ℕ) (a : Tag) → often (Via g) (shown_at n (past_inline cs own a)) ≡ 0
inline_away cs own g e n (Own k) = refl
inline_away cs own g e n (On z f) = refl
inline_away cs own g e n (Via f) = by (bytes_eq f g) refl
  where
    by : (b : Bool) → bytes_eq f g ≡ b → often (Via g) (shown_at n (past_inline cs own (Via f))) ≡ 0
    by true q = subst (λ (h : List ℕ). often (Via g) (shown_at n (called_tag (is_called cs own h) own h (Via h ∷ []))) ≡ 0) (sym ((bytes_eq-Decides f g).0 q)) (called_away cs own g n e)
    by false q = omega (arith, called_via (is_called cs own f) own g n f (Via f ∷ []), ap (λ b. length (number_if b n [])) q)

inline_left : (cs : List Call) (own : Option (List ℕ)) (g : List ℕ) (sh : Shown) (a : GateEvents) → often (Via g) sh ≤ event_count a → often (Via g) (past_shown (past_inline cs own) sh) ≤ event_count (unless (is_called cs own g) a)
inline_left cs own g sh a l = by (is_called cs own g) refl
  where
    by : (b : Bool) → is_called cs own g ≡ b → often (Via g) (past_shown (past_inline cs own) sh) ≤ event_count (unless b a)
    by true e = omega (arith, past_none (Via g) (past_inline cs own) (inline_away cs own g e) sh)
    by false e = omega (arith, past_most (Via g) (Via g) (past_inline cs own) (inline_via cs own g) sh, l)

-- of a gate of a reference or an inline expression
both_if : (b c : Bool) (n : ℕ) → length (number_if (b && c) n []) ≤ length (number_if c n [])
both_if true c n = omega arith
both_if false c n = omega arith

module _ (name g : List ℕ) where
  called_on : (b : Bool) (own : Option (List ℕ)) (n : ℕ) (f : List ℕ) (others : List Tag) → often (On name g) (shown_at n others) ≡ 0 → often (On name g) (shown_at n (called_tag b own f others)) ≤ often (Via g) ((n, Via f) ∷ [])
  called_on true (Some o) n f others e = both_if (bytes_eq o name) (bytes_eq f g) n
  called_on true None n f others e = omega (arith, e)
  called_on false own n f others e = omega (arith, e)

  other_called : (b : Bool) (own : Option (List ℕ)) (n : ℕ) (f : List ℕ) (others : List Tag) → is_name own name ≡ false → often (On name g) (shown_at n others) ≡ 0 → often (On name g) (shown_at n (called_tag b own f others)) ≡ 0
  other_called true (Some o) n f others q e = ap (λ b. length (number_if (b && bytes_eq f g) n [])) q
  other_called true None n f others q e = e
  other_called false own n f others q e = e

  via_on : (n : ℕ) (o : Option (List ℕ)) → often (On name g) (shown_at n (via_list o)) ≡ 0
  via_on n None = refl
  via_on n (Some f) = refl

  inline_on : (cs : List Call) (own : Option (List ℕ)) (n : ℕ) (a : Tag) → often (On name g) (shown_at n (past_inline cs own a)) ≤ often (Via g) ((n, a) ∷ [])
  inline_on cs own n (Own k) = omega arith
  inline_on cs own n (Via f) = called_on (is_called cs own f) own n f (Via f ∷ []) refl
  inline_on cs own n (On z f) = omega arith

  other_inline : (cs : List Call) (own : Option (List ℕ)) → is_name own name ≡ false → (n : ℕ) (a : Tag) → often (On name g) (shown_at n (past_inline cs own a)) ≡ 0
  other_inline cs own q n (Own k) = refl
  other_inline cs own q n (Via f) = other_called (is_called cs own f) own n f (Via f ∷ []) q refl
  other_inline cs own q n (On z f) = refl

  reference_on : (cs : List Call) (own : Option (List ℕ)) (js : List Join) (n : ℕ) (a : Tag) → often (On name g) (shown_at n (past_reference cs own js a)) ≤ often (Via g) ((n, a) ∷ [])
  reference_on cs own js n (Own k) = omega arith
  reference_on cs own js n (Via f) = called_on (is_called cs own f) own n f (via_list (passed_to js f)) (via_on n (passed_to js f))
  reference_on cs own js n (On z f) = omega arith

  other_reference : (cs : List Call) (own : Option (List ℕ)) (js : List Join) → is_name own name ≡ false → (n : ℕ) (a : Tag) → often (On name g) (shown_at n (past_reference cs own js a)) ≡ 0
  other_reference cs own js q n (Own k) = refl
  other_reference cs own js q n (Via f) = other_called (is_called cs own f) own n f (via_list (passed_to js f)) q (via_on n (passed_to js f))
  other_reference cs own js q n (On z f) = refl

  -- past: what becomes of tags above an item of that name, or of another
  past_on : (own : Option (List ℕ)) (past : Tag → List Tag) → ((n : ℕ) (a : Tag) → often (On name g) (shown_at n (past a)) ≤ often (Via g) ((n, a) ∷ [])) → (is_name own name ≡ false → (n : ℕ) (a : Tag) → often (On name g) (shown_at n (past a)) ≡ 0)
      → (sh : Shown) (a : GateEvents) → often (Via g) sh ≤ event_count a → often (On name g) (past_shown past sh) ≤ event_count (these_if (is_name own name) a)
  past_on own past most other sh a l = by (is_name own name) refl
    where
      by : (b : Bool) → is_name own name ≡ b → often (On name g) (past_shown past sh) ≤ event_count (these_if b a)
      by true e = omega (arith, past_most (On name g) (Via g) past most sh, l)
      by false e = omega (arith, past_none (On name g) past (other e) sh)

-- ---- gates that joins hand on

-- how many numbers come to that gate of the level by the join
abbrev passed_by : JoinEnd → List ℕ → List ℕ → Shown → ℕ
passed_by (join_end.Env to) gate g sh = only_if (bytes_eq to g) (often (Via gate) sh)
passed_by (join_end.Reference name to) gate g sh = 0

abbrev passed : List Join → List ℕ → Shown → ℕ
passed [] g sh = 0
passed (j ∷ js) g sh = passed_by j.to j.gate g sh + passed js g sh

by_both : (to : JoinEnd) (gate g : List ℕ) (a b : Shown) → passed_by to gate g (a ++ b) ≡ passed_by to gate g a + passed_by to gate g b
by_both (join_end.Env to) gate g a b = ap (only_if (bytes_eq to g)) (often_both (Via gate) a b) ∙ only_both (bytes_eq to g) (often (Via gate) a) (often (Via gate) b)
by_both (join_end.Reference name to) gate g a b = omega arith

passed_both : (js : List Join) (g : List ℕ) (a b : Shown) → passed js g (a ++ b) ≡ passed js g a + passed js g b
passed_both [] g a b = omega arith
passed_both (j ∷ js) g a b = omega (arith, by_both j.to j.gate g a b, passed_both js g a b)

one_if : (b : Bool) (n : ℕ) → length (number_if b n []) ≡ only_if b 1
one_if true n = refl
one_if false n = refl

passed_once : (js : List Join) (f g : List ℕ) (n : ℕ) → often (Via g) (shown_at n (via_list (passed_to js f))) ≤ passed js g ((n, Via f) ∷ [])
passed_once [] f g n = omega arith
passed_once (j ∷ js) f g n = by (bytes_eq j.gate f) j.to refl refl (passed_once js f g n)
  where
    by : (b : Bool) (t : JoinEnd) → bytes_eq j.gate f ≡ b → j.to ≡ t → often (Via g) (shown_at n (via_list (passed_to js f))) ≤ passed js g ((n, Via f) ∷ [])
        → often (Via g) (shown_at n (via_list (passed_to (j ∷ js) f))) ≤ passed (j ∷ js) g ((n, Via f) ∷ [])
    by true (join_end.Env to) q r rest =
        let here : passed_to (j ∷ js) f ≡ Some to = rw q (rw r refl) in
        let gate : j.gate ≡ f = (bytes_eq-Decides j.gate f).0 q in
        let own : often (Via j.gate) ((n, Via f) ∷ []) ≡ 1 = ap (λ b. length (number_if b n [])) ((bytes_eq-Decides f j.gate).1 (sym gate)) in
        let once : passed_by j.to j.gate g ((n, Via f) ∷ []) ≡ only_if (bytes_eq to g) 1 = ap (λ (t : JoinEnd). passed_by t j.gate g ((n, Via f) ∷ [])) r ∙ ap (only_if (bytes_eq to g)) own in
        omega (arith, ap (λ o. often (Via g) (shown_at n (via_list o))) here, one_if (bytes_eq to g) n, once)
    by true (join_end.Reference name to) q r rest =
        let there : passed_to (j ∷ js) f ≡ passed_to js f = rw q (rw r refl) in
        omega (arith, ap (λ o. often (Via g) (shown_at n (via_list o))) there, rest)
    by false t q r rest =
        let there : passed_to (j ∷ js) f ≡ passed_to js f = rw q refl in
        omega (arith, ap (λ o. often (Via g) (shown_at n (via_list o))) there, rest)

reference_via : (cs : List Call) (own : Option (List ℕ)) (js : List Join) (g : List ℕ) (n : ℕ) (a : Tag) → often (Via g) (shown_at n (past_reference cs own js a)) ≤ passed js g ((n, a) ∷ [])
reference_via cs own js g n (Own k) = omega arith
reference_via cs own js g n (Via f) = omega (arith, called_via (is_called cs own f) own g n f (via_list (passed_to js f)), passed_once js f g n)
reference_via cs own js g n (On z f) = omega arith

reference_passed : (cs : List Call) (own : Option (List ℕ)) (js : List Join) (g : List ℕ) (sh : Shown) → often (Via g) (past_shown (past_reference cs own js) sh) ≤ passed js g sh
reference_passed cs own js g [] = omega arith
reference_passed cs own js g (p ∷ sh) =
    omega (arith, often_both (Via g) (shown_at p.0 (past_reference cs own js p.1)) (past_shown (past_reference cs own js) sh), passed_both js g (p ∷ []) sh, reference_via cs own js g p.0 p.1, reference_passed cs own js g sh)

these_most : (b : Bool) (n : ℕ) (a : GateEvents) → n ≤ event_count a → only_if b n ≤ event_count (these_if b a)
these_most true n a l = l
these_most false n a l = omega arith

module _ (chart_inner : List ℕ → List ℕ → GateEvents) (e : Expression) (sh : Shown) (most : (f : List ℕ) → often (Via f) sh ≤ event_count (expression_inner chart_inner e f)) where
  by_most : (to : JoinEnd) (gate g : List ℕ) → passed_by to gate g sh ≤ event_count (joined_inner chart_inner e gate to g)
  by_most (join_end.Env to) gate g = these_most (bytes_eq to g) (often (Via gate) sh) (expression_inner chart_inner e gate) (most gate)
  by_most (join_end.Reference name to) gate g = omega arith

  joins_most : (js : List Join) (g : List ℕ) → passed js g sh ≤ event_count (joins_inner chart_inner e js g)
  joins_most [] g = omega arith
  joins_most (j ∷ js) g = omega (arith, length-append (listed (joined_inner chart_inner e j.gate j.to g)) (listed (joins_inner chart_inner e js g)), by_most j.to j.gate g, joins_most js g)

-- ---- events

number_these : (b : Bool) (n : ℕ) (k : EventNode) → length (number_if b n []) ≤ event_count (these_if b (an_event (here k)))
number_these true n k = omega arith
number_these false n k = omega arith

target_via : (t : Target) (g : List ℕ) (n : ℕ) (k : EventNode) → often (Via g) (shown_at n (gate_tags t)) ≤ event_count (these_if (is_gate t g) (an_event (here k)))
target_via (target.Env (Some f)) g n k = number_these (bytes_eq f g) n k
target_via (target.Env None) g n k = omega arith
target_via target.Nobody g n k = omega arith
target_via (target.Instance far) g n k = omega arith
target_via (target.Gate name gate) g n k = omega arith

target_on : (t : Target) (name g : List ℕ) (n : ℕ) → often (On name g) (shown_at n (gate_tags t)) ≡ 0
target_on (target.Env (Some f)) name g n = refl
target_on (target.Env None) name g n = refl
target_on target.Nobody name g n = refl
target_on (target.Instance far) name g n = refl
target_on (target.Gate z gate) name g n = refl

-- ---- levels, where so few numbers have the tags of the gates of the charts that they name

module _ (charts : Charts) (chart_inner : List ℕ → List ℕ → GateEvents) (Few : List ℕ → Type 0) (known : (name : List ℕ) (n : ℕ) (g : List ℕ) → Few name → often (Via g) (charts.shown name n) ≤ event_count (chart_inner name g)) where
  event_via : (g : List ℕ) (n : ℕ) (k : EventNode) → often (Via g) (event_shown charts n k) ≤ event_count (event_inner k g)
  event_via g n k = target_via k.event.target g n k

  events_via : (g : List ℕ) (n : ℕ) (ks : List EventNode) → often (Via g) (events_shown charts n ks) ≤ event_count (events_inner ks g)
  events_via g n [] = omega arith
  events_via g n (k ∷ ks) = omega (arith, often_both (Via g) (event_shown charts n k) (events_shown charts (n + 1) ks), length-append (listed (event_inner k g)) (listed (events_inner ks g)), event_via g n k, events_via g (n + 1) ks)

  mutual
    expression_via : (g : List ℕ) (n : ℕ) (e : Expression) → IsFewExpression Few e → often (Via g) (expression_shown charts n e) ≤ event_count (expression_inner chart_inner e g)
    expression_via g n Empty h = omega arith
    expression_via g n (Chart name) h = known name n g h
    expression_via g n (Alt parts) h = choice_via g n parts h
    expression_via g n (Par parts) h = parts_via g n parts h
    expression_via g n (Seq parts) h = parts_via g n parts h
    expression_via g n (Opt part) h = expression_via g n part h
    expression_via g n (expression.Loop lower upper part) h = expression_via g n part h

    choice_via : (g : List ℕ) (n : ℕ) (xs : Expressions) → AreFewExpressions Few xs → often (Via g) (expressions_shown charts n xs) ≤ event_count (choice_inner chart_inner xs g)
    choice_via g n none h = omega arith
    choice_via g n (more x xs) (h, i) =
        omega (arith, often_both (Via g) (expression_shown charts n x) (expressions_shown charts (n + expression_count charts x) xs), length-append (listed (expression_inner chart_inner x g)) (listed (choice_inner chart_inner xs g)), expression_via g n x h, choice_via g (n + expression_count charts x) xs i)

    parts_via : (g : List ℕ) (n : ℕ) (xs : Expressions) → AreFewExpressions Few xs → often (Via g) (expressions_shown charts n xs) ≤ event_count (parts_inner chart_inner xs g)
    parts_via g n none h = omega arith
    parts_via g n (more x xs) (h, i) =
        omega (arith, often_both (Via g) (expression_shown charts n x) (expressions_shown charts (n + expression_count charts x) xs), length-append (listed (expression_inner chart_inner x g)) (listed (parts_inner chart_inner xs g)), expression_via g n x h, parts_via g (n + expression_count charts x) xs i)

  mutual
    level_via : (g : List ℕ) (n : ℕ) (b : Body) → IsFewLevel Few b → often (Via g) (level_shown charts n b) ≤ event_count (level_inner chart_inner b g)
    level_via g n (level cover held pairs) (h, i) = omega (arith, past_most (Via g) (Via g) past_level (level_past g) (items_shown charts (calls held) n held), items_via g (calls held) n held i)

    items_via : (g : List ℕ) (cs : List Call) (n : ℕ) (xs : WovenItems) → AreFewItems Few xs → often (Via g) (items_shown charts cs n xs) ≤ event_count (items_inner chart_inner cs xs g)
    items_via g cs n no_items h = omega arith
    items_via g cs n (item_and x xs) (h, i) =
        omega (arith, often_both (Via g) (item_shown charts cs n x) (items_shown charts cs (n + item_count charts x) xs), beside_count x (item_inner chart_inner cs x g) (items_inner chart_inner cs xs g), item_via g cs n x h, items_via g cs (n + item_count charts x) xs i)

    item_via : (g : List ℕ) (cs : List Call) (n : ℕ) (x : WovenItem) → IsFewItem Few x → often (Via g) (item_shown charts cs n x) ≤ event_count (item_inner chart_inner cs x g)
    item_via g cs n (Single k) h = event_via g n k
    item_via g cs n (Coregion ks) h = events_via g n ks
    item_via g cs n (Inline form part operands) (has, h) =
        inline_left cs part.name g (operands_shown charts n operands) (inline_inner chart_inner form operands g) (omega (arith, turned_count form (operands_inner chart_inner form operands g), operands_via g n form operands h))
    item_via g cs n (Refer part) h =
        omega (arith, reference_passed cs part.name part.joins g (expression_shown charts n part.expression), joins_most chart_inner part.expression (expression_shown charts n part.expression) (λ f. expression_via f n part.expression h) part.joins g)

    operands_via : (g : List ℕ) (n : ℕ) (form : InlineForm) (bs : Bodies) → AreFewOperands Few bs → often (Via g) (operands_shown charts n bs) ≤ event_count (operands_inner chart_inner form bs g)
    operands_via g n form no_bodies h = omega arith
    operands_via g n form (body_and b bs) (h, i) =
        omega (arith, often_both (Via g) (level_shown charts n b) (operands_shown charts (n + level_count charts b) bs), operand_count form (level_inner chart_inner b g) (operands_inner chart_inner form bs g), level_via g n b h, operands_via g (n + level_count charts b) form bs i)

  inline_most : (g : List ℕ) (n : ℕ) (form : InlineForm) (bs : Bodies) → AreFewOperands Few bs → often (Via g) (operands_shown charts n bs) ≤ event_count (inline_inner chart_inner form bs g)
  inline_most g n form bs h = omega (arith, turned_count form (operands_inner chart_inner form bs g), operands_via g n form bs h)

  events_on : (name g : List ℕ) (n : ℕ) (ks : List EventNode) → often (On name g) (events_shown charts n ks) ≡ 0
  events_on name g n [] = refl
  events_on name g n (k ∷ ks) = omega (arith, often_both (On name g) (event_shown charts n k) (events_shown charts (n + 1) ks), target_on k.event.target name g n, events_on name g (n + 1) ks)

  item_on : (name g : List ℕ) (cs : List Call) (n : ℕ) (x : WovenItem) → IsFewItem Few x → often (On name g) (item_shown charts cs n x) ≤ event_count (inner_of_item chart_inner x name g)
  item_on name g cs n (Single k) h = omega (arith, target_on k.event.target name g n)
  item_on name g cs n (Coregion ks) h = omega (arith, events_on name g n ks)
  item_on name g cs n (Inline form part operands) (has, h) =
      past_on name g part.name (past_inline cs part.name) (inline_on name g cs part.name) (other_inline name g cs part.name) (operands_shown charts n operands) (inline_inner chart_inner form operands g) (inline_most g n form operands h)
  item_on name g cs n (Refer part) h =
      past_on name g part.name (past_reference cs part.name part.joins) (reference_on name g cs part.name part.joins) (other_reference name g cs part.name part.joins) (expression_shown charts n part.expression) (expression_inner chart_inner part.expression g) (expression_via g n part.expression h)

  items_on : (name g : List ℕ) (cs : List Call) (n : ℕ) (xs : WovenItems) → AreFewItems Few xs → often (On name g) (items_shown charts cs n xs) ≤ event_count (inner_of chart_inner xs name g)
  items_on name g cs n no_items h = omega arith
  items_on name g cs n (item_and x xs) (h, i) =
      omega (arith, often_both (On name g) (item_shown charts cs n x) (items_shown charts cs (n + item_count charts x) xs), length-append (listed (inner_of_item chart_inner x name g)) (listed (inner_of chart_inner xs name g)), item_on name g cs n x h, items_on name g cs (n + item_count charts x) xs i)

  -- ---- joins

  module _ (whole : WovenItems) (few : AreFewItems Few whole) where
    join_counted : (own g : List ℕ) (e : Expression) (to : JoinEnd) → join_product (items_shown charts (calls whole) 0 whole) own g to ≤ join_count chart_inner whole (Some own) e g to
    join_counted own g e (join_end.Env to) = omega arith
    join_counted own g e (join_end.Reference name to) =
        mul-le (often (On own g) (items_shown charts (calls whole) 0 whole)) (often (On name to) (items_shown charts (calls whole) 0 whole)) (event_count (inner_of chart_inner whole own g)) (event_count (inner_of chart_inner whole name to))
        (items_on own g (calls whole) 0 whole few) (items_on name to (calls whole) 0 whole few)

    joins_counted : (o : Option (List ℕ)) (e : Expression) (js : List Join) → joins_product (items_shown charts (calls whole) 0 whole) o js ≤ joins_count chart_inner whole o e js
    joins_counted None e js = omega arith
    joins_counted (Some own) e [] = omega arith
    joins_counted (Some own) e (j ∷ js) = omega (arith, join_counted own j.gate e j.to, joins_counted (Some own) e js)

    product_counted : (part : ReferencePart) → product_in charts whole part ≤ reference_count chart_inner whole part
    product_counted part = joins_counted part.name part.expression part.joins

  -- ---- charts

  module _ (same : (name : List ℕ) (n m : ℕ) → tags (charts.shown name n) ≡ tags (charts.shown name m)) (table : Table) where
    woven_via : (name g : List ℕ) (n : ℕ) (c : ChartEntry) (rs : List Refinement) (w : Woven) → DecomposeOnce rs → IsFewWoven Few table rs w
        → often (Via g) (woven_shown charts table n rs w) ≤ event_count (body_inner chart_inner name (body_in (Some (record { name = c.name; decls = c.decls; content = w }))) g)
    woven_via name g n c [] (Basic b) once h = omega (arith, seen_count name (level_inner chart_inner b g), level_via g n b h)
    woven_via name g n c [] (HighLevel drawn) once h = omega arith
    woven_via name g n c (r ∷ rs) (Basic (level cover held pairs)) once ((h, i), few) =
        omega (
          arith,
          seen_count name (items_inner chart_inner (calls held) held g),
          past_most (Via g) (Via g) past_level (level_past g) (refined_shown charts table n (r ∷ rs) held),
          refined_often charts same Few table n (r ∷ rs) once held few (Via g),
          items_via g (calls held) n held i,
        )
    woven_via name g n c (r ∷ rs) (HighLevel drawn) once h = omega arith

    entry_via : (name g : List ℕ) (n : ℕ) (o : Option ChartEntry) → IsFewEntry Few table o → often (Via g) (entry_shown charts table n o) ≤ event_count (body_inner chart_inner name (body_in o) g)
    entry_via name g n None h = absurd h
    entry_via name g n (Some c) h = woven_via name g n c (refinements c.decls) c.content (decompose_once c.decls) h

charts_via : (leaves : Leaves) (ends_of : WovenItems → List GateEnd) (table : Table) (k : ℕ) (name : List ℕ) (n : ℕ) (g : List ℕ) → IsFewTo table k name → often (Via g) ((charts_to leaves ends_of table k).shown name n) ≤ event_count (inner_to table k name g)
charts_via leaves ends_of table zero name n g h = absurd h
charts_via leaves ends_of table (suc k) name n g h = entry_via (charts_to leaves ends_of table k) (inner_to table k) (IsFewTo table k) (charts_via leaves ends_of table k) (charts_same leaves ends_of table k) table name g n (chart_at table name) h

-- ---- sizes, where joins add no more

module _ (size_of other_of : List ℕ → ℕ) (product other : WovenItems → ReferencePart → ℕ) (Few : List ℕ → Type 0) (known : (name : List ℕ) → Few name → size_of name ≤ other_of name) (fewer : (whole : WovenItems) (part : ReferencePart) → AreFewItems Few whole → product whole part ≤ other whole part) where
  mutual
    expression_smaller : (e : Expression) → IsFewExpression Few e → expression_size size_of product e ≤ expression_size other_of other e
    expression_smaller Empty h = omega arith
    expression_smaller (Chart name) h = known name h
    expression_smaller (Alt parts) h = omega (arith, expressions_smaller parts h)
    expression_smaller (Par parts) h = omega (arith, expressions_smaller parts h)
    expression_smaller (Seq parts) h = omega (arith, expressions_smaller parts h)
    expression_smaller (Opt part) h = omega (arith, expression_smaller part h)
    expression_smaller (expression.Loop lower upper part) h = omega (arith, expression_smaller part h)

    expressions_smaller : (xs : Expressions) → AreFewExpressions Few xs → expressions_size size_of product xs ≤ expressions_size other_of other xs
    expressions_smaller none h = omega arith
    expressions_smaller (more x xs) (h, i) = omega (arith, expression_smaller x h, expressions_smaller xs i)

  mutual
    level_smaller : (b : Body) → IsFewLevel Few b → level_size size_of product b ≤ level_size other_of other b
    level_smaller (level cover held pairs) (h, i) = items_smaller held i held i

    items_smaller : (whole : WovenItems) → AreFewItems Few whole → (xs : WovenItems) → AreFewItems Few xs → items_size size_of product whole xs ≤ items_size other_of other whole xs
    items_smaller whole few no_items h = omega arith
    items_smaller whole few (item_and x xs) (h, i) = omega (arith, item_smaller whole few x h, items_smaller whole few xs i)

    item_smaller : (whole : WovenItems) → AreFewItems Few whole → (x : WovenItem) → IsFewItem Few x → item_size size_of product whole x ≤ item_size other_of other whole x
    item_smaller whole few (Single k) h = omega arith
    item_smaller whole few (Coregion ks) h = omega arith
    item_smaller whole few (Inline form part operands) (has, h) = omega (arith, operands_smaller operands h)
    item_smaller whole few (Refer part) h = omega (arith, expression_smaller part.expression h, fewer whole part few)

    operands_smaller : (bs : Bodies) → AreFewOperands Few bs → operands_size size_of product bs ≤ operands_size other_of other bs
    operands_smaller no_bodies h = omega arith
    operands_smaller (body_and b bs) (h, i) = omega (arith, level_smaller b h, operands_smaller bs i)

  body_smaller : (o : Option Body) → IsFewBody Few o → body_size size_of product o ≤ body_size other_of other o
  body_smaller None h = omega arith
  body_smaller (Some b) h = omega (arith, level_smaller b h)

  refined_smaller : (table : Table) (rs : List Refinement) → AreFewRefined Few table rs → refined_size size_of product table rs ≤ refined_size other_of other table rs
  refined_smaller table [] h = omega arith
  refined_smaller table (r ∷ rs) (h, i) = omega (arith, body_smaller (body_at table r.chart) h, refined_smaller table rs i)

  mutual
    lines_smaller : (lines : Lines) → AreFewLines Few lines → lines_size size_of product lines ≤ lines_size other_of other lines
    lines_smaller no_lines h = omega arith
    lines_smaller (line_and (line label place node next) rest) (h, i) = omega (arith, node_smaller node h, lines_smaller rest i)

    node_smaller : (node : Node) → IsFewNode Few node → node_size size_of product node ≤ node_size other_of other node
    node_smaller Ends h = omega arith
    node_smaller Connect h = omega arith
    node_smaller (Condition names) h = omega arith
    node_smaller (tree.Refer e) h = expression_smaller e h
    node_smaller (Frames held) h = omega (arith, frames_smaller held h)

    frames_smaller : (held : Graphs) → AreFewFrames Few held → graphs_size size_of product held ≤ graphs_size other_of other held
    frames_smaller no_graphs h = omega arith
    frames_smaller (graph_and (graph starts lines) rest) (h, i) = omega (arith, lines_smaller lines h, frames_smaller rest i)

  woven_smaller : (table : Table) (rs : List Refinement) (w : Woven) → IsFewWoven Few table rs w → woven_size size_of product table rs w ≤ woven_size other_of other table rs w
  woven_smaller table [] (Basic b) h = omega (arith, level_smaller b h)
  woven_smaller table [] (HighLevel (graph starts lines)) h = omega (arith, lines_smaller lines h)
  woven_smaller table (r ∷ rs) (Basic b) (h, i) = omega (arith, level_smaller b h, refined_smaller table (r ∷ rs) i)
  woven_smaller table (r ∷ rs) (HighLevel (graph starts lines)) h = omega (arith, lines_smaller lines h)

  entry_smaller : (table : Table) (o : Option ChartEntry) → IsFewEntry Few table o → entry_size size_of product table o ≤ entry_size other_of other table o
  entry_smaller table None h = absurd h
  entry_smaller table (Some c) h = woven_smaller table (refinements c.decls) c.content h

pub charts_counted : (leaves : Leaves) (ends_of : WovenItems → List GateEnd) (table : Table) (k : ℕ) (name : List ℕ) → IsFewTo table k name
    → size_to (λ j. product_in (charts_to leaves ends_of table j)) table k name ≤ size_to (λ j. reference_count (inner_to table j)) table k name
charts_counted leaves ends_of table zero name h = absurd h
charts_counted leaves ends_of table (suc k) name h =
    entry_smaller (size_to (λ j. product_in (charts_to leaves ends_of table j)) table k) (size_to (λ j. reference_count (inner_to table j)) table k) (product_in (charts_to leaves ends_of table k)) (reference_count (inner_to table k)) (IsFewTo table k)
    (charts_counted leaves ends_of table k)
    (λ whole part few. product_counted (charts_to leaves ends_of table k) (inner_to table k) (IsFewTo table k) (charts_via leaves ends_of table k) whole few part)
    table (chart_at table name) h
