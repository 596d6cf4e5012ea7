-- What the term of a body means, with its references, gates, joins and decomposed instances: by its parts, where each chart that it names
-- means what it is to mean.
use Rattle.std.specs.Prelude.{ℕ, suc, ◌+◌, ◌≤◌, ◌<◌, false, List, [], ◌∷◌, ◌++◌, Option, Some, length, true}
use Rattle.std.proofs.Common.{◌≡◌, refl, sym, subst, inl, inr, arith}
use Rattle.msc_base.specs.declared.label.Far.{Far}
use Rattle.msc_base.specs.Orders.{Once}
use Rattle.msc_base.specs.Patterns.{Mode, seq, par, empty}
use Rattle.msc_unfolding.specs.Unfoldings.{Happening, Unfolding, level_tie}
use Rattle.chart_term.specs.NormalForms.{join_all, tie_of}
use Rattle.chart_term.specs.TermPatterns.{Both}
use Rattle.chart_term.specs.Terms.{Tree, Nil}
use Rattle.term_laws.specs.ConstructorLaws.{NormalFormsKeepPatterns}
use Rattle.term_laws.specs.Soundness.{AreTidyTables}
use Rattle.term_tables.specs.NetValues.{NetsValue}
use Rattle.term_meaning.specs.Portions.{Shown, shown_at, past_shown}
use Rattle.term_meaning.specs.UnfoldingSets.{OnlyEmpty, OnlyEvent, AreJoined, AreTied, AreSomeOften}
use Rattle.msc_tree.specs.declared.reference.InlineForm.{InlineForm}
use Rattle.msc_tree.specs.declared.reference.InlineForm.TheVariants as inline
use Rattle.msc_tree.specs.Expressions.{Expression, Empty, Chart, Alt, Par, Seq, Opt, Expressions, none, more}
use Rattle.msc_tree.specs.Expressions as expression
use Rattle.msc_tree.specs.Graphs as tree
use Rattle.msc_tree.specs.Graphs.{graph, Lines, no_lines, line_and, line, Node, Ends, Connect, Condition, Frames, Graphs, no_graphs, graph_and}
use Rattle.msc_base.specs.declared.label.LabelRef.{LabelRef}
use Rattle.hmsc_graph.specs.declared.shape.Shape.{Shape}
use Rattle.graph_shapes.specs.GraphShapes.{shape_of}
use Rattle.msc_meaning.specs.Bodies.{EventNode, InlinePart, Body, level, WovenItems, no_items, item_and, WovenItem, Single, Coregion, Inline, Refer, Bodies, no_bodies, body_and}
use Rattle.msc_meaning.specs.Calls.{calls}
use Rattle.msc_meaning.specs.ChartUnfoldings.{gates_of, under, refined_under, refining_under, OfEvents, OfLevel, OfItems, OfItem, OfForm, OfSome, OfAll, OfExpression, OfOne, OfEach, no_part, OfWoven, OfRefinings, no_refining, rounds, no_rounds, OfWalk, OfNode, OfFrames, end_node, connect, condition, frames, no_frame}
use Rattle.msc_meaning.specs.FarEnds.{GateMap, no_gates, Around, Gates, gates_referred, inside, far_end, happening}
use Rattle.msc_meaning.specs.InnerEvents.{GateEnd}
use Rattle.msc_meaning.specs.Refinements.{Refining, refining, refinings, without_decomposed, past_refining, refining_tie}
use Rattle.msc_meaning.specs.Tables.{Table, Woven, Basic, HighLevel, Refinement}
use Rattle.msc_meaning.specs.Ties.{ties, past_inline, past_reference, past_node, passing}
use Rattle.chart_forms.specs.BodyEvents.{is_exception}
use Rattle.chart_forms.specs.BuiltBodies.{has_operands}
use Rattle.msc_meaning.proofs.Deciding.{not_so}
use Rattle.expanded_terms.specs.ExpandedTerms.{Leaves, Charts, one_of, placed, turns_of, expression_count, expressions_count, level_count, items_count, item_count, operands_count, refinings_count, woven_count, event_shown, events_shown, expression_shown, expressions_shown, level_shown, items_shown, item_shown, operands_shown, refinings_shown, refined_shown, woven_shown, events_term, expression_term, alternative_terms, each_term, level_term, items_term, item_term, operand_terms, parallel_term, refinings_term, woven_term, graph_count, lines_count, node_count, frames_count, frames_term, node_term, lines_terms}
use Rattle.expanded_terms.specs.FitBodies.{AreFitEvents, IsFitExpression, AreFitExpressions, IsFitLevel, AreFitItems, IsFitItem, AreFitOperands, AreFitRefinings, IsFitGraph, AreFitLines, IsFitNode, AreFitFrames, IsFitWoven}
use Rattle.expanded_terms.specs.Parts.{IsPartFor, AreAlternatives}
use Rattle.expanded_terms.specs.TagNumbers.{tied_numbers}
use Rattle.expanded_terms.proofs.ChartSets.{level_set, reference_set, nothing_set, one_set, alt_set, par_set, seq_set, each_set, opt_set, rounds_set, body_set, refined_set, refinings_set, graph_set, refer_set, frames_set}
use Rattle.expanded_terms.proofs.LevelSets.{along, events_none, events_more, items_none, items_more, items_exception, item_single, item_coregion, item_inline, form_alt, some_last, some_more, form_opt, form_par, form_loop, form_crossed, all_none, all_more}
use Rattle.expanded_terms.proofs.LoopTurns.{bounds}
use Rattle.chart_term.specs.TermMeanings.{HasPattern}
use Rattle.chart_term.specs.Tables.{terms_over}
use Rattle.term_meaning.proofs.PortionRules.{portion_wide}
use Rattle.expanded_terms.proofs.WalkParts.{IsNodePart, AreNodeParts}
use Rattle.expanded_terms.proofs.PartRules.{part_nothing, part_sets, part_until, part_front, none_alternative, more_alternatives, until_alternatives, part_chosen, part_instead, part_option, part_passed, part_below, part_turns, part_crossed}

both_on : {A B C : Type 0} → Both A B → Both B C → Both A C
both_on f g = record { to = λ h. g.to (f.to h); from = λ h. f.from (g.from h) }

turned : {A B : Type 0} → Both A B → Both B A
turned f = record { to = f.from; from = f.to }

not_empty : (xs : List Tree) (x : Tree) → x ∷ xs ≡ [] → ⊥
not_empty xs x e = absurd cc

-- ---- sets that no rule of its own has

module _ (table : Table) where
  each_none : (gates : GateMap) (k : Mode) (u : Unfolding) → Both (OnlyEmpty u) (OfEach table gates k none u)
  each_none gates k u = record { to = λ e. along (OfEach table gates k none) empty u e no_part; from = λ h. from u h }
    where
      from : (u : Unfolding) → OfEach table gates k none u → u ≡ empty
      from _ no_part = refl

  refinings_none : (far_of : EventNode → Far) (u : Unfolding) → Both (OnlyEmpty u) (OfRefinings table far_of [] u)
  refinings_none far_of u = record { to = λ e. along (OfRefinings table far_of []) empty u e no_refining; from = λ h. from u h }
    where
      from : (u : Unfolding) → OfRefinings table far_of [] u → u ≡ empty
      from _ no_refining = refl

  -- a loop of an expression whose bounds leave no round
  rounds_crossed : (gates : GateMap) (lower most : ℕ) (part : Expression) → most < lower → (u : Unfolding) → Both (OnlyEmpty u) (OfExpression table gates (expression.Loop lower (Some most) part) u)
  rounds_crossed gates lower most part l u = record { to = λ e. along (OfExpression table gates (expression.Loop lower (Some most) part)) empty u e (no_rounds l); from = λ h. from u h }
    where
      between : (n : ℕ) → lower ≤ n → n ≤ most → ⊥
      between n a b = omega (arith, a, b, l)

      from : (u : Unfolding) → OfExpression table gates (expression.Loop lower (Some most) part) u → u ≡ empty
      from u (rounds n a c h) = absurd (between n a c)
      from _ (no_rounds k) = refl

-- ---- what an item is in front of those behind it: of an exception its operand

abbrev FrontOf : Table → Gates → Around → WovenItem → Unfolding → Type 0
FrontOf t g a (Inline inline.Exc part no_bodies) = OnlyEmpty
FrontOf t g a (Inline inline.Exc part (body_and operand no_bodies)) = AreTied (OfLevel t (inside g part.name a) operand) (passing (past_inline g.calls part.name))
FrontOf t g a (Inline inline.Exc part (body_and operand (body_and other others))) = OnlyEmpty
FrontOf t g a x = OfItem t g a x

-- an exception has one operand
abbrev IsFrontItem : WovenItem → Type 0
IsFrontItem (Inline inline.Exc part no_bodies) = ⊥
IsFrontItem (Inline inline.Exc part (body_and operand no_bodies)) = Unit {0}
IsFrontItem (Inline inline.Exc part (body_and operand (body_and other others))) = ⊥
IsFrontItem x = Unit {0}

front_item : (x : WovenItem) → ((form : InlineForm) (part : InlinePart) (bs : Bodies) → x ≡ Inline form part bs → has_operands form bs ≡ true) → IsFrontItem x
front_item (Single n) h = tt
front_item (Coregion ns) h = tt
front_item (Inline inline.Alt part bs) h = tt
front_item (Inline inline.Opt part bs) h = tt
front_item (Inline inline.Par part bs) h = tt
front_item (Inline inline.Loop part bs) h = tt
front_item (Inline inline.Exc part no_bodies) h = not_so (h inline.Exc part no_bodies refl)
front_item (Inline inline.Exc part (body_and x no_bodies)) h = tt
front_item (Inline inline.Exc part (body_and x (body_and y bs))) h = not_so (h inline.Exc part (body_and x (body_and y bs)) refl)
front_item (Refer part) h = tt

module _ (keep : NormalFormsKeepPatterns) (v : NetsValue) (m : List (List ℕ)) (once : Once m) (tidy : AreTidyTables v.tables) (table : Table) (ends_of : WovenItems → List GateEnd) (leaves : Leaves)
    (Named : Happening → Type 0) (named : (n : ℕ) (h : Happening) → Named h → IsPartFor v m n (n + 1) (shown_at n h.tags) (leaves.event n h) (OnlyEvent h))
    (IsWalk : ℕ → Shape → List Tree → Type 0) (charts : Charts) (IsFitChart : List ℕ → GateMap → ℕ → Type 0)
    (walk_known : (n hi : ℕ) (starts : List LabelRef) (lines : Lines) (ys : List Tree) → n ≤ hi → IsWalk n (shape_of (graph starts lines)) ys → AreNodeParts table v m n hi ys lines → IsPartFor v m n hi [] (leaves.walk n) (OfWalk table false lines starts))
    (known : (name : List ℕ) (gates : GateMap) (n : ℕ) → IsFitChart name gates n → IsPartFor v m n (n + charts.count name) (charts.shown name n) (charts.term name gates n) (OfExpression table gates (Chart name))) where
  abbrev Part : ℕ → ℕ → Shown → Tree → (Unfolding → Type 0) → Type 0
  Part lo hi sh x U = IsPartFor v m lo hi sh x U

  abbrev Others : ℕ → ℕ → Shown → List Tree → (Unfolding → Type 0) → Type 0
  Others lo hi sh xs U = AreAlternatives v m lo hi sh xs U

  -- ---- events

  event_is : (es : List GateEnd) (a : Around) (n : ℕ) (k : EventNode) → Named (happening es a k) → Part n (n + 1) (event_shown charts n k) (leaves.event n (happening es a k)) (OnlyEvent (happening es a k))
  event_is es a n k h = named n (happening es a k) h

  events_are : (es : List GateEnd) (a : Around) (n : ℕ) (ks : List EventNode) → AreFitEvents table ends_of leaves Named IsWalk charts IsFitChart es a ks → Part n (n + length ks) (events_shown charts n ks) (events_term charts leaves ends_of es a n ks) (OfEvents es a ks)
  events_are es a n [] h =
      part_until keep v m once tidy n n (n + 0) [] Nil (OfEvents es a []) (omega arith)
      (part_sets keep v m once tidy n n [] Nil OnlyEmpty (OfEvents es a []) (events_none es a) (part_nothing keep v m once tidy n))
  events_are es a n (k ∷ ks) (h, i) =
      part_until keep v m once tidy n (n + 1 + length ks) (n + length (k ∷ ks)) (events_shown charts n (k ∷ ks)) (events_term charts leaves ends_of es a n (k ∷ ks)) (OfEvents es a (k ∷ ks)) (omega arith)
      (part_front keep v m once tidy par n (n + 1) (n + 1 + length ks) (event_shown charts n k) (events_shown charts (n + 1) ks) (leaves.event n (happening es a k)) (events_term charts leaves ends_of es a (n + 1) ks)
      (OnlyEvent (happening es a k)) (OfEvents es a ks) (OfEvents es a (k ∷ ks)) (events_more es a k ks) (event_is es a n k h) (events_are es a (n + 1) ks i))

  -- ---- expressions

  -- rounds of an expression
  rounds_are : (gates : GateMap) (n lower : ℕ) (upper : Option ℕ) (part : Expression) → Part n (n + expression_count charts part) (expression_shown charts n part) (expression_term charts leaves ends_of gates n part) (OfExpression table gates part)
      → Part n (n + expression_count charts part) (expression_shown charts n part) (turns_of lower upper (expression_term charts leaves ends_of gates n part)) (OfExpression table gates (expression.Loop lower upper part))
  rounds_are gates n lower upper part p = elim (bounds lower upper) [
    | inl l ↦ part_sets keep v m once tidy n (n + expression_count charts part) (expression_shown charts n part) (turns_of lower upper (expression_term charts leaves ends_of gates n part)) (AreSomeOften (OfExpression table gates part) lower upper) (OfExpression table gates (expression.Loop lower upper part))
        (λ u. turned (rounds_set table gates lower upper part l u))
        (part_turns keep v m once tidy n (n + expression_count charts part) (expression_shown charts n part) (expression_term charts leaves ends_of gates n part) lower upper (OfExpression table gates part) l p)
    | inr (most, e, l) ↦ part_sets keep v m once tidy n (n + expression_count charts part) (expression_shown charts n part) (turns_of lower upper (expression_term charts leaves ends_of gates n part)) OnlyEmpty (OfExpression table gates (expression.Loop lower upper part))
        (λ u. crossed e l u)
        (part_crossed keep v m once tidy n (n + expression_count charts part) (expression_shown charts n part) (expression_term charts leaves ends_of gates n part) lower upper most (OfExpression table gates part) e l p)
  ]
    where
      crossed : {most : ℕ} → upper ≡ Some most → most < lower → (u : Unfolding) → Both (OnlyEmpty u) (OfExpression table gates (expression.Loop lower upper part) u)
      crossed {most} e l u = subst (λ (k : Option ℕ). Both (OnlyEmpty u) (OfExpression table gates (expression.Loop lower k part) u)) (sym e) (rounds_crossed table gates lower most part l u)

  mutual
    pub expression_is : (gates : GateMap) (n : ℕ) (e : Expression) → IsFitExpression table ends_of leaves Named IsWalk charts IsFitChart gates n e
        → Part n (n + expression_count charts e) (expression_shown charts n e) (expression_term charts leaves ends_of gates n e) (OfExpression table gates e)
    expression_is gates n Empty h =
        part_until keep v m once tidy n n (n + 0) [] Nil (OfExpression table gates Empty) (omega arith)
        (part_sets keep v m once tidy n n [] Nil OnlyEmpty (OfExpression table gates Empty) (λ u. turned (nothing_set table gates u)) (part_nothing keep v m once tidy n))
    expression_is gates n (Chart name) h = known name gates n h
    expression_is gates n (Alt none) h = absurd h.0
    expression_is gates n (Alt (more x xs)) h =
        part_sets keep v m once tidy n (n + expressions_count charts (more x xs)) (expressions_shown charts n (more x xs)) (one_of (alternative_terms charts leaves ends_of gates n (more x xs))) (OfOne table gates (more x xs)) (OfExpression table gates (Alt (more x xs)))
        (λ u. turned (alt_set table gates (more x xs) u))
        (part_chosen keep v m once tidy n (n + expressions_count charts (more x xs)) (expressions_shown charts n (more x xs)) (alternative_terms charts leaves ends_of gates n (more x xs)) (OfOne table gates (more x xs))
        (not_empty (alternative_terms charts leaves ends_of gates (n + expression_count charts x) xs) (expression_term charts leaves ends_of gates n x)) (alternatives_are gates n (more x xs) h.1))
    expression_is gates n (Par parts) h =
        part_sets keep v m once tidy n (n + expressions_count charts parts) (expressions_shown charts n parts) (each_term charts leaves ends_of par gates n parts) (OfEach table gates par parts) (OfExpression table gates (Par parts))
        (λ u. turned (par_set table gates parts u)) (each_are par gates n parts h)
    expression_is gates n (Seq parts) h =
        part_sets keep v m once tidy n (n + expressions_count charts parts) (expressions_shown charts n parts) (each_term charts leaves ends_of seq gates n parts) (OfEach table gates seq parts) (OfExpression table gates (Seq parts))
        (λ u. turned (seq_set table gates parts u)) (each_are seq gates n parts h)
    expression_is gates n (Opt part) h =
        part_option keep v m once tidy n (n + expression_count charts part) (expression_shown charts n part) (expression_term charts leaves ends_of gates n part) (OfExpression table gates part) (OfExpression table gates (Opt part))
        (λ u. turned (opt_set table gates part u)) (expression_is gates n part h)
    expression_is gates n (expression.Loop lower upper part) h = rounds_are gates n lower upper part (expression_is gates n part h)

    alternatives_are : (gates : GateMap) (n : ℕ) (xs : Expressions) → AreFitExpressions table ends_of leaves Named IsWalk charts IsFitChart gates n xs
        → Others n (n + expressions_count charts xs) (expressions_shown charts n xs) (alternative_terms charts leaves ends_of gates n xs) (OfOne table gates xs)
    alternatives_are gates n none h = until_alternatives keep v m once tidy n n (n + 0) [] [] (OfOne table gates none) (omega arith) (none_alternative keep v m once tidy n (OfOne table gates none) (λ u k. elim k [ ]))
    alternatives_are gates n (more x xs) (h, i) =
        until_alternatives keep v m once tidy n (n + expression_count charts x + expressions_count charts xs) (n + expressions_count charts (more x xs)) (expressions_shown charts n (more x xs)) (alternative_terms charts leaves ends_of gates n (more x xs)) (OfOne table gates (more x xs)) (omega arith)
        (more_alternatives keep v m once tidy n (n + expression_count charts x) (n + expression_count charts x + expressions_count charts xs) (expression_shown charts n x) (expressions_shown charts (n + expression_count charts x) xs)
        (expression_term charts leaves ends_of gates n x) (alternative_terms charts leaves ends_of gates (n + expression_count charts x) xs) (OfExpression table gates x) (OfOne table gates xs) (OfOne table gates (more x xs))
        (λ u. turned (one_set table gates x xs u)) (expression_is gates n x h) (alternatives_are gates (n + expression_count charts x) xs i))

    each_are : (k : Mode) (gates : GateMap) (n : ℕ) (xs : Expressions) → AreFitExpressions table ends_of leaves Named IsWalk charts IsFitChart gates n xs
        → Part n (n + expressions_count charts xs) (expressions_shown charts n xs) (each_term charts leaves ends_of k gates n xs) (OfEach table gates k xs)
    each_are k gates n none h =
        part_until keep v m once tidy n n (n + 0) [] Nil (OfEach table gates k none) (omega arith)
        (part_sets keep v m once tidy n n [] Nil OnlyEmpty (OfEach table gates k none) (each_none table gates k) (part_nothing keep v m once tidy n))
    each_are k gates n (more x xs) (h, i) =
        part_until keep v m once tidy n (n + expression_count charts x + expressions_count charts xs) (n + expressions_count charts (more x xs)) (expressions_shown charts n (more x xs)) (each_term charts leaves ends_of k gates n (more x xs)) (OfEach table gates k (more x xs)) (omega arith)
        (part_front keep v m once tidy k n (n + expression_count charts x) (n + expression_count charts x + expressions_count charts xs) (expression_shown charts n x) (expressions_shown charts (n + expression_count charts x) xs)
        (expression_term charts leaves ends_of gates n x) (each_term charts leaves ends_of k gates (n + expression_count charts x) xs) (OfExpression table gates x) (OfEach table gates k xs) (OfEach table gates k (more x xs))
        (λ u. turned (each_set table gates k x xs u)) (expression_is gates n x h) (each_are k gates (n + expression_count charts x) xs i))

  -- ---- an item and what stands behind it

  module _ (g : Gates) (a : Around) (lo mid hi : ℕ) (sh ti : Shown) (y z : Tree) (xs : WovenItems) (q : Part mid hi ti z (OfItems table g a xs)) where
    in_front : (x : WovenItem) → ((u : Unfolding) → Both (AreJoined seq (OfItem table g a x) (OfItems table g a xs) u) (OfItems table g a (item_and x xs) u)) → Part lo mid sh y (OfItem table g a x)
        → Part lo hi (sh ++ ti) (placed false y z) (OfItems table g a (item_and x xs))
    in_front x sets p = part_front keep v m once tidy seq lo mid hi sh ti y z (OfItem table g a x) (OfItems table g a xs) (OfItems table g a (item_and x xs)) sets p q

    item_placed : (x : WovenItem) → IsFrontItem x → Part lo mid sh y (FrontOf table g a x) → Part lo hi (sh ++ ti) (placed (is_exception x) y z) (OfItems table g a (item_and x xs))
    item_placed (Single k) f p = in_front (Single k) (items_more table g a (Single k) xs tt) p
    item_placed (Coregion ns) f p = in_front (Coregion ns) (items_more table g a (Coregion ns) xs tt) p
    item_placed (Refer part) f p = in_front (Refer part) (items_more table g a (Refer part) xs tt) p
    item_placed (Inline inline.Alt part bs) f p = in_front (Inline inline.Alt part bs) (items_more table g a (Inline inline.Alt part bs) xs (λ i. differ i)) p
      where
        differ : inline.Alt ≡ inline.Exc → ⊥
        differ i = absurd cc
    item_placed (Inline inline.Opt part bs) f p = in_front (Inline inline.Opt part bs) (items_more table g a (Inline inline.Opt part bs) xs (λ i. differ i)) p
      where
        differ : inline.Opt ≡ inline.Exc → ⊥
        differ i = absurd cc
    item_placed (Inline inline.Par part bs) f p = in_front (Inline inline.Par part bs) (items_more table g a (Inline inline.Par part bs) xs (λ i. differ i)) p
      where
        differ : inline.Par ≡ inline.Exc → ⊥
        differ i = absurd cc
    item_placed (Inline inline.Loop part bs) f p = in_front (Inline inline.Loop part bs) (items_more table g a (Inline inline.Loop part bs) xs (λ i. differ i)) p
      where
        differ : inline.Loop ≡ inline.Exc → ⊥
        differ i = absurd cc
    item_placed (Inline inline.Exc part no_bodies) f p = absurd f
    item_placed (Inline inline.Exc part (body_and b no_bodies)) f p =
        part_instead keep v m once tidy lo mid hi sh ti y z (AreTied (OfLevel table (inside g part.name a) b) (passing (past_inline g.calls part.name))) (OfItems table g a xs) (OfItems table g a (item_and (Inline inline.Exc part (body_and b no_bodies)) xs))
        (items_exception table g a part b xs) p q
    item_placed (Inline inline.Exc part (body_and b (body_and c bs))) f p = absurd f

  -- ---- inline expressions

  module _ (g : Gates) (a : Around) (lo hi : ℕ) (sh : Shown) (x : Tree) (part : InlinePart) where
    -- above an inline expression a gate event has a tag of the expression where the gate is called, and else stays
    form_front : (form : InlineForm) (bs : Bodies) → Part lo hi sh x (OfForm table (inside g part.name a) form part bs) → Part lo hi (past_shown (past_inline g.calls part.name) sh) x (OfItem table g a (Inline form part bs))
    form_front form bs p =
        part_sets keep v m once tidy lo hi (past_shown (past_inline g.calls part.name) sh) x (AreTied (OfForm table (inside g part.name a) form part bs) (passing (past_inline g.calls part.name))) (OfItem table g a (Inline form part bs))
        (item_inline table g a form part bs) (part_passed keep v m once tidy lo hi sh x (past_inline g.calls part.name) (OfForm table (inside g part.name a) form part bs) p)

    -- turns of the operand
    loop_form : (b : Body) → Part lo hi sh x (OfSome table (inside g part.name a) (body_and b no_bodies)) → Part lo hi sh (turns_of part.lower part.upper x) (OfForm table (inside g part.name a) inline.Loop part (body_and b no_bodies))
    loop_form b p = elim (bounds part.lower part.upper) [
      | inl l ↦ part_sets keep v m once tidy lo hi sh (turns_of part.lower part.upper x) (AreSomeOften (OfLevel table (inside g part.name a) b) part.lower part.upper) (OfForm table (inside g part.name a) inline.Loop part (body_and b no_bodies)) (form_loop table (inside g part.name a) part b l)
          (part_turns keep v m once tidy lo hi sh x part.lower part.upper (OfLevel table (inside g part.name a) b) l one_turn)
      | inr (most, e, l) ↦ part_sets keep v m once tidy lo hi sh (turns_of part.lower part.upper x) OnlyEmpty (OfForm table (inside g part.name a) inline.Loop part (body_and b no_bodies)) (form_crossed table (inside g part.name a) part (body_and b no_bodies) most e l)
          (part_crossed keep v m once tidy lo hi sh x part.lower part.upper most (OfLevel table (inside g part.name a) b) e l one_turn)
    ]
      where
        one_turn : Part lo hi sh x (OfLevel table (inside g part.name a) b)
        one_turn = part_sets keep v m once tidy lo hi sh x (OfSome table (inside g part.name a) (body_and b no_bodies)) (OfLevel table (inside g part.name a) b) (λ u. turned (some_last table (inside g part.name a) b u)) p

  -- ---- levels

  operands_there : (g : Gates) (a : Around) (n : ℕ) (x : WovenItem) (form : InlineForm) (part : InlinePart) (bs : Bodies) → x ≡ Inline form part bs → IsFitItem table ends_of leaves Named IsWalk charts IsFitChart g a n x → has_operands form bs ≡ true
  operands_there g a n x form part bs e h = (subst (λ (y : WovenItem). IsFitItem table ends_of leaves Named IsWalk charts IsFitChart g a n y) e h).0

  one_is : (a : Around) (n : ℕ) (b : Body) (bs : Bodies) → Others n (n + operands_count charts (body_and b bs)) (operands_shown charts n (body_and b bs)) (operand_terms charts leaves ends_of a n (body_and b bs)) (OfSome table a (body_and b bs))
      → Part n (n + operands_count charts (body_and b bs)) (operands_shown charts n (body_and b bs)) (one_of (operand_terms charts leaves ends_of a n (body_and b bs))) (OfSome table a (body_and b bs))
  one_is a n b bs h =
      part_chosen keep v m once tidy n (n + operands_count charts (body_and b bs)) (operands_shown charts n (body_and b bs)) (operand_terms charts leaves ends_of a n (body_and b bs)) (OfSome table a (body_and b bs))
      (not_empty (operand_terms charts leaves ends_of a (n + level_count charts b) bs) (level_term charts leaves ends_of a n b)) h

  mutual
    -- the items, below the tie by the numbers that the tags come to
    pub level_is : (a : Around) (n : ℕ) (b : Body) → IsFitLevel table ends_of leaves Named IsWalk charts IsFitChart a n b → Part n (n + level_count charts b) (level_shown charts n b) (level_term charts leaves ends_of a n b) (OfLevel table a b)
    level_is a n (level cover held pairs) (e, h) =
        part_sets keep v m once tidy n (n + items_count charts held) (level_shown charts n (level cover held pairs)) (level_term charts leaves ends_of a n (level cover held pairs))
        (AreTied (OfItems table (gates_of held (ends_of held)) a held) (level_tie (ties held pairs (calls held) (ends_of held)))) (OfLevel table a (level cover held pairs))
        (λ u. turned (level_set table a cover held pairs (ends_of held) e.there e.one u))
        (part_below keep v m once tidy n (n + items_count charts held) (items_shown charts (calls held) n held) (items_term charts leaves ends_of (gates_of held (ends_of held)) a n held) (level_tie (ties held pairs (calls held) (ends_of held)))
        (OfItems table (gates_of held (ends_of held)) a held) (items_are (gates_of held (ends_of held)) a n held h))

    pub items_are : (g : Gates) (a : Around) (n : ℕ) (xs : WovenItems) → AreFitItems table ends_of leaves Named IsWalk charts IsFitChart g a n xs
        → Part n (n + items_count charts xs) (items_shown charts g.calls n xs) (items_term charts leaves ends_of g a n xs) (OfItems table g a xs)
    items_are g a n no_items h =
        part_until keep v m once tidy n n (n + 0) [] Nil (OfItems table g a no_items) (omega arith)
        (part_sets keep v m once tidy n n [] Nil OnlyEmpty (OfItems table g a no_items) (items_none table g a) (part_nothing keep v m once tidy n))
    items_are g a n (item_and x xs) (h, i) =
        part_until keep v m once tidy n (n + item_count charts x + items_count charts xs) (n + (item_count charts x + items_count charts xs)) (items_shown charts g.calls n (item_and x xs)) (items_term charts leaves ends_of g a n (item_and x xs)) (OfItems table g a (item_and x xs)) (omega arith)
        (item_placed g a n (n + item_count charts x) (n + item_count charts x + items_count charts xs) (item_shown charts g.calls n x) (items_shown charts g.calls (n + item_count charts x) xs)
        (item_term charts leaves ends_of g a n x) (items_term charts leaves ends_of g a (n + item_count charts x) xs) xs (items_are g a (n + item_count charts x) xs i) x (front_item x (λ form part bs e. operands_there g a n x form part bs e h)) (item_is g a n x h))

    item_is : (g : Gates) (a : Around) (n : ℕ) (x : WovenItem) → IsFitItem table ends_of leaves Named IsWalk charts IsFitChart g a n x
        → Part n (n + item_count charts x) (item_shown charts g.calls n x) (item_term charts leaves ends_of g a n x) (FrontOf table g a x)
    item_is g a n (Single k) h =
        part_sets keep v m once tidy n (n + 1) (event_shown charts n k) (leaves.event n (happening g.ends a k)) (OnlyEvent (happening g.ends a k)) (OfItem table g a (Single k)) (item_single table g a k) (event_is g.ends a n k h)
    item_is g a n (Coregion ks) h =
        part_sets keep v m once tidy n (n + length ks) (events_shown charts n ks) (events_term charts leaves ends_of g.ends a n ks) (OfEvents g.ends a ks) (OfItem table g a (Coregion ks)) (item_coregion table g a ks) (events_are g.ends a n ks h)
    -- above a reference a gate event has a tag of the reference where the gate is called, or the level's where a join sends it there
    item_is g a n (Refer part) h =
        part_sets keep v m once tidy n (n + expression_count charts part.expression) (item_shown charts g.calls n (Refer part)) (item_term charts leaves ends_of g a n (Refer part))
        (AreTied (OfExpression table (gates_referred g part.name part.joins a.gates) part.expression) (passing (past_reference g.calls part.name part.joins))) (OfItem table g a (Refer part)) (λ u. turned (reference_set table g a part u))
        (part_passed keep v m once tidy n (n + expression_count charts part.expression) (expression_shown charts n part.expression) (expression_term charts leaves ends_of (gates_referred g part.name part.joins a.gates) n part.expression)
        (past_reference g.calls part.name part.joins) (OfExpression table (gates_referred g part.name part.joins a.gates) part.expression) (expression_is (gates_referred g part.name part.joins a.gates) n part.expression h))
    item_is g a n (Inline inline.Alt part no_bodies) h = absurd (not_so h.0)
    item_is g a n (Inline inline.Alt part (body_and b bs)) h =
        form_front g a n (n + operands_count charts (body_and b bs)) (operands_shown charts n (body_and b bs)) (one_of (operand_terms charts leaves ends_of (inside g part.name a) n (body_and b bs))) part inline.Alt (body_and b bs)
        (part_sets keep v m once tidy n (n + operands_count charts (body_and b bs)) (operands_shown charts n (body_and b bs)) (one_of (operand_terms charts leaves ends_of (inside g part.name a) n (body_and b bs))) (OfSome table (inside g part.name a) (body_and b bs)) (OfForm table (inside g part.name a) inline.Alt part (body_and b bs))
        (form_alt table (inside g part.name a) part (body_and b bs)) (one_is (inside g part.name a) n b bs (some_are (inside g part.name a) n (body_and b bs) h.1)))
    item_is g a n (Inline inline.Opt part no_bodies) h = absurd (not_so h.0)
    item_is g a n (Inline inline.Opt part (body_and b no_bodies)) h =
        form_front g a n (n + operands_count charts (body_and b no_bodies)) (operands_shown charts n (body_and b no_bodies)) (one_of (one_of (operand_terms charts leaves ends_of (inside g part.name a) n (body_and b no_bodies)) ∷ Nil ∷ [])) part inline.Opt (body_and b no_bodies)
        (part_option keep v m once tidy n (n + operands_count charts (body_and b no_bodies)) (operands_shown charts n (body_and b no_bodies)) (one_of (operand_terms charts leaves ends_of (inside g part.name a) n (body_and b no_bodies)))
        (OfSome table (inside g part.name a) (body_and b no_bodies)) (OfForm table (inside g part.name a) inline.Opt part (body_and b no_bodies))
        (λ u. both_on (record { to = λ k. elim k [ inl i ↦ inl ((some_last table (inside g part.name a) b u).from i) | inr i ↦ inr i ]; from = λ k. elim k [ inl i ↦ inl ((some_last table (inside g part.name a) b u).to i) | inr i ↦ inr i ] }) (form_opt table (inside g part.name a) part b u))
        (one_is (inside g part.name a) n b no_bodies (some_are (inside g part.name a) n (body_and b no_bodies) h.1)))
    item_is g a n (Inline inline.Opt part (body_and b (body_and c bs))) h = absurd (not_so h.0)
    item_is g a n (Inline inline.Exc part no_bodies) h = absurd (not_so h.0)
    item_is g a n (Inline inline.Exc part (body_and b no_bodies)) h =
        part_passed keep v m once tidy n (n + operands_count charts (body_and b no_bodies)) (operands_shown charts n (body_and b no_bodies)) (one_of (operand_terms charts leaves ends_of (inside g part.name a) n (body_and b no_bodies))) (past_inline g.calls part.name) (OfLevel table (inside g part.name a) b)
        (part_sets keep v m once tidy n (n + operands_count charts (body_and b no_bodies)) (operands_shown charts n (body_and b no_bodies)) (one_of (operand_terms charts leaves ends_of (inside g part.name a) n (body_and b no_bodies))) (OfSome table (inside g part.name a) (body_and b no_bodies)) (OfLevel table (inside g part.name a) b)
        (λ u. turned (some_last table (inside g part.name a) b u)) (one_is (inside g part.name a) n b no_bodies (some_are (inside g part.name a) n (body_and b no_bodies) h.1)))
    item_is g a n (Inline inline.Exc part (body_and b (body_and c bs))) h = absurd (not_so h.0)
    item_is g a n (Inline inline.Par part bs) h =
        form_front g a n (n + operands_count charts bs) (operands_shown charts n bs) (parallel_term charts leaves ends_of (inside g part.name a) n bs) part inline.Par bs
        (part_sets keep v m once tidy n (n + operands_count charts bs) (operands_shown charts n bs) (parallel_term charts leaves ends_of (inside g part.name a) n bs) (OfAll table (inside g part.name a) bs) (OfForm table (inside g part.name a) inline.Par part bs)
        (form_par table (inside g part.name a) part bs) (all_are (inside g part.name a) n bs h.1))
    item_is g a n (Inline inline.Loop part no_bodies) h = absurd (not_so h.0)
    item_is g a n (Inline inline.Loop part (body_and b no_bodies)) h =
        form_front g a n (n + operands_count charts (body_and b no_bodies)) (operands_shown charts n (body_and b no_bodies)) (turns_of part.lower part.upper (one_of (operand_terms charts leaves ends_of (inside g part.name a) n (body_and b no_bodies)))) part inline.Loop (body_and b no_bodies)
        (loop_form g a n (n + operands_count charts (body_and b no_bodies)) (operands_shown charts n (body_and b no_bodies)) (one_of (operand_terms charts leaves ends_of (inside g part.name a) n (body_and b no_bodies))) part b (one_is (inside g part.name a) n b no_bodies (some_are (inside g part.name a) n (body_and b no_bodies) h.1)))
    item_is g a n (Inline inline.Loop part (body_and b (body_and c bs))) h = absurd (not_so h.0)

    some_are : (a : Around) (n : ℕ) (bs : Bodies) → AreFitOperands table ends_of leaves Named IsWalk charts IsFitChart a n bs
        → Others n (n + operands_count charts bs) (operands_shown charts n bs) (operand_terms charts leaves ends_of a n bs) (OfSome table a bs)
    some_are a n no_bodies h = until_alternatives keep v m once tidy n n (n + 0) [] [] (OfSome table a no_bodies) (omega arith) (none_alternative keep v m once tidy n (OfSome table a no_bodies) (λ u k. elim k [ ]))
    some_are a n (body_and b bs) (h, i) =
        until_alternatives keep v m once tidy n (n + level_count charts b + operands_count charts bs) (n + (level_count charts b + operands_count charts bs)) (operands_shown charts n (body_and b bs)) (operand_terms charts leaves ends_of a n (body_and b bs)) (OfSome table a (body_and b bs)) (omega arith)
        (more_alternatives keep v m once tidy n (n + level_count charts b) (n + level_count charts b + operands_count charts bs) (level_shown charts n b) (operands_shown charts (n + level_count charts b) bs)
        (level_term charts leaves ends_of a n b) (operand_terms charts leaves ends_of a (n + level_count charts b) bs) (OfLevel table a b) (OfSome table a bs) (OfSome table a (body_and b bs))
        (some_more table a b bs) (level_is a n b h) (some_are a (n + level_count charts b) bs i))

    all_are : (a : Around) (n : ℕ) (bs : Bodies) → AreFitOperands table ends_of leaves Named IsWalk charts IsFitChart a n bs
        → Part n (n + operands_count charts bs) (operands_shown charts n bs) (parallel_term charts leaves ends_of a n bs) (OfAll table a bs)
    all_are a n no_bodies h =
        part_until keep v m once tidy n n (n + 0) [] Nil (OfAll table a no_bodies) (omega arith)
        (part_sets keep v m once tidy n n [] Nil OnlyEmpty (OfAll table a no_bodies) (all_none table a) (part_nothing keep v m once tidy n))
    all_are a n (body_and b bs) (h, i) =
        part_until keep v m once tidy n (n + level_count charts b + operands_count charts bs) (n + (level_count charts b + operands_count charts bs)) (operands_shown charts n (body_and b bs)) (parallel_term charts leaves ends_of a n (body_and b bs)) (OfAll table a (body_and b bs)) (omega arith)
        (part_front keep v m once tidy par n (n + level_count charts b) (n + level_count charts b + operands_count charts bs) (level_shown charts n b) (operands_shown charts (n + level_count charts b) bs)
        (level_term charts leaves ends_of a n b) (parallel_term charts leaves ends_of a (n + level_count charts b) bs) (OfLevel table a b) (OfAll table a bs) (OfAll table a (body_and b bs))
        (all_more table a b bs) (level_is a n b h) (all_are a (n + level_count charts b) bs i))

  -- ---- decomposed instances

  refinings_are : (far_of : EventNode → Far) (n : ℕ) (rs : List Refining) → AreFitRefinings table ends_of leaves Named IsWalk charts IsFitChart far_of n rs
      → Part n (n + refinings_count charts rs) (refinings_shown charts n rs) (refinings_term charts leaves ends_of far_of n rs) (OfRefinings table far_of rs)
  refinings_are far_of n [] h =
      part_until keep v m once tidy n n (n + 0) [] Nil (OfRefinings table far_of []) (omega arith)
      (part_sets keep v m once tidy n n [] Nil OnlyEmpty (OfRefinings table far_of []) (refinings_none table far_of) (part_nothing keep v m once tidy n))
  refinings_are far_of n (refining (level cover held pairs) ms ∷ rs) ((e, h), i) =
      part_until keep v m once tidy n (n + items_count charts held + refinings_count charts rs) (n + (items_count charts held + refinings_count charts rs)) (refinings_shown charts n (refining (level cover held pairs) ms ∷ rs)) (refinings_term charts leaves ends_of far_of n (refining (level cover held pairs) ms ∷ rs)) (OfRefinings table far_of (refining (level cover held pairs) ms ∷ rs)) (omega arith)
      (part_front keep v m once tidy par n (n + items_count charts held) (n + items_count charts held + refinings_count charts rs) (past_shown (past_refining ms) (items_shown charts (calls held) n held)) (refinings_shown charts (n + items_count charts held) rs)
      (tie_of (items_term charts leaves ends_of (gates_of held (ends_of held)) (refining_under far_of ms) n held) (tied_numbers (items_shown charts (calls held) n held) (ties held pairs (calls held) (ends_of held))))
      (refinings_term charts leaves ends_of far_of (n + items_count charts held) rs)
      (AreTied (OfItems table (gates_of held (ends_of held)) (refining_under far_of ms) held) (refining_tie ms (ties held pairs (calls held) (ends_of held)))) (OfRefinings table far_of rs) (OfRefinings table far_of (refining (level cover held pairs) ms ∷ rs))
      (λ u. turned (refinings_set table far_of cover held pairs ms rs (ends_of held) e.there e.one u))
      (part_below keep v m once tidy n (n + items_count charts held) (items_shown charts (calls held) n held)
      (items_term charts leaves ends_of (gates_of held (ends_of held)) (refining_under far_of ms) n held) (refining_tie ms (ties held pairs (calls held) (ends_of held)))
      (OfItems table (gates_of held (ends_of held)) (refining_under far_of ms) held) (items_are (gates_of held (ends_of held)) (refining_under far_of ms) n held h))
      (refinings_are far_of (n + items_count charts held) rs i))

  -- ---- graphs

  hidden_all : (sh : Shown) → past_shown past_node sh ≡ []
  hidden_all [] = refl
  hidden_all (p ∷ sh) = hidden_all sh

  only_end : (u : Unfolding) → OfNode table Ends u → u ≡ empty
  only_end _ end_node = refl

  only_connect : (u : Unfolding) → OfNode table Connect u → u ≡ empty
  only_connect _ connect = refl

  only_condition : (names : List (List ℕ)) (u : Unfolding) → OfNode table (Condition names) u → u ≡ empty
  only_condition names _ condition = refl

  -- nothing happens at such a node
  empty_node : (n : ℕ) (node : Node) → OfNode table node empty → ((u : Unfolding) → OfNode table node u → u ≡ empty) → Part n (n + 0) [] Nil (OfNode table node)
  empty_node n node has only =
      part_until keep v m once tidy n n (n + 0) [] Nil (OfNode table node) (omega arith)
      (part_sets keep v m once tidy n n [] Nil OnlyEmpty (OfNode table node) (λ u. record { to = λ e. along (OfNode table node) empty u e has; from = only u }) (part_nothing keep v m once tidy n))

  frames_none : (u : Unfolding) → Both (OnlyEmpty u) (OfFrames table no_graphs u)
  frames_none u = record { to = λ e. along (OfFrames table no_graphs) empty u e no_frame; from = λ h. from u h }
    where
      from : (u : Unfolding) → OfFrames table no_graphs u → u ≡ empty
      from _ no_frame = refl

  frames_node : (held : Graphs) (u : Unfolding) → Both (OfFrames table held u) (OfNode table (Frames held) u)
  frames_node held u = record { to = λ h. frames h; from = λ h. from u h }
    where
      from : (u : Unfolding) → OfNode table (Frames held) u → OfFrames table held u
      from u (frames h) = h

  -- a part as that of a node among others
  among_others : (lo hi a b : ℕ) (x : Tree) (U : Unfolding → Type 0) → lo ≤ a → b ≤ hi → Part a b [] x U → IsNodePart v m lo hi x U
  among_others lo hi a b x U l k p = record {
    beyond = λ j i. p.beyond j (elim i [ inl h ↦ inl (omega (arith, h, l)) | inr h ↦ inr (omega (arith, h, k)) ]);
    portion = λ o. portion_wide v.labels m a b lo hi [] (HasPattern (terms_over v.tables) o x) U l k (p.portion o);
  }

  mutual
    pub lines_are : (lo hi n : ℕ) (lines : Lines) → lo ≤ n → n + lines_count charts lines ≤ hi → AreFitLines table ends_of leaves Named IsWalk charts IsFitChart n lines → AreNodeParts table v m lo hi (lines_terms charts leaves ends_of n lines) lines
    lines_are lo hi n no_lines l k h = tt
    lines_are lo hi n (line_and (line label place node next) rest) l k (h, i) = (
      among_others lo hi n (n + node_count charts node) (node_term charts leaves ends_of n node) (OfNode table node) l (omega (arith, k)) (node_is n node h),
      lines_are lo hi (n + node_count charts node) rest (omega (arith, l)) (omega (arith, k)) i,
    )

    node_is : (n : ℕ) (node : Node) → IsFitNode table ends_of leaves Named IsWalk charts IsFitChart n node → Part n (n + node_count charts node) [] (node_term charts leaves ends_of n node) (OfNode table node)
    node_is n Ends h = empty_node n Ends end_node (λ u i. only_end u i)
    node_is n Connect h = empty_node n Connect connect (λ u i. only_connect u i)
    node_is n (Condition names) h = empty_node n (Condition names) condition (λ u i. only_condition names u i)
    node_is n (tree.Refer e) h =
        part_sets keep v m once tidy n (n + expression_count charts e) [] (expression_term charts leaves ends_of no_gates n e) (AreTied (OfExpression table no_gates e) (passing past_node)) (OfNode table (tree.Refer e)) (λ u. turned (refer_set table e u))
        (subst (λ (sh : Shown). Part n (n + expression_count charts e) sh (expression_term charts leaves ends_of no_gates n e) (AreTied (OfExpression table no_gates e) (passing past_node))) (hidden_all (expression_shown charts n e))
        (part_passed keep v m once tidy n (n + expression_count charts e) (expression_shown charts n e) (expression_term charts leaves ends_of no_gates n e) past_node (OfExpression table no_gates e) (expression_is no_gates n e h)))
    node_is n (Frames held) h = part_sets keep v m once tidy n (n + frames_count charts held) [] (frames_term charts leaves ends_of n held) (OfFrames table held) (OfNode table (Frames held)) (frames_node held) (frames_are n held h)

    frames_are : (n : ℕ) (held : Graphs) → AreFitFrames table ends_of leaves Named IsWalk charts IsFitChart n held → Part n (n + frames_count charts held) [] (frames_term charts leaves ends_of n held) (OfFrames table held)
    frames_are n no_graphs h =
        part_until keep v m once tidy n n (n + 0) [] Nil (OfFrames table no_graphs) (omega arith)
        (part_sets keep v m once tidy n n [] Nil OnlyEmpty (OfFrames table no_graphs) frames_none (part_nothing keep v m once tidy n))
    frames_are n (graph_and (graph starts lines) rest) (h, i) =
        part_until keep v m once tidy n (n + graph_count charts (graph starts lines) + frames_count charts rest) (n + frames_count charts (graph_and (graph starts lines) rest)) [] (frames_term charts leaves ends_of n (graph_and (graph starts lines) rest)) (OfFrames table (graph_and (graph starts lines) rest)) (omega arith)
        (part_front keep v m once tidy par n (n + graph_count charts (graph starts lines)) (n + graph_count charts (graph starts lines) + frames_count charts rest) [] [] (leaves.walk n) (frames_term charts leaves ends_of (n + graph_count charts (graph starts lines)) rest)
        (OfWalk table false lines starts) (OfFrames table rest) (OfFrames table (graph_and (graph starts lines) rest)) (λ u. turned (frames_set table starts lines rest u)) (walk_known n (n + graph_count charts (graph starts lines)) starts lines (lines_terms charts leaves ends_of (suc n) lines) (omega arith) h.0
        (lines_are n (n + graph_count charts (graph starts lines)) (suc n) lines (omega arith) (omega arith) h.1)) (frames_are (n + graph_count charts (graph starts lines)) rest i))

  graph_is : (n : ℕ) (starts : List LabelRef) (lines : Lines) → IsFitGraph table ends_of leaves Named IsWalk charts IsFitChart n (graph starts lines) → Part n (n + graph_count charts (graph starts lines)) [] (leaves.walk n) (OfWalk table false lines starts)
  graph_is n starts lines (h, i) =
      walk_known n (n + graph_count charts (graph starts lines)) starts lines (lines_terms charts leaves ends_of (suc n) lines) (omega arith) h
      (lines_are n (n + graph_count charts (graph starts lines)) (suc n) lines (omega arith) (omega arith) i)

  graph_woven : (gates : GateMap) (n : ℕ) (rs : List Refinement) (starts : List LabelRef) (lines : Lines) → IsFitGraph table ends_of leaves Named IsWalk charts IsFitChart n (graph starts lines)
      → Part n (n + graph_count charts (graph starts lines)) [] (leaves.walk n) (OfWoven table gates rs (HighLevel (graph starts lines)))
  graph_woven gates n rs starts lines h =
      part_sets keep v m once tidy n (n + graph_count charts (graph starts lines)) [] (leaves.walk n) (OfWalk table false lines starts) (OfWoven table gates rs (HighLevel (graph starts lines)))
      (λ u. turned (graph_set table gates rs starts lines u)) (graph_is n starts lines h)

  -- a chart, its gates leading there
  pub woven_is : (gates : GateMap) (n : ℕ) (rs : List Refinement) (content : Woven) → IsFitWoven table ends_of leaves Named IsWalk charts IsFitChart gates n rs content
      → Part n (n + woven_count charts table rs content) (woven_shown charts table n rs content) (woven_term charts leaves ends_of table gates n rs content) (OfWoven table gates rs content)
  woven_is gates n [] (Basic held) h =
      part_sets keep v m once tidy n (n + level_count charts held) (level_shown charts n held) (level_term charts leaves ends_of (under gates) n held) (OfLevel table (under gates) held) (OfWoven table gates [] (Basic held))
      (λ u. turned (body_set table gates held u)) (level_is (under gates) n held h)
  woven_is gates n (r ∷ rs) (Basic (level cover held pairs)) (e, h, i) =
      part_until keep v m once tidy n (n + items_count charts left + refinings_count charts fs) (n + woven_count charts table (r ∷ rs) (Basic (level cover held pairs))) (woven_shown charts table n (r ∷ rs) (Basic (level cover held pairs))) (woven_term charts leaves ends_of table gates n (r ∷ rs) (Basic (level cover held pairs)))
      (OfWoven table gates (r ∷ rs) (Basic (level cover held pairs))) (omega arith)
      (part_sets keep v m once tidy n (n + items_count charts left + refinings_count charts fs) (woven_shown charts table n (r ∷ rs) (Basic (level cover held pairs))) (woven_term charts leaves ends_of table gates n (r ∷ rs) (Basic (level cover held pairs)))
      (AreTied (AreJoined par Left Fine) (level_tie (ties held pairs (calls held) (ends_of held)))) (OfWoven table gates (r ∷ rs) (Basic (level cover held pairs)))
      (λ u. turned (refined_set table gates r rs cover held pairs (ends_of held) e.there e.one u))
      (part_below keep v m once tidy n (n + items_count charts left + refinings_count charts fs) (refined_shown charts table n (r ∷ rs) held) (join_all par (rest ∷ fine ∷ [])) (level_tie (ties held pairs (calls held) (ends_of held))) (AreJoined par Left Fine)
      (part_front keep v m once tidy par n (n + items_count charts left) (n + items_count charts left + refinings_count charts fs) (items_shown charts (calls held) n left) (refinings_shown charts (n + items_count charts left) fs) rest fine Left Fine (AreJoined par Left Fine)
      (λ u. record { to = λ k. k; from = λ k. k })
      (items_are (gates_of held (ends_of held)) around n left h) (refinings_are (far_end (ends_of held) around) (n + items_count charts left) fs i))))
    where
      fs : List Refining
      fs = refinings table held (r ∷ rs)

      left : WovenItems
      left = without_decomposed (r ∷ rs) held

      around : Around
      around = refined_under gates pairs fs

      Left : Unfolding → Type 0
      Left = OfItems table (gates_of held (ends_of held)) around left

      Fine : Unfolding → Type 0
      Fine = OfRefinings table (far_end (ends_of held) around) fs

      rest : Tree
      rest = items_term charts leaves ends_of (gates_of held (ends_of held)) around n left

      fine : Tree
      fine = refinings_term charts leaves ends_of (far_end (ends_of held) around) (n + items_count charts left) fs
  woven_is gates n [] (HighLevel (graph starts lines)) h = graph_woven gates n [] starts lines h
  woven_is gates n (r ∷ rs) (HighLevel (graph starts lines)) h = graph_woven gates n (r ∷ rs) starts lines h
