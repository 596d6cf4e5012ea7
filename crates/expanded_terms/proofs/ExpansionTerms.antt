-- The term of a chart is that of its expansion, construct by construct.
use Rattle.std.specs.Prelude.{ℕ, zero, suc, ◌+◌, Bool, true, false, List, [], ◌∷◌, ◌++◌, Option, None, Some, length}
use Rattle.std.proofs.Common.{◌≡◌, refl, sym, ◌∙◌, ap, subst, arith}
use Rattle.msc_base.specs.declared.label.Far.{Far}
use Rattle.msc_base.specs.Patterns.{seq, par}
use Rattle.msc_unfolding.specs.Unfoldings.{Tag, Happening, past_level}
use Rattle.chart_term.specs.NormalForms.{join_all, tie_of}
use Rattle.chart_term.specs.Terms.{Tree, Nil}
use Rattle.chart_term.specs.Views.{pairs_of}
use Rattle.term_meaning.specs.Portions.{Shown, past_shown, shown_at}
use Rattle.msc_tree.specs.declared.reference.InlineForm.TheVariants as inline
use Rattle.msc_tree.specs.Expressions.{Expression, Empty, Chart, Alt, Par, Seq, Opt, Expressions, none, more}
use Rattle.msc_tree.specs.Expressions as expression
use Rattle.msc_tree.specs.Graphs as graphs
use Rattle.msc_tree.specs.Graphs.{Graph, graph, Lines, no_lines, line_and, line, Node, Ends, Connect, Condition, Frames, Graphs, no_graphs, graph_and}
use Rattle.msc_meaning.specs.Bodies.{EventNode, Body, level, WovenItems, no_items, item_and, WovenItem, Single, Coregion, Inline, Refer, Bodies, no_bodies, body_and}
use Rattle.msc_meaning.specs.Calls.{calls}
use Rattle.msc_meaning.specs.ChartUnfoldings.{gates_of, under, refined_under, refining_under}
use Rattle.msc_meaning.specs.FarEnds.{GateMap, no_gates, Around, Gates, gates_referred, inside, far_end, happening}
use Rattle.msc_meaning.specs.InnerEvents.{GateEnd}
use Rattle.msc_meaning.specs.Refinements.{Refining, refining, refinings, without_decomposed, past_refining}
use Rattle.msc_meaning.specs.Tables.{Table, ChartEntry, chart_at, Woven, Basic, HighLevel, Refinement, refinements}
use Rattle.msc_meaning.specs.Ties.{ties, past_inline, past_reference}
use Rattle.chart_forms.specs.BodyEvents.{is_exception}
use Rattle.expansion_tree.specs.Expansions.{Expansion, Expansions, no_parts, part_and}
use Rattle.expansion_tree.specs.Expansions as tree
use Rattle.expanded_charts.specs.Expanding.{NumberedEvent, Expanded, ExpandedParts, nothing, in_row, aside, or_nothing, exception, turns, tied, tied_pairs, past, expand_events, expand, expand_all, expand_level, expand_items, expand_item, expand_operands, expand_refinings, expand_refined, expand_graph, expand_lines, expand_node, expand_frames, expand_woven, expand_entry, expand_charts}
use Rattle.expanded_charts.specs.Expanding as expanding
use Rattle.expansion_terms.specs.ExpansionTerms.{aside_term, expansion_term, part_terms, row_term}
use Rattle.expanded_terms.specs.ExpandedTerms.{Charts, Leaves, charts_to, graph_count, lines_count, node_count, frames_count, lines_terms, node_term, frames_term, one_of, placed, turns_of, expression_count, expressions_count, level_count, items_count, item_count, operands_count, refinings_count, woven_count, event_shown, events_shown, expression_shown, expressions_shown, level_shown, items_shown, item_shown, operands_shown, refinings_shown, refined_shown, woven_shown, events_term, expression_term, alternative_terms, each_term, level_term, items_term, item_term, operand_terms, parallel_term, refinings_term, woven_term, entry_count, entry_shown, entry_term}
use Rattle.expanded_terms.specs.ExpansionLaws.{ExpansionsHaveTerms, event_by}
use Rattle.expanded_terms.specs.TagNumbers.{tied_numbers}
use Rattle.expanded_terms.proofs.TiedPairs.{pairs_are}

module _ (leaves : Leaves) where
  abbrev of_event : NumberedEvent → Tree
  of_event = event_by leaves

  -- the part has this term, these tags are still to be seen, this is the next number, and so it is an exception
  pub record IsOf (e : Expanded) (x : Tree) (sh : Shown) (m : ℕ) (b : Bool) : Type 0 where
    pub term : expansion_term of_event leaves.walk e.part ≡ x
    pub shown : e.shown ≡ sh
    pub next_is : e.next ≡ m
    pub instead : tree.is_exception e.part ≡ b

  -- and so parts, as they are read
  pub record AreOf {T : Type 0} (read : Expansions NumberedEvent → T) (l : ExpandedParts) (t : T) (sh : Shown) (m : ℕ) : Type 0 where
    pub is : read l.parts ≡ t
    pub shown : l.shown ≡ sh
    pub next_is : l.next ≡ m

  until : (e : Expanded) (x : Tree) (sh : Shown) (m k : ℕ) (b : Bool) → m ≡ k → IsOf e x sh m b → IsOf e x sh k b
  until e x sh m k b same h = subst (λ i. IsOf e x sh i b) same h

  all_until : {T : Type 0} (read : Expansions NumberedEvent → T) (l : ExpandedParts) (t : T) (sh : Shown) (m k : ℕ) → m ≡ k → AreOf read l t sh m → AreOf read l t sh k
  all_until read l t sh m k same h = subst (λ i. AreOf read l t sh i) same h

  abbrev pub row : Expansions NumberedEvent → Tree
  row = row_term of_event leaves.walk

  abbrev abreast : Expansions NumberedEvent → Tree
  abreast = aside_term of_event leaves.walk

  abbrev ones : Expansions NumberedEvent → List Tree
  ones = part_terms of_event leaves.walk

  none_of : {T : Type 0} (read : Expansions NumberedEvent → T) (n : ℕ) → AreOf read (nothing n) (read no_parts) [] (n + 0)
  none_of read n = record { is = refl; shown = refl; next_is = omega arith }

  -- a part, and behind it others
  module _ {T : Type 0} (read : Expansions NumberedEvent → T) (cons : Bool → Tree → T → T) (reads : (y : Expansion NumberedEvent) (ys : Expansions NumberedEvent) → read (part_and y ys) ≡ cons (tree.is_exception y) (expansion_term of_event leaves.walk y) (read ys)) where
    put_of : (e : Expanded) (rest : ℕ → ExpandedParts) (x : Tree) (sh : Shown) (m : ℕ) (b : Bool) (t : T) (ti : Shown) (k : ℕ) → IsOf e x sh m b → AreOf read (rest m) t ti k → AreOf read (expanding.then e rest) (cons b x t) (sh ++ ti) k
    put_of e rest x sh m b t ti k h i =
        let r : AreOf read (rest e.next) t ti k = subst (λ j. AreOf read (rest j) t ti k) (sym h.next_is) i in
        record {
          is = reads e.part (rest e.next).parts
              ∙ (ap (λ (c : Bool). cons c (expansion_term of_event leaves.walk e.part) (read (rest e.next).parts)) h.instead ∙ (ap (λ (y : Tree). cons b y (read (rest e.next).parts)) h.term ∙ ap (cons b x) r.is));
          shown = ap (λ l. l ++ (rest e.next).shown) h.shown ∙ ap (λ l. sh ++ l) r.shown;
          next_is = r.next_is;
        }

  row_put : (e : Expanded) (rest : ℕ → ExpandedParts) (x : Tree) (sh : Shown) (m : ℕ) (b : Bool) (t : Tree) (ti : Shown) (k : ℕ) → IsOf e x sh m b → AreOf row (rest m) t ti k → AreOf row (expanding.then e rest) (placed b x t) (sh ++ ti) k
  row_put = put_of row placed (λ y ys. refl)

  abreast_put : (e : Expanded) (rest : ℕ → ExpandedParts) (x : Tree) (sh : Shown) (m : ℕ) (b : Bool) (t : Tree) (ti : Shown) (k : ℕ) → IsOf e x sh m b → AreOf abreast (rest m) t ti k → AreOf abreast (expanding.then e rest) (join_all par (x ∷ t ∷ [])) (sh ++ ti) k
  abreast_put = put_of abreast (λ b x t. join_all par (x ∷ t ∷ [])) (λ y ys. refl)

  ones_put : (e : Expanded) (rest : ℕ → ExpandedParts) (x : Tree) (sh : Shown) (m : ℕ) (b : Bool) (t : List Tree) (ti : Shown) (k : ℕ) → IsOf e x sh m b → AreOf ones (rest m) t ti k → AreOf ones (expanding.then e rest) (x ∷ t) (sh ++ ti) k
  ones_put = put_of ones (λ b x t. x ∷ t) (λ y ys. refl)

  -- ---- nodes, of which nothing is shown

  pub record IsUnseen (e : Expanded) (x : Tree) (m : ℕ) (b : Bool) : Type 0 where
    pub term : expansion_term of_event leaves.walk e.part ≡ x
    pub next_is : e.next ≡ m
    pub instead : tree.is_exception e.part ≡ b

  pub record AreUnseen {T : Type 0} (read : Expansions NumberedEvent → T) (l : ExpandedParts) (t : T) (m : ℕ) : Type 0 where
    pub is : read l.parts ≡ t
    pub next_is : l.next ≡ m

  nothing_unseen : (n : ℕ) → IsUnseen (in_row (nothing n)) Nil (n + 0) false
  nothing_unseen n = record { term = refl; next_is = omega arith; instead = refl }

  unseen : (e : Expanded) (x : Tree) (sh : Shown) (m : ℕ) (b : Bool) → IsOf e x sh m b → IsUnseen e x m b
  unseen e x sh m b h = record { term = h.term; next_is = h.next_is; instead = h.instead }

  none_unseen : {T : Type 0} (read : Expansions NumberedEvent → T) (n : ℕ) → AreUnseen read (nothing n) (read no_parts) (n + 0)
  none_unseen read n = record { is = refl; next_is = omega arith }

  unseen_until : {T : Type 0} (read : Expansions NumberedEvent → T) (l : ExpandedParts) (t : T) (m k : ℕ) → m ≡ k → AreUnseen read l t m → AreUnseen read l t k
  unseen_until read l t m k same h = subst (λ i. AreUnseen read l t i) same h

  module _ {T : Type 0} (read : Expansions NumberedEvent → T) (cons : Bool → Tree → T → T) (reads : (y : Expansion NumberedEvent) (ys : Expansions NumberedEvent) → read (part_and y ys) ≡ cons (tree.is_exception y) (expansion_term of_event leaves.walk y) (read ys)) where
    put_unseen : (e : Expanded) (rest : ℕ → ExpandedParts) (x : Tree) (m : ℕ) (b : Bool) (t : T) (k : ℕ) → IsUnseen e x m b → AreUnseen read (rest m) t k → AreUnseen read (expanding.then e rest) (cons b x t) k
    put_unseen e rest x m b t k h i =
        let r : AreUnseen read (rest e.next) t k = subst (λ j. AreUnseen read (rest j) t k) (sym h.next_is) i in
        record {
          is = reads e.part (rest e.next).parts
              ∙ (ap (λ (c : Bool). cons c (expansion_term of_event leaves.walk e.part) (read (rest e.next).parts)) h.instead ∙ (ap (λ (y : Tree). cons b y (read (rest e.next).parts)) h.term ∙ ap (cons b x) r.is));
          next_is = r.next_is;
        }

  ones_unseen : (e : Expanded) (rest : ℕ → ExpandedParts) (x : Tree) (m : ℕ) (b : Bool) (t : List Tree) (k : ℕ) → IsUnseen e x m b → AreUnseen ones (rest m) t k → AreUnseen ones (expanding.then e rest) (x ∷ t) k
  ones_unseen = put_unseen ones (λ b x t. x ∷ t) (λ y ys. refl)

  abreast_unseen : (e : Expanded) (rest : ℕ → ExpandedParts) (x : Tree) (m : ℕ) (b : Bool) (t : Tree) (k : ℕ) → IsUnseen e x m b → AreUnseen abreast (rest m) t k → AreUnseen abreast (expanding.then e rest) (join_all par (x ∷ t ∷ [])) k
  abreast_unseen = put_unseen abreast (λ b x t. join_all par (x ∷ t ∷ [])) (λ y ys. refl)

  -- ---- forms

  in_row_of : (l : ExpandedParts) (t : Tree) (sh : Shown) (m : ℕ) → AreOf row l t sh m → IsOf (in_row l) t sh m false
  in_row_of l t sh m h = record { term = h.is; shown = h.shown; next_is = h.next_is; instead = refl }

  aside_of : (l : ExpandedParts) (t : Tree) (sh : Shown) (m : ℕ) → AreOf abreast l t sh m → IsOf (aside l) t sh m false
  aside_of l t sh m h = record { term = h.is; shown = h.shown; next_is = h.next_is; instead = refl }

  one_of_of : (l : ExpandedParts) (t : List Tree) (sh : Shown) (m : ℕ) → AreOf ones l t sh m → IsOf (expanding.one_of l) (one_of t) sh m false
  one_of_of l t sh m h = record { term = ap one_of h.is; shown = h.shown; next_is = h.next_is; instead = refl }

  or_nothing_of : (e : Expanded) (x : Tree) (sh : Shown) (m : ℕ) (b : Bool) → IsOf e x sh m b → IsOf (or_nothing e) (one_of (x ∷ Nil ∷ [])) sh m false
  or_nothing_of e x sh m b h = record { term = ap (λ (y : Tree). one_of (y ∷ Nil ∷ [])) h.term; shown = h.shown; next_is = h.next_is; instead = refl }

  exception_of : (e : Expanded) (x : Tree) (sh : Shown) (m : ℕ) (b : Bool) → IsOf e x sh m b → IsOf (exception e) x sh m true
  exception_of e x sh m b h = record { term = h.term; shown = h.shown; next_is = h.next_is; instead = refl }

  turns_are : (n lower : ℕ) (upper : Option ℕ) (e : Expanded) (x : Tree) (sh : Shown) (m : ℕ) (b : Bool) → IsOf e x sh m b → IsOf (turns n lower upper e) (turns_of lower upper x) sh m false
  turns_are n lower upper e x sh m b h = record { term = ap (turns_of lower upper) h.term; shown = h.shown; next_is = h.next_is; instead = refl }

  tied_of : (ts : List (Tag × Tag)) (e : Expanded) (x : Tree) (sh : Shown) (m : ℕ) (b : Bool) → IsOf e x sh m b → IsOf (tied ts e) (tie_of x (tied_numbers sh ts)) sh m false
  tied_of ts e x sh m b h = record {
    term = ap (λ (y : Tree). tie_of y (pairs_of (tied_pairs e.shown ts))) h.term ∙ (ap (λ (l : Shown). tie_of x (pairs_of (tied_pairs l ts))) h.shown ∙ ap (tie_of x) (pairs_are sh ts));
    shown = h.shown;
    next_is = h.next_is;
    instead = refl;
  }

  past_of : (f : Tag → List Tag) (e : Expanded) (x : Tree) (sh : Shown) (m : ℕ) (b : Bool) → IsOf e x sh m b → IsOf (past f e) x (past_shown f sh) m b
  past_of f e x sh m b h = record { term = h.term; shown = ap (past_shown f) h.shown; next_is = h.next_is; instead = h.instead }

  event_of : (n : ℕ) (h : Happening) → IsOf (expanding.event n h) (leaves.event n h) (shown_at n h.tags) (n + 1) false
  event_of n h = record { term = refl; shown = refl; next_is = omega arith; instead = refl }

  module _ (ends_of : WovenItems → List GateEnd) (chart : expanding.Charts) (charts : Charts) (known : (name : List ℕ) (gates : GateMap) (n : ℕ) → IsOf (chart name gates n) (charts.term name gates n) (charts.shown name n) (n + charts.count name) false) where
    events_of : (es : List GateEnd) (a : Around) (n : ℕ) (ks : List EventNode) → AreOf abreast (expand_events chart ends_of es a n ks) (events_term charts leaves ends_of es a n ks) (events_shown charts n ks) (n + length ks)
    events_of es a n [] = none_of abreast n
    events_of es a n (k ∷ ks) =
        all_until abreast (expand_events chart ends_of es a n (k ∷ ks)) (events_term charts leaves ends_of es a n (k ∷ ks)) (events_shown charts n (k ∷ ks)) (n + 1 + length ks) (n + length (k ∷ ks)) (omega arith)
        (abreast_put (expanding.event n (happening es a k)) (λ m. expand_events chart ends_of es a m ks) (leaves.event n (happening es a k)) (event_shown charts n k) (n + 1) false (events_term charts leaves ends_of es a (n + 1) ks) (events_shown charts (n + 1) ks) (n + 1 + length ks)
        (event_of n (happening es a k)) (events_of es a (n + 1) ks))

    -- ---- expressions

    mutual
      pub expression_of : (gates : GateMap) (n : ℕ) (e : Expression) → IsOf (expand chart ends_of gates n e) (expression_term charts leaves ends_of gates n e) (expression_shown charts n e) (n + expression_count charts e) false
      expression_of gates n Empty = in_row_of (nothing n) Nil [] (n + 0) (none_of row n)
      expression_of gates n (Chart name) = known name gates n
      expression_of gates n (Alt parts) = one_of_of (expand_all chart ends_of gates n parts) (alternative_terms charts leaves ends_of gates n parts) (expressions_shown charts n parts) (n + expressions_count charts parts) (alternatives_of gates n parts)
      expression_of gates n (Par parts) = aside_of (expand_all chart ends_of gates n parts) (each_term charts leaves ends_of par gates n parts) (expressions_shown charts n parts) (n + expressions_count charts parts) (all_of gates n parts)
      expression_of gates n (Seq parts) = in_row_of (expand_all chart ends_of gates n parts) (each_term charts leaves ends_of seq gates n parts) (expressions_shown charts n parts) (n + expressions_count charts parts) (sequence_of gates n parts)
      expression_of gates n (Opt part) = or_nothing_of (expand chart ends_of gates n part) (expression_term charts leaves ends_of gates n part) (expression_shown charts n part) (n + expression_count charts part) false (expression_of gates n part)
      expression_of gates n (expression.Loop lower upper part) =
          turns_are n lower upper (expand chart ends_of gates n part) (expression_term charts leaves ends_of gates n part) (expression_shown charts n part) (n + expression_count charts part) false (expression_of gates n part)

      alternatives_of : (gates : GateMap) (n : ℕ) (xs : Expressions) → AreOf ones (expand_all chart ends_of gates n xs) (alternative_terms charts leaves ends_of gates n xs) (expressions_shown charts n xs) (n + expressions_count charts xs)
      alternatives_of gates n none = none_of ones n
      alternatives_of gates n (more x xs) =
          all_until ones (expand_all chart ends_of gates n (more x xs)) (alternative_terms charts leaves ends_of gates n (more x xs)) (expressions_shown charts n (more x xs)) (n + expression_count charts x + expressions_count charts xs) (n + expressions_count charts (more x xs)) (omega arith)
          (ones_put (expand chart ends_of gates n x) (λ m. expand_all chart ends_of gates m xs) (expression_term charts leaves ends_of gates n x) (expression_shown charts n x) (n + expression_count charts x) false
          (alternative_terms charts leaves ends_of gates (n + expression_count charts x) xs) (expressions_shown charts (n + expression_count charts x) xs) (n + expression_count charts x + expressions_count charts xs)
          (expression_of gates n x) (alternatives_of gates (n + expression_count charts x) xs))

      all_of : (gates : GateMap) (n : ℕ) (xs : Expressions) → AreOf abreast (expand_all chart ends_of gates n xs) (each_term charts leaves ends_of par gates n xs) (expressions_shown charts n xs) (n + expressions_count charts xs)
      all_of gates n none = none_of abreast n
      all_of gates n (more x xs) =
          all_until abreast (expand_all chart ends_of gates n (more x xs)) (each_term charts leaves ends_of par gates n (more x xs)) (expressions_shown charts n (more x xs)) (n + expression_count charts x + expressions_count charts xs) (n + expressions_count charts (more x xs)) (omega arith)
          (abreast_put (expand chart ends_of gates n x) (λ m. expand_all chart ends_of gates m xs) (expression_term charts leaves ends_of gates n x) (expression_shown charts n x) (n + expression_count charts x) false
          (each_term charts leaves ends_of par gates (n + expression_count charts x) xs) (expressions_shown charts (n + expression_count charts x) xs) (n + expression_count charts x + expressions_count charts xs)
          (expression_of gates n x) (all_of gates (n + expression_count charts x) xs))

      sequence_of : (gates : GateMap) (n : ℕ) (xs : Expressions) → AreOf row (expand_all chart ends_of gates n xs) (each_term charts leaves ends_of seq gates n xs) (expressions_shown charts n xs) (n + expressions_count charts xs)
      sequence_of gates n none = none_of row n
      sequence_of gates n (more x xs) =
          all_until row (expand_all chart ends_of gates n (more x xs)) (each_term charts leaves ends_of seq gates n (more x xs)) (expressions_shown charts n (more x xs)) (n + expression_count charts x + expressions_count charts xs) (n + expressions_count charts (more x xs)) (omega arith)
          (row_put (expand chart ends_of gates n x) (λ m. expand_all chart ends_of gates m xs) (expression_term charts leaves ends_of gates n x) (expression_shown charts n x) (n + expression_count charts x) false
          (each_term charts leaves ends_of seq gates (n + expression_count charts x) xs) (expressions_shown charts (n + expression_count charts x) xs) (n + expression_count charts x + expressions_count charts xs)
          (expression_of gates n x) (sequence_of gates (n + expression_count charts x) xs))

    -- ---- levels

    -- items, tied
    pub tied_items : (a : Around) (n : ℕ) (held : WovenItems) (g : Gates) (ts : List (Tag × Tag)) (f : Tag → List Tag) → AreOf row (expand_items chart ends_of g a n held) (items_term charts leaves ends_of g a n held) (items_shown charts g.calls n held) (n + items_count charts held)
        → IsOf (past f (tied ts (in_row (expand_items chart ends_of g a n held)))) (tie_of (items_term charts leaves ends_of g a n held) (tied_numbers (items_shown charts g.calls n held) ts)) (past_shown f (items_shown charts g.calls n held)) (n + items_count charts held) false
    tied_items a n held g ts f h =
        past_of f (tied ts (in_row (expand_items chart ends_of g a n held))) (tie_of (items_term charts leaves ends_of g a n held) (tied_numbers (items_shown charts g.calls n held) ts)) (items_shown charts g.calls n held) (n + items_count charts held) false
        (tied_of ts (in_row (expand_items chart ends_of g a n held)) (items_term charts leaves ends_of g a n held) (items_shown charts g.calls n held) (n + items_count charts held) false
        (in_row_of (expand_items chart ends_of g a n held) (items_term charts leaves ends_of g a n held) (items_shown charts g.calls n held) (n + items_count charts held) h))

    -- one of the operands
    some_of : (a : Around) (n : ℕ) (bs : Bodies) → AreOf ones (expand_operands chart ends_of a n bs) (operand_terms charts leaves ends_of a n bs) (operands_shown charts n bs) (n + operands_count charts bs)
        → IsOf (expanding.one_of (expand_operands chart ends_of a n bs)) (one_of (operand_terms charts leaves ends_of a n bs)) (operands_shown charts n bs) (n + operands_count charts bs) false
    some_of a n bs h = one_of_of (expand_operands chart ends_of a n bs) (operand_terms charts leaves ends_of a n bs) (operands_shown charts n bs) (n + operands_count charts bs) h

    mutual
      pub level_of : (a : Around) (n : ℕ) (b : Body) → IsOf (expand_level chart ends_of a n b) (level_term charts leaves ends_of a n b) (level_shown charts n b) (n + level_count charts b) false
      level_of a n (level cover held pairs) = tied_items a n held (gates_of held (ends_of held)) (ties held pairs (calls held) (ends_of held)) past_level (items_of (gates_of held (ends_of held)) a n held)

      pub items_of : (g : Gates) (a : Around) (n : ℕ) (xs : WovenItems) → AreOf row (expand_items chart ends_of g a n xs) (items_term charts leaves ends_of g a n xs) (items_shown charts g.calls n xs) (n + items_count charts xs)
      items_of g a n no_items = none_of row n
      items_of g a n (item_and x xs) =
          all_until row (expand_items chart ends_of g a n (item_and x xs)) (items_term charts leaves ends_of g a n (item_and x xs)) (items_shown charts g.calls n (item_and x xs)) (n + item_count charts x + items_count charts xs) (n + items_count charts (item_and x xs)) (omega arith)
          (row_put (expand_item chart ends_of g a n x) (λ m. expand_items chart ends_of g a m xs) (item_term charts leaves ends_of g a n x) (item_shown charts g.calls n x) (n + item_count charts x) (is_exception x)
          (items_term charts leaves ends_of g a (n + item_count charts x) xs) (items_shown charts g.calls (n + item_count charts x) xs) (n + item_count charts x + items_count charts xs) (item_of g a n x) (items_of g a (n + item_count charts x) xs))

      pub item_of : (g : Gates) (a : Around) (n : ℕ) (x : WovenItem) → IsOf (expand_item chart ends_of g a n x) (item_term charts leaves ends_of g a n x) (item_shown charts g.calls n x) (n + item_count charts x) (is_exception x)
      item_of g a n (Single k) = event_of n (happening g.ends a k)
      item_of g a n (Coregion ks) = aside_of (expand_events chart ends_of g.ends a n ks) (events_term charts leaves ends_of g.ends a n ks) (events_shown charts n ks) (n + length ks) (events_of g.ends a n ks)
      item_of g a n (Refer part) =
          past_of (past_reference g.calls part.name part.joins) (expand chart ends_of (gates_referred g part.name part.joins a.gates) n part.expression) (expression_term charts leaves ends_of (gates_referred g part.name part.joins a.gates) n part.expression)
          (expression_shown charts n part.expression) (n + expression_count charts part.expression) false (expression_of (gates_referred g part.name part.joins a.gates) n part.expression)
      item_of g a n (Inline inline.Alt part bs) =
          past_of (past_inline g.calls part.name) (expanding.one_of (expand_operands chart ends_of (inside g part.name a) n bs)) (one_of (operand_terms charts leaves ends_of (inside g part.name a) n bs)) (operands_shown charts n bs) (n + operands_count charts bs) false
          (some_of (inside g part.name a) n bs (operands_of (inside g part.name a) n bs))
      item_of g a n (Inline inline.Opt part bs) =
          past_of (past_inline g.calls part.name) (or_nothing (expanding.one_of (expand_operands chart ends_of (inside g part.name a) n bs))) (one_of (one_of (operand_terms charts leaves ends_of (inside g part.name a) n bs) ∷ Nil ∷ [])) (operands_shown charts n bs)
          (n + operands_count charts bs) false
          (or_nothing_of (expanding.one_of (expand_operands chart ends_of (inside g part.name a) n bs)) (one_of (operand_terms charts leaves ends_of (inside g part.name a) n bs)) (operands_shown charts n bs) (n + operands_count charts bs) false (some_of (inside g part.name a) n bs (operands_of (inside g part.name a) n bs)))
      item_of g a n (Inline inline.Exc part bs) =
          past_of (past_inline g.calls part.name) (exception (expanding.one_of (expand_operands chart ends_of (inside g part.name a) n bs))) (one_of (operand_terms charts leaves ends_of (inside g part.name a) n bs)) (operands_shown charts n bs) (n + operands_count charts bs) true
          (exception_of (expanding.one_of (expand_operands chart ends_of (inside g part.name a) n bs)) (one_of (operand_terms charts leaves ends_of (inside g part.name a) n bs)) (operands_shown charts n bs) (n + operands_count charts bs) false (some_of (inside g part.name a) n bs (operands_of (inside g part.name a) n bs)))
      item_of g a n (Inline inline.Par part bs) =
          past_of (past_inline g.calls part.name) (aside (expand_operands chart ends_of (inside g part.name a) n bs)) (parallel_term charts leaves ends_of (inside g part.name a) n bs) (operands_shown charts n bs) (n + operands_count charts bs) false
          (aside_of (expand_operands chart ends_of (inside g part.name a) n bs) (parallel_term charts leaves ends_of (inside g part.name a) n bs) (operands_shown charts n bs) (n + operands_count charts bs) (parallel_of (inside g part.name a) n bs))
      item_of g a n (Inline inline.Loop part bs) =
          past_of (past_inline g.calls part.name) (turns n part.lower part.upper (expanding.one_of (expand_operands chart ends_of (inside g part.name a) n bs))) (turns_of part.lower part.upper (one_of (operand_terms charts leaves ends_of (inside g part.name a) n bs)))
          (operands_shown charts n bs) (n + operands_count charts bs) false
          (turns_are n part.lower part.upper (expanding.one_of (expand_operands chart ends_of (inside g part.name a) n bs)) (one_of (operand_terms charts leaves ends_of (inside g part.name a) n bs)) (operands_shown charts n bs) (n + operands_count charts bs) false
          (some_of (inside g part.name a) n bs (operands_of (inside g part.name a) n bs)))

      operands_of : (a : Around) (n : ℕ) (bs : Bodies) → AreOf ones (expand_operands chart ends_of a n bs) (operand_terms charts leaves ends_of a n bs) (operands_shown charts n bs) (n + operands_count charts bs)
      operands_of a n no_bodies = none_of ones n
      operands_of a n (body_and b bs) =
          all_until ones (expand_operands chart ends_of a n (body_and b bs)) (operand_terms charts leaves ends_of a n (body_and b bs)) (operands_shown charts n (body_and b bs)) (n + level_count charts b + operands_count charts bs) (n + operands_count charts (body_and b bs)) (omega arith)
          (ones_put (expand_level chart ends_of a n b) (λ m. expand_operands chart ends_of a m bs) (level_term charts leaves ends_of a n b) (level_shown charts n b) (n + level_count charts b) false (operand_terms charts leaves ends_of a (n + level_count charts b) bs)
          (operands_shown charts (n + level_count charts b) bs) (n + level_count charts b + operands_count charts bs) (level_of a n b) (operands_of a (n + level_count charts b) bs))

      parallel_of : (a : Around) (n : ℕ) (bs : Bodies) → AreOf abreast (expand_operands chart ends_of a n bs) (parallel_term charts leaves ends_of a n bs) (operands_shown charts n bs) (n + operands_count charts bs)
      parallel_of a n no_bodies = none_of abreast n
      parallel_of a n (body_and b bs) =
          all_until abreast (expand_operands chart ends_of a n (body_and b bs)) (parallel_term charts leaves ends_of a n (body_and b bs)) (operands_shown charts n (body_and b bs)) (n + level_count charts b + operands_count charts bs) (n + operands_count charts (body_and b bs)) (omega arith)
          (abreast_put (expand_level chart ends_of a n b) (λ m. expand_operands chart ends_of a m bs) (level_term charts leaves ends_of a n b) (level_shown charts n b) (n + level_count charts b) false (parallel_term charts leaves ends_of a (n + level_count charts b) bs)
          (operands_shown charts (n + level_count charts b) bs) (n + level_count charts b + operands_count charts bs) (level_of a n b) (parallel_of a (n + level_count charts b) bs))

    -- ---- charts

    refinings_of : (far_of : EventNode → Far) (n : ℕ) (rs : List Refining) → AreOf abreast (expand_refinings chart ends_of far_of n rs) (refinings_term charts leaves ends_of far_of n rs) (refinings_shown charts n rs) (n + refinings_count charts rs)
    refinings_of far_of n [] = none_of abreast n
    refinings_of far_of n (refining (level cover held pairs) ms ∷ rs) =
        all_until abreast (expand_refinings chart ends_of far_of n (refining (level cover held pairs) ms ∷ rs)) (refinings_term charts leaves ends_of far_of n (refining (level cover held pairs) ms ∷ rs)) (refinings_shown charts n (refining (level cover held pairs) ms ∷ rs))
        (n + items_count charts held + refinings_count charts rs) (n + refinings_count charts (refining (level cover held pairs) ms ∷ rs)) (omega arith)
        (abreast_put (past (past_refining ms) (tied (ties held pairs (calls held) (ends_of held)) (in_row (expand_items chart ends_of (gates_of held (ends_of held)) (refining_under far_of ms) n held)))) (λ m. expand_refinings chart ends_of far_of m rs)
        (tie_of (items_term charts leaves ends_of (gates_of held (ends_of held)) (refining_under far_of ms) n held) (tied_numbers (items_shown charts (calls held) n held) (ties held pairs (calls held) (ends_of held)))) (past_shown (past_refining ms) (items_shown charts (calls held) n held))
        (n + items_count charts held) false (refinings_term charts leaves ends_of far_of (n + items_count charts held) rs) (refinings_shown charts (n + items_count charts held) rs) (n + items_count charts held + refinings_count charts rs)
        (tied_items (refining_under far_of ms) n held (gates_of held (ends_of held)) (ties held pairs (calls held) (ends_of held)) (past_refining ms) (items_of (gates_of held (ends_of held)) (refining_under far_of ms) n held)) (refinings_of far_of (n + items_count charts held) rs))

    mutual
      pub graph_of : (n : ℕ) (drawn : Graph) → IsOf (expand_graph chart ends_of n drawn) (leaves.walk n) [] (n + graph_count charts drawn) false
      graph_of n (graph starts lines) = let e = (lines_of (suc n) lines).next_is in record { term = refl; shown = refl; next_is = omega (arith, e); instead = refl }

      -- the nodes have their terms
      pub lines_of : (n : ℕ) (lines : Lines) → AreUnseen ones (expand_lines chart ends_of n lines) (lines_terms charts leaves ends_of n lines) (n + lines_count charts lines)
      lines_of n no_lines = none_unseen ones n
      lines_of n (line_and (line label place node next) rest) =
          unseen_until ones (expand_lines chart ends_of n (line_and (line label place node next) rest)) (lines_terms charts leaves ends_of n (line_and (line label place node next) rest)) (n + node_count charts node + lines_count charts rest) (n + lines_count charts (line_and (line label place node next) rest)) (omega arith)
          (ones_unseen (expand_node chart ends_of n node) (λ m. expand_lines chart ends_of m rest) (node_term charts leaves ends_of n node) (n + node_count charts node) false (lines_terms charts leaves ends_of (n + node_count charts node) rest)
          (n + node_count charts node + lines_count charts rest) (node_of n node) (lines_of (n + node_count charts node) rest))

      pub node_of : (n : ℕ) (node : Node) → IsUnseen (expand_node chart ends_of n node) (node_term charts leaves ends_of n node) (n + node_count charts node) false
      node_of n Ends = nothing_unseen n
      node_of n Connect = nothing_unseen n
      node_of n (Condition names) = nothing_unseen n
      node_of n (graphs.Refer e) = unseen (expand chart ends_of no_gates n e) (expression_term charts leaves ends_of no_gates n e) (expression_shown charts n e) (n + expression_count charts e) false (expression_of no_gates n e)
      node_of n (Frames held) = let f = frames_of n held in record { term = f.is; next_is = f.next_is; instead = refl }

      frames_of : (n : ℕ) (held : Graphs) → AreUnseen abreast (expand_frames chart ends_of n held) (frames_term charts leaves ends_of n held) (n + frames_count charts held)
      frames_of n no_graphs = none_unseen abreast n
      frames_of n (graph_and drawn rest) =
          unseen_until abreast (expand_frames chart ends_of n (graph_and drawn rest)) (frames_term charts leaves ends_of n (graph_and drawn rest)) (n + graph_count charts drawn + frames_count charts rest) (n + frames_count charts (graph_and drawn rest)) (omega arith)
          (abreast_unseen (expand_graph chart ends_of n drawn) (λ m. expand_frames chart ends_of m rest) (leaves.walk n) (n + graph_count charts drawn) false (frames_term charts leaves ends_of (n + graph_count charts drawn) rest)
          (n + graph_count charts drawn + frames_count charts rest) (unseen (expand_graph chart ends_of n drawn) (leaves.walk n) [] (n + graph_count charts drawn) false (graph_of n drawn)) (frames_of (n + graph_count charts drawn) rest))

    woven_of : (table : Table) (gates : GateMap) (n : ℕ) (rs : List Refinement) (content : Woven) → IsOf (expand_woven chart ends_of table gates n rs content) (woven_term charts leaves ends_of table gates n rs content) (woven_shown charts table n rs content) (n + woven_count charts table rs content) false
    woven_of table gates n [] (Basic held) = level_of (under gates) n held
    woven_of table gates n (r ∷ rs) (Basic (level cover held pairs)) =
        until (expand_woven chart ends_of table gates n (r ∷ rs) (Basic (level cover held pairs))) (woven_term charts leaves ends_of table gates n (r ∷ rs) (Basic (level cover held pairs))) (woven_shown charts table n (r ∷ rs) (Basic (level cover held pairs)))
        (n + items_count charts left + refinings_count charts fs) (n + woven_count charts table (r ∷ rs) (Basic (level cover held pairs))) false (omega arith)
        (past_of past_level (tied ts (aside parts)) (tie_of (join_all par (rest ∷ fine ∷ [])) (tied_numbers (refined_shown charts table n (r ∷ rs) held) ts)) (refined_shown charts table n (r ∷ rs) held) (n + items_count charts left + refinings_count charts fs) false
        (tied_of ts (aside parts) (join_all par (rest ∷ fine ∷ [])) (refined_shown charts table n (r ∷ rs) held) (n + items_count charts left + refinings_count charts fs) false
        (aside_of parts (join_all par (rest ∷ fine ∷ [])) (refined_shown charts table n (r ∷ rs) held) (n + items_count charts left + refinings_count charts fs)
        (abreast_put (in_row (expand_items chart ends_of (gates_of held (ends_of held)) around n left)) (λ m. expand_refinings chart ends_of (far_end (ends_of held) around) m fs) rest (items_shown charts (calls held) n left) (n + items_count charts left) false fine
        (refinings_shown charts (n + items_count charts left) fs) (n + items_count charts left + refinings_count charts fs)
        (in_row_of (expand_items chart ends_of (gates_of held (ends_of held)) around n left) rest (items_shown charts (calls held) n left) (n + items_count charts left) (items_of (gates_of held (ends_of held)) around n left))
        (refinings_of (far_end (ends_of held) around) (n + items_count charts left) fs)))))
      where
        fs : List Refining
        fs = refinings table held (r ∷ rs)

        left : WovenItems
        left = without_decomposed (r ∷ rs) held

        around : Around
        around = refined_under gates pairs fs

        ts : List (Tag × Tag)
        ts = ties held pairs (calls held) (ends_of held)

        parts : ExpandedParts
        parts = expanding.then (in_row (expand_items chart ends_of (gates_of held (ends_of held)) around n left)) (λ m. expand_refinings chart ends_of (far_end (ends_of held) around) m fs)

        rest : Tree
        rest = items_term charts leaves ends_of (gates_of held (ends_of held)) around n left

        fine : Tree
        fine = refinings_term charts leaves ends_of (far_end (ends_of held) around) (n + items_count charts left) fs
    woven_of table gates n [] (HighLevel drawn) = graph_of n drawn
    woven_of table gates n (r ∷ rs) (HighLevel drawn) = graph_of n drawn

    entry_of : (table : Table) (gates : GateMap) (n : ℕ) (o : Option ChartEntry) → IsOf (expand_entry ends_of table chart gates n o) (entry_term leaves ends_of table charts gates n o) (entry_shown charts table n o) (n + entry_count charts table o) false
    entry_of table gates n None = in_row_of (nothing n) Nil [] (n + 0) (none_of row n)
    entry_of table gates n (Some entry) = woven_of table gates n (refinements entry.decls) entry.content

  pub charts_are : (ends_of : WovenItems → List GateEnd) (table : Table) (depth : ℕ) (name : List ℕ) (gates : GateMap) (n : ℕ)
      → IsOf (expand_charts ends_of table depth name gates n) ((charts_to leaves ends_of table depth).term name gates n) ((charts_to leaves ends_of table depth).shown name n) (n + (charts_to leaves ends_of table depth).count name) false
  charts_are ends_of table zero name gates n = in_row_of (nothing n) Nil [] (n + 0) (none_of row n)
  charts_are ends_of table (suc depth) name gates n = entry_of ends_of (expand_charts ends_of table depth) (charts_to leaves ends_of table depth) (charts_are ends_of table depth) table gates n (chart_at table name)

pub expansions_have_terms : ExpansionsHaveTerms
expansions_have_terms = record {
  term = λ leaves ends_of table depth name gates n. (charts_are leaves ends_of table depth name gates n).term;
  lines = λ leaves ends_of table depth n held. (lines_of leaves ends_of (expand_charts ends_of table depth) (charts_to leaves ends_of table depth) (charts_are leaves ends_of table depth) n held).is;
  shown = λ leaves ends_of table depth name gates n. (charts_are leaves ends_of table depth name gates n).shown;
  next = λ leaves ends_of table depth name gates n. (charts_are leaves ends_of table depth name gates n).next_is;
}
