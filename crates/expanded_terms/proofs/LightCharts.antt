-- The term of a chart weighs no more than the chart's expanded size, by tags and as it is counted in the table: its joins come to no more
-- than their products, and its levels have few pairs.
use Rattle.std.specs.Prelude.{ℕ, zero, suc, ◌+◌, ◌*◌, ◌≤◌, Bool, true, false, List, [], ◌∷◌, ◌++◌, Option, None, Some, length, if◌then◌else◌}
use Rattle.std.proofs.Common.{◌≡◌, refl, sym, ◌∙◌, ap, arith}
use Rattle.std.proofs.Math.Nat.{mul_comm}
use Rattle.msc_base.specs.declared.label.Kind.{Kind}
use Rattle.msc_base.specs.declared.label.Kind.TheVariants as kind
use Rattle.msc_unfolding.specs.Unfoldings.{Tag, On}
use Rattle.chart_term.specs.Terms.{weight}
use Rattle.chart_forms.specs.TableSizes.{size_to}
use Rattle.gate_ends.specs.FoundEnds.{inner_to}
use Rattle.gate_ends.specs.JoinCounts.{reference_count}
use Rattle.sound_terms.specs.TableLaws.{ConstructorsWeigh}
use Rattle.term_meaning.specs.Portions.{Shown}
use Rattle.msc_tree.specs.declared.reference.Join.{Join}
use Rattle.msc_tree.specs.declared.reference.JoinEnd.{JoinEnd}
use Rattle.msc_tree.specs.declared.reference.JoinEnd.TheVariants as join_end
use Rattle.msc_tree.specs.Expressions.{Expression, Empty, Chart, Alt, Par, Seq, Opt, Expressions, none, more}
use Rattle.msc_tree.specs.Expressions as expression
use Rattle.msc_tree.specs.Graphs as tree
use Rattle.msc_tree.specs.Graphs.{graph, Lines, no_lines, line_and, line, Node, Ends, Connect, Condition, Frames, Graphs, no_graphs, graph_and}
use Rattle.msc_meaning.specs.Bodies.{Body, level, WovenItems, no_items, item_and, WovenItem, Single, Coregion, Inline, Refer, Bodies, no_bodies, body_and}
use Rattle.msc_meaning.specs.Calls.{calls}
use Rattle.msc_meaning.specs.FarEnds.{GateMap, end_at}
use Rattle.msc_meaning.specs.InnerEvents.{GateEnd}
use Rattle.msc_meaning.specs.Refinements.{refining_by, refinings, is_decomposed, without_decomposed}
use Rattle.msc_meaning.specs.Tables.{Table, ChartEntry, chart_at, body_at, Woven, Basic, HighLevel, Refinement, refinements}
use Rattle.msc_meaning.specs.Ties.{in_order, tie_by, join_tie, joins_ties, items_joins_ties, ties}
use Rattle.expanded_terms.specs.NetWeights.{held_to}
use Rattle.expanded_terms.specs.ExpandedSizes.{AreLeavesLight, HaveFewInLines, HasFewInNode, HaveFewInFrames, HasFewInExpression, HaveFewInExpressions, HasFewPairs, HaveFewPairs, HasFewWithin, EachHasFew, HaveFewInRefinings, HasFewInWoven, HasFewInEntry, HasFewTo}
use Rattle.expanded_terms.specs.ExpandedTerms.{node_count, graph_count, Leaves, Charts, charts_to, items_shown, expression_count, items_count, item_count, level_count}
use Rattle.expanded_terms.specs.FewPairs.{products}
use Rattle.expanded_terms.specs.JoinProducts.{AreFewLines, IsFewNode, AreFewFrames, often, join_product, joins_product, product_in, IsFewExpression, AreFewExpressions, IsFewLevel, AreFewItems, IsFewItem, AreFewOperands, IsFewBody, AreFewRefined, IsFewWoven, IsFewEntry, IsFewTo, ChartsAreLight}
use Rattle.expanded_terms.specs.TagNumbers.{numbers_with, pairs_between, tied_numbers}
use Rattle.expanded_terms.proofs.FewPairs.{length_app, between_length, tied_both, few_pairs_have_room}
use Rattle.expanded_terms.proofs.DecomposedOnce.{DecomposeOnce, decompose_once}
use Rattle.expanded_terms.proofs.JoinCounts.{charts_counted}
use Rattle.expanded_terms.proofs.RefinedCounts.{is_one, total, often_total, refined_room}
use Rattle.expanded_terms.proofs.ShownAnywhere.{tags, items_same, charts_same}
use Rattle.expanded_terms.proofs.TermWeights.{expanded_terms_weigh}

-- ---- products

module _ (sh : Shown) where
  tied_one : (a b : Tag) → length (tied_numbers sh ((a, b) ∷ [])) ≡ often a sh * often b sh
  tied_one a b = omega (arith, length_app (pairs_between (numbers_with a sh) (numbers_with b sh)) [], between_length (numbers_with a sh) (numbers_with b sh))

  in_order_is : (k : Kind) (a b : Tag) → length (tied_numbers sh (in_order k a b ∷ [])) ≡ often a sh * often b sh
  in_order_is kind.Input a b = tied_one b a ∙ mul_comm (often b sh) (often a sh)
  in_order_is kind.Output a b = tied_one a b
  in_order_is kind.OutputLost a b = tied_one a b
  in_order_is kind.InputFound a b = tied_one a b
  in_order_is kind.Action a b = tied_one a b
  in_order_is kind.TimerStart a b = tied_one a b
  in_order_is kind.TimerStop a b = tied_one a b
  in_order_is kind.Timeout a b = tied_one a b
  in_order_is kind.Create a b = tied_one a b

  by_end : (o : Option GateEnd) (own g name h : List ℕ) → length (tied_numbers sh (tie_by o own g name h)) ≤ often (On own g) sh * often (On name h) sh
  by_end None own g name h = omega arith
  by_end (Some e) own g name h = let i = in_order_is e.kind (On own g) (On name h) in omega (arith, i)

  join_most : (ends : List GateEnd) (own g : List ℕ) (to : JoinEnd) → length (tied_numbers sh (join_tie ends own g to)) ≤ join_product sh own g to
  join_most ends own g (join_end.Env h) = omega arith
  join_most ends own g (join_end.Reference name h) = by_end (end_at ends own g) own g name h

  joins_most : (ends : List GateEnd) (o : Option (List ℕ)) (js : List Join) → length (tied_numbers sh (joins_ties ends o js)) ≤ joins_product sh o js
  joins_most ends None js = omega arith
  joins_most ends (Some own) [] = omega arith
  joins_most ends (Some own) (j ∷ js) = omega (arith, tied_both sh (join_tie ends own j.gate j.to) (joins_ties ends (Some own) js), join_most ends own j.gate j.to, joins_most ends (Some own) js)

often_same : (t : Tag) (a b : Shown) → tags a ≡ tags b → often t a ≡ often t b
often_same t a b e = often_total t a ∙ (ap (total (is_one t)) e ∙ sym (often_total t b))

join_same : (a b : Shown) → tags a ≡ tags b → (own g : List ℕ) (to : JoinEnd) → join_product a own g to ≡ join_product b own g to
join_same a b e own g (join_end.Env h) = refl
join_same a b e own g (join_end.Reference name h) = ap (λ k. k * often (On name h) a) (often_same (On own g) a b e) ∙ ap (λ k. often (On own g) b * k) (often_same (On name h) a b e)

joins_same : (a b : Shown) → tags a ≡ tags b → (o : Option (List ℕ)) (js : List Join) → joins_product a o js ≡ joins_product b o js
joins_same a b e None js = refl
joins_same a b e (Some own) [] = refl
joins_same a b e (Some own) (j ∷ js) = omega (arith, join_same a b e own j.gate j.to, joins_same a b e (Some own) js)

module _ (charts : Charts) (same : (name : List ℕ) (n m : ℕ) → tags (charts.shown name n) ≡ tags (charts.shown name m)) where
  items_most : (ends : List GateEnd) (whole : WovenItems) (n : ℕ) (xs : WovenItems) → length (tied_numbers (items_shown charts (calls whole) n whole) (items_joins_ties ends xs)) ≤ products (product_in charts) whole xs
  items_most ends whole n no_items = omega arith
  items_most ends whole n (item_and (Single k) xs) = omega (arith, items_most ends whole n xs)
  items_most ends whole n (item_and (Coregion ks) xs) = omega (arith, items_most ends whole n xs)
  items_most ends whole n (item_and (Inline form part operands) xs) = omega (arith, items_most ends whole n xs)
  items_most ends whole n (item_and (Refer part) xs) =
      let sh = items_shown charts (calls whole) n whole in
      omega (arith, tied_both sh (joins_ties ends part.name part.joins) (items_joins_ties ends xs), joins_most sh ends part.name part.joins, joins_same sh (items_shown charts (calls whole) 0 whole) (items_same charts same (calls whole) n 0 whole) part.name part.joins, items_most ends whole n xs)

  module _ (ends_of : WovenItems → List GateEnd) (Few : List ℕ → Type 0) (HasFew : List ℕ → ℕ → Type 0) (known : (name : List ℕ) (n : ℕ) → Few name → HasFew name n) where
    mutual
      expression_few : (n : ℕ) (e : Expression) → IsFewExpression Few e → HasFewInExpression charts (product_in charts) ends_of HasFew n e
      expression_few n Empty h = tt
      expression_few n (Chart name) h = known name n h
      expression_few n (Alt parts) h = expressions_few n parts h
      expression_few n (Par parts) h = expressions_few n parts h
      expression_few n (Seq parts) h = expressions_few n parts h
      expression_few n (Opt part) h = expression_few n part h
      expression_few n (expression.Loop lower upper part) h = expression_few n part h

      expressions_few : (n : ℕ) (xs : Expressions) → AreFewExpressions Few xs → HaveFewInExpressions charts (product_in charts) ends_of HasFew n xs
      expressions_few n none h = tt
      expressions_few n (more x xs) (h, i) = (expression_few n x h, expressions_few (n + expression_count charts x) xs i)

    mutual
      level_few : (n : ℕ) (b : Body) → IsFewLevel Few b → HasFewPairs charts (product_in charts) ends_of HasFew n b
      level_few n (level cover held pairs) (h, i) = (few_pairs_have_room.room charts (product_in charts) ends_of n cover held pairs h (items_most (ends_of held) held n held), items_few n held i)

      items_few : (n : ℕ) (xs : WovenItems) → AreFewItems Few xs → HaveFewPairs charts (product_in charts) ends_of HasFew n xs
      items_few n no_items h = tt
      items_few n (item_and x xs) (h, i) = (item_few n x h, items_few (n + item_count charts x) xs i)

      item_few : (n : ℕ) (x : WovenItem) → IsFewItem Few x → HasFewWithin charts (product_in charts) ends_of HasFew n x
      item_few n (Single k) h = tt
      item_few n (Coregion ks) h = tt
      item_few n (Inline form part operands) (has, h) = (has, operands_few n operands h)
      item_few n (Refer part) h = expression_few n part.expression h

      operands_few : (n : ℕ) (bs : Bodies) → AreFewOperands Few bs → EachHasFew charts (product_in charts) ends_of HasFew n bs
      operands_few n no_bodies h = tt
      operands_few n (body_and b bs) (h, i) = (level_few n b h, operands_few (n + level_count charts b) bs i)

    -- refining charts, and what they leave of the body
    refinings_few : (table : Table) (held : WovenItems) (n : ℕ) (rs : List Refinement) → AreFewRefined Few table rs → HaveFewInRefinings charts (product_in charts) ends_of HasFew n (refinings table held rs)
    refinings_few table held n [] h = tt
    refinings_few table held n (r ∷ rs) (h, i) = by (body_at table r.chart) h (λ m. refinings_few table held m rs i)
      where
        by : (o : Option Body) → IsFewBody Few o → ((m : ℕ) → HaveFewInRefinings charts (product_in charts) ends_of HasFew m (refinings table held rs)) → HaveFewInRefinings charts (product_in charts) ends_of HasFew n (refining_by r.instance held o ++ refinings table held rs)
        by None h others = others n
        by (Some (level cover inner pairs)) h others = (level_few n (level cover inner pairs) h, others (n + items_count charts inner))

    left_few : (rs : List Refinement) (xs : WovenItems) → AreFewItems Few xs → AreFewItems Few (without_decomposed rs xs)
    left_few rs no_items h = tt
    left_few rs (item_and (Single k) xs) (h, i) = by (is_decomposed rs k) (left_few rs xs i)
      where
        by : (b : Bool) → AreFewItems Few (without_decomposed rs xs) → AreFewItems Few (if b then without_decomposed rs xs else item_and (Single k) (without_decomposed rs xs))
        by true few = few
        by false few = (tt, few)
    left_few rs (item_and (Coregion ks) xs) (h, i) = (tt, left_few rs xs i)
    left_few rs (item_and (Inline form part operands) xs) (h, i) = (h, left_few rs xs i)
    left_few rs (item_and (Refer part) xs) (h, i) = (h, left_few rs xs i)

    mutual
      lines_few : (n : ℕ) (lines : Lines) → AreFewLines Few lines → HaveFewInLines charts (product_in charts) ends_of HasFew n lines
      lines_few n no_lines h = tt
      lines_few n (line_and (line label place node next) rest) (h, i) = (node_few n node h, lines_few (n + node_count charts node) rest i)

      node_few : (n : ℕ) (node : Node) → IsFewNode Few node → HasFewInNode charts (product_in charts) ends_of HasFew n node
      node_few n Ends h = tt
      node_few n Connect h = tt
      node_few n (Condition names) h = tt
      node_few n (tree.Refer e) h = expression_few n e h
      node_few n (Frames held) h = frames_few n held h

      frames_few : (n : ℕ) (held : Graphs) → AreFewFrames Few held → HaveFewInFrames charts (product_in charts) ends_of HasFew n held
      frames_few n no_graphs h = tt
      frames_few n (graph_and (graph starts lines) rest) (h, i) = (lines_few (suc n) lines h, frames_few (n + graph_count charts (graph starts lines)) rest i)

    woven_few : (table : Table) (n : ℕ) (rs : List Refinement) (content : Woven) → DecomposeOnce rs → IsFewWoven Few table rs content → HasFewInWoven charts (product_in charts) ends_of HasFew table n rs content
    woven_few table n [] (Basic held) once h = level_few n held h
    woven_few table n [] (HighLevel (graph starts lines)) once h = lines_few (suc n) lines h
    woven_few table n (r ∷ rs) (Basic (level cover held pairs)) once ((h, i), few) =
        let left = without_decomposed (r ∷ rs) held in
        let room = few_pairs_have_room.room charts (product_in charts) ends_of n cover held pairs h (items_most (ends_of held) held n held) in (
          refined_room charts same Few table n (r ∷ rs) once held few (product_in charts) (ties held pairs (calls held) (ends_of held)) room,
          items_few n left (left_few (r ∷ rs) held i),
          refinings_few table held (n + items_count charts left) (r ∷ rs) few,
        )
    woven_few table n (r ∷ rs) (HighLevel (graph starts lines)) once h = lines_few (suc n) lines h

    entry_few : (table : Table) (n : ℕ) (o : Option ChartEntry) → IsFewEntry Few table o → HasFewInEntry charts (product_in charts) ends_of HasFew table n o
    entry_few table n None h = h
    entry_few table n (Some entry) h = woven_few table n (refinements entry.decls) entry.content (decompose_once entry.decls) h

charts_few : (leaves : Leaves) (ends_of : WovenItems → List GateEnd) (table : Table) (k : ℕ) (name : List ℕ) (n : ℕ) → IsFewTo table k name → HasFewTo leaves (λ j. product_in (charts_to leaves ends_of table j)) ends_of table k name n
charts_few leaves ends_of table zero name n h = h
charts_few leaves ends_of table (suc k) name n h =
    entry_few (charts_to leaves ends_of table k) (charts_same leaves ends_of table k) ends_of (IsFewTo table k) (HasFewTo leaves (λ j. product_in (charts_to leaves ends_of table j)) ends_of table k) (charts_few leaves ends_of table k) table n (chart_at table name) h

charts_weigh : ConstructorsWeigh → (leaves : Leaves) (ends_of : WovenItems → List GateEnd) (table : Table) (depth : ℕ) (name : List ℕ) (gates : GateMap) (n : ℕ) → AreLeavesLight leaves → IsFewTo table depth name
    → weight ((charts_to leaves ends_of table depth).term name gates n) + held_to leaves ends_of table depth name gates n ≤ size_to (λ k. product_in (charts_to leaves ends_of table k)) table depth name
charts_weigh weigh leaves ends_of table depth name gates n one few = (expanded_terms_weigh weigh).weighs leaves (λ k. product_in (charts_to leaves ends_of table k)) ends_of table depth name gates n one (charts_few leaves ends_of table depth name n few)

below : (a b c : ℕ) → a ≤ b → b ≤ c → a ≤ c
below a b c l m = omega (arith, l, m)

pub charts_are_light : ConstructorsWeigh → ChartsAreLight
charts_are_light weigh = record {
  light = charts_weigh weigh;
  counted = λ leaves ends_of table depth name gates n one few.
      below (weight ((charts_to leaves ends_of table depth).term name gates n) + held_to leaves ends_of table depth name gates n) (size_to (λ k. product_in (charts_to leaves ends_of table k)) table depth name) (size_to (λ k. reference_count (inner_to table k)) table depth name)
      (charts_weigh weigh leaves ends_of table depth name gates n one few) (charts_counted leaves ends_of table depth name few);
}
