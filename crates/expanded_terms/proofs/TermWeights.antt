-- The weight of the term of an expansion.
use Rattle.std.specs.Prelude.{ℕ, zero, suc, ◌+◌, ◌≤◌, Bool, true, false, not, ◌&&◌, cond, List, [], ◌∷◌, ◌++◌, Option, None, Some, length, if◌then◌else◌}
use Rattle.std.specs.Option.{unwrap_or}
use Rattle.std.proofs.Common.{◌≡◌, refl, ◌∙◌, ap, arith}
use Rattle.msc_base.specs.Patterns.{Mode, seq, par}
use Rattle.msc_base.specs.declared.label.LabelRef.{LabelRef}
use Rattle.msc_base.specs.declared.label.Far.{Far}
use Rattle.chart_term.specs.Equality.{same_tree}
use Rattle.chart_term.specs.NormalForms.{open_part, flat, join_of, join_all, open_choice, open_choices, unless_same, without, distinct, choice_form, tie_of, is_nil}
use Rattle.chart_term.specs.Terms.{Tree, Nil, Event, Join, Choice, Tied, Loop, Walk, Trees, none, more, items, trees, weight, weights}
use Rattle.sound_terms.specs.TableLaws.{ConstructorsWeigh, weight_all}
use Rattle.term_meaning.specs.Portions.{Shown}
use Rattle.general_ordering.specs.OrderCounts.{order_count, orders_count}
use Rattle.msc_tree.specs.declared.reference.InlineForm.TheVariants as inline
use Rattle.msc_tree.specs.Expressions.{Expression, Empty, Chart, Alt, Par, Seq, Opt, Expressions}
use Rattle.msc_tree.specs.Expressions as expression
use Rattle.msc_tree.specs.Graphs as tree
use Rattle.msc_tree.specs.Graphs.{Graph, graph, Lines, no_lines, line_and, line, Node, Ends, Connect, Condition, Frames, Graphs, no_graphs, graph_and}
use Rattle.msc_meaning.specs.Bodies.{EventNode, ReferencePart, Body, level, WovenItems, no_items, item_and, WovenItem, Single, Coregion, Inline, Refer, Bodies, no_bodies, body_and, events}
use Rattle.msc_meaning.specs.Calls.{calls}
use Rattle.msc_meaning.specs.ChartUnfoldings.{gates_of, under, refined_under, refining_under}
use Rattle.msc_meaning.specs.FarEnds.{GateMap, no_gates, Around, Gates, gates_referred, inside, far_end, happening}
use Rattle.msc_meaning.specs.InnerEvents.{GateEnd}
use Rattle.msc_meaning.specs.Refinements.{Refining, refining, refining_by, refinings, is_decomposed, left_of, without_decomposed}
use Rattle.msc_meaning.specs.Tables.{Table, ChartEntry, chart_at, body_at, Woven, Basic, HighLevel, Refinement, refinements}
use Rattle.msc_meaning.specs.Ties.{ties}
use Rattle.chart_forms.specs.TableSizes.{expression_size, expressions_size, level_size, items_size, item_size, operands_size, body_size, refined_size, woven_size, graph_size, graphs_size, lines_size, node_size, entry_size, size_to}
use Rattle.expanded_terms.specs.ExpandedSizes.{AreLeavesLight, open_gates, item_room, items_room, decomposed_room, HaveRoom, HasFewInExpression, HaveFewInExpressions, HasFewPairs, HaveFewPairs, HasFewWithin, EachHasFew, HaveFewInRefinings, HaveFewInLines, HasFewInNode, HaveFewInFrames, HasFewInWoven, HasFewInEntry, HasFewTo, ExpandedTermsWeigh}
use Rattle.chart_forms.specs.BodyEvents.{is_exception}
use Rattle.msc_meaning.proofs.Deciding.{not_so}
use Rattle.expanded_terms.specs.ExpandedTerms.{Leaves, Charts, charts_to, entry_shown, entry_term, woven_shown, woven_term, one_of, placed, leave_turn, turns_if, turns_of, expression_shown, expressions_shown, level_shown, items_shown, operands_shown, events_term, expression_term, alternative_terms, each_term, level_term, items_term, item_term, operand_terms, parallel_term, refinings_term, refined_shown, items_count, item_count, level_count, expression_count, graph_count, node_count, node_term, lines_terms, frames_term}
use Rattle.expanded_terms.specs.NetWeights.{expression_held, expressions_held, level_held, items_held, item_held, operands_held, graph_held, lines_held, node_held, frames_held, refinings_held, woven_held, entry_held, held_to}
use Rattle.expanded_terms.specs.TagNumbers.{tied_numbers}

-- ---- lists of terms

weight_both : (xs ys : List Tree) → weight_all (xs ++ ys) ≡ weight_all xs + weight_all ys
weight_both [] ys = omega arith
weight_both (x ∷ xs) ys = omega (arith, weight_both xs ys)

weights_items : (xs : Trees) → weight_all (items xs) ≡ weights xs
weights_items none = refl
weights_items (more x xs) = ap (λ n. weight x + n) (weights_items xs)

weights_trees : (xs : List Tree) → weights (trees xs) ≡ weight_all xs
weights_trees [] = refl
weights_trees (x ∷ xs) = ap (λ n. weight x + n) (weights_trees xs)

items_trees : (xs : List Tree) → weight_all (items (trees xs)) ≡ weight_all xs
items_trees xs = weights_items (trees xs) ∙ weights_trees xs

pub some_weight : (x : Tree) → 1 ≤ weight x
some_weight Nil = omega arith
some_weight (Event e) = omega arith
some_weight (Join m xs) = omega arith
some_weight (Choice xs) = omega arith
some_weight (Tied x q) = omega (arith, some_weight x)
some_weight (Loop x lo hi r) = omega (arith, some_weight x)
some_weight (Walk n s t c) = omega arith

-- ---- joins of two terms: what is in the second is counted without its own join

open_weight : (m : Mode) (x : Tree) → weight_all (open_part m x) ≤ weight x
open_weight m Nil = omega arith
open_weight m (Event e) = omega arith
open_weight seq (Join seq xs) = omega (arith, weights_items xs)
open_weight seq (Join par xs) = omega arith
open_weight par (Join seq xs) = omega arith
open_weight par (Join par xs) = omega (arith, weights_items xs)
open_weight m (Choice xs) = omega arith
open_weight m (Tied x q) = omega arith
open_weight m (Loop x lo hi r) = omega arith
open_weight m (Walk n s t c) = omega arith

form_weight : (m : Mode) (xs : List Tree) → weight (join_of m xs) ≤ 1 + weight_all xs
form_weight m [] = omega arith
form_weight m (x ∷ []) = omega arith
form_weight m (x ∷ y ∷ xs) = omega (arith, weights_trees xs)

form_open : (m : Mode) (xs : List Tree) → weight_all (open_part m (join_of m xs)) ≤ weight_all xs
form_open m [] = omega arith
form_open m (x ∷ []) = omega (arith, open_weight m x)
form_open seq (x ∷ y ∷ xs) = omega (arith, items_trees xs)
form_open par (x ∷ y ∷ xs) = omega (arith, items_trees xs)

flat_weight : (m : Mode) (x y : Tree) → weight_all (flat m (x ∷ y ∷ [])) ≤ weight x + weight_all (open_part m y)
flat_weight m x y = omega (arith, weight_both (open_part m x) (open_part m y ++ []), weight_both (open_part m y) [], open_weight m x)

both_weight : (m : Mode) (x y : Tree) → weight (join_all m (x ∷ y ∷ [])) ≤ 1 + (weight x + weight_all (open_part m y))
both_weight m x y = omega (arith, form_weight m (flat m (x ∷ y ∷ [])), flat_weight m x y)

both_open : (m : Mode) (x y : Tree) → weight_all (open_part m (join_all m (x ∷ y ∷ []))) ≤ weight x + weight_all (open_part m y)
both_open m x y = omega (arith, form_open m (flat m (x ∷ y ∷ [])), flat_weight m x y)

-- ---- choices

choice_opened : (x : Tree) → weight_all (open_choice x) ≤ weight x
choice_opened Nil = omega arith
choice_opened (Event e) = omega arith
choice_opened (Join m xs) = omega arith
choice_opened (Choice xs) = omega (arith, weights_items xs)
choice_opened (Tied x q) = omega arith
choice_opened (Loop x lo hi r) = omega arith
choice_opened (Walk n s t c) = omega arith

choices_opened : (xs : List Tree) → weight_all (open_choices xs) ≤ weight_all xs
choices_opened [] = omega arith
choices_opened (x ∷ xs) = omega (arith, weight_both (open_choice x) (open_choices xs), choice_opened x, choices_opened xs)

unless_weight : (b : Bool) (y : Tree) (ys : List Tree) → weight_all (unless_same b y ys) ≤ weight y + weight_all ys
unless_weight true y ys = omega arith
unless_weight false y ys = omega arith

without_weight : (x : Tree) (ys : List Tree) → weight_all (without x ys) ≤ weight_all ys
without_weight x [] = omega arith
without_weight x (y ∷ ys) = omega (arith, unless_weight (same_tree x y) y (without x ys), without_weight x ys)

distinct_weight : (xs : List Tree) → weight_all (distinct xs) ≤ weight_all xs
distinct_weight [] = omega arith
distinct_weight (x ∷ xs) = omega (arith, without_weight x (distinct xs), distinct_weight xs)

chosen_weight : (zs : List Tree) → weight (unwrap_or (choice_form zs) Nil) ≤ 1 + weight_all zs
chosen_weight [] = omega arith
chosen_weight (x ∷ []) = omega arith
chosen_weight (x ∷ y ∷ xs) = omega (arith, weights_trees xs)

one_weight : (xs : List Tree) → weight (one_of xs) ≤ 1 + weight_all (open_choices xs)
one_weight xs = omega (arith, chosen_weight (distinct (open_choices xs)), distinct_weight (open_choices xs))

chosen_opened : (zs : List Tree) (k : ℕ) → 1 ≤ k → weight_all zs ≤ k → weight_all (open_choice (unwrap_or (choice_form zs) Nil)) ≤ k
chosen_opened [] k l h = omega arith
chosen_opened (x ∷ []) k l h = omega (arith, choice_opened x)
chosen_opened (x ∷ y ∷ xs) k l h = omega (arith, items_trees xs)

one_opened : (xs : List Tree) → (xs ≡ [] → ⊥) → weight_all (open_choice (one_of xs)) ≤ weight_all xs
one_opened [] n = absurd (n refl)
one_opened (x ∷ xs) n = chosen_opened (distinct (open_choices (x ∷ xs))) (weight_all (x ∷ xs)) (omega (arith, some_weight x)) (omega (arith, distinct_weight (open_choices (x ∷ xs)), choices_opened (x ∷ xs)))

-- one term alone is itself
alone_weight : (x : Tree) → weight (one_of (x ∷ [])) ≤ weight x
alone_weight Nil = omega arith
alone_weight (Event e) = omega arith
alone_weight (Join m xs) = omega arith
alone_weight (Choice xs) = omega (arith, one_weight (Choice xs ∷ []), weight_both (items xs) [], weights_items xs)
alone_weight (Tied x q) = omega arith
alone_weight (Loop x lo hi r) = omega arith
alone_weight (Walk n s t c) = omega arith

turns_weight : (lower : ℕ) (upper : Option ℕ) (x : Tree) → weight (turns_of lower upper x) ≤ 2 + weight x
turns_weight lower upper x = by (leave_turn lower upper && not (is_nil (Some x)))
  where
    by : (b : Bool) → weight (turns_if b lower upper x) ≤ 2 + weight x
    by true = omega arith
    by false = omega arith

two_weight : (x y : Tree) → weight (one_of (x ∷ y ∷ [])) ≤ 1 + (weight_all (open_choice x) + weight y)
two_weight x y = omega (arith, one_weight (x ∷ y ∷ []), weight_both (open_choice x) (open_choice y ++ []), weight_both (open_choice y) [], choice_opened y)

-- ---- open gates

open_both : (a b : Shown) → open_gates (a ++ b) ≡ open_gates a + open_gates b
open_both [] b = omega arith
open_both (p ∷ a) b = omega (arith, open_both a b)

not_empty : (xs : List Tree) (x : Tree) → (x ∷ xs) ≡ [] → ⊥
not_empty xs x e = absurd cc

tied_weighs : ConstructorsWeigh → (x : Tree) (q : List (ℕ × ℕ)) (o d k s : ℕ) → weight x + (d + k) ≤ 1 + s → HaveRoom (length q) o d → weight (tie_of x q) + o + k ≤ 1 + s
tied_weighs weigh x [] o d k s h l = omega (arith, h, l.any)
tied_weighs weigh x (p ∷ q) o d k s h l = let more = l.some (omega arith) in omega (arith, h, more, weigh.tied x (p ∷ q))

-- ---- what is left of a body beside its refining charts

abbrev events_size : List EventNode → ℕ
events_size ns = length ns + length ns + length ns + orders_count ns

left_events : (rs : List Refinement) (ns : List EventNode) → events_size (left_of rs ns) + decomposed_room rs ns ≡ events_size ns
left_events rs [] = omega arith
left_events rs (n ∷ ns) = by (is_decomposed rs n) (left_events rs ns)
  where
    by : (b : Bool) → events_size (left_of rs ns) + decomposed_room rs ns ≡ events_size ns
        → events_size (cond (not b) (n ∷ left_of rs ns) (left_of rs ns)) + ((if b then 3 + order_count n.event else 0) + decomposed_room rs ns) ≡ events_size (n ∷ ns)
    by true e = omega (arith, e)
    by false e = omega (arith, e)

pub room_both : (rs : List Refinement) (ns ms : List EventNode) → decomposed_room rs (ns ++ ms) ≡ decomposed_room rs ns + decomposed_room rs ms
room_both rs [] ms = omega arith
room_both rs (n ∷ ns) ms = omega (arith, room_both rs ns ms)

module _ (size_of : List ℕ → ℕ) (product : WovenItems → ReferencePart → ℕ) where
  left_size : (rs : List Refinement) (whole xs : WovenItems) → items_size size_of product whole (without_decomposed rs xs) + decomposed_room rs (events xs) ≡ items_size size_of product whole xs
  left_size rs whole no_items = omega arith
  left_size rs whole (item_and (Single n) xs) = by (is_decomposed rs n) (left_size rs whole xs)
    where
      by : (b : Bool) → items_size size_of product whole (without_decomposed rs xs) + decomposed_room rs (events xs) ≡ items_size size_of product whole xs
          → items_size size_of product whole (if b then without_decomposed rs xs else item_and (Single n) (without_decomposed rs xs)) + ((if b then 3 + order_count n.event else 0) + decomposed_room rs (events xs)) ≡ items_size size_of product whole (item_and (Single n) xs)
      by true e = omega (arith, e)
      by false e = omega (arith, e)
  left_size rs whole (item_and (Coregion ns) xs) = omega (arith, left_events rs ns, room_both rs ns (events xs), left_size rs whole xs)
  left_size rs whole (item_and (Inline form part operands) xs) = omega (arith, left_size rs whole xs)
  left_size rs whole (item_and (Refer part) xs) = omega (arith, left_size rs whole xs)

  abbrev refinings_size : List Refining → ℕ
  refinings_size [] = 0
  refinings_size (refining held ms ∷ rs) = 2 + level_size size_of product held + refinings_size rs

  refined_sizes : (table : Table) (held : WovenItems) (rs : List Refinement) → refinings_size (refinings table held rs) ≡ refined_size size_of product table rs
  refined_sizes table held [] = refl
  refined_sizes table held (r ∷ rs) = by (body_at table r.chart) (refined_sizes table held rs)
    where
      by : (o : Option Body) → refinings_size (refinings table held rs) ≡ refined_size size_of product table rs
          → refinings_size (refining_by r.instance held o ++ refinings table held rs) ≡ body_size size_of product o + refined_size size_of product table rs
      by None e = omega (arith, e)
      by (Some (level cover inner pairs)) e = omega (arith, e)

-- what items weigh with what stands behind them: alone, and opened
abbrev IsWithin : Mode → Tree → ℕ → ℕ → Type 0
IsWithin m x e s = (weight x + e ≤ 1 + s) × (weight_all (open_part m x) + e ≤ s)

joined_weighs : (m : Mode) (x y : Tree) (d e s t : ℕ) → weight x + d ≤ s → IsWithin m y e t → IsWithin m (join_all m (x ∷ y ∷ [])) (d + e) (s + t)
joined_weighs m x y d e s t h (a, b) = (omega (arith, h, b, both_weight m x y), omega (arith, h, b, both_open m x y))

placed_weighs : (b : Bool) (x y : Tree) (d e s t : ℕ) → weight x + d ≤ s → (b ≡ true → weight_all (open_choice x) + d + 2 ≤ s) → IsWithin seq y e t → IsWithin seq (placed b x y) (d + e) (s + t)
placed_weighs false x y d e s t h f k = joined_weighs seq x y d e s t h k
placed_weighs true x y d e s t h f (a, b) =
    let g = f refl in
    (omega (arith, g, a, two_weight x y), omega (arith, g, a, two_weight x y, open_weight seq (one_of (x ∷ y ∷ []))))

module _ (weigh : ConstructorsWeigh) (charts : Charts) (size_of : List ℕ → ℕ) (product : WovenItems → ReferencePart → ℕ) (leaves : Leaves) (light : AreLeavesLight leaves) (ends_of : WovenItems → List GateEnd) (HasFew : List ℕ → ℕ → Type 0) (held : List ℕ → GateMap → ℕ → ℕ)
    (known : (name : List ℕ) (gates : GateMap) (n : ℕ) → HasFew name n → weight (charts.term name gates n) + open_gates (charts.shown name n) + held name gates n ≤ size_of name) where
  coregion_weighs : (es : List GateEnd) (a : Around) (n : ℕ) (ks : List EventNode) → (weight (events_term charts leaves ends_of es a n ks) ≤ 1 + length ks) × (weight_all (open_part par (events_term charts leaves ends_of es a n ks)) ≤ length ks)
  coregion_weighs es a n [] = (omega arith, omega arith)
  coregion_weighs es a n (k ∷ ks) =
      let (u, v) = coregion_weighs es a (n + 1) ks in
      let one = light.events n (happening es a k) in
      (omega (arith, v, one, both_weight par (leaves.event n (happening es a k)) (events_term charts leaves ends_of es a (n + 1) ks)), omega (arith, v, one, both_open par (leaves.event n (happening es a k)) (events_term charts leaves ends_of es a (n + 1) ks)))

  mutual
    expression_weighs : (gates : GateMap) (n : ℕ) (e : Expression) → HasFewInExpression charts product ends_of HasFew n e → weight (expression_term charts leaves ends_of gates n e) + open_gates (expression_shown charts n e) + expression_held charts leaves ends_of held gates n e ≤ expression_size size_of product e
    expression_weighs gates n Empty f = omega arith
    expression_weighs gates n (Chart name) f = known name gates n f
    expression_weighs gates n (Alt parts) f =
        omega (arith, one_weight (alternative_terms charts leaves ends_of gates n parts), choices_opened (alternative_terms charts leaves ends_of gates n parts), alternatives_weigh gates n parts f)
    expression_weighs gates n (Par parts) f = omega (arith, (each_weighs par gates n parts f).0)
    expression_weighs gates n (Seq parts) f = omega (arith, (each_weighs seq gates n parts f).0)
    expression_weighs gates n (Opt part) f =
        omega (arith, two_weight (expression_term charts leaves ends_of gates n part) Nil, choice_opened (expression_term charts leaves ends_of gates n part), expression_weighs gates n part f)
    expression_weighs gates n (expression.Loop lower upper part) f = omega (arith, turns_weight lower upper (expression_term charts leaves ends_of gates n part), expression_weighs gates n part f)

    alternatives_weigh : (gates : GateMap) (n : ℕ) (xs : Expressions) → HaveFewInExpressions charts product ends_of HasFew n xs → weight_all (alternative_terms charts leaves ends_of gates n xs) + open_gates (expressions_shown charts n xs) + expressions_held charts leaves ends_of held gates n xs ≤ expressions_size size_of product xs
    alternatives_weigh gates n expression.none f = omega arith
    alternatives_weigh gates n (expression.more x xs) (f, g) =
        omega (
          arith,
          open_both (expression_shown charts n x) (expressions_shown charts (n + expression_count charts x) xs),
          expression_weighs gates n x f,
          alternatives_weigh gates (n + expression_count charts x) xs g,
        )

    each_weighs : (m : Mode) (gates : GateMap) (n : ℕ) (xs : Expressions) → HaveFewInExpressions charts product ends_of HasFew n xs → IsWithin m (each_term charts leaves ends_of m gates n xs) (open_gates (expressions_shown charts n xs) + expressions_held charts leaves ends_of held gates n xs) (expressions_size size_of product xs)
    each_weighs m gates n expression.none f = (omega arith, omega arith)
    each_weighs m gates n (expression.more x xs) (f, g) =
        let x_term = expression_term charts leaves ends_of gates n x in
        let w = joined_weighs m x_term (each_term charts leaves ends_of m gates (n + expression_count charts x) xs) (open_gates (expression_shown charts n x) + expression_held charts leaves ends_of held gates n x) (open_gates (expressions_shown charts (n + expression_count charts x) xs) + expressions_held charts leaves ends_of held gates (n + expression_count charts x) xs) (expression_size size_of product x) (expressions_size size_of product xs)
        (omega (arith, expression_weighs gates n x f)) (each_weighs m gates (n + expression_count charts x) xs g) in
        let o = open_both (expression_shown charts n x) (expressions_shown charts (n + expression_count charts x) xs) in
        (omega (arith, w.0, o), omega (arith, w.1, o))

  some_operand : (a : Around) (n : ℕ) (b : Body) (bs : Bodies) → operand_terms charts leaves ends_of a n (body_and b bs) ≡ [] → ⊥
  some_operand a n b bs = not_empty (operand_terms charts leaves ends_of a (n + level_count charts b) bs) (level_term charts leaves ends_of a n b)

  mutual
    level_weighs : (a : Around) (n : ℕ) (b : Body) → HasFewPairs charts product ends_of HasFew n b → weight (level_term charts leaves ends_of a n b) + open_gates (level_shown charts n b) + level_held charts leaves ends_of held a n b ≤ 1 + level_size size_of product b
    level_weighs a n (level cover items pairs) (room, f) =
        tied_weighs weigh (items_term charts leaves ends_of (gates_of items (ends_of items)) a n items) (tied_numbers (items_shown charts (calls items) n items) (ties items pairs (calls items) (ends_of items))) (open_gates (level_shown charts n (level cover items pairs)))
        (items_room charts product items n items) (level_held charts leaves ends_of held a n (level cover items pairs)) (items_size size_of product items items) (items_weigh items (gates_of items (ends_of items)) a n items f).0 room

    items_weigh : (whole : WovenItems) (g : Gates) (a : Around) (n : ℕ) (xs : WovenItems) → HaveFewPairs charts product ends_of HasFew n xs → IsWithin seq (items_term charts leaves ends_of g a n xs) (items_room charts product whole n xs + items_held charts leaves ends_of held g a n xs) (items_size size_of product whole xs)
    items_weigh whole g a n no_items f = (omega arith, omega arith)
    items_weigh whole g a n (item_and x xs) (f, i) =
        let w = placed_weighs (is_exception x) (item_term charts leaves ends_of g a n x) (items_term charts leaves ends_of g a (n + item_count charts x) xs) (item_room charts product whole n x + item_held charts leaves ends_of held g a n x)
        (items_room charts product whole (n + item_count charts x) xs + items_held charts leaves ends_of held g a (n + item_count charts x) xs) (item_size size_of product whole x) (items_size size_of product whole xs)
        (item_weighs whole g a n x f) (exception_weighs whole g a n x f) (items_weigh whole g a (n + item_count charts x) xs i) in
        (omega (arith, w.0), omega (arith, w.1))

    item_weighs : (whole : WovenItems) (g : Gates) (a : Around) (n : ℕ) (x : WovenItem) → HasFewWithin charts product ends_of HasFew n x → weight (item_term charts leaves ends_of g a n x) + (item_room charts product whole n x + item_held charts leaves ends_of held g a n x) ≤ item_size size_of product whole x
    item_weighs whole g a n (Single k) f = omega (arith, light.events n (happening g.ends a k))
    item_weighs whole g a n (Coregion ks) f = let (u, v) = coregion_weighs g.ends a n ks in omega (arith, u)
    item_weighs whole g a n (Inline inline.Alt part bs) (has, f) =
        omega (arith, one_weight (operand_terms charts leaves ends_of (inside g part.name a) n bs), choices_opened (operand_terms charts leaves ends_of (inside g part.name a) n bs), operands_weigh (inside g part.name a) n bs f)
    item_weighs whole g a n (Inline inline.Opt part no_bodies) (has, f) = absurd (not_so has)
    item_weighs whole g a n (Inline inline.Opt part (body_and b bs)) (has, f) =
        omega (arith, two_weight (one_of (operand_terms charts leaves ends_of (inside g part.name a) n (body_and b bs))) Nil, one_opened (operand_terms charts leaves ends_of (inside g part.name a) n (body_and b bs)) (some_operand (inside g part.name a) n b bs), operands_weigh (inside g part.name a) n (body_and b bs) f)
    item_weighs whole g a n (Inline inline.Exc part bs) (has, f) =
        omega (arith, one_weight (operand_terms charts leaves ends_of (inside g part.name a) n bs), choices_opened (operand_terms charts leaves ends_of (inside g part.name a) n bs), operands_weigh (inside g part.name a) n bs f)
    item_weighs whole g a n (Inline inline.Par part bs) (has, f) = let (u, v) = parallel_weighs (inside g part.name a) n bs f in omega (arith, u)
    item_weighs whole g a n (Inline inline.Loop part no_bodies) (has, f) = absurd (not_so has)
    item_weighs whole g a n (Inline inline.Loop part (body_and b no_bodies)) (has, f) =
        omega (
          arith,
          turns_weight part.lower part.upper (one_of (operand_terms charts leaves ends_of (inside g part.name a) n (body_and b no_bodies))),
          alone_weight (level_term charts leaves ends_of (inside g part.name a) n b),
          level_weighs (inside g part.name a) n b f.0,
          open_both (level_shown charts n b) [],
        )
    item_weighs whole g a n (Inline inline.Loop part (body_and b (body_and c bs))) (has, f) = absurd (not_so has)
    item_weighs whole g a n (Refer part) f = omega (arith, expression_weighs (gates_referred g part.name part.joins a.gates) n part.expression f)

    exception_weighs : (whole : WovenItems) (g : Gates) (a : Around) (n : ℕ) (x : WovenItem) → HasFewWithin charts product ends_of HasFew n x → is_exception x ≡ true → weight_all (open_choice (item_term charts leaves ends_of g a n x)) + (item_room charts product whole n x + item_held charts leaves ends_of held g a n x) + 2 ≤ item_size size_of product whole x
    exception_weighs whole g a n (Single k) f is = absurd cc
    exception_weighs whole g a n (Coregion ks) f is = absurd cc
    exception_weighs whole g a n (Inline inline.Alt part bs) f is = absurd cc
    exception_weighs whole g a n (Inline inline.Opt part bs) f is = absurd cc
    exception_weighs whole g a n (Inline inline.Exc part no_bodies) (has, f) is = absurd (not_so has)
    exception_weighs whole g a n (Inline inline.Exc part (body_and b bs)) (has, f) is =
        omega (arith, one_opened (operand_terms charts leaves ends_of (inside g part.name a) n (body_and b bs)) (some_operand (inside g part.name a) n b bs), operands_weigh (inside g part.name a) n (body_and b bs) f)
    exception_weighs whole g a n (Inline inline.Par part bs) f is = absurd cc
    exception_weighs whole g a n (Inline inline.Loop part bs) f is = absurd cc
    exception_weighs whole g a n (Refer part) f is = absurd cc

    operands_weigh : (a : Around) (n : ℕ) (bs : Bodies) → EachHasFew charts product ends_of HasFew n bs → weight_all (operand_terms charts leaves ends_of a n bs) + open_gates (operands_shown charts n bs) + operands_held charts leaves ends_of held a n bs ≤ operands_size size_of product bs
    operands_weigh a n no_bodies f = omega arith
    operands_weigh a n (body_and b bs) (f, i) =
        omega (
          arith,
          open_both (level_shown charts n b) (operands_shown charts (n + level_count charts b) bs),
          level_weighs a n b f,
          operands_weigh a (n + level_count charts b) bs i,
        )

    parallel_weighs : (a : Around) (n : ℕ) (bs : Bodies) → EachHasFew charts product ends_of HasFew n bs → IsWithin par (parallel_term charts leaves ends_of a n bs) (open_gates (operands_shown charts n bs) + operands_held charts leaves ends_of held a n bs) (operands_size size_of product bs)
    parallel_weighs a n no_bodies f = (omega arith, omega arith)
    parallel_weighs a n (body_and b bs) (f, i) =
        let w = joined_weighs par (level_term charts leaves ends_of a n b) (parallel_term charts leaves ends_of a (n + level_count charts b) bs) (open_gates (level_shown charts n b) + level_held charts leaves ends_of held a n b) (open_gates (operands_shown charts (n + level_count charts b) bs) + operands_held charts leaves ends_of held a (n + level_count charts b) bs)
        (1 + level_size size_of product b) (operands_size size_of product bs) (omega (arith, level_weighs a n b f)) (parallel_weighs a (n + level_count charts b) bs i) in
        let o = open_both (level_shown charts n b) (operands_shown charts (n + level_count charts b) bs) in
        (omega (arith, w.0, o), omega (arith, w.1, o))

  -- refining charts leave no gates open
  refinings_weigh : (far_of : EventNode → Far) (n : ℕ) (rs : List Refining) → HaveFewInRefinings charts product ends_of HasFew n rs → IsWithin par (refinings_term charts leaves ends_of far_of n rs) (refinings_held charts leaves ends_of held far_of n rs) (refinings_size size_of product rs)
  refinings_weigh far_of n [] f = (omega arith, omega arith)
  refinings_weigh far_of n (refining (level cover items pairs) ms ∷ rs) (f, i) =
      let body = level cover items pairs in
      let l = level_weighs (refining_under far_of ms) n body f in
      let w = joined_weighs par (level_term charts leaves ends_of (refining_under far_of ms) n body) (refinings_term charts leaves ends_of far_of (n + items_count charts items) rs) (level_held charts leaves ends_of held (refining_under far_of ms) n body)
      (refinings_held charts leaves ends_of held far_of (n + items_count charts items) rs) (2 + level_size size_of product body) (refinings_size size_of product rs)
      (omega (arith, l)) (refinings_weigh far_of (n + items_count charts items) rs i) in
      (omega (arith, w.0), omega (arith, w.1))

  -- ---- graphs: the walk, and the terms of its nodes

  mutual
    lines_weigh : (n : ℕ) (lines : Lines) → HaveFewInLines charts product ends_of HasFew n lines → weight_all (lines_terms charts leaves ends_of n lines) + lines_held charts leaves ends_of held n lines ≤ lines_size size_of product lines
    lines_weigh n no_lines f = omega arith
    lines_weigh n (line_and (line label place node next) rest) (f, i) = omega (arith, node_weighs n node f, lines_weigh (n + node_count charts node) rest i)

    node_weighs : (n : ℕ) (node : Node) → HasFewInNode charts product ends_of HasFew n node → weight (node_term charts leaves ends_of n node) + node_held charts leaves ends_of held n node ≤ 2 + node_size size_of product node
    node_weighs n Ends f = omega arith
    node_weighs n Connect f = omega arith
    node_weighs n (Condition names) f = omega arith
    node_weighs n (tree.Refer e) f = omega (arith, expression_weighs no_gates n e f)
    node_weighs n (Frames graphs) f = omega (arith, (frames_weigh n graphs f).0)

    frames_weigh : (n : ℕ) (graphs : Graphs) → HaveFewInFrames charts product ends_of HasFew n graphs → IsWithin par (frames_term charts leaves ends_of n graphs) (frames_held charts leaves ends_of held n graphs) (graphs_size size_of product graphs)
    frames_weigh n no_graphs f = (omega arith, omega arith)
    frames_weigh n (graph_and (graph starts lines) rest) (f, i) =
        let drawn = graph starts lines in
        joined_weighs par (leaves.walk n) (frames_term charts leaves ends_of (n + graph_count charts drawn) rest) (graph_held charts leaves ends_of held n drawn) (frames_held charts leaves ends_of held (n + graph_count charts drawn) rest)
        (graph_size size_of product drawn) (graphs_size size_of product rest) (omega (arith, light.walks n, lines_weigh (suc n) lines f)) (frames_weigh (n + graph_count charts drawn) rest i)

  graph_weighs : (n : ℕ) (starts : List LabelRef) (lines : Lines) → HaveFewInLines charts product ends_of HasFew (suc n) lines → weight (leaves.walk n) + graph_held charts leaves ends_of held n (graph starts lines) ≤ graph_size size_of product (graph starts lines)
  graph_weighs n starts lines f = omega (arith, light.walks n, lines_weigh (suc n) lines f)

  woven_weighs : (table : Table) (gates : GateMap) (n : ℕ) (rs : List Refinement) (content : Woven) → HasFewInWoven charts product ends_of HasFew table n rs content
      → weight (woven_term charts leaves ends_of table gates n rs content) + open_gates (woven_shown charts table n rs content) + woven_held charts leaves ends_of held table gates n rs content ≤ woven_size size_of product table rs content
  woven_weighs table gates n [] (Basic body) f = omega (arith, level_weighs (under gates) n body f)
  woven_weighs table gates n [] (HighLevel (graph starts lines)) f = omega (arith, graph_weighs n starts lines f)
  woven_weighs table gates n (r ∷ rs) (Basic (level cover items pairs)) (room, f, i) =
      let left = without_decomposed (r ∷ rs) items in
      let around = refined_under gates pairs (refinings table items (r ∷ rs)) in
      let far_of = far_end (ends_of items) around in
      let left_term = items_term charts leaves ends_of (gates_of items (ends_of items)) around n left in
      let others = refinings_term charts leaves ends_of far_of (n + items_count charts left) (refinings table items (r ∷ rs)) in
      let left_held = items_held charts leaves ends_of held (gates_of items (ends_of items)) around n left in
      let others_held = refinings_held charts leaves ends_of held far_of (n + items_count charts left) (refinings table items (r ∷ rs)) in
      let both = joined_weighs par left_term others (items_room charts product items n left + left_held) others_held (1 + items_size size_of product items left) (refinings_size size_of product (refinings table items (r ∷ rs)))
      (items_weigh items (gates_of items (ends_of items)) around n left f).0 (refinings_weigh far_of (n + items_count charts left) (refinings table items (r ∷ rs)) i) in
      let sizes = refined_sizes size_of product table items (r ∷ rs) in
      let tied = tied_weighs weigh (join_all par (left_term ∷ others ∷ [])) (tied_numbers (refined_shown charts table n (r ∷ rs) items) (ties items pairs (calls items) (ends_of items)))
      (open_gates (woven_shown charts table n (r ∷ rs) (Basic (level cover items pairs)))) (items_room charts product items n left + decomposed_room (r ∷ rs) (events items)) (left_held + others_held)
      (1 + items_size size_of product items items + refinings_size size_of product (refinings table items (r ∷ rs)))
      (omega (arith, both.0, left_size size_of product (r ∷ rs) items items)) room in
      omega (arith, tied, sizes)
  woven_weighs table gates n (r ∷ rs) (HighLevel (graph starts lines)) f = omega (arith, graph_weighs n starts lines f)

  entry_weighs : (table : Table) (gates : GateMap) (n : ℕ) (o : Option ChartEntry) → HasFewInEntry charts product ends_of HasFew table n o
      → weight (entry_term leaves ends_of table charts gates n o) + open_gates (entry_shown charts table n o) + entry_held charts leaves ends_of held table gates n o ≤ entry_size size_of product table o
  entry_weighs table gates n None f = absurd f
  entry_weighs table gates n (Some entry) f = woven_weighs table gates n (refinements entry.decls) entry.content f

charts_weigh : ConstructorsWeigh → (leaves : Leaves) (product : ℕ → WovenItems → ReferencePart → ℕ) (ends_of : WovenItems → List GateEnd) (table : Table) → AreLeavesLight leaves → (k : ℕ) (name : List ℕ) (gates : GateMap) (n : ℕ) → HasFewTo leaves product ends_of table k name n
    → weight ((charts_to leaves ends_of table k).term name gates n) + open_gates ((charts_to leaves ends_of table k).shown name n) + held_to leaves ends_of table k name gates n ≤ size_to product table k name
charts_weigh weigh leaves product ends_of table light zero name gates n f = absurd f
charts_weigh weigh leaves product ends_of table light (suc k) name gates n f =
    entry_weighs weigh (charts_to leaves ends_of table k) (size_to product table k) (product k) leaves light ends_of (HasFewTo leaves product ends_of table k) (held_to leaves ends_of table k) (charts_weigh weigh leaves product ends_of table light k) table gates n (chart_at table name) f

pub expanded_terms_weigh : ConstructorsWeigh → ExpandedTermsWeigh
expanded_terms_weigh weigh = record {
  weighs = λ leaves product ends_of table depth name gates n light f. omega (arith, charts_weigh weigh leaves product ends_of table light depth name gates n f);
}
