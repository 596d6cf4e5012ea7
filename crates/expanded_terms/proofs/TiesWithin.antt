-- The ties of an expansion are of numbers of what they tie, and so are the tags that are still to be seen, construct by construct.
use Rattle.std.specs.Prelude.{ℕ, zero, suc, Bool, true, false, filter, List, [], ◌∷◌, ◌++◌, Option, None, Some, map, if◌then◌else◌}
use Rattle.std.specs.List.{flat_map}
use Rattle.std.proofs.Common.{◌≡◌, ◌⊎◌, sym, subst, inl, inr}
use Rattle.std.proofs.lemmas.List.{map-append}
use Rattle.msc_base.specs.declared.label.Far.{Far}
use Rattle.msc_base.specs.declared.label.Pair.{Pair}
use Rattle.msc_base.specs.Orders.{Among, first, later}
use Rattle.msc_unfolding.specs.Unfoldings.{Tag, Happening, past_level, is_same_tag}
use Rattle.msc_tree.specs.declared.reference.InlineForm.{InlineForm}
use Rattle.msc_tree.specs.declared.reference.InlineForm.TheVariants as inline
use Rattle.msc_tree.specs.Expressions.{Expression, Empty, Chart, Alt, Par, Seq, Opt, Expressions, none, more}
use Rattle.msc_tree.specs.Expressions as expression
use Rattle.msc_tree.specs.Graphs as graphs
use Rattle.msc_tree.specs.Graphs.{Graph, graph, Lines, no_lines, line_and, line, Node, Ends, Connect, Condition, Frames, Graphs, no_graphs, graph_and}
use Rattle.graph_shapes.specs.GraphShapes.{shape_of}
use Rattle.hmsc_graph.specs.declared.shape.Shape.{Shape}
use Rattle.msc_meaning.specs.Bodies.{EventNode, InlinePart, Body, level, WovenItems, no_items, item_and, WovenItem, Single, Coregion, Inline, Refer, Bodies, no_bodies, body_and}
use Rattle.msc_meaning.specs.Calls.{calls}
use Rattle.msc_meaning.specs.ChartUnfoldings.{gates_of, under, refined_under, refining_under}
use Rattle.msc_meaning.specs.FarEnds.{GateMap, no_gates, Around, Gates, gates_referred, inside, far_end, happening}
use Rattle.msc_meaning.specs.InnerEvents.{GateEnd}
use Rattle.msc_meaning.specs.Refinements.{Refining, refining, refinings, without_decomposed, past_refining}
use Rattle.msc_meaning.specs.Tables.{Table, ChartEntry, chart_at, Woven, Basic, HighLevel, Refinement, refinements}
use Rattle.msc_meaning.specs.Ties.{ties, past_inline, past_reference}
use Rattle.expansion_tree.specs.Expansions.{Expansion, all_events_in, events_in}
use Rattle.expanded_charts.specs.Expanding as tree
use Rattle.expanded_charts.specs.Expanding.{NumberedEvent, Expanded, ExpandedParts, Shown, nothing, or_nothing, in_row, aside, exception, turns, tied, past, past_shown, numbers_with, pairs_between, tied_pairs, expand_events, expand, expand_all, expand_level, expand_items, expand_item, expand_operands, expand_refinings, expand_graph, expand_lines, expand_node, expand_frames, expand_woven, expand_entry, expand_charts}
use Rattle.sound_terms.proofs.Mapped.{map_among}
use Rattle.sound_terms.proofs.Ordering.{among_left, among_right}
use Rattle.expanded_terms.specs.ExpansionNumbers.{numbers_of_events}
use Rattle.expanded_terms.specs.RankedTerms.{EachTie, EachTies}

abbrev pub IsWithin : Expansion NumberedEvent → ℕ → Type 0
IsWithin x j = Among j (numbers_of_events x)

-- ---- lists

pub split_among : {A : Type 0} (a b : List A) (e : A) → Among e (a ++ b) → Among e a ⊎ Among e b
split_among [] b e h = inr h
split_among (d ∷ a) b _ first = inl first
split_among (d ∷ a) b e (later h) = elim (split_among a b e h) [ inl i ↦ inl (later i) | inr i ↦ inr i ]

pub flat_among : {A B : Type 0} (f : A → List B) (l : List A) (b : B) → Among b (flat_map f l) → (a : A) × Among a l × Among b (f a)
flat_among f [] b h = elim h [ ]
flat_among f (a ∷ l) b h = elim (split_among (f a) (flat_map f l) b h) [ inl i ↦ (a, first, i) | inr i ↦ let (c, j, k) = flat_among f l b i in (c, later j, k) ]

wider : {A : Type 0} (l k : List A) (b a : A) → (Among a k → Among a l) → Among a (b ∷ k) → Among a (b ∷ l)
wider l k b _ g first = first
wider l k b a g (later i) = later (g i)

filter_among : {A : Type 0} (f : A → Bool) (l : List A) (a : A) → Among a (filter f l) → Among a l
filter_among f [] a h = elim h [ ]
filter_among f (b ∷ l) a h = by (f b) (filter_among f l a) h
  where
    by : (c : Bool) → (Among a (filter f l) → Among a l) → Among a (if c then b ∷ filter f l else filter f l) → Among a (b ∷ l)
    by true g i = wider l (filter f l) b a g i
    by false g i = later (g i)

-- ---- what is still to be seen

-- it is of these numbers
abbrev pub AreShownOf : List NumberedEvent → Shown → Type 0
AreShownOf es sh = (p : ℕ × Tag) → Among p sh → Among p.0 (map (λ (e : NumberedEvent). e.number) es)

abbrev pair_to : ℕ → ℕ → Pair
pair_to m n = record { first = m; second = n }

abbrev tagged : ℕ → Tag → ℕ × Tag
tagged n a = (n, a)

pub with_number : (a : Tag) (sh : Shown) (j : ℕ) → Among j (numbers_with a sh) → (p : ℕ × Tag) × (p.0 ≡ j) × Among p sh
with_number a sh j h = let (p, e, i) = map_among (λ (p : ℕ × Tag). p.0) (filter (λ p. is_same_tag p.1 a) sh) h in (p, e, filter_among (λ p. is_same_tag p.1 a) sh p i)

pub between_both : (ms ns : List ℕ) (p : Pair) → Among p (pairs_between ms ns) → Among p.first ms × Among p.second ns
between_both ms ns p h = by (flat_among (λ m. map (λ n. record { first = m; second = n }) ns) ms p h)
  where
    by : (m : ℕ) × Among m ms × Among p (map (λ n. record { first = m; second = n }) ns) → Among p.first ms × Among p.second ns
    by (m, i, k) = at (map_among (pair_to m) ns k)
      where
        at : (n : ℕ) × (record { first = m; second = n } ≡ p) × Among n ns → Among p.first ms × Among p.second ns
        at (n, e, j) = subst (λ (r : Pair). Among r.first ms × Among r.second ns) e (i, j)

tied_both : (es : List NumberedEvent) (sh : Shown) (ts : List (Tag × Tag)) (p : Pair) → AreShownOf es sh → Among p (tied_pairs sh ts) → Among p.first (map (λ (e : NumberedEvent). e.number) es) × Among p.second (map (λ (e : NumberedEvent). e.number) es)
tied_both es sh ts p f h = by (flat_among (λ t. pairs_between (numbers_with t.0 sh) (numbers_with t.1 sh)) ts p h)
  where
    one : (a : Tag) (j : ℕ) → Among j (numbers_with a sh) → Among j (map (λ (e : NumberedEvent). e.number) es)
    one a j i = let (r, e, k) = with_number a sh j i in subst (λ (j : ℕ). Among j (map (λ (e : NumberedEvent). e.number) es)) e (f r k)

    by : (t : Tag × Tag) × Among t ts × Among p (pairs_between (numbers_with t.0 sh) (numbers_with t.1 sh)) → Among p.first (map (λ (e : NumberedEvent). e.number) es) × Among p.second (map (λ (e : NumberedEvent). e.number) es)
    by (t, i, k) = let (a, b) = between_both (numbers_with t.0 sh) (numbers_with t.1 sh) p k in (one t.0 p.first a, one t.1 p.second b)

past_of : (es : List NumberedEvent) (f : Tag → List Tag) (sh : Shown) → AreShownOf es sh → AreShownOf es (past_shown f sh)
past_of es f sh h p i = by (flat_among (λ p. map (λ a. (p.0, a)) (f p.1)) sh p i)
  where
    by : (r : ℕ × Tag) × Among r sh × Among p (map (λ a. (r.0, a)) (f r.1)) → Among p.0 (map (λ (e : NumberedEvent). e.number) es)
    by (r, j, k) = let (a, e, l) = map_among (tagged r.0) (f r.1) k in subst (λ (q : ℕ × Tag). Among q.0 (map (λ (e : NumberedEvent). e.number) es)) e (h r j)

-- ---- parts

pub record IsHeld (e : Expanded) : Type 0 where
  pub ties : EachTie IsWithin e.part
  pub shown : AreShownOf (events_in e.part) e.shown

pub record AreHeld (l : ExpandedParts) : Type 0 where
  pub ties : EachTies IsWithin l.parts
  pub shown : AreShownOf (all_events_in l.parts) l.shown

none_held : (n : ℕ) → AreHeld (nothing n)
none_held n = record { ties = tt; shown = λ p h. elim h [ ] }

shown_left : (es fs : List NumberedEvent) (j : ℕ) → Among j (map (λ (e : NumberedEvent). e.number) es) → Among j (map (λ (e : NumberedEvent). e.number) (es ++ fs))
shown_left es fs j h = subst (λ (l : List ℕ). Among j l) (sym (map-append (λ (e : NumberedEvent). e.number) es fs)) (among_left (map (λ (e : NumberedEvent). e.number) es) (map (λ (e : NumberedEvent). e.number) fs) j h)

shown_right : (es fs : List NumberedEvent) (j : ℕ) → Among j (map (λ (e : NumberedEvent). e.number) fs) → Among j (map (λ (e : NumberedEvent). e.number) (es ++ fs))
shown_right es fs j h = subst (λ (l : List ℕ). Among j l) (sym (map-append (λ (e : NumberedEvent). e.number) es fs)) (among_right (map (λ (e : NumberedEvent). e.number) es) (map (λ (e : NumberedEvent). e.number) fs) j h)

put_held : (e : Expanded) (l : ExpandedParts) → IsHeld e → AreHeld l → AreHeld (tree.put e l)
put_held e l h i = record {
  ties = (h.ties, i.ties);
  shown = λ p j. elim (split_among e.shown l.shown p j) [
    | inl k ↦ shown_left (events_in e.part) (all_events_in l.parts) p.0 (h.shown p k)
    | inr k ↦ shown_right (events_in e.part) (all_events_in l.parts) p.0 (i.shown p k)
  ];
}

pub row_held : (l : ExpandedParts) → AreHeld l → IsHeld (in_row l)
row_held l h = record { ties = h.ties; shown = h.shown }

aside_held : (l : ExpandedParts) → AreHeld l → IsHeld (aside l)
aside_held l h = record { ties = h.ties; shown = h.shown }

one_held : (l : ExpandedParts) → AreHeld l → IsHeld (tree.one_of l)
one_held l h = record { ties = h.ties; shown = h.shown }

exception_held : (e : Expanded) → IsHeld e → IsHeld (exception e)
exception_held e h = record { ties = h.ties; shown = h.shown }

turns_held : (n lower : ℕ) (upper : Option ℕ) (e : Expanded) → IsHeld e → IsHeld (turns n lower upper e)
turns_held n lower upper e h = record { ties = h.ties; shown = h.shown }

option_held : (e : Expanded) → IsHeld e → IsHeld (or_nothing e)
option_held e h = record { ties = (h.ties, (tt, tt)); shown = λ p i. shown_left (events_in e.part) [] p.0 (h.shown p i) }

pub tied_held : (ts : List (Tag × Tag)) (e : Expanded) → IsHeld e → IsHeld (tied ts e)
tied_held ts e h = record { ties = ((λ p i. tied_both (events_in e.part) e.shown ts p h.shown i), h.ties); shown = h.shown }

past_held : (f : Tag → List Tag) (e : Expanded) → IsHeld e → IsHeld (past f e)
past_held f e h = record { ties = h.ties; shown = past_of (events_in e.part) f e.shown h.shown }

-- nothing is shown of a walk
walk_held : (n : ℕ) (g : Shape) (l : ExpandedParts) → AreHeld l → IsHeld (tree.walk n g l)
walk_held n g l h = record { ties = h.ties; shown = λ p i. elim i [ ] }

event_held : (n : ℕ) (h : Happening) → IsHeld (tree.event n h)
event_held n h = record { ties = tt; shown = λ p i. at p (map_among (tagged n) h.tags i) }
  where
    at : (p : ℕ × Tag) → (a : Tag) × ((n, a) ≡ p) × Among a h.tags → Among p.0 (n ∷ [])
    at p (a, e, i) = subst (λ (q : ℕ × Tag). Among q.0 (n ∷ [])) e first

-- ---- constructs

module _ (ends_of : WovenItems → List GateEnd) (chart : tree.Charts) (known : (name : List ℕ) (gates : GateMap) (n : ℕ) → IsHeld (chart name gates n)) where
  events_held : (es : List GateEnd) (a : Around) (n : ℕ) (ks : List EventNode) → AreHeld (expand_events chart ends_of es a n ks)
  events_held es a n [] = none_held n
  events_held es a n (k ∷ ks) = put_held (tree.event n (happening es a k)) (expand_events chart ends_of es a (suc n) ks) (event_held n (happening es a k)) (events_held es a (suc n) ks)

  mutual
    expression_held : (gates : GateMap) (n : ℕ) (e : Expression) → IsHeld (expand chart ends_of gates n e)
    expression_held gates n Empty = row_held (nothing n) (none_held n)
    expression_held gates n (Chart name) = known name gates n
    expression_held gates n (Alt parts) = one_held (expand_all chart ends_of gates n parts) (parts_held gates n parts)
    expression_held gates n (Par parts) = aside_held (expand_all chart ends_of gates n parts) (parts_held gates n parts)
    expression_held gates n (Seq parts) = row_held (expand_all chart ends_of gates n parts) (parts_held gates n parts)
    expression_held gates n (Opt part) = option_held (expand chart ends_of gates n part) (expression_held gates n part)
    expression_held gates n (expression.Loop lower upper part) = turns_held n lower upper (expand chart ends_of gates n part) (expression_held gates n part)

    parts_held : (gates : GateMap) (n : ℕ) (xs : Expressions) → AreHeld (expand_all chart ends_of gates n xs)
    parts_held gates n none = none_held n
    parts_held gates n (more x xs) = put_held (expand chart ends_of gates n x) (expand_all chart ends_of gates (expand chart ends_of gates n x).next xs) (expression_held gates n x) (parts_held gates (expand chart ends_of gates n x).next xs)

  inline_held : (form : InlineForm) (part : InlinePart) (n : ℕ) (l : ExpandedParts) → AreHeld l → IsHeld (tree.inline_by form part n l)
  inline_held inline.Alt part n l h = one_held l h
  inline_held inline.Opt part n l h = option_held (tree.one_of l) (one_held l h)
  inline_held inline.Par part n l h = aside_held l h
  inline_held inline.Exc part n l h = exception_held (tree.one_of l) (one_held l h)
  inline_held inline.Loop part n l h = turns_held n part.lower part.upper (tree.one_of l) (one_held l h)

  mutual
    level_held : (a : Around) (n : ℕ) (b : Body) → IsHeld (expand_level chart ends_of a n b)
    level_held a n (level cover held pairs) =
        past_held past_level (tied (ties held pairs (calls held) (ends_of held)) (in_row (expand_items chart ends_of (gates_of held (ends_of held)) a n held)))
        (tied_held (ties held pairs (calls held) (ends_of held)) (in_row (expand_items chart ends_of (gates_of held (ends_of held)) a n held))
        (row_held (expand_items chart ends_of (gates_of held (ends_of held)) a n held) (items_held (gates_of held (ends_of held)) a n held)))

    pub items_held : (g : Gates) (a : Around) (n : ℕ) (xs : WovenItems) → AreHeld (expand_items chart ends_of g a n xs)
    items_held g a n no_items = none_held n
    items_held g a n (item_and x xs) = put_held (expand_item chart ends_of g a n x) (expand_items chart ends_of g a (expand_item chart ends_of g a n x).next xs) (item_held g a n x) (items_held g a (expand_item chart ends_of g a n x).next xs)

    item_held : (g : Gates) (a : Around) (n : ℕ) (x : WovenItem) → IsHeld (expand_item chart ends_of g a n x)
    item_held g a n (Single k) = event_held n (happening g.ends a k)
    item_held g a n (Coregion ks) = aside_held (expand_events chart ends_of g.ends a n ks) (events_held g.ends a n ks)
    item_held g a n (Refer part) = past_held (past_reference g.calls part.name part.joins) (expand chart ends_of (gates_referred g part.name part.joins a.gates) n part.expression) (expression_held (gates_referred g part.name part.joins a.gates) n part.expression)
    item_held g a n (Inline form part bs) = past_held (past_inline g.calls part.name) (tree.inline_by form part n (expand_operands chart ends_of (inside g part.name a) n bs))
        (inline_held form part n (expand_operands chart ends_of (inside g part.name a) n bs) (operands_held (inside g part.name a) n bs))

    operands_held : (a : Around) (n : ℕ) (bs : Bodies) → AreHeld (expand_operands chart ends_of a n bs)
    operands_held a n no_bodies = none_held n
    operands_held a n (body_and b bs) = put_held (expand_level chart ends_of a n b) (expand_operands chart ends_of a (expand_level chart ends_of a n b).next bs) (level_held a n b) (operands_held a (expand_level chart ends_of a n b).next bs)

  refinings_held : (far_of : EventNode → Far) (n : ℕ) (rs : List Refining) → AreHeld (expand_refinings chart ends_of far_of n rs)
  refinings_held far_of n [] = none_held n
  refinings_held far_of n (refining (level cover held pairs) ms ∷ rs) =
      put_held one (expand_refinings chart ends_of far_of one.next rs)
      (past_held (past_refining ms) (tied (ties held pairs (calls held) (ends_of held)) (in_row (expand_items chart ends_of (gates_of held (ends_of held)) (refining_under far_of ms) n held)))
      (tied_held (ties held pairs (calls held) (ends_of held)) (in_row (expand_items chart ends_of (gates_of held (ends_of held)) (refining_under far_of ms) n held))
      (row_held (expand_items chart ends_of (gates_of held (ends_of held)) (refining_under far_of ms) n held) (items_held (gates_of held (ends_of held)) (refining_under far_of ms) n held))))
      (refinings_held far_of one.next rs)
    where
      one : Expanded
      one = past (past_refining ms) (tied (ties held pairs (calls held) (ends_of held)) (in_row (expand_items chart ends_of (gates_of held (ends_of held)) (refining_under far_of ms) n held)))

  refined_held : (a : Around) (n : ℕ) (held : WovenItems) (pairs : List Pair) (rs : List Refinement) (refined : List Refining) → IsHeld (tree.expand_refined chart ends_of a n held pairs rs refined)
  refined_held a n held pairs rs refined =
      past_held past_level (tied (ties held pairs (calls held) (ends_of held)) (aside both)) (tied_held (ties held pairs (calls held) (ends_of held)) (aside both) (aside_held both
      (put_held rest fine (row_held (expand_items chart ends_of (gates_of held (ends_of held)) a n (without_decomposed rs held)) (items_held (gates_of held (ends_of held)) a n (without_decomposed rs held)))
      (refinings_held (far_end (ends_of held) a) rest.next refined))))
    where
      rest : Expanded
      rest = in_row (expand_items chart ends_of (gates_of held (ends_of held)) a n (without_decomposed rs held))

      fine : ExpandedParts
      fine = expand_refinings chart ends_of (far_end (ends_of held) a) rest.next refined

      both : ExpandedParts
      both = tree.put rest fine

  mutual
    graph_held : (n : ℕ) (drawn : Graph) → IsHeld (expand_graph chart ends_of n drawn)
    graph_held n (graph starts lines) = walk_held n (shape_of (graph starts lines)) (expand_lines chart ends_of (suc n) lines) (lines_held (suc n) lines)

    lines_held : (n : ℕ) (lines : Lines) → AreHeld (expand_lines chart ends_of n lines)
    lines_held n no_lines = none_held n
    lines_held n (line_and (line label place node next) rest) =
        put_held (expand_node chart ends_of n node) (expand_lines chart ends_of (expand_node chart ends_of n node).next rest) (node_held n node) (lines_held (expand_node chart ends_of n node).next rest)

    node_held : (n : ℕ) (node : Node) → IsHeld (expand_node chart ends_of n node)
    node_held n Ends = row_held (nothing n) (none_held n)
    node_held n Connect = row_held (nothing n) (none_held n)
    node_held n (Condition names) = row_held (nothing n) (none_held n)
    node_held n (graphs.Refer e) = expression_held no_gates n e
    node_held n (Frames held) = aside_held (expand_frames chart ends_of n held) (frames_held n held)

    frames_held : (n : ℕ) (held : Graphs) → AreHeld (expand_frames chart ends_of n held)
    frames_held n no_graphs = none_held n
    frames_held n (graph_and drawn rest) =
        put_held (expand_graph chart ends_of n drawn) (expand_frames chart ends_of (expand_graph chart ends_of n drawn).next rest) (graph_held n drawn) (frames_held (expand_graph chart ends_of n drawn).next rest)

  woven_held : (table : Table) (gates : GateMap) (n : ℕ) (rs : List Refinement) (content : Woven) → IsHeld (expand_woven chart ends_of table gates n rs content)
  woven_held table gates n [] (Basic held) = level_held (under gates) n held
  woven_held table gates n (r ∷ rs) (Basic (level cover held pairs)) = refined_held (refined_under gates pairs (refinings table held (r ∷ rs))) n held pairs (r ∷ rs) (refinings table held (r ∷ rs))
  woven_held table gates n [] (HighLevel drawn) = graph_held n drawn
  woven_held table gates n (r ∷ rs) (HighLevel drawn) = graph_held n drawn

  entry_held : (table : Table) (gates : GateMap) (n : ℕ) (o : Option ChartEntry) → IsHeld (expand_entry ends_of table chart gates n o)
  entry_held table gates n None = row_held (nothing n) (none_held n)
  entry_held table gates n (Some entry) = woven_held table gates n (refinements entry.decls) entry.content

pub charts_held : (ends_of : WovenItems → List GateEnd) (table : Table) (depth : ℕ) (name : List ℕ) (gates : GateMap) (n : ℕ) → IsHeld (expand_charts ends_of table depth name gates n)
charts_held ends_of table zero name gates n = row_held (nothing n) (none_held n)
charts_held ends_of table (suc depth) name gates n = entry_held ends_of (expand_charts ends_of table depth) (charts_held ends_of table depth) table gates n (chart_at table name)

pub ties_within : (ends_of : WovenItems → List GateEnd) (table : Table) (depth : ℕ) (name : List ℕ) (gates : GateMap) (n : ℕ) → EachTie IsWithin (expand_charts ends_of table depth name gates n).part
ties_within ends_of table depth name gates n = (charts_held ends_of table depth name gates n).ties
