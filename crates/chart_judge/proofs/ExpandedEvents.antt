-- What the events of a chart's expansion have, in a table of accepted charts: each happens at an instance of a chart of the table, and where
-- it creates, at another too, which its label gives.
use Rattle.std.specs.Prelude.{ℕ, zero, suc, List, [], ◌∷◌, ◌++◌, Bool, true, false, Option, None, Some, fold, map}
use Rattle.std.specs.List.{list_any}
use Rattle.std.specs.Option.{unwrap_or}
use Rattle.std.specs.Str.{bytes_eq}
use Rattle.std.proofs.Common.{◌≡◌, ◌∙◌, refl, sym, ap, subst, if◌then◌else◌}
use Rattle.std.proofs.lemmas.Bool.{or_left, or_right}
use Rattle.chart_forms.specs.BodyEvents.{events_within, item_within, items_within, operands_within}
use Rattle.chart_forms.specs.BuiltBodies.{AreBuiltBodies, AreBuiltItems, AreBuiltNodes, IsBuiltBody, IsBuiltItem, IsBuiltNode, IsChild}
use Rattle.expanded_charts.specs.Expanding as tree
use Rattle.expanded_charts.specs.Expanding.{NumberedEvent, Expanded, ExpandedParts, expand_events, expand, expand_all, expand_level, expand_items, expand_item, expand_operands, expand_refinings, expand_graph, expand_lines, expand_node, expand_frames, expand_woven, expand_entry, expand_charts}
use Rattle.gate_ends.specs.FoundEnds.{table_ends}
use Rattle.expanded_terms.specs.PlacedTerms.{child_at, child_of}
use Rattle.expansion_tree.specs.Expansions.{all_events_in, events_in}
use Rattle.msc_acceptance.specs.AcceptedCharts.{EachChart, IsAcceptedChart, IsAcceptedContent, table_instances}
use Rattle.chart_lists.specs.Listing.{content_instances, cover_of}
use Rattle.msc_base.specs.Lists.{IsAmong}
use Rattle.msc_base.specs.NameTables.{with_name}
use Rattle.msc_base.specs.Orders.{Among, first, later, Once}
use Rattle.msc_base.specs.declared.label.Far.{Far}
use Rattle.msc_base.specs.declared.label.Far.TheVariants as far
use Rattle.msc_base.specs.declared.label.Kind.{Kind}
use Rattle.msc_base.specs.declared.label.Kind.TheVariants as kind
use Rattle.msc_base.specs.declared.limits.TheConstants.Limits.{EXPANDED_NESTING}
use Rattle.msc_base.proofs.NameFacts.{any_folded, any_from_one, one_from_any}
use Rattle.msc_meaning.specs.Bodies.{EventNode, InlinePart, Body, level, WovenItems, no_items, item_and, WovenItem, Single, Coregion, Inline, Refer, Bodies, no_bodies, body_and, events}
use Rattle.msc_meaning.specs.Calls.{calls}
use Rattle.msc_meaning.specs.ChartUnfoldings.{gates_of, refined_under, refining_under, under}
use Rattle.msc_meaning.specs.FarEnds.{GateMap, no_gates, Around, Gates, child_by, far_end, gates_referred, happening, inside, written_far}
use Rattle.msc_meaning.specs.InnerEvents.{GateEnd}
use Rattle.msc_meaning.specs.Levels.{IsWovenLevel, woven}
use Rattle.msc_meaning.specs.Pairing.{ArePairs}
use Rattle.msc_meaning.specs.Pieces.{Piece}
use Rattle.msc_meaning.specs.Refinements.{Refining, all_matches, matches, past_refining, refining_by, refinings, without_decomposed}
use Rattle.msc_meaning.specs.Tables.{ChartEntry, Table, body_in, chart_at, Woven, Basic, HighLevel, Refinement, refinements}
use Rattle.msc_meaning.specs.Ties.{ties}
use Rattle.msc_tree.specs.declared.reference.InlineForm.{InlineForm}
use Rattle.msc_tree.specs.declared.reference.InlineForm.TheVariants as inline
use Rattle.msc_tree.specs.Expressions.{Expression, Empty, Chart, Alt, Par, Seq, Opt, Expressions, none, more}
use Rattle.msc_tree.specs.Expressions as expression
use Rattle.msc_tree.specs.Graphs as graphs
use Rattle.msc_tree.specs.Graphs.{Graph, graph, Lines, no_lines, line_and, line, Node, Ends, Connect, Condition, Frames, Graphs, no_graphs, graph_and}
use Rattle.msc_tree.specs.declared.event.Target.{Target}
use Rattle.msc_tree.specs.declared.event.Target.TheVariants.{Instance}
use Rattle.msc_unfolding.specs.Unfoldings.{Happening}
use Rattle.table_terms.specs.TableTerms.{chart_expansion}
use Rattle.chart_judge.proofs.FreeEnds.{AreFree, free_left, free_of_none, free_right, inner_free, left_built, left_within, refined_free}
use Rattle.msc_tree.specs.declared.chart.Decl.{Decl}
use Rattle.chart_judge.proofs.NamedBodies.{content_body}
use Rattle.chart_judge.proofs.TableEntries.{entry_has}

-- ---- what the happening of each event has

module _ (ends_of : WovenItems → List GateEnd) (P : Happening → Type 0) where
  abbrev Each : List NumberedEvent → Type 0
  Each [] = Unit {0}
  Each (e ∷ es) = P e.happening × Each es

  each_both : (xs ys : List NumberedEvent) → Each xs → Each ys → Each (xs ++ ys)
  each_both [] ys h g = g
  each_both (x ∷ xs) ys h g = (h.0, each_both xs ys h.1 g)

  of_each : (es : List NumberedEvent) (e : NumberedEvent) → Each es → Among e es → P e.happening
  of_each (d ∷ es) _ h first = h.0
  of_each (d ∷ es) e h (later i) = of_each es e h.1 i
  of_each [] e h i = elim i [ ]

  -- of a part, and of parts
  abbrev EachOf : Expanded → Type 0
  EachOf e = Each (events_in e.part)

  abbrev EachOfAll : ExpandedParts → Type 0
  EachOfAll l = Each (all_events_in l.parts)

  put_each : (e : Expanded) (l : ExpandedParts) → EachOf e → EachOfAll l → EachOfAll (tree.put e l)
  put_each e l = each_both (events_in e.part) (all_events_in l.parts)

  option_each : (e : Expanded) → EachOf e → EachOf (tree.or_nothing e)
  option_each e h = each_both (events_in e.part) [] h tt

  inline_each : (form : InlineForm) (part : InlinePart) (n : ℕ) (l : ExpandedParts) → EachOfAll l → EachOf (tree.inline_by form part n l)
  inline_each inline.Alt part n l h = h
  inline_each inline.Opt part n l h = option_each (tree.one_of l) h
  inline_each inline.Par part n l h = h
  inline_each inline.Exc part n l h = h
  inline_each inline.Loop part n l h = h

  module _ (chart : tree.Charts) (known : (name : List ℕ) (gates : GateMap) (n : ℕ) → EachOf (chart name gates n)) where
    mutual
      expression_each : (gates : GateMap) (n : ℕ) (e : Expression) → EachOf (expand chart ends_of gates n e)
      expression_each gates n Empty = tt
      expression_each gates n (Chart name) = known name gates n
      expression_each gates n (Alt parts) = expressions_each gates n parts
      expression_each gates n (Par parts) = expressions_each gates n parts
      expression_each gates n (Seq parts) = expressions_each gates n parts
      expression_each gates n (Opt part) = option_each (expand chart ends_of gates n part) (expression_each gates n part)
      expression_each gates n (expression.Loop lower upper part) = expression_each gates n part

      expressions_each : (gates : GateMap) (n : ℕ) (xs : Expressions) → EachOfAll (expand_all chart ends_of gates n xs)
      expressions_each gates n none = tt
      expressions_each gates n (more x xs) =
          let e = expand chart ends_of gates n x in
          put_each e (expand_all chart ends_of gates e.next xs) (expression_each gates n x) (expressions_each gates (expand chart ends_of gates n x).next xs)

    mutual
      lines_each : (n : ℕ) (lines : Lines) → EachOfAll (expand_lines chart ends_of n lines)
      lines_each n no_lines = tt
      lines_each n (line_and (line label place node next) rest) = put_each (expand_node chart ends_of n node) (expand_lines chart ends_of (expand_node chart ends_of n node).next rest) (node_each n node) (lines_each (expand_node chart ends_of n node).next rest)

      node_each : (n : ℕ) (node : Node) → EachOf (expand_node chart ends_of n node)
      node_each n Ends = tt
      node_each n Connect = tt
      node_each n (Condition names) = tt
      node_each n (graphs.Refer e) = expression_each no_gates n e
      node_each n (Frames held) = frames_each n held

      frames_each : (n : ℕ) (held : Graphs) → EachOfAll (expand_frames chart ends_of n held)
      frames_each n no_graphs = tt
      frames_each n (graph_and drawn rest) = put_each (expand_graph chart ends_of n drawn) (expand_frames chart ends_of (expand_graph chart ends_of n drawn).next rest) (graph_each n drawn) (frames_each (expand_graph chart ends_of n drawn).next rest)

      graph_each : (n : ℕ) (drawn : Graph) → EachOf (expand_graph chart ends_of n drawn)
      graph_each n (graph starts lines) = lines_each (suc n) lines

    module _ (names : List (List ℕ)) (holds : (es : List GateEnd) (a : Around) (k : EventNode) → AreFree a.far (k ∷ []) → IsBuiltNode names k → P (happening es a k)) where
      nodes_each : (es : List GateEnd) (a : Around) (n : ℕ) (ks : List EventNode) → AreFree a.far ks → AreBuiltNodes names ks → EachOfAll (expand_events chart ends_of es a n ks)
      nodes_each es a n [] f h = tt
      nodes_each es a n (k ∷ ks) f h = (holds es a k (free_left a.far (k ∷ []) ks f) h.0, nodes_each es a (suc n) ks (free_right a.far (k ∷ []) ks f) h.1)

      mutual
        level_each : (a : Around) (n : ℕ) (b : Body) → AreFree a.far (events_within b) → IsBuiltBody names b → EachOf (expand_level chart ends_of a n b)
        level_each a n (level cover held pairs) f h = items_each (gates_of held (ends_of held)) a n held f h

        items_each : (g : Gates) (a : Around) (n : ℕ) (xs : WovenItems) → AreFree a.far (items_within xs) → AreBuiltItems names xs → EachOfAll (expand_items chart ends_of g a n xs)
        items_each g a n no_items f h = tt
        items_each g a n (item_and x xs) f h =
            let e = expand_item chart ends_of g a n x in
            put_each e (expand_items chart ends_of g a e.next xs)
            (item_each g a n x (free_left a.far (item_within x) (items_within xs) f) h.0) (items_each g a (expand_item chart ends_of g a n x).next xs (free_right a.far (item_within x) (items_within xs) f) h.1)

        item_each : (g : Gates) (a : Around) (n : ℕ) (x : WovenItem) → AreFree a.far (item_within x) → IsBuiltItem names x → EachOf (expand_item chart ends_of g a n x)
        item_each g a n (Single k) f h = (holds g.ends a k f h, tt)
        item_each g a n (Coregion ks) f h = nodes_each g.ends a n ks f h
        item_each g a n (Inline form part operands) f h = inline_each form part n (expand_operands chart ends_of (inside g part.name a) n operands) (operands_each (inside g part.name a) n operands f h.1)
        item_each g a n (Refer part) f h = expression_each (gates_referred g part.name part.joins a.gates) n part.expression

        operands_each : (a : Around) (n : ℕ) (bs : Bodies) → AreFree a.far (operands_within bs) → AreBuiltBodies names bs → EachOfAll (expand_operands chart ends_of a n bs)
        operands_each a n no_bodies f h = tt
        operands_each a n (body_and b bs) f h =
            let e = expand_level chart ends_of a n b in
            put_each e (expand_operands chart ends_of a e.next bs)
            (level_each a n b (free_left a.far (events_within b) (operands_within bs) f) h.0) (operands_each a (expand_level chart ends_of a n b).next bs (free_right a.far (events_within b) (operands_within bs) f) h.1)

-- ---- instances of a table

from_any : (names : List (List ℕ)) (others : List (List ℕ)) (m : List ℕ) → IsAmong names m → IsAmong (fold with_name names others) m
from_any names others m h = one_from_any (fold with_name names others) m (any_folded names others m ∙ or_left (list_any (bytes_eq m) names) (list_any (bytes_eq m) others) (any_from_one names m h))

others_any : (names : List (List ℕ)) (others : List (List ℕ)) (m : List ℕ) → IsAmong others m → IsAmong (fold with_name names others) m
others_any names others m h = one_from_any (fold with_name names others) m (any_folded names others m ∙ or_right (list_any (bytes_eq m) names) (list_any (bytes_eq m) others) (any_from_one others m h))

table_keeps : (table : Table) (seen : List (List ℕ)) (m : List ℕ) → IsAmong seen m → IsAmong (table_instances seen table) m
table_keeps [] seen m h = h
table_keeps (c ∷ table) seen m h = table_keeps table (fold with_name seen (content_instances c.content)) m (from_any seen (content_instances c.content) m h)

table_has : (table : Table) (seen : List (List ℕ)) (name : List ℕ) (c : ChartEntry) → chart_at table name ≡ Some c → (m : List ℕ) → IsAmong (content_instances c.content) m → IsAmong (table_instances seen table) m
table_has [] seen name c e m h = absurd cc
table_has (d ∷ table) seen name c e m h = by (bytes_eq d.name name) e (λ f. table_has table (fold with_name seen (content_instances d.content)) name c f m h)
  where
    by : (b : Bool) → (if b then Some d else chart_at table name) ≡ Some c → (chart_at table name ≡ Some c → IsAmong (table_instances (fold with_name seen (content_instances d.content)) table) m)
        → IsAmong (table_instances (fold with_name seen (content_instances d.content)) table) m
    by true f behind =
        let same : d ≡ c = cc in
        table_keeps table (fold with_name seen (content_instances d.content)) m (others_any seen (content_instances d.content) m (subst (λ (x : ChartEntry). IsAmong (content_instances x.content) m) (sym same) h))
    by false f behind = behind f

-- ---- events of accepted charts

-- one of these instances that isn't the one at which it happens, or none
record IsSecond (names : List (List ℕ)) (at : List ℕ) (also child : Option (List ℕ)) : Type 0 where
  is : also ≡ child
  among : (k : List ℕ) → also ≡ Some k → IsAmong names k
  apart : also ≡ Some at → ⊥

nobody : (names : List (List ℕ)) (at : List ℕ) → IsSecond names at None None
nobody names at = record { is = refl; among = λ k e. absurd (no_one k e); apart = no_one at }
  where
    no_one : (k : List ℕ) → ◌≡◌ {A = Option (List ℕ)} None (Some k) → ⊥
    no_one k e = cc

second_is : (names : List (List ℕ)) (at : List ℕ) (k : Kind) (t : Target) (f : Far) → (k ≡ kind.Create → IsChild names at t) → (k ≡ kind.Create → (child : List ℕ) → t ≡ Instance child → f ≡ far.Instance child) → IsSecond names at (child_by k t) (child_at k f)
second_is names at kind.Create t f h ends =
    let c = h refl in
    let also : child_by kind.Create t ≡ Some c.child = ap (child_by kind.Create) c.is in
    record {
      is = also ∙ sym (ap (child_at kind.Create) (ends refl c.child c.is));
      among = λ k e. subst (IsAmong names) (same c.child k (sym also ∙ e)) c.among;
      apart = λ e. c.other (same c.child at (sym also ∙ e));
    }
  where
    same : (j k : List ℕ) → ◌≡◌ {A = Option (List ℕ)} (Some j) (Some k) → j ≡ k
    same j k e = cc
second_is names at kind.Output t f h ends = nobody names at
second_is names at kind.Input t f h ends = nobody names at
second_is names at kind.OutputLost t f h ends = nobody names at
second_is names at kind.InputFound t f h ends = nobody names at
second_is names at kind.Action t f h ends = nobody names at
second_is names at kind.TimerStart t f h ends = nobody names at
second_is names at kind.TimerStop t f h ends = nobody names at
second_is names at kind.Timeout t f h ends = nobody names at

-- it happens at one of these instances, and its second instance is another of them, which its label gives
pub record IsSettled (names : List (List ℕ)) (h : Happening) : Type 0 where
  pub at : IsAmong names h.label.at
  pub child : h.also ≡ child_of h.label
  pub second : (k : List ℕ) → h.also ≡ Some k → IsAmong names k
  pub apart : h.also ≡ Some h.label.at → ⊥

-- where no far end is given from around, that of a creation is its child
own_end : (es : List GateEnd) (a : Around) (n : EventNode) → AreFree a.far (n ∷ []) → n.event.kind ≡ kind.Create → (child : List ℕ) → n.event.target ≡ Instance child → far_end es a n ≡ far.Instance child
own_end es a n free creates child is = ap (λ (o : Option Far). unwrap_or o (written_far es a.gates n.event.target)) (free n first creates child is) ∙ ap (written_far es a.gates) is

node_settled : (names others : List (List ℕ)) → ((m : List ℕ) → IsAmong names m → IsAmong others m) → (es : List GateEnd) (a : Around) (n : EventNode) → AreFree a.far (n ∷ []) → IsBuiltNode names n → IsSettled others (happening es a n)
node_settled names others f es a n free h =
    let s = second_is names n.at n.event.kind n.event.target (far_end es a n) h.1 (own_end es a n free) in
    record { at = f n.at h.0; child = s.is; second = λ k e. f k (s.among k e); apart = s.apart }

-- the pairs of a level are those of its messages
own_pairs : {names : List (List ℕ)} {ps : List Piece} (cover : List (List ℕ)) (held : WovenItems) (pairs : _) → IsWovenLevel names ps (level cover held pairs) → ArePairs (events held) pairs
own_pairs _ _ _ (woven o h p) = p

module _ (table : Table) (charts : EachChart IsAcceptedChart table) where
  abbrev Settled : Happening → Type 0
  Settled = IsSettled (table_instances [] table)

  abbrev IsEach : Expanded → Type 0
  IsEach e = EachOf (table_ends table) Settled e

  abbrev AreEach : ExpandedParts → Type 0
  AreEach l = EachOfAll (table_ends table) Settled l

  module _ (chart : tree.Charts) (known : (name : List ℕ) (gates : GateMap) (n : ℕ) → IsEach (chart name gates n)) where
    -- items at instances of these names, which are instances of the table
    settled_items : (cover : List (List ℕ)) → ((m : List ℕ) → IsAmong cover m → IsAmong (table_instances [] table) m) → (g : Gates) (a : Around) (n : ℕ) (xs : WovenItems) → AreFree a.far (items_within xs) → AreBuiltItems cover xs
        → AreEach (expand_items chart (table_ends table) g a n xs)
    settled_items cover there = items_each (table_ends table) Settled chart known cover (node_settled cover (table_instances [] table) there)

    -- a refining chart
    refining_settled : (far_of : EventNode → Far) (n : ℕ) (i : List ℕ) (held : WovenItems) (b : Body) (others : List Refining) → IsBuiltBody (cover_of b) b → Once (map (λ (n : EventNode). n.number) (events_within b))
        → ((m : List ℕ) → IsAmong (cover_of b) m → IsAmong (table_instances [] table) m) → ((n : ℕ) → AreEach (expand_refinings chart (table_ends table) far_of n others))
        → AreEach (expand_refinings chart (table_ends table) far_of n (refining_by i held (Some b) ++ others))
    refining_settled far_of n i held (level cover inner pairs) others built once there rest =
        let ms = matches i held inner in
        let items = expand_items chart (table_ends table) (gates_of inner (table_ends table inner)) (refining_under far_of ms) n inner in
        put_each (table_ends table) Settled (tree.past (past_refining ms) (tree.tied (ties inner pairs (calls inner) (table_ends table inner)) (tree.in_row items))) (expand_refinings chart (table_ends table) far_of items.next others)
        (settled_items cover there (gates_of inner (table_ends table inner)) (refining_under far_of ms) n inner (inner_free far_of i held inner once) built) (rest items.next)

    given_settled : (far_of : EventNode → Far) (n : ℕ) (i : List ℕ) (held : WovenItems) (others : List Refining) (name : List ℕ) (decls : List Decl) (w : Woven) → IsAcceptedContent w → ((m : List ℕ) → IsAmong (content_instances w) m → IsAmong (table_instances [] table) m)
        → ((n : ℕ) → AreEach (expand_refinings chart (table_ends table) far_of n others)) → AreEach (expand_refinings chart (table_ends table) far_of n (refining_by i held (content_body name decls w) ++ others))
    given_settled far_of n i held others name decls (Basic b) a there rest = refining_settled far_of n i held b others a.built a.once there rest
    given_settled far_of n i held others name decls (HighLevel drawn) a there rest = rest n

    one_settled : (far_of : EventNode → Far) (n : ℕ) (r : Refinement) (held : WovenItems) (others : List Refining) (o : Option ChartEntry) → chart_at table r.chart ≡ o
        → ((n : ℕ) → AreEach (expand_refinings chart (table_ends table) far_of n others))
        → AreEach (expand_refinings chart (table_ends table) far_of n (refining_by r.instance held (body_in o) ++ others))
    one_settled far_of n r held others None e rest = rest n
    one_settled far_of n r held others (Some c) e rest = given_settled far_of n r.instance held others c.name c.decls c.content (entry_has IsAcceptedChart table r.chart c charts e) (table_has table [] r.chart c e) rest

    refinings_settled : (far_of : EventNode → Far) (held : WovenItems) (rs : List Refinement) (n : ℕ) → AreEach (expand_refinings chart (table_ends table) far_of n (refinings table held rs))
    refinings_settled far_of held [] n = tt
    refinings_settled far_of held (r ∷ rs) n = one_settled far_of n r held (refinings table held rs) (chart_at table r.chart) refl (refinings_settled far_of held rs)

    woven_settled : (gates : GateMap) (n : ℕ) (rs : List Refinement) (b : Body) {names : List (List ℕ)} {ps : List Piece} → IsWovenLevel names ps b → Once (map (λ (n : EventNode). n.number) (events_within b)) → IsBuiltBody (cover_of b) b
        → ((m : List ℕ) → IsAmong (cover_of b) m → IsAmong (table_instances [] table) m) → IsEach (expand_woven chart (table_ends table) table gates n rs (Basic b))
    woven_settled gates n [] (level cover held pairs) w once built there = settled_items cover there (gates_of held (table_ends table held)) (under gates) n held (free_of_none (items_within held)) built
    woven_settled gates n (r ∷ rs) (level cover held pairs) w once built there =
        let g = gates_of held (table_ends table held) in
        let refined = refinings table held (r ∷ rs) in
        let around = refined_under gates pairs refined in
        let left = without_decomposed (r ∷ rs) held in
        let free = refined_free held once pairs (all_matches refined) (own_pairs cover held pairs w) in
        let rest = tree.in_row (expand_items chart (table_ends table) g around n left) in
        put_each (table_ends table) Settled rest (expand_refinings chart (table_ends table) (far_end (table_ends table held) around) rest.next refined)
        (settled_items cover there g around n left (λ k i. free k (left_within (r ∷ rs) held k i)) (left_built (r ∷ rs) cover held built))
        (refinings_settled (far_end (table_ends table held) around) held (r ∷ rs) rest.next)

    graph_is : (gates : GateMap) (n : ℕ) (rs : List Refinement) (drawn : Graph) → IsEach (expand_woven chart (table_ends table) table gates n rs (HighLevel drawn))
    graph_is gates n [] drawn = graph_each (table_ends table) Settled chart known n drawn
    graph_is gates n (r ∷ rs) drawn = graph_each (table_ends table) Settled chart known n drawn

    content_settled : (gates : GateMap) (n : ℕ) (rs : List Refinement) (w : Woven) → IsAcceptedContent w → ((m : List ℕ) → IsAmong (content_instances w) m → IsAmong (table_instances [] table) m)
        → IsEach (expand_woven chart (table_ends table) table gates n rs w)
    content_settled gates n rs (Basic b) a there = woven_settled gates n rs b a.woven a.once a.built there
    content_settled gates n rs (HighLevel drawn) a there = graph_is gates n rs drawn

    entry_settled : (gates : GateMap) (n : ℕ) (name : List ℕ) (c : ChartEntry) → chart_at table name ≡ Some c → IsEach (expand_entry (table_ends table) table chart gates n (Some c))
    entry_settled gates n name c e = content_settled gates n (refinements c.decls) c.content (entry_has IsAcceptedChart table name c charts e) (table_has table [] name c e)

  charts_settled : (depth : ℕ) (name : List ℕ) (gates : GateMap) (n : ℕ) → IsEach (expand_charts (table_ends table) table depth name gates n)
  charts_settled zero name gates n = tt
  charts_settled (suc depth) name gates n = by (charts_settled depth) (chart_at table name) refl
    where
      by : ((name : List ℕ) (gates : GateMap) (n : ℕ) → IsEach (expand_charts (table_ends table) table depth name gates n)) → (o : Option ChartEntry) → chart_at table name ≡ o → IsEach (expand_entry (table_ends table) table (expand_charts (table_ends table) table depth) gates n o)
      by known None e = tt
      by known (Some c) e = entry_settled (expand_charts (table_ends table) table depth) known gates n name c e

  pub events_settled : (name : List ℕ) (e : NumberedEvent) → Among e (events_in (chart_expansion table name)) → IsSettled (table_instances [] table) e.happening
  events_settled name e i = of_each (table_ends table) Settled (events_in (chart_expansion table name)) e (charts_settled EXPANDED_NESTING name no_gates 0) i
