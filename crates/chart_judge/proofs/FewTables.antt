-- The levels of the charts of an accepted table have no more pairs than events and what these are ordered with.
use Rattle.std.specs.Prelude.{ℕ, zero, suc, List, [], ◌∷◌, ◌++◌, Option, None, Some}
use Rattle.std.proofs.Common.{sym, subst, inl, inr}
use Rattle.chart_forms.specs.BodyEvents.{events_within, item_within, items_within, operands_within}
use Rattle.chart_forms.specs.BuiltBodies.{AreBuiltBodies, AreBuiltItems, IsBuiltBody, IsBuiltItem}
use Rattle.expanded_terms.specs.FewPairs.{HasFewOwn, node_numbers}
use Rattle.expanded_terms.specs.JoinProducts.{AreFewExpressions, AreFewFrames, AreFewItems, AreFewLines, AreFewOperands, AreFewRefined, IsFewBody, IsFewEntry, IsFewExpression, IsFewItem, IsFewLevel, IsFewNode, IsFewTo, IsFewWoven}
use Rattle.gate_ends.specs.FoundEnds.{AreAll, item_names, items_names, level_names, operands_names}
use Rattle.general_ordering.specs.EventNames.{LevelsBreakNameRule, Twice, breaks, places_where}
use Rattle.general_ordering.proofs.NamesOnce.{names_once}
use Rattle.msc_acceptance.specs.AcceptedCharts.{EachChart, IsAcceptedBody, IsAcceptedChart, IsAcceptedContent, IsThereTo, content_levels, content_names, used_refinements}
use Rattle.chart_lists.specs.Listing.{cover_of}
use Rattle.msc_base.specs.Lists.{IsAmong}
use Rattle.msc_base.specs.Orders.{Among, first, later, Once}
use Rattle.msc_base.specs.declared.place.Place.{Place}
use Rattle.msc_meaning.specs.Bodies.{EventNode, Body, level, WovenItems, no_items, item_and, WovenItem, Single, Coregion, Inline, Refer, Bodies, no_bodies, body_and, events}
use Rattle.msc_meaning.specs.BodyLevels.{BodyLevel, EachLevel, body_levels, item_levels, items_levels, level_events, levels_from, operands_levels}
use Rattle.msc_meaning.specs.InnerEvents.{charts_in, charts_in_all}
use Rattle.msc_meaning.specs.Levels.{IsWovenLevel, woven, AreWovenItems, no_woven, woven_and, IsWovenItem, an_event, a_coregion, an_inline, a_reference, AreWovenOperands, no_woven_operand, woven_operand_and}
use Rattle.msc_meaning.specs.Pairing.{ArePairs}
use Rattle.msc_meaning.specs.Pieces.{Piece}
use Rattle.msc_meaning.specs.Tables.{ChartEntry, Table, body_in, Woven, Basic, HighLevel, Refinement, refinements}
use Rattle.msc_meaning.proofs.LevelLaws.{each_both, each_left, each_right}
use Rattle.msc_base.specs.declared.label.LabelRef.{LabelRef}
use Rattle.msc_tree.specs.declared.chart.Decl.{Decl}
use Rattle.msc_tree.specs.Graphs as graphs
use Rattle.msc_tree.specs.Graphs.{graph, Lines, no_lines, line_and, line, Node, Ends, Connect, Condition, Frames, Graphs, no_graphs, graph_and}
use Rattle.woven_laws.specs.GraphNames.{frames_names, lines_names, node_names}
use Rattle.msc_tree.specs.Expressions.{Expression, Empty, Chart, Alt, Par, Seq, Opt, Loop, Expressions, none, more}
use Rattle.msc_tree.specs.declared.reference.InlineForm.{InlineForm}
use Rattle.gate_rules.specs.GateLaws.{HasGates}
use Rattle.chart_judge.proofs.NamedBodies.{HasContent, IsGatedLevel, all_left, all_right, content_body, has_content, refining_names, there_content}
use Rattle.chart_judge.proofs.LevelPairs.{level_is_few}

-- ---- numbers that differ

among_left : (ns ms : List EventNode) (k : ℕ) → Among k (node_numbers ns) → Among k (node_numbers (ns ++ ms))
among_left (n ∷ ns) ms _ first = first
among_left (n ∷ ns) ms k (later h) = later (among_left ns ms k h)
among_left [] ms k h = elim h [ ]

among_right : (ns ms : List EventNode) (k : ℕ) → Among k (node_numbers ms) → Among k (node_numbers (ns ++ ms))
among_right [] ms k h = h
among_right (n ∷ ns) ms k h = later (among_right ns ms k h)

among_over : (ns cs bs : List EventNode) → ((k : ℕ) → Among k (node_numbers cs) → Among k (node_numbers bs)) → (k : ℕ) → Among k (node_numbers (ns ++ cs)) → Among k (node_numbers (ns ++ bs))
among_over [] cs bs f k h = f k h
among_over (n ∷ ns) cs bs f _ first = first
among_over (n ∷ ns) cs bs f k (later h) = later (among_over ns cs bs f k h)

once_over : (ns cs bs : List EventNode) → ((k : ℕ) → Among k (node_numbers cs) → Among k (node_numbers bs)) → (Once (node_numbers bs) → Once (node_numbers cs)) → Once (node_numbers (ns ++ bs)) → Once (node_numbers (ns ++ cs))
once_over [] cs bs f g o = g o
once_over (n ∷ ns) cs bs f g (o, h) = ((λ i. o (among_over ns cs bs f n.number i)), once_over ns cs bs f g h)

once_left : (ns ms : List EventNode) → Once (node_numbers (ns ++ ms)) → Once (node_numbers ns)
once_left [] ms o = tt
once_left (n ∷ ns) ms (o, h) = ((λ i. o (among_left ns ms n.number i)), once_left ns ms h)

once_right : (ns ms : List EventNode) → Once (node_numbers (ns ++ ms)) → Once (node_numbers ms)
once_right [] ms o = o
once_right (n ∷ ns) ms (o, h) = once_right ns ms h

own_within : (xs : WovenItems) (k : ℕ) → Among k (node_numbers (events xs)) → Among k (node_numbers (items_within xs))
own_within no_items k h = h
own_within (item_and (Single n) xs) k h = among_over (n ∷ []) (events xs) (items_within xs) (λ j i. own_within xs j i) k h
own_within (item_and (Coregion ns) xs) k h = among_over ns (events xs) (items_within xs) (λ j i. own_within xs j i) k h
own_within (item_and (Inline form part operands) xs) k h = among_right (operands_within operands) (items_within xs) k (own_within xs k h)
own_within (item_and (Refer part) xs) k h = own_within xs k h

own_once : (xs : WovenItems) → Once (node_numbers (items_within xs)) → Once (node_numbers (events xs))
own_once no_items o = o
own_once (item_and (Single n) xs) o = once_over (n ∷ []) (events xs) (items_within xs) (λ j i. own_within xs j i) (λ h. own_once xs h) o
own_once (item_and (Coregion ns) xs) o = once_over ns (events xs) (items_within xs) (λ j i. own_within xs j i) (λ h. own_once xs h) o
own_once (item_and (Inline form part operands) xs) o = own_once xs (once_right (operands_within operands) (items_within xs) o)
own_once (item_and (Refer part) xs) o = own_once xs o

abbrev IsOnce : BodyLevel → Type 0
IsOnce l = Once (node_numbers (level_events l.body))

mutual
  once_body : (f : Option InlineForm) (b : Body) → Once (node_numbers (events_within b)) → EachLevel IsOnce (levels_from f b)
  once_body f (level cover held pairs) o = (own_once held o, once_items held o)

  once_items : (xs : WovenItems) → Once (node_numbers (items_within xs)) → EachLevel IsOnce (items_levels xs)
  once_items no_items o = tt
  once_items (item_and x xs) o = each_both IsOnce (item_levels x) (items_levels xs) (once_item x (once_left (item_within x) (items_within xs) o)) (once_items xs (once_right (item_within x) (items_within xs) o))

  once_item : (x : WovenItem) → Once (node_numbers (item_within x)) → EachLevel IsOnce (item_levels x)
  once_item (Single n) o = tt
  once_item (Coregion ns) o = tt
  once_item (Inline form part operands) o = once_operands form operands o
  once_item (Refer part) o = tt

  once_operands : (f : InlineForm) (bs : Bodies) → Once (node_numbers (operands_within bs)) → EachLevel IsOnce (operands_levels f bs)
  once_operands f no_bodies o = tt
  once_operands f (body_and b bs) o =
      each_both IsOnce (levels_from (Some f) b) (operands_levels f bs) (once_body (Some f) b (once_left (events_within b) (operands_within bs) o)) (once_operands f bs (once_right (events_within b) (operands_within bs) o))

-- ---- the pairs of a level are those of its messages

abbrev HasPairs : Body → Type 0
HasPairs (level cover held pairs) = ArePairs (events held) pairs

abbrev HasOwn : BodyLevel → Type 0
HasOwn l = HasPairs l.body

mutual
  own_body : {cover : List (List ℕ)} {ps : List Piece} (f : Option InlineForm) (b : Body) → IsWovenLevel cover ps b → EachLevel HasOwn (levels_from f b)
  own_body f _ (woven {held = held} o h p) = (p, own_items held h)

  own_items : {cover : List (List ℕ)} {all : List (List Piece)} {order : List ℕ} (xs : WovenItems) → AreWovenItems cover all order xs → EachLevel HasOwn (items_levels xs)
  own_items _ no_woven = tt
  own_items _ (woven_and {item = x} {held = xs} at h k) = each_both HasOwn (item_levels x) (items_levels xs) (own_item x h) (own_items xs k)

  own_item : {cover : List (List ℕ)} {ps : List Piece} (x : WovenItem) → IsWovenItem cover ps x → EachLevel HasOwn (item_levels x)
  own_item _ (an_event e f) = tt
  own_item _ (a_coregion e f) = tt
  own_item _ (an_inline {head = head} {held = held} e h) = own_operands head.form held h
  own_item _ (a_reference e) = tt

  own_operands : {cover : List (List ℕ)} {ps : List Piece} {k n : ℕ} (f : InlineForm) (bs : Bodies) → AreWovenOperands cover ps k n bs → EachLevel HasOwn (operands_levels f bs)
  own_operands f _ no_woven_operand = tt
  own_operands f _ (woven_operand_and {body = b} {others = bs} h k) = each_both HasOwn (levels_from (Some f) b) (operands_levels f bs) (own_body (Some f) b h) (own_operands f bs k)

-- ---- what each level has

-- on a level no two events have one number, and no more than one has a name
record IsNumbered (held : WovenItems) (pairs : _) : Type 0 where
  once : Once (node_numbers (events held))
  paired : ArePairs (events held) pairs
  named : (p : Place) → IsAmong (places_where (breaks Twice (events held)) (events held)) p → ⊥

abbrev IsNumberedBody : Body → Type 0
IsNumberedBody (level cover held pairs) = IsNumbered held pairs

abbrev IsNumberedLevel : BodyLevel → Type 0
IsNumberedLevel l = IsNumberedBody l.body

numbered_body : (b : Body) → HasPairs b → Once (node_numbers (level_events b)) → ((p : Place) → IsAmong (places_where (breaks Twice (level_events b)) (level_events b)) p → ⊥) → IsNumberedBody b
numbered_body (level cover held pairs) h o f = record { once = o; paired = h; named = f }

numbered_levels : (ls : List BodyLevel) → EachLevel HasOwn ls → EachLevel IsOnce ls → ((p : Place) → LevelsBreakNameRule Twice ls p → ⊥) → EachLevel IsNumberedLevel ls
numbered_levels [] h o f = tt
numbered_levels (l ∷ ls) h o f = (numbered_body l.body h.0 o.0 (λ p i. f p (inl i)), numbered_levels ls h.1 o.1 (λ p i. f p (inr i)))

-- ---- gates

few_own : (table : Table) (held : WovenItems) (pairs : _) → IsNumbered held pairs → HasGates table held → HasFewOwn held pairs
few_own table held pairs h g = record {
  numbers = h.once;
  pairs = level_is_few held pairs h.paired (names_once (events held) h.once h.named);
  calls = g.once;
}

-- ---- a body with the charts that it names

abbrev IsFewLevelOf : Table → BodyLevel → Type 0
IsFewLevelOf table l = IsNumberedLevel l × IsGatedLevel table l

both_levels : (table : Table) (ls : List BodyLevel) → EachLevel IsNumberedLevel ls → EachLevel (IsGatedLevel table) ls → EachLevel (IsFewLevelOf table) ls
both_levels table [] h g = tt
both_levels table (l ∷ ls) h g = ((h.0, g.0), both_levels table ls h.1 g.1)

module _ (table : Table) (Is Few : List ℕ → Type 0) (known : (name : List ℕ) → Is name → Few name) (contents : (name : List ℕ) → Is name → HasContent table Is name) where
  mutual
    expression_few : (e : Expression) → AreAll Is (charts_in e) → IsFewExpression Few e
    expression_few Empty h = tt
    expression_few (Chart name) h = known name h.0
    expression_few (Alt parts) h = expressions_few parts h
    expression_few (Par parts) h = expressions_few parts h
    expression_few (Seq parts) h = expressions_few parts h
    expression_few (Opt part) h = expression_few part h
    expression_few (Loop lower upper part) h = expression_few part h

    expressions_few : (xs : Expressions) → AreAll Is (charts_in_all xs) → AreFewExpressions Few xs
    expressions_few none h = tt
    expressions_few (more x xs) h = (expression_few x (all_left Is (charts_in x) (charts_in_all xs) h), expressions_few xs (all_right Is (charts_in x) (charts_in_all xs) h))

  module _ (names : List (List ℕ)) where
    mutual
      level_few : (f : Option InlineForm) (b : Body) → IsBuiltBody names b → EachLevel (IsFewLevelOf table) (levels_from f b) → AreAll Is (level_names b) → IsFewLevel Few b
      level_few f (level cover held pairs) p o h = (few_own table held pairs o.0.0 o.0.1, items_few held p o.1 h)

      items_few : (xs : WovenItems) → AreBuiltItems names xs → EachLevel (IsFewLevelOf table) (items_levels xs) → AreAll Is (items_names xs) → AreFewItems Few xs
      items_few no_items p o h = tt
      items_few (item_and x xs) p o h = (
        item_few x p.0 (each_left (IsFewLevelOf table) (item_levels x) (items_levels xs) o) (all_left Is (item_names x) (items_names xs) h),
        items_few xs p.1 (each_right (IsFewLevelOf table) (item_levels x) (items_levels xs) o) (all_right Is (item_names x) (items_names xs) h),
      )

      item_few : (x : WovenItem) → IsBuiltItem names x → EachLevel (IsFewLevelOf table) (item_levels x) → AreAll Is (item_names x) → IsFewItem Few x
      item_few (Single n) p o h = tt
      item_few (Coregion ns) p o h = tt
      item_few (Inline form part operands) p o h = (p.0, operands_few form operands p.1 o h)
      item_few (Refer part) p o h = expression_few part.expression h

      operands_few : (f : InlineForm) (bs : Bodies) → AreBuiltBodies names bs → EachLevel (IsFewLevelOf table) (operands_levels f bs) → AreAll Is (operands_names bs) → AreFewOperands Few bs
      operands_few f no_bodies p o h = tt
      operands_few f (body_and b bs) p o h = (
        level_few (Some f) b p.0 (each_left (IsFewLevelOf table) (levels_from (Some f) b) (operands_levels f bs) o) (all_left Is (level_names b) (operands_names bs) h),
        operands_few f bs p.1 (each_right (IsFewLevelOf table) (levels_from (Some f) b) (operands_levels f bs) o) (all_right Is (level_names b) (operands_names bs) h),
      )

  body_few : (b : Body) → IsAcceptedBody b → EachLevel (IsGatedLevel table) (body_levels b) → AreAll Is (level_names b) → IsFewLevel Few b
  body_few b a gated named =
      let numbered = numbered_levels (body_levels b) (own_body None b a.woven) (once_body None b a.once) a.named_once in
      level_few (cover_of b) None b a.built (both_levels table (body_levels b) numbered gated) named

  -- the body of a chart, where it has one
  given_few : (name : List ℕ) (decls : List Decl) (w : Woven) → IsAcceptedContent w → EachLevel (IsGatedLevel table) (content_levels w) → AreAll Is (content_names w) → IsFewBody Few (content_body name decls w)
  given_few name decls (Basic b) a g n = body_few b a g n
  given_few name decls (HighLevel drawn) a g n = tt

  refined_few : (rs : List Refinement) → AreAll Is (refining_names rs) → AreFewRefined Few table rs
  refined_few [] h = tt
  refined_few (r ∷ rs) h = let c = contents r.chart h.0 in (subst (λ (o : Option ChartEntry). IsFewBody Few (body_in o)) (sym c.is) (given_few c.chart.name c.chart.decls c.chart.content c.accepted c.gated c.named), refined_few rs h.1)

  woven_few : (rs : List Refinement) (b : Body) → IsFewLevel Few b → AreFewRefined Few table rs → IsFewWoven Few table rs (Basic b)
  woven_few [] b h g = h
  woven_few (r ∷ rs) b h g = (h, g)

  mutual
    lines_few : (lines : Lines) → AreAll Is (lines_names lines) → AreFewLines Few lines
    lines_few no_lines h = tt
    lines_few (line_and (line label place node next) rest) h = (node_few node (all_left Is (node_names node) (lines_names rest) h), lines_few rest (all_right Is (node_names node) (lines_names rest) h))

    node_few : (node : Node) → AreAll Is (node_names node) → IsFewNode Few node
    node_few Ends h = tt
    node_few Connect h = tt
    node_few (Condition names) h = tt
    node_few (graphs.Refer expression) h = expression_few expression h
    node_few (Frames held) h = frames_few held h

    frames_few : (held : Graphs) → AreAll Is (frames_names held) → AreFewFrames Few held
    frames_few no_graphs h = tt
    frames_few (graph_and (graph starts lines) rest) h = (lines_few lines (all_left Is (lines_names lines) (frames_names rest) h), frames_few rest (all_right Is (lines_names lines) (frames_names rest) h))

  graph_few : (rs : List Refinement) (starts : List LabelRef) (lines : Lines) → AreFewLines Few lines → IsFewWoven Few table rs (HighLevel (graph starts lines))
  graph_few [] starts lines h = h
  graph_few (r ∷ rs) starts lines h = h

  content_few : (decls : List Decl) (w : Woven) → IsAcceptedContent w → EachLevel (IsGatedLevel table) (content_levels w) → AreAll Is (content_names w) → AreAll Is (refining_names (used_refinements decls w)) → IsFewWoven Few table (refinements decls) w
  content_few decls (Basic b) a g n r = woven_few (refinements decls) b (body_few b a g n) (refined_few (refinements decls) r)
  content_few decls (HighLevel (graph starts lines)) a g n r = graph_few (refinements decls) starts lines (lines_few lines n)

pub few_to : (table : Table) → EachChart IsAcceptedChart table → EachChart (λ c. EachLevel (IsGatedLevel table) (content_levels c.content)) table → (depth : ℕ) (name : List ℕ) → IsThereTo table depth name → IsFewTo table depth name
few_to table charts gates zero name h = absurd h
few_to table charts gates (suc depth) name h =
    let c = has_content table charts gates (IsThereTo table depth) name h in
    subst (λ (o : Option ChartEntry). IsFewEntry (IsFewTo table depth) table o) (sym c.is)
    (content_few table (IsThereTo table depth) (IsFewTo table depth) (few_to table charts gates depth) (there_content table charts gates depth) c.chart.decls c.chart.content c.accepted c.gated c.named c.refining)
