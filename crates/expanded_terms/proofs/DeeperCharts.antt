-- At a greater depth a whole chart has the same count and shows the same.
use Rattle.std.specs.Prelude.{ℕ, zero, suc, ◌+◌, ◌≤◌, List, [], ◌∷◌, ◌++◌, Option}
use Rattle.std.proofs.Common.{◌≡◌, ◌∙◌, refl, sym, subst, ap, arith}
use Rattle.msc_unfolding.specs.Unfoldings.{past_level}
use Rattle.term_meaning.specs.Portions.{Shown, past_shown}
use Rattle.msc_tree.specs.Expressions.{Expression, Empty, Chart, Alt, Par, Seq, Opt, Expressions, none, more}
use Rattle.msc_tree.specs.Expressions as expression
use Rattle.msc_tree.specs.Graphs as tree
use Rattle.msc_tree.specs.Graphs.{graph, Lines, no_lines, line_and, line, Node, Ends, Connect, Condition, Frames, Graphs, no_graphs, graph_and}
use Rattle.msc_meaning.specs.Bodies.{EventNode, Body, level, WovenItems, no_items, item_and, WovenItem, Single, Coregion, Inline, Refer, Bodies, no_bodies, body_and}
use Rattle.msc_meaning.specs.Calls.{Call, calls}
use Rattle.msc_meaning.specs.InnerEvents.{GateEnd}
use Rattle.msc_meaning.specs.Refinements.{Refining, refining, refinings, without_decomposed, past_refining}
use Rattle.msc_meaning.specs.Tables.{Table, ChartEntry, chart_at, Woven, Basic, HighLevel, Refinement, refinements}
use Rattle.msc_meaning.specs.Ties.{past_inline, past_reference}
use Rattle.expanded_terms.specs.DeeperCharts.{AreSameOf, DeeperIsSame}
use Rattle.expanded_terms.specs.ExpandedTerms.{lines_count, node_count, frames_count, Leaves, Charts, charts_to, entry_count, entry_shown, expression_count, expressions_count, level_count, items_count, item_count, operands_count, refinings_count, woven_count, event_shown, events_shown, expression_shown, expressions_shown, level_shown, items_shown, item_shown, operands_shown, refinings_shown, woven_shown}
use Rattle.expanded_terms.specs.WholeCharts.{AreWholeLines, IsWholeNode, AreWholeFrames, IsWholeExpression, AreWholeExpressions, IsWholeLevel, AreWholeItems, IsWholeItem, AreWholeOperands, AreWholeRefinings, IsWholeWoven, HasWholeEntry, IsWholeTo}

-- one list behind another, which begins where the first part's count leads
placed : (a b : Shown) (f g : ℕ → Shown) (n c d : ℕ) → a ≡ b → c ≡ d → ((m : ℕ) → f m ≡ g m) → (a ++ f (n + c)) ≡ (b ++ g (n + d))
placed a b f g n c d e h k = ap (λ x. x ++ f (n + c)) e ∙ (ap (λ i. b ++ f (n + i)) h ∙ ap (λ x. b ++ x) (k (n + d)))

module _ (table : Table) (ends_of : WovenItems → List GateEnd) (Whole : List ℕ → Type 0) (charts others : Charts) (known : (name : List ℕ) → Whole name → AreSameOf charts others name) where
  mutual
    expression_counts : (e : Expression) → IsWholeExpression table ends_of Whole e → expression_count charts e ≡ expression_count others e
    expression_counts Empty w = refl
    expression_counts (Chart name) w = (known name w).count
    expression_counts (Alt parts) (some, w) = expressions_counts parts w
    expression_counts (Par parts) w = expressions_counts parts w
    expression_counts (Seq parts) w = expressions_counts parts w
    expression_counts (Opt part) w = expression_counts part w
    expression_counts (expression.Loop lower upper part) w = expression_counts part w

    expressions_counts : (xs : Expressions) → AreWholeExpressions table ends_of Whole xs → expressions_count charts xs ≡ expressions_count others xs
    expressions_counts none w = refl
    expressions_counts (more x xs) (w, v) = omega (arith, expression_counts x w, expressions_counts xs v)

  mutual
    expression_shows : (n : ℕ) (e : Expression) → IsWholeExpression table ends_of Whole e → expression_shown charts n e ≡ expression_shown others n e
    expression_shows n Empty w = refl
    expression_shows n (Chart name) w = (known name w).shown n
    expression_shows n (Alt parts) (some, w) = expressions_show n parts w
    expression_shows n (Par parts) w = expressions_show n parts w
    expression_shows n (Seq parts) w = expressions_show n parts w
    expression_shows n (Opt part) w = expression_shows n part w
    expression_shows n (expression.Loop lower upper part) w = expression_shows n part w

    expressions_show : (n : ℕ) (xs : Expressions) → AreWholeExpressions table ends_of Whole xs → expressions_shown charts n xs ≡ expressions_shown others n xs
    expressions_show n none w = refl
    expressions_show n (more x xs) (w, v) = placed (expression_shown charts n x) (expression_shown others n x) (λ m. expressions_shown charts m xs) (λ m. expressions_shown others m xs) n (expression_count charts x) (expression_count others x)
        (expression_shows n x w) (expression_counts x w) (λ m. expressions_show m xs v)

  mutual
    level_counts : (b : Body) → IsWholeLevel table ends_of Whole b → level_count charts b ≡ level_count others b
    level_counts (level cover held pairs) (e, w) = items_counts held w

    items_counts : (xs : WovenItems) → AreWholeItems table ends_of Whole xs → items_count charts xs ≡ items_count others xs
    items_counts no_items w = refl
    items_counts (item_and x xs) (w, v) = omega (arith, item_counts x w, items_counts xs v)

    item_counts : (x : WovenItem) → IsWholeItem table ends_of Whole x → item_count charts x ≡ item_count others x
    item_counts (Single k) w = refl
    item_counts (Coregion ks) w = refl
    item_counts (Inline form part operands) (has, w) = operands_counts operands w
    item_counts (Refer part) w = expression_counts part.expression w

    operands_counts : (bs : Bodies) → AreWholeOperands table ends_of Whole bs → operands_count charts bs ≡ operands_count others bs
    operands_counts no_bodies w = refl
    operands_counts (body_and b bs) (w, v) = omega (arith, level_counts b w, operands_counts bs v)

  -- events are counted and shown without charts
  events_show : (n : ℕ) (ks : List EventNode) → events_shown charts n ks ≡ events_shown others n ks
  events_show n [] = refl
  events_show n (k ∷ ks) = ap (λ l. event_shown charts n k ++ l) (events_show (n + 1) ks)

  mutual
    level_shows : (n : ℕ) (b : Body) → IsWholeLevel table ends_of Whole b → level_shown charts n b ≡ level_shown others n b
    level_shows n (level cover held pairs) (e, w) = ap (past_shown past_level) (items_show (calls held) n held w)

    items_show : (cs : List Call) (n : ℕ) (xs : WovenItems) → AreWholeItems table ends_of Whole xs → items_shown charts cs n xs ≡ items_shown others cs n xs
    items_show cs n no_items w = refl
    items_show cs n (item_and x xs) (w, v) = placed (item_shown charts cs n x) (item_shown others cs n x) (λ m. items_shown charts cs m xs) (λ m. items_shown others cs m xs) n (item_count charts x) (item_count others x)
        (item_shows cs n x w) (item_counts x w) (λ m. items_show cs m xs v)

    item_shows : (cs : List Call) (n : ℕ) (x : WovenItem) → IsWholeItem table ends_of Whole x → item_shown charts cs n x ≡ item_shown others cs n x
    item_shows cs n (Single k) w = refl
    item_shows cs n (Coregion ks) w = events_show n ks
    item_shows cs n (Inline form part operands) (has, w) = ap (past_shown (past_inline cs part.name)) (operands_show n operands w)
    item_shows cs n (Refer part) w = ap (past_shown (past_reference cs part.name part.joins)) (expression_shows n part.expression w)

    operands_show : (n : ℕ) (bs : Bodies) → AreWholeOperands table ends_of Whole bs → operands_shown charts n bs ≡ operands_shown others n bs
    operands_show n no_bodies w = refl
    operands_show n (body_and b bs) (w, v) = placed (level_shown charts n b) (level_shown others n b) (λ m. operands_shown charts m bs) (λ m. operands_shown others m bs) n (level_count charts b) (level_count others b)
        (level_shows n b w) (level_counts b w) (λ m. operands_show m bs v)

  refinings_counts : (rs : List Refining) → AreWholeRefinings table ends_of Whole rs → refinings_count charts rs ≡ refinings_count others rs
  refinings_counts [] w = refl
  refinings_counts (refining (level cover held pairs) ms ∷ rs) ((e, w), v) = omega (arith, items_counts held w, refinings_counts rs v)

  refinings_show : (n : ℕ) (rs : List Refining) → AreWholeRefinings table ends_of Whole rs → refinings_shown charts n rs ≡ refinings_shown others n rs
  refinings_show n [] w = refl
  refinings_show n (refining (level cover held pairs) ms ∷ rs) ((e, w), v) =
      placed (past_shown (past_refining ms) (items_shown charts (calls held) n held)) (past_shown (past_refining ms) (items_shown others (calls held) n held)) (λ m. refinings_shown charts m rs) (λ m. refinings_shown others m rs) n (items_count charts held) (items_count others held)
      (ap (past_shown (past_refining ms)) (items_show (calls held) n held w)) (items_counts held w) (λ m. refinings_show m rs v)

  mutual
    lines_counts : (lines : Lines) → AreWholeLines table ends_of Whole lines → lines_count charts lines ≡ lines_count others lines
    lines_counts no_lines w = refl
    lines_counts (line_and (line label place node next) rest) (w, v) = omega (arith, node_counts node w, lines_counts rest v)

    node_counts : (node : Node) → IsWholeNode table ends_of Whole node → node_count charts node ≡ node_count others node
    node_counts Ends w = refl
    node_counts Connect w = refl
    node_counts (Condition names) w = refl
    node_counts (tree.Refer e) w = expression_counts e w
    node_counts (Frames held) w = frames_counts held w

    frames_counts : (held : Graphs) → AreWholeFrames table ends_of Whole held → frames_count charts held ≡ frames_count others held
    frames_counts no_graphs w = refl
    frames_counts (graph_and (graph starts lines) rest) (w, v) = omega (arith, lines_counts lines w, frames_counts rest v)

  woven_counts : (rs : List Refinement) (content : Woven) → IsWholeWoven table ends_of Whole rs content → woven_count charts table rs content ≡ woven_count others table rs content
  woven_counts [] (Basic held) w = level_counts held w
  woven_counts (r ∷ rs) (Basic (level cover held pairs)) (e, w, v) = omega (arith, items_counts (without_decomposed (r ∷ rs) held) w, refinings_counts (refinings table held (r ∷ rs)) v)
  woven_counts [] (HighLevel (graph starts lines)) w = omega (arith, lines_counts lines w)
  woven_counts (r ∷ rs) (HighLevel (graph starts lines)) w = omega (arith, lines_counts lines w)

  woven_shows : (n : ℕ) (rs : List Refinement) (content : Woven) → IsWholeWoven table ends_of Whole rs content → woven_shown charts table n rs content ≡ woven_shown others table n rs content
  woven_shows n [] (Basic held) w = level_shows n held w
  woven_shows n (r ∷ rs) (Basic (level cover held pairs)) (e, w, v) = ap (past_shown past_level)
      (placed (items_shown charts (calls held) n (without_decomposed (r ∷ rs) held)) (items_shown others (calls held) n (without_decomposed (r ∷ rs) held)) (λ m. refinings_shown charts m (refinings table held (r ∷ rs))) (λ m. refinings_shown others m (refinings table held (r ∷ rs))) n
      (items_count charts (without_decomposed (r ∷ rs) held)) (items_count others (without_decomposed (r ∷ rs) held)) (items_show (calls held) n (without_decomposed (r ∷ rs) held) w) (items_counts (without_decomposed (r ∷ rs) held) w) (λ m. refinings_show m (refinings table held (r ∷ rs)) v))
  woven_shows n [] (HighLevel drawn) w = refl
  woven_shows n (r ∷ rs) (HighLevel drawn) w = refl

  entry_counts : (name : List ℕ) → HasWholeEntry table ends_of Whole name → entry_count charts table (chart_at table name) ≡ entry_count others table (chart_at table name)
  entry_counts name w = subst (λ (o : Option ChartEntry). entry_count charts table o ≡ entry_count others table o) (sym w.is) (woven_counts (refinements w.entry.decls) w.entry.content w.whole)

  entry_shows : (name : List ℕ) (n : ℕ) → HasWholeEntry table ends_of Whole name → entry_shown charts table n (chart_at table name) ≡ entry_shown others table n (chart_at table name)
  entry_shows name n w = subst (λ (o : Option ChartEntry). entry_shown charts table n o ≡ entry_shown others table n o) (sym w.is) (woven_shows n (refinements w.entry.decls) w.entry.content w.whole)

deeper : (leaves : Leaves) (ends_of : WovenItems → List GateEnd) (table : Table) (k j : ℕ) (name : List ℕ) → k ≤ j → IsWholeTo table ends_of k name → AreSameOf (charts_to leaves ends_of table k) (charts_to leaves ends_of table j) name
deeper leaves ends_of table zero j name l w = absurd w
deeper leaves ends_of table (suc k) zero name l w = absurd (omega (arith, l))
deeper leaves ends_of table (suc k) (suc j) name l w =
    let known = λ (other : List ℕ) (v : IsWholeTo table ends_of k other). deeper leaves ends_of table k j other (omega (arith, l)) v in record {
      count = entry_counts table ends_of (IsWholeTo table ends_of k) (charts_to leaves ends_of table k) (charts_to leaves ends_of table j) known name w;
      shown = λ n. entry_shows table ends_of (IsWholeTo table ends_of k) (charts_to leaves ends_of table k) (charts_to leaves ends_of table j) known name n w;
    }

pub deeper_is_same : DeeperIsSame
deeper_is_same = record { same = deeper }
