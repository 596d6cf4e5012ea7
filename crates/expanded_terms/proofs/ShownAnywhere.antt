-- The tags that are shown don't depend on the first number.
use Rattle.std.specs.Prelude.{ℕ, zero, suc, ◌+◌, List, [], ◌∷◌, ◌++◌, Option, None, Some, map}
use Rattle.std.specs.List.{flat_map}
use Rattle.std.proofs.Common.{◌≡◌, refl, sym, ◌∙◌, ap}
use Rattle.msc_unfolding.specs.Unfoldings.{Tag, Own, past_level}
use Rattle.term_meaning.specs.Portions.{Shown, shown_at, past_shown}
use Rattle.msc_tree.specs.Expressions.{Expression, Empty, Chart, Alt, Par, Seq, Opt, Expressions, none, more}
use Rattle.msc_tree.specs.Expressions as expression
use Rattle.msc_meaning.specs.Bodies.{EventNode, Body, level, WovenItems, no_items, item_and, WovenItem, Single, Coregion, Inline, Refer, Bodies, no_bodies, body_and}
use Rattle.msc_meaning.specs.Calls.{Call, calls}
use Rattle.msc_meaning.specs.FarEnds.{gate_tags}
use Rattle.msc_meaning.specs.InnerEvents.{GateEnd}
use Rattle.msc_meaning.specs.Refinements.{Refining, refining, refinings, without_decomposed, past_refining}
use Rattle.msc_meaning.specs.Tables.{Table, ChartEntry, chart_at, Woven, Basic, HighLevel, Refinement, refinements}
use Rattle.msc_meaning.specs.Ties.{past_inline, past_reference}
use Rattle.expanded_terms.specs.ExpandedTerms.{Leaves, Charts, charts_to, entry_shown, items_count, event_shown, events_shown, expression_shown, expressions_shown, level_shown, items_shown, item_shown, operands_shown, refinings_shown, refined_shown, woven_shown, expression_count, item_count, level_count}

-- the tags that are shown
abbrev pub tags : Shown → List Tag
tags sh = map (λ p. p.1) sh

-- above a tie that changes tags so
abbrev each_past : (Tag → List Tag) → List Tag → List Tag
each_past f ts = flat_map f ts

tags_app : (a b : Shown) → tags (a ++ b) ≡ tags a ++ tags b
tags_app [] b = refl
tags_app (p ∷ a) b = ap (λ l. p.1 ∷ l) (tags_app a b)

tags_at : (n : ℕ) (ts : List Tag) → tags (shown_at n ts) ≡ ts
tags_at n [] = refl
tags_at n (t ∷ ts) = ap (λ l. t ∷ l) (tags_at n ts)

tags_past : (f : Tag → List Tag) (sh : Shown) → tags (past_shown f sh) ≡ each_past f (tags sh)
tags_past f [] = refl
tags_past f (p ∷ sh) = tags_app (shown_at p.0 (f p.1)) (past_shown f sh) ∙ (ap (λ l. l ++ tags (past_shown f sh)) (tags_at p.0 (f p.1)) ∙ ap (λ l. f p.1 ++ l) (tags_past f sh))

both_same : (a b c d : Shown) → tags a ≡ tags b → tags c ≡ tags d → tags (a ++ c) ≡ tags (b ++ d)
both_same a b c d e f = tags_app a c ∙ (ap (λ l. l ++ tags c) e ∙ (ap (λ l. tags b ++ l) f ∙ sym (tags_app b d)))

past_same : (f : Tag → List Tag) (a b : Shown) → tags a ≡ tags b → tags (past_shown f a) ≡ tags (past_shown f b)
past_same f a b e = tags_past f a ∙ (ap (λ l. each_past f l) e ∙ sym (tags_past f b))

module _ (charts : Charts) (known : (name : List ℕ) (n m : ℕ) → tags (charts.shown name n) ≡ tags (charts.shown name m)) where
  pub event_same : (n m : ℕ) (e : EventNode) → tags (event_shown charts n e) ≡ tags (event_shown charts m e)
  event_same n m e = tags_at n (Own e.number ∷ gate_tags e.event.target) ∙ sym (tags_at m (Own e.number ∷ gate_tags e.event.target))

  pub events_same : (n m : ℕ) (es : List EventNode) → tags (events_shown charts n es) ≡ tags (events_shown charts m es)
  events_same n m [] = refl
  events_same n m (e ∷ es) = both_same (event_shown charts n e) (event_shown charts m e) (events_shown charts (n + 1) es) (events_shown charts (m + 1) es) (event_same n m e) (events_same (n + 1) (m + 1) es)

  mutual
    pub expression_same : (n m : ℕ) (e : Expression) → tags (expression_shown charts n e) ≡ tags (expression_shown charts m e)
    expression_same n m Empty = refl
    expression_same n m (Chart name) = known name n m
    expression_same n m (Alt parts) = expressions_same n m parts
    expression_same n m (Par parts) = expressions_same n m parts
    expression_same n m (Seq parts) = expressions_same n m parts
    expression_same n m (Opt part) = expression_same n m part
    expression_same n m (expression.Loop lower upper part) = expression_same n m part

    expressions_same : (n m : ℕ) (xs : Expressions) → tags (expressions_shown charts n xs) ≡ tags (expressions_shown charts m xs)
    expressions_same n m none = refl
    expressions_same n m (more x xs) = both_same (expression_shown charts n x) (expression_shown charts m x) (expressions_shown charts (n + expression_count charts x) xs) (expressions_shown charts (m + expression_count charts x) xs)
        (expression_same n m x) (expressions_same (n + expression_count charts x) (m + expression_count charts x) xs)

  mutual
    level_same : (n m : ℕ) (b : Body) → tags (level_shown charts n b) ≡ tags (level_shown charts m b)
    level_same n m (level cover held pairs) = past_same past_level (items_shown charts (calls held) n held) (items_shown charts (calls held) m held) (items_same (calls held) n m held)

    pub items_same : (cs : List Call) (n m : ℕ) (xs : WovenItems) → tags (items_shown charts cs n xs) ≡ tags (items_shown charts cs m xs)
    items_same cs n m no_items = refl
    items_same cs n m (item_and x xs) = both_same (item_shown charts cs n x) (item_shown charts cs m x) (items_shown charts cs (n + item_count charts x) xs) (items_shown charts cs (m + item_count charts x) xs)
        (item_same cs n m x) (items_same cs (n + item_count charts x) (m + item_count charts x) xs)

    pub item_same : (cs : List Call) (n m : ℕ) (x : WovenItem) → tags (item_shown charts cs n x) ≡ tags (item_shown charts cs m x)
    item_same cs n m (Single e) = event_same n m e
    item_same cs n m (Coregion es) = events_same n m es
    item_same cs n m (Inline form part operands) = past_same (past_inline cs part.name) (operands_shown charts n operands) (operands_shown charts m operands) (operands_same n m operands)
    item_same cs n m (Refer part) = past_same (past_reference cs part.name part.joins) (expression_shown charts n part.expression) (expression_shown charts m part.expression) (expression_same n m part.expression)

    pub operands_same : (n m : ℕ) (bs : Bodies) → tags (operands_shown charts n bs) ≡ tags (operands_shown charts m bs)
    operands_same n m no_bodies = refl
    operands_same n m (body_and b bs) = both_same (level_shown charts n b) (level_shown charts m b) (operands_shown charts (n + level_count charts b) bs) (operands_shown charts (m + level_count charts b) bs)
        (level_same n m b) (operands_same (n + level_count charts b) (m + level_count charts b) bs)

  refinings_same : (n m : ℕ) (rs : List Refining) → tags (refinings_shown charts n rs) ≡ tags (refinings_shown charts m rs)
  refinings_same n m [] = refl
  refinings_same n m (refining (level cover held pairs) ms ∷ rs) =
      both_same (past_shown (past_refining ms) (items_shown charts (calls held) n held)) (past_shown (past_refining ms) (items_shown charts (calls held) m held)) (refinings_shown charts (n + items_count charts held) rs) (refinings_shown charts (m + items_count charts held) rs)
      (past_same (past_refining ms) (items_shown charts (calls held) n held) (items_shown charts (calls held) m held) (items_same (calls held) n m held)) (refinings_same (n + items_count charts held) (m + items_count charts held) rs)

  pub woven_same : (table : Table) (n m : ℕ) (rs : List Refinement) (content : Woven) → tags (woven_shown charts table n rs content) ≡ tags (woven_shown charts table m rs content)
  woven_same table n m [] (Basic held) = level_same n m held
  woven_same table n m (r ∷ rs) (Basic (level cover held pairs)) = past_same past_level (refined_shown charts table n (r ∷ rs) held) (refined_shown charts table m (r ∷ rs) held)
      (both_same (items_shown charts (calls held) n (without_decomposed (r ∷ rs) held)) (items_shown charts (calls held) m (without_decomposed (r ∷ rs) held))
      (refinings_shown charts (n + items_count charts (without_decomposed (r ∷ rs) held)) (refinings table held (r ∷ rs))) (refinings_shown charts (m + items_count charts (without_decomposed (r ∷ rs) held)) (refinings table held (r ∷ rs)))
      (items_same (calls held) n m (without_decomposed (r ∷ rs) held)) (refinings_same (n + items_count charts (without_decomposed (r ∷ rs) held)) (m + items_count charts (without_decomposed (r ∷ rs) held)) (refinings table held (r ∷ rs))))
  woven_same table n m [] (HighLevel drawn) = refl
  woven_same table n m (r ∷ rs) (HighLevel drawn) = refl

  entry_same : (table : Table) (n m : ℕ) (o : Option ChartEntry) → tags (entry_shown charts table n o) ≡ tags (entry_shown charts table m o)
  entry_same table n m None = refl
  entry_same table n m (Some entry) = woven_same table n m (refinements entry.decls) entry.content

pub charts_same : (leaves : Leaves) (ends_of : WovenItems → List GateEnd) (table : Table) (k : ℕ) (name : List ℕ) (n m : ℕ) → tags ((charts_to leaves ends_of table k).shown name n) ≡ tags ((charts_to leaves ends_of table k).shown name m)
charts_same leaves ends_of table zero name n m = refl
charts_same leaves ends_of table (suc k) name n m = entry_same (charts_to leaves ends_of table k) (charts_same leaves ends_of table k) table n m (chart_at table name)
