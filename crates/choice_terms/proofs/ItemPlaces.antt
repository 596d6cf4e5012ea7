-- The numbers that items of a level show lie between their first number and the next one.
use Rattle.std.specs.Prelude.{ℕ, List, [], ◌∷◌}
use Rattle.msc_base.specs.declared.label.Far.{Far}
use Rattle.msc_unfolding.specs.Unfoldings.{Tag, past_level}
use Rattle.msc_tree.specs.declared.reference.InlineForm.{InlineForm}
use Rattle.msc_tree.specs.declared.reference.InlineForm.TheVariants as inline
use Rattle.msc_tree.specs.Expressions.{Expression}
use Rattle.msc_meaning.specs.Bodies.{EventNode, InlinePart, Body, level, WovenItems, no_items, item_and, WovenItem, Single, Coregion, Inline, Refer, Bodies, no_bodies, body_and}
use Rattle.msc_meaning.specs.Calls.{calls}
use Rattle.msc_meaning.specs.ChartUnfoldings.{gates_of, refining_under}
use Rattle.msc_meaning.specs.FarEnds.{GateMap, Around, Gates, gates_referred, happening, inside}
use Rattle.msc_meaning.specs.InnerEvents.{GateEnd}
use Rattle.msc_meaning.specs.Refinements.{Refining, past_refining, refining}
use Rattle.msc_meaning.specs.Ties.{past_inline, past_reference, ties}
use Rattle.expanded_charts.specs.Expanding as tree
use Rattle.expanded_charts.specs.Expanding.{Charts, aside, expand, expand_events, expand_item, expand_items, expand_level, expand_operands, expand_refinings, in_row, past, tied}
use Rattle.node_ranks.specs.NamedCharts.{ItemNamesOnly, ItemsNameOnly, LevelNamesOnly, NamesOnly, OperandsNameOnly, RefiningsNameOnly}
use Rattle.node_ranks.proofs.Families.{PartsFamily, expression_kept}
use Rattle.node_ranks.proofs.Placed.{HasPlaces, HavePlaces, placed_kept}

module _ (ends_of : WovenItems → List GateEnd) (chart : Charts) (Named : List ℕ → Type 0) (known : (name : List ℕ) (gates : GateMap) → Named name → HasPlaces (chart name gates) (chart name gates)) where
  expression_placed : (gates : GateMap) (e : Expression) → NamesOnly Named e → HasPlaces (λ n. expand chart ends_of gates n e) (λ n. expand chart ends_of gates n e)
  expression_placed gates e w = expression_kept HasPlaces HavePlaces placed_kept ends_of chart chart Named known gates e w

  events_placed : (es : List GateEnd) (a : Around) (ks : List EventNode) → HavePlaces (λ n. expand_events chart ends_of es a n ks) (λ n. expand_events chart ends_of es a n ks)
  events_placed es a [] = placed_kept.nothing
  events_placed es a (k ∷ ks) = placed_kept.then (λ n. tree.event n (happening es a k)) (λ n. tree.event n (happening es a k)) (λ n. expand_events chart ends_of es a n ks) (λ n. expand_events chart ends_of es a n ks) (placed_kept.event (happening es a k)) (events_placed es a ks)

  inline_placed : (form : InlineForm) (part : InlinePart) (l : PartsFamily) → HavePlaces l l → HasPlaces (λ n. tree.inline_by form part n (l n)) (λ n. tree.inline_by form part n (l n))
  inline_placed inline.Alt part l h = placed_kept.one_of l l h
  inline_placed inline.Opt part l h = placed_kept.or_nothing (λ n. tree.one_of (l n)) (λ n. tree.one_of (l n)) (placed_kept.one_of l l h)
  inline_placed inline.Par part l h = placed_kept.aside l l h
  inline_placed inline.Exc part l h = placed_kept.exception (λ n. tree.one_of (l n)) (λ n. tree.one_of (l n)) (placed_kept.one_of l l h)
  inline_placed inline.Loop part l h = placed_kept.turns part.lower part.upper (λ n. tree.one_of (l n)) (λ n. tree.one_of (l n)) (placed_kept.one_of l l h)

  row_placed : (f : Tag → List Tag) (ts : List (Tag × Tag)) (l : PartsFamily) → HavePlaces l l → HasPlaces (λ n. past f (tied ts (in_row (l n)))) (λ n. past f (tied ts (in_row (l n))))
  row_placed f ts l h = placed_kept.past f (λ n. tied ts (in_row (l n))) (λ n. tied ts (in_row (l n))) (placed_kept.tied ts (λ n. in_row (l n)) (λ n. in_row (l n)) (placed_kept.in_row l l h))

  mutual
    level_placed : (a : Around) (b : Body) → LevelNamesOnly Named b → HasPlaces (λ n. expand_level chart ends_of a n b) (λ n. expand_level chart ends_of a n b)
    level_placed a (level cover held pairs) w = row_placed past_level (ties held pairs (calls held) (ends_of held)) (λ n. expand_items chart ends_of (gates_of held (ends_of held)) a n held) (items_placed (gates_of held (ends_of held)) a held w)

    pub items_placed : (g : Gates) (a : Around) (xs : WovenItems) → ItemsNameOnly Named xs → HavePlaces (λ n. expand_items chart ends_of g a n xs) (λ n. expand_items chart ends_of g a n xs)
    items_placed g a no_items w = placed_kept.nothing
    items_placed g a (item_and x xs) (w, v) = placed_kept.then (λ n. expand_item chart ends_of g a n x) (λ n. expand_item chart ends_of g a n x) (λ n. expand_items chart ends_of g a n xs) (λ n. expand_items chart ends_of g a n xs) (item_placed g a x w) (items_placed g a xs v)

    pub item_placed : (g : Gates) (a : Around) (x : WovenItem) → ItemNamesOnly Named x → HasPlaces (λ n. expand_item chart ends_of g a n x) (λ n. expand_item chart ends_of g a n x)
    item_placed g a (Single k) w = placed_kept.event (happening g.ends a k)
    item_placed g a (Coregion ks) w = placed_kept.aside (λ n. expand_events chart ends_of g.ends a n ks) (λ n. expand_events chart ends_of g.ends a n ks) (events_placed g.ends a ks)
    item_placed g a (Refer part) w = placed_kept.past (past_reference g.calls part.name part.joins) (λ n. expand chart ends_of (gates_referred g part.name part.joins a.gates) n part.expression) (λ n. expand chart ends_of (gates_referred g part.name part.joins a.gates) n part.expression)
        (expression_placed (gates_referred g part.name part.joins a.gates) part.expression w)
    item_placed g a (Inline form part bs) w =
        placed_kept.past (past_inline g.calls part.name) (λ n. tree.inline_by form part n (expand_operands chart ends_of (inside g part.name a) n bs)) (λ n. tree.inline_by form part n (expand_operands chart ends_of (inside g part.name a) n bs))
        (inline_placed form part (λ n. expand_operands chart ends_of (inside g part.name a) n bs) (operands_placed (inside g part.name a) bs w))

    operands_placed : (a : Around) (bs : Bodies) → OperandsNameOnly Named bs → HavePlaces (λ n. expand_operands chart ends_of a n bs) (λ n. expand_operands chart ends_of a n bs)
    operands_placed a no_bodies w = placed_kept.nothing
    operands_placed a (body_and b bs) (w, v) = placed_kept.then (λ n. expand_level chart ends_of a n b) (λ n. expand_level chart ends_of a n b) (λ n. expand_operands chart ends_of a n bs) (λ n. expand_operands chart ends_of a n bs) (level_placed a b w) (operands_placed a bs v)

  pub refinings_placed : (far_of : EventNode → Far) (rs : List Refining) → RefiningsNameOnly Named rs → HavePlaces (λ n. expand_refinings chart ends_of far_of n rs) (λ n. expand_refinings chart ends_of far_of n rs)
  refinings_placed far_of [] w = placed_kept.nothing
  refinings_placed far_of (refining (level cover held pairs) ms ∷ rs) (w, v) =
      placed_kept.then (λ n. past (past_refining ms) (tied (ties held pairs (calls held) (ends_of held)) (in_row (expand_items chart ends_of (gates_of held (ends_of held)) (refining_under far_of ms) n held))))
      (λ n. past (past_refining ms) (tied (ties held pairs (calls held) (ends_of held)) (in_row (expand_items chart ends_of (gates_of held (ends_of held)) (refining_under far_of ms) n held))))
      (λ n. expand_refinings chart ends_of far_of n rs) (λ n. expand_refinings chart ends_of far_of n rs)
      (row_placed (past_refining ms) (ties held pairs (calls held) (ends_of held)) (λ n. expand_items chart ends_of (gates_of held (ends_of held)) (refining_under far_of ms) n held) (items_placed (gates_of held (ends_of held)) (refining_under far_of ms) held w))
      (refinings_placed far_of rs v)
