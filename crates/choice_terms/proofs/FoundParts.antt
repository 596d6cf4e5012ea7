-- The choices of a level, side by side with the parts that they come to where it stands.
use Rattle.std.specs.Prelude.{◌<◌, ◌≤◌, ℕ, List, [], ◌∷◌, ◌++◌}
use Rattle.std.proofs.Common.{◌≡◌, ◌∙◌, ap, append-nil, append_assoc, arith, inl, inr, refl, sym}
use Rattle.msc_base.specs.declared.label.Label.{Label}
use Rattle.msc_base.specs.declared.label.Pair.{Pair}
use Rattle.msc_base.specs.Orders.{Among, Once}
use Rattle.msc_unfolding.specs.Unfoldings.{Tag}
use Rattle.msc_tree.specs.declared.reference.InlineForm.TheVariants as inline
use Rattle.msc_meaning.specs.Bodies.{Bodies, Body, Coregion, Inline, Refer, Single, WovenItem, WovenItems, body_and, item_and, level, no_bodies, no_items}
use Rattle.msc_meaning.specs.Calls.{calls}
use Rattle.msc_meaning.specs.ChartUnfoldings.{gates_of}
use Rattle.msc_meaning.specs.FarEnds.{Around, GateMap, inside}
use Rattle.msc_meaning.specs.InnerEvents.{GateEnd}
use Rattle.msc_meaning.specs.Tables.{Table}
use Rattle.msc_meaning.specs.Ties.{ties}
use Rattle.expansion_tree.specs.Expansions.{InRow, OneOf, map_all_events, map_events, no_parts, part_and}
use Rattle.expansion_tree.specs.Numbered as numbered
use Rattle.expansion_order.specs.Ranks.{CanBeRanked}
use Rattle.expanded_charts.specs.Expanding.{Charts, Expanded, ExpandedParts, Shown, expand_charts, expand_item, expand_items, expand_level, expand_operands, tied_pairs}
use Rattle.expanded_terms.specs.FitBodies.{AreEndsOf}
use Rattle.expanded_terms.specs.WholeCharts.{AreWholeItems, AreWholeOperands, IsWholeItem, IsWholeLevel, IsWholeTo}
use Rattle.node_ranks.specs.NamedCharts.{ItemNamesOnly, ItemsNameOnly, LevelNamesOnly, OperandsNameOnly}
use Rattle.node_ranks.proofs.ListParts.{split_among}
use Rattle.node_ranks.proofs.Placed.{HasPlaces, IsPlaced}
use Rattle.choice_meaning.specs.Choices.{Choice, Operand, item_choices, items_choices, level_choices, operands_choices, operands_of, whole}
use Rattle.choice_parts.specs.ChoiceParts.{ChoiceParts, item_parts, items_parts, level_parts, operands_parts, part_behind, part_list}
use Rattle.choice_terms.specs.JudgedParts.{AreChoiceParts, AreOperandParts, IsOperandPart, choice_and, no_choice, no_operand, operand_and}
use Rattle.choice_terms.proofs.ItemPlaces.{item_placed}
use Rattle.choice_terms.proofs.PartFacts.{AreGoodParts, EachRanked, IsGoodPart, IsRow, each_ranked, f, first_ranked, good_first, good_rest, level_row, of_aside, of_exception, of_one, of_turns, row_rest}
use Rattle.choice_terms.proofs.RowOperands.{AreLaws, row_operand}

-- ---- lists

module _ (names : List (List ℕ)) (labels : List Label) (table : Table) where
  both_choices : {cs ds : List Choice} {ps qs : List ChoiceParts} → AreChoiceParts names labels table cs ps → AreChoiceParts names labels table ds qs → AreChoiceParts names labels table (cs ++ ds) (ps ++ qs)
  both_choices no_choice i = i
  both_choices (choice_and e h k) i = choice_and e h (both_choices k i)

  one_operand : {o : Operand} {y : numbered.Expansion} → IsOperandPart names labels table o y → AreOperandParts names labels table (o ∷ []) (y ∷ [])
  one_operand h = operand_and h no_operand

  both_operands : {os qs : List Operand} {ys zs : List numbered.Expansion} → AreOperandParts names labels table os ys → AreOperandParts names labels table qs zs → AreOperandParts names labels table (os ++ qs) (ys ++ zs)
  both_operands no_operand i = i
  both_operands (operand_and h k) i = operand_and h (both_operands k i)

-- what an item shows stands behind what stood in front of it
regroup : (front now rest back : Shown) → front ++ ((now ++ rest) ++ back) ≡ (front ++ now) ++ (rest ++ back)
regroup front now rest back = ap (λ (l : Shown). front ++ l) (append_assoc now rest back) ∙ sym (append_assoc front now (rest ++ back))

below_next : (n next : ℕ) (front now : Shown) → n ≤ next → ((p : ℕ × Tag) → Among p front → p.0 < n) → ((p : ℕ × Tag) → Among p now → p.0 < next) → (p : ℕ × Tag) → Among p (front ++ now) → p.0 < next
below_next n next front now l h i p k = elim (split_among front now p k) [
  | inl j ↦ let a = h p j in omega (arith, a, l)
  | inr j ↦ i p j
]

none_before : (n : ℕ) (p : ℕ × Tag) → Among p [] → p.0 < n
none_before n p i = elim i [ ]

none_behind : (n : ℕ) (p : ℕ × Tag) → Among p [] → n ≤ p.0
none_behind n p i = elim i [ ]

-- ---- side by side

module _ (laws : AreLaws) (names : List (List ℕ)) (labels : List Label) (names_once : Once names) (labels_once : Once labels) (table : Table) (ends_of : WovenItems → List GateEnd) (depth : ℕ)
    (Named : List ℕ → Type 0) (known : (name : List ℕ) (gates : GateMap) → Named name → HasPlaces (expand_charts ends_of table depth name gates) (expand_charts ends_of table depth name gates)) where
  abbrev charts : Charts
  charts = expand_charts ends_of table depth

  abbrev tags : WovenItems → List Pair → List (Tag × Tag)
  tags held pairs = ties held pairs (calls held) (ends_of held)

  abbrev items : Around → WovenItems → ℕ → WovenItems → ExpandedParts
  items a held n xs = expand_items charts ends_of (gates_of held (ends_of held)) a n xs

  abbrev item : Around → WovenItems → ℕ → WovenItem → Expanded
  item a held n x = expand_item charts ends_of (gates_of held (ends_of held)) a n x

  abbrev Good : Expanded → Type 0
  Good e = IsGoodPart names labels e.part

  abbrev Ranked : Expanded → Type 0
  Ranked e = CanBeRanked (map_events (f names labels) e.part)

  abbrev Items : WovenItems → Type 0
  Items xs = AreWholeItems table ends_of (IsWholeTo table ends_of depth) xs

  abbrev IsPart : Operand → numbered.Expansion → Type 0
  IsPart o y = IsOperandPart names labels table o y

  -- the operand that a level is
  level_operand : (a : Around) (n : ℕ) (b : Body) → IsWholeLevel table ends_of (IsWholeTo table ends_of depth) b → Good (expand_level charts ends_of a n b) → Ranked (expand_level charts ends_of a n b)
      → IsPart (whole b) (map_events (f names labels) (expand_level charts ends_of a n b).part)
  level_operand a n (level cover held pairs) (ends, there) good ranked =
      let l : ExpandedParts = items a held n held in
      let ps : List Pair = tied_pairs l.shown (tags held pairs) in
      row_operand laws names labels names_once labels_once table ends_of depth a n held pairs held [] [] ps (ap (λ (sh : Shown). tied_pairs sh (tags held pairs)) (sym (append-nil l.shown)))
      ends there (level_row names labels ps l.parts good ranked) (none_before n) (none_behind l.next)

  operand_list : (a : Around) (n : ℕ) (bs : Bodies) → AreWholeOperands table ends_of (IsWholeTo table ends_of depth) bs → AreGoodParts names labels (expand_operands charts ends_of a n bs).parts → EachRanked names labels (expand_operands charts ends_of a n bs).parts
      → AreOperandParts names labels table (operands_of bs) (part_list (map_all_events (f names labels) (expand_operands charts ends_of a n bs).parts))
  operand_list a n no_bodies w good ranked = no_operand
  operand_list a n (body_and b bs) (w, v) good ranked =
      let e : Expanded = expand_level charts ends_of a n b in
      let l : ExpandedParts = expand_operands charts ends_of a e.next bs in
      operand_and (level_operand a n b w (good_first names labels e.part l.parts good) ranked.0) (operand_list a e.next bs v (good_rest names labels e.part l.parts good) ranked.1)

  mutual
    pub level_found : (a : Around) (n : ℕ) (b : Body) → IsWholeLevel table ends_of (IsWholeTo table ends_of depth) b → LevelNamesOnly Named b → Good (expand_level charts ends_of a n b) → Ranked (expand_level charts ends_of a n b)
        → AreChoiceParts names labels table (level_choices b) (level_parts b (map_events (f names labels) (expand_level charts ends_of a n b).part))
    level_found a n (level cover held pairs) (ends, there) only good ranked =
        let l : ExpandedParts = items a held n held in
        let ps : List Pair = tied_pairs l.shown (tags held pairs) in
        items_found a held pairs ends n held [] [] ps (ap (λ (sh : Shown). tied_pairs sh (tags held pairs)) (sym (append-nil l.shown))) there only (level_row names labels ps l.parts good ranked) (none_before n) (none_behind l.next)

    pub items_found : (a : Around) (held : WovenItems) (pairs : List Pair) → AreEndsOf table ends_of held → (n : ℕ) (xs : WovenItems) (front back : Shown) (ps : List Pair)
        → ps ≡ tied_pairs (front ++ ((items a held n xs).shown ++ back)) (tags held pairs) → Items xs → ItemsNameOnly Named xs → IsRow names labels ps (items a held n xs).parts
        → ((p : ℕ × Tag) → Among p front → p.0 < n) → ((p : ℕ × Tag) → Among p back → (items a held n xs).next ≤ p.0)
        → AreChoiceParts names labels table (items_choices held pairs xs) (items_parts xs (map_all_events (f names labels) (items a held n xs).parts) ps)
    items_found a held pairs ends n no_items front back ps e there only row earlier later = no_choice
    items_found a held pairs ends n (item_and x xs) front back ps e there only row earlier later =
        let now : Expanded = item a held n x in
        let rest : ExpandedParts = items a held now.next xs in
        let stands : IsPlaced n now = item_placed ends_of charts Named known (gates_of held (ends_of held)) a x only.0 n in
        let same : ps ≡ tied_pairs ((front ++ now.shown) ++ (rest.shown ++ back)) (tags held pairs) = e ∙ ap (λ (sh : Shown). tied_pairs sh (tags held pairs)) (regroup front now.shown rest.shown back) in
        let before : (p : ℕ × Tag) → Among p (front ++ now.shown) → p.0 < now.next = below_next n now.next front now.shown stands.rises earlier (λ p i. (stands.shown p i).1) in
        let behind : IsRow names labels ps rest.parts = row_rest names labels ps now.part rest.parts row in
        both_choices names labels table
        (item_found a held pairs n x xs (map_all_events (f names labels) rest.parts) ps there.0 only.0 (good_first names labels now.part rest.parts row.good) (first_ranked names labels ps now.part rest.parts row)
        (row_operand laws names labels names_once labels_once table ends_of depth a now.next held pairs xs (front ++ now.shown) back ps same ends there.1 behind before later))
        (items_found a held pairs ends now.next xs (front ++ now.shown) back ps same there.1 only.1 behind before later)

    item_found : (a : Around) (held : WovenItems) (pairs : List Pair) (n : ℕ) (x : WovenItem) (xs : WovenItems) (zs : numbered.Expansions) (ps : List Pair) → IsWholeItem table ends_of (IsWholeTo table ends_of depth) x → ItemNamesOnly Named x
        → Good (item a held n x) → Ranked (item a held n x) → IsPart (record { held = held; pairs = pairs; taken = xs }) (part_behind zs ps)
        → AreChoiceParts names labels table (item_choices held pairs x xs) (item_parts x (map_events (f names labels) (item a held n x).part) zs ps)
    item_found a held pairs n (Single k) xs zs ps there only good ranked behind = no_choice
    item_found a held pairs n (Coregion ks) xs zs ps there only good ranked behind = no_choice
    item_found a held pairs n (Refer part) xs zs ps there only good ranked behind = no_choice
    item_found a held pairs n (Inline inline.Alt part bs) xs zs ps there only good ranked behind =
        let b : Around = inside (gates_of held (ends_of held)) part.name a in
        let l : ExpandedParts = expand_operands charts ends_of b n bs in
        let each = of_one names labels l.parts good in
        let ranks = each_ranked names labels ranked.rank l.parts ranked.ranked in
        choice_and refl (operand_list b n bs there.1 each ranks) (operands_found b n bs there.1 only each ranks)
    item_found a held pairs n (Inline inline.Opt part bs) xs zs ps there only good ranked behind =
        let b : Around = inside (gates_of held (ends_of held)) part.name a in
        let l : ExpandedParts = expand_operands charts ends_of b n bs in
        let each = of_one names labels l.parts (good_first names labels (OneOf l.parts) (part_and (InRow no_parts) no_parts) (of_one names labels (part_and (OneOf l.parts) (part_and (InRow no_parts) no_parts)) good)) in
        let ranks = each_ranked names labels ranked.rank l.parts ranked.ranked.0 in
        choice_and refl (operand_list b n bs there.1 each ranks) (operands_found b n bs there.1 only each ranks)
    item_found a held pairs n (Inline inline.Exc part bs) xs zs ps there only good ranked behind =
        let b : Around = inside (gates_of held (ends_of held)) part.name a in
        let l : ExpandedParts = expand_operands charts ends_of b n bs in
        let each = of_one names labels l.parts (of_exception names labels (OneOf l.parts) good) in
        let ranks = each_ranked names labels ranked.rank l.parts ranked.ranked in
        choice_and refl (both_operands names labels table (operand_list b n bs there.1 each ranks) (one_operand names labels table behind)) (operands_found b n bs there.1 only each ranks)
    item_found a held pairs n (Inline inline.Par part bs) xs zs ps there only good ranked behind =
        let b : Around = inside (gates_of held (ends_of held)) part.name a in
        let l : ExpandedParts = expand_operands charts ends_of b n bs in
        operands_found b n bs there.1 only (of_aside names labels l.parts good) (each_ranked names labels ranked.rank l.parts ranked.ranked)
    item_found a held pairs n (Inline inline.Loop part bs) xs zs ps there only good ranked behind =
        let b : Around = inside (gates_of held (ends_of held)) part.name a in
        let l : ExpandedParts = expand_operands charts ends_of b n bs in
        operands_found b n bs there.1 only (of_one names labels l.parts (of_turns names labels n part.lower part.upper (OneOf l.parts) good)) (each_ranked names labels ranked.ranked.0 l.parts ranked.ranked.1)

    operands_found : (a : Around) (n : ℕ) (bs : Bodies) → AreWholeOperands table ends_of (IsWholeTo table ends_of depth) bs → OperandsNameOnly Named bs → AreGoodParts names labels (expand_operands charts ends_of a n bs).parts → EachRanked names labels (expand_operands charts ends_of a n bs).parts
        → AreChoiceParts names labels table (operands_choices bs) (operands_parts bs (map_all_events (f names labels) (expand_operands charts ends_of a n bs).parts))
    operands_found a n no_bodies there only good ranked = no_choice
    operands_found a n (body_and b bs) there only good ranked =
        let e : Expanded = expand_level charts ends_of a n b in
        let l : ExpandedParts = expand_operands charts ends_of a e.next bs in
        both_choices names labels table (level_found a n b there.0 only.0 (good_first names labels e.part l.parts good) ranked.0) (operands_found a e.next bs there.1 only.1 (good_rest names labels e.part l.parts good) ranked.1)
