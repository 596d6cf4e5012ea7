-- Charts are gathered to one table, with one list of references.
use Rattle.std.proofs.Common.{◌≡◌, ℕ, suc, true, false, List, [], ◌∷◌, ◌++◌, refl, sym, ap, ap₂, ◌∙◌}
use Rattle.list_facts.proofs.Joining.{same_head, same_tail}
use Rattle.msc_tree.specs.Charts.{Chart, Basic, HighLevel}
use Rattle.msc_tree.specs.Statements.{InlineHead, Operands, Reference, statements}
use Rattle.msc_tree.specs.Statements as tree
use Rattle.msc_instances.specs.Instances.{instances}
use Rattle.msc_meaning.specs.Bodies.{Body, Bodies, Inline, WovenItem, WovenItems, body_and, item_and, level}
use Rattle.msc_meaning.specs.LevelItems.{cover_of, level_items}
use Rattle.msc_meaning.specs.Levels.{operand_number}
use Rattle.msc_meaning.specs.Pieces.{Piece, operands_of, statements_pieces}
use Rattle.msc_meaning.specs.Tables.{Table}
use Rattle.level_weaving.proofs.OneBody as woven
use Rattle.level_gathering.specs.Gathered.{AreGatheredItems, AreGatheredOperands, IsGatheredItem, IsGatheredLevel, an_inline, as_woven, gathered, gathered_and, gathered_operand_and, is_inline, no_gathered_operand, none_gathered, references_of}
use Rattle.level_gathering.specs.GatheredCharts.{AreGathered, IsGatheredChart, a_basic, a_graph, chart_and, gathered_entry, no_chart}
use Rattle.level_gathering.specs.GatheringLaws.{GatheredTableIsOne}

mutual
  one_level : {c d : List (List ℕ)} {ps qs : List Piece} {a b : Body} {r s : List (List Reference)} → IsGatheredLevel c ps a r → IsGatheredLevel d qs b s → c ≡ d → ps ≡ qs → (a ≡ b) × (r ≡ s)
  one_level (gathered {cover = c} {ps = ps} is) (gathered {cover = d} {ps = qs} are) ec ep =
      let held = one_items is are ec (ap level_items ep) in
      (λ i. level (ec i) (held.0 i) [], λ i. references_of (ep i) ∷ held.1 i)

  one_items : {c d : List (List ℕ)} {all every : List (List Piece)} {a b : WovenItems} {r s : List (List Reference)} → AreGatheredItems c all a r → AreGatheredItems d every b s → c ≡ d → all ≡ every → (a ≡ b) × (r ≡ s)
  one_items none_gathered none_gathered ec ea = (refl, refl)
  one_items none_gathered (gathered_and are others) ec ea = cc
  one_items (gathered_and is rest) none_gathered ec ea = cc
  one_items (gathered_and {parts = ps} {all = all} is rest) (gathered_and {parts = qs} {all = every} are others) ec ea =
      let first = one_item is are ec (same_head ps qs all every ea) in
      let behind = one_items rest others ec (same_tail ps qs all every ea) in
      (ap₂ (λ (x : WovenItem) (l : WovenItems). item_and x l) first.0 behind.0, ap₂ (λ (x y : List (List Reference)). x ++ y) first.1 behind.1)

  one_item : {c d : List (List ℕ)} {ps qs : List Piece} {a b : WovenItem} {r s : List (List Reference)} → IsGatheredItem c ps a r → IsGatheredItem d qs b s → c ≡ d → ps ≡ qs → (a ≡ b) × (r ≡ s)
  one_item (as_woven f is) (as_woven g are) ec ep = (woven.one_item is are ec ep, refl)
  one_item (as_woven {p = p} {ps = ps} f is) (an_inline {p = q} {ps = qs} {head = head} {operands = ys} g m) ec ep =
      let here : p.form ≡ tree.Inline head ys = ap (λ (x : Piece). x.form) (same_head p q ps qs ep) ∙ g in
      let bad : true ≡ false = sym (ap is_inline here) ∙ f in cc
  one_item (an_inline {p = p} {ps = ps} {head = head} {operands = xs} f l) (as_woven {p = q} {ps = qs} g are) ec ep =
      let there : q.form ≡ tree.Inline head xs = sym (ap (λ (x : Piece). x.form) (same_head p q ps qs ep)) ∙ f in
      let bad : true ≡ false = sym (ap is_inline there) ∙ g in cc
  one_item (an_inline {cover = c} {p = p} {ps = ps} {head = head} {operands = xs} f l) (an_inline {cover = d} {p = q} {ps = qs} {head = other} {operands = ys} g m) ec ep =
      let one : p ≡ q = same_head p q ps qs ep in
      let forms : tree.Inline head xs ≡ tree.Inline other ys = sym f ∙ ap (λ (x : Piece). x.form) one ∙ g in
      let heads : head ≡ other = cc in
      let inner : xs ≡ ys = cc in
      let covers : cover_of c p ≡ cover_of d q = ap₂ (λ (w : List (List ℕ)) (z : Piece). cover_of w z) ec one in
      let held = one_operands l m covers ep refl (ap operand_number inner) in
      (λ i. Inline (heads i).form (record { lower = (heads i).lower; upper = (heads i).upper; name = (heads i).name; cover = covers i; place = (one i).place }) (held.0 i), held.1)

  one_operands : {c d : List (List ℕ)} {ps qs : List Piece} {k j n m : ℕ} {a b : Bodies} {r s : List (List Reference)} → AreGatheredOperands c ps k n a r → AreGatheredOperands d qs j m b s → c ≡ d → ps ≡ qs → k ≡ j → n ≡ m
      → (a ≡ b) × (r ≡ s)
  one_operands no_gathered_operand no_gathered_operand ec ep ek en = (refl, refl)
  one_operands no_gathered_operand (gathered_operand_and v others) ec ep ek en = cc
  one_operands (gathered_operand_and w rest) no_gathered_operand ec ep ek en = cc
  one_operands (gathered_operand_and {cover = c} {parts = ps} {k = k} {n = n} w rest) (gathered_operand_and {cover = d} {parts = qs} {k = j} {n = m} v others) ec ep ek en =
      let pieces : operands_of c k ps ≡ operands_of d j qs = λ i. operands_of (ec i) (ek i) (ep i) in
      let counts : n ≡ m = cc in
      let first = one_level w v ec pieces in
      let behind = one_operands rest others ec ep (ap suc ek) counts in
      (ap₂ (λ (x : Body) (l : Bodies). body_and x l) first.0 behind.0, ap₂ (λ (x y : List (List Reference)). x ++ y) first.1 behind.1)

-- ---- charts

one_chart : {c d : Chart} {a b : Body} {r s : List (List Reference)} → IsGatheredChart c a r → IsGatheredChart d b s → c ≡ d → (a ≡ b) × (r ≡ s)
one_chart {c = c} {d = d} (a_basic held f is) (a_basic other g are) e =
    let contents : Basic held ≡ Basic other = sym f ∙ ap (λ (x : Chart). x.content) e ∙ g in
    let same : held ≡ other = cc in
    one_level is are (ap instances e) (λ i. statements_pieces (instances (e i)) 0 (statements (same i)))
one_chart (a_basic held f is) (a_graph drawn g) e = let bad : Basic held ≡ HighLevel drawn = sym f ∙ ap (λ (x : Chart). x.content) e ∙ g in cc
one_chart (a_graph drawn f) (a_basic other g are) e = let bad : HighLevel drawn ≡ Basic other = sym f ∙ ap (λ (x : Chart). x.content) e ∙ g in cc
one_chart (a_graph drawn f) (a_graph other g) e = (refl, refl)

one_table : {cs ds : List Chart} {t u : Table} {r s : List (List (List Reference))} → AreGathered cs t r → AreGathered ds u s → cs ≡ ds → (t ≡ u) × (r ≡ s)
one_table no_chart no_chart e = (refl, refl)
one_table no_chart (chart_and are others) e = cc
one_table (chart_and is rest) no_chart e = cc
one_table (chart_and {chart = c} {charts = cs} is rest) (chart_and {chart = d} {charts = ds} are others) e =
    let one : c ≡ d = same_head c d cs ds e in
    let first = one_chart is are one in
    let behind = one_table rest others (same_tail c d cs ds e) in
    (λ i. gathered_entry (one i).name (first.0 i) ∷ behind.0 i, λ i. first.1 i ∷ behind.1 i)

pub one_gathered : GatheredTableIsOne
one_gathered charts table other references others is are = one_table is are refl
