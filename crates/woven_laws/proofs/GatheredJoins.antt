-- What the joins of a woven level add is no more than what they add as it is gathered.
use Rattle.std.proofs.Common.{◌≡◌, ◌≤◌, ℕ, zero, suc, ◌+◌, ◌*◌, List, [], ◌∷◌, ◌++◌, Option, None, Some, length, map, slice_get, refl, sym, subst, ap, ap₂, ◌∙◌, arith}
use Rattle.list_facts.proofs.Joining.{same_head}
use Rattle.msc_tree.specs.declared.reference.InlineForm.{InlineForm}
use Rattle.msc_tree.specs.declared.reference.Join.{Join}
use Rattle.msc_tree.specs.declared.reference.JoinEnd.{JoinEnd}
use Rattle.msc_tree.specs.declared.reference.JoinEnd.TheVariants as join_end
use Rattle.msc_tree.specs.Expressions.{Expression}
use Rattle.msc_tree.specs.Statements.{Form, InlineHead, Operands, Reference}
use Rattle.msc_tree.specs.Statements as tree
use Rattle.msc_meaning.specs.Bodies.{Body, WovenItems, no_items, item_and, WovenItem, Bodies, item_list}
use Rattle.msc_meaning.specs.BodyLevels.{BodyLevel, item_levels, items_levels, levels_from, operands_levels}
use Rattle.msc_meaning.specs.LevelItems.{cover_of, level_items}
use Rattle.msc_meaning.specs.Levels.{AreWovenItems, AreWovenOperands, IsWovenItem, IsWovenLevel, a_coregion, a_reference, an_event, an_inline, no_woven, no_woven_operand, operand_number, woven, woven_and, woven_operand_and}
use Rattle.msc_meaning.specs.Pieces.{Piece, operands_of}
use Rattle.gate_ends.specs.FoundEnds.{event_count, expression_inner, inline_inner, inner_of, inner_of_item, is_name, operands_inner, these_if}
use Rattle.gate_ends.specs.JoinCounts.{join_count, joins_count, levels_count, own_count, reference_count, references_count}
use Rattle.level_gathering.specs.Gathered.{AreGatheredItems, AreGatheredOperands, IsGatheredItem, IsGatheredLevel, as_woven, form_references, gathered, gathered_and, gathered_operand_and, is_inline, no_gathered_operand, none_gathered, references_of}
use Rattle.level_gathering.specs.Gathered as gathering
use Rattle.level_weaving.proofs.OneBody.{one_item}
use Rattle.woven_laws.specs.JoinSums.{item_joins, items_joins, level_joins, operands_joins}
use Rattle.woven_laws.specs.JoinedCharts.{GatheredChartsAreKnown, Inner, IsFewer}
use Rattle.woven_laws.proofs.EventCounts.{both_count, if_low, turned_count}
use Rattle.woven_laws.proofs.GatheredCounts.{expression_low, gathered_at, level_low, never_inline, operands_low}
use Rattle.woven_laws.proofs.OrderSums.{different_sum, mapped_at, number_at, order_sum, sum}
use Rattle.woven_laws.proofs.PieceSums.{items_low, lists_sum, pieces_sum}
use Rattle.woven_laws.proofs.Untied.{chart_untied}
use Rattle.woven_laws.proofs.WovenNames.{chart_gathered}

-- ---- as many lists of references as levels

abbrev HaveLists : List BodyLevel → List (List Reference) → Type 0
HaveLists levels references = length levels ≡ length references

length_levels : (xs ys : List BodyLevel) → length (xs ++ ys) ≡ length xs + length ys
length_levels [] ys = omega arith
length_levels (x ∷ xs) ys = omega (arith, length_levels xs ys)

length_lists : (xs ys : List (List Reference)) → length (xs ++ ys) ≡ length xs + length ys
length_lists [] ys = omega arith
length_lists (x ∷ xs) ys = omega (arith, length_lists xs ys)

both_lists : (xs ys : List BodyLevel) (rs ss : List (List Reference)) → HaveLists xs rs → HaveLists ys ss → HaveLists (xs ++ ys) (rs ++ ss)
both_lists xs ys rs ss h g = omega (arith, length_levels xs ys, length_lists rs ss, h, g)

-- an item that is no inline expression has no levels
woven_lists : {cover : List (List ℕ)} {parts : List Piece} (x : WovenItem) → IsWovenItem cover parts x → ((p : Piece) (head : InlineHead) (operands : Operands) (behind : List Piece) → parts ≡ p ∷ behind → p.form ≡ tree.Inline head operands → ⊥) → HaveLists (item_levels x) []
woven_lists _ (an_event f l) never = refl
woven_lists _ (a_coregion f l) never = refl
woven_lists _ (an_inline {p = p} {ps = ps} {head = head} {operands = xs} f h) never = absurd (never p head xs ps refl f)
woven_lists _ (a_reference f) never = refl

mutual
  level_lists : {cover : List (List ℕ)} {ps : List Piece} {references : List (List Reference)} (o : Option InlineForm) (b : Body) → IsGatheredLevel cover ps b references → HaveLists (levels_from o b) references
  level_lists o _ (gathered {held = held} k) = ap suc (items_lists held k)

  items_lists : {cover : List (List ℕ)} {all : List (List Piece)} {inner : List (List Reference)} (xs : WovenItems) → AreGatheredItems cover all xs inner → HaveLists (items_levels xs) inner
  items_lists _ (none_gathered) = refl
  items_lists _ (gathered_and {item = x} {held = xs} {own = own} {behind = behind} k rest) = both_lists (item_levels x) (items_levels xs) own behind (item_lists x k) (items_lists xs rest)

  item_lists : {cover : List (List ℕ)} {parts : List Piece} {own : List (List Reference)} (x : WovenItem) → IsGatheredItem cover parts x own → HaveLists (item_levels x) own
  item_lists x (as_woven {p = p} {ps = ps} plain w) = woven_lists x w (λ q head operands behind e f. never_inline q p head operands (sym (same_head p q ps behind e)) f plain)
  item_lists _ (gathering.an_inline {head = head} {held = held} f k) = operands_lists head.form held k

  operands_lists : {cover : List (List ℕ)} {parts : List Piece} {k n : ℕ} {inner : List (List Reference)} (form : InlineForm) (bs : Bodies) → AreGatheredOperands cover parts k n bs inner → HaveLists (operands_levels form bs) inner
  operands_lists form _ (no_gathered_operand) = refl
  operands_lists form _ (gathered_operand_and {body = b} {others = bs} {own = own} {behind = behind} k rest) =
      both_lists (levels_from (Some form) b) (operands_levels form bs) own behind (level_lists (Some form) b k) (operands_lists form bs rest)

-- ---- sums

levels_on : (co : Inner) (xs ys : List BodyLevel) (rs ss : List (List Reference)) → HaveLists xs rs → levels_count co (xs ++ ys) (rs ++ ss) ≡ levels_count co xs rs + levels_count co ys ss
levels_on co [] ys [] ss h = omega arith
levels_on co [] ys (r ∷ rs) ss h = absurd (omega (arith, h))
levels_on co (x ∷ xs) ys [] ss h = absurd (omega (arith, h))
levels_on co (x ∷ xs) ys (r ∷ rs) ss h = let less : length xs ≡ length rs = omega (arith, h) in omega (arith, levels_on co xs ys rs ss less)

references_on : (co : Inner) (held : WovenItems) (rs ss : List Reference) → references_count co held (rs ++ ss) ≡ references_count co held rs + references_count co held ss
references_on co held [] ss = omega arith
references_on co held (r ∷ rs) ss = omega (arith, references_on co held rs ss)

-- what the joins of a piece add
abbrev form_joins : Inner → WovenItems → Form → ℕ
form_joins co held f = references_count co held (form_references f)

pieces_are : (co : Inner) (held : WovenItems) (ps : List Piece) → references_count co held (references_of ps) ≡ pieces_sum (form_joins co held) ps
pieces_are co held [] = refl
pieces_are co held (p ∷ ps) = omega (arith, references_on co held (form_references p.form) (references_of ps), pieces_are co held ps)

-- of the references of an item, and of the levels inside it
abbrev item_sum : Inner → WovenItems → List Piece → WovenItem → List (List Reference) → ℕ
item_sum co held parts item own = references_count co held (references_of parts) + levels_count co (item_levels item) own

joined_sums : {cover : List (List ℕ)} {all : List (List Piece)} {xs : WovenItems} {inner : List (List Reference)} → Inner → WovenItems → AreGatheredItems cover all xs inner → List ℕ
joined_sums co held (none_gathered) = []
joined_sums co held (gathered_and {parts = parts} {item = item} {own = own} k rest) = item_sum co held parts item own ∷ joined_sums co held rest

record IsJoinedAt (co : Inner) (held : WovenItems) (cover : List (List ℕ)) (parts : List Piece) (sums : List ℕ) (x : ℕ) : Type 0 where
  item : WovenItem
  own : List (List Reference)
  is : IsGatheredItem cover parts item own
  at : number_at sums x ≡ item_sum co held parts item own

joined_at : {cover : List (List ℕ)} {all : List (List Piece)} {xs : WovenItems} {inner : List (List Reference)} (co : Inner) (held : WovenItems) (k : AreGatheredItems cover all xs inner) (x : ℕ) (parts : List Piece) → slice_get all x ≡ Some parts
    → IsJoinedAt co held cover parts (joined_sums co held k) x
unfolding joined_sums
joined_at co held (none_gathered) x parts at = cc
joined_at co held (gathered_and {cover = cover} {parts = first} {item = item} {own = own} k rest) zero parts at =
    let same : first ≡ parts = cc in
    record { item = item; own = own; is = subst (λ (l : List Piece). IsGatheredItem cover l item own) same k; at = ap (λ (l : List Piece). item_sum co held l item own) same }
joined_at co held (gathered_and k rest) (suc x) parts at =
    let there = joined_at co held rest x parts at in
    record { item = there.item; own = there.own; is = there.is; at = there.at }

joined_all : {cover : List (List ℕ)} {all : List (List Piece)} {inner : List (List Reference)} (co : Inner) (held xs : WovenItems) (k : AreGatheredItems cover all xs inner) → sum (joined_sums co held k) ≡ lists_sum (form_joins co held) all + levels_count co (items_levels xs) inner
unfolding joined_sums
joined_all co held _ (none_gathered) = omega arith
joined_all co held _ (gathered_and {parts = parts} {item = x} {held = xs} {own = own} {behind = behind} k rest) =
    omega (arith, pieces_are co held parts, levels_on co (item_levels x) (items_levels xs) own behind (item_lists x k), joined_all co held xs rest)

-- ---- products

more_of : (a b c d : ℕ) → a ≤ b → c ≤ d → a * c ≤ b * d
more_of zero b c d h g = omega arith
more_of (suc a) zero c d h g = absurd (omega (arith, h))
more_of (suc a) (suc b) c d h g = let rest : a * c ≤ b * d = more_of a b c d (omega (arith, h)) g in omega (arith, rest, g)

module _ (few many : Inner) (low : IsFewer few many) where
  -- the references and inline expressions of a level that have the name
  abbrev named_counts : List ℕ → List ℕ → WovenItems → List ℕ
  named_counts name g held = map (λ x. event_count (inner_of_item many x name g)) (item_list held)

  named_sum : (name g : List ℕ) (held : WovenItems) → event_count (inner_of many held name g) ≡ sum (named_counts name g held)
  named_sum name g no_items = refl
  named_sum name g (item_and x xs) = omega (arith, both_count (inner_of_item many x name g) (inner_of many xs name g), named_sum name g xs)

  same_named : {cover : List (List ℕ)} {ps : List Piece} (x : WovenItem) (name g : List ℕ) → IsWovenItem cover ps x → ((p : Piece) (head : InlineHead) (operands : Operands) (behind : List Piece) → ps ≡ p ∷ behind → p.form ≡ tree.Inline head operands → ⊥)
      → event_count (inner_of_item few x name g) ≤ event_count (inner_of_item many x name g)
  same_named _ name g (an_event f l) never = omega arith
  same_named _ name g (a_coregion f l) never = omega arith
  same_named _ name g (an_inline {p = p} {ps = ps} {head = head} {operands = xs} f h) never = absurd (never p head xs ps refl f)
  same_named _ name g (a_reference {r = r} f) never = if_low (is_name r.name name) (expression_inner few r.expression g) (expression_inner many r.expression g) (expression_low few many low r.expression g)

  item_named : {c d : List (List ℕ)} {ps qs : List Piece} {own : List (List Reference)} (x y : WovenItem) (name g : List ℕ) → IsWovenItem c ps x → IsGatheredItem d qs y own → c ≡ d → ps ≡ qs
      → event_count (inner_of_item few x name g) ≤ event_count (inner_of_item many y name g)
  item_named x y name g w (as_woven {p = q} {ps = qs} plain v) ec ep =
      let same : x ≡ y = one_item w v ec ep in
      let here = same_named x name g w (λ p head operands behind e f. never_inline p q head operands (same_head p q behind qs (sym e ∙ ep)) f plain) in
      subst (λ (i : WovenItem). event_count (inner_of_item few x name g) ≤ event_count (inner_of_item many i name g)) same here
  item_named _ _ name g (an_inline {cover = c} {p = p} {ps = ps} {head = head} {operands = xs} {held = held} f h) (gathering.an_inline {cover = d} {p = q} {ps = qs} {head = other} {operands = ys} {held = entire} k m) ec ep =
      let one : p ≡ q = same_head p q ps qs ep in
      let forms : tree.Inline head xs ≡ tree.Inline other ys = sym f ∙ ap (λ (x : Piece). x.form) one ∙ k in
      let heads : head ≡ other = cc in
      let inner : xs ≡ ys = cc in
      let covers : cover_of c p ≡ cover_of d q = ap₂ (λ (l : List (List ℕ)) (z : Piece). cover_of l z) ec one in
      let here : event_count (operands_inner few head.form held g) ≤ event_count (operands_inner many head.form entire g) = operands_low few many low head.form held entire g h m covers ep refl (ap operand_number inner) in
      let turns : event_count (inline_inner few head.form held g) ≤ event_count (inline_inner many head.form entire g) =
      omega (arith, here, turned_count head.form (operands_inner few head.form held g), turned_count head.form (operands_inner many head.form entire g)) in
      subst (λ (o : InlineHead). event_count (these_if (is_name head.name name) (inline_inner few head.form held g)) ≤ event_count (these_if (is_name o.name name) (inline_inner many o.form entire g))) heads
      (if_low (is_name head.name name) (inline_inner few head.form held g) (inline_inner many head.form entire g) turns)
  item_named _ _ name g (an_event {p = p} {e = e} f l) (gathering.an_inline {p = q} {ps = qs} {head = head} {operands = ys} k m) ec ep =
      let bad : tree.Single e ≡ tree.Inline head ys = sym f ∙ ap (λ (x : Piece). x.form) (same_head p q [] qs ep) ∙ k in cc
  item_named _ _ name g (a_coregion {p = p} {es = es} f l) (gathering.an_inline {p = q} {ps = qs} {head = head} {operands = ys} k m) ec ep =
      let bad : tree.Coregion es ≡ tree.Inline head ys = sym f ∙ ap (λ (x : Piece). x.form) (same_head p q [] qs ep) ∙ k in cc
  item_named _ _ name g (a_reference {p = p} {ps = ps} {r = r} f) (gathering.an_inline {p = q} {ps = qs} {head = head} {operands = ys} k m) ec ep =
      let bad : tree.Refer r ≡ tree.Inline head ys = sym f ∙ ap (λ (x : Piece). x.form) (same_head p q ps qs ep) ∙ k in cc

  items_named : {c d : List (List ℕ)} {all every : List (List Piece)} {order : List ℕ} {inner : List (List Reference)} (held other : WovenItems) (name g : List ℕ) → AreWovenItems c all order held → AreGatheredItems d every other inner → c ≡ d → all ≡ every
      → event_count (inner_of few held name g) ≤ order_sum (named_counts name g other) order
  items_named _ other name g (no_woven) k ec ea = omega arith
  items_named _ other name g (woven_and {x = x} {order = order} {parts = parts} {item = item} {held = held} at w rest) k ec ea =
      let there = gathered_at other x parts k (subst (λ (l : List (List Piece)). slice_get l x ≡ Some parts) ea at) in
      let own : event_count (inner_of_item few item name g) ≤ event_count (inner_of_item many there.item name g) = item_named item there.item name g w there.is ec refl in
      let is : number_at (named_counts name g other) x ≡ event_count (inner_of_item many there.item name g) = mapped_at (λ (i : WovenItem). event_count (inner_of_item many i name g)) (item_list other) x there.item there.at in
      omega (arith, own, is, both_count (inner_of_item few item name g) (inner_of few held name g), items_named held other name g rest k ec ea)

  -- ---- joins of a level

  module _ (held other : WovenItems) (named : (name g : List ℕ) → event_count (inner_of few held name g) ≤ event_count (inner_of many other name g)) where
    own_low : (own : Option (List ℕ)) (e : Expression) (g : List ℕ) → own_count few held own e g ≤ own_count many other own e g
    own_low None e g = expression_low few many low e g
    own_low (Some own) e g = named own g

    join_low : (own : Option (List ℕ)) (e : Expression) (g : List ℕ) (to : JoinEnd) → join_count few held own e g to ≤ join_count many other own e g to
    join_low own e g (join_end.Env to) = omega arith
    join_low own e g (join_end.Reference name to) =
        more_of (own_count few held own e g) (own_count many other own e g) (event_count (inner_of few held name to)) (event_count (inner_of many other name to)) (own_low own e g) (named name to)

    joins_low : (own : Option (List ℕ)) (e : Expression) (js : List Join) → joins_count few held own e js ≤ joins_count many other own e js
    joins_low own e [] = omega arith
    joins_low own e (j ∷ js) = omega (arith, join_low own e j.gate j.to, joins_low own e js)

    refer_low : (p : Piece) (ps : List Piece) (r : Reference) → p.form ≡ tree.Refer r → joins_count few held r.name r.expression r.joins ≤ references_count many other (references_of (p ∷ ps))
    refer_low p ps r f =
        let own : references_count many other (form_references p.form) ≡ joins_count many other r.name r.expression r.joins + 0 = ap (λ (x : Form). references_count many other (form_references x)) f in
        omega (arith, own, references_on many other (form_references p.form) (references_of ps), joins_low r.name r.expression r.joins)

  mutual
    level_joined : {c d : List (List ℕ)} {ps qs : List Piece} {references : List (List Reference)} (o : Option InlineForm) (b e : Body) → IsWovenLevel c ps b → IsGatheredLevel d qs e references → c ≡ d → ps ≡ qs
        → level_joins (reference_count few) b ≤ levels_count many (levels_from o e) references
    level_joined o _ _ (woven {order = order} {held = held} w is p) (gathered {ps = qs} {held = other} k) ec ep =
        let named : (name g : List ℕ) → event_count (inner_of few held name g) ≤ event_count (inner_of many other name g) =
        λ name g. omega (arith, items_named held other name g is k ec (ap level_items ep), different_sum (named_counts name g other) order w.once, named_sum name g other) in
        let here : items_joins (reference_count few) held held ≤ order_sum (joined_sums many other k) order = items_joined held other named held other is k ec (ap level_items ep) in
        omega (arith, here, different_sum (joined_sums many other k) order w.once, joined_all many other other k, items_low (form_joins many other) qs, pieces_are many other qs)

    items_joined : {c d : List (List ℕ)} {all every : List (List Piece)} {order : List ℕ} {inner : List (List Reference)} (whole entire : WovenItems) → ((name g : List ℕ) → event_count (inner_of few whole name g) ≤ event_count (inner_of many entire name g))
        → (held other : WovenItems) → AreWovenItems c all order held → (k : AreGatheredItems d every other inner) → c ≡ d → all ≡ every → items_joins (reference_count few) whole held ≤ order_sum (joined_sums many entire k) order
    items_joined whole entire named _ other (no_woven) k ec ea = omega arith
    items_joined whole entire named _ other (woven_and {x = x} {order = order} {parts = parts} {item = item} {held = held} at w rest) k ec ea =
        let there = joined_at many entire k x parts (subst (λ (l : List (List Piece)). slice_get l x ≡ Some parts) ea at) in
        let own : item_joins (reference_count few) whole item ≤ item_sum many entire parts there.item there.own = item_joined whole entire named item there.item w there.is ec refl in
        omega (arith, own, there.at, items_joined whole entire named held other rest k ec ea)

    item_joined : {c d : List (List ℕ)} {ps qs : List Piece} {own : List (List Reference)} (whole entire : WovenItems) → ((name g : List ℕ) → event_count (inner_of few whole name g) ≤ event_count (inner_of many entire name g)) → (x y : WovenItem)
        → IsWovenItem c ps x → IsGatheredItem d qs y own → c ≡ d → ps ≡ qs → item_joins (reference_count few) whole x ≤ item_sum many entire qs y own
    item_joined whole entire named _ y (an_event f l) k ec ep = omega arith
    item_joined whole entire named _ y (a_coregion f l) k ec ep = omega arith
    item_joined {qs = qs} {own = own} whole entire named _ y (a_reference {p = p} {ps = ps} {r = r} f) k ec ep =
        let here = refer_low whole entire named p ps r f in
        let moved : joins_count few whole r.name r.expression r.joins ≤ references_count many entire (references_of qs) = subst (λ (l : List Piece). joins_count few whole r.name r.expression r.joins ≤ references_count many entire (references_of l)) ep here in
        omega (arith, moved)
    item_joined {own = own} whole entire named x y (an_inline {p = p} {ps = ps} {head = head} {operands = xs} f h) (as_woven {p = q} {ps = qs} plain v) ec ep = absurd (never_inline p q head xs (same_head p q ps qs ep) f plain)
    item_joined whole entire named _ _ (an_inline {cover = c} {p = p} {ps = ps} {head = head} {operands = xs} {held = held} f h) (gathering.an_inline {cover = d} {p = q} {ps = qs} {head = other} {operands = ys} {held = every} {inner = inner} k m) ec ep =
        let one : p ≡ q = same_head p q ps qs ep in
        let forms : tree.Inline head xs ≡ tree.Inline other ys = sym f ∙ ap (λ (x : Piece). x.form) one ∙ k in
        let inside : xs ≡ ys = cc in
        let covers : cover_of c p ≡ cover_of d q = ap₂ (λ (l : List (List ℕ)) (z : Piece). cover_of l z) ec one in
        let here : operands_joins (reference_count few) held ≤ levels_count many (operands_levels other.form every) inner = operands_joined other.form held every h m covers ep refl (ap operand_number inside) in
        omega (arith, here)

    operands_joined : {c d : List (List ℕ)} {ps qs : List Piece} {k j n m : ℕ} {inner : List (List Reference)} (form : InlineForm) (bs es : Bodies) → AreWovenOperands c ps k n bs → AreGatheredOperands d qs j m es inner → c ≡ d → ps ≡ qs → k ≡ j → n ≡ m
        → operands_joins (reference_count few) bs ≤ levels_count many (operands_levels form es) inner
    operands_joined form _ _ (no_woven_operand) k ec ep ek en = omega arith
    operands_joined form _ _ (woven_operand_and w rest) (no_gathered_operand) ec ep ek en = cc
    operands_joined form _ _ (woven_operand_and {cover = c} {parts = ps} {k = k} {n = n} {body = b} {others = bs} w rest) (gathered_operand_and {cover = d} {parts = qs} {k = j} {n = m} {body = e} {others = es} {own = own} {behind = behind} v others) ec ep ek en =
        let pieces : operands_of c k ps ≡ operands_of d j qs = λ i. operands_of (ec i) (ek i) (ep i) in
        let counts : n ≡ m = cc in
        omega (arith, level_joined (Some form) b e w v ec pieces, operands_joined form bs es rest others ec ep (ap suc ek) counts, levels_on many (levels_from (Some form) e) (operands_levels form es) own behind (level_lists (Some form) e v))

pub gathered_charts_are_known : GatheredChartsAreKnown
gathered_charts_are_known = record {
  counted = λ few many cover ps b other references low w k g. level_low few many low b other g w k refl refl;
  joined = λ few many cover ps b other references low w k. level_joined few many low None b other w k refl refl;
  untied = chart_untied;
  named = chart_gathered;
}
