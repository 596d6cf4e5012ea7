-- A level is woven to one body at most.
use Rattle.std.proofs.Common.{◌≡◌, ℕ, suc, List, [], Some, slice_get, length, refl, sym, subst, ap, ap₂, ◌∙◌}
use Rattle.list_facts.proofs.Joining.{same_head}
use Rattle.column_order.specs.Weaving.{IsWoven}
use Rattle.column_order.proofs.WeavingLaws.{woven_is_one}
use Rattle.msc_tree.specs.Statements as tree
use Rattle.msc_meaning.specs.Bodies.{Body, Bodies, WovenItem, WovenItems, Single, Coregion, Inline, Refer, body_and, events, item_and, level}
use Rattle.msc_meaning.specs.LevelItems.{columns_of, cover_of, entries, level_items}
use Rattle.msc_meaning.specs.Levels.{AreWovenItems, AreWovenOperands, IsWovenItem, IsWovenLevel, a_coregion, a_reference, an_event, an_inline, no_woven, no_woven_operand, nodes_from, operand_number, woven, woven_and, woven_operand_and}
use Rattle.msc_meaning.specs.Pairing.{ArePairs}
use Rattle.msc_meaning.specs.Pieces.{Piece, operands_of}
use Rattle.msc_meaning.proofs.PairingLaws.{one_list}
use Rattle.level_weaving.specs.Laws.{WovenBodyIsOne}

same_form : (p q : Piece) (f g : tree.Form) → p ≡ q → p.form ≡ f → q.form ≡ g → f ≡ g
same_form p q f g e a b = sym a ∙ ap (λ (x : Piece). x.form) e ∙ b

same_lead : (p q : Piece) (a b : List ℕ) → p ≡ q → slice_get p.leads 0 ≡ Some a → slice_get q.leads 0 ≡ Some b → a ≡ b
same_lead p q a b e x y = let both : Some a ≡ Some b = sym x ∙ ap (λ (z : Piece). slice_get z.leads 0) e ∙ y in cc

mutual
  one_level : {c d : List (List ℕ)} {ps qs : List Piece} {a b : Body} → IsWovenLevel c ps a → IsWovenLevel d qs b → c ≡ d → ps ≡ qs → a ≡ b
  one_level (woven {cover = c} {ps = ps} {order = order} {held = held} {pairs = pairs} w is p) (woven {cover = d} {ps = qs} {order = other} {held = more} {pairs = others} v are q) ec ep =
      let moved : IsWoven (length (level_items ps)) (columns_of (entries ps) c) other =
      subst (λ (x : List (List ℕ)). IsWoven (length (level_items ps)) (columns_of (entries ps) x) other) (sym ec) (subst (λ (l : List Piece). IsWoven (length (level_items l)) (columns_of (entries l) d) other) (sym ep) v) in
      let orders : order ≡ other = woven_is_one (length (level_items ps)) (columns_of (entries ps) c) order other w moved in
      let items : held ≡ more = one_items is are ec (ap level_items ep) orders in
      let lists : pairs ≡ others = one_list (events held) pairs others p (subst (λ (h : WovenItems). ArePairs (events h) others) (sym items) q) in
      λ i. level (ec i) (items i) (lists i)

  pub one_items : {c d : List (List ℕ)} {all every : List (List Piece)} {order other : List ℕ} {a b : WovenItems} → AreWovenItems c all order a → AreWovenItems d every other b → c ≡ d → all ≡ every → order ≡ other → a ≡ b
  one_items no_woven no_woven ec ea eo = refl
  one_items no_woven (woven_and at is rest) ec ea eo = cc
  one_items (woven_and at is rest) no_woven ec ea eo = cc
  one_items (woven_and {all = all} {x = x} {order = xs} {parts = ps} at is rest) (woven_and {all = every} {x = y} {order = ys} {parts = qs} there are others) ec ea eo =
      let first : x ≡ y = cc in
      let more : xs ≡ ys = cc in
      let moved : slice_get every y ≡ Some ps = subst (λ (l : List (List Piece)). slice_get l y ≡ Some ps) ea (subst (λ (k : ℕ). slice_get all k ≡ Some ps) first at) in
      let parts : ps ≡ qs = cc (moved, there) in
      ap₂ (λ (i : WovenItem) (l : WovenItems). item_and i l) (one_item is are ec parts) (one_items rest others ec ea more)

  pub one_item : {c d : List (List ℕ)} {ps qs : List Piece} {a b : WovenItem} → IsWovenItem c ps a → IsWovenItem d qs b → c ≡ d → ps ≡ qs → a ≡ b
  one_item (an_event {p = p} {at = x} {e = e} f l) (an_event {p = q} {at = y} {e = g} h m) ec ep =
      let one : p ≡ q = same_head p q [] [] ep in
      let forms : tree.Single e ≡ tree.Single g = same_form p q (tree.Single e) (tree.Single g) one f h in
      let event : e ≡ g = cc in
      let at : x ≡ y = same_lead p q x y one l m in
      λ i. Single (record { number = (one i).first; at = at i; event = event i })
  one_item (a_coregion {p = p} {at = x} {es = es} f l) (a_coregion {p = q} {at = y} {es = gs} h m) ec ep =
      let one : p ≡ q = same_head p q [] [] ep in
      let forms : tree.Coregion es ≡ tree.Coregion gs = same_form p q (tree.Coregion es) (tree.Coregion gs) one f h in
      let held : es ≡ gs = cc in
      let at : x ≡ y = same_lead p q x y one l m in
      λ i. Coregion (nodes_from (one i).first (at i) (held i))
  one_item (a_reference {p = p} {ps = ps} {r = r} f) (a_reference {p = q} {ps = qs} {r = s} h) ec ep =
      let one : p ≡ q = same_head p q ps qs ep in
      let forms : tree.Refer r ≡ tree.Refer s = same_form p q (tree.Refer r) (tree.Refer s) one f h in
      let held : r ≡ s = cc in
      λ i. Refer (record { name = (held i).name; expression = (held i).expression; joins = (held i).joins; cover = cover_of (ec i) (one i); place = (one i).place })
  one_item (an_inline {cover = c} {p = p} {ps = ps} {head = head} {operands = xs} f l) (an_inline {cover = d} {p = q} {ps = qs} {head = other} {operands = ys} h m) ec ep =
      let one : p ≡ q = same_head p q ps qs ep in
      let forms : tree.Inline head xs ≡ tree.Inline other ys = same_form p q (tree.Inline head xs) (tree.Inline other ys) one f h in
      let heads : head ≡ other = cc in
      let inner : xs ≡ ys = cc in
      let covers : cover_of c p ≡ cover_of d q = ap₂ (λ (w : List (List ℕ)) (z : Piece). cover_of w z) ec one in
      let held = one_operands l m covers ep refl (ap operand_number inner) in
      λ i. Inline (heads i).form (record { lower = (heads i).lower; upper = (heads i).upper; name = (heads i).name; cover = covers i; place = (one i).place }) (held i)
  one_item (an_event {p = p} {e = e} f l) (a_coregion {p = q} {es = gs} h m) ec ep = let bad : tree.Single e ≡ tree.Coregion gs = same_form p q (tree.Single e) (tree.Coregion gs) (same_head p q [] [] ep) f h in cc
  one_item (an_event {p = p} {e = e} f l) (an_inline {p = q} {ps = qs} {head = head} {operands = ys} h m) ec ep = let bad : tree.Single e ≡ tree.Inline head ys = same_form p q (tree.Single e) (tree.Inline head ys) (same_head p q [] qs ep) f h in cc
  one_item (an_event {p = p} {e = e} f l) (a_reference {p = q} {ps = qs} {r = s} h) ec ep = let bad : tree.Single e ≡ tree.Refer s = same_form p q (tree.Single e) (tree.Refer s) (same_head p q [] qs ep) f h in cc
  one_item (a_coregion {p = p} {es = es} f l) (an_event {p = q} {e = g} h m) ec ep = let bad : tree.Coregion es ≡ tree.Single g = same_form p q (tree.Coregion es) (tree.Single g) (same_head p q [] [] ep) f h in cc
  one_item (a_coregion {p = p} {es = es} f l) (an_inline {p = q} {ps = qs} {head = head} {operands = ys} h m) ec ep = let bad : tree.Coregion es ≡ tree.Inline head ys = same_form p q (tree.Coregion es) (tree.Inline head ys) (same_head p q [] qs ep) f h in cc
  one_item (a_coregion {p = p} {es = es} f l) (a_reference {p = q} {ps = qs} {r = s} h) ec ep = let bad : tree.Coregion es ≡ tree.Refer s = same_form p q (tree.Coregion es) (tree.Refer s) (same_head p q [] qs ep) f h in cc
  one_item (an_inline {p = p} {ps = ps} {head = head} {operands = xs} f l) (an_event {p = q} {e = g} h m) ec ep = let bad : tree.Inline head xs ≡ tree.Single g = same_form p q (tree.Inline head xs) (tree.Single g) (same_head p q ps [] ep) f h in cc
  one_item (an_inline {p = p} {ps = ps} {head = head} {operands = xs} f l) (a_coregion {p = q} {es = gs} h m) ec ep = let bad : tree.Inline head xs ≡ tree.Coregion gs = same_form p q (tree.Inline head xs) (tree.Coregion gs) (same_head p q ps [] ep) f h in cc
  one_item (an_inline {p = p} {ps = ps} {head = head} {operands = xs} f l) (a_reference {p = q} {ps = qs} {r = s} h) ec ep = let bad : tree.Inline head xs ≡ tree.Refer s = same_form p q (tree.Inline head xs) (tree.Refer s) (same_head p q ps qs ep) f h in cc
  one_item (a_reference {p = p} {ps = ps} {r = r} f) (an_event {p = q} {e = g} h m) ec ep = let bad : tree.Refer r ≡ tree.Single g = same_form p q (tree.Refer r) (tree.Single g) (same_head p q ps [] ep) f h in cc
  one_item (a_reference {p = p} {ps = ps} {r = r} f) (a_coregion {p = q} {es = gs} h m) ec ep = let bad : tree.Refer r ≡ tree.Coregion gs = same_form p q (tree.Refer r) (tree.Coregion gs) (same_head p q ps [] ep) f h in cc
  one_item (a_reference {p = p} {ps = ps} {r = r} f) (an_inline {p = q} {ps = qs} {head = head} {operands = ys} h m) ec ep = let bad : tree.Refer r ≡ tree.Inline head ys = same_form p q (tree.Refer r) (tree.Inline head ys) (same_head p q ps qs ep) f h in cc

  one_operands : {c d : List (List ℕ)} {ps qs : List Piece} {k j n m : ℕ} {a b : Bodies} → AreWovenOperands c ps k n a → AreWovenOperands d qs j m b → c ≡ d → ps ≡ qs → k ≡ j → n ≡ m → a ≡ b
  one_operands no_woven_operand no_woven_operand ec ep ek en = refl
  one_operands no_woven_operand (woven_operand_and v others) ec ep ek en = cc
  one_operands (woven_operand_and w rest) no_woven_operand ec ep ek en = cc
  one_operands (woven_operand_and {cover = c} {parts = ps} {k = k} {n = n} w rest) (woven_operand_and {cover = d} {parts = qs} {k = j} {n = m} v others) ec ep ek en =
      let pieces : operands_of c k ps ≡ operands_of d j qs = λ i. operands_of (ec i) (ek i) (ep i) in
      let counts : n ≡ m = cc in
      ap₂ (λ (x : Body) (l : Bodies). body_and x l) (one_level w v ec pieces) (one_operands rest others ec ep (ap suc ek) counts)

pub one_body : WovenBodyIsOne
one_body cover ps a b w v = one_level w v refl refl
