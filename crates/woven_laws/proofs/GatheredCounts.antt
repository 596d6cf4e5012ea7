-- What the inner events of a gate count on a woven level is no more than on the same level as it is gathered.
use Rattle.std.proofs.Common.{◌≡◌, ◌≤◌, ℕ, zero, suc, ◌<◌, Bool, true, false, inl, inr, List, [], ◌∷◌, Option, None, Some, length, map, slice_get, refl, sym, subst, ap, ap₂, ◌∙◌, arith}
use Rattle.std.specs.List.{flat_map, list_any}
use Rattle.std.specs.Str.{bytes_eq}
use Rattle.std.proofs.lemmas.Bool.{or_cases, or_left, or_right}
use Rattle.list_facts.proofs.Joining.{same_head}
use Rattle.list_facts.proofs.Members.{among_either, among_left, among_right}
use Rattle.msc_base.specs.Lists.{IsAmong}
use Rattle.column_order.specs.Weaving.{IsWoven}
use Rattle.msc_tree.specs.declared.reference.InlineForm.{InlineForm}
use Rattle.msc_tree.specs.declared.reference.Join.{Join}
use Rattle.msc_tree.specs.declared.reference.JoinEnd.{JoinEnd}
use Rattle.msc_tree.specs.declared.reference.JoinEnd.TheVariants as join_end
use Rattle.msc_tree.specs.Expressions.{Expression, Empty, Chart, Alt, Par, Seq, Opt, Loop, Expressions, none, more}
use Rattle.msc_tree.specs.Statements.{Form, InlineHead, Operands, Reference}
use Rattle.msc_tree.specs.Statements as tree
use Rattle.msc_meaning.specs.Bodies.{Body, WovenItems, no_items, item_and, WovenItem, Bodies, item_list}
use Rattle.msc_meaning.specs.Calls.{Call, calls, is_call_of, is_called, item_calls}
use Rattle.msc_meaning.specs.LevelItems.{cover_of, level_items}
use Rattle.msc_meaning.specs.Levels.{AreWovenItems, AreWovenOperands, IsWovenItem, IsWovenLevel, a_coregion, a_reference, an_event, an_inline, no_woven, no_woven_operand, operand_number, woven, woven_and, woven_operand_and}
use Rattle.msc_meaning.specs.Pieces.{Piece, operands_of}
use Rattle.gate_ends.specs.FoundEnds.{GateEvents, event_count, expression_inner, choice_inner, parts_inner, item_inner, items_inner, joined_inner, joins_inner, level_inner, operands_inner, turned, unless}
use Rattle.level_gathering.specs.Gathered.{AreGatheredItems, AreGatheredOperands, IsGatheredItem, IsGatheredLevel, as_woven, gathered, gathered_and, gathered_operand_and, is_inline, no_gathered_operand, none_gathered}
use Rattle.level_gathering.specs.Gathered as gathering
use Rattle.level_weaving.proofs.OneBody.{one_item}
use Rattle.woven_laws.proofs.EventCounts.{beside_count, both_count, either_count, if_low, operand_count, turned_count, unless_low}
use Rattle.woven_laws.proofs.OrderSums.{different_sum, mapped_at, number_at, order_sum, sum}

-- ---- the item of a gathered level at an index

pub record IsGatheredAt (cover : List (List ℕ)) (parts : List Piece) (held : WovenItems) (x : ℕ) : Type 0 where
  pub item : WovenItem
  pub own : List (List Reference)
  pub is : IsGatheredItem cover parts item own
  pub at : slice_get (item_list held) x ≡ Some item

pub gathered_at : {cover : List (List ℕ)} {all : List (List Piece)} {inner : List (List Reference)} (held : WovenItems) (x : ℕ) (parts : List Piece) → AreGatheredItems cover all held inner → slice_get all x ≡ Some parts → IsGatheredAt cover parts held x
gathered_at _ x parts (none_gathered) at = cc
gathered_at _ zero parts (gathered_and {cover = cover} {parts = first} {item = item} {own = own} is rest) at =
    let same : first ≡ parts = cc in
    record { item = item; own = own; is = subst (λ (l : List Piece). IsGatheredItem cover l item own) same is; at = refl }
gathered_at _ (suc x) parts (gathered_and {held = held} is rest) at =
    let there = gathered_at held x parts rest at in
    record { item = there.item; own = there.own; is = there.is; at = there.at }

-- ---- forms

same_form : (p q : Piece) (f g : Form) → p ≡ q → p.form ≡ f → q.form ≡ g → f ≡ g
same_form p q f g e a b = sym a ∙ ap (λ (x : Piece). x.form) e ∙ b

-- an item that is gathered as it is woven is no inline expression
pub never_inline : (p q : Piece) (head : InlineHead) (operands : Operands) → p ≡ q → p.form ≡ tree.Inline head operands → is_inline q.form ≡ false → ⊥
never_inline p q head xs e f plain = let here : is_inline q.form ≡ true = ap (λ (x : Piece). is_inline x.form) (sym e) ∙ ap is_inline f in cc

-- ---- calls

-- each call of the one is one of the other
abbrev pub AreCallsOf : List Call → List Call → Type 0
AreCallsOf ds cs = (c : Call) → IsAmong ds c → IsAmong cs c

any_among : (p : Call → Bool) (cs : List Call) → list_any p cs ≡ true → (c : Call) × (IsAmong cs c × (p c ≡ true))
any_among p [] h = cc
any_among p (c ∷ cs) h = elim (or_cases (p c) (list_any p cs) h) [
  | inl e ↦ (c, (inl refl, e))
  | inr r ↦ let h = any_among p cs r in (h.0, (inr h.1.0, h.1.1))
]

among_any : (p : Call → Bool) (cs : List Call) (c : Call) → IsAmong cs c → p c ≡ true → list_any p cs ≡ true
among_any p [] c m h = absurd m
among_any p (d ∷ cs) c (inl e) h = or_left (p d) (list_any p cs) (ap p (sym e) ∙ h)
among_any p (d ∷ cs) c (inr m) h = or_right (p d) (list_any p cs) (among_any p cs c m h)

pub called_kept : (ds cs : List Call) → AreCallsOf ds cs → (name : Option (List ℕ)) (g : List ℕ) → is_called ds name g ≡ true → is_called cs name g ≡ true
called_kept ds cs f None g h = h
called_kept ds cs f (Some name) g h = let there = any_among (is_call_of name g) ds h in among_any (is_call_of name g) cs there.0 (f there.0 there.1.0) there.1.1

-- the gathered item that has the call
record HasCallAt (cover : List (List ℕ)) (all : List (List Piece)) (c : Call) : Type 0 where
  x : ℕ
  low : x < length all
  parts : List Piece
  at : slice_get all x ≡ Some parts
  item : WovenItem
  own : List (List Reference)
  is : IsGatheredItem cover parts item own
  called : IsAmong (item_calls item) c

call_at : {cover : List (List ℕ)} {all : List (List Piece)} {inner : List (List Reference)} (held : WovenItems) (c : Call) → AreGatheredItems cover all held inner → IsAmong (flat_map item_calls (item_list held)) c → HasCallAt cover all c
call_at _ c (none_gathered) m = absurd m
call_at _ c (gathered_and {parts = parts} {all = all} {item = item} {held = held} {own = own} is rest) m =
    elim (among_either (item_calls item) (flat_map item_calls (item_list held)) c m) [
      | inl here ↦ record { x = 0; low = omega arith; parts = parts; at = refl; item = item; own = own; is = is; called = here }
      | inr there ↦ let h = call_at held c rest there in record { x = suc h.x; low = omega (arith, h.low); parts = h.parts; at = h.at; item = h.item; own = h.own; is = h.is; called = h.called }
    ]

-- the same item as it is woven has it too
item_call : {c d : List (List ℕ)} {ps qs : List Piece} {x y : WovenItem} {own : List (List Reference)} (call : Call) → IsWovenItem c ps x → IsGatheredItem d qs y own → c ≡ d → ps ≡ qs → IsAmong (item_calls y) call → IsAmong (item_calls x) call
item_call {x = x} {y = y} call w (as_woven plain v) ec ep m = let same : x ≡ y = one_item w v ec ep in subst (λ (i : WovenItem). IsAmong (item_calls i) call) (sym same) m
item_call call w (gathering.an_inline f h) ec ep m = absurd m

woven_call : {c : List (List ℕ)} {all : List (List Piece)} {order : List ℕ} (held : WovenItems) (d : List (List ℕ)) (call : Call) (x : ℕ) (parts : List Piece) (item : WovenItem) (own : List (List Reference)) → c ≡ d → AreWovenItems c all order held → IsAmong order x
    → slice_get all x ≡ Some parts → IsGatheredItem d parts item own → IsAmong (item_calls item) call → IsAmong (flat_map item_calls (item_list held)) call
woven_call _ d call x parts item own ec (no_woven) m at is called = absurd m
woven_call _ d call x parts item own ec (woven_and {all = all} {x = y} {parts = ps} {item = i} {held = held} there w rest) (inl e) at is called =
    let moved : slice_get all y ≡ Some parts = subst (λ (k : ℕ). slice_get all k ≡ Some parts) e at in
    let same : ps ≡ parts = cc in
    among_left (item_calls i) (flat_map item_calls (item_list held)) call (item_call call w is ec same called)
woven_call _ d call x parts item own ec (woven_and {all = all} {item = i} {held = held} there w rest) (inr m) at is called =
    among_right (item_calls i) (flat_map item_calls (item_list held)) call (woven_call held d call x parts item own ec rest m at is called)

-- the calls of a level as it is gathered are those of the woven one
pub calls_kept : {c d : List (List ℕ)} {all every : List (List Piece)} {columns : List (List ℕ)} {order : List ℕ} {inner : List (List Reference)} (held other : WovenItems) → IsWoven (length all) columns order → AreWovenItems c all order held
    → AreGatheredItems d every other inner → c ≡ d → all ≡ every → AreCallsOf (calls other) (calls held)
calls_kept {d = d} {all = all} held other o w g ec ea call m =
    let h = call_at other call g m in
    let low : h.x < length all = subst (λ (l : List (List Piece)). h.x < length l) (sym ea) h.low in
    let at : slice_get all h.x ≡ Some h.parts = subst (λ (l : List (List Piece)). slice_get l h.x ≡ Some h.parts) (sym ea) h.at in
    woven_call held d call h.x h.parts h.item h.own ec w (o.every h.x low) at h.is h.called

-- ---- counts

-- of charts that are named
module _ (ci co : List ℕ → List ℕ → GateEvents) (low : (name g : List ℕ) → event_count (ci name g) ≤ event_count (co name g)) where
  mutual
    pub expression_low : (e : Expression) (g : List ℕ) → event_count (expression_inner ci e g) ≤ event_count (expression_inner co e g)
    expression_low Empty g = omega arith
    expression_low (Chart name) g = low name g
    expression_low (Alt parts) g = choice_low parts g
    expression_low (Par parts) g = parts_low parts g
    expression_low (Seq parts) g = parts_low parts g
    expression_low (Opt part) g = expression_low part g
    expression_low (Loop lower upper part) g = expression_low part g

    choice_low : (xs : Expressions) (g : List ℕ) → event_count (choice_inner ci xs g) ≤ event_count (choice_inner co xs g)
    choice_low none g = omega arith
    choice_low (more x xs) g =
        omega (arith, either_count (expression_inner ci x g) (choice_inner ci xs g), either_count (expression_inner co x g) (choice_inner co xs g), expression_low x g, choice_low xs g)

    parts_low : (xs : Expressions) (g : List ℕ) → event_count (parts_inner ci xs g) ≤ event_count (parts_inner co xs g)
    parts_low none g = omega arith
    parts_low (more x xs) g =
        omega (arith, both_count (expression_inner ci x g) (parts_inner ci xs g), both_count (expression_inner co x g) (parts_inner co xs g), expression_low x g, parts_low xs g)

  joined_low : (e : Expression) (gate : List ℕ) (to : JoinEnd) (g : List ℕ) → event_count (joined_inner ci e gate to g) ≤ event_count (joined_inner co e gate to g)
  joined_low e gate (join_end.Env to) g = if_low (bytes_eq to g) (expression_inner ci e gate) (expression_inner co e gate) (expression_low e gate)
  joined_low e gate (join_end.Reference name to) g = omega arith

  joins_low : (e : Expression) (js : List Join) (g : List ℕ) → event_count (joins_inner ci e js g) ≤ event_count (joins_inner co e js g)
  joins_low e [] g = omega arith
  joins_low e (j ∷ js) g =
      omega (arith, both_count (joined_inner ci e j.gate j.to g) (joins_inner ci e js g), both_count (joined_inner co e j.gate j.to g) (joins_inner co e js g), joined_low e j.gate j.to g, joins_low e js g)

  -- what the items of a level count one by one
  abbrev item_counts : List Call → List ℕ → WovenItems → List ℕ
  item_counts ds g held = map (λ x. event_count (item_inner co ds x g)) (item_list held)

  items_sum : (ds : List Call) (g : List ℕ) (held : WovenItems) → event_count (items_inner co ds held g) ≡ sum (item_counts ds g held)
  items_sum ds g no_items = refl
  items_sum ds g (item_and x xs) = omega (arith, beside_count x (item_inner co ds x g) (items_inner co ds xs g), items_sum ds g xs)

  -- an item that is no inline expression
  same_low : {cover : List (List ℕ)} {ps : List Piece} (cs ds : List Call) (x : WovenItem) (g : List ℕ) → IsWovenItem cover ps x → ((p : Piece) (head : InlineHead) (operands : Operands) (behind : List Piece) → ps ≡ p ∷ behind → p.form ≡ tree.Inline head operands → ⊥)
      → event_count (item_inner ci cs x g) ≤ event_count (item_inner co ds x g)
  same_low cs ds _ g (an_event f l) never = omega arith
  same_low cs ds _ g (a_coregion f l) never = omega arith
  same_low cs ds _ g (an_inline {p = p} {ps = ps} {head = head} {operands = xs} f h) never = absurd (never p head xs ps refl f)
  same_low cs ds _ g (a_reference {r = r} f) never = joins_low r.expression r.joins g

  mutual
    pub level_low : {c d : List (List ℕ)} {ps qs : List Piece} {references : List (List Reference)} (b e : Body) (g : List ℕ) → IsWovenLevel c ps b → IsGatheredLevel d qs e references → c ≡ d → ps ≡ qs → event_count (level_inner ci b g) ≤ event_count (level_inner co e g)
    level_low _ _ g (woven {order = order} {held = held} o w p) (gathered {held = other} k) ec ep =
        let kept = calls_kept held other o w k ec (ap level_items ep) in
        let here : event_count (items_inner ci (calls held) held g) ≤ order_sum (item_counts (calls other) g other) order = items_low (calls held) (calls other) kept held other g w k ec (ap level_items ep) in
        omega (arith, here, different_sum (item_counts (calls other) g other) order o.once, items_sum (calls other) g other)

    items_low : {c d : List (List ℕ)} {all every : List (List Piece)} {order : List ℕ} {inner : List (List Reference)} (cs ds : List Call) → AreCallsOf ds cs → (held other : WovenItems) (g : List ℕ) → AreWovenItems c all order held → AreGatheredItems d every other inner
        → c ≡ d → all ≡ every → event_count (items_inner ci cs held g) ≤ order_sum (item_counts ds g other) order
    items_low cs ds kept _ other g (no_woven) k ec ea = omega arith
    items_low cs ds kept _ other g (woven_and {x = x} {order = order} {parts = parts} {item = item} {held = held} at w rest) k ec ea =
        let there = gathered_at other x parts k (subst (λ (l : List (List Piece)). slice_get l x ≡ Some parts) ea at) in
        let own : event_count (item_inner ci cs item g) ≤ event_count (item_inner co ds there.item g) = item_low cs ds kept item there.item g w there.is ec refl in
        let is : number_at (item_counts ds g other) x ≡ event_count (item_inner co ds there.item g) = mapped_at (λ (i : WovenItem). event_count (item_inner co ds i g)) (item_list other) x there.item there.at in
        omega (arith, own, is, beside_count item (item_inner ci cs item g) (items_inner ci cs held g), items_low cs ds kept held other g rest k ec ea)

    item_low : {c d : List (List ℕ)} {ps qs : List Piece} {own : List (List Reference)} (cs ds : List Call) → AreCallsOf ds cs → (x y : WovenItem) (g : List ℕ) → IsWovenItem c ps x → IsGatheredItem d qs y own → c ≡ d → ps ≡ qs
        → event_count (item_inner ci cs x g) ≤ event_count (item_inner co ds y g)
    item_low {ps = ps} cs ds kept x y g w (as_woven {p = q} {ps = qs} plain v) ec ep =
        let same : x ≡ y = one_item w v ec ep in
        let here = same_low cs ds x g w (λ p head operands behind e f. never_inline p q head operands (same_head p q behind qs (sym e ∙ ep)) f plain) in
        subst (λ (i : WovenItem). event_count (item_inner ci cs x g) ≤ event_count (item_inner co ds i g)) same here
    item_low cs ds kept _ _ g (an_inline {cover = c} {p = p} {ps = ps} {head = head} {operands = xs} {held = held} f h) (gathering.an_inline {cover = d} {p = q} {ps = qs} {head = other} {operands = ys} {held = entire} k m) ec ep =
        let one : p ≡ q = same_head p q ps qs ep in
        let forms : tree.Inline head xs ≡ tree.Inline other ys = same_form p q (tree.Inline head xs) (tree.Inline other ys) one f k in
        let heads : head ≡ other = cc in
        let inner : xs ≡ ys = cc in
        let covers : cover_of c p ≡ cover_of d q = ap₂ (λ (l : List (List ℕ)) (z : Piece). cover_of l z) ec one in
        let here : event_count (operands_inner ci head.form held g) ≤ event_count (operands_inner co head.form entire g) = operands_low head.form held entire g h m covers ep refl (ap operand_number inner) in
        let turns : event_count (turned head.form (operands_inner ci head.form held g)) ≤ event_count (turned head.form (operands_inner co head.form entire g)) =
        omega (arith, here, turned_count head.form (operands_inner ci head.form held g), turned_count head.form (operands_inner co head.form entire g)) in
        let low : event_count (unless (is_called cs head.name g) (turned head.form (operands_inner ci head.form held g))) ≤ event_count (unless (is_called ds head.name g) (turned head.form (operands_inner co head.form entire g))) =
        unless_low (is_called cs head.name g) (is_called ds head.name g) (turned head.form (operands_inner ci head.form held g)) (turned head.form (operands_inner co head.form entire g)) (called_kept ds cs kept head.name g) turns in
        subst (λ (o : InlineHead). event_count (unless (is_called cs head.name g) (turned head.form (operands_inner ci head.form held g))) ≤ event_count (unless (is_called ds o.name g) (turned o.form (operands_inner co o.form entire g)))) heads low
    item_low cs ds kept _ _ g (an_event {p = p} {e = e} f l) (gathering.an_inline {p = q} {ps = qs} {head = head} {operands = ys} k m) ec ep =
        let bad : tree.Single e ≡ tree.Inline head ys = same_form p q (tree.Single e) (tree.Inline head ys) (same_head p q [] qs ep) f k in cc
    item_low cs ds kept _ _ g (a_coregion {p = p} {es = es} f l) (gathering.an_inline {p = q} {ps = qs} {head = head} {operands = ys} k m) ec ep =
        let bad : tree.Coregion es ≡ tree.Inline head ys = same_form p q (tree.Coregion es) (tree.Inline head ys) (same_head p q [] qs ep) f k in cc
    item_low cs ds kept _ _ g (a_reference {p = p} {ps = ps} {r = r} f) (gathering.an_inline {p = q} {ps = qs} {head = head} {operands = ys} k m) ec ep =
        let bad : tree.Refer r ≡ tree.Inline head ys = same_form p q (tree.Refer r) (tree.Inline head ys) (same_head p q ps qs ep) f k in cc

    pub operands_low : {c d : List (List ℕ)} {ps qs : List Piece} {k j n m : ℕ} {inner : List (List Reference)} (form : InlineForm) (bs es : Bodies) (g : List ℕ) → AreWovenOperands c ps k n bs → AreGatheredOperands d qs j m es inner → c ≡ d → ps ≡ qs → k ≡ j → n ≡ m
        → event_count (operands_inner ci form bs g) ≤ event_count (operands_inner co form es g)
    operands_low form _ _ g (no_woven_operand) (no_gathered_operand) ec ep ek en = omega arith
    operands_low form _ _ g (no_woven_operand) (gathered_operand_and v others) ec ep ek en = cc
    operands_low form _ _ g (woven_operand_and w rest) (no_gathered_operand) ec ep ek en = cc
    operands_low form _ _ g (woven_operand_and {cover = c} {parts = ps} {k = k} {n = n} {body = b} {others = bs} w rest) (gathered_operand_and {cover = d} {parts = qs} {k = j} {n = m} {body = e} {others = es} v others) ec ep ek en =
        let pieces : operands_of c k ps ≡ operands_of d j qs = λ i. operands_of (ec i) (ek i) (ep i) in
        let counts : n ≡ m = cc in
        omega (arith, operand_count form (level_inner ci b g) (operands_inner ci form bs g), operand_count form (level_inner co e g) (operands_inner co form es g), level_low b e g w v ec pieces, operands_low form bs es g rest others ec ep (ap suc ek) counts)
