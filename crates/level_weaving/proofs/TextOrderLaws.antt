-- A level whose items stand in one column each is woven in the order of its text.
use Rattle.std.proofs.Common.{◌≡◌, inl, inr, ℕ, ◌<◌, ◌≤◌, ◌+◌, zero, suc, Bool, true, false, cond, List, [], ◌∷◌, ◌++◌, Option, Some, None, slice_get, length, map, refl, sym, subst, ap, ap₂, ◌∙◌, arith}
use Rattle.std.specs.Bool.{⊤}
use Rattle.std.proofs.lemmas.List.{append-nil, length-map, map-append, append_assoc}
use Rattle.column_order.specs.Laws.{AreInOrder, numbers_from}
use Rattle.column_order.specs.Weaving.{ColumnOrders, IsCrossedAt, IsWoven}
use Rattle.column_order.proofs.WeavingLaws.{never_woven_and_crossed, text_is_woven, woven_is_one}
use Rattle.msc_base.specs.Lists.{IsAmong}
use Rattle.msc_base.specs.declared.label.Pair.{Pair}
use Rattle.msc_base.specs.declared.place.Place.{Place}
use Rattle.msc_tree.specs.declared.event.RawEvent.{RawEvent}
use Rattle.msc_tree.specs.Statements.{Form, Single, Coregion, Condition, Inline, Refer, Stop, placed, Statement, Column, Covered, Heading, Ended, Statements, no_statements, statement_and}
use Rattle.msc_tree.specs.Statements as tree
use Rattle.msc_meaning.specs.Bodies.{Body, EventNode, WovenItem, WovenItems, events, item_and, item_events, items, level}
use Rattle.msc_meaning.specs.Bodies as body
use Rattle.msc_meaning.specs.Crossings.{ColumnsCross, crossed, inside}
use Rattle.msc_meaning.specs.LevelItems.{Entry, columns_of, cover_of, creations_of, entries, entries_at, entries_behind, is_creation, is_in, is_item, level_items, name_of, number_in, with_piece, with_pieces}
use Rattle.msc_meaning.specs.Levels.{AreWovenItems, IsWovenItem, IsWovenLevel, a_coregion, an_event, no_woven, nodes_from, woven, woven_and}
use Rattle.msc_meaning.specs.Pairing.{ArePairs}
use Rattle.msc_meaning.specs.Pieces.{Piece, covered, form_count, items_count, items_pieces, operand_of, operands_of, statement_count, statement_pieces, statements_pieces}
use Rattle.level_pieces.specs.ItemNumbers.{AreInside, joint_name, joint_of}
use Rattle.level_weaving.specs.LevelPairs.{number_of}
use Rattle.level_weaving.specs.TextOrder.{AreInOneColumn, IsFormInOneColumn, IsInOneColumn, IsOneCovered, TextIsOrder, form_items, piece_items, pieces_items}
use Rattle.level_pieces.proofs.ItemLaws.{entries_inside, length_snoc}
use Rattle.level_weaving.proofs.LevelLaws.{empty_uncrossed}
use Rattle.level_weaving.proofs.OneBody.{one_items}
use Rattle.level_pieces.proofs.NumberLaws.{number_none, with_none}

-- ---- each item has one part

abbrev pub lone : Piece → List Piece
lone p = p ∷ []

no_name : (cover leads : List (List ℕ)) (f : Form) → IsFormInOneColumn cover leads f → name_of f ≡ None
no_name cover leads (Single e) h = refl
no_name cover leads (Coregion es) h = refl
no_name cover leads (Condition names shared) h = refl
no_name cover leads (Inline head held) h = absurd h
no_name cover leads (Refer r) h = absurd h
no_name cover leads Stop h = refl

joint_none : (column : Option (List ℕ)) → joint_of column None ≡ None
joint_none None = refl
joint_none (Some name) = refl

unjoined : (cover : List (List ℕ)) (p : Piece) → IsInOneColumn cover p → joint_name p ≡ None
unjoined cover p h = ap (joint_of p.column) (no_name cover p.leads p.form h) ∙ joint_none p.column

one_more : (cover : List (List ℕ)) (xs : List (List Piece)) (p : Piece) → IsInOneColumn cover p → length (with_piece xs p) ≡ suc (length xs)
one_more cover xs p h = ap length (with_none xs p (unjoined cover p h)) ∙ length_snoc xs (p ∷ [])

-- the pieces that are items
abbrev pub kept : List Piece → List Piece
kept [] = []
kept (p ∷ ps) = cond (is_item p.form) (p ∷ kept ps) (kept ps)

items_from : (cover : List (List ℕ)) (xs : List (List Piece)) (ps : List Piece) → AreInOneColumn cover ps → with_pieces xs ps ≡ xs ++ map lone (kept ps)
items_from cover xs [] h = sym (append-nil xs)
items_from cover xs (p ∷ ps) h = by (is_item p.form) (items_from cover (with_piece xs p) ps h.1) (items_from cover xs ps h.1)
  where
    by : (b : Bool) → with_pieces (with_piece xs p) ps ≡ with_piece xs p ++ map lone (kept ps) → with_pieces xs ps ≡ xs ++ map lone (kept ps)
        → with_pieces (cond b (with_piece xs p) xs) ps ≡ xs ++ map lone (cond b (p ∷ kept ps) (kept ps))
    by true one other =
        one ∙ ap (λ (l : List (List Piece)). l ++ map lone (kept ps)) (with_none xs p (unjoined cover p h.0)) ∙ append_assoc xs (lone p ∷ []) (map lone (kept ps))
    by false one other = other

pub level_items_are : (cover : List (List ℕ)) (ps : List Piece) → AreInOneColumn cover ps → level_items ps ≡ map lone (kept ps)
level_items_are cover ps h = items_from cover [] ps h

-- ---- their columns are in the order of the text

-- the numbers of the items rise along the entries, from k on
abbrev Rise : ℕ → List Entry → Type 0
Rise k [] = ⊤
Rise k (e ∷ es) = (k ≤ e.item) × Rise (suc e.item) es

entries_rise : (cover : List (List ℕ)) (xs : List (List Piece)) (ps : List Piece) → AreInOneColumn cover ps → Rise (length xs) (entries_behind xs ps)
entries_rise cover xs [] h = tt
entries_rise cover xs (p ∷ ps) h = by (is_item p.form) (entries_rise cover (with_piece xs p) ps h.1) (entries_rise cover xs ps h.1)
  where
    number : number_in xs p ≡ length xs
    number = number_none xs p (unjoined cover p h.0)

    by : (b : Bool) → Rise (length (with_piece xs p)) (entries_behind (with_piece xs p) ps) → Rise (length xs) (entries_behind xs ps)
        → Rise (length xs) (cond b (record { item = number_in xs p; piece = p } ∷ entries_behind (with_piece xs p) ps) (entries_behind xs ps))
    by true one other = (omega (arith, number), subst (λ (k : ℕ). Rise k (entries_behind (with_piece xs p) ps)) (one_more cover xs p h.0 ∙ ap suc (sym number)) one)
    by false one other = other

column_above : (k : ℕ) (es : List Entry) (i : List ℕ) (x : ℕ) → Rise k es → IsAmong (entries_at es i) x → k ≤ x
column_above k [] i x r h = absurd h
column_above k (e ∷ es) i x r h = by (is_in e.piece.leads i) h (column_above (suc e.item) es i x r.1)
  where
    by : (b : Bool) → IsAmong (cond b (e.item ∷ entries_at es i) (entries_at es i)) x → (IsAmong (entries_at es i) x → suc e.item ≤ x) → k ≤ x
    by true g rest = elim g [ inl is ↦ omega (arith, is, r.0) | inr more ↦ let low = rest more in omega (arith, r.0, low) ]
    by false g rest = let low = rest g in omega (arith, r.0, low)

column_rises : (k : ℕ) (es : List Entry) (i : List ℕ) (y x : ℕ) → Rise k es → ColumnOrders (entries_at es i) y x → y < x
column_rises k [] i y x r h = absurd h
column_rises k (e ∷ es) i y x r h = by (is_in e.piece.leads i) h (column_rises (suc e.item) es i y x r.1)
  where
    by : (b : Bool) → ColumnOrders (cond b (e.item ∷ entries_at es i) (entries_at es i)) y x → (ColumnOrders (entries_at es i) y x → y < x) → y < x
    by true g rest = elim g [ inl here ↦ let low = column_above (suc e.item) es i x r.1 here.1 in omega (arith, here.0, low) | inr more ↦ rest more ]
    by false g rest = rest g

column_below : (n : ℕ) (es : List Entry) (i : List ℕ) (x : ℕ) → AreInside n es → IsAmong (entries_at es i) x → x < n
column_below n [] i x s h = absurd h
column_below n (e ∷ es) i x s h = by (is_in e.piece.leads i) h (column_below n es i x s.1)
  where
    by : (b : Bool) → IsAmong (cond b (e.item ∷ entries_at es i) (entries_at es i)) x → (IsAmong (entries_at es i) x → x < n) → x < n
    by true g rest = elim g [ inl is ↦ omega (arith, is, s.0) | inr more ↦ rest more ]
    by false g rest = rest g

uncreated : (cover leads : List (List ℕ)) (f : Form) (i : List ℕ) → IsFormInOneColumn cover leads f → is_creation f i ≡ false
uncreated cover leads (Single e) i h = h.1 i
uncreated cover leads (Coregion es) i h = refl
uncreated cover leads (Condition names shared) i h = refl
uncreated cover leads (Inline head held) i h = refl
uncreated cover leads (Refer r) i h = refl
uncreated cover leads Stop i h = refl

no_creations : (cover : List (List ℕ)) (xs : List (List Piece)) (ps : List Piece) (i : List ℕ) → AreInOneColumn cover ps → creations_of (entries_behind xs ps) i ≡ []
no_creations cover xs [] i h = refl
no_creations cover xs (p ∷ ps) i h = by (is_item p.form) (no_creations cover (with_piece xs p) ps i h.1) (no_creations cover xs ps i h.1)
  where
    by : (b : Bool) → creations_of (entries_behind (with_piece xs p) ps) i ≡ [] → creations_of (entries_behind xs ps) i ≡ []
        → creations_of (cond b (record { item = number_in xs p; piece = p } ∷ entries_behind (with_piece xs p) ps) (entries_behind xs ps)) i ≡ []
    by true one other =
        ap (λ (c : Bool). cond c (number_in xs p ∷ creations_of (entries_behind (with_piece xs p) ps) i) (creations_of (entries_behind (with_piece xs p) ps) i)) (uncreated cover p.leads p.form i h.0) ∙ one
    by false one other = other

in_order : (n : ℕ) (es : List Entry) (cover : List (List ℕ)) → Rise 0 es → AreInside n es → ((i : List ℕ) → creations_of es i ≡ []) → AreInOrder n (columns_of es cover)
in_order n es [] r s none = λ column mine. absurd mine
in_order n es (i ∷ cover) r s none = λ column mine. elim mine [
  | inl is ↦
      let own : column ≡ entries_at es i = is ∙ ap (λ (l : List ℕ). l ++ entries_at es i) (none i) in (
        λ x h. column_below n es i x s (subst (λ (l : List ℕ). IsAmong l x) own h),
        λ y x h. column_rises 0 es i y x r (subst (λ (l : List ℕ). ColumnOrders l y x) own h),
      )
  | inr more ↦ in_order n es cover r s none column more
]

pub text_woven : (cover : List (List ℕ)) (ps : List Piece) → AreInOneColumn cover ps → IsWoven (length (level_items ps)) (columns_of (entries ps) cover) (numbers_from 0 (length (level_items ps)))
text_woven cover ps h =
    text_is_woven (length (level_items ps)) (columns_of (entries ps) cover)
    (in_order (length (level_items ps)) (entries ps) cover (entries_rise cover [] ps h) (entries_inside ps) (λ i. no_creations cover [] ps i h))

-- ---- the columns don't cross

no_operand : (cover c : List (List ℕ)) (k : ℕ) (p : Piece) (f : Form) → IsFormInOneColumn cover p.leads f → operand_of c k p f ≡ []
no_operand cover c k p (Single e) h = refl
no_operand cover c k p (Coregion es) h = refl
no_operand cover c k p (Condition names shared) h = refl
no_operand cover c k p (Inline head held) h = absurd h
no_operand cover c k p (Refer r) h = absurd h
no_operand cover c k p Stop h = refl

lone_operands : (cover c : List (List ℕ)) (k : ℕ) (qs : List Piece) (x : ℕ) (parts : List Piece) → AreInOneColumn cover qs → slice_get (map lone qs) x ≡ Some parts → operands_of c k parts ≡ []
lone_operands cover c k [] x parts h at = cc
lone_operands cover c k (q ∷ qs) zero parts h at =
    let same : lone q ≡ parts = cc in
    ap (operands_of c k) (sym same) ∙ ap (λ (l : List Piece). l ++ []) (no_operand cover c k q q.form h.0)
lone_operands cover c k (q ∷ qs) (suc x) parts h at = lone_operands cover c k qs x parts h.1 at

kept_columns : (cover : List (List ℕ)) (ps : List Piece) → AreInOneColumn cover ps → AreInOneColumn cover (kept ps)
kept_columns cover [] h = tt
kept_columns cover (p ∷ ps) h = by (is_item p.form) (kept_columns cover ps h.1)
  where
    by : (b : Bool) → AreInOneColumn cover (kept ps) → AreInOneColumn cover (cond b (p ∷ kept ps) (kept ps))
    by true rest = (h.0, rest)
    by false rest = rest

pub text_uncrossed : (cover : List (List ℕ)) (ps : List Piece) (place : Place) → AreInOneColumn cover ps → ColumnsCross cover ps place → ⊥
text_uncrossed cover ps place h c = by c refl refl
  where
    by : {d : List (List ℕ)} {qs : List Piece} {q : Place} → ColumnsCross d qs q → cover ≡ d → ps ≡ qs → ⊥
    by {d} {qs} (crossed x p parts k at there) n e =
        never_woven_and_crossed (length (level_items ps)) (columns_of (entries ps) cover) (numbers_from 0 (length (level_items ps))) x (text_woven cover ps h)
        (subst (λ (w : List (List ℕ)). IsCrossedAt (length (level_items ps)) (columns_of (entries ps) w) x) (sym n)
        (subst (λ (l : List Piece). IsCrossedAt (length (level_items l)) (columns_of (entries l) d) x) (sym e) k))
    by {d} {qs} (inside x k p parts at rest) n e =
        let own : slice_get (map lone (kept ps)) x ≡ Some (p ∷ parts) =
        subst (λ (l : List (List Piece)). slice_get l x ≡ Some (p ∷ parts)) (level_items_are cover ps h) (subst (λ (l : List Piece). slice_get (level_items l) x ≡ Some (p ∷ parts)) (sym e) at) in
        empty_uncrossed (lone_operands cover (cover_of d p) k (kept ps) x (p ∷ parts) (kept_columns cover ps h) own) rest

-- ---- the items of the body

no_item : (o : Option (List ℕ)) (n : ℕ) (f : Form) → is_item f ≡ false → form_items o n f ≡ []
no_item None n f is = refl
no_item (Some at) n (Single e) is = cc
no_item (Some at) n (Coregion es) is = cc
no_item (Some at) n (Condition names shared) is = refl
no_item (Some at) n (Inline head held) is = refl
no_item (Some at) n (Refer r) is = refl
no_item (Some at) n Stop is = refl

kept_items : (ps : List Piece) → pieces_items (kept ps) ≡ pieces_items ps
kept_items [] = refl
kept_items (p ∷ ps) = by (is_item p.form) refl (kept_items ps)
  where
    by : (b : Bool) → is_item p.form ≡ b → pieces_items (kept ps) ≡ pieces_items ps → pieces_items (cond b (p ∷ kept ps) (kept ps)) ≡ piece_items p ++ pieces_items ps
    by true is rest = ap (λ (l : List WovenItem). piece_items p ++ l) rest
    by false is rest = rest ∙ ap (λ (l : List WovenItem). l ++ pieces_items ps) (sym (no_item (slice_get p.leads 0) p.first p.form is))

-- a piece that is an item has it by itself
pub record HasItem (cover : List (List ℕ)) (q : Piece) : Type 0 where
  pub item : WovenItem
  pub is : piece_items q ≡ item ∷ []
  pub woven : IsWovenItem cover (lone q) item

lead_of : (cover leads : List (List ℕ)) → IsOneCovered cover leads → (at : List ℕ) × (slice_get leads 0 ≡ Some at)
lead_of cover [] h = absurd h
lead_of cover (at ∷ []) h = (at, refl)
lead_of cover (at ∷ other ∷ leads) h = absurd h

item_of : (cover : List (List ℕ)) (q : Piece) → is_item q.form ≡ true → IsInOneColumn cover q → HasItem cover q
item_of cover q = by q.form refl
  where
    by : (f : Form) → q.form ≡ f → is_item f ≡ true → IsFormInOneColumn cover q.leads f → HasItem cover q
    by (Single e) form is h =
        let lead = lead_of cover q.leads h.0 in
        record { item = body.Single (record { number = q.first; at = lead.0; event = e }); is = ap₂ (λ (o : Option (List ℕ)) (g : Form). form_items o q.first g) lead.1 form; woven = an_event form lead.1 }
    by (Coregion es) form is h =
        let lead = lead_of cover q.leads h in
        record { item = body.Coregion (nodes_from q.first lead.0 es); is = ap₂ (λ (o : Option (List ℕ)) (g : Form). form_items o q.first g) lead.1 form; woven = a_coregion form lead.1 }
    by (Condition names shared) form is h = cc
    by (Inline head held) form is h = absurd h
    by (Refer r) form is h = absurd h
    by Stop form is h = cc

abbrev HaveItems : List (List ℕ) → List Piece → Type 0
HaveItems cover [] = ⊤
HaveItems cover (q ∷ qs) = HasItem cover q × HaveItems cover qs

kept_have : (cover : List (List ℕ)) (ps : List Piece) → AreInOneColumn cover ps → HaveItems cover (kept ps)
kept_have cover [] h = tt
kept_have cover (p ∷ ps) h = by (is_item p.form) refl (kept_have cover ps h.1)
  where
    by : (b : Bool) → is_item p.form ≡ b → HaveItems cover (kept ps) → HaveItems cover (cond b (p ∷ kept ps) (kept ps))
    by true is rest = (item_of cover p is h.0, rest)
    by false is rest = rest

at_front : (front : List Piece) (q : Piece) (qs : List Piece) → slice_get (map lone (front ++ q ∷ qs)) (length front) ≡ Some (lone q)
at_front [] q qs = refl
at_front (p ∷ front) q qs = at_front front q qs

lone_woven : (cover : List (List ℕ)) (front qs : List Piece) → HaveItems cover qs → AreWovenItems cover (map lone (front ++ qs)) (numbers_from (length front) (length qs)) (items (pieces_items qs))
lone_woven cover front [] h = no_woven
lone_woven cover front (q ∷ qs) h =
    let moved : AreWovenItems cover (map lone (front ++ q ∷ qs)) (numbers_from (suc (length front)) (length qs)) (items (pieces_items qs)) =
    subst (λ (k : ℕ). AreWovenItems cover (map lone (front ++ q ∷ qs)) (numbers_from k (length qs)) (items (pieces_items qs))) (length_snoc front q)
    (subst (λ (l : List Piece). AreWovenItems cover (map lone l) (numbers_from (length (front ++ q ∷ [])) (length qs)) (items (pieces_items qs))) (append_assoc front (q ∷ []) qs)
    (lone_woven cover (front ++ q ∷ []) qs h.1)) in
    subst (λ (l : List WovenItem). AreWovenItems cover (map lone (front ++ q ∷ qs)) (numbers_from (length front) (length (q ∷ qs))) (items (l ++ pieces_items qs))) (sym h.0.is)
    (woven_and (at_front front q qs) h.0.woven moved)

items_woven : (cover : List (List ℕ)) (ps : List Piece) → AreInOneColumn cover ps → AreWovenItems cover (level_items ps) (numbers_from 0 (length (level_items ps))) (items (pieces_items ps))
items_woven cover ps h =
    let all_are : map lone (kept ps) ≡ level_items ps = sym (level_items_are cover ps h) in
    let count : length (kept ps) ≡ length (level_items ps) = sym (length-map (kept ps) lone) ∙ ap length all_are in
    subst (λ (l : List WovenItem). AreWovenItems cover (level_items ps) (numbers_from 0 (length (level_items ps))) (items l)) (kept_items ps)
    (subst (λ (n : ℕ). AreWovenItems cover (level_items ps) (numbers_from 0 n) (items (pieces_items (kept ps)))) count
    (subst (λ (all : List (List Piece)). AreWovenItems cover all (numbers_from 0 (length (kept ps))) (items (pieces_items (kept ps)))) all_are (lone_woven cover [] (kept ps) (kept_have cover ps h))))

-- ---- the level

pub text_level : (cover : List (List ℕ)) (ps : List Piece) (pairs : List Pair) → AreInOneColumn cover ps → ArePairs (events (items (pieces_items ps))) pairs → IsWovenLevel cover ps (level cover (items (pieces_items ps)) pairs)
text_level cover ps pairs h paired = woven (text_woven cover ps h) (items_woven cover ps h) paired

pub only_text : (cover : List (List ℕ)) (ps : List Piece) {b : Body} → AreInOneColumn cover ps → IsWovenLevel cover ps b
    → (pairs : List Pair) × (b ≡ level cover (items (pieces_items ps)) pairs) × ArePairs (events (items (pieces_items ps))) pairs
only_text cover ps h (woven {order = order} {held = held} {pairs = pairs} w are paired) =
    let order_is : order ≡ numbers_from 0 (length (level_items ps)) =
    woven_is_one (length (level_items ps)) (columns_of (entries ps) cover) order (numbers_from 0 (length (level_items ps))) w (text_woven cover ps h) in
    let held_is : held ≡ items (pieces_items ps) = one_items are (items_woven cover ps h) refl refl order_is in
    (pairs, ap (λ (l : WovenItems). level cover l pairs) held_is, subst (λ (l : WovenItems). ArePairs (events l) pairs) held_is paired)

pub text_is_order : TextIsOrder
text_is_order = record {
  is_woven = λ cover ps pairs d h paired. text_level cover ps pairs h paired;
  only = λ cover ps b d h w. only_text cover ps h w;
  none_cross = λ cover ps place d h c. text_uncrossed cover ps place h c;
}

-- ---- the numbers of its events

-- the events of the pieces are numbered one after another, from n on
abbrev pub AreCounted : ℕ → List Piece → Type 0
AreCounted n [] = ⊤
AreCounted n (p ∷ ps) = (p.first ≡ n) × AreCounted (n + form_count p.form) ps

abbrev pub pieces_count : List Piece → ℕ
pieces_count [] = 0
pieces_count (p ∷ ps) = form_count p.form + pieces_count ps

numbers_on : (n a b : ℕ) → numbers_from n a ++ numbers_from (n + a) b ≡ numbers_from n (a + b)
numbers_on n zero b =
    let start : n + zero ≡ n = omega arith in
    let count : b ≡ zero + b = omega arith in
    ap₂ numbers_from start count
numbers_on n (suc a) b =
    let start : n + suc a ≡ suc n + a = omega arith in
    let count : suc (a + b) ≡ suc a + b = omega arith in
    ap (λ (k : ℕ). n ∷ (numbers_from (suc n) a ++ numbers_from k b)) start ∙ ap (λ (l : List ℕ). n ∷ l) (numbers_on (suc n) a b) ∙ ap (numbers_from n) count

events_on : (xs ys : List WovenItem) → events (items (xs ++ ys)) ≡ events (items xs) ++ events (items ys)
events_on [] ys = refl
events_on (x ∷ xs) ys = ap (λ (l : List EventNode). item_events x ++ l) (events_on xs ys) ∙ sym (append_assoc (item_events x) (events (items xs)) (events (items ys)))

nodes_numbers : (n : ℕ) (at : List ℕ) (es : List RawEvent) → map number_of (nodes_from n at es) ≡ numbers_from n (length es)
nodes_numbers n at [] = refl
nodes_numbers n at (e ∷ es) = ap (λ (l : List ℕ). n ∷ l) (nodes_numbers (suc n) at es)

form_numbers : (cover leads : List (List ℕ)) (n : ℕ) (f : Form) → IsFormInOneColumn cover leads f → map number_of (events (items (form_items (slice_get leads 0) n f))) ≡ numbers_from n (form_count f)
form_numbers cover [] n (Single e) h = absurd h.0
form_numbers cover (at ∷ []) n (Single e) h = refl
form_numbers cover (at ∷ other ∷ leads) n (Single e) h = absurd h.0
form_numbers cover [] n (Coregion es) h = absurd h
form_numbers cover (at ∷ []) n (Coregion es) h = ap (map number_of) (append-nil (nodes_from n at es)) ∙ nodes_numbers n at es
form_numbers cover (at ∷ other ∷ leads) n (Coregion es) h = absurd h
form_numbers cover leads n (Condition names shared) h = ap (λ (l : List WovenItem). map number_of (events (items l))) (no_item (slice_get leads 0) n (Condition names shared) refl)
form_numbers cover leads n (Inline head held) h = absurd h
form_numbers cover leads n (Refer r) h = absurd h
form_numbers cover leads n Stop h = ap (λ (l : List WovenItem). map number_of (events (items l))) (no_item (slice_get leads 0) n Stop refl)

numbers_count : (n m : ℕ) → length (numbers_from n m) ≡ m
numbers_count n zero = refl
numbers_count n (suc m) = ap suc (numbers_count (suc n) m)

module _ (cover : List (List ℕ)) where
  pub text_numbers : (n : ℕ) (ps : List Piece) → AreInOneColumn cover ps → AreCounted n ps → map number_of (events (items (pieces_items ps))) ≡ numbers_from n (pieces_count ps)
  text_numbers n [] h c = refl
  text_numbers n (p ∷ ps) h c =
      ap (map number_of) (events_on (piece_items p) (pieces_items ps)) ∙ map-append number_of (events (items (piece_items p))) (events (items (pieces_items ps)))
      ∙ ap₂ (λ (a b : List ℕ). a ++ b) (form_numbers cover p.leads p.first p.form h.0 ∙ ap (λ (k : ℕ). numbers_from k (form_count p.form)) c.0) (text_numbers (n + form_count p.form) ps h.1 c.1)
      ∙ numbers_on n (form_count p.form) (pieces_count ps)

  -- how many events the level has
  pub text_count : (n : ℕ) (ps : List Piece) → AreInOneColumn cover ps → AreCounted n ps → length (events (items (pieces_items ps))) ≡ pieces_count ps
  text_count n ps h c = sym (length-map (events (items (pieces_items ps))) number_of) ∙ ap length (text_numbers n ps h c) ∙ numbers_count n (pieces_count ps)

  -- its events are numbered one after another, in the order of the woven list
  pub each_number : (n : ℕ) (ps : List Piece) → AreInOneColumn cover ps → AreCounted n ps → map number_of (events (items (pieces_items ps))) ≡ numbers_from n (length (events (items (pieces_items ps))))
  each_number n ps h c = text_numbers n ps h c ∙ ap (numbers_from n) (sym (text_count n ps h c))

-- ---- the pieces of statements are numbered one after another

counted_on : (n : ℕ) (ps qs : List Piece) → AreCounted n ps → AreCounted (n + pieces_count ps) qs → AreCounted n (ps ++ qs)
counted_on n [] qs h k = let start : n + 0 ≡ n = omega arith in subst (λ (m : ℕ). AreCounted m qs) start k
counted_on n (p ∷ ps) qs h k =
    let start : n + (form_count p.form + pieces_count ps) ≡ (n + form_count p.form) + pieces_count ps = omega arith in
    (h.0, counted_on (n + form_count p.form) ps qs h.1 (subst (λ (m : ℕ). AreCounted m qs) start k))

items_counted : (column : Option (List ℕ)) (leads : List (List ℕ)) (n : ℕ) (xs : tree.Items) → AreCounted n (items_pieces column leads n xs)
items_counted column leads n tree.no_items = tt
items_counted column leads n (tree.item_and (placed place form) xs) = (refl, items_counted column leads (n + form_count form) xs)

items_count_is : (column : Option (List ℕ)) (leads : List (List ℕ)) (n : ℕ) (xs : tree.Items) → pieces_count (items_pieces column leads n xs) ≡ items_count xs
items_count_is column leads n tree.no_items = refl
items_count_is column leads n (tree.item_and (placed place form) xs) = ap (λ (k : ℕ). form_count form + k) (items_count_is column leads (n + form_count form) xs)

statement_counted : (cover : List (List ℕ)) (n : ℕ) (s : Statement) → AreCounted n (statement_pieces cover n s) × (pieces_count (statement_pieces cover n s) ≡ statement_count s)
statement_counted cover n (Column decl held) = (items_counted (Some decl.name) (decl.name ∷ []) n held, items_count_is (Some decl.name) (decl.name ∷ []) n held)
statement_counted cover n (Covered names held) = (items_counted None (covered cover names) n held, items_count_is None (covered cover names) n held)
statement_counted cover n (Heading decl) = (tt, refl)
statement_counted cover n (Ended name) = (tt, refl)

pub statements_counted : (cover : List (List ℕ)) (n : ℕ) (ss : Statements) → AreCounted n (statements_pieces cover n ss)
statements_counted cover n no_statements = tt
statements_counted cover n (statement_and s ss) =
    let first = statement_counted cover n s in
    counted_on n (statement_pieces cover n s) (statements_pieces cover (n + statement_count s) ss) first.0
    (subst (λ (k : ℕ). AreCounted (n + k) (statements_pieces cover (n + statement_count s) ss)) (sym first.1) (statements_counted cover (n + statement_count s) ss))
