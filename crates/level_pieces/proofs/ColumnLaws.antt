-- The columns of the code's edges are those of the level.
use Rattle.std.proofs.Common.{◌≡◌, inl, inr, ℕ, ◌<◌, ◌+◌, zero, suc, Bool, true, false, cond, nat_eq, not, ◌||◌, ◌&&◌, List, [], ◌∷◌, ◌++◌, Option, Some, None, All, slice_get, length, refl, sym, subst, ap, ap₂, ◌∙◌, arith}
use Rattle.std.specs.List.{list_any, position}
use Rattle.std.specs.Option.{is_some}
use Rattle.std.specs.Str.{bytes_eq}
use Rattle.std.proofs.lemmas.Bool.{cases_eq, eq-eqb, ne_eqb, false_from_ne_true, true≢false}
use Rattle.std.proofs.lemmas.List.Elements.{All-cons, All-head, All-nil, All-tail}
use Rattle.std.proofs.lemmas.Option.{slice_get_within}
use Rattle.std.proofs.lemmas.Slice.Eq.{bytes_eq-Decides}
use Rattle.column_order.specs.declared.edge.Edge.{Edge}
use Rattle.column_order.specs.Columns.{columns_from}
use Rattle.column_order.specs.Counts.{targets}
use Rattle.msc_base.specs.Lists.{AreDifferent, IsAmong}
use Rattle.msc_base.specs.NameTables.{with_name}
use Rattle.msc_instances.specs.Instances.{instances, with_declared}
use Rattle.msc_instances.specs.Notes.{Note, Declared, Decomposed, Named, chart_notes}
use Rattle.msc_meaning.specs.LevelItems.{Entry, creates_by, creations_of, entries_at, is_creation, is_in}
use Rattle.msc_meaning.specs.LevelItems as level
use Rattle.msc_base.specs.declared.label.Kind.{Kind}
use Rattle.msc_base.specs.declared.label.Kind.TheVariants.{Output, Input, OutputLost, InputFound, Action, TimerStart, TimerStop, Timeout, Create}
use Rattle.msc_tree.specs.Charts.{Chart}
use Rattle.msc_tree.specs.Statements.{Form, Single, Coregion, Condition, Inline, Refer, Stop}
use Rattle.msc_tree.specs.declared.event.Target.{Target}
use Rattle.msc_tree.specs.declared.event.Target.TheVariants.{Nobody, Env, Instance, Gate}
use Rattle.level_pieces.specs.ItemNumbers.{AreInside}
use Rattle.level_pieces.specs.ItemEdges.{child_edges, created_edges, creation_edges, edge_of, item_edges, lead_edges, name_edge, own_edges}
use Rattle.msc_base.proofs.NameFacts.{any_with_name, number_of_one}
use Rattle.list_facts.proofs.Members.{at_among, one_index}
use Rattle.list_facts.proofs.Tables.{different_with_name}
use Rattle.level_pieces.proofs.Positions.{position_passes}

-- ---- different names

different_declared : (names : List (List ℕ)) (notes : List Note) → AreDifferent names → AreDifferent (with_declared names notes)
different_declared names [] d = d
different_declared names (Declared n ∷ notes) d = different_declared (with_name names n) notes (different_with_name names n d)
different_declared names (Decomposed n p ∷ notes) d = different_declared names notes d
different_declared names (Named n p s ∷ notes) d = different_declared names notes d

-- the instances of a chart
pub instances_differ : (chart : Chart) (names : List (List ℕ)) → names ≡ instances chart → AreDifferent names
instances_differ chart names is = subst AreDifferent (sym is) (different_declared [] (chart_notes chart) tt)

-- ---- edges and columns

-- the number of a name tells it apart from that at k
number_tells : (names : List (List ℕ)) (k c : ℕ) (n a : List ℕ) → AreDifferent names → slice_get names k ≡ Some n → position (bytes_eq a) names ≡ Some c → nat_eq c k ≡ bytes_eq a n
number_tells names k c n a d at is =
    let found = position_passes (bytes_eq a) names c is in
    let same : a ≡ found.0 = (bytes_eq-Decides a found.0).0 found.2 in
    let place : slice_get names c ≡ Some a = subst (λ (x : List ℕ). slice_get names c ≡ Some x) (sym same) found.1 in
    elim (cases_eq c k) [
      | inl e ↦
          let there : slice_get names k ≡ Some a = subst (λ (i : ℕ). slice_get names i ≡ Some a) e place in
          let one : a ≡ n = cc (there, at) in
          eq-eqb c k e ∙ sym ((bytes_eq-Decides a n).1 one)
      | inr ne ↦
          ne_eqb c k ne ∙ sym (false_from_ne_true (bytes_eq a n) (λ t.
          let one : a ≡ n = (bytes_eq-Decides a n).0 t in
          ne (one_index names c k n d (subst (λ (x : List ℕ). slice_get names c ≡ Some x) one place) at)))
    ]

none_tells : (names : List (List ℕ)) (k : ℕ) (n a : List ℕ) → slice_get names k ≡ Some n → position (bytes_eq a) names ≡ None → bytes_eq a n ≡ false
none_tells names k n a at is = false_from_ne_true (bytes_eq a n) (λ t.
    let one : n ≡ a = sym ((bytes_eq-Decides a n).0 t) in
    let some : is_some (position (bytes_eq a) names) ≡ true = number_of_one names a (subst (IsAmong names) one (at_among names k n at)) in
    true≢false (sym some ∙ ap is_some is))

-- ---- the edges of one column

targets_on : (xs ys : List Edge) (k : ℕ) → targets (xs ++ ys) k ≡ targets xs k ++ targets ys k
targets_on [] ys k = refl
targets_on (x ∷ xs) ys k = by (nat_eq x.from k) (targets_on xs ys k)
  where
    by : (b : Bool) → targets (xs ++ ys) k ≡ targets xs k ++ targets ys k → cond b (x.to ∷ targets (xs ++ ys) k) (targets (xs ++ ys) k) ≡ cond b (x.to ∷ targets xs k) (targets xs k) ++ targets ys k
    by true e = ap (λ (l : List ℕ). x.to ∷ l) e
    by false e = e

-- an item that stands there, or not
abbrev only_if : Bool → ℕ → List ℕ
only_if b n = cond b (n ∷ []) []

if_more : (b : Bool) (n : ℕ) (rest : List ℕ) → only_if b n ++ rest ≡ cond b (n ∷ rest) rest
if_more true n rest = refl
if_more false n rest = refl

either_way : (a b : List ℕ) → bytes_eq a b ≡ bytes_eq b a
either_way a b = by (bytes_eq a b) (bytes_eq b a) refl refl
  where
    by : (c d : Bool) → bytes_eq a b ≡ c → bytes_eq b a ≡ d → c ≡ d
    by true true h k = refl
    by false false h k = refl
    by true false h k = let e : a ≡ b = (bytes_eq-Decides a b).0 h in let f : bytes_eq b a ≡ true = (bytes_eq-Decides b a).1 (sym e) in cc
    by false true h k = let e : b ≡ a = (bytes_eq-Decides b a).0 k in let f : bytes_eq a b ≡ true = (bytes_eq-Decides a b).1 (sym e) in cc

module _ (names : List (List ℕ)) (k : ℕ) (i : List ℕ) (different : AreDifferent names) (at : slice_get names k ≡ Some i) where
  name_target : (a : List ℕ) (n : ℕ) → targets (name_edge names a n) k ≡ only_if (bytes_eq a i) n
  name_target a n = by (position (bytes_eq a) names) refl
    where
      by : (o : Option ℕ) → position (bytes_eq a) names ≡ o → targets (edge_of o n) k ≡ only_if (bytes_eq a i) n
      by None is = ap (λ (b : Bool). only_if b n) (sym (none_tells names k i a at is))
      by (Some c) is = ap (λ (b : Bool). only_if b n) (number_tells names k c i a different at is)

  lead_target : (seen leads : List (List ℕ)) (n : ℕ) → targets (lead_edges names seen leads n) k ≡ only_if (is_in leads i && not (list_any (bytes_eq i) seen)) n
  lead_target seen [] n = refl
  lead_target seen (a ∷ leads) n =
      targets_on (cond (list_any (bytes_eq a) seen) [] (name_edge names a n)) (lead_edges names (with_name seen a) leads n) k
      ∙ ap₂ (λ (x y : List ℕ). x ++ y) (first (list_any (bytes_eq a) seen)) (lead_target (with_name seen a) leads n ∙ ap (λ (b : Bool). only_if (is_in leads i && not b) n) (any_with_name seen a i))
      ∙ joined (bytes_eq i a) refl
    where
      first : (b : Bool) → targets (cond b [] (name_edge names a n)) k ≡ only_if (not b && bytes_eq i a) n
      first true = refl
      first false = name_target a n ∙ ap (λ (b : Bool). only_if b n) (either_way a i)

      same_seen : i ≡ a → list_any (bytes_eq a) seen ≡ list_any (bytes_eq i) seen
      same_seen e = ap (λ (x : List ℕ). list_any (bytes_eq x) seen) (sym e)

      all_told : (u v w : Bool) → u ≡ v → only_if (not u && true) n ++ only_if (w && not (v || true)) n ≡ only_if ((true || w) && not v) n
      all_told true true true e = refl
      all_told true true false e = refl
      all_told false false true e = refl
      all_told false false false e = refl
      all_told true false w e = cc
      all_told false true w e = cc

      none_told : (u v w : Bool) → only_if (not u && false) n ++ only_if (w && not (v || false)) n ≡ only_if ((false || w) && not v) n
      none_told true true w = refl
      none_told false true w = refl
      none_told true false w = refl
      none_told false false w = refl

      joined : (c : Bool) → bytes_eq i a ≡ c → only_if (not (list_any (bytes_eq a) seen) && c) n ++ only_if (is_in leads i && not (list_any (bytes_eq i) seen || c)) n
          ≡ only_if ((c || is_in leads i) && not (list_any (bytes_eq i) seen)) n
      joined true e = all_told (list_any (bytes_eq a) seen) (list_any (bytes_eq i) seen) (is_in leads i) (same_seen ((bytes_eq-Decides i a).0 e))
      joined false e = none_told (list_any (bytes_eq a) seen) (list_any (bytes_eq i) seen) (is_in leads i)

  own_target : (es : List Entry) → targets (own_edges names es) k ≡ entries_at es i
  own_target [] = refl
  own_target (e ∷ es) =
      targets_on (lead_edges names [] e.piece.leads e.item) (own_edges names es) k
      ∙ ap₂ (λ (x y : List ℕ). x ++ y) (lead_target [] e.piece.leads e.item ∙ ap (λ (b : Bool). only_if b e.item) (and_true (is_in e.piece.leads i))) (own_target es)
      ∙ if_more (is_in e.piece.leads i) e.item (entries_at es i)
    where
      and_true : (b : Bool) → (b && true) ≡ b
      and_true true = refl
      and_true false = refl

  child_target : (kind : Kind) (t : Target) (n : ℕ) → targets (child_edges names kind t n) k ≡ only_if (creates_by kind t i) n
  child_target Create (Instance child) n = name_target child n
  child_target Create Nobody n = refl
  child_target Create (Env gate) n = refl
  child_target Create (Gate reference gate) n = refl
  child_target Output t n = refl
  child_target Input t n = refl
  child_target OutputLost t n = refl
  child_target InputFound t n = refl
  child_target Action t n = refl
  child_target TimerStart t n = refl
  child_target TimerStop t n = refl
  child_target Timeout t n = refl

  created_target : (f : Form) (n : ℕ) → targets (created_edges names f n) k ≡ only_if (is_creation f i) n
  created_target (Single e) n = child_target e.kind e.target n
  created_target (Coregion es) n = refl
  created_target (Condition held shared) n = refl
  created_target (Inline head held) n = refl
  created_target (Refer r) n = refl
  created_target Stop n = refl

  creation_target : (es : List Entry) → targets (creation_edges names es) k ≡ creations_of es i
  creation_target [] = refl
  creation_target (e ∷ es) =
      targets_on (created_edges names e.piece.form e.item) (creation_edges names es) k
      ∙ ap₂ (λ (x y : List ℕ). x ++ y) (created_target e.piece.form e.item) (creation_target es)
      ∙ if_more (is_creation e.piece.form i) e.item (creations_of es i)

  column_target : (es : List Entry) → targets (item_edges names es) k ≡ level.column_of es i
  column_target es = targets_on (creation_edges names es) (own_edges names es) k ∙ ap₂ (λ (x y : List ℕ). x ++ y) (creation_target es) (own_target es)

columns_same : (k : ℕ) (names : List (List ℕ)) (edges : List Edge) (es : List Entry) → ((j : ℕ) (i : List ℕ) → slice_get names j ≡ Some i → targets edges (k + j) ≡ level.column_of es i)
    → columns_from k (length names) edges ≡ level.columns_of es names
columns_same k [] edges es each = refl
columns_same k (n ∷ names) edges es each =
    let here : k + zero ≡ k = omega arith in
    let first : targets edges k ≡ level.column_of es n = subst (λ (j : ℕ). targets edges j ≡ level.column_of es n) here (each zero n refl) in
    let rest : columns_from (suc k) (length names) edges ≡ level.columns_of es names =
    columns_same (suc k) names edges es (λ i m at. let there : k + suc i ≡ suc k + i = omega arith in subst (λ (j : ℕ). targets edges j ≡ level.column_of es m) there (each (suc i) m at)) in
    ap₂ (λ (a : List ℕ) (more : List (List ℕ)). a ∷ more) first rest

-- the columns of the edges are those of the level
pub columns_are : (names : List (List ℕ)) (es : List Entry) → AreDifferent names → columns_from 0 (length names) (item_edges names es) ≡ level.columns_of es names
columns_are names es d =
    columns_same 0 names (item_edges names es) es (λ j i at.
    let here : j ≡ 0 + j = omega arith in
    subst (λ (m : ℕ). targets (item_edges names es) m ≡ level.column_of es i) here (column_target names j i d at es))

-- ---- the edges lead from the columns to the items

abbrev IsLow : ℕ → ℕ → Edge → Type 0
IsLow columns count e = (e.from < columns) × (e.to < count)

abbrev AreLow : List (List ℕ) → ℕ → List Edge → Type 0
AreLow names count es = All (IsLow (length names) count) es

low_on : (names : List (List ℕ)) (count : ℕ) (xs ys : List Edge) → AreLow names count xs → AreLow names count ys → AreLow names count (xs ++ ys)
low_on names count [] ys h k = k
low_on names count (x ∷ xs) ys h k = All-cons (IsLow (length names) count) x (xs ++ ys) (All-head (IsLow (length names) count) x xs h) (low_on names count xs ys (All-tail (IsLow (length names) count) x xs h) k)

name_low : (names : List (List ℕ)) (a : List ℕ) (n count : ℕ) → n < count → AreLow names count (name_edge names a n)
name_low names a n count lt = by (position (bytes_eq a) names) refl
  where
    by : (o : Option ℕ) → position (bytes_eq a) names ≡ o → AreLow names count (edge_of o n)
    by None is = All-nil (IsLow (length names) count)
    by (Some c) is =
        let found = position_passes (bytes_eq a) names c is in
        let edge : Edge = record { from = c; to = n } in
        All-cons (IsLow (length names) count) edge [] (slice_get_within names c found.0 found.1, lt) (All-nil (IsLow (length names) count))

leads_low : (names seen leads : List (List ℕ)) (n count : ℕ) → n < count → AreLow names count (lead_edges names seen leads n)
leads_low names seen [] n count lt = All-nil (IsLow (length names) count)
leads_low names seen (a ∷ leads) n count lt =
    low_on names count (cond (list_any (bytes_eq a) seen) [] (name_edge names a n)) (lead_edges names (with_name seen a) leads n) (first (list_any (bytes_eq a) seen)) (leads_low names (with_name seen a) leads n count lt)
  where
    first : (b : Bool) → AreLow names count (cond b [] (name_edge names a n))
    first true = All-nil (IsLow (length names) count)
    first false = name_low names a n count lt

child_low : (names : List (List ℕ)) (kind : Kind) (t : Target) (n count : ℕ) → n < count → AreLow names count (child_edges names kind t n)
child_low names Create (Instance child) n count lt = name_low names child n count lt
child_low names Create Nobody n count lt = All-nil (IsLow (length names) count)
child_low names Create (Env gate) n count lt = All-nil (IsLow (length names) count)
child_low names Create (Gate reference gate) n count lt = All-nil (IsLow (length names) count)
child_low names Output t n count lt = All-nil (IsLow (length names) count)
child_low names Input t n count lt = All-nil (IsLow (length names) count)
child_low names OutputLost t n count lt = All-nil (IsLow (length names) count)
child_low names InputFound t n count lt = All-nil (IsLow (length names) count)
child_low names Action t n count lt = All-nil (IsLow (length names) count)
child_low names TimerStart t n count lt = All-nil (IsLow (length names) count)
child_low names TimerStop t n count lt = All-nil (IsLow (length names) count)
child_low names Timeout t n count lt = All-nil (IsLow (length names) count)

created_low : (names : List (List ℕ)) (f : Form) (n count : ℕ) → n < count → AreLow names count (created_edges names f n)
created_low names (Single e) n count lt = child_low names e.kind e.target n count lt
created_low names (Coregion es) n count lt = All-nil (IsLow (length names) count)
created_low names (Condition held shared) n count lt = All-nil (IsLow (length names) count)
created_low names (Inline head held) n count lt = All-nil (IsLow (length names) count)
created_low names (Refer r) n count lt = All-nil (IsLow (length names) count)
created_low names Stop n count lt = All-nil (IsLow (length names) count)

creations_low : (names : List (List ℕ)) (es : List Entry) (count : ℕ) → AreInside count es → AreLow names count (creation_edges names es)
creations_low names [] count h = All-nil (IsLow (length names) count)
creations_low names (e ∷ es) count h =
    low_on names count (created_edges names e.piece.form e.item) (creation_edges names es) (created_low names e.piece.form e.item count h.0) (creations_low names es count h.1)

owns_low : (names : List (List ℕ)) (es : List Entry) (count : ℕ) → AreInside count es → AreLow names count (own_edges names es)
owns_low names [] count h = All-nil (IsLow (length names) count)
owns_low names (e ∷ es) count h =
    low_on names count (lead_edges names [] e.piece.leads e.item) (own_edges names es) (leads_low names [] e.piece.leads e.item count h.0) (owns_low names es count h.1)

pub edges_low : (names : List (List ℕ)) (es : List Entry) (count : ℕ) → AreInside count es → All (λ (e : Edge). (e.from < length names) × (e.to < count)) (item_edges names es)
edges_low names es count h = low_on names count (creation_edges names es) (own_edges names es) (creations_low names es count h) (owns_low names es count h)
