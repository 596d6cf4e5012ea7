-- The walks of a graph's text are the walks through its net.
use Rattle.std.specs.Prelude.{ℕ, zero, suc, ◌<◌, Bool, true, false, List, [], ◌∷◌, Some, ◌≡◌, map, length}
use Rattle.std.specs.List.{slice_get}
use Rattle.std.specs.Str.{bytes_eq}
use Rattle.std.proofs.Common.{ap, sym, ◌∙◌, refl, inl, inr, arith, get_or, subst}
use Rattle.std.proofs.lemmas.Bool.{cases_lt}
use Rattle.std.proofs.lemmas.List.Quantifiers.{position-Some}
use Rattle.std.proofs.lemmas.Option.{same_Some}
use Rattle.std.proofs.lemmas.Slice.Eq.{bytes_eq-Decides}
use Rattle.msc_base.specs.declared.label.LabelRef.{LabelRef}
use Rattle.msc_base.specs.declared.place.Place.{Place}
use Rattle.msc_base.specs.Lists.{IsIn}
use Rattle.msc_base.specs.Orders.{Among, first, later}
use Rattle.msc_base.specs.Patterns.{empty}
use Rattle.msc_unfolding.specs.Unfoldings.{Unfolding}
use Rattle.hmsc_graph.specs.declared.shape.ShapeLine.{ShapeLine}
use Rattle.hmsc_graph.specs.Graphs.{Net, Spot, Start, At, Goal, End, Any, behind, arrives}
use Rattle.hmsc_graph.specs.Shapes.{line_number, AreNumbers, AreNext, IsTwice}
use Rattle.chart_term.specs.TermMeanings.{MayStop, aim}
use Rattle.chart_term.specs.TermPatterns.{Both}
use Rattle.term_meaning.specs.UnfoldingSets.{AreOnWalk}
use Rattle.term_meaning.specs.UnfoldingSets as sets
use Rattle.msc_tree.specs.Graphs.{Lines, no_lines, line_and, Line, line, line_list, Node, Ends, Connect, Condition, Refer, Frames}
use Rattle.msc_meaning.specs.ChartUnfoldings.{label_names, OfNode, OfWalk, stops, ends, goes}
use Rattle.msc_meaning.specs.Tables.{Table}
use Rattle.graph_shapes.specs.GraphNets.{IsNetOf}
use Rattle.graph_shapes.specs.GraphShapes.{is_end, shape_line, shape_lines}
use Rattle.graph_walks.specs.LineUnfoldings.{OfLine}
use Rattle.graph_walks.specs.GraphLaws.{TextWalksNet}

-- ---- lists

module _ {X : Type 0} where
  head_is : (x y : X) (xs ys : List X) → x ∷ xs ≡ y ∷ ys → x ≡ y
  head_is x y xs ys h = cc

  tail_is : (x y : X) (xs ys : List X) → x ∷ xs ≡ y ∷ ys → xs ≡ ys
  tail_is x y xs ys h = cc

  there_is : (xs : List X) (i : ℕ) → i < length xs → (x : X) × (slice_get xs i ≡ Some x)
  there_is [] i h = absurd (omega (arith, h))
  there_is (x ∷ xs) zero h = (x, refl)
  there_is (x ∷ xs) (suc i) h = there_is xs i (omega (arith, h))

  -- a member stands at a place
  place_of : (xs : List X) (x : X) → Among x xs → (m : ℕ) × (slice_get xs m ≡ Some x)
  place_of [] x h = elim h [ ]
  place_of (y ∷ xs) _ first = (0, refl)
  place_of (y ∷ xs) x (later h) = let (m, e) = place_of xs x h in (suc m, e)

  among_at : (xs : List X) (m : ℕ) (x : X) → slice_get xs m ≡ Some x → Among x xs
  among_at [] m x e = absurd cc
  among_at (y ∷ xs) zero x e = let p : y ≡ x = cc in subst (λ (z : X). Among x (z ∷ xs)) (sym p) first
  among_at (y ∷ xs) (suc m) x e = later (among_at xs m x e)

  got : {Y : Type 0} (f : X → Y) (d : Y) (xs : List X) (m : ℕ) (x : X) → slice_get xs m ≡ Some x → get_or (map f xs) m d ≡ f x
  got f d [] m x e = absurd cc
  got f d (y ∷ xs) zero x e = let p : y ≡ x = cc in ap f p
  got f d (y ∷ xs) (suc m) x e = got f d xs m x e

map_length : {X Y : Type 0} (f : X → Y) (xs : List X) → length (map f xs) ≡ length xs
map_length f [] = refl
map_length f (x ∷ xs) = ap suc (map_length f xs)

-- ---- labels and numbers

abbrev label_of : ShapeLine → List ℕ
label_of s = s.label

module _ (lines : List ShapeLine) where
  -- a label that is named has a number among the numbers, and a number among them is that of a label that is named
  named_number : (next : List LabelRef) (ns : List ℕ) (label : List ℕ) → AreNumbers lines next ns → Among label (label_names next) → (m : ℕ) × IsIn m ns × (line_number lines label ≡ Some m)
  named_number [] ns label h a = elim a [ ]
  named_number (k ∷ next) [] label h a = absurd cc
  named_number (k ∷ next) (n ∷ ns) _ h first = (n, inl refl, sym (head_is (Some n) (line_number lines k.name) (map (λ j. Some j) ns) (map (λ (j : LabelRef). line_number lines j.name) next) h))
  named_number (k ∷ next) (n ∷ ns) label h (later a) =
      let (m, i, e) = named_number next ns label (tail_is (Some n) (line_number lines k.name) (map (λ j. Some j) ns) (map (λ (j : LabelRef). line_number lines j.name) next) h) a in
      (m, inr i, e)

  number_named : (next : List LabelRef) (ns : List ℕ) (m : ℕ) → AreNumbers lines next ns → IsIn m ns → (label : List ℕ) × Among label (label_names next) × (line_number lines label ≡ Some m)
  number_named next [] m h i = absurd i
  number_named [] (n ∷ ns) m h i = absurd cc
  number_named (k ∷ next) (n ∷ ns) m h (inl e) = (k.name, first, sym (head_is (Some n) (line_number lines k.name) (map (λ j. Some j) ns) (map (λ (j : LabelRef). line_number lines j.name) next) h) ∙ ap Some (sym e))
  number_named (k ∷ next) (n ∷ ns) m h (inr i) =
      let (label, a, e) = number_named next ns m (tail_is (Some n) (line_number lines k.name) (map (λ j. Some j) ns) (map (λ (j : LabelRef). line_number lines j.name) next) h) i in
      (label, later a, e)

  -- the line of a number has the label
  numbered_line : (label : List ℕ) (m : ℕ) → line_number lines label ≡ Some m → (s : ShapeLine) × (slice_get lines m ≡ Some s) × (s.label ≡ label)
  numbered_line label m h =
      let found = position-Some (bytes_eq label) (map label_of lines) m [] h in
      let (s, e) = there_is lines m (within found.0) in
      (s, e, sym ((bytes_eq-Decides label s.label).0 (subst (λ (l : List ℕ). bytes_eq label l ≡ true) (got label_of [] lines m s e) found.1)))
    where
      within : m < length (map label_of lines) → m < length lines
      within l = omega (arith, l, map_length label_of lines)

  next_of : (rest : List ShapeLine) (next : List (List ℕ)) (k : ℕ) (s : ShapeLine) → AreNext lines rest next → slice_get rest k ≡ Some s → AreNumbers lines s.next (get_or next k [])
  next_of [] next k s h e = absurd cc
  next_of (l ∷ rest) [] k s h e = absurd h
  next_of (l ∷ rest) (ns ∷ next) zero s (h, i) e = let p : l ≡ s = cc in subst (λ (x : ShapeLine). AreNumbers lines x.next ns) p h
  next_of (l ∷ rest) (ns ∷ next) (suc k) s (h, i) e = next_of rest next k s i e

  -- no two lines have one label
  one_line : ((p : Place) → IsTwice lines p → ⊥) → (m n : ℕ) (s r : ShapeLine) → slice_get lines m ≡ Some s → slice_get lines n ≡ Some r → s.label ≡ r.label → m ≡ n
  one_line once m n s r e f same = elim (cases_lt m n) [
    | inl lt ↦ absurd (once r.place (record { first = m; second = n; line = r; at = f; here = refl; before = lt; again = record { line = s; at = e; is = same } }))
    | inr ge ↦ elim (cases_lt n m) [
      | inl lt ↦ absurd (once s.place (record { first = n; second = m; line = s; at = e; here = refl; before = lt; again = record { line = r; at = f; is = sym same } }))
      | inr le ↦ omega (arith, ge, le)
    ]
  ]

-- ---- lines

abbrev node_in : Line → Node
node_in (line label place node next) = node

abbrev label_in : Line → List ℕ
label_in (line label place node next) = label

abbrev next_in : Line → List LabelRef
next_in (line label place node next) = next

shape_at : (lines : Lines) (m : ℕ) (x : Line) → slice_get (line_list lines) m ≡ Some x → slice_get (shape_lines lines) m ≡ Some (shape_line x)
shape_at no_lines m x e = absurd cc
shape_at (line_and y ys) zero x e = let p : y ≡ x = cc in ap (λ (z : Line). Some (shape_line z)) p
shape_at (line_and y ys) (suc m) x e = shape_at ys m x e

line_at : (lines : Lines) (m : ℕ) (s : ShapeLine) → slice_get (shape_lines lines) m ≡ Some s → (x : Line) × (slice_get (line_list lines) m ≡ Some x) × (shape_line x ≡ s)
line_at no_lines m s e = absurd cc
line_at (line_and y ys) zero s e = (y, refl, same_Some (shape_line y) s e)
line_at (line_and y ys) (suc m) s e = line_at ys m s e

-- what the node of a line does
of_line : (table : Table) (lines : Lines) (m : ℕ) (x : Line) (u : Unfolding) → slice_get (line_list lines) m ≡ Some x → Both (OfNode table (node_in x) u) (OfLine table lines m u)
of_line table no_lines m x u e = absurd cc
of_line table (line_and (line l p n a) ys) zero x u e =
    let same : n ≡ node_in x = ap node_in (same_Some (line l p n a) x e) in
    record { to = λ h. subst (λ (k : Node). OfNode table k u) (sym same) h; from = λ h. subst (λ (k : Node). OfNode table k u) same h }
of_line table (line_and (line l p n a) ys) (suc m) x u e = of_line table ys m x u e

ends_alone : (n : Node) → is_end n ≡ true → n ≡ Ends
ends_alone Ends e = refl
ends_alone Connect e = absurd cc
ends_alone (Condition names) e = absurd cc
ends_alone (Refer expression) e = absurd cc
ends_alone (Frames held) e = absurd cc

-- ---- walks

module _ (table : Table) (starts : List LabelRef) (lines : Lines) (g : Net) (d : IsNetOf starts lines g) (t : Goal) (walks : Bool) (aims : aim t ≡ End) where
  abbrev A : ℕ → Unfolding → Type 0
  A = OfLine table lines

  once : (p : Place) → IsTwice (shape_lines lines) p → ⊥
  once p h = d.faultless p (inr h)

  end_at : (m : ℕ) (s : ShapeLine) → slice_get (shape_lines lines) m ≡ Some s → get_or g.ends m false ≡ s.ends
  end_at m s e = ap (λ (bs : List Bool). get_or bs m false) d.drawn.ends ∙ got (λ (l : ShapeLine). l.ends) false (shape_lines lines) m s e

  numbers_at : (m : ℕ) (s : ShapeLine) → slice_get (shape_lines lines) m ≡ Some s → AreNumbers (shape_lines lines) s.next (behind g (At m))
  numbers_at m s e = next_of (shape_lines lines) (shape_lines lines) g.next m s d.drawn.next e

  -- the line of a label that is named is one of the next ones of the net
  pub record IsNextLine (f : Spot) (x : Line) : Type 0 where
    pub number : ℕ
    pub behind_it : IsIn number (behind g f)
    pub at : slice_get (line_list lines) number ≡ Some x

  next_line : (f : Spot) (next : List LabelRef) (x : Line) → AreNumbers (shape_lines lines) next (behind g f) → Among (label_in x) (label_names next) → Among x (line_list lines) → IsNextLine f x
  next_line f next x n a b =
      let (m, i, e) = named_number (shape_lines lines) next (behind g f) (label_in x) n a in
      let (s, at, is) = numbered_line (shape_lines lines) (label_in x) m e in
      let (k, here) = place_of (line_list lines) x b in
      let same : m ≡ k = one_line (shape_lines lines) once m k s (shape_line x) at (shape_at lines k x here) (is ∙ label_same x) in
      record { number = m; behind_it = i; at = subst (λ (j : ℕ). slice_get (line_list lines) j ≡ Some x) (sym same) here }
    where
      label_same : (x : Line) → label_in x ≡ label_of (shape_line x)
      label_same (line l p n a) = refl

  -- one of the next ones of the net is the line of a label that is named
  pub record IsNamedLine (next : List LabelRef) (m : ℕ) : Type 0 where
    pub label : List ℕ
    pub place : Place
    pub node : Node
    pub after : List LabelRef
    pub named : Among label (label_names next)
    pub at : slice_get (line_list lines) m ≡ Some (line label place node after)

  named_line : (f : Spot) (next : List LabelRef) (m : ℕ) → AreNumbers (shape_lines lines) next (behind g f) → IsIn m (behind g f) → IsNamedLine next m
  named_line f next m n i =
      let (label, a, e) = number_named (shape_lines lines) next (behind g f) m n i in
      let (s, at, is) = numbered_line (shape_lines lines) label m e in
      let (x, here, same) = line_at lines m s at in
      whole x label a here (ap label_of same ∙ is)
    where
      whole : (x : Line) (label : List ℕ) → Among label (label_names next) → slice_get (line_list lines) m ≡ Some x → label_of (shape_line x) ≡ label → IsNamedLine next m
      whole (line l p k b) label a here is = record { label = l; place = p; node = k; after = b; named = subst (λ (z : List ℕ). Among z (label_names next)) (sym is) a; at = here }

  arriving : (m : ℕ) → get_or g.ends m false ≡ true → arrives g (aim t) m ≡ true
  arriving m h = subst (λ (k : Goal). arrives g k m ≡ true) (sym aims) h

  arrived : (m : ℕ) → arrives g (aim t) m ≡ true → get_or g.ends m false ≡ true
  arrived m h = subst (λ (k : Goal). arrives g k m ≡ true) aims h

  to : (o : Bool) → (o ≡ true → MayStop t walks) → (f : Spot) (next : List LabelRef) (u : Unfolding) → AreNumbers (shape_lines lines) next (behind g f) → OfWalk table o lines next u → AreOnWalk g walks A f t u
  to _ may f next _ n stops = sets.stops (may refl)
  to o may f next _ n (ends {after = after} {label = label} {place = place} a b) =
      let x = next_line f next (line label place Ends after) n a b in
      sets.arrives_at x.number x.behind_it (arriving x.number (end_at x.number (shape_line (line label place Ends after)) (shape_at lines x.number (line label place Ends after) x.at)))
  to o may f next _ n (goes {after = after} {label = label} {place = place} {node = node} {u = u} {v = v} a b h w) =
      let x = next_line f next (line label place node after) n a b in
      sets.passes x.number x.behind_it ((of_line table lines x.number (line label place node after) u x.at).to h)
      (to o may (At x.number) after v (numbers_at x.number (shape_line (line label place node after)) (shape_at lines x.number (line label place node after) x.at)) w)

  from : (o : Bool) → (MayStop t walks → o ≡ true) → (f : Spot) (next : List LabelRef) (u : Unfolding) → AreNumbers (shape_lines lines) next (behind g f) → AreOnWalk g walks A f t u → OfWalk table o lines next u
  from o may f next _ n (sets.stops h) = subst (λ (b : Bool). OfWalk table b lines next empty) (sym (may h)) stops
  from o may f next _ n (sets.arrives_at m i h) =
      let x = named_line f next m n i in
      let is : x.node ≡ Ends = ends_alone x.node (sym (end_at m (shape_line (line x.label x.place x.node x.after)) (shape_at lines m (line x.label x.place x.node x.after) x.at)) ∙ arrived m h) in
      ends x.named (subst (λ (k : Node). Among (line x.label x.place k x.after) (line_list lines)) is (among_at (line_list lines) m (line x.label x.place x.node x.after) x.at))
  from o may f next _ n (sets.passes m {a = u} {b = v} i h w) =
      let x = named_line f next m n i in
      goes x.named (among_at (line_list lines) m (line x.label x.place x.node x.after) x.at) ((of_line table lines m (line x.label x.place x.node x.after) u x.at).from h)
      (from o may (At m) x.after v (numbers_at m (shape_line (line x.label x.place x.node x.after)) (shape_at lines m (line x.label x.place x.node x.after) x.at)) w)

-- walks to anywhere may stop where those of the text may
stop_any : (o : Bool) → o ≡ true → MayStop Any o
stop_any true e = tt
stop_any false e = absurd cc

any_stop : (o : Bool) → MayStop Any o → o ≡ true
any_stop true h = refl
any_stop false h = absurd h

never : false ≡ true → ⊥
never e = absurd cc

pub text_walks_net : TextWalksNet
text_walks_net = record {
  any = λ table starts lines g d o u. record {
    to = λ h. to table starts lines g d Any o refl o (stop_any o) Start starts u d.drawn.starts h;
    from = λ h. from table starts lines g d Any o refl o (any_stop o) Start starts u d.drawn.starts h;
  };
  to_end = λ table starts lines g d o u. record {
    to = λ h. to table starts lines g d End o refl false (λ e. absurd (never e)) Start starts u d.drawn.starts h;
    from = λ h. from table starts lines g d End o refl false (λ h. absurd h) Start starts u d.drawn.starts h;
  };
}
