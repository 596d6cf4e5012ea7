-- The first label that can't stand, and the graph where there is none.
use Rattle.std.proofs.Common.{ℕ, zero, suc, ◌+◌, ◌<◌, ◌≤◌, ◌≡◌, ◌⊎◌, inl, inr, List, [], ◌∷◌, ◌++◌, length, map, Bool, true, false, ◌||◌, Option, Some, None, fold, refl, sym, subst, arith, ap, ap₂, ◌∙◌, length-append, append_assoc, filter_map, slice_get, if◌then◌else◌}
use Rattle.std.proofs.lemmas.Bool.{true≢false, or_cases, or_left, or_right}
use Rattle.std.proofs.lemmas.Slice.Eq.{bytes_eq-Decides}
use Rattle.std.proofs.lemmas.Option.{slice_get_within}
use Rattle.std.proofs.lemmas.List.{append-nil}
use Rattle.std.proofs.lemmas.List.Folds.{list_any-append}
use Rattle.std.specs.List.{position, flat_map, cons_option}
use Rattle.std.specs.Option.{is_some}
use Rattle.std.specs.Str.{bytes_eq}
use Rattle.msc_base.specs.declared.label.LabelRef.{LabelRef}
use Rattle.msc_base.specs.declared.place.Place.{Place}
use Rattle.hmsc_graph.specs.declared.shape.ShapeLine.{ShapeLine}
use Rattle.hmsc_graph.specs.declared.shape.Shape.{Shape}
use Rattle.hmsc_graph.specs.declared.labels.Labels.{Labels}
use Rattle.hmsc_graph.specs.declared.net.NetFault.{NetFault}
use Rattle.hmsc_graph.specs.declared.net.NetFault.TheVariants.{UnknownLabel, TwiceLabel}
use Rattle.hmsc_graph.specs.Graphs.{Net}
use Rattle.hmsc_graph.specs.Nets.{graph_of}
use Rattle.hmsc_graph.specs.Labels.{has_name, with_line, with_label, number_in, graph_in, fault_of}
use Rattle.hmsc_graph.specs.Shapes.{HasLabel, IsUnknown, IsTwice, IsFaulty, IsFaultOf, IsGraphOf, AreNumbers, AreNext, line_number, named_by}
use Rattle.msc_base.specs.Places.{IsBefore, IsLeast, IsNoLater, earliest, is_before}
use Rattle.msc_base.proofs.PlaceFacts.{before_cases, before_or_at, no_later_through}
use Rattle.list_facts.proofs.Reading.{get_behind, get_left}
use Rattle.msc_rules.specs.Rules.{group_of, number_of}
use Rattle.msc_rules.specs.declared.rule.Rule.TheVariants as rule
use Rattle.msc_rules.proofs.TwoRules.{first_leads, second_leads}
use Rattle.hmsc_graph.proofs.LabelFacts.{labels_of, known_line, new_line, is_some-position}

earliest_same : (P R : Place → Type 0) (o : Option Place) → ((q : Place) → P q → R q) → ((q : Place) → R q → P q) → IsLeast P o → IsLeast R o
earliest_same P R None f g e = λ q h. e q (g q h)
earliest_same P R (Some p) f g e = (f p e.0, λ q h. e.1 q (g q h))

earliest_more : (P R : Place → Type 0) (o : Option Place) (p : Place) → ((q : Place) → P q → R q) → R p → ((q : Place) → R q → P q ⊎ (q ≡ p)) → IsLeast P o → IsLeast R (earliest o p)
earliest_more P R None p f here g e = (here, λ q h. elim (g q h) [ inl x ↦ absurd (e q x) | inr is ↦ inr (sym is) ])
earliest_more P R (Some found) p f here g e = elim (before_cases p found) [
  | inl lt ↦ subst (IsLeast R) (ap (λ (b : Bool). if b then Some p else Some found) (sym lt.0)) (here, λ q h. elim (g q h) [ inl x ↦ inl (before_or_at p found q lt.1 (e.1 q x)) | inr is ↦ inr (sym is) ])
  | inr ge ↦ subst (IsLeast R) (ap (λ (b : Bool). if b then Some p else Some found) (sym ge.0)) (f found e.0, λ q h. elim (g q h) [ inl x ↦ e.1 q x | inr is ↦ subst (IsNoLater found) (sym is) ge.1 ])
]

-- unknown labels
module _ (lines : List ShapeLine) where
  unknown_left : (before after : List LabelRef) (q : Place) → IsUnknown lines before q → IsUnknown lines (before ++ after) q
  unknown_left [] after q h = absurd h
  unknown_left (l ∷ before) after q (inl h) = inl h
  unknown_left (l ∷ before) after q (inr h) = inr (unknown_left before after q h)

  unknown_right : (before after : List LabelRef) (q : Place) → IsUnknown lines after q → IsUnknown lines (before ++ after) q
  unknown_right [] after q h = h
  unknown_right (l ∷ before) after q h = inr (unknown_right before after q h)

  unknown_either : (before after : List LabelRef) (q : Place) → IsUnknown lines (before ++ after) q → IsUnknown lines before q ⊎ IsUnknown lines after q
  unknown_either [] after q h = inr h
  unknown_either (l ∷ before) after q (inl h) = inl (inl h)
  unknown_either (l ∷ before) after q (inr h) = elim (unknown_either before after q h) [ inl x ↦ inl (inr x) | inr y ↦ inr y ]

  module _ (names : List (List ℕ)) (members : (name : List ℕ) → has_name names name ≡ true → (i : ℕ) × HasLabel lines i name) (listed : (i : ℕ) (name : List ℕ) → HasLabel lines i name → has_name names name ≡ true) where
    unknown_step : (before : List LabelRef) (l : LabelRef) (found : Option Place) → IsLeast (IsUnknown lines before) found → IsLeast (IsUnknown lines (before ++ l ∷ [])) (with_label names found l)
    unknown_step before l found e = choose (has_name names l.name) refl
      where
        only : IsUnknown lines (l ∷ []) l.place → (number : ℕ) → HasLabel lines number l.name → ⊥
        only (inl h) = h.1
        only (inr h) = absurd h

        lacks : (q : Place) → IsUnknown lines (l ∷ []) q → (number : ℕ) → HasLabel lines number l.name → ⊥
        lacks q (inl h) = h.1
        lacks q (inr h) = absurd h

        here : (q : Place) → IsUnknown lines (l ∷ []) q → q ≡ l.place
        here q (inl h) = sym h.0
        here q (inr h) = absurd h

        choose : (b : Bool) → has_name names l.name ≡ b → IsLeast (IsUnknown lines (before ++ l ∷ [])) (if b then found else earliest found l.place)
        choose true known = earliest_same (IsUnknown lines before) (IsUnknown lines (before ++ l ∷ [])) found (unknown_left before (l ∷ []))
            (λ q h. elim (unknown_either before (l ∷ []) q h) [ inl x ↦ x | inr y ↦ let m = members l.name known in absurd (lacks q y m.0 m.1) ]) e
        choose false new = earliest_more (IsUnknown lines before) (IsUnknown lines (before ++ l ∷ [])) found l.place (unknown_left before (l ∷ []))
            (unknown_right before (l ∷ []) l.place (inl (refl, λ number h. true≢false (sym (listed number l.name h) ∙ new))))
            (λ q h. elim (unknown_either before (l ∷ []) q h) [ inl x ↦ inl x | inr y ↦ inr (here q y) ]) e

    unknown_folded : (before labels : List LabelRef) (found : Option Place) → IsLeast (IsUnknown lines before) found → IsLeast (IsUnknown lines (before ++ labels)) (fold (with_label names) found labels)
    unknown_folded before [] found e = subst (λ (ls : List LabelRef). IsLeast (IsUnknown lines ls) found) (sym (append-nil before)) e
    unknown_folded before (l ∷ labels) found e = subst (λ (ls : List LabelRef). IsLeast (IsUnknown lines ls) (fold (with_label names) (with_label names found l) labels)) (append_assoc before (l ∷ []) labels)
        (unknown_folded (before ++ l ∷ []) labels (with_label names found l) (unknown_step before l found e))

    pub earliest_unknown : (labels : List LabelRef) → IsLeast (IsUnknown lines labels) (fold (with_label names) None labels)
    earliest_unknown labels = unknown_folded [] labels None (λ q h. h)

-- an item behind a list
module _ {X : Type 0} where
  pub record IsLast (xs : List X) (x : X) (i : ℕ) (z : X) : Type 0 where
    pub at : i ≡ length xs
    pub is : x ≡ z

  get_either : (xs : List X) (x : X) (i : ℕ) (z : X) → slice_get (xs ++ x ∷ []) i ≡ Some z → (slice_get xs i ≡ Some z) ⊎ IsLast xs x i z
  get_either [] x zero z h = inr (record { at = refl; is = cc })
  get_either [] x (suc i) z h = cc
  get_either (y ∷ xs) x zero z h = inl h
  get_either (y ∷ xs) x (suc i) z h = elim (get_either xs x i z h) [ inl l ↦ inl l | inr r ↦ inr (record { at = omega (arith, r.at); is = r.is }) ]

label_kept : (before after : List ShapeLine) (i : ℕ) (name : List ℕ) → HasLabel before i name → HasLabel (before ++ after) i name
label_kept before after i name h = record { line = h.line; at = get_left before after i h.line h.at; is = h.is }

label_last : (before : List ShapeLine) (line : ShapeLine) (name : List ℕ) → line.label ≡ name → HasLabel (before ++ line ∷ []) (length before) name
label_last before line name e = record { line = line; at = get_behind before line []; is = e }

pub record IsLastLabel (before : List ShapeLine) (line : ShapeLine) (i : ℕ) (name : List ℕ) : Type 0 where
  pub at : i ≡ length before
  pub is : line.label ≡ name

label_either : (before : List ShapeLine) (line : ShapeLine) (i : ℕ) (name : List ℕ) → HasLabel (before ++ line ∷ []) i name → HasLabel before i name ⊎ IsLastLabel before line i name
label_either before line i name h = elim (get_either before line i h.line h.at) [
  | inl l ↦ inl (record { line = h.line; at = l; is = h.is })
  | inr r ↦ inr (record { at = r.at; is = ap (λ (l : ShapeLine). l.label) r.is ∙ h.is })
]

twice_kept : (before : List ShapeLine) (line : ShapeLine) (q : Place) → IsTwice before q → IsTwice (before ++ line ∷ []) q
twice_kept before line q t = record { first = t.first; second = t.second; line = t.line; at = get_left before (line ∷ []) t.second t.line t.at; here = t.here; before = t.before; again = label_kept before (line ∷ []) t.first t.line.label t.again }

-- a line whose label comes a second time comes so in the prefix, or it is the last
pub record IsAgain (before : List ShapeLine) (line : ShapeLine) (q : Place) : Type 0 where
  pub first : ℕ
  pub again : HasLabel before first line.label
  pub here : line.place ≡ q

twice_either : (before : List ShapeLine) (line : ShapeLine) (q : Place) → IsTwice (before ++ line ∷ []) q → IsTwice before q ⊎ IsAgain before line q
twice_either before line q t = elim (get_either before line t.second t.line t.at) [
  | inl l ↦ inl (record { first = t.first; second = t.second; line = t.line; at = l; here = t.here; before = t.before; again = in_front (omega (arith, t.before, slice_get_within before t.second t.line l)) })
  | inr r ↦ inr (record {
    first = t.first;
    again = subst (λ (l : ShapeLine). HasLabel before t.first l.label) (sym r.is) (in_front (omega (arith, t.before, r.at)));
    here = ap (λ (l : ShapeLine). l.place) r.is ∙ t.here;
  })
]
  where
    in_front : t.first < length before → HasLabel before t.first t.line.label
    in_front low = elim (label_either before line t.first t.line.label t.again) [ inl h ↦ h | inr e ↦ absurd (omega (arith, low, e.at)) ]

again_twice : (before : List ShapeLine) (line : ShapeLine) → (i : ℕ) → HasLabel before i line.label → IsTwice (before ++ line ∷ []) line.place
again_twice before line i h = record { first = i; second = length before; line = line; at = get_behind before line []; here = refl; before = slice_get_within before i h.line h.at; again = label_kept before (line ∷ []) i line.label h }

-- what the labels of some lines say
pub record AreLabels (before : List ShapeLine) (labels : Labels) : Type 0 where
  pub members : (name : List ℕ) → has_name labels.table name ≡ true → (i : ℕ) × HasLabel before i name
  pub listed : (i : ℕ) (name : List ℕ) → HasLabel before i name → has_name labels.table name ≡ true
  pub few : length labels.table ≤ length before
  pub first : IsLeast (IsTwice before) labels.twice
  pub same : labels.twice ≡ None → labels.table ≡ map (λ line. line.label) before

some_earlier : (o : Option Place) (p : Place) → earliest o p ≡ None → ⊥
some_earlier None p h = cc
some_earlier (Some q) p h = choose (is_before p q) h
  where
    choose : (b : Bool) → (if b then Some p else Some q) ≡ None → ⊥
    choose true h = cc
    choose false h = cc

map_added : (before : List ShapeLine) (line : ShapeLine) → map (λ l. l.label) (before ++ line ∷ []) ≡ map (λ l. l.label) before ++ line.label ∷ []
map_added [] line = refl
map_added (l ∷ before) line = ap (λ (ns : List (List ℕ)). l.label ∷ ns) (map_added before line)

module _ (before : List ShapeLine) (line : ShapeLine) (labels : Labels) (a : AreLabels before labels) where
  longer : length (before ++ line ∷ []) ≡ length before + 1
  longer = length-append before (line ∷ [])

  -- a line whose label is there
  known : has_name labels.table line.label ≡ true → AreLabels (before ++ line ∷ []) (labels_of labels.table (earliest labels.twice line.place))
  known e = record {
    members = λ name h. let m = a.members name h in (m.0, label_kept before (line ∷ []) m.0 name m.1);
    listed = λ i name h. elim (label_either before line i name h) [ inl l ↦ a.listed i name l | inr r ↦ subst (λ (n : List ℕ). has_name labels.table n ≡ true) r.is e ];
    few = omega (arith, a.few, longer);
    first = let m = a.members line.label e in earliest_more (IsTwice before) (IsTwice (before ++ line ∷ [])) labels.twice line.place (twice_kept before line) (again_twice before line m.0 m.1)
        (λ q t. elim (twice_either before line q t) [ inl l ↦ inl l | inr r ↦ inr (sym r.here) ]) a.first;
    same = λ h. absurd (some_earlier labels.twice line.place h);
  }

  wider : (name : List ℕ) → has_name (labels.table ++ line.label ∷ []) name ≡ (has_name labels.table name || (bytes_eq name line.label || false))
  wider name = list_any-append (bytes_eq name) labels.table (line.label ∷ [])

  new_member : (name : List ℕ) → has_name (labels.table ++ line.label ∷ []) name ≡ true → (i : ℕ) × HasLabel (before ++ line ∷ []) i name
  new_member name h = elim (or_cases _ _ (sym (wider name) ∙ h)) [
    | inl l ↦ let m = a.members name l in (m.0, label_kept before (line ∷ []) m.0 name m.1)
    | inr r ↦ elim (or_cases _ _ r) [
      | inl is ↦ (length before, label_last before line name (sym ((bytes_eq-Decides name line.label).0 is)))
      | inr bad ↦ absurd (true≢false (sym bad))
    ]
  ]

  new_listed : (i : ℕ) (name : List ℕ) → HasLabel (before ++ line ∷ []) i name → has_name (labels.table ++ line.label ∷ []) name ≡ true
  new_listed i name h = wider name ∙ elim (label_either before line i name h) [
    | inl l ↦ or_left _ _ (a.listed i name l)
    | inr r ↦ or_right _ _ (or_left _ _ ((bytes_eq-Decides name line.label).1 (sym r.is)))
  ]

  -- a line whose label is new
  fresh : has_name labels.table line.label ≡ false → AreLabels (before ++ line ∷ []) (labels_of (labels.table ++ line.label ∷ []) labels.twice)
  fresh e = record {
    members = new_member;
    listed = new_listed;
    few = omega (arith, a.few, longer, length-append labels.table (line.label ∷ []));
    first = earliest_same (IsTwice before) (IsTwice (before ++ line ∷ [])) labels.twice (twice_kept before line)
        (λ q t. elim (twice_either before line q t) [ inl l ↦ l | inr r ↦ absurd (true≢false (sym (a.listed r.first line.label r.again) ∙ e)) ]) a.first;
    same = λ h. ap (λ (ns : List (List ℕ)). ns ++ line.label ∷ []) (a.same h) ∙ sym (map_added before line);
  }

  labels_step : AreLabels (before ++ line ∷ []) (with_line labels line)
  labels_step = choose (has_name labels.table line.label) refl
    where
      choose : (b : Bool) → has_name labels.table line.label ≡ b → AreLabels (before ++ line ∷ []) (with_line labels line)
      choose true e = subst (AreLabels (before ++ line ∷ [])) (known_line labels line (earliest labels.twice line.place) e refl) (known e)
      choose false e = subst (AreLabels (before ++ line ∷ [])) (new_line labels line (labels.table ++ line.label ∷ []) e (sym (rw e refl))) (fresh e)

labels_folded : (before lines : List ShapeLine) (labels : Labels) → AreLabels before labels → AreLabels (before ++ lines) (fold with_line labels lines)
labels_folded before [] labels a = subst (λ (ls : List ShapeLine). AreLabels ls labels) (sym (append-nil before)) a
labels_folded before (line ∷ lines) labels a = subst (λ (ls : List ShapeLine). AreLabels ls (fold with_line (with_line labels line) lines)) (append_assoc before (line ∷ []) lines)
    (labels_folded (before ++ line ∷ []) lines (with_line labels line) (labels_step before line labels a))

pub are_labels : (lines : List ShapeLine) (labels : Labels) → labels ≡ fold with_line (labels_of [] None) lines → AreLabels lines labels
are_labels lines labels e = subst (AreLabels lines) (sym e) (labels_folded [] lines (labels_of [] None) none)
  where
    none : AreLabels [] (labels_of [] None)
    none = record {
      members = λ name h. absurd (true≢false (sym h));
      listed = λ i name h. let bad : None ≡ Some h.line = h.at in cc;
      few = omega arith;
      first = λ q t. let bad : None ≡ Some t.line = t.at in cc;
      same = λ h. refl;
    }

-- the earliest line that names a label that isn't there
pub first_unknown : (shape : Shape) (labels : Labels) (unknown : Option Place) → AreLabels shape.lines labels → unknown ≡ fold (with_label labels.table) None (named_by shape) → IsLeast (IsUnknown shape.lines (named_by shape)) unknown
first_unknown shape labels unknown are is = subst (IsLeast (IsUnknown shape.lines (named_by shape))) (sym is) (earliest_unknown shape.lines labels.table are.members are.listed (named_by shape))

-- the fault that is answered
module _ (shape : Shape) (labels : Labels) (unknown : Option Place) (a : AreLabels shape.lines labels) (u : IsLeast (IsUnknown shape.lines (named_by shape)) unknown) where
  abbrev Unknown : Place → Type 0
  Unknown = IsUnknown shape.lines (named_by shape)

  abbrev Twice : Place → Type 0
  Twice = IsTwice shape.lines

  unknown_leads : (o : Place) → Unknown o → ((q : Place) → Unknown q → IsNoLater o q) → ((q : Place) → Twice q → IsNoLater o q) → IsFaultOf shape (UnknownLabel o)
  unknown_leads o = first_leads number_of group_of rule.UnknownLabel rule.LabelNamedTwice Unknown Twice o refl (omega arith)

  twice_leads : (t : Place) → Twice t → ((q : Place) → Twice q → IsNoLater t q) → ((q : Place) → Unknown q → IsBefore t q) → IsFaultOf shape (TwiceLabel t)
  twice_leads t = second_leads number_of group_of rule.UnknownLabel rule.LabelNamedTwice Unknown Twice t refl

  answered : (o t : Option Place) (fault : NetFault) → fault_of o t ≡ Some fault → IsLeast Unknown o → IsLeast Twice t → IsFaultOf shape fault
  answered None None fault h eo et = cc
  answered None (Some t) fault h eo et = subst (IsFaultOf shape) (let is : TwiceLabel t ≡ fault = cc in is) (twice_leads t et.0 et.1 (λ q x. absurd (eo q x)))
  answered (Some o) None fault h eo et = subst (IsFaultOf shape) (let is : UnknownLabel o ≡ fault = cc in is) (unknown_leads o eo.0 eo.1 (λ q y. absurd (et q y)))
  answered (Some o) (Some t) fault h eo et = elim (before_cases t o) [
    | inl lt ↦
        let is : Some (TwiceLabel t) ≡ Some fault = ap (λ (b : Bool). if b then Some (TwiceLabel t) else Some (UnknownLabel o)) (sym lt.0) ∙ h in
        subst (IsFaultOf shape) (let same : TwiceLabel t ≡ fault = cc in same) (twice_leads t et.0 et.1 (λ q x. before_or_at t o q lt.1 (eo.1 q x)))
    | inr ge ↦
        let is : Some (UnknownLabel o) ≡ Some fault = ap (λ (b : Bool). if b then Some (TwiceLabel t) else Some (UnknownLabel o)) (sym ge.0) ∙ h in
        subst (IsFaultOf shape) (let same : UnknownLabel o ≡ fault = cc in same) (unknown_leads o eo.0 eo.1 (λ q y. no_later_through o t q ge.1 (et.1 q y)))
  ]

  pub fault_is : (fault : NetFault) → fault_of unknown labels.twice ≡ Some fault → IsFaultOf shape fault
  fault_is fault h = answered unknown labels.twice fault h u a.first

  neither : (o t : Option Place) → fault_of o t ≡ None → (o ≡ None) × (t ≡ None)
  neither None None h = (refl, refl)
  neither None (Some t) h = cc
  neither (Some o) None h = cc
  neither (Some o) (Some t) h = absurd (choose (is_before t o) h)
    where
      choose : (b : Bool) → (if b then Some (TwiceLabel t) else Some (UnknownLabel o)) ≡ None → ⊥
      choose true h = cc
      choose false h = cc

  module _ (h : fault_of unknown labels.twice ≡ None) where
    no_unknown : (place : Place) → IsUnknown shape.lines (named_by shape) place → ⊥
    no_unknown = subst (IsLeast (IsUnknown shape.lines (named_by shape))) (neither unknown labels.twice h).0 u

    no_twice : (place : Place) → IsTwice shape.lines place → ⊥
    no_twice = subst (IsLeast (IsTwice shape.lines)) (neither unknown labels.twice h).1 a.first

    pub no_fault : (place : Place) → IsFaulty shape place → ⊥
    no_fault place (inl x) = no_unknown place x
    no_fault place (inr y) = no_twice place y

    table_is : labels.table ≡ map (λ line. line.label) shape.lines
    table_is = a.same (neither unknown labels.twice h).1

    number_is : (label : LabelRef) → number_in labels.table label ≡ line_number shape.lines label.name
    number_is label = ap (position (bytes_eq label.name)) table_is

    are_numbers : (ls : List LabelRef) → ((place : Place) → IsUnknown shape.lines ls place → ⊥) → AreNumbers shape.lines ls (filter_map (number_in labels.table) ls)
    are_numbers [] none = refl
    are_numbers (l ∷ ls) none = choose (number_in labels.table l) refl (are_numbers ls (λ place x. none place (inr x)))
      where
        choose : (o : Option ℕ) → number_in labels.table l ≡ o → AreNumbers shape.lines ls (filter_map (number_in labels.table) ls) → map (λ n. Some n) (cons_option o (filter_map (number_in labels.table) ls)) ≡ line_number shape.lines l.name ∷ map (λ k. line_number shape.lines k.name) ls
        choose (Some n) e rest = ap₂ (λ (x : Option ℕ) (xs : List (Option ℕ)). x ∷ xs) (sym e ∙ number_is l) rest
        choose None e rest = absurd (none l.place (inl (refl, λ number has. true≢false (sym (a.listed number l.name has) ∙ sym (is_some-position (bytes_eq l.name) labels.table) ∙ ap is_some e))))

    are_next : (rest : List ShapeLine) → ((place : Place) → IsUnknown shape.lines (flat_map (λ line. line.next) rest) place → ⊥) → AreNext shape.lines rest (map (λ line. filter_map (number_in labels.table) line.next) rest)
    are_next [] none = tt
    are_next (line ∷ rest) none = (
      are_numbers line.next (λ place x. none place (unknown_left shape.lines line.next (flat_map (λ k. k.next) rest) place x)),
      are_next rest (λ place x. none place (unknown_right shape.lines line.next (flat_map (λ k. k.next) rest) place x)),
    )

    pub graph_is : IsGraphOf shape (graph_in labels.table shape)
    graph_is = record {
      starts = are_numbers shape.starts (λ place x. no_unknown place (unknown_left shape.lines shape.starts (flat_map (λ line. line.next) shape.lines) place x));
      next = are_next shape.lines (λ place x. no_unknown place (unknown_right shape.lines shape.starts (flat_map (λ line. line.next) shape.lines) place x));
      ends = refl;
    }

-- a shape writes down one graph
some_same : (xs ys : List ℕ) → map (λ n. Some n) xs ≡ map (λ n. Some n) ys → xs ≡ ys
some_same [] [] h = refl
some_same [] (y ∷ ys) h = cc
some_same (x ∷ xs) [] h = cc
some_same (x ∷ xs) (y ∷ ys) h =
    let first : x ≡ y = cc in
    let rest : map (λ n. Some n) xs ≡ map (λ n. Some n) ys = cc in
    ap₂ (λ (n : ℕ) (l : List ℕ). n ∷ l) first (some_same xs ys rest)

same_next : (lines rest : List ShapeLine) (xs ys : List (List ℕ)) → AreNext lines rest xs → AreNext lines rest ys → xs ≡ ys
same_next lines [] [] [] h k = refl
same_next lines [] (y ∷ ys) ks h k = absurd h
same_next lines [] [] (y ∷ ys) h k = absurd k
same_next lines (l ∷ rest) [] ks h k = absurd h
same_next lines (l ∷ rest) (x ∷ xs) [] h k = absurd k
same_next lines (l ∷ rest) (x ∷ xs) (y ∷ ys) h k = ap₂ (λ (n : List ℕ) (ns : List (List ℕ)). n ∷ ns) (some_same x y (h.0 ∙ sym k.0)) (same_next lines rest xs ys h.1 k.1)

pub only_graph : (shape : Shape) (g h : Net) → IsGraphOf shape g → IsGraphOf shape h → g ≡ h
only_graph shape g h p q =
    let starts : g.starts ≡ h.starts = some_same g.starts h.starts (p.starts ∙ sym q.starts) in
    let next : g.next ≡ h.next = same_next shape.lines shape.lines g.next h.next p.next q.next in
    let ends : g.ends ≡ h.ends = p.ends ∙ sym q.ends in
    ap₂ (λ (s : List ℕ) (n : List (List ℕ)). graph_of s n g.ends) starts next ∙ ap (λ (e : List Bool). graph_of h.starts h.next e) ends
