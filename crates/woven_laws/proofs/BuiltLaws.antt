-- What the statements of a chart are woven to is built, where they are well formed, name no others and create none that may not be.
use Rattle.std.proofs.Common.{◌≡◌, ◌&&◌, Bool, inl, ℕ, zero, suc, true, false, List, [], ◌∷◌, Some, slice_get, refl, sym, subst, ap, ◌∙◌, arith}
use Rattle.std.specs.List.{list_any}
use Rattle.std.specs.Str.{bytes_eq}
use Rattle.msc_base.specs.Lists.{IsAmong}
use Rattle.msc_base.specs.declared.label.Kind.{Kind}
use Rattle.msc_base.specs.declared.label.Kind.TheVariants as kind
use Rattle.msc_base.specs.declared.place.Place.{Place}
use Rattle.msc_base.proofs.NameFacts.{any_from_one}
use Rattle.msc_tree.specs.declared.event.RawEvent.{RawEvent}
use Rattle.msc_tree.specs.declared.event.Target.{Target}
use Rattle.msc_tree.specs.declared.event.Target.TheVariants.{Nobody, Env, Instance, Gate}
use Rattle.msc_tree.specs.Directions.{far_name}
use Rattle.msc_tree.specs.declared.reference.InlineForm.{InlineForm}
use Rattle.msc_tree.specs.declared.reference.InlineForm.TheVariants as inline
use Rattle.msc_tree.specs.Charts.{Chart, Basic}
use Rattle.msc_tree.specs.Statements.{Form, Operands, no_operands, operand_and, Statement, statements}
use Rattle.msc_tree.specs.Statements as tree
use Rattle.msc_meaning.specs.Bodies.{Body, WovenItems, WovenItem, Bodies, no_bodies, body_and}
use Rattle.msc_meaning.specs.LevelItems.{level_items}
use Rattle.msc_meaning.specs.Levels.{AreWovenItems, AreWovenOperands, IsWovenItem, IsWovenLevel, a_coregion, a_reference, an_event, an_inline, no_woven, no_woven_operand, nodes_from, operand_number, woven, woven_and, woven_operand_and}
use Rattle.msc_meaning.specs.Pieces.{Piece, operands_of, statements_pieces}
use Rattle.msc_instances.specs.Instances.{instances}
use Rattle.msc_instances.specs.NameFaults.{ChartNamesOther}
use Rattle.msc_instances.specs.Notes.{address_notes, event_notes, events_notes, far_notes}
use Rattle.chart_text.specs.Texts.{Scope, Side, Standing, an_item, behind, behind_all, in_column, own_scope}
use Rattle.chart_text.proofs.StandingLaws.{left_test, right_test}
use Rattle.chart_text.specs.WellFormed.{IsWellFormed, are_well_formed_events, creates_instance, is_at_one, is_well_formed_event, takes}
use Rattle.level_pieces.proofs.PieceTexts.{parts_operands}
use Rattle.level_pieces.specs.FormedPieces.{EachPiece}
use Rattle.chart_forms.specs.BuiltBodies.{AreBuiltBodies, AreBuiltItems, AreBuiltNodes, IsBuiltBody, IsBuiltItem, IsBuiltNode, IsChild, has_operands}
use Rattle.creation_rules.specs.Creating.{ChartCreatesTwice, is_creator}
use Rattle.creation_rules.specs.Placing.{is_creation}
use Rattle.woven_laws.specs.BuiltCharts.{BuiltChartsAreKnown}
use Rattle.woven_laws.proofs.Creations.{AreApartEvents, IsApartEvent}
use Rattle.woven_laws.proofs.Declaring.{AreAmong, AreKnown, all_among, known_left, known_right}
use Rattle.woven_laws.proofs.EachPiece.{EachOfAll, level_each, parts_each}
use Rattle.woven_laws.proofs.NamedPieces.{AreLeads, IsNamed, IsNamedPiece, chart_named, cover_among, of_are}

-- ---- as many operands as the form has

bodies_number : Bodies → ℕ
bodies_number no_bodies = zero
bodies_number (body_and b bs) = suc (bodies_number bs)

number_none : bodies_number no_bodies ≡ zero
unfolding bodies_number
number_none = refl

number_more : (b : Body) (bs : Bodies) → bodies_number (body_and b bs) ≡ suc (bodies_number bs)
unfolding bodies_number
number_more b bs = refl

woven_number : {cover : List (List ℕ)} {parts : List Piece} {k count : ℕ} (bs : Bodies) → AreWovenOperands cover parts k count bs → count ≡ bodies_number bs
woven_number _ (no_woven_operand) = sym number_none
woven_number _ (woven_operand_and {body = b} {others = bs} h g) = ap suc (woven_number bs g) ∙ sym (number_more b bs)

same_operands : (f : InlineForm) (xs : Operands) (bs : Bodies) → operand_number xs ≡ bodies_number bs → takes f xs ≡ true → has_operands f bs ≡ true
unfolding bodies_number
same_operands inline.Alt no_operands bs n h = cc
same_operands inline.Alt (operand_and x xs) no_bodies n h = absurd (omega (arith, n))
same_operands inline.Alt (operand_and x xs) (body_and b bs) n h = refl
same_operands inline.Opt no_operands bs n h = cc
same_operands inline.Opt (operand_and x no_operands) no_bodies n h = absurd (omega (arith, n))
same_operands inline.Opt (operand_and x no_operands) (body_and b no_bodies) n h = refl
same_operands inline.Opt (operand_and x no_operands) (body_and b (body_and c bs)) n h = absurd (omega (arith, n))
same_operands inline.Opt (operand_and x (operand_and y xs)) bs n h = cc
same_operands inline.Exc no_operands bs n h = cc
same_operands inline.Exc (operand_and x no_operands) no_bodies n h = absurd (omega (arith, n))
same_operands inline.Exc (operand_and x no_operands) (body_and b no_bodies) n h = refl
same_operands inline.Exc (operand_and x no_operands) (body_and b (body_and c bs)) n h = absurd (omega (arith, n))
same_operands inline.Exc (operand_and x (operand_and y xs)) bs n h = cc
same_operands inline.Par xs bs n h = refl
same_operands inline.Loop no_operands bs n h = cc
same_operands inline.Loop (operand_and x no_operands) no_bodies n h = absurd (omega (arith, n))
same_operands inline.Loop (operand_and x no_operands) (body_and b no_bodies) n h = refl
same_operands inline.Loop (operand_and x no_operands) (body_and b (body_and c bs)) n h = absurd (omega (arith, n))
same_operands inline.Loop (operand_and x (operand_and y xs)) bs n h = cc

-- ---- one piece

lead_among : (names leads : List (List ℕ)) (at : List ℕ) → AreAmong names leads → slice_get leads 0 ≡ Some at → IsAmong names at
lead_among names [] at h e = cc
lead_among names (l ∷ leads) at h e = let same : l ≡ at = cc in subst (IsAmong names) same h.0

never_first : (ns : List (List ℕ)) (at child : List ℕ) → slice_get ns 0 ≡ Some at → list_any (bytes_eq child) ns ≡ false → child ≡ at → ⊥
never_first [] at child here none same = cc
never_first (n ∷ ns) at child here none same = let there : list_any (bytes_eq child) (n ∷ ns) ≡ true = any_from_one (n ∷ ns) child (inl (let is : n ≡ at = cc in same ∙ sym is)) in cc

-- the event's own instance isn't what it creates
never_own : (side : Side) (leads : List (List ℕ)) (at child : List ℕ) → is_at_one side ≡ true → AreLeads side leads → slice_get leads 0 ≡ Some at → is_creator (own_scope side) child ≡ false → child ≡ at → ⊥
never_own (in_column name) leads at child one are here none same = never_first (name ∷ []) at child (subst (λ (l : List (List ℕ)). slice_get l 0 ≡ Some at) are here) none same
never_own (behind ns) leads at child one are here none same = never_first ns at child (subst (λ (l : List (List ℕ)). slice_get l 0 ≡ Some at) are here) none same
never_own (behind_all scope) leads at child one are here none same = cc

created : (names : List (List ℕ)) (scope : Scope) (place : Place) (at : List ℕ) (target : Target) → creates_instance kind.Create target ≡ true → AreKnown names (far_notes scope place target) → (far_name target ≡ at → ⊥) → IsChild names at target
created names scope place at Nobody one known other = cc
created names scope place at (Env gate) one known other = cc
created names scope place at (Instance child) one known other = record { child = child; is = refl; among = known.0; other = other }
created names scope place at (Gate name gate) one known other = cc

at_one : (side : Side) (create : Bool) → (is_at_one side && create) ≡ true → (is_at_one side ≡ true) × (create ≡ true)
at_one side create h = (left_test (is_at_one side) create h, right_test (is_at_one side) create h)

module _ (names leads : List (List ℕ)) (s : Standing) (at : List ℕ) (one : is_at_one s.side ≡ true) (are : AreLeads s.side leads) (here : slice_get leads 0 ≡ Some at) (among : AreAmong names leads) where
  child_known : (k : Kind) (place : Place) (target : Target) → k ≡ kind.Create → creates_instance k target ≡ true → AreKnown names (address_notes s.scope place k target) → (is_creation k ≡ true → is_creator (own_scope s.side) (far_name target) ≡ false)
      → IsChild names at target
  child_known k place target creates is known apart =
      created names s.scope place at target (subst (λ (x : Kind). creates_instance x target ≡ true) creates is) (subst (λ (x : Kind). AreKnown names (address_notes s.scope place x target)) creates known)
      (never_own s.side leads at (far_name target) one are here (apart (ap is_creation creates)))

  node_built : (n : ℕ) (e : RawEvent) → is_well_formed_event e ≡ true → AreKnown names (event_notes s.scope e) → IsApartEvent s.side e → IsBuiltNode names (record { number = n; at = at; event = e })
  node_built n e creates known apart =
      (lead_among names leads at among here, λ is. child_known e.kind e.place e.target is creates known apart)

  nodes_built : (n : ℕ) (es : List RawEvent) → are_well_formed_events es ≡ true → AreKnown names (events_notes s.scope es) → AreApartEvents s.side es → AreBuiltNodes names (nodes_from n at es)
  nodes_built n [] create known apart = tt
  nodes_built n (e ∷ es) create known apart =
      let own = event_notes s.scope e in
      let others = events_notes s.scope es in (
        node_built n e (left_test (is_well_formed_event e) (are_well_formed_events es) create) (known_left names own others known) apart.0,
        nodes_built (suc n) es (right_test (is_well_formed_event e) (are_well_formed_events es) create) (known_right names own others known) apart.1,
      )

module _ (names : List (List ℕ)) where
  operands_named : (cover : List (List ℕ)) (k : ℕ) (ps : List Piece) → AreAmong names cover → EachPiece (IsNamedPiece names) ps → EachPiece (IsNamedPiece names) (operands_of cover k ps)
  operands_named cover k ps c h = parts_operands (IsNamedPiece names) cover k ps (λ p g. of_are names cover k p p.form g.standing c g g.are g.inside) h

  -- what the passage of a piece of that form says, where it stands in the text
  said : (p : Piece) (f : Form) → p.form ≡ f → (h : IsNamedPiece names p) → IsNamed names (an_item h.standing p.place f)
  said p f is h = subst (λ (x : Form). IsNamed names (an_item h.standing p.place x)) is h.here

  mutual
    body_built : {cover : List (List ℕ)} {ps : List Piece} (b : Body) → AreAmong names cover → EachPiece (IsNamedPiece names) ps → IsWovenLevel cover ps b → IsBuiltBody names b
    body_built {ps = ps} _ c h (woven {held = held} o w p) = items_built (level_items ps) held c (level_each (IsNamedPiece names) ps h) w

    items_built : {cover : List (List ℕ)} {order : List ℕ} (all : List (List Piece)) (xs : WovenItems) → AreAmong names cover → EachOfAll (IsNamedPiece names) all → AreWovenItems cover all order xs → AreBuiltItems names xs
    items_built all _ c h (no_woven) = tt
    items_built all _ c h (woven_and {x = i} {parts = parts} {item = x} {held = xs} at w k) = (item_built x c (parts_each (IsNamedPiece names) all i parts h at) w, items_built all xs c h k)

    item_built : {cover : List (List ℕ)} {parts : List Piece} (x : WovenItem) → AreAmong names cover → EachPiece (IsNamedPiece names) parts → IsWovenItem cover parts x → IsBuiltItem names x
    item_built _ c h (an_event {p = p} {at = at} {e = e} is here) =
        let (known, formed, apart) = said p (tree.Single e) is h.0 in
        let (one, creates) = at_one h.0.standing.side (is_well_formed_event e) formed in
        node_built names p.leads h.0.standing at one h.0.are here h.0.leads p.first e creates known apart
    item_built _ c h (a_coregion {p = p} {at = at} {es = es} is here) =
        let (known, formed, apart) = said p (tree.Coregion es) is h.0 in
        let (one, create) = at_one h.0.standing.side (are_well_formed_events es) formed in
        nodes_built names p.leads h.0.standing at one h.0.are here h.0.leads p.first es create known apart
    item_built _ c h (an_inline {cover = cover} {p = p} {ps = ps} {head = head} {operands = operands} {held = held} is w) =
        (same_operands head.form operands held (woven_number held w) (said p (tree.Inline head operands) is h.0).1, operands_built held (cover_among names cover p c h.0) h w)
    item_built _ c h (a_reference {p = p} {r = r} is) = (said p (tree.Refer r) is h.0).1

    operands_built : {cover : List (List ℕ)} {parts : List Piece} {k count : ℕ} (bs : Bodies) → AreAmong names cover → EachPiece (IsNamedPiece names) parts → AreWovenOperands cover parts k count bs → AreBuiltBodies names bs
    operands_built _ c h (no_woven_operand) = tt
    operands_built _ c h (woven_operand_and {cover = cover} {parts = parts} {k = k} {body = b} {others = bs} w g) = (body_built b c (operands_named cover k parts c h) w, operands_built bs c h g)

-- ---- a chart

chart_built : (c : Chart) (held : List Statement) (b : Body) → c.content ≡ Basic held → IsWellFormed c → ((p : Place) → ChartNamesOther c p → ⊥) → ((p : Place) → ChartCreatesTwice c p → ⊥)
    → IsWovenLevel (instances c) (statements_pieces (instances c) 0 (statements held)) b → IsBuiltBody (instances c) b
chart_built c held b is formed none apart w =
    let all = all_among (instances c) in
    body_built (instances c) b all (chart_named c held (instances c) is formed none apart all) w

pub built_charts_are_known : BuiltChartsAreKnown
built_charts_are_known = record { built = chart_built }
