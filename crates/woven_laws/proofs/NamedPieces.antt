-- The pieces of a chart that names no others: they stand at instances of the chart, at any depth, and so do those that their events create.
use Rattle.std.proofs.Common.{◌≡◌, ℕ, zero, suc, ◌+◌, Bool, true, false, cond, List, [], ◌∷◌, Option, Some, None, map, nat_eq, refl, subst}
use Rattle.std.specs.List.{flat_map}
use Rattle.chart_text.proofs.StandingLaws.{each_left, each_right}
use Rattle.chart_text.specs.Texts.{Standing, Passage, Scope, Whole, Side, a_head, a_statement, an_item, an_operand, behind, behind_all, behind_colon, chart_text, content_text, form_text, in_column, inside, items_text, operand_held, operands_text, statement_held, statements_text}
use Rattle.chart_text.specs.WellFormed.{Each, IsWellFormed, is_well_formed}
use Rattle.creation_rules.specs.Creating.{ChartCreatesTwice}
use Rattle.level_pieces.proofs.PieceTexts.{pieces_behind}
use Rattle.level_pieces.specs.FormedPieces.{EachPiece}
use Rattle.msc_base.specs.Lists.{IsAmong}
use Rattle.msc_base.specs.declared.place.Place.{Place}
use Rattle.msc_instances.specs.Instances.{instances}
use Rattle.msc_instances.specs.NameFaults.{ChartNamesOther}
use Rattle.msc_instances.specs.Notes.{left_notes, passage_notes, used_notes}
use Rattle.msc_meaning.specs.LevelItems.{cover_by, cover_of, is_in, shared_of, within}
use Rattle.msc_meaning.specs.Pieces.{Piece, form_count, items_pieces, operand_at, operand_count, operand_of, operand_pieces, statement_count, statement_pieces, statements_pieces}
use Rattle.msc_tree.specs.Charts.{Chart, Content, Basic}
use Rattle.msc_tree.specs.Statements.{Form, Single, Coregion, Condition, Inline, Refer, Stop, placed, Items, no_items, item_and, Operand, InColumn, Outside, Operands, no_operands, operand_and, Statement, Column, Covered, Heading, Ended, Statements, no_statements, statement_and, statements}
use Rattle.msc_tree.specs.declared.chart.Cover.{Cover}
use Rattle.msc_tree.specs.declared.chart.Cover.TheVariants.{All, Listed}
use Rattle.woven_laws.proofs.Creations.{IsApart, chart_apart}
use Rattle.woven_laws.proofs.Declaring.{AreAmong, AreKnown, chart_known, declared_known, known_left, known_right, named_known}

-- these stand left of a colon or are the column, where it isn't `all`
abbrev pub AreLeads : Side → List (List ℕ) → Type 0
AreLeads (in_column name) leads = leads ≡ name ∷ []
AreLeads (behind names) leads = leads ≡ names
AreLeads (behind_all scope) leads = Unit {0}

module _ (names : List (List ℕ)) where
  -- what the passage declares and names is among the instances; it is well formed, and creates no instance at which it stands
  abbrev pub IsNamed : Passage → Type 0
  IsNamed p = AreKnown names (passage_notes p) × (is_well_formed p ≡ true) × IsApart p

  abbrev pub IsColumn : Option (List ℕ) → Type 0
  IsColumn None = Unit {0}
  IsColumn (Some i) = IsAmong names i

  -- a piece, with the standing that it has in the text
  pub record IsNamedPiece (p : Piece) : Type 0 where
    pub column : IsColumn p.column
    pub leads : AreAmong names p.leads
    pub standing : Standing
    pub are : AreLeads standing.side p.leads
    pub here : IsNamed (an_item standing p.place p.form)
    pub inside : Each IsNamed (form_text standing p.form)

  items_are : (s : Standing) (column : Option (List ℕ)) (leads : List (List ℕ)) (n : ℕ) (xs : Items) → IsColumn column → AreAmong names leads → AreLeads s.side leads → Each IsNamed (items_text s xs) → EachPiece IsNamedPiece (items_pieces column leads n xs)
  items_are s column leads n no_items i l a h = tt
  items_are s column leads n (item_and (placed place f) xs) i l a h =
      let own = each_left IsNamed (an_item s place f ∷ form_text s f) (items_text s xs) h in
      let rest = each_right IsNamed (an_item s place f ∷ form_text s f) (items_text s xs) h in
      (record { column = i; leads = l; standing = s; are = a; here = own.0; inside = own.1 }, items_are s column leads (n + form_count f) xs i l a rest)

  -- where something stands behind the colon
  left_known : (outermost : Bool) (scope : Scope) (ns : List (List ℕ)) (place : Place) (f : Form) (xs : Items) → AreKnown names (left_notes outermost scope (Listed ns) (item_and (placed place f) xs)) → AreAmong names ns
  left_known true scope ns place f xs h = declared_known names ns h
  left_known false scope ns place f xs h = named_known names scope place ns h

  left_are : (m : ℕ) (v : Scope) (ns : List (List ℕ)) (n : ℕ) (xs : Items) → AreKnown names (left_notes (nat_eq m 0) v (Listed ns) xs) → Each IsNamed (items_text (record { depth = m; side = behind ns; scope = v }) xs) → EachPiece IsNamedPiece (items_pieces None ns n xs)
  left_are m v ns n no_items k h = tt
  left_are m v ns n (item_and (placed place f) xs) k h = items_are (record { depth = m; side = behind ns; scope = v }) None ns n (item_and (placed place f) xs) tt (left_known (nat_eq m 0) v ns place f xs k) refl h

  statement_are : (m : ℕ) (v : Scope) (cover : List (List ℕ)) (n : ℕ) (x : Statement) → AreAmong names cover → IsNamed (a_statement m v x) → Each IsNamed (statement_held m v x) → EachPiece IsNamedPiece (statement_pieces cover n x)
  statement_are m v cover n (Column decl held) c k h = items_are (record { depth = m; side = in_column decl.name; scope = v }) (Some decl.name) (decl.name ∷ []) n held k.0.0 (k.0.0, tt) refl h
  statement_are m v cover n (Covered All held) c k h = items_are (record { depth = m; side = behind_colon v All; scope = v }) None cover n held tt c tt h
  statement_are m v cover n (Covered (Listed ns) held) c k h = left_are m v ns n held k.0 h
  statement_are m v cover n (Heading decl) c k h = tt
  statement_are m v cover n (Ended name) c k h = tt

  statements_are : (m : ℕ) (v : Scope) (cover : List (List ℕ)) (n : ℕ) (xs : Statements) → AreAmong names cover → Each IsNamed (statements_text m v xs) → EachPiece IsNamedPiece (statements_pieces cover n xs)
  statements_are m v cover n no_statements c h = tt
  statements_are m v cover n (statement_and x xs) c h =
      let own = each_left IsNamed (a_statement m v x ∷ statement_held m v x) (statements_text m v xs) h in
      let rest = each_right IsNamed (a_statement m v x ∷ statement_held m v x) (statements_text m v xs) h in
      pieces_behind IsNamedPiece (statement_pieces cover n x) (statements_pieces cover (n + statement_count x) xs) (statement_are m v cover n x c own.0 own.1) (statements_are m v cover (n + statement_count x) xs c rest)

  -- ---- those of an operand

  operand_are : (cover : List (List ℕ)) (p : Piece) (s : Standing) (n : ℕ) (x : Operand) → AreAmong names cover → IsNamedPiece p → AreLeads s.side p.leads → Each IsNamed (operand_held s x) → EachPiece IsNamedPiece (operand_pieces cover p n x)
  operand_are cover p s n (InColumn held) c known a h = items_are s p.column p.leads n held known.column known.leads a h
  operand_are cover p s n (Outside held) c known a h = statements_are s.depth s.scope cover n held c h

  at_are : (cover : List (List ℕ)) (p : Piece) (s : Standing) (n k : ℕ) (xs : Operands) → AreAmong names cover → IsNamedPiece p → AreLeads s.side p.leads → Each IsNamed (operands_text s xs) → EachPiece IsNamedPiece (operand_at cover p n k xs)
  at_are cover p s n k no_operands c known a h = tt
  at_are cover p s n zero (operand_and x xs) c known a h = let own = each_left IsNamed (an_operand s x ∷ operand_held s x) (operands_text s xs) h in operand_are cover p s n x c known a own.1
  at_are cover p s n (suc k) (operand_and x xs) c known a h = at_are cover p s (n + operand_count x) k xs c known a (each_right IsNamed (an_operand s x ∷ operand_held s x) (operands_text s xs) h)

  pub of_are : (cover : List (List ℕ)) (k : ℕ) (p : Piece) (f : Form) (s : Standing) → AreAmong names cover → IsNamedPiece p → AreLeads s.side p.leads → Each IsNamed (form_text s f) → EachPiece IsNamedPiece (operand_of cover k p f)
  of_are cover k p (Inline head held) s c known a h = at_are cover p (inside s head.shared) p.first k held c known a h
  of_are cover k p (Single e) s c known a h = tt
  of_are cover k p (Coregion es) s c known a h = tt
  of_are cover k p (Condition shared ns) s c known a h = tt
  of_are cover k p (Refer r) s c known a h = tt
  of_are cover k p Stop s c known a h = tt

  -- ---- what an inline expression covers

  within_among : (cover ns : List (List ℕ)) → AreAmong names cover → AreAmong names (within cover ns)
  within_among [] ns c = tt
  within_among (i ∷ cover) ns c = by (is_in ns i) (within_among cover ns c.1)
    where
      by : (b : Bool) → AreAmong names (within cover ns) → AreAmong names (cond b (i ∷ within cover ns) (within cover ns))
      by true rest = (c.0, rest)
      by false rest = rest

  by_among : (cover leads : List (List ℕ)) (column : Option (List ℕ)) (shared : Option Cover) → AreAmong names cover → IsColumn column → AreAmong names (cover_by cover leads column shared)
  by_among cover leads None shared c i = within_among cover leads c
  by_among cover leads (Some at) None c i = (i, tt)
  by_among cover leads (Some at) (Some All) c i = c
  by_among cover leads (Some at) (Some (Listed [])) c i = (i, tt)
  by_among cover leads (Some at) (Some (Listed (j ∷ js))) c i = within_among cover (j ∷ js) c

  pub cover_among : (cover : List (List ℕ)) (p : Piece) → AreAmong names cover → IsNamedPiece p → AreAmong names (cover_of cover p)
  cover_among cover p c known = by_among cover p.leads p.column (shared_of p.form) c known.column

-- ---- a chart

each_named : (names : List (List ℕ)) (text : List Passage) → AreKnown names (flat_map passage_notes text) → Each (λ p. is_well_formed p ≡ true) text → Each IsApart text → Each (IsNamed names) text
each_named names [] known formed apart = tt
each_named names (p ∷ text) known formed apart =
    let notes = flat_map passage_notes text in
    ((known_left names (passage_notes p) notes known, formed.0, apart.0), each_named names text (known_right names (passage_notes p) notes known) formed.1 apart.1)

-- the pieces of a chart that names no others and creates none that may not be
pub chart_named : (c : Chart) (held : List Statement) (cover : List (List ℕ)) → c.content ≡ Basic held → IsWellFormed c → ((p : Place) → ChartNamesOther c p → ⊥) → ((p : Place) → ChartCreatesTwice c p → ⊥)
    → AreAmong (instances c) cover → EachPiece (IsNamedPiece (instances c)) (statements_pieces cover 0 (statements held))
chart_named c held cover is formed none apart within =
    let names = instances c in
    let known : AreKnown names (flat_map passage_notes (chart_text c)) = subst (λ (x : Content). AreKnown names (used_notes x (flat_map passage_notes (chart_text c)))) is (chart_known c none) in
    let all = each_right (IsNamed names) (map a_head c.decls) (content_text c.content) (each_named names (chart_text c) known formed (chart_apart c apart)) in
    statements_are names 0 Whole cover 0 (statements held) within (subst (λ (x : Content). Each (IsNamed names) (content_text x)) is all)
