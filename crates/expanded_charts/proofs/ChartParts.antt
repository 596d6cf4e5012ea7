-- Basic charts and expressions as parts.
use Rattle.std.proofs.Common.{◌≡◌, ◌∙◌, ◌-◌, ◌+◌, ◌<◌, ℕ, zero, suc, List, [], ◌∷◌, ◌++◌, Option, Some, None, refl, sym, subst, ap, map, arith, get_or, length, take}
use Rattle.std.proofs.lemmas.List.{map-append, take_more}
use Rattle.std.specs.Global.{Global}
use Rattle.std.specs.declared.vec.Vec.{Vec}
use Rattle.msc_base.specs.declared.label.Far.{Far}
use Rattle.msc_base.specs.declared.label.Label.{Label}
use Rattle.msc_base.specs.declared.label.Pair.{Pair}
use Rattle.msc_unfolding.specs.Unfoldings.{Tag, past_level}
use Rattle.msc_tree.specs.Expressions.{Expression, expressions}
use Rattle.msc_tree.specs.Expressions as expression
use Rattle.msc_tree.specs.Views.{expression_step, expression_view}
use Rattle.msc_tree.specs.declared.expression.RefExpr.{RefExpr, fold-roll-RefExpr}
use Rattle.msc_tree.specs.declared.expression.RefExpr.TheOpen.{RefExpr-F}
use Rattle.msc_tree.specs.declared.expression.RefExpr.TheVariants as raw
use Rattle.msc_meaning.specs.Bodies.{EventNode, Body, level, WovenItems}
use Rattle.msc_meaning.specs.Calls.{calls}
use Rattle.msc_meaning.specs.ChartUnfoldings.{gates_of, refined_under, under}
use Rattle.msc_meaning.specs.FarEnds.{Around, GateMap, Gates, far_end, no_gates}
use Rattle.msc_meaning.specs.InnerEvents.{GateEnd}
use Rattle.msc_meaning.specs.Refinements.{Refining, refining, refinings}
use Rattle.msc_meaning.specs.Tables.{Table, ChartEntry, chart_at, Woven, Basic, Refinement, refinements}
use Rattle.msc_meaning.specs.Ties.{event_ties, items_joins_ties, level_pairs, own_ties}
use Rattle.gate_ends.specs.FoundEnds.{table_ends}
use Rattle.expansion_tree.specs.Expansions.{events_in}
use Rattle.expansion_tree.specs.Views.{expansion_view}
use Rattle.expanded_charts.specs.Expanding.{Expanded, ExpandedParts, aside, expand_woven, expansion, in_row, nothing, past, put, tied}
use Rattle.level_surroundings.specs.GateWays.{way_step, ways_step, ways_view}
use Rattle.expanded_charts.specs.Making.{AreMade, IsAdded, IsMade, add, chart_part, charts, items_parts, level_part}
use Rattle.level_surroundings.specs.TableEnds.{ends_in}
use Rattle.expanded_charts.specs.RefinedMaking.{beside_parts, left_parts, refined_part, refining_part, refinings_parts, tied_part, woven_part}
use Rattle.level_surroundings.specs.RefiningViews.{refining_view, refinings_view}
use Rattle.expanded_charts.specs.Numbering.{numbered_by, numbering_of, with_events}
use Rattle.expanded_charts.specs.declared.made.Made.{Made}
use Rattle.expanded_charts.specs.declared.made.MadeParts.{MadeParts}
use Rattle.expanded_charts.specs.declared.numbering.Numbering.{Numbering}
use Rattle.level_surroundings.specs.declared.refining.Refining as rust_refining
use Rattle.level_surroundings.specs.declared.ways.Ways.{fold-roll-Ways}
use Rattle.level_surroundings.specs.declared.ways.Ways.TheOpen.{Ways-F}
use Rattle.level_surroundings.specs.declared.ways.Ways.TheVariants as raw_ways
use Rattle.expanded_charts.proofs.EventParts.{one_more, put_add}
use Rattle.expanded_charts.proofs.Loops.{one_more as part_more}
use Rattle.expanded_charts.proofs.Making.{extends_self}

-- ---- charts

module _ (table : Table) (gates : GateMap) (n : ℕ) (name : List ℕ) where
  pub no_depth : (depth : ℕ) → depth ≡ 0 → chart_part table depth gates n name ≡ in_row (nothing n)
  no_depth depth e = ap (λ d. chart_part table d gates n name) e

  pub no_chart : (depth : ℕ) → (depth ≡ 0 → ⊥) → chart_at table name ≡ None → chart_part table depth gates n name ≡ in_row (nothing n)
  no_chart zero some none = absurd (some refl)
  no_chart (suc k) some none = rw none refl

  pub chart_woven : (depth : ℕ) (c : ChartEntry) (b : Body) → (depth ≡ 0 → ⊥) → chart_at table name ≡ Some c → c.content ≡ Basic b → chart_part table depth gates n name ≡ woven_part table (depth - 1) gates n (refinements c.decls) b
  chart_woven zero c b some at is = absurd (some refl)
  chart_woven (suc k) c b some at is =
      let less : suc k - 1 ≡ k = omega arith in
      (rw at (ap (λ (w : Woven). expand_woven (charts table k) (ends_in table) table gates n (refinements c.decls) w) is)) ∙ ap (λ d. woven_part table d gates n (refinements c.decls) b) (sym less)

-- without decomposed instances a chart is its level
pub woven_level : (table : Table) (depth : ℕ) (gates : GateMap) (n : ℕ) (rs : List Refinement) (b : Body) → rs ≡ [] → woven_part table depth gates n rs b ≡ level_part table depth (under gates) n b
woven_level table depth gates n rs b none = ap (λ (l : List Refinement). woven_part table depth gates n l b) none

pub woven_refined : (table : Table) (depth : ℕ) (gates : GateMap) (n : ℕ) (rs : List Refinement) (b : Body) → (rs ≡ [] → ⊥) → woven_part table depth gates n rs b ≡ refined_part table depth gates n rs b
woven_refined table depth gates n [] b some = absurd (some refl)
woven_refined table depth gates n (r ∷ rs) (level cover held pairs) some = refl

pub nowhere_is : ways_view raw_ways.Nowhere ≡ no_gates
nowhere_is = ap ways_view (sym raw_ways.rolls-Nowhere) ∙ fold-roll-Ways GateMap GateMap ways_step way_step Ways-F.Nowhere

ends_are : (table : Table) → ends_in table ≡ table_ends table
unfolding ends_in
ends_are table = refl

-- the whole expansion, whose gates lead nowhere
module _ (table : Table) (depth : ℕ) (name : List ℕ) (empty new : Numbering) (made : Made) (none : empty.names ≡ []) (also_none : empty.labels ≡ []) (h : IsMade empty new (chart_part table depth no_gates 0 name) made) where
  pub whole_numbering : new ≡ numbering_of (expansion (table_ends table) table depth name)
  whole_numbering =
      let start : empty ≡ record { names = []; labels = [] } =
      ap (λ (l : List (List ℕ)). let s : Numbering = record { names = l; labels = empty.labels } in s) none ∙ ap (λ (l : List Label). let s : Numbering = record { names = []; labels = l } in s) also_none in
      h.seen ∙ (ap (λ (s : Numbering). with_events s (events_in (expansion (ends_in table) table depth name))) start ∙ ap (λ (ends : WovenItems → List GateEnd). numbering_of (expansion ends table depth name)) (ends_are table))

  pub whole_expansion : expansion_view made.part ≡ numbered_by (numbering_of (expansion (table_ends table) table depth name)) (expansion (table_ends table) table depth name)
  whole_expansion =
      h.part new (extends_self new) ∙ (ap (λ (s : Numbering). numbered_by s (expansion (ends_in table) table depth name)) whole_numbering
      ∙ ap (λ (ends : WovenItems → List GateEnd). numbered_by (numbering_of (expansion (table_ends table) table depth name)) (expansion ends table depth name)) (ends_are table))

-- ---- levels

pub level_is : (table : Table) (depth : ℕ) (around : Around) (n : ℕ) (b : Body) → level_part table depth around n b ≡ past past_level (tied_part table depth around n b)
level_is table depth around n (level cover held pairs) = refl

pub tied_is : (table : Table) (depth : ℕ) (around : Around) (n : ℕ) (cover : List (List ℕ)) (held : WovenItems) (pairs : List Pair) → tied_part table depth around n (level cover held pairs)
    ≡ tied (own_ties (level_pairs held pairs) ++ (event_ties (calls held) ++ items_joins_ties (ends_in table held) held)) (in_row (items_parts table depth (gates_of held (ends_in table held)) around n held))
tied_is table depth around n cover held pairs = refl

-- ---- refined charts

module _ (table : Table) (depth n : ℕ) (rs : List Refinement) where
  -- a refined chart, by what the code has of it
  abbrev pub refined_form : List Pair → List (Tag × Tag) → Gates → Around → WovenItems → List Refining → Expanded
  refined_form ps ts called around held refined = past past_level (tied (own_ties ps ++ ts) (aside (beside_parts table depth called around n rs held refined)))

  pub refined_is : (gates : GateMap) (cover : List (List ℕ)) (held : WovenItems) (pairs : List Pair) → refined_part table depth gates n rs (level cover held pairs)
      ≡ refined_form (level_pairs held pairs) (event_ties (calls held) ++ items_joins_ties (ends_in table held) held) (gates_of held (ends_in table held)) (refined_under gates pairs (refinings table held rs)) held (refinings table held rs)
  refined_is gates cover held pairs = refl

  pub same_form : (ps qs : List Pair) (ts us : List (Tag × Tag)) (c d : Gates) (a b : Around) (held : WovenItems) (fs gs : List Refining) → ps ≡ qs → ts ≡ us → c ≡ d → a ≡ b → fs ≡ gs
      → refined_form ps ts c a held fs ≡ refined_form qs us d b held gs
  same_form ps qs ts us c d a b held fs gs e f g h k =
      ap (λ (l : List Pair). refined_form l ts c a held fs) e ∙ (ap (λ (l : List (Tag × Tag)). refined_form qs l c a held fs) f
      ∙ (ap (λ (l : Gates). refined_form qs us l a held fs) g ∙ (ap (λ (l : Around). refined_form qs us d l held fs) h ∙ ap (λ (l : List Refining). refined_form qs us d b held l) k)))

module _ (table : Table) (depth : ℕ) (far_of : EventNode → Far) where
  refinings_snoc : (n : ℕ) (rs : List Refining) (r : Refining) → refinings_parts table depth far_of n (rs ++ r ∷ []) ≡ add (refinings_parts table depth far_of n rs) (refining_part table depth far_of (refinings_parts table depth far_of n rs).next r)
  refinings_snoc n [] (refining (level cover held pairs) ms) = one_more n (refining_part table depth far_of n (refining (level cover held pairs) ms))
  refinings_snoc n (refining (level cover held pairs) ms ∷ rs) r =
      let first = refining_part table depth far_of n (refining (level cover held pairs) ms) in
      ap (put first) (refinings_snoc first.next rs r) ∙ put_add first (refinings_parts table depth far_of first.next rs) (refining_part table depth far_of (refinings_parts table depth far_of first.next rs).next r)

-- a refining chart behind what is left and those before it
module _ (table : Table) (depth : ℕ) (called : Gates) (around : Around) (n : ℕ) (rs : List Refinement) (held : WovenItems) where
  pub beside_none : (old new : Numbering) (was parts : MadeParts) (made : Made) → AreMade old old (nothing n) was → IsMade old new (in_row (left_parts table depth called around n rs held)) made → IsAdded was made parts
      → AreMade old new (beside_parts table depth called around n rs held []) parts
  beside_none old new was parts made h one added =
      let e = in_row (left_parts table depth called around n rs held) in
      subst (λ (ps : ExpandedParts). AreMade old new ps parts) (sym (one_more n e)) (added old old new (nothing n) e h one)

  pub beside_more : (old mid new : Numbering) (xs : List rust_refining.Refining) (i : ℕ) (x : rust_refining.Refining) (was parts : MadeParts) (made : Made) → i < length xs → x ≡ get_or xs i x
      → AreMade old mid (beside_parts table depth called around n rs held (refinings_view (take i xs))) was → IsMade mid new (refining_part table depth (far_end called.ends around) was.next (refining_view x)) made → IsAdded was made parts
      → AreMade old new (beside_parts table depth called around n rs held (refinings_view (take (i + 1) xs))) parts
  beside_more old mid new xs i x was parts made low is h one added =
      let left = in_row (left_parts table depth called around n rs held) in
      let far_of = far_end called.ends around in
      let before = refinings_view (take i xs) in
      let listed : refinings_view (take (i + 1) xs) ≡ before ++ refining_view x ∷ [] = ap refinings_view (take_more xs i x low ∙ ap (λ (y : rust_refining.Refining). take i xs ++ y ∷ []) (sym is)) ∙ map-append refining_view (take i xs) (x ∷ []) in
      let whole : put left (refinings_parts table depth far_of left.next (before ++ refining_view x ∷ [])) ≡ add (beside_parts table depth called around n rs held before) (refining_part table depth far_of (beside_parts table depth called around n rs held before).next (refining_view x)) =
      ap (put left) (refinings_snoc table depth far_of left.next before (refining_view x)) ∙ put_add left (refinings_parts table depth far_of left.next before) (refining_part table depth far_of (refinings_parts table depth far_of left.next before).next (refining_view x)) in
      subst (λ (l : List Refining). AreMade old new (beside_parts table depth called around n rs held l) parts) (sym listed)
      (subst (λ (ps : ExpandedParts). AreMade old new ps parts) (sym whole)
      (part_more old mid new (beside_parts table depth called around n rs held before) (λ m. refining_part table depth far_of m (refining_view x)) was made parts h one added))

-- ---- expressions

pub empty_is : expression_view raw.Empty ≡ expression.Empty
empty_is = ap expression_view (sym raw.rolls-Empty) ∙ fold-roll-RefExpr Expression expression_step RefExpr-F.Empty

pub alt_is : (parts : Vec RefExpr Global) → expression_view (raw.Alt parts) ≡ expression.Alt (expressions (map expression_view parts.items))
alt_is parts = ap expression_view (sym (raw.rolls-Alt parts)) ∙ fold-roll-RefExpr Expression expression_step (RefExpr-F.Alt parts)

pub par_is : (parts : Vec RefExpr Global) → expression_view (raw.Par parts) ≡ expression.Par (expressions (map expression_view parts.items))
par_is parts = ap expression_view (sym (raw.rolls-Par parts)) ∙ fold-roll-RefExpr Expression expression_step (RefExpr-F.Par parts)

pub seq_is : (parts : Vec RefExpr Global) → expression_view (raw.Seq parts) ≡ expression.Seq (expressions (map expression_view parts.items))
seq_is parts = ap expression_view (sym (raw.rolls-Seq parts)) ∙ fold-roll-RefExpr Expression expression_step (RefExpr-F.Seq parts)

pub opt_is : (part : _) → expression_view (raw.Opt part) ≡ expression.Opt (expression_view part.value)
opt_is part = ap expression_view (sym (raw.rolls-Opt part)) ∙ fold-roll-RefExpr Expression expression_step (RefExpr-F.Opt part)

pub loop_is : (lower : ℕ) (upper : Option ℕ) (part : _) → expression_view (raw.Loop lower upper part) ≡ expression.Loop lower upper (expression_view part.value)
loop_is lower upper part = ap expression_view (sym (raw.rolls-Loop lower upper part)) ∙ fold-roll-RefExpr Expression expression_step (RefExpr-F.Loop lower upper part)
