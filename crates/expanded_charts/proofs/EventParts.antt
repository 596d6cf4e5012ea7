-- Events as parts, and parts one behind another.
use Rattle.std.proofs.Common.{◌≡◌, ◌∙◌, ℕ, suc, ◌+◌, List, [], ◌∷◌, ◌++◌, Some, None, sym, ap, map, append-nil, append_assoc, arith}
use Rattle.msc_base.specs.declared.label.Pair.{Pair}
use Rattle.msc_unfolding.specs.Unfoldings.{Tag}
use Rattle.msc_tree.specs.Expressions.{Expression, more, none}
use Rattle.msc_tree.specs.Expressions as expression
use Rattle.msc_tree.specs.declared.event.Target.{Target}
use Rattle.msc_tree.specs.declared.event.Target.TheVariants.{Nobody, Env, Instance, Gate}
use Rattle.msc_meaning.specs.Bodies.{EventNode, Body, WovenItem, items, bodies}
use Rattle.msc_meaning.specs.FarEnds.{Around, GateMap, Gates, gate_tags, happening}
use Rattle.msc_meaning.specs.Tables.{Table}
use Rattle.expansion_tree.specs.Expansions as plain
use Rattle.expansion_tree.specs.Views.{expansion_view}
use Rattle.expansion_tree.specs.declared.tree.ExpandedEvent.{ExpandedEvent}
use Rattle.expansion_tree.specs.declared.tree.Expansion.TheVariants as tree
use Rattle.expansion_tree.proofs.ViewFacts.{event_is}
use Rattle.expanded_charts.specs.Expanding.{Expanded, ExpandedParts, put}
use Rattle.expanded_charts.specs.Making.{IsMade, IsNumbered, add, event_part, events_parts, expression_part, expressions_parts, item_part, items_parts, level_part, operands_parts}
use Rattle.expanded_charts.specs.ShownGates.{gates_view}
use Rattle.expanded_charts.specs.declared.made.Made.{Made}
use Rattle.expanded_charts.specs.declared.numbering.Numbering.{Numbering}
use Rattle.expanded_charts.proofs.ShownFacts.{AreGates, no_gates, one_gate}

-- ---- an event

tags_are_gates : (t : Target) → AreGates (gate_tags t)
tags_are_gates Nobody = no_gates
tags_are_gates (Env None) = no_gates
tags_are_gates (Env (Some g)) = one_gate g
tags_are_gates (Instance name) = no_gates
tags_are_gates (Gate name gate) = no_gates

pub event_made : (level : Gates) (around : Around) (old new : Numbering) (k : ℕ) (n : EventNode) (x : ExpandedEvent) (made : Made)
    → IsNumbered old new (record { number = k; happening = happening level.ends around n }) x → made.part ≡ tree.Event x → made.own ≡ record { first = k; second = n.number } ∷ []
    → gates_view made.gates.items ≡ map (λ (a : Tag). (k, a)) (gate_tags n.event.target) → made.next ≡ k + 1 → IsMade old new (event_part level around k n) made
event_made level around old new k n x made h is own at next =
    let tags = tags_are_gates n.event.target in
    record {
      extends = h.extends;
      seen = h.seen;
      part = λ later ext. ap expansion_view is ∙ (event_is x ∙ ap (λ e. plain.Event e) (h.are later ext));
      own = own ∙ ap (λ (ps : List Pair). record { first = k; second = n.number } ∷ ps) (sym (tags.own k));
      gates = at ∙ sym (tags.gates k);
      next = next ∙ (let p : k + 1 ≡ suc k = omega arith in p);
    }

-- ---- one behind another

pub put_add : (y : Expanded) (ps : ExpandedParts) (e : Expanded) → put y (add ps e) ≡ add (put y ps) e
put_add y ps e = ap (λ sh. let r : ExpandedParts = record { parts = plain.part_and y.part ((add ps e).parts); shown = sh; next = e.next } in r) (sym (append_assoc y.shown ps.shown e.shown))

pub one_more : (n : ℕ) (e : Expanded) → put e (record { parts = plain.no_parts; shown = []; next = e.next }) ≡ add (record { parts = plain.no_parts; shown = []; next = n }) e
one_more n e = ap (λ sh. let r : ExpandedParts = record { parts = plain.part_and e.part plain.no_parts; shown = sh; next = e.next } in r) (append-nil e.shown)

module _ (table : Table) (depth : ℕ) (level : Gates) (around : Around) where
  pub events_snoc : (n : ℕ) (ks : List EventNode) (k : EventNode) → events_parts table depth level around n (ks ++ k ∷ []) ≡ add (events_parts table depth level around n ks) (event_part level around (events_parts table depth level around n ks).next k)
  events_snoc n [] k = one_more n (event_part level around n k)
  events_snoc n (j ∷ ks) k =
      let first = event_part level around n j in
      ap (put first) (events_snoc first.next ks k) ∙ put_add first (events_parts table depth level around first.next ks) (event_part level around (events_parts table depth level around first.next ks).next k)

  pub items_snoc : (n : ℕ) (xs : List WovenItem) (x : WovenItem) → items_parts table depth level around n (items (xs ++ x ∷ [])) ≡ add (items_parts table depth level around n (items xs)) (item_part table depth level around (items_parts table depth level around n (items xs)).next x)
  items_snoc n [] x = one_more n (item_part table depth level around n x)
  items_snoc n (y ∷ xs) x =
      let first = item_part table depth level around n y in
      ap (put first) (items_snoc first.next xs x) ∙ put_add first (items_parts table depth level around first.next (items xs)) (item_part table depth level around (items_parts table depth level around first.next (items xs)).next x)

module _ (table : Table) (depth : ℕ) (around : Around) where
  pub operands_snoc : (n : ℕ) (bs : List Body) (b : Body) → operands_parts table depth around n (bodies (bs ++ b ∷ [])) ≡ add (operands_parts table depth around n (bodies bs)) (level_part table depth around (operands_parts table depth around n (bodies bs)).next b)
  operands_snoc n [] b = one_more n (level_part table depth around n b)
  operands_snoc n (c ∷ bs) b =
      let first = level_part table depth around n c in
      ap (put first) (operands_snoc first.next bs b) ∙ put_add first (operands_parts table depth around first.next (bodies bs)) (level_part table depth around (operands_parts table depth around first.next (bodies bs)).next b)

module _ (table : Table) (depth : ℕ) (gates : GateMap) where
  pub expressions_snoc : (n : ℕ) (es : List Expression) (e : Expression) → expressions_parts table depth gates n (expression.expressions (es ++ e ∷ []))
      ≡ add (expressions_parts table depth gates n (expression.expressions es)) (expression_part table depth gates (expressions_parts table depth gates n (expression.expressions es)).next e)
  expressions_snoc n [] e = one_more n (expression_part table depth gates n e)
  expressions_snoc n (d ∷ es) e =
      let first = expression_part table depth gates n d in
      ap (put first) (expressions_snoc first.next es e) ∙ put_add first (expressions_parts table depth gates first.next (expression.expressions es)) (expression_part table depth gates (expressions_parts table depth gates first.next (expression.expressions es)).next e)
