-- Lists gone through from the first to the last: one part more for each.
use Rattle.std.proofs.Common.{◌≡◌, ◌∙◌, ◌<◌, ◌≤◌, ◌+◌, ℕ, zero, suc, List, [], ◌∷◌, ◌++◌, refl, sym, subst, ap, get_or, length, map, take, arith}
use Rattle.std.proofs.lemmas.List.{map-append, take_more}
use Rattle.msc_tree.specs.Expressions.{expressions}
use Rattle.msc_tree.specs.Views.{expression_view}
use Rattle.msc_tree.specs.declared.expression.RefExpr.{RefExpr}
use Rattle.msc_meaning.specs.Bodies.{EventNode, Body, WovenItem, items, bodies}
use Rattle.msc_meaning.specs.FarEnds.{Around, GateMap, Gates}
use Rattle.msc_meaning.specs.ItemViews.{bodies_view, items_view}
use Rattle.msc_meaning.specs.Tables.{Table}
use Rattle.msc_meaning.specs.Views.{body_view, item_view, node_view}
use Rattle.msc_meaning.specs.declared.body.Body as rust_body
use Rattle.msc_meaning.specs.declared.body.EventNode as rust_event
use Rattle.msc_meaning.specs.declared.body.Item as rust_item
use Rattle.expanded_charts.specs.Expanding.{Expanded, ExpandedParts}
use Rattle.expanded_charts.specs.Making.{AreMade, IsAdded, IsMade, add, event_part, events_parts, expression_part, expressions_parts, item_part, items_parts, level_part, operands_parts}
use Rattle.expanded_charts.specs.declared.made.Made.{Made}
use Rattle.expanded_charts.specs.declared.made.MadeParts.{MadeParts}
use Rattle.expanded_charts.specs.declared.numbering.Numbering.{Numbering}
use Rattle.expanded_charts.proofs.EventParts.{events_snoc, expressions_snoc, items_snoc, operands_snoc}

pub taken_all : {X : Type 0} (xs : List X) (i : ℕ) → length xs ≤ i → take i xs ≡ xs
taken_all [] zero h = refl
taken_all [] (suc i) h = refl
taken_all (x ∷ xs) zero h = absurd (omega (arith, h))
taken_all (x ∷ xs) (suc i) h = ap (λ l. x ∷ l) (taken_all xs i (omega (arith, h)))

one_view : {X Y : Type 0} (f : X → Y) (xs : List X) (i : ℕ) (x : X) → i < length xs → x ≡ get_or xs i x → map f (take (i + 1) xs) ≡ map f (take i xs) ++ f x ∷ []
one_view f xs i x low is = ap (map f) (take_more xs i x low ∙ ap (λ y. take i xs ++ y ∷ []) (sym is)) ∙ map-append f (take i xs) (x ∷ [])

pub one_more : (old mid new : Numbering) (ps : ExpandedParts) (f : ℕ → Expanded) (was : MadeParts) (made : Made) (parts : MadeParts) → AreMade old mid ps was → IsMade mid new (f was.next) made → IsAdded was made parts → AreMade old new (add ps (f ps.next)) parts
one_more old mid new ps f was made parts h k added = added old mid new ps (f ps.next) h (subst (λ (n : ℕ). IsMade mid new (f n) made) h.next k)

module _ (table : Table) (depth : ℕ) (level : Gates) (around : Around) (old mid new : Numbering) (first : ℕ) (was : MadeParts) (made : Made) (parts : MadeParts) (added : IsAdded was made parts) where
  pub events_step : (ks : List rust_event.EventNode) (i : ℕ) (k : rust_event.EventNode) → i < length ks → k ≡ get_or ks i k → AreMade old mid (events_parts table depth level around first (map node_view (take i ks))) was → IsMade mid new (event_part level around was.next (node_view k)) made
      → AreMade old new (events_parts table depth level around first (map node_view (take (i + 1) ks))) parts
  events_step ks i k low is h one =
      let before = map node_view (take i ks) in
      subst (λ (l : List EventNode). AreMade old new (events_parts table depth level around first l) parts) (sym (one_view node_view ks i k low is))
      (subst (λ (ps : ExpandedParts). AreMade old new ps parts) (sym (events_snoc table depth level around first before (node_view k))) (one_more old mid new (events_parts table depth level around first before) (λ n. event_part level around n (node_view k)) was made parts h one added))

  pub items_step : (xs : List rust_item.Item) (i : ℕ) (x : rust_item.Item) → i < length xs → x ≡ get_or xs i x → AreMade old mid (items_parts table depth level around first (items_view (take i xs))) was → IsMade mid new (item_part table depth level around was.next (item_view x)) made
      → AreMade old new (items_parts table depth level around first (items_view (take (i + 1) xs))) parts
  items_step xs i x low is h one =
      let before = map item_view (take i xs) in
      subst (λ (l : List WovenItem). AreMade old new (items_parts table depth level around first (items l)) parts) (sym (one_view item_view xs i x low is))
      (subst (λ (ps : ExpandedParts). AreMade old new ps parts) (sym (items_snoc table depth level around first before (item_view x))) (one_more old mid new (items_parts table depth level around first (items before)) (λ n. item_part table depth level around n (item_view x)) was made parts h one added))

module _ (table : Table) (depth : ℕ) (around : Around) (old mid new : Numbering) (first : ℕ) (was : MadeParts) (made : Made) (parts : MadeParts) (added : IsAdded was made parts) where
  pub operands_step : (bs : List rust_body.Body) (i : ℕ) (b : rust_body.Body) → i < length bs → b ≡ get_or bs i b → AreMade old mid (operands_parts table depth around first (bodies_view (take i bs))) was → IsMade mid new (level_part table depth around was.next (body_view b)) made
      → AreMade old new (operands_parts table depth around first (bodies_view (take (i + 1) bs))) parts
  operands_step bs i b low is h one =
      let before = map body_view (take i bs) in
      subst (λ (l : List Body). AreMade old new (operands_parts table depth around first (bodies l)) parts) (sym (one_view body_view bs i b low is))
      (subst (λ (ps : ExpandedParts). AreMade old new ps parts) (sym (operands_snoc table depth around first before (body_view b))) (one_more old mid new (operands_parts table depth around first (bodies before)) (λ n. level_part table depth around n (body_view b)) was made parts h one added))

module _ (table : Table) (depth : ℕ) (gates : GateMap) (old mid new : Numbering) (first : ℕ) (was : MadeParts) (made : Made) (parts : MadeParts) (added : IsAdded was made parts) where
  pub expressions_step : (es : List RefExpr) (i : ℕ) (e : RefExpr) → i < length es → e ≡ get_or es i e → AreMade old mid (expressions_parts table depth gates first (expressions (map expression_view (take i es)))) was → IsMade mid new (expression_part table depth gates was.next (expression_view e)) made
      → AreMade old new (expressions_parts table depth gates first (expressions (map expression_view (take (i + 1) es)))) parts
  expressions_step es i e low is h one =
      let before = map expression_view (take i es) in
      subst (λ l. AreMade old new (expressions_parts table depth gates first (expressions l)) parts) (sym (one_view expression_view es i e low is))
      (subst (λ (ps : ExpandedParts). AreMade old new ps parts) (sym (expressions_snoc table depth gates first before (expression_view e))) (one_more old mid new (expressions_parts table depth gates first (expressions before)) (λ n. expression_part table depth gates n (expression_view e)) was made parts h one added))
