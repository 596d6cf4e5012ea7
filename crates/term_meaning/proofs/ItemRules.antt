-- Lists of portions: one more at the end, over later tables, and what their join means.
use Rattle.std.specs.Prelude.{ℕ, ◌≤◌, Bool, List, [], ◌∷◌, ◌++◌}
use Rattle.std.proofs.Common.{sym, subst, arith, inl}
use Rattle.std.proofs.lemmas.List.{append-nil, append_assoc}
use Rattle.msc_base.specs.Orders.{Once}
use Rattle.msc_base.specs.Patterns.{Mode}
use Rattle.msc_unfolding.specs.Unfoldings.{Unfolding}
use Rattle.term_tables.specs.NetValues.{NetsValue}
use Rattle.chart_term.specs.NormalForms.{join_all}
use Rattle.chart_term.specs.Tables.{terms_over}
use Rattle.chart_term.specs.TermMeanings.{HasPattern, HasParts}
use Rattle.chart_term.specs.Terms.{Tree}
use Rattle.term_laws.specs.ConstructorLaws.{NormalFormsKeepPatterns}
use Rattle.term_laws.specs.LaterTables.{LaterTablesAgree}
use Rattle.term_laws.specs.Soundness.{AreTidyTables}
use Rattle.term_meaning.specs.Extending.{IsLater, IsPortionFromNow}
use Rattle.term_meaning.specs.Growing.{KeepsPlaces}
use Rattle.term_meaning.specs.ItemPortions.{OfItems, ArePortions, no_portion, a_portion}
use Rattle.term_meaning.specs.Portions.{Shown, IsPortion}
use Rattle.term_meaning.proofs.Extended.{later_same, keeps_same, portion_later_still}
use Rattle.term_meaning.proofs.PortionRules.{portion_no_part, portion_part, portion_join_all}

module _ {Item : Type 0} (OfItem : Item → Bool → Unfolding → Type 0) where
  -- one step of a loop that goes forward
  pub portions_last : (v : NetsValue) (names : List (List ℕ)) (a b c : ℕ) (sh ti : Shown) (xs : List Tree) (x : Tree) (is : List Item) (i : Item)
      → ArePortions OfItem v names a b sh xs is → IsPortionFromNow v names b c ti x (OfItem i) → ArePortions OfItem v names a c (sh ++ ti) (xs ++ x ∷ []) (is ++ i ∷ [])
  portions_last v names _ b c _ ti _ x _ i no_portion p = subst (λ (l : Shown). ArePortions OfItem v names b c l (x ∷ []) (i ∷ [])) (append-nil ti) (a_portion p no_portion)
  portions_last v names a b c _ ti _ x _ i (a_portion {b = d} {sh = sh} {ti = ui} {x = y} {xs = ys} {i = j} {is = js} q r) p =
      subst (λ (l : Shown). ArePortions OfItem v names a c l (y ∷ (ys ++ x ∷ [])) (j ∷ (js ++ i ∷ []))) (sym (append_assoc sh ui ti)) (a_portion q (portions_last v names d b c ui ti ys x js i r p))

  -- over later tables
  pub portions_later : LaterTablesAgree → (v later : NetsValue) (names others : List (List ℕ)) → IsLater v later → KeepsPlaces names others → AreTidyTables later.tables → (a b : ℕ) (sh : Shown) (xs : List Tree) (is : List Item)
      → ArePortions OfItem v names a b sh xs is → ArePortions OfItem later others a b sh xs is
  portions_later agree v later names others l n h _ b _ _ _ no_portion = no_portion
  portions_later agree v later names others l n h a b _ _ _ (a_portion {b = d} {sh = sh} {ti = ui} {x = y} {xs = ys} {i = j} {is = js} q r) =
      a_portion (portion_later_still agree v later names others a d sh y (OfItem j) l n h q) (portions_later agree v later names others l n h d b ui ys js r)

  -- their intervals don't fall
  pub portions_order : (v : NetsValue) (names : List (List ℕ)) → AreTidyTables v.tables → (o : Bool) (a b : ℕ) (sh : Shown) (xs : List Tree) (is : List Item) → ArePortions OfItem v names a b sh xs is → a ≤ b
  portions_order v names h o a _ _ _ _ no_portion = omega arith
  portions_order v names h o a b _ _ _ (a_portion {b = d} {ti = ui} {xs = ys} {is = js} q r) =
      let p = q.portion v names o (later_same v) (keeps_same names) h in
      omega (arith, p.order, portions_order v names h o d b ui ys js r)

  -- one pattern of each term, joined, means one unfolding of each item, joined
  pub portions_parts : (v : NetsValue) (names : List (List ℕ)) → Once names → AreTidyTables v.tables → (o : Bool) (m : Mode) (a b : ℕ) (sh : Shown) (xs : List Tree) (is : List Item) → ArePortions OfItem v names a b sh xs is
      → IsPortion v.labels names a b sh (HasParts (terms_over v.tables) o m xs) (OfItems OfItem m is o)
  portions_parts v names once h o m a _ _ _ _ no_portion = portion_no_part v.labels names (terms_over v.tables) o m a
  portions_parts v names once h o m a b _ _ _ (a_portion {b = d} {sh = sh} {ti = ui} {x = y} {xs = ys} {i = j} {is = js} q r) =
      let p = q.portion v names o (later_same v) (keeps_same names) h in
      let k = portions_order v names h o d b ui ys js r in
      portion_part v.labels names (terms_over v.tables) o a d d b a b sh ui (inl (omega arith)) (omega arith) p.order k (omega arith) once m y ys (OfItem j o) (OfItems OfItem m js o) p (portions_parts v names once h o m d b ui ys js r)

  -- so does their join in normal form
  pub portions_join : NormalFormsKeepPatterns → (v : NetsValue) (names : List (List ℕ)) → Once names → AreTidyTables v.tables → (o : Bool) (m : Mode) (a b : ℕ) (sh : Shown) (xs : List Tree) (is : List Item) → ArePortions OfItem v names a b sh xs is
      → IsPortion v.labels names a b sh (HasPattern (terms_over v.tables) o (join_all m xs)) (OfItems OfItem m is o)
  portions_join keep v names once h o m a b sh xs is r = portion_join_all v.labels names keep o v.tables a b sh (OfItems OfItem m is o) m xs (portions_parts v names once h o m a b sh xs is r)
