-- Serves private contracts alone.
-- The terms of a list of items, and the unfoldings of the items one after another or side by side.
use Rattle.std.specs.Prelude.{ℕ, Bool, List, [], ◌∷◌, ◌++◌}
use Rattle.msc_base.specs.Patterns.{Mode}
use Rattle.msc_unfolding.specs.Unfoldings.{Unfolding}
use Rattle.term_tables.specs.NetValues.{NetsValue}
use Rattle.chart_term.specs.Terms.{Tree}
use Rattle.term_meaning.specs.Extending.{IsPortionFromNow}
use Rattle.term_meaning.specs.Portions.{Shown}
use Rattle.term_meaning.specs.UnfoldingSets.{OnlyEmpty, AreJoined, Nothing, Either}

-- OfItem: the unfoldings of an item; with `false` finished ones, with `true` also those of walks under way
module _ {Item : Type 0} (OfItem : Item → Bool → Unfolding → Type 0) where
  -- one unfolding of each item, joined
  abbrev pub OfItems : Mode → List Item → Bool → Unfolding → Type 0
  OfItems m [] o = OnlyEmpty
  OfItems m (i ∷ is) o = AreJoined m (OfItem i o) (OfItems m is o)

  -- each term is a portion for its item, from now on; their intervals follow one another
  pub data ArePortions (v : NetsValue) (names : List (List ℕ)) : ℕ → ℕ → Shown → List Tree → List Item → Type 0 where
    no_portion : {n : ℕ} → ArePortions v names n n [] [] []
    a_portion : {a b c : ℕ} {sh ti : Shown} {x : Tree} {xs : List Tree} {i : Item} {is : List Item} → IsPortionFromNow v names a b sh x (OfItem i) → ArePortions v names b c ti xs is
        → ArePortions v names a c (sh ++ ti) (x ∷ xs) (i ∷ is)

  -- one unfolding of one of the items
  abbrev pub OfOne : List Item → Bool → Unfolding → Type 0
  OfOne [] o = Nothing
  OfOne (i ∷ is) o = Either (OfItem i o) (OfOne is o)
