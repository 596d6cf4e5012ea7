-- One more of what is woven: an item, or a level.
use Rattle.std.proofs.Common.{◌≡◌, ◌⊎◌, inl, inr, ℕ, List, [], ◌∷◌, ◌++◌, Option, Some, slice_get, sym, subst}
use Rattle.msc_base.specs.declared.place.Place.{Place}
use Rattle.msc_meaning.specs.Bodies.{Body, WovenItem, bodies, items}
use Rattle.msc_meaning.specs.Crossings.{ColumnsCross}
use Rattle.msc_meaning.specs.Levels.{AreWovenItems, IsWovenItem, IsWovenLevel, no_woven, woven_and}
use Rattle.msc_meaning.specs.Partners.{LacksPartner}
use Rattle.level_weaving.specs.LonelyItems.{ItemLacksPartner, ItemsLackPartner, OneLacksPartner}
use Rattle.msc_meaning.specs.Pieces.{Piece}
use Rattle.level_weaving.specs.Answers.{AreWovenLevels, ItemCrosses, ItemsCross, OneCrosses, OptionCrosses}

-- ---- items

pub woven_snoc : {cover : List (List ℕ)} {all : List (List Piece)} (order : List ℕ) (held : List WovenItem) (x : ℕ) (parts : List Piece) (i : WovenItem)
    → AreWovenItems cover all order (items held) → slice_get all x ≡ Some parts → IsWovenItem cover parts i → AreWovenItems cover all (order ++ x ∷ []) (items (held ++ i ∷ []))
woven_snoc [] [] x parts i no_woven at is = woven_and at is no_woven
woven_snoc [] (h ∷ held) x parts i w at is = elim w [ ]
woven_snoc (y ∷ order) [] x parts i w at is = elim w [ ]
woven_snoc (y ∷ order) (h ∷ held) x parts i (woven_and a b c) at is = woven_and a b (woven_snoc order held x parts i c at is)

pub lack_on : (held : List WovenItem) (i : WovenItem) (q : Place) → ItemsLackPartner (items held) q ⊎ ItemLacksPartner i q → ItemsLackPartner (items (held ++ i ∷ [])) q
lack_on [] i q (inl h) = absurd h
lack_on [] i q (inr h) = inl h
lack_on (x ∷ held) i q (inl (inl h)) = inl h
lack_on (x ∷ held) i q (inl (inr h)) = inr (lack_on held i q (inl h))
lack_on (x ∷ held) i q (inr h) = inr (lack_on held i q (inr h))

pub lack_of : (held : List WovenItem) (i : WovenItem) (q : Place) → ItemsLackPartner (items (held ++ i ∷ [])) q → ItemsLackPartner (items held) q ⊎ ItemLacksPartner i q
lack_of [] i q (inl h) = inr h
lack_of [] i q (inr h) = absurd h
lack_of (x ∷ held) i q (inl h) = inl (inl h)
lack_of (x ∷ held) i q (inr h) = elim (lack_of held i q h) [ inl l ↦ inl (inr l) | inr r ↦ inr r ]

module _ (cover : List (List ℕ)) (all : List (List Piece)) (x : ℕ) (parts : List Piece) (at : slice_get all x ≡ Some parts) where
  pub cross_on : (order : List ℕ) (q : Place) → ItemsCross cover all order q ⊎ ItemCrosses cover parts q → ItemsCross cover all (order ++ x ∷ []) q
  cross_on [] q (inl h) = absurd h
  cross_on [] q (inr h) = inl (subst (λ (o : Option (List Piece)). OptionCrosses cover o q) (sym at) h)
  cross_on (y ∷ order) q (inl (inl h)) = inl h
  cross_on (y ∷ order) q (inl (inr h)) = inr (cross_on order q (inl h))
  cross_on (y ∷ order) q (inr h) = inr (cross_on order q (inr h))

  pub cross_of : (order : List ℕ) (q : Place) → ItemsCross cover all (order ++ x ∷ []) q → ItemsCross cover all order q ⊎ ItemCrosses cover parts q
  cross_of [] q (inl h) = inr (subst (λ (o : Option (List Piece)). OptionCrosses cover o q) at h)
  cross_of [] q (inr h) = absurd h
  cross_of (y ∷ order) q (inl h) = inl (inl h)
  cross_of (y ∷ order) q (inr h) = elim (cross_of order q h) [ inl l ↦ inl (inr l) | inr r ↦ inr r ]

-- ---- levels

pub levels_snoc : (cover : List (List ℕ)) (pss : List (List Piece)) (bs : List Body) (ps : List Piece) (b : Body) → AreWovenLevels cover pss bs → IsWovenLevel cover ps b → AreWovenLevels cover (pss ++ ps ∷ []) (bs ++ b ∷ [])
levels_snoc cover [] [] ps b h w = (w, tt)
levels_snoc cover [] (c ∷ bs) ps b h w = absurd h
levels_snoc cover (qs ∷ pss) [] ps b h w = absurd h
levels_snoc cover (qs ∷ pss) (c ∷ bs) ps b h w = (h.0, levels_snoc cover pss bs ps b h.1 w)

pub one_lack_on : (bs : List Body) (b : Body) (q : Place) → OneLacksPartner (bodies bs) q ⊎ LacksPartner b q → OneLacksPartner (bodies (bs ++ b ∷ [])) q
one_lack_on [] b q (inl h) = absurd h
one_lack_on [] b q (inr h) = inl h
one_lack_on (c ∷ bs) b q (inl (inl h)) = inl h
one_lack_on (c ∷ bs) b q (inl (inr h)) = inr (one_lack_on bs b q (inl h))
one_lack_on (c ∷ bs) b q (inr h) = inr (one_lack_on bs b q (inr h))

pub one_lack_of : (bs : List Body) (b : Body) (q : Place) → OneLacksPartner (bodies (bs ++ b ∷ [])) q → OneLacksPartner (bodies bs) q ⊎ LacksPartner b q
one_lack_of [] b q (inl h) = inr h
one_lack_of [] b q (inr h) = absurd h
one_lack_of (c ∷ bs) b q (inl h) = inl (inl h)
one_lack_of (c ∷ bs) b q (inr h) = elim (one_lack_of bs b q h) [ inl l ↦ inl (inr l) | inr r ↦ inr r ]

pub one_cross_on : (cover : List (List ℕ)) (pss : List (List Piece)) (ps : List Piece) (q : Place) → OneCrosses cover pss q ⊎ ColumnsCross cover ps q → OneCrosses cover (pss ++ ps ∷ []) q
one_cross_on cover [] ps q (inl h) = absurd h
one_cross_on cover [] ps q (inr h) = inl h
one_cross_on cover (qs ∷ pss) ps q (inl (inl h)) = inl h
one_cross_on cover (qs ∷ pss) ps q (inl (inr h)) = inr (one_cross_on cover pss ps q (inl h))
one_cross_on cover (qs ∷ pss) ps q (inr h) = inr (one_cross_on cover pss ps q (inr h))

pub one_cross_of : (cover : List (List ℕ)) (pss : List (List Piece)) (ps : List Piece) (q : Place) → OneCrosses cover (pss ++ ps ∷ []) q → OneCrosses cover pss q ⊎ ColumnsCross cover ps q
one_cross_of cover [] ps q (inl h) = inr h
one_cross_of cover [] ps q (inr h) = absurd h
one_cross_of cover (qs ∷ pss) ps q (inl h) = inl (inl h)
one_cross_of cover (qs ∷ pss) ps q (inr h) = elim (one_cross_of cover pss ps q h) [ inl l ↦ inl (inr l) | inr r ↦ inr r ]
