-- Steps of the walks that weave the items of a level, or several levels.
use Rattle.std.proofs.Common.{◌≡◌, ℕ, ◌<◌, ◌+◌, List, [], ◌∷◌, ◌++◌, Some, get_or, length, map, slice_get, take, sym, subst, ap, ◌∙◌}
use Rattle.std.proofs.lemmas.List.{map-append, take_more}
use Rattle.msc_meaning.specs.Bodies.{Body, WovenItem, bodies, items}
use Rattle.msc_meaning.specs.Crossings.{ColumnsCross}
use Rattle.msc_meaning.specs.Levels.{AreWovenItems, IsWovenItem, IsWovenLevel}
use Rattle.msc_meaning.specs.Partners.{LacksPartner}
use Rattle.level_weaving.specs.LonelyItems.{ItemLacksPartner, ItemsLackPartner, OneLacksPartner}
use Rattle.msc_meaning.specs.Pieces.{Piece}
use Rattle.msc_meaning.specs.Views.{body_view, item_view}
use Rattle.msc_meaning.specs.declared.body.Body as code_body
use Rattle.msc_meaning.specs.declared.body.Item as code_item
use Rattle.level_weaving.specs.Answers.{AreItemsAnswer, AreLevelsAnswer, AreWovenLevels, IsAdded, IsItemAnswer, IsLevelAnswer, ItemCrosses, ItemsCross, OneCrosses, gathered_answer}
use Rattle.level_weaving.specs.declared.answers.Answer.{Answer}
use Rattle.level_weaving.specs.declared.answers.Gathered.{Gathered}
use Rattle.level_weaving.proofs.GatherLaws.{IsGathered, gathered_done, gathered_more}
use Rattle.level_weaving.proofs.WovenSnoc.{cross_of, cross_on, lack_of, lack_on, levels_snoc, one_cross_of, one_cross_on, one_lack_of, one_lack_on, woven_snoc}

-- ---- items

abbrev pub GatheredItems : List (List ℕ) → List (List Piece) → List ℕ → Gathered code_item.Item → Type 0
GatheredItems cover all order g = IsGathered (λ is. AreWovenItems cover all order (items (map item_view is))) (λ is. ItemsLackPartner (items (map item_view is))) (ItemsCross cover all order) g

module _ (cover : List (List ℕ)) (all : List (List Piece)) where
  one_item_more : (order : List ℕ) (x : ℕ) (parts : List Piece) (old new : Gathered code_item.Item) (answer : Answer code_item.Item) → slice_get all x ≡ Some parts → GatheredItems cover all order old → IsItemAnswer cover parts answer
      → IsAdded old answer new → GatheredItems cover all (order ++ x ∷ []) new
  one_item_more order x parts old new answer at h is added =
      gathered_more (λ is. AreWovenItems cover all order (items (map item_view is))) (λ is. AreWovenItems cover all (order ++ x ∷ []) (items (map item_view is))) (λ is. ItemsLackPartner (items (map item_view is)))
      (ItemsCross cover all order) (ItemsCross cover all (order ++ x ∷ [])) (λ i. IsWovenItem cover parts (item_view i)) (λ i. ItemLacksPartner (item_view i)) (ItemCrosses cover parts) old new answer h is added
      (λ l i w one. subst (λ (is : List WovenItem). AreWovenItems cover all (order ++ x ∷ []) (items is)) (sym (map-append item_view l (i ∷ []))) (woven_snoc order (map item_view l) x parts (item_view i) w at one))
      (λ l i q k. subst (λ (is : List WovenItem). ItemsLackPartner (items is) q) (sym (map-append item_view l (i ∷ []))) (lack_on (map item_view l) (item_view i) q k))
      (λ l i q k. lack_of (map item_view l) (item_view i) q (subst (λ (is : List WovenItem). ItemsLackPartner (items is) q) (map-append item_view l (i ∷ [])) k))
      (cross_on cover all x parts at order) (cross_of cover all x parts at order)

  pub item_more : (order : List ℕ) (k x : ℕ) (parts : List Piece) (old new : Gathered code_item.Item) (answer : Answer code_item.Item) → k < length order → x ≡ get_or order k 0 → slice_get all x ≡ Some parts
      → GatheredItems cover all (take k order) old → IsItemAnswer cover parts answer → IsAdded old answer new → GatheredItems cover all (take (k + 1) order) new
  item_more order k x parts old new answer low is at h one added =
      let longer : take (k + 1) order ≡ take k order ++ x ∷ [] = take_more order k 0 low ∙ ap (λ (y : ℕ). take k order ++ y ∷ []) (sym is) in
      subst (λ (xs : List ℕ). GatheredItems cover all xs new) (sym longer) (one_item_more (take k order) x parts old new answer at h one added)

  pub items_done : (order : List ℕ) (k : ℕ) (g : Gathered code_item.Item) → take k order ≡ order → GatheredItems cover all (take k order) g → AreItemsAnswer cover all order (gathered_answer g.list g.alone g.crossed)
  items_done order k g whole h =
      gathered_done (λ is. AreWovenItems cover all order (items (map item_view is))) (λ is. ItemsLackPartner (items (map item_view is))) (ItemsCross cover all order) g
      (subst (λ (xs : List ℕ). GatheredItems cover all xs g) whole h)

-- ---- levels

abbrev pub GatheredLevels : List (List ℕ) → List (List Piece) → Gathered code_body.Body → Type 0
GatheredLevels cover pss g = IsGathered (λ bs. AreWovenLevels cover pss (map body_view bs)) (λ bs. OneLacksPartner (bodies (map body_view bs))) (OneCrosses cover pss) g

pub level_more : (cover : List (List ℕ)) (pss longer : List (List Piece)) (ps : List Piece) (old new : Gathered code_body.Body) (answer : Answer code_body.Body) → longer ≡ pss ++ ps ∷ [] → GatheredLevels cover pss old
    → IsLevelAnswer cover ps answer → IsAdded old answer new → GatheredLevels cover longer new
level_more cover pss longer ps old new answer made h is added =
    subst (λ (l : List (List Piece)). GatheredLevels cover l new) (sym made)
    (gathered_more (λ bs. AreWovenLevels cover pss (map body_view bs)) (λ bs. AreWovenLevels cover (pss ++ ps ∷ []) (map body_view bs)) (λ bs. OneLacksPartner (bodies (map body_view bs)))
    (OneCrosses cover pss) (OneCrosses cover (pss ++ ps ∷ [])) (λ b. IsWovenLevel cover ps (body_view b)) (λ b. LacksPartner (body_view b)) (ColumnsCross cover ps) old new answer h is added
    (λ l b w one. subst (λ (bs : List Body). AreWovenLevels cover (pss ++ ps ∷ []) bs) (sym (map-append body_view l (b ∷ []))) (levels_snoc cover pss (map body_view l) ps (body_view b) w one))
    (λ l b q k. subst (λ (bs : List Body). OneLacksPartner (bodies bs) q) (sym (map-append body_view l (b ∷ []))) (one_lack_on (map body_view l) (body_view b) q k))
    (λ l b q k. one_lack_of (map body_view l) (body_view b) q (subst (λ (bs : List Body). OneLacksPartner (bodies bs) q) (map-append body_view l (b ∷ [])) k))
    (one_cross_on cover pss ps) (one_cross_of cover pss ps))

pub levels_done : (cover : List (List ℕ)) (pss all : List (List Piece)) (g : Gathered code_body.Body) → pss ≡ all → GatheredLevels cover pss g → AreLevelsAnswer cover all (gathered_answer g.list g.alone g.crossed)
levels_done cover pss all g whole h =
    gathered_done (λ bs. AreWovenLevels cover all (map body_view bs)) (λ bs. OneLacksPartner (bodies (map body_view bs))) (OneCrosses cover all) g
    (subst (λ (l : List (List Piece)). GatheredLevels cover l g) whole h)
