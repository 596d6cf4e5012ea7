-- The numbers of events that others stand for, as a map that is filled from the last to the first: what stands first stays.
use Rattle.std.proofs.Common.{◌≡◌, ◌∙◌, ◌==◌, ℕ, Bool, true, false, List, [], ◌∷◌, Some, refl, ap, cond}
use Rattle.std.specs.BTreeMap.{BTreeMap, get}
use Rattle.std.specs.Ordering.{is_eq, nat_cmp}
use Rattle.msc_unfolding.specs.Unfoldings.{Own}
use Rattle.msc_meaning.specs.Refinements.{Match, stands_for}
use Rattle.expanded_charts.specs.LeftItems.{StandsFor, own_tags}
use Rattle.level_surroundings.proofs.FarFacts.{put_is}

-- the number of the event that one stands for
pub stands_more : (m : Match) (ms : List Match) (old new : BTreeMap ℕ ℕ) → ((n : ℕ) → get nat_cmp new n ≡ cond (is_eq (nat_cmp m.inner.number n)) (Some m.event.number) (get nat_cmp old n))
    → StandsFor old ms → StandsFor new (m ∷ ms)
stands_more m ms old new put h n = ap own_tags (put_is m.inner.number n (Some m.event.number) (get nat_cmp old n) (get nat_cmp new n) (put n)) ∙ by (m.inner.number == n)
  where
    by : (b : Bool) → own_tags (cond b (Some m.event.number) (get nat_cmp old n)) ≡ cond b (Own m.event.number ∷ []) (stands_for ms n)
    by true = refl
    by false = h n
