-- Maps by the numbers of events that are filled from the last to the first: what stands first stays.
use Rattle.std.proofs.Common.{◌≡◌, ◌∙◌, ◌==◌, ℕ, Bool, true, false, List, [], ◌∷◌, Option, Some, refl, sym, ap, cond, option_map}
use Rattle.std.specs.BTreeMap.{BTreeMap, get}
use Rattle.std.specs.List.{find}
use Rattle.std.specs.Ordering.{is_eq, nat_cmp}
use Rattle.std.proofs.lemmas.Bool.Decides.{Decides-eqb}
use Rattle.msc_base.specs.declared.label.Far.{Far}
use Rattle.msc_base.specs.declared.label.Far.TheVariants as far
use Rattle.msc_base.specs.declared.label.Pair.{Pair}
use Rattle.msc_meaning.specs.Bodies.{EventNode}
use Rattle.msc_meaning.specs.Refinements.{Match, far_by, inner_far, partner, refined_far}
use Rattle.level_surroundings.specs.FarEndViews.{HasFar, HasStanding, far_view}
use Rattle.level_surroundings.specs.declared.far_ends.FarAt.{FarAt}
use Rattle.level_surroundings.proofs.KeyFacts.{is_equal, unequal}

-- the keys of a map are compared as numbers are
pub same_key : (k n : ℕ) → is_eq (nat_cmp k n) ≡ (k == n)
same_key k n = by (is_eq (nat_cmp k n)) refl
  where
    by : (b : Bool) → is_eq (nat_cmp k n) ≡ b → b ≡ (k == n)
    by true e = sym ((Decides-eqb k n).1 (is_equal k n e))
    by false e = sym (unequal k n e)

module _ {V : Type 0} (k n : ℕ) (v old new : Option V) where
  pub put_is : new ≡ cond (is_eq (nat_cmp k n)) v old → new ≡ cond (k == n) v old
  put_is put = put ∙ ap (λ b. cond b v old) (same_key k n)

-- ---- far ends

-- the instance of an event that stands for another
pub standing_more : (m : Match) (ms : List Match) (old new : BTreeMap ℕ FarAt) (v : FarAt) → far_view v ≡ far.Instance m.inner.at
    → ((n : ℕ) → get nat_cmp new n ≡ cond (is_eq (nat_cmp m.event.number n)) (Some v) (get nat_cmp old n)) → HasStanding old ms → HasStanding new (m ∷ ms)
standing_more m ms old new v is put h n = ap (option_map far_view) (put_is m.event.number n (Some v) (get nat_cmp old n) (get nat_cmp new n) (put n)) ∙ by (m.event.number == n)
  where
    by : (b : Bool) → option_map far_view (cond b (Some v) (get nat_cmp old n)) ≡ option_map (λ (d : EventNode). far.Instance d.at) (option_map (λ (l : Match). l.inner) (cond b (Some m) (find (λ (l : Match). l.event.number == n) ms)))
    by true = ap Some is
    by false = h n

-- the far end of the event that one stands for
pub inner_more : (far_of : EventNode → Far) (m : Match) (ms : List Match) (old new : BTreeMap ℕ FarAt) (v : FarAt) → far_view v ≡ far_of m.event
    → ((n : ℕ) → get nat_cmp new n ≡ cond (is_eq (nat_cmp m.inner.number n)) (Some v) (get nat_cmp old n)) → HasFar old (inner_far far_of ms) → HasFar new (inner_far far_of (m ∷ ms))
inner_more far_of m ms old new v is put h n = ap (option_map far_view) (put_is m.inner.number n (Some v) (get nat_cmp old n) (get nat_cmp new n) (put n)) ∙ by (m.inner.number == n)
  where
    by : (b : Bool) → option_map far_view (cond b (Some v) (get nat_cmp old n)) ≡ option_map (λ (l : Match). far_of l.event) (cond b (Some m) (find (λ (l : Match). l.inner.number == n) ms))
    by true = ap Some is
    by false = h n

-- both events of a pair: the first decides
pub pair_more : (standing old mid new : BTreeMap ℕ FarAt) (v w : Option FarAt) (ms : List Match) (p : Pair) (ps : List Pair) → v ≡ get nat_cmp standing p.first → w ≡ get nat_cmp standing p.second
    → ((n : ℕ) → get nat_cmp mid n ≡ cond (is_eq (nat_cmp p.second n)) v (get nat_cmp old n)) → ((n : ℕ) → get nat_cmp new n ≡ cond (is_eq (nat_cmp p.first n)) w (get nat_cmp mid n))
    → HasStanding standing ms → HasFar old (refined_far ps ms) → HasFar new (refined_far (p ∷ ps) ms)
pair_more standing old mid new v w ms p ps v_is w_is first second h held n =
    ap (option_map far_view) (put_is p.first n w (get nat_cmp mid n) (get nat_cmp new n) (second n)
    ∙ ap (cond (p.first == n) w) (put_is p.second n v (get nat_cmp old n) (get nat_cmp mid n) (first n)))
    ∙ by (p.first == n) (p.second == n)
  where
    by : (b c : Bool) → option_map far_view (cond b w (cond c v (get nat_cmp old n))) ≡ far_by ms (cond b (Some p.second) (cond c (Some p.first) (partner ps n)))
    by true c = ap (option_map far_view) w_is ∙ h p.second
    by false true = ap (option_map far_view) v_is ∙ h p.first
    by false false = held n
