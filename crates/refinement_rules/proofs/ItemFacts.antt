-- What the plain items are of the types' values, and what the walks tell of one item.
use Rattle.std.specs.Prelude.{List, map}
use Rattle.std.proofs.Common.{◌≡◌, ◌↔◌, ◌⊎◌, ◌∙◌, inl, inr, OnOk, Result, IsTrue, ℕ, Bool, true, false, not, ◌&&◌, [], ◌∷◌, Option, refl, sym, ap, subst}
use Rattle.std.proofs.lemmas.Bool.{true≢false, or_left, or_right, or_cases}
use Rattle.std.specs.List.{list_any}
use Rattle.std.specs.Str.{bytes_eq}
use Rattle.msc_base.proofs.NameFacts.{any_from_one, one_from_any}
use Rattle.msc_base.specs.Lists.{IsAmong}
use Rattle.msc_base.specs.Places.{IsLeast, earliest_if}
use Rattle.msc_base.specs.declared.place.Place.{Place}
use Rattle.msc_meaning.specs.Bodies as body
use Rattle.msc_meaning.specs.ItemViews.{inline_view, bodies_view}
use Rattle.msc_meaning.specs.Views.{item_step, body_step, inline_step, item_view, node_view, reference_view}
use Rattle.msc_meaning.specs.declared.body.EventNode as rust_event
use Rattle.msc_meaning.specs.declared.body.InlineItem.{InlineItem, out-InlineItem, fold_out-InlineItem}
use Rattle.msc_meaning.specs.declared.body.Item.{fold-roll-Item}
use Rattle.msc_meaning.specs.declared.body.Item.TheOpen.{Item-F}
use Rattle.msc_meaning.specs.declared.body.Item.TheVariants as item
use Rattle.msc_meaning.specs.declared.body.ReferenceItem.{ReferenceItem}
use Rattle.refinement_rules.specs.Judging.{CoversRefined, ItemLocal, ItemShares, PartShares, some_among}
use Rattle.refinement_rules.specs.PlainEvents.{is_plain}
use Rattle.refinement_rules.specs.Walks.{IsGrown, SoFarOr}
use Rattle.refinement_rules.proofs.Walked.{least_if, least_kept}

abbrev pub part_of : InlineItem → body.InlinePart
part_of i = record { lower = (out-InlineItem i).lower; upper = (out-InlineItem i).upper; name = (out-InlineItem i).name; cover = (out-InlineItem i).cover; place = (out-InlineItem i).place }

pub inline_is : (i : InlineItem) → inline_view i ≡ body.Inline (out-InlineItem i).form (part_of i) (bodies_view (out-InlineItem i).operands.items)
inline_is i = fold_out-InlineItem body.WovenItem body.Body body.WovenItem item_step body_step inline_step i

pub single_is : (n : rust_event.EventNode) → item_view (item.Single n) ≡ body.Single (node_view n)
single_is n = ap item_view (sym (item.rolls-Single n)) ∙ fold-roll-Item body.WovenItem body.Body body.WovenItem item_step body_step inline_step (Item-F.Single n)

pub coregion_is : (ns : List rust_event.EventNode) → item_view (item.Coregion ns) ≡ body.Coregion (map node_view ns)
coregion_is ns = ap item_view (sym (item.rolls-Coregion ns)) ∙ fold-roll-Item body.WovenItem body.Body body.WovenItem item_step body_step inline_step (Item-F.Coregion ns)

pub inline_item_is : (i : InlineItem) → item_view (item.Inline i) ≡ inline_view i
inline_item_is i = ap item_view (sym (item.rolls-Inline i)) ∙ fold-roll-Item body.WovenItem body.Body body.WovenItem item_step body_step inline_step (Item-F.Inline i)

pub reference_is : (r : ReferenceItem) → item_view (item.Reference r) ≡ reference_view r
reference_is r = ap item_view (sym (item.rolls-Reference r)) ∙ fold-roll-Item body.WovenItem body.Body body.WovenItem item_step body_step inline_step (Item-F.Reference r)

-- ---- local

-- one of the names is that of a decomposed instance
covers_is : (refined names : List (List ℕ)) → IsTrue (some_among refined names) ↔ CoversRefined (IsAmong refined) names
covers_is refined [] = (λ h. absurd (true≢false (sym h)), λ c. absurd c.among)
covers_is refined (n ∷ ns) = (to (covers_is refined ns).0, λ c. from (covers_is refined ns).1 c.name c.among c.refined)
  where
    to : (IsTrue (some_among refined ns) → CoversRefined (IsAmong refined) ns) → IsTrue (some_among refined (n ∷ ns)) → CoversRefined (IsAmong refined) (n ∷ ns)
    to behind h = elim (or_cases (list_any (bytes_eq n) refined) (some_among refined ns) h) [
      | inl here ↦ record { name = n; among = inl refl; refined = one_from_any refined n here }
      | inr there ↦ let c = behind there in record { name = c.name; among = inr c.among; refined = c.refined }
    ]

    from : (CoversRefined (IsAmong refined) ns → IsTrue (some_among refined ns)) → (m : List ℕ) → IsAmong (n ∷ ns) m → IsAmong refined m → IsTrue (some_among refined (n ∷ ns))
    from behind m (inl e) r = or_left (list_any (bytes_eq n) refined) (some_among refined ns) (any_from_one refined n (subst (IsAmong refined) e r))
    from behind m (inr at) r = or_right (list_any (bytes_eq n) refined) (some_among refined ns) (behind (record { name = m; among = at; refined = r }))

cover_place : (so_far : Option Place) (place : Place) (refined cover : List (List ℕ)) (b : Bool) (o : Option Place) → b ≡ some_among refined cover → o ≡ earliest_if b so_far place
    → IsLeast (SoFarOr so_far (λ q. (place ≡ q) × CoversRefined (IsAmong refined) cover)) o
cover_place so_far place refined cover b o test made =
    subst (IsLeast (SoFarOr so_far (λ q. (place ≡ q) × CoversRefined (IsAmong refined) cover))) (sym made)
    (least_if so_far place b (CoversRefined (IsAmong refined) cover) (subst (λ (t : Bool). IsTrue t ↔ CoversRefined (IsAmong refined) cover) (sym test) (covers_is refined cover)))

pub inline_local : (so_far : Option Place) (refined : List (List ℕ)) (i : InlineItem) (b : Bool) (o : Option Place) → b ≡ some_among refined (out-InlineItem i).cover → o ≡ earliest_if b so_far (out-InlineItem i).place
    → IsLeast (SoFarOr so_far (ItemLocal (IsAmong refined) (inline_view i))) o
inline_local so_far refined i b o test made =
    subst (λ (x : body.WovenItem). IsLeast (SoFarOr so_far (ItemLocal (IsAmong refined) x)) o) (sym (inline_is i)) (cover_place so_far (out-InlineItem i).place refined (out-InlineItem i).cover b o test made)

pub reference_local : (so_far : Option Place) (refined : List (List ℕ)) (r : ReferenceItem) (b : Bool) (o : Option Place) → b ≡ some_among refined r.cover → o ≡ earliest_if b so_far r.place
    → IsLeast (SoFarOr so_far (ItemLocal (IsAmong refined) (item_view (item.Reference r)))) o
reference_local so_far refined r b o test made =
    subst (λ (x : body.WovenItem). IsLeast (SoFarOr so_far (ItemLocal (IsAmong refined) x)) o) (sym (reference_is r)) (cover_place so_far r.place refined r.cover b o test made)

event_test : (refined : List (List ℕ)) (at : List ℕ) (plain : Bool) → IsTrue (list_any (bytes_eq at) refined && not plain) ↔ (IsAmong refined at × (plain ≡ false))
event_test refined at plain = (
  λ h. let p = both (list_any (bytes_eq at) refined) plain h in (one_from_any refined at p.0, p.1),
  λ p. of_both (list_any (bytes_eq at) refined) plain (any_from_one refined at p.0) p.1,
)
  where
    both : (a b : Bool) → (a && not b) ≡ true → (a ≡ true) × (b ≡ false)
    both true true h = absurd (true≢false (sym h))
    both true false h = (refl, refl)
    both false b h = absurd (true≢false (sym h))

    of_both : (a b : Bool) → a ≡ true → b ≡ false → (a && not b) ≡ true
    of_both true true h g = absurd (true≢false g)
    of_both true false h g = refl
    of_both false b h g = h

pub single_local : (so_far : Option Place) (refined : List (List ℕ)) (n : rust_event.EventNode) (b : Bool) (o : Option Place) → b ≡ (list_any (bytes_eq n.at) refined && not (is_plain n.event)) → o ≡ earliest_if b so_far n.event.place
    → IsLeast (SoFarOr so_far (ItemLocal (IsAmong refined) (item_view (item.Single n)))) o
single_local so_far refined n b o test made =
    let Bad : Type 0 = IsAmong refined n.at × (is_plain n.event ≡ false) in
    subst (λ (x : body.WovenItem). IsLeast (SoFarOr so_far (ItemLocal (IsAmong refined) x)) o) (sym (single_is n))
    (subst (IsLeast (SoFarOr so_far (λ q. (n.event.place ≡ q) × Bad))) (sym made) (least_if so_far n.event.place b Bad (subst (λ (t : Bool). IsTrue t ↔ Bad) (sym test) (event_test refined n.at (is_plain n.event)))))

pub coregion_local : (so_far : Option Place) (refined : List (List ℕ)) (ns : List rust_event.EventNode) → IsLeast (SoFarOr so_far (ItemLocal (IsAmong refined) (item_view (item.Coregion ns)))) so_far
coregion_local so_far refined ns = subst (λ (x : body.WovenItem). IsLeast (SoFarOr so_far (ItemLocal (IsAmong refined) x)) so_far) (sym (coregion_is ns)) (least_kept so_far (λ q. ⊥) (λ q h. h))

-- ---- shared

module _ {A E : Type 0} (result : Result A E) (Old New : List ℕ → Type 0) (Refined : List ℕ → Type 0) where
  pub inline_shares : (i : InlineItem) → OnOk result (IsGrown Old (PartShares Refined (out-InlineItem i).cover) New) → OnOk result (IsGrown Old (ItemShares Refined (inline_view i)) New)
  inline_shares i h = subst (λ (x : body.WovenItem). OnOk result (IsGrown Old (ItemShares Refined x) New)) (sym (inline_is i)) h

  pub inline_item_shares : (i : InlineItem) → OnOk result (IsGrown Old (ItemShares Refined (inline_view i)) New) → OnOk result (IsGrown Old (ItemShares Refined (item_view (item.Inline i))) New)
  inline_item_shares i h = subst (λ (x : body.WovenItem). OnOk result (IsGrown Old (ItemShares Refined x) New)) (sym (inline_item_is i)) h

  pub reference_shares : (r : ReferenceItem) → OnOk result (IsGrown Old (PartShares Refined r.cover) New) → OnOk result (IsGrown Old (ItemShares Refined (item_view (item.Reference r))) New)
  reference_shares r h = subst (λ (x : body.WovenItem). OnOk result (IsGrown Old (ItemShares Refined x) New)) (sym (reference_is r)) h

module _ (Old : List ℕ → Type 0) (Refined : List ℕ → Type 0) where
  nothing : (Holds : List ℕ → Type 0) → ((n : List ℕ) → Holds n → ⊥) → IsGrown Old Holds Old
  nothing Holds none n = (λ o. inl o, λ s. elim s [ inl o ↦ o | inr h ↦ absurd (none n h) ])

  pub single_shares : (n : rust_event.EventNode) → IsGrown Old (ItemShares Refined (item_view (item.Single n))) Old
  single_shares n = subst (λ (x : body.WovenItem). IsGrown Old (ItemShares Refined x) Old) (sym (single_is n)) (nothing (λ m. ⊥) (λ m h. h))

  pub coregion_shares : (ns : List rust_event.EventNode) → IsGrown Old (ItemShares Refined (item_view (item.Coregion ns))) Old
  coregion_shares ns = subst (λ (x : body.WovenItem). IsGrown Old (ItemShares Refined x) Old) (sym (coregion_is ns)) (nothing (λ m. ⊥) (λ m h. h))
