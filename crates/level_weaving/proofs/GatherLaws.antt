-- Several answers, gathered one after another.
use Rattle.std.proofs.Common.{◌≡◌, ◌⊎◌, List, [], ◌∷◌, ◌++◌, Option, Some, None, refl, sym, subst, ◌∙◌}
use Rattle.msc_base.specs.Places.{IsLeast, earliest}
use Rattle.msc_base.specs.declared.place.Place.{Place}
use Rattle.msc_base.proofs.Narrowing.{earliest_is}
use Rattle.level_pieces.specs.Earliest.{earliest_of}
use Rattle.level_pieces.proofs.LeastLaws.{least_of, least_same}
use Rattle.level_weaving.specs.Answers.{IsAdded, IsAnswer, gathered_answer}
use Rattle.level_weaving.specs.declared.answers.Answer.{Answer}
use Rattle.level_weaving.specs.declared.answers.Answer.TheVariants.{Woven, Crossed}
use Rattle.level_weaving.specs.declared.answers.Gathered.{Gathered}

-- something crosses first there; and where nothing does, the list is what they are woven to
pub record IsGathered {A : Type 0} (Is : List A → Type 0) (Lacks : List A → Place → Type 0) (CrossesAt : Place → Type 0) (g : Gathered A) : Type 0 where
  pub crossing : IsLeast CrossesAt g.crossed
  pub held : g.crossed ≡ None → Is g.list.items × IsLeast (Lacks g.list.items) g.alone

pub gathered_none : {A : Type 0} (Is : List A → Type 0) (Lacks : List A → Place → Type 0) (CrossesAt : Place → Type 0) (g : Gathered A) → g.list.items ≡ [] → g.alone ≡ None → g.crossed ≡ None
    → Is [] → ((q : Place) → Lacks [] q → ⊥) → ((q : Place) → CrossesAt q → ⊥) → IsGathered Is Lacks CrossesAt g
gathered_none {A} Is Lacks CrossesAt g list alone crossed is lacks none = record {
  crossing = subst (λ (o : Option Place). IsLeast CrossesAt o) (sym crossed) none;
  held = λ e. (
    subst (λ (l : List A). Is l) (sym list) is,
    subst (λ (l : List A). IsLeast (Lacks l) g.alone) (sym list) (subst (λ (o : Option Place). IsLeast (Lacks []) o) (sym alone) lacks),
  );
}

module _ {A : Type 0} (Is Longer : List A → Type 0) (Lacks : List A → Place → Type 0) (CrossesAt CrossesOn : Place → Type 0) (One : A → Type 0) (OneLacks : A → Place → Type 0) (OneCrosses : Place → Type 0) where
  -- one answer more
  pub gathered_more : (old new : Gathered A) (answer : Answer A) → IsGathered Is Lacks CrossesAt old → IsAnswer One OneLacks OneCrosses answer → IsAdded old answer new
      → ((l : List A) (a : A) → Is l → One a → Longer (l ++ a ∷ []))
      → ((l : List A) (a : A) (q : Place) → Lacks l q ⊎ OneLacks a q → Lacks (l ++ a ∷ []) q)
      → ((l : List A) (a : A) (q : Place) → Lacks (l ++ a ∷ []) q → Lacks l q ⊎ OneLacks a q)
      → ((q : Place) → CrossesAt q ⊎ OneCrosses q → CrossesOn q) → ((q : Place) → CrossesOn q → CrossesAt q ⊎ OneCrosses q) → IsGathered Longer Lacks CrossesOn new
  gathered_more old new (Woven a alone) h answer added longer lacks_on lacks_of crosses_on crosses_of = record {
    crossing = subst (λ (o : Option Place). IsLeast CrossesOn o) (sym added.2)
        (least_same (λ q. CrossesAt q ⊎ OneCrosses q) CrossesOn old.crossed crosses_on crosses_of (least_of CrossesAt OneCrosses old.crossed None h.crossing answer.1));
    held = λ none.
        let own = h.held (sym added.2 ∙ none) in (
          subst (λ (l : List A). Longer l) (sym added.0) (longer old.list.items a own.0 answer.0),
          subst (λ (l : List A). IsLeast (Lacks l) new.alone) (sym added.0)
              (subst (λ (o : Option Place). IsLeast (Lacks (old.list.items ++ a ∷ [])) o) (sym added.1)
              (least_same (λ q. Lacks old.list.items q ⊎ OneLacks a q) (Lacks (old.list.items ++ a ∷ [])) (earliest_of old.alone alone) (lacks_on old.list.items a) (lacks_of old.list.items a)
              (least_of (Lacks old.list.items) (OneLacks a) old.alone alone own.1 answer.2))),
        );
  }
  gathered_more old new (Crossed p) h answer added longer lacks_on lacks_of crosses_on crosses_of = record {
    crossing = subst (λ (o : Option Place). IsLeast CrossesOn o) (sym added)
        (least_same (λ q. CrossesAt q ⊎ OneCrosses q) CrossesOn (earliest old.crossed p) crosses_on crosses_of (least_of CrossesAt OneCrosses old.crossed (Some p) h.crossing answer));
    held = λ none.
        let it = earliest_is old.crossed p in
        let bad : Some it.0 ≡ None = sym it.1 ∙ sym added ∙ none in cc;
  }

pub gathered_done : {A : Type 0} (Is : List A → Type 0) (Lacks : List A → Place → Type 0) (CrossesAt : Place → Type 0) (g : Gathered A) → IsGathered Is Lacks CrossesAt g
    → IsAnswer (λ v. Is v.items) (λ v. Lacks v.items) CrossesAt (gathered_answer g.list g.alone g.crossed)
gathered_done {A} Is Lacks CrossesAt g h = by g.crossed refl
  where
    by : (o : Option Place) → g.crossed ≡ o → IsAnswer (λ v. Is v.items) (λ v. Lacks v.items) CrossesAt (gathered_answer g.list g.alone o)
    by None e = let own = h.held e in (own.0, subst (λ (o : Option Place). IsLeast CrossesAt o) e h.crossing, own.1)
    by (Some p) e = subst (λ (o : Option Place). IsLeast CrossesAt o) e h.crossing
