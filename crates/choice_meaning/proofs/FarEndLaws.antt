-- Unfoldings that are alike begin at the same instances.
use Rattle.std.specs.Prelude.{◌≡◌, List, ◌∷◌, Option}
use Rattle.std.specs.Option.{option_to_list}
use Rattle.std.proofs.Common.{ap, ◌∙◌, inl, inr}
use Rattle.msc_base.specs.Patterns.{Mode, seq, par, Position, event_at, Before, Crosses}
use Rattle.msc_unfolding.specs.Unfoldings.{Happening, Tag, Tie, Unfolding, instances_of, joins, past_all, plain, share}
use Rattle.choice_meaning.specs.FarEndLaws.{Alike, no_events, one_event, in_join, in_tie, SamePlace, FarEndsChangeNothing}
use Rattle.choice_meaning.proofs.AlikeUnfoldings.{items_like, level_like}

abbrev to : {u v : Unfolding} → Alike u v → Position u → Position v
to (one_event h) p = p
to (in_join h k) (inl p) = inl (to h p)
to (in_join h k) (inr p) = inr (to k p)
to (in_tie h) p = to h p
to no_events p = p

abbrev from : {u v : Unfolding} → Alike u v → Position v → Position u
from (one_event h) p = p
from (in_join h k) (inl p) = inl (from h p)
from (in_join h k) (inr p) = inr (from k p)
from (in_tie h) p = from h p
from no_events p = p

above : (t : Tie) (h g : Happening) → SamePlace h g → SamePlace (plain.carries t h) (plain.carries t g)
above t h g s = record { at = s.at; also = s.also; tags = ap (past_all t.past) s.tags }

same_event : {u v : Unfolding} (h : Alike u v) (p : Position u) → SamePlace (event_at plain u p) (event_at plain v (to h p))
same_event (one_event h) p = h
same_event (in_join h k) (inl p) = same_event h p
same_event (in_join h k) (inr p) = same_event k p
same_event (in_tie {t} {u} {v} h) p = above t (event_at plain u p) (event_at plain v (to h p)) (same_event h p)
same_event no_events p = absurd p

-- the same from the other side
same_back : {u v : Unfolding} (h : Alike u v) (q : Position v) → SamePlace (event_at plain u (from h q)) (event_at plain v q)
same_back (one_event h) p = h
same_back (in_join h k) (inl p) = same_back h p
same_back (in_join h k) (inr p) = same_back k p
same_back (in_tie {t} {u} {v} h) q = above t (event_at plain u (from h q)) (event_at plain v q) (same_back h q)
same_back no_events p = absurd p

same_instances : (h g : Happening) → SamePlace h g → instances_of h ≡ instances_of g
same_instances h g s = ap (λ (i : List _). i ∷ option_to_list h.also) s.at ∙ ap (λ (o : Option (List _)). g.label.at ∷ option_to_list o) s.also

meets_back : (h g i j : Happening) → SamePlace h i → SamePlace g j → plain.meets h g ≡ plain.meets i j
meets_back h g i j s t = ap (λ (is : List (List _)). share is (instances_of g)) (same_instances h i s) ∙ ap (λ (js : List (List _)). share (instances_of i) js) (same_instances g j t)

adds_back : (t : Tie) (h g i j : Happening) → SamePlace h i → SamePlace g j → plain.adds t h g ≡ plain.adds t i j
adds_back t h g i j s k = ap (λ (as_ : List Tag). joins t.pairs as_ g.tags) s.tags ∙ ap (λ (bs : List Tag). joins t.pairs i.tags bs) k.tags

crosses_back : (m : Mode) (h g i j : Happening) → SamePlace h i → SamePlace g j → Crosses plain m i j → Crosses plain m h g
crosses_back seq h g i j s t c = meets_back h g i j s t ∙ c
crosses_back par h g i j s t c = c

-- what comes before the place of a position comes before the position
before_back : {u v : Unfolding} (h : Alike u v) (q : Position v) (p : Position u) → Before plain v q (to h p) → Before plain u (from h q) p
before_back (in_join h k) (inl q) (inl p) b = before_back h q p b
before_back (in_join {m} {u} {v} {w} {x} h k) (inl q) (inr p) b =
    crosses_back m (event_at plain u (from h q)) (event_at plain w p) (event_at plain v q) (event_at plain x (to k p)) (same_back h q) (same_event k p) b
before_back (in_join h k) (inr q) (inl p) b = b
before_back (in_join h k) (inr q) (inr p) b = before_back k q p b
before_back (in_tie {t} {u} {v} h) q p (inl b) = inl (before_back h q p b)
before_back (in_tie {t} {u} {v} h) q p (inr b) = inr (adds_back t (event_at plain u (from h q)) (event_at plain u p) (event_at plain v q) (event_at plain v (to h p)) (same_back h q) (same_event h p) ∙ b)
before_back (one_event h) q p b = b
before_back no_events q p b = absurd q

pub far_ends_change_nothing : FarEndsChangeNothing
far_ends_change_nothing = record {
  levels = λ table a b body u h. level_like table b h;
  items = λ table gates a b held u h. items_like table b h;
  begins = λ u v h p f. record { position = to h p; first = λ q b. f (from h q) (before_back h q p b); at = (same_event h p).at };
}
