-- The events of a chart's unfoldings, and what ties them.
use Rattle.std.specs.Prelude.{ℕ, Bool, false, List, [], ◌∷◌, Option, ◌&&◌, ◌==◌}
use Rattle.std.specs.List.{flat_map, list_any}
use Rattle.std.specs.Str.{bytes_eq}
use Rattle.std.specs.Option.{option_to_list}
use Rattle.msc_base.specs.declared.label.Label.{Label}
use Rattle.msc_base.specs.Patterns.{Pattern, Reading}

-- a tag serves the joining of events alone: the event's own number in its chart; a gate of the level in which it stands;
-- a gate of a reference or an inline expression of that level
pub data Tag : Type 0 where
  Own : ℕ → Tag
  Via : List ℕ → Tag
  On : List ℕ → List ℕ → Tag

-- an event: its label, a second instance where it has one (a creation has), and its tags
pub record Happening : Type 0 where
  pub label : Label
  pub also : Option (List ℕ)
  pub tags : List Tag

-- pairs of tags, and what becomes of a tag above the tie
pub record Tie : Type 0 where
  pub pairs : List (Tag × Tag)
  pub past : Tag → List Tag

abbrev pub Unfolding : Type 0
Unfolding = Pattern Happening Tie

abbrev pub is_same_tag : Tag → Tag → Bool
is_same_tag (Own m) (Own n) = m == n
is_same_tag (Via g) (Via h) = bytes_eq g h
is_same_tag (On z g) (On y h) = bytes_eq z y && bytes_eq g h
is_same_tag _ _ = false

abbrev pub is_pair : List (Tag × Tag) → Tag → Tag → Bool
is_pair ps a b = list_any (λ p. (is_same_tag a p.0 && is_same_tag b p.1)) ps

-- a tag of the first and a tag of the second are a pair
abbrev pub joins : List (Tag × Tag) → List Tag → List Tag → Bool
joins ps as_ bs = list_any (λ a. list_any (is_pair ps a) bs) as_

abbrev pub past_all : (Tag → List Tag) → List Tag → List Tag
past_all f as_ = flat_map f as_

-- the instances of an event
abbrev pub instances_of : Happening → List (List ℕ)
instances_of h = h.label.at ∷ option_to_list h.also

-- they have an instance in common
abbrev pub share : List (List ℕ) → List (List ℕ) → Bool
share is js = list_any (λ i. list_any (bytes_eq i) js) is

-- how unfoldings are read
abbrev pub plain : Reading Happening Tie
plain = record {
  meets = λ g h. share (instances_of g) (instances_of h);
  adds = λ t g h. joins t.pairs g.tags h.tags;
  carries = λ t h. record { label = h.label; also = h.also; tags = past_all t.past h.tags };
}

-- gate tags stay above their level, own tags and tags of its references don't
abbrev pub past_level : Tag → List Tag
past_level (Own n) = []
past_level (Via g) = Via g ∷ []
past_level (On z g) = []

-- what binds the events of a level
abbrev pub level_tie : List (Tag × Tag) → Tie
level_tie ps = record { pairs = ps; past = past_level }
