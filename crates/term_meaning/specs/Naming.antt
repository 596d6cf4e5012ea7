-- When an event of a term is an event of an unfolding: by the table of labels and the names of the instances.
use Rattle.std.specs.Prelude.{ℕ, List, Some, ◌≡◌, ◌⊎◌}
use Rattle.std.specs.List.{slice_get}
use Rattle.msc_base.specs.declared.label.Label.{Label}
use Rattle.msc_base.specs.Orders.{Among}
use Rattle.msc_unfolding.specs.Unfoldings.{Tag, Happening, instances_of}
use Rattle.chart_term.specs.Terms.{TermEvent}

-- the number is that of an instance of the event
abbrev pub IsInstance : TermEvent → ℕ → Type 0
IsInstance e n = (n ≡ e.at) ⊎ (e.also ≡ Some n)

-- an instance of the one event has this name
pub record IsNameOf (names : List (List ℕ)) (e : TermEvent) (i : List ℕ) : Type 0 where
  pub number : ℕ
  pub is : IsInstance e number
  pub name : slice_get names number ≡ Some i

-- the name of this number is that of an instance of the other event
pub record HasNameIn (names : List (List ℕ)) (h : Happening) (n : ℕ) : Type 0 where
  pub name : List ℕ
  pub is : slice_get names n ≡ Some name
  pub among : Among name (instances_of h)

-- the same label, and the same set of instances
pub record IsNamed (labels : List Label) (names : List (List ℕ)) (e : TermEvent) (h : Happening) : Type 0 where
  pub label : slice_get labels e.label ≡ Some h.label
  pub there : (n : ℕ) → IsInstance e n → HasNameIn names h n
  pub back : (i : List ℕ) → Among i (instances_of h) → IsNameOf names e i

-- and the tags that belong to its number
pub record IsSeen (labels : List Label) (names : List (List ℕ)) (tags : ℕ → List Tag) (e : TermEvent) (h : Happening) : Type 0 where
  pub named : IsNamed labels names e h
  pub tags_are : h.tags ≡ tags e.number
