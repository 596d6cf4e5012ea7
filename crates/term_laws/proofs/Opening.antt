-- What holds of each term holds of each part where joins and choices are opened.
use Rattle.std.specs.Prelude.{Bool, true, false, List, [], ◌∷◌, ◌++◌}
use Rattle.msc_base.specs.Patterns.{Mode, seq, par}
use Rattle.chart_term.specs.Equality.{same_tree}
use Rattle.chart_term.specs.NormalForms.{open_part, flat, unless_same, without, distinct, open_choice, open_choices}
use Rattle.chart_term.specs.Properties.{Each}
use Rattle.chart_term.specs.Terms.{Tree, Nil, Event, Join, Choice, Tied, Loop, Walk, Trees, items}

module _ (P : Tree → Type 0) where
  pub each_app : (xs ys : List Tree) → Each P xs → Each P ys → Each P (xs ++ ys)
  each_app [] ys h i = i
  each_app (x ∷ xs) ys h i = (h.0, each_app xs ys h.1 i)

  -- where a join has it, each of its parts does
  module _ (m : Mode) (out : (xs : Trees) → P (Join m xs) → Each P (items xs)) where
    pub each_open : (x : Tree) → P x → Each P (open_part m x)
    each_open x h = go m x out h
      where
        go : (m : Mode) (x : Tree) → ((xs : Trees) → P (Join m xs) → Each P (items xs)) → P x → Each P (open_part m x)
        go m Nil out h = tt
        go seq (Join seq xs) out h = out xs h
        go seq (Join par xs) out h = (h, tt)
        go par (Join seq xs) out h = (h, tt)
        go par (Join par xs) out h = out xs h
        go m (Event e) out h = (h, tt)
        go m (Choice xs) out h = (h, tt)
        go m (Tied x q) out h = (h, tt)
        go m (Loop x lo hi r) out h = (h, tt)
        go m (Walk n f t c) out h = (h, tt)

    pub each_flat : (xs : List Tree) → Each P xs → Each P (flat m xs)
    each_flat [] h = tt
    each_flat (x ∷ xs) h = each_app (open_part m x) (flat m xs) (each_open x h.0) (each_flat xs h.1)

  -- where a choice has it, each of its parts does
  module _ (out : (xs : Trees) → P (Choice xs) → Each P (items xs)) where
    each_alone : (x : Tree) → P x → Each P (open_choice x)
    each_alone (Choice xs) h = out xs h
    each_alone Nil h = (h, tt)
    each_alone (Event e) h = (h, tt)
    each_alone (Join m xs) h = (h, tt)
    each_alone (Tied x q) h = (h, tt)
    each_alone (Loop x lo hi r) h = (h, tt)
    each_alone (Walk n f t c) h = (h, tt)

    pub each_choices : (xs : List Tree) → Each P xs → Each P (open_choices xs)
    each_choices [] h = tt
    each_choices (x ∷ xs) h = each_app (open_choice x) (open_choices xs) (each_alone x h.0) (each_choices xs h.1)

  each_unless : (t : Bool) (y : Tree) (ys : List Tree) → P y → Each P ys → Each P (unless_same t y ys)
  each_unless true y ys h i = i
  each_unless false y ys h i = (h, i)

  pub each_without : (x : Tree) (ys : List Tree) → Each P ys → Each P (without x ys)
  each_without x [] h = tt
  each_without x (y ∷ ys) h = each_unless (same_tree x y) y (without x ys) h.0 (each_without x ys h.1)

  pub each_distinct : (xs : List Tree) → Each P xs → Each P (distinct xs)
  each_distinct [] h = tt
  each_distinct (x ∷ xs) h = (h.0, each_without x (distinct xs) (each_distinct xs h.1))
