-- What a key of a set tells.
use Rattle.std.specs.Prelude.{List}
use Rattle.chart_term.specs.Terms.{Tree}
use Rattle.term_sets.specs.Subsets.{all_spelled, side_by_side}
use Rattle.term_sets.specs.declared.set_key.SetKey.{SetKey}
use Rattle.term_sets.specs.declared.set_key.SetKey.TheVariants as key

-- the terms of the set that the key is of
abbrev pub told : SetKey → List Tree
told (key.Listed weight terms) = terms.items
told (key.Subsets weight whole words) = all_spelled (side_by_side whole) words.items
