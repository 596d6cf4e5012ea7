-- The facts that a node of a term stores beside its parts.
use Rattle.std.specs.List.{list_any}
use Rattle.std.specs.Prelude.{ℕ, ◌+◌, ◌*◌, ◌/◌, ◌%◌, ◌^◌, ◌≡◌, Bool, false, List, [], ◌∷◌, Option, Some, None, ◌||◌, ◌&&◌, ◌⊎◌, not, min, max, nat_le}
use Rattle.msc_base.specs.Stored.{most_stored}
use Rattle.bit_sets.specs.Blocks.{BlockValue, is_among, share}
use Rattle.term_facts.specs.declared.facts.Facts.{Facts}
use Rattle.term_facts.specs.declared.facts.Ranges.{Ranges}
use Rattle.term_facts.specs.declared.facts.Span.{Span}

-- from the least to the greatest number of both
abbrev pub wider : Option Span → Option Span → Option Span
wider None s = s
wider (Some r) None = Some r
wider (Some r) (Some s) = Some (record { least = min r.least s.least; greatest = max r.greatest s.greatest })

-- the least and the greatest of the numbers, none of no numbers
abbrev pub span_of : List ℕ → Option Span
span_of [] = None
span_of (n ∷ ns) = wider (Some (record { least = n; greatest = n })) (span_of ns)

-- the number lies from the least to the greatest
abbrev pub lies_in : Option Span → ℕ → Bool
lies_in None n = false
lies_in (Some s) n = nat_le s.least n && nat_le n s.greatest

-- the range of the numbers of some events
abbrev pub numbers_in : Option Ranges → Option Span
numbers_in None = None
numbers_in (Some r) = Some r.numbers

-- the range of the labels of some events
abbrev pub labels_in : Option Ranges → Option Span
labels_in None = None
labels_in (Some r) = Some r.labels

-- an event number, spread over 64 bits, then multiplied twice, since for sets of numbers in a row sums of squares often agree
unfoldable pub number_spread : ℕ → ℕ
number_spread n = let s = ((n + 1) * 11400714819323198485) % 2 ^ 64 in let t = ((s / 2 ^ 32) * s) % 2 ^ 64 in ((t / 2 ^ 32) * s) % 2 ^ 64

-- what an event number adds to a code: one of 32 bits, by which the order of codes keeps sets together that differ little, and below
-- them bits by which numbers differ that have the same one
unfoldable pub number_code : ℕ → ℕ
number_code n = (2 ^ (32 + n % 32) + number_spread n / 2 ^ 37) % 2 ^ 64

-- the code of event numbers, the same in each order of them: equal terms have equal codes, and different terms may
abbrev pub numbers_code : List ℕ → ℕ
numbers_code [] = 0
numbers_code (n ∷ ns) = (number_code n + numbers_code ns) % 2 ^ 64

-- facts of a weight, of whether there is a walk, of these instances, of these event numbers and of these labels
pub record AreFacts (w : ℕ) (walks : Bool) (places ns ls : List ℕ) (f : Facts) : Type 0 where
  pub weight : f.weight ≡ min w most_stored
  pub trail : f.holds_walk ≡ walks
  pub instances : (n : ℕ) → is_among f.instances.instances n ≡ is_among places n
  pub span : numbers_in f.ranges ≡ span_of ns
  pub labels : labels_in f.ranges ≡ span_of ls
  pub code : f.code ≡ numbers_code ns

-- the new facts are the old ones and those of another term together
pub record Adds (old other new : Facts) : Type 0 where
  pub weight : new.weight ≡ min (old.weight + other.weight) most_stored
  pub trail : new.holds_walk ≡ (old.holds_walk || other.holds_walk)
  pub instances : (n : ℕ) → is_among new.instances.instances n ≡ (is_among old.instances.instances n || is_among other.instances.instances n)
  pub span : numbers_in new.ranges ≡ wider (numbers_in old.ranges) (numbers_in other.ranges)
  pub labels : labels_in new.ranges ≡ wider (labels_in old.ranges) (labels_in other.ranges)
  pub code : new.code ≡ (old.code + other.code) % 2 ^ 64

-- no event of the block can hit a term with these facts: it holds no walk, and the block has none of its instances and no number of its range
abbrev pub facts_miss : BlockValue → Facts → Bool
facts_miss b f = (not f.holds_walk && not (share b.instances f.instances.instances)) && not (list_any (lies_in (numbers_in f.ranges)) b.events)

-- whether a term with these facts may have an event with that label
abbrev pub facts_may : ℕ → Facts → Bool
facts_may a f = f.holds_walk || lies_in (labels_in f.ranges) a

-- a term with these facts holds no walk, and its events are at these instances alone
pub record FactsWithin (c : List ℕ) (f : Facts) : Type 0 where
  pub trail : f.holds_walk ≡ false
  pub instances : f.instances.instances ≡ c

-- a search for the label passes over terms with these facts
abbrev pub FactsPassed : ℕ → List ℕ → Facts → Type 0
FactsPassed a c f = (facts_may a f ≡ false) ⊎ FactsWithin c f
