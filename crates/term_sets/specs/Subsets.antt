-- Serves private contracts alone.
-- Terms that are some of the same events side by side, each told by a word with a bit for each of its events.
use Rattle.std.specs.Prelude.{ℕ, zero, suc, ◌/◌, ◌%◌, ◌^◌, ◌<◌, ◌≤◌, ◌==◌, Bool, true, false, List, [], ◌∷◌, ◌≡◌, length, map, slice_get, Some}
use Rattle.std.specs.declared.cmp.Ordering.{Ordering}
use Rattle.std.specs.declared.cmp.Ordering.TheVariants.{Less, Equal, Greater}
use Rattle.msc_base.specs.Lists.{AreDifferent, IsAmong}
use Rattle.msc_base.specs.Patterns.{seq, par}
use Rattle.chart_term.specs.NormalForms.{NetPermits, join_of}
use Rattle.chart_term.specs.Order.{tree_cmp}
use Rattle.chart_term.specs.Properties.{Each}
use Rattle.chart_term.specs.TermPatterns.{Both}
use Rattle.chart_term.specs.Terms.{TermEvent, Tree, Nil, Event, Join, Choice, Tied, Loop, Walk, Trees, items}
use Rattle.term_successors.specs.Successors.{AreRising}
use Rattle.term_laws.specs.Listing.{set_weight}
use Rattle.term_laws.specs.Taking.{IsAfter}

abbrev pub pick : Bool → Tree → List Tree → List Tree
pick true x xs = x ∷ xs
pick false x xs = xs

-- the items whose bits the word has; the lowest bit is the first item's
abbrev pub picked : List Tree → ℕ → List Tree
picked [] w = []
picked (x ∷ xs) w = pick (w % 2 == 1) x (picked xs (w / 2))

-- the term of a word: the events whose bits it has, side by side
abbrev pub spelled : List Tree → ℕ → Tree
spelled events w = join_of par (picked events w)

abbrev pub put_by : Ordering → Tree → Tree → List Tree → List Tree → List Tree
put_by Less x y ys r = x ∷ y ∷ ys
put_by Equal x y ys r = y ∷ ys
put_by Greater x y ys r = y ∷ r

-- terms in their order, with one more
abbrev pub put_in : Tree → List Tree → List Tree
put_in x [] = x ∷ []
put_in x (y ∷ ys) = put_by (tree_cmp x y) x y ys (put_in x ys)

-- terms in their order, each once
abbrev pub in_order : List Tree → List Tree
in_order [] = []
in_order (x ∷ xs) = put_in x (in_order xs)

-- the terms of the words, in their order
abbrev pub all_spelled : List Tree → List ℕ → List Tree
all_spelled events words = in_order (map (spelled events) words)

-- the term is an event
abbrev pub IsEvent : Tree → Type 0
IsEvent x = (e : TermEvent) × (x ≡ Event e)

-- a word has bits of these events alone, and as many
pub record IsWord (events : List Tree) (size w : ℕ) : Type 0 where
  pub below : w < 2 ^ length events
  pub size_is : length (picked events w) ≡ size

-- the parts of a term that is some side by side
abbrev pub side_by_side : Tree → List Tree
side_by_side Nil = []
side_by_side (Event e) = []
side_by_side (Join seq xs) = []
side_by_side (Join par xs) = items xs
side_by_side (Choice xs) = []
side_by_side (Tied x q) = []
side_by_side (Loop x lo hi r) = []
side_by_side (Walk n f t c) = []

-- the term is some parts side by side
abbrev pub IsSideBySide : Tree → Type 0
IsSideBySide x = (xs : Trees) × (x ≡ Join par xs)

-- different events, and different words of as many of them
pub record AreSubsets (events : List Tree) (size : ℕ) (words : List ℕ) : Type 0 where
  pub each : Each IsEvent events
  pub apart : AreDifferent events
  pub few : length events ≤ 64
  pub low : size ≤ 64
  pub are_words : (w : ℕ) → IsAmong words w → IsWord events size w
  pub different : AreDifferent words

-- the weight of this many events side by side
abbrev pub weight_of_size : ℕ → ℕ
weight_of_size zero = 1
weight_of_size (suc zero) = 1
weight_of_size (suc (suc n)) = suc (suc (suc n))

-- the term is an event with the label
abbrev pub IsLabelled : ℕ → Tree → Type 0
IsLabelled a x = (e : TermEvent) × (x ≡ Event e) × (e.label ≡ a)

-- at the index there is an event with the label
abbrev pub HasLabelled : List Tree → ℕ → ℕ → Type 0
HasLabelled events a i = (x : Tree) × (slice_get events i ≡ Some x) × IsLabelled a x

-- exactly the indexes of the events with the label, all below 64
pub record AreBits (events : List Tree) (a : ℕ) (bits : List ℕ) : Type 0 where
  pub below : (i : ℕ) → IsAmong bits i → i < 64
  pub exact : (i : ℕ) → Both (IsAmong bits i) (HasLabelled events a i)

-- the term is left of another after an event with the label
pub record IsLeft (k : NetPermits) (a : ℕ) (x y : Tree) : Type 0 where
  pub event : TermEvent
  pub labelled : event.label ≡ a
  pub after : IsAfter k x event y

-- the term is left of one of these after an event with the label
pub record IsTaken (k : NetPermits) (a : ℕ) (terms : List Tree) (y : Tree) : Type 0 where
  pub term : Tree
  pub held : IsAmong terms term
  pub left : IsLeft k a term y

-- exactly what is left of the terms, which isn't too heavy
pub record AreAllTaken (k : NetPermits) (a : ℕ) (terms : List Tree) (most : ℕ) (found : List Tree) : Type 0 where
  pub exact : (y : Tree) → Both (IsAmong found y) (IsTaken k a terms y)
  pub within : set_weight found ≤ most

-- some of what is left of the terms, which is too heavy
pub record IsTooMuch (k : NetPermits) (a : ℕ) (terms : List Tree) (most : ℕ) : Type 0 where
  pub some : List Tree
  pub rising : AreRising some
  pub each : (y : Tree) → IsAmong some y → IsTaken k a terms y
  pub above : most < set_weight some
