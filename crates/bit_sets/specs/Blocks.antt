-- A set of instances and a set of events, each as the list of its numbers, which rises. So equal sets are equal values.
use Rattle.std.specs.List.{list_any}
use Rattle.std.specs.Ordering.{nat_cmp, ordering_then}
use Rattle.std.specs.Prelude.{ℕ, suc, zero, filter, ◌+◌, ◌-◌, ◌*◌, ◌^◌, ◌/◌, ◌%◌, ◌<◌, ◌≤◌, ◌==◌, ◌≡◌, ◌≢◌, max, nat_lt, Bool, true, false, List, [], ◌∷◌, ◌++◌, length, slice_index, slice_set, replicate, if◌then◌else◌, Option, Some, None}
use Rattle.std.specs.declared.cmp.Ordering.{Ordering}
use Rattle.std.specs.declared.cmp.Ordering.TheVariants.{Less, Equal, Greater}
use Rattle.std.specs.Int.{bit_at}
use Rattle.std.specs.Int.Bits.{bit_and, bit_or}
use Rattle.msc_base.specs.declared.limits.TheConstants.Limits.{INSTANCES}

pub record BlockValue : Type 0 where
  pub instances : List ℕ
  pub events : List ℕ

-- each number of the list is above n
abbrev pub AreAbove : ℕ → List ℕ → Type 0
AreAbove n [] = Unit {0}
AreAbove n (x ∷ xs) = (n < x) × AreAbove n xs

-- each number is below those behind it, so none comes twice
abbrev pub IsRising : List ℕ → Type 0
IsRising [] = Unit {0}
IsRising (x ∷ xs) = AreAbove x xs × IsRising xs

-- a list that rises, with one more number where it lacks it
abbrev pub insert_rising : List ℕ → ℕ → List ℕ
insert_rising [] x = x ∷ []
insert_rising (y ∷ ys) x = if nat_lt x y then x ∷ y ∷ ys else (if x == y then y ∷ ys else y ∷ insert_rising ys x)

-- each number of the list is below n
abbrev pub AreBelow : ℕ → List ℕ → Type 0
AreBelow n [] = Unit {0}
AreBelow n (x ∷ xs) = (x < n) × AreBelow n xs

-- what holds of every block
pub record IsBlock (block : BlockValue) : Type 0 where
  pub instances_rise : IsRising block.instances
  pub instances_below : AreBelow INSTANCES block.instances
  pub events_rise : IsRising block.events

-- whether words of 64 bits have the bit of that number, where the bits count from the lowest of the first word on
unfoldable pub has_bit : List ℕ → ℕ → Bool
has_bit words n = bit_at (slice_index words (n / 64)) (n % 64) == 1

-- as many numbers from the given one on, but those alone that pass the test
unfoldable pub numbers_that : (ℕ → Bool) → ℕ → ℕ → List ℕ
numbers_that test zero from = []
numbers_that test (suc count) from = if test from then from ∷ numbers_that test count (suc from) else numbers_that test count (suc from)

-- the numbers whose bits the words have
abbrev pub bits_of : List ℕ → List ℕ
bits_of words = numbers_that (has_bit words) INSTANCES 0

-- the words with the bit of that number, behind them as many words as it takes
abbrev pub with_bit : List ℕ → ℕ → List ℕ
with_bit words n = slice_set (words ++ replicate (n / 64 + 1 - length words) 0) (n / 64) (bit_or (slice_index words (n / 64)) (2 ^ (n % 64)))

-- the last of the words isn't 0
abbrev pub IsTrimmed : List ℕ → Type 0
IsTrimmed words = 0 < length words → 0 < slice_index words (length words - 1)

-- what is stored: no more words than there may be instances, the last not 0 where it isn't the first, and events that rise
pub record IsStored (words events : List ℕ) : Type 0 where
  pub few : 64 * length words ≤ INSTANCES
  pub last : 1 < length words → 0 < slice_index words (length words - 1)
  pub rising : IsRising events

-- a list that rises, with the numbers of another besides
abbrev pub insert_each : List ℕ → List ℕ → List ℕ
insert_each xs [] = xs
insert_each xs (y ∷ ys) = insert_rising (insert_each xs ys) y

-- whether the number is in the list
abbrev pub is_among : List ℕ → ℕ → Bool
is_among xs n = list_any (λ m. m == n) xs

-- whether the two lists share a number
abbrev pub share : List ℕ → List ℕ → Bool
share xs ys = list_any (is_among ys) xs

-- the numbers of the first list that the second has too
abbrev pub shared : List ℕ → List ℕ → List ℕ
shared xs ys = filter (is_among ys) xs

-- the order of sets: of the least number that only one has, the one that has it comes first
abbrev pub set_cmp : List ℕ → List ℕ → Ordering
set_cmp [] [] = Equal
set_cmp [] (y ∷ ys) = Greater
set_cmp (x ∷ xs) [] = Less
set_cmp (x ∷ xs) (y ∷ ys) = ordering_then (nat_cmp x y) (set_cmp xs ys)

-- each word has the bits of both
pub record HasBitsOfBoth (words others both : List ℕ) : Type 0 where
  pub long : length both ≡ max (length words) (length others)
  pub united : (k : ℕ) → slice_index both k ≡ bit_or (slice_index words k) (slice_index others k)

-- each word has the bits that are in both
pub record HasCommonBits (words others both : List ℕ) : Type 0 where
  pub long : length both ≤ length words
  pub common : (k : ℕ) → slice_index both k ≡ bit_and (slice_index words k) (slice_index others k)

-- from that length on no bit is in both, and the word before it has one
pub record IsCommonLength (words others : List ℕ) (count : ℕ) : Type 0 where
  pub long : count ≤ length words
  pub others_long : count ≤ length others
  pub past : (k : ℕ) → count ≤ k → bit_and (slice_index words k) (slice_index others k) ≡ 0
  pub last : 0 < count → bit_and (slice_index words (count - 1)) (slice_index others (count - 1)) ≢ 0

-- the least number whose bit only one of the two has
abbrev pub IsFirstDifference : List ℕ → List ℕ → Option ℕ → Type 0
IsFirstDifference words others None = (n : ℕ) → has_bit words n ≡ has_bit others n
IsFirstDifference words others (Some n) = (has_bit words n ≢ has_bit others n) × ((m : ℕ) → m < n → has_bit words m ≡ has_bit others m)

-- whether both have the bit of one number
abbrev pub ShareBit : List ℕ → List ℕ → Bool → Type 0
ShareBit words others true = (n : ℕ) × (has_bit words n ≡ true) × (has_bit others n ≡ true)
ShareBit words others false = (n : ℕ) → has_bit words n ≡ true → has_bit others n ≡ false
