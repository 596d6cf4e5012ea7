-- Which input takes in what an output puts out: of each message with its pairing name, the k-th input takes the k-th output.
use Rattle.std.specs.Prelude.{◌≡◌, ◌≤◌, ◌⊎◌, ⊤, ℕ, suc, Bool, true, false, ◌&&◌, List, [], ◌∷◌, take, Option, Some, None, slice_get}
use Rattle.std.specs.List.{count_by}
use Rattle.std.specs.Str.{bytes_eq}
use Rattle.msc_base.specs.declared.label.Kind.{Kind}
use Rattle.msc_base.specs.declared.label.Kind.TheVariants.{Output, Input}
use Rattle.msc_base.specs.declared.label.Pair.{Pair}
use Rattle.msc_tree.specs.declared.event.Target.{Target}
use Rattle.msc_tree.specs.declared.event.Target.TheVariants.{Instance}
use Rattle.msc_meaning.specs.Bodies.{EventNode}
use Rattle.msc_meaning.specs.EventLabels.{text_of}

-- what an output and the input that takes it in have in common
pub record Key : Type 0 where
  pub sender : List ℕ
  pub receiver : List ℕ
  pub text : List ℕ
  pub pairing : Option (List ℕ)

abbrev pub key_list : Bool → EventNode → Kind → Target → List Key
key_list true n Output (Instance far) = record { sender = n.at; receiver = far; text = text_of n; pairing = n.event.pairing } ∷ []
key_list false n Input (Instance far) = record { sender = far; receiver = n.at; text = text_of n; pairing = n.event.pairing } ∷ []
key_list _ n _ _ = []

-- the key of an output to an instance, or of an input from one; other events have none
abbrev pub output_key : EventNode → List Key
output_key n = key_list true n n.event.kind n.event.target

abbrev pub input_key : EventNode → List Key
input_key n = key_list false n n.event.kind n.event.target

abbrev pub is_same_name : Option (List ℕ) → Option (List ℕ) → Bool
is_same_name None None = true
is_same_name (Some a) (Some b) = bytes_eq a b
is_same_name _ _ = false

abbrev pub is_key : Key → List Key → Bool
is_key k [] = false
is_key k (l ∷ ls) = bytes_eq k.sender l.sender && (bytes_eq k.receiver l.receiver && (bytes_eq k.text l.text && is_same_name k.pairing l.pairing))

-- how many of the events have this key
abbrev pub count_key : (EventNode → List Key) → Key → List EventNode → ℕ
count_key key_of k ns = count_by (λ n. is_key k (key_of n)) ns

-- among the events of a level the output and the input of these numbers have one key, and for some k each is the k-th of its direction
pub record IsPaired (held : List EventNode) (p q : ℕ) : Type 0 where
  pub key : Key
  pub output : EventNode
  pub input : EventNode
  -- their positions among the events of the level
  pub output_position : ℕ
  pub input_position : ℕ
  pub output_at : slice_get held output_position ≡ Some output
  pub input_at : slice_get held input_position ≡ Some input
  pub output_number : output.number ≡ p
  pub input_number : input.number ≡ q
  pub puts : output_key output ≡ key ∷ []
  pub takes : input_key input ≡ key ∷ []
  pub ranked : count_key output_key key (take output_position held) ≡ count_key input_key key (take input_position held)

abbrev pub HasPair : List Pair → ℕ → ℕ → Type 0
HasPair [] p q = ⊥
HasPair (pair ∷ pairs) p q = ((pair.first ≡ p) × (pair.second ≡ q)) ⊎ HasPair pairs p q

-- the numbers of the outputs rise along the pairs, from n on
abbrev pub DoRise : ℕ → List Pair → Type 0
DoRise n [] = ⊤
DoRise n (x ∷ xs) = (n ≤ x.first) × DoRise (suc x.first) xs

-- the pairs are those of the level's messages, in the order of their outputs
pub record ArePairs (held : List EventNode) (pairs : List Pair) : Type 0 where
  pub rising : DoRise 0 pairs
  pub paired : (p q : ℕ) → HasPair pairs p q → IsPaired held p q
  pub every : (p q : ℕ) → IsPaired held p q → HasPair pairs p q
