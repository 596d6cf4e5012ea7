-- Serves private contracts alone.
-- Outputs and inputs by numbers: each key has a class, and a mark says the class and the direction of an event.
use Rattle.std.specs.Prelude.{◌≡◌, ◌&&◌, ℕ, suc, Bool, false, List, [], ◌∷◌, ◌++◌, length, Option, Some, None, nat_eq, option_copied, position, if◌then◌else◌}
use Rattle.msc_tree.specs.declared.event.Direction.{Direction}
use Rattle.msc_tree.specs.Directions.{is_direction}
use Rattle.column_order.specs.declared.edge.Edge.{Edge}
use Rattle.column_order.specs.Counts.{EdgeLeads}
use Rattle.msc_meaning.specs.Bodies.{EventNode}
use Rattle.level_weaving.specs.declared.matching.Mark.{Mark}
use Rattle.level_weaving.specs.declared.matching.MessageKey.{MessageKey}
use Rattle.msc_meaning.specs.Pairing.{Key}
use Rattle.level_weaving.specs.Messages.{way, key_of, is_key, IsPaired}

-- the plain key that a key stands for
abbrev pub key_view : MessageKey → Key
key_view key = record { sender = key.sender.now; receiver = key.receiver.now; text = key.text.items; pairing = option_copied key.pairing }

-- the mark says the event's direction, and its class is the place of its key among those known
abbrev pub IsMark : List Key → EventNode → Option Mark → Type 0
IsMark keys e None = way e ≡ None
IsMark keys e (Some m) = (way e ≡ Some m.direction) × (position (is_key (key_of e)) keys ≡ Some m.class)

-- the marks of the events, one after another
abbrev pub AreMarks : List Key → List EventNode → List (Option Mark) → Type 0
AreMarks keys [] [] = Unit {0}
AreMarks keys [] (m ∷ ms) = ⊥
AreMarks keys (e ∷ es) [] = ⊥
AreMarks keys (e ∷ es) (m ∷ ms) = IsMark keys e m × AreMarks keys es ms

-- the marks tell the keys of the events apart, by so many classes
pub record AreMarked (events : List EventNode) (marks : List (Option Mark)) (classes : ℕ) : Type 0 where
  pub keys : List Key
  pub are : AreMarks keys events marks
  pub count : length keys ≡ classes

-- a key that was known has the number that it had
abbrev pub KeepsNumbers : List Key → List Key → Type 0
KeepsNumbers old new = (key : Key) (n : ℕ) → position (is_key key) old ≡ Some n → position (is_key key) new ≡ Some n

-- the mark is of this class and direction
abbrev pub is_end : ℕ → Direction → Option Mark → Bool
is_end class direction None = false
is_end class direction (Some m) = is_direction direction m.direction && nat_eq m.class class

abbrev pub end_edges : Direction → ℕ → Option Mark → List Edge
end_edges direction n None = []
end_edges direction n (Some m) = if is_direction direction m.direction then (record { from = m.class; to = n }) ∷ [] else []

-- the ends of one direction, each leading from its class to its number, from this number on
abbrev pub edges_from : Direction → ℕ → List (Option Mark) → List Edge
edges_from direction n [] = []
edges_from direction n (m ∷ ms) = end_edges direction n m ++ edges_from direction (suc n) ms

-- the pairs lead from each output to its input
abbrev pub LeadsPairs : List EventNode → List Edge → Type 0
LeadsPairs events pairs = (p q : ℕ) → (EdgeLeads pairs p q → IsPaired events p q) × (IsPaired events p q → EdgeLeads pairs p q)
