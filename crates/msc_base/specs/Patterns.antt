-- Patterns: events joined one after another or side by side, with ties above them. E is the type of an event, Q that of a tie.
use Rattle.std.specs.Prelude.{◌≡◌, ◌⊎◌, Bool, true}
use Rattle.std.proofs.Common.{inl, inr}

-- how two parts are joined: one after another (weak sequence), or side by side
pub data Mode : Type 0 where
  seq : Mode
  par : Mode

pub data Pattern (E Q : Type 0) : Type 0 where
  empty : Pattern E Q
  one : E → Pattern E Q
  join : Mode → Pattern E Q → Pattern E Q → Pattern E Q
  bind : Pattern E Q → Q → Pattern E Q

-- a position of a pattern, one for each event
abbrev pub Position : {E Q : Type 0} → Pattern E Q → Type 0
Position empty = ⊥
Position (one e) = Unit {0}
Position (join m x y) = Position x ⊎ Position y
Position (bind x q) = Position x

-- how events and ties are read
pub record Reading (E Q : Type 0) : Type 0 where
  -- the two events share an instance
  pub meets : E → E → Bool
  -- the tie puts the first event before the second
  pub adds : Q → E → E → Bool
  -- the event as it stands above the tie
  pub carries : Q → E → E

-- the event at a position, as it stands above all ties
abbrev pub event_at : {E Q : Type 0} → Reading E Q → (s : Pattern E Q) → Position s → E
event_at r (one e) p = e
event_at r (join m x y) (inl p) = event_at r x p
event_at r (join m x y) (inr p) = event_at r y p
event_at r (bind x q) p = r.carries q (event_at r x p)
event_at r empty p = absurd p

-- one after another, two events that share an instance are in order; side by side no two are
abbrev pub Crosses : {E Q : Type 0} → Reading E Q → Mode → E → E → Type 0
Crosses r seq e f = r.meets e f ≡ true
Crosses r par e f = ⊥

-- the pairs of a pattern: the first position is to stand before the second
abbrev pub Before : {E Q : Type 0} → (r : Reading E Q) → (s : Pattern E Q) → Position s → Position s → Type 0
Before r empty p q = ⊥
Before r (one e) p q = ⊥
Before r (join m x y) (inl p) (inl q) = Before r x p q
Before r (join m x y) (inl p) (inr q) = Crosses r m (event_at r x p) (event_at r y q)
Before r (join m x y) (inr p) (inl q) = ⊥
Before r (join m x y) (inr p) (inr q) = Before r y p q
Before r (bind x t) p q = Before r x p q ⊎ (r.adds t (event_at r x p) (event_at r x q) ≡ true)
