-- Patterns of terms: events with numbers, and pairs of numbers that tie them.
use Rattle.std.specs.Prelude.{ℕ, Bool, true, false, List, [], ◌∷◌, ◌≡◌, Option, Some, None, ◌||◌, ◌&&◌, ◌==◌, ◌⊎◌}
use Rattle.msc_base.specs.Patterns.{Mode, seq, par, Pattern, empty, one, join, bind, Reading}
use Rattle.chart_term.specs.Terms.{TermEvent, Block, hits}

-- a pattern of a term: its ties are pairs of event numbers
abbrev pub Shape : Type 0
Shape = Pattern TermEvent (List (ℕ × ℕ))

-- no event has one of its instances or its number in the block
abbrev pub Avoids : Block → Shape → Type 0
Avoids b empty = Unit {0}
Avoids b (one e) = hits b e ≡ false
Avoids b (join m x y) = Avoids b x × Avoids b y
Avoids b (bind x q) = Avoids b x

-- the one number, or none
abbrev pub some_list : Option ℕ → List ℕ
some_list None = []
some_list (Some n) = n ∷ []

-- the instances of an event
abbrev pub instances_of : TermEvent → Block
instances_of e = record { instances = e.at ∷ some_list e.also; numbers = [] }

-- the numbers that stand before n in these pairs
abbrev pub put_if : Bool → ℕ → List ℕ → List ℕ
put_if true k ns = k ∷ ns
put_if false k ns = ns

-- the numbers that stand before n in these pairs
abbrev pub before_in : List (ℕ × ℕ) → ℕ → List ℕ
before_in [] n = []
before_in (p ∷ q) n = put_if (n == p.1) p.0 (before_in q n)

-- the block of the numbers that are to come before the event
abbrev pub earlier : List (ℕ × ℕ) → TermEvent → Block
earlier q e = record { instances = []; numbers = before_in q e.number }

-- what stands before an event in a join lets it go
abbrev pub Lets : Mode → TermEvent → Shape → Type 0
Lets seq e x = Avoids (instances_of e) x
Lets par e x = Unit {0}

-- a minimal event is taken out of the first, and leaves the second
pub data Takes : Shape → TermEvent → Shape → Type 0 where
  take_one : {e : TermEvent} → Takes (one e) e empty
  take_first : {m : Mode} {x x' y : Shape} {e : TermEvent} → Takes x e x' → Takes (join m x y) e (join m x' y)
  take_later : {m : Mode} {x y y' : Shape} {e : TermEvent} → Lets m e x → Takes y e y' → Takes (join m x y) e (join m x y')
  take_bind : {x x' : Shape} {e : TermEvent} {q : List (ℕ × ℕ)} → Takes x e x' → Avoids (earlier q e) x → Takes (bind x q) e (bind x' q)

-- a number of an event
abbrev pub Occurs : ℕ → Shape → Type 0
Occurs n empty = ⊥
Occurs n (one e) = n ≡ e.number
Occurs n (join m x y) = Occurs n x ⊎ Occurs n y
Occurs n (bind x q) = Occurs n x

-- the pairs say the same of two numbers
abbrev pub pairs : List (ℕ × ℕ) → ℕ → ℕ → Bool
pairs [] m n = false
pairs (p ∷ q) m n = ((m == p.0) && (n == p.1)) || pairs q m n

-- the pairs say the same of the events of a pattern
abbrev pub Agree : List (ℕ × ℕ) → List (ℕ × ℕ) → Shape → Type 0
Agree q r x = (m n : ℕ) → Occurs m x → Occurs n x → pairs q m n ≡ pairs r m n

-- the same events in the same order, and the same pairs
pub data ◌≈◌ : Shape → Shape → Type 0 where
  same : {x : Shape} → ◌≈◌ x x
  back : {x y : Shape} → ◌≈◌ x y → ◌≈◌ y x
  on : {x y z : Shape} → ◌≈◌ x y → ◌≈◌ y z → ◌≈◌ x z
  in_join : {m : Mode} {x x' y y' : Shape} → ◌≈◌ x x' → ◌≈◌ y y' → ◌≈◌ (join m x y) (join m x' y')
  in_bind : {x x' : Shape} {q : List (ℕ × ℕ)} → ◌≈◌ x x' → ◌≈◌ (bind x q) (bind x' q)
  assoc : {m : Mode} {x y z : Shape} → ◌≈◌ (join m (join m x y) z) (join m x (join m y z))
  left : {m : Mode} {x : Shape} → ◌≈◌ (join m empty x) x
  right : {m : Mode} {x : Shape} → ◌≈◌ (join m x empty) x
  bind_none : {x : Shape} → ◌≈◌ (bind x []) x
  bind_as : {x : Shape} {q r : List (ℕ × ℕ)} → Agree q r x → ◌≈◌ (bind x q) (bind x r)

infix 20 ◌≈◌
-- how events of terms and pairs of numbers are read
abbrev pub numbered : Reading TermEvent (List (ℕ × ℕ))
numbered = record {
  meets = λ e f. hits (instances_of f) e;
  adds = λ r e f. pairs r e.number f.number;
  carries = λ r e. e;
}

-- each of the two gives the other
pub record Both (A B : Type 0) : Type 0 where
  pub to : A → B
  pub from : B → A

-- no event is in the pattern
abbrev pub HasNoEvent : Shape → Type 0
HasNoEvent empty = Unit {0}
HasNoEvent (one e) = ⊥
HasNoEvent (join m x y) = HasNoEvent x × HasNoEvent y
HasNoEvent (bind x q) = HasNoEvent x

-- a number of one of the pairs
abbrev pub InPairs : ℕ → List (ℕ × ℕ) → Type 0
InPairs j [] = ⊥
InPairs j (p ∷ q) = ((j ≡ p.0) ⊎ (j ≡ p.1)) ⊎ InPairs j q
