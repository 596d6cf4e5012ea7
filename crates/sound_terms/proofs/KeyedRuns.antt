-- A pattern whose positions have keys that rise along its order has a linear order.
use Rattle.std.specs.Prelude.{ℕ, zero, suc, ◌+◌, ◌≤◌, ◌<◌, true, List, [], ◌∷◌, ◌≡◌, ◌⊎◌}
use Rattle.std.proofs.Common.{ap, sym, ◌∙◌, inl, inr, arith, refl}
use Rattle.msc_base.specs.Patterns.{Mode, seq, empty, one, join, bind, Position, event_at, Before, Crosses}
use Rattle.chart_term.specs.TermPatterns.{numbered, Shape, pairs}
use Rattle.chart_term.specs.TermRuns.{Runs, run_end, run_take, taken_out}
use Rattle.chart_term.specs.Terms.{TermEvent}
use Rattle.chart_term.proofs.Arranging.{keep, before_keep, no_position}
use Rattle.chart_term.proofs.Positions.{minimal_taken}

abbrev pub Key : Type 0
Key = List ℕ

-- by the first number in which they differ
abbrev pub Lower : Key → Key → Type 0
Lower [] [] = ⊥
Lower [] (b ∷ l) = Unit {0}
Lower (a ∷ k) [] = ⊥
Lower (a ∷ k) (b ∷ l) = (a < b) ⊎ ((a ≡ b) × Lower k l)

three : (a b : ℕ) → (a < b) ⊎ ((a ≡ b) ⊎ (b < a))
three a b = grind arith

irr : (a : ℕ) → a < a → ⊥
irr a h = omega arith

lt_trans : (a b c : ℕ) → a < b → b < c → a < c
lt_trans a b c h k = omega arith

lt_as : (a b c : ℕ) → a ≡ b → b < c → a < c
lt_as a b c h k = omega arith

lt_to : (a b c : ℕ) → a < b → b ≡ c → a < c
lt_to a b c h k = omega arith

pub lower_trans : (k l m : Key) → Lower k l → Lower l m → Lower k m
lower_trans [] [] m h i = absurd h
lower_trans [] (b ∷ l) [] h i = absurd i
lower_trans [] (b ∷ l) (c ∷ m) h i = tt
lower_trans (a ∷ k) [] m h i = absurd h
lower_trans (a ∷ k) (b ∷ l) [] h i = absurd i
lower_trans (a ∷ k) (b ∷ l) (c ∷ m) (inl h) (inl i) = inl (lt_trans a b c h i)
lower_trans (a ∷ k) (b ∷ l) (c ∷ m) (inl h) (inr (i, j)) = inl (lt_to a b c h i)
lower_trans (a ∷ k) (b ∷ l) (c ∷ m) (inr (h, g)) (inl i) = inl (lt_as a b c h i)
lower_trans (a ∷ k) (b ∷ l) (c ∷ m) (inr (h, g)) (inr (i, j)) = inr (h ∙ i, lower_trans k l m g j)

-- of two keys one is lower, or they are the same
pub lower_or : (k l : Key) → Lower k l ⊎ ((k ≡ l) ⊎ Lower l k)
lower_or [] [] = inr (inl refl)
lower_or [] (b ∷ l) = inl tt
lower_or (a ∷ k) [] = inr (inr tt)
lower_or (a ∷ k) (b ∷ l) = pick (three a b) (lower_or k l)
  where
    pick : (a < b) ⊎ ((a ≡ b) ⊎ (b < a)) → Lower k l ⊎ ((k ≡ l) ⊎ Lower l k) → Lower (a ∷ k) (b ∷ l) ⊎ ((a ∷ k ≡ b ∷ l) ⊎ Lower (b ∷ l) (a ∷ k))
    pick (inl h) i = inl (inl h)
    pick (inr (inl h)) (inl i) = inl (inr (h, i))
    pick (inr (inl h)) (inr (inl i)) = inr (inl (ap (λ c. c ∷ k) h ∙ ap (λ m. b ∷ m) i))
    pick (inr (inl h)) (inr (inr i)) = inr (inr (inr (sym h, i)))
    pick (inr (inr h)) i = inr (inr (inl h))

pub lower_not : (k : Key) → Lower k k → ⊥
lower_not [] h = h
lower_not (a ∷ k) (inl h) = irr a h
lower_not (a ∷ k) (inr (e, h)) = lower_not k h

-- the keys rise along the order
abbrev pub Rises : (s : Shape) → (Position s → Key) → Type 0
Rises s key = (p q : Position s) → Before numbered s p q → Lower (key p) (key q)

-- no position is lower
abbrev Least : (s : Shape) → (Position s → Key) → Position s → Type 0
Least s key p = (q : Position s) → Lower (key q) (key p) → ⊥

abbrev pub Found : (s : Shape) → (Position s → Key) → Type 0
Found s key = (Position s → ⊥) ⊎ ((p : Position s) × Least s key p)

find : (s : Shape) (key : Position s → Key) → Found s key
find empty key = inl (λ p. p)
find (one e) key = inr (tt, λ q h. lower_not (key tt) h)
find (join m x y) key = both (find x (λ p. key (inl p))) (find y (λ p. key (inr p)))
  where
    both : Found x (λ p. key (inl p)) → Found y (λ p. key (inr p)) → Found (join m x y) key
    both (inl h) (inl i) = inl (λ p. elim p [ inl a ↦ h a | inr b ↦ i b ])
    both (inl h) (inr (q, i)) = inr (inr q, least)
      where
        least : (p : Position x ⊎ Position y) → Lower (key p) (key (inr q)) → ⊥
        least (inl p) l = h p
        least (inr p) l = i p l
    both (inr (p, h)) (inl i) = inr (inl p, least)
      where
        least : (q : Position x ⊎ Position y) → Lower (key q) (key (inl p)) → ⊥
        least (inl q) l = h q l
        least (inr q) l = i q
    both (inr (p, h)) (inr (q, i)) = pick (lower_or (key (inl p)) (key (inr q)))
      where
        first : ((k : Position y) → Lower (key (inr k)) (key (inl p)) → Lower (key (inr k)) (key (inr q))) → (c : Position x ⊎ Position y) → Lower (key c) (key (inl p)) → ⊥
        first f (inl c) l = h c l
        first f (inr c) l = i c (f c l)

        second : Lower (key (inr q)) (key (inl p)) → (c : Position x ⊎ Position y) → Lower (key c) (key (inr q)) → ⊥
        second g (inl c) l = h c (lower_trans (key (inl c)) (key (inr q)) (key (inl p)) l g)
        second g (inr c) l = i c l

        moved : (a b c : Key) → b ≡ c → Lower a b → Lower a c
        moved a b c e l = rw e at l

        pick : Lower (key (inl p)) (key (inr q)) ⊎ ((key (inl p) ≡ key (inr q)) ⊎ Lower (key (inr q)) (key (inl p))) → Found (join m x y) key
        pick (inl g) = inr (inl p, first (λ c l. lower_trans (key (inr c)) (key (inl p)) (key (inr q)) l g))
        pick (inr (inl e)) = inr (inl p, first (λ c l. moved (key (inr c)) (key (inl p)) (key (inr q)) e l))
        pick (inr (inr g)) = inr (inr q, second g)
find (bind x r) key = find x key

abbrev pub count : Shape → ℕ
count empty = 0
count (one e) = 1
count (join m x y) = count x + count y
count (bind x q) = count x

count_rest : (s : Shape) (p : Position s) → suc (count (taken_out s p)) ≡ count s
count_rest empty p = absurd p
count_rest (one e) p = refl
count_rest (join m x y) (inl p) = less (count_rest x p)
  where
    less : suc (count (taken_out x p)) ≡ count x → suc (count (taken_out x p) + count y) ≡ count x + count y
    less h = omega arith
count_rest (join m x y) (inr p) = less (count_rest y p)
  where
    less : suc (count (taken_out y p)) ≡ count y → suc (count x + count (taken_out y p)) ≡ count x + count y
    less h = omega arith
count_rest (bind x q) p = count_rest x p

abbrev pub HasRun : Shape → Type 0
HasRun s = (l : List ℕ) × Runs s l

runs_of : (n : ℕ) (s : Shape) → count s ≡ n → (key : Position s → Key) → Rises s key → HasRun s
runs_of zero s e key r = ([], run_end (no_position s (λ p. none p (count_rest s p))))
  where
    none : (p : Position s) → suc (count (taken_out s p)) ≡ count s → ⊥
    none p i = omega arith
runs_of (suc n) s e key r = step (find s key) (λ p. runs_of n (taken_out s p) (fewer p (count_rest s p)) (λ k. key (keep s p k)) (λ i j b. r (keep s p i) (keep s p j) ((before_keep s p i j).to b)))
  where
    fewer : (p : Position s) → suc (count (taken_out s p)) ≡ count s → count (taken_out s p) ≡ n
    fewer p i = omega arith

    step : Found s key → ((p : Position s) → HasRun (taken_out s p)) → HasRun s
    step (inl h) f = ([], run_end (no_position s h))
    step (inr (p, h)) f = let (l, q) = f p in ((event_at numbered s p).label ∷ l, run_take (minimal_taken s p (λ c b. h c (r c p b))) q)

-- keys that rise give a linear order
pub rises_run : (s : Shape) (key : Position s → Key) → Rises s key → HasRun s
rises_run s key r = runs_of (count s) s refl key r

-- Keys of the parts make keys of the whole. Each key begins with the rank of the event's number.

pub record Keyed (f : ℕ → ℕ) (s : Shape) : Type 0 where
  pub tail : Position s → Key
  pub rises : Rises s (λ p. f (event_at numbered s p).number ∷ tail p)

-- events of the first that share an instance with events of the second have lower ranks
abbrev pub Steps : (ℕ → ℕ) → Mode → Shape → Shape → Type 0
Steps f m x y = (p : Position x) (q : Position y) → Crosses numbered m (event_at numbered x p) (event_at numbered y q) → f (event_at numbered x p).number < f (event_at numbered y q).number

pub keyed_empty : (f : ℕ → ℕ) → Keyed f empty
keyed_empty f = record { tail = λ p. absurd p; rises = λ p q h. absurd h }

pub keyed_one : (f : ℕ → ℕ) (e : TermEvent) → Keyed f (one e)
keyed_one f e = record { tail = λ p. []; rises = λ p q h. absurd h }

pub keyed_join : (f : ℕ → ℕ) (m : Mode) (x y : Shape) → Keyed f x → Keyed f y → Steps f m x y → Keyed f (join m x y)
keyed_join f m x y k l h = record { tail = tail; rises = rises }
  where
    tail : Position x ⊎ Position y → Key
    tail (inl p) = k.tail p
    tail (inr p) = l.tail p

    rises : (p q : Position x ⊎ Position y) → Before numbered (join m x y) p q → Lower (f (event_at numbered (join m x y) p).number ∷ tail p) (f (event_at numbered (join m x y) q).number ∷ tail q)
    rises (inl p) (inl q) b = k.rises p q b
    rises (inl p) (inr q) b = inl (h p q b)
    rises (inr p) (inl q) b = absurd b
    rises (inr p) (inr q) b = l.rises p q b

pub keyed_bind : (f : ℕ → ℕ) (x : Shape) (q : List (ℕ × ℕ)) → Keyed f x → ((p r : Position x) → pairs q (event_at numbered x p).number (event_at numbered x r).number ≡ true → f (event_at numbered x p).number < f (event_at numbered x r).number) → Keyed f (bind x q)
keyed_bind f x q k h = record { tail = k.tail; rises = rises }
  where
    rises : (p r : Position x) → Before numbered (bind x q) p r → Lower (f (event_at numbered x p).number ∷ k.tail p) (f (event_at numbered x r).number ∷ k.tail r)
    rises p r (inl b) = k.rises p r b
    rises p r (inr b) = inl (h p r b)

-- turns of a loop, each with keys by g: the turn's number comes behind the rank of the loop
pub record Turned (f : ℕ → ℕ) (c n : ℕ) (s : Shape) : Type 0 where
  pub flat : (p : Position s) → f (event_at numbered s p).number ≡ c
  pub turn : Position s → ℕ
  pub late : (p : Position s) → n ≤ turn p
  pub tail : Position s → Key
  pub rises : Rises s (λ p. turn p ∷ tail p)

pub turned_none : (f : ℕ → ℕ) (c n : ℕ) → Turned f c n empty
turned_none f c n = record { flat = λ p. absurd p; turn = λ p. absurd p; late = λ p. absurd p; tail = λ p. absurd p; rises = λ p q h. absurd h }

pub turned_more : (f g : ℕ → ℕ) (c n : ℕ) (x y : Shape) → ((p : Position x) → f (event_at numbered x p).number ≡ c) → Keyed g x → Turned f c (suc n) y → Turned f c n (join seq x y)
turned_more f g c n x y h k t = record { flat = flat; turn = turn; late = late; tail = tail; rises = rises }
  where
    flat : (p : Position x ⊎ Position y) → f (event_at numbered (join seq x y) p).number ≡ c
    flat (inl p) = h p
    flat (inr p) = t.flat p

    turn : Position x ⊎ Position y → ℕ
    turn (inl p) = n
    turn (inr p) = t.turn p

    late : (p : Position x ⊎ Position y) → n ≤ turn p
    late (inl p) = self n
      where
        self : (n : ℕ) → n ≤ n
        self n = omega arith
    late (inr p) = before n (t.turn p) (t.late p)
      where
        before : (n m : ℕ) → suc n ≤ m → n ≤ m
        before n m h = omega arith

    tail : Position x ⊎ Position y → Key
    tail (inl p) = g (event_at numbered x p).number ∷ k.tail p
    tail (inr p) = t.tail p

    rises : (p q : Position x ⊎ Position y) → Before numbered (join seq x y) p q → Lower (turn p ∷ tail p) (turn q ∷ tail q)
    rises (inl p) (inl q) b = inr (refl, k.rises p q b)
    rises (inl p) (inr q) b = inl (t.late q)
    rises (inr p) (inl q) b = absurd b
    rises (inr p) (inr q) b = t.rises p q b

-- so a loop, whose events all have one rank outside, has keys
pub keyed_turns : (f : ℕ → ℕ) (c n : ℕ) (s : Shape) → Turned f c n s → Keyed f s
keyed_turns f c n s t = record { tail = λ p. t.turn p ∷ t.tail p; rises = λ p q b. inr (t.flat p ∙ sym (t.flat q), t.rises p q b) }

-- where all events have one rank, keys by other ranks stand behind it
pub keyed_inner : (f g : ℕ → ℕ) (c : ℕ) (s : Shape) → ((p : Position s) → f (event_at numbered s p).number ≡ c) → Keyed g s → Keyed f s
keyed_inner f g c s h k = record { tail = λ p. g (event_at numbered s p).number ∷ k.tail p; rises = λ p q b. inr (h p ∙ sym (h q), k.rises p q b) }

pub keyed_run : (f : ℕ → ℕ) (s : Shape) → Keyed f s → HasRun s
keyed_run f s k = rises_run s (λ p. f (event_at numbered s p).number ∷ k.tail p) k.rises
