-- Serves private contracts alone.
-- The floors as code holds them: by instance, with what it takes to go back; and how they stand for floors that wait.
use Rattle.std.specs.Prelude.{ℕ, ◌+◌, ◌-◌, ◌≡◌, ◌≤◌, ◌==◌, ◌↔◌, Bool, true, false, List, [], ◌∷◌, ◌++◌, cond, max, min, length, replicate, reverse, get_or, slice_set}
use Rattle.chart_term.specs.Terms.{TermEvent}
use Rattle.certificates.specs.Floors.{Floors, raised, IsAbove}
use Rattle.pattern_marks.specs.Marks.{Sign}
use Rattle.pattern_marks.specs.Tests.{before, behind, DoRise, Waiting}
use Rattle.pattern_marks.specs.declared.floors.Floor.{Floor}
use Rattle.pattern_marks.specs.declared.floors.Level.{Level}
use Rattle.pattern_marks.specs.declared.floors.Level.TheVariants.{First, Second}

-- the places by instance, the journal, what was put aside, and the levels, the innermost last
pub record HeldFloors : Type 0 where
  pub places : List ℕ
  pub journal : List Floor
  pub aside : List Floor
  pub levels : List Level

-- 0 behind the last
abbrev pub floors_in : List ℕ → Floors
floors_in ps = λ i. get_or ps i 0

abbrev pub floors_of : HeldFloors → Floors
floors_of s = floors_in s.places

-- the place of the floor is put in, in a longer list where there are too few
abbrev pub put_at : List ℕ → Floor → List ℕ
put_at ps d = slice_set (ps ++ replicate (d.instance + 1 - length ps) 0) d.instance d.place

-- the floor of its instance is that of d
abbrev pub changed : Floors → Floor → Floors
changed f d = λ i. cond (d.instance == i) d.place (f i)

-- the floor of its instance is that of d, all others are 0
abbrev pub alone : Floor → Floors
alone d = λ i. cond (d.instance == i) d.place 0

-- no floor is lower than that of d
abbrev pub risen : Floors → Floor → Floors
risen f d = λ i. max (f i) (alone d i)

-- the greatest place of each instance
abbrev pub best : List Floor → Floors
best [] = λ i. 0
best (d ∷ ds) = λ i. max (best ds i) (alone d i)

-- floors put in one after another, the last first
abbrev pub gone_back : Floors → List Floor → Floors
gone_back f [] = f
gone_back f (d ∷ ds) = changed (gone_back f ds) d

-- what was changed on the way, the last first
abbrev pub left_aside : Floors → List Floor → List Floor
left_aside f [] = []
left_aside f (d ∷ ds) = left_aside f ds ++ record { instance = d.instance; place = gone_back f ds d.instance } ∷ []

-- none of them is above what it takes the place of
abbrev pub DoFall : Floors → List Floor → Type 0
DoFall f [] = Unit {0}
DoFall f (d ∷ ds) = (d.place ≤ gone_back f ds d.instance) × DoFall f ds

-- floors have risen, and the journal says how
pub record Rises (old new : HeldFloors) : Type 0 where
  pub noted : List Floor
  pub journal : new.journal ≡ old.journal ++ noted
  pub restored : gone_back (floors_of new) noted ≡ floors_of old
  pub fall : DoFall (floors_of new) noted

-- one of them has risen
pub record IsRaised (d : Floor) (old new : HeldFloors) : Type 0 where
  pub rises : Rises old new
  pub floors : floors_of new ≡ risen (floors_of old) d
  pub aside : new.aside ≡ old.aside
  pub levels : new.levels ≡ old.levels

-- the event stands there
pub record HasStood (e : TermEvent) (n : ℕ) (old new : HeldFloors) : Type 0 where
  pub above : IsAbove (floors_of old) e n
  pub rises : Rises old new
  pub floors : floors_of new ≡ raised (floors_of old) e n
  pub aside : new.aside ≡ old.aside
  pub levels : new.levels ≡ old.levels

abbrev pub Stands : Bool → TermEvent → ℕ → HeldFloors → HeldFloors → Type 0
Stands true e n old new = HasStood e n old new
Stands false e n old new = IsAbove (floors_of old) e n → ⊥

-- the last entry of the journal is undone
pub record HasUndone (old new : HeldFloors) : Type 0 where
  pub last_one : Floor
  pub journal : old.journal ≡ new.journal ++ last_one ∷ []
  pub places : new.places ≡ put_at old.places last_one
  pub aside : new.aside ≡ old.aside ++ record { instance = last_one.instance; place = floors_of old last_one.instance } ∷ []
  pub levels : new.levels ≡ old.levels

-- so are some of those behind so many
pub record IsOnWayBack (n : ℕ) (old new : HeldFloors) : Type 0 where
  pub gone : List Floor
  pub journal : old.journal ≡ new.journal ++ gone
  pub least : min n (length old.journal) ≤ length new.journal
  pub floors : floors_of new ≡ gone_back (floors_of old) gone
  pub aside : new.aside ≡ old.aside ++ left_aside (floors_of old) gone
  pub levels : new.levels ≡ old.levels

-- and all of them
pub record HasGoneBack (n : ℕ) (old new : HeldFloors) : Type 0 where
  pub gone : List Floor
  pub journal : old.journal ≡ new.journal ++ gone
  pub most : length new.journal ≤ n
  pub least : min n (length old.journal) ≤ length new.journal
  pub floors : floors_of new ≡ gone_back (floors_of old) gone
  pub aside : new.aside ≡ old.aside ++ left_aside (floors_of old) gone
  pub levels : new.levels ≡ old.levels

-- the last that was put aside is put in
pub record HasPutIn (old new : HeldFloors) : Type 0 where
  pub last_one : Floor
  pub aside : old.aside ≡ new.aside ++ last_one ∷ []
  pub rises : Rises old new
  pub floors : floors_of new ≡ risen (floors_of old) last_one
  pub levels : new.levels ≡ old.levels

-- so are some of those behind so many
pub record ArePuttingIn (n : ℕ) (old new : HeldFloors) : Type 0 where
  pub gone : List Floor
  pub aside : old.aside ≡ new.aside ++ gone
  pub least : min n (length old.aside) ≤ length new.aside
  pub rises : Rises old new
  pub floors : (i : ℕ) → floors_of new i ≡ max (floors_of old i) (best gone i)
  pub levels : new.levels ≡ old.levels

-- and all of them
pub record HavePutIn (n : ℕ) (old new : HeldFloors) : Type 0 where
  pub gone : List Floor
  pub aside : old.aside ≡ new.aside ++ gone
  pub most : length new.aside ≤ n
  pub least : min n (length old.aside) ≤ length new.aside
  pub rises : Rises old new
  pub floors : (i : ℕ) → floors_of new i ≡ max (floors_of old i) (best gone i)
  pub levels : new.levels ≡ old.levels

-- the innermost level was the first of two parts, and is the second
pub record HasTurned (old new : HeldFloors) : Type 0 where
  pub outer : List Level
  pub count : ℕ
  pub levels : old.levels ≡ outer ++ First count ∷ []
  pub back : HasGoneBack count (record old { levels = outer ++ Second (length old.aside) ∷ [] }) new

abbrev pub Turns : Bool → HeldFloors → HeldFloors → Type 0
Turns true old new = HasTurned old new
Turns false old new = (outer : List Level) (n : ℕ) → old.levels ≡ outer ++ First n ∷ [] → ⊥

-- the innermost level was the second of two parts, and has ended
pub record HasClosed (old new : HeldFloors) : Type 0 where
  pub outer : List Level
  pub count : ℕ
  pub levels : old.levels ≡ outer ++ Second count ∷ []
  pub put_in : HavePutIn count (record old { levels = outer }) new

abbrev pub Closes : Bool → HeldFloors → HeldFloors → Type 0
Closes true old new = HasClosed old new
Closes false old new = (outer : List Level) (n : ℕ) → old.levels ≡ outer ++ Second n ∷ [] → ⊥

-- ---- what waits

-- what is undone behind so many entries of the journal leaves the floors g; the others are of what is around
pub record IsBefore (f : Floors) (j : List Floor) (n : ℕ) (g : Floors) (Around : List Floor → Type 0) : Type 0 where
  pub kept : List Floor
  pub noted : List Floor
  pub journal : j ≡ kept ++ noted
  pub count : length kept ≡ n
  pub restored : gone_back f noted ≡ g
  pub fall : DoFall f noted
  pub around : Around kept

-- what was put aside behind so many raises the floors as g does; the others are of what is around
pub record IsBehind (f : Floors) (a : List Floor) (n : ℕ) (g : Floors) (Around : List Floor → Type 0) : Type 0 where
  pub kept : List Floor
  pub put : List Floor
  pub aside : a ≡ kept ++ put
  pub count : length kept ≡ n
  pub raises : (i : ℕ) → max (f i) (best put i) ≡ max (g i) (f i)
  pub around : Around kept

-- the levels, the innermost first, are those of the floors that wait
abbrev pub Wait : Floors → List Floor → List Floor → List Level → List Waiting → Type 0
Wait f j a [] [] = Unit {0}
Wait f j a [] (w ∷ ws) = ⊥
Wait f j a (First n ∷ ls) [] = ⊥
Wait f j a (First n ∷ ls) (before g ∷ ws) = IsBefore f j n g (λ ks. Wait g ks a ls ws)
Wait f j a (First n ∷ ls) (behind g ∷ ws) = ⊥
Wait f j a (Second n ∷ ls) [] = ⊥
Wait f j a (Second n ∷ ls) (before g ∷ ws) = ⊥
Wait f j a (Second n ∷ ls) (behind g ∷ ws) = IsBehind f a n g (λ ks. Wait f j ks ls ws)

abbrev pub DoWait : HeldFloors → List Waiting → Type 0
DoWait s ws = Wait (floors_of s) s.journal s.aside (reverse s.levels) ws

-- from the held floors on the test says the same of what comes behind the sign
pub record Leads (m : Sign) (old : HeldFloors) (ws : List Waiting) (new : HeldFloors) : Type 0 where
  pub next : List Waiting
  pub wait : DoWait new next
  pub same : (ms : List Sign) → DoRise (floors_of old) ws (m ∷ ms) ↔ DoRise (floors_of new) next ms

abbrev pub Goes : Bool → Sign → HeldFloors → List Waiting → HeldFloors → Type 0
Goes true m old ws new = Leads m old ws new
Goes false m old ws new = (ms : List Sign) → DoRise (floors_of old) ws (m ∷ ms) → ⊥
