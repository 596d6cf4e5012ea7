-- Taking an entry piece by piece.
use Rattle.std.proofs.Common.{◌≡◌, ◌<◌, ◌≤◌, ℕ, List, [], ◌++◌, length, ap, ◌∙◌, Option, Some, None, append-nil, length-append, arith}
use Rattle.outside.specs.Shelves.{Files, Opens}
use Rattle.entry_reading.specs.Consuming.{HasTakenEntry, IsReading, IsRefusedEntry, IsStep}
use Rattle.entry_reading.specs.Reading.{HasRead, IsHeld}
use Rattle.entry_reading.specs.declared.reading.Step.TheVariants.{More}

-- a piece with which the entry is refused
pub refused_entry : {F : Type 0} (refuses : List ℕ → F → Type 0) (files : Option Files) (name : List ℕ) (left : Option (List ℕ)) (got : List ℕ) (refusal : F) → ((more : List ℕ) → refuses (got ++ more) refusal) → HasRead files name left got → IsRefusedEntry refuses files name refusal
refused_entry refuses None name left got refusal refused h = record { bytes = got ++ []; held = tt; refused = refused [] }
refused_entry refuses (Some f) name None got refusal refused h = absurd h
refused_entry refuses (Some f) name (Some l) got refusal refused h = record { bytes = got ++ l; held = h; refused = refused l }

-- an entry that has been read to its end
pub taken_entry : {T : Type 0} (has_taken : List ℕ → T → Type 0) (files : Option Files) (name bytes : List ℕ) (it : T) → has_taken bytes it → HasRead files name (Some []) bytes → HasTakenEntry has_taken files name it
taken_entry has_taken files name bytes it taken h = record { bytes = bytes; held = held files h; taken = taken }
  where
    held : (f : Option Files) → HasRead f name (Some []) bytes → IsHeld f name bytes
    held None k = tt
    held (Some f) k = k ∙ ap (λ (bs : List ℕ). Some bs) (append-nil bytes)

-- an entry that has just been started
pub opened : {T : Type 0} (has_taken : List ℕ → T → Type 0) (files : Option Files) (name : List ℕ) (rest : Option (List ℕ)) (it : T) → Opens files name rest → has_taken [] it → IsReading has_taken files name rest it
opened has_taken files name rest it opens taken = record { bytes = []; taken = taken; held = held files rest opens }
  where
    held : (f : Option Files) (r : Option (List ℕ)) → Opens f name r → HasRead f name r []
    held None r o = tt
    held (Some f) None o = absurd o
    held (Some f) (Some r) o = o

-- a piece more has been taken
pub taken_more : {T F : Type 0} (has_taken : List ℕ → T → Type 0) (refuses : List ℕ → F → Type 0) (files : Option Files) (name : List ℕ) (left : Option (List ℕ)) (most : ℕ) (count : T → ℕ) (bytes piece : List ℕ) (before after : T)
    → ((bs : List ℕ) (it : T) → has_taken bs it → (count it ≡ length bs) × (count it ≤ most)) → 0 < length piece → has_taken bytes before → has_taken (bytes ++ piece) after → HasRead files name left (bytes ++ piece)
    → IsStep has_taken refuses files name left most (count before) (count after) after More
taken_more has_taken refuses files name left most count bytes piece before after counts some was now held =
    let old = counts bytes before was in
    let new = counts (bytes ++ piece) after now in
    (omega (arith, old.0, new.0, some, length-append bytes piece), new.1, record { bytes = bytes ++ piece; taken = now; held = held })
