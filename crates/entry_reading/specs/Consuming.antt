-- An entry whose bytes are taken as they are read.
use Rattle.std.specs.Prelude.{◌<◌, ◌≤◌, ℕ, List, Option}
use Rattle.outside.specs.Shelves.{Files}
use Rattle.entry_reading.specs.Reading.{HasRead, IsHeld}
use Rattle.entry_reading.specs.declared.reading.Step.{Step}
use Rattle.entry_reading.specs.declared.reading.Step.TheVariants.{More, End, Refused}

-- what it has taken and what is left are the entry of this name, where it is told
pub record IsReading {T : Type 0} (has_taken : List ℕ → T → Type 0) (files : Option Files) (name : List ℕ) (rest : Option (List ℕ)) (it : T) : Type 0 where
  pub bytes : List ℕ
  pub taken : has_taken bytes it
  pub held : HasRead files name rest bytes

-- it has taken the entry of this name; its bytes are told where the entries are
pub record HasTakenEntry {T : Type 0} (has_taken : List ℕ → T → Type 0) (files : Option Files) (name : List ℕ) (it : T) : Type 0 where
  pub bytes : List ℕ
  pub held : IsHeld files name bytes
  pub taken : has_taken bytes it

-- the entry of this name is refused so
pub record IsRefusedEntry {F : Type 0} (refuses : List ℕ → F → Type 0) (files : Option Files) (name : List ℕ) (refusal : F) : Type 0 where
  pub bytes : List ℕ
  pub held : IsHeld files name bytes
  pub refused : refuses bytes refusal

-- what comes of one read, before which so many bytes had been taken, and behind which so many have been
abbrev pub IsStep : {T F : Type 0} → (List ℕ → T → Type 0) → (List ℕ → F → Type 0) → Option Files → List ℕ → Option (List ℕ) → ℕ → ℕ → ℕ → T → Step F → Type 0
IsStep has_taken refuses files name rest most before after it More = (before < after) × (after ≤ most) × IsReading has_taken files name rest it
IsStep has_taken refuses files name rest most before after it End = HasTakenEntry has_taken files name it
IsStep has_taken refuses files name rest most before after it (Refused refusal) = IsRefusedEntry refuses files name refusal
