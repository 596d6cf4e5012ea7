-- What contracts see of a shelf in memory.
use Rattle.std.specs.Prelude.{◌≡◌, ◌⊎◌, ℕ, List, Some, None, if◌then◌else◌}
use Rattle.std.specs.Str.{bytes_eq}
use Rattle.outside.specs.declared.memory_shelf.MemShelf.{MemShelf}
use Rattle.outside.specs.Calls.{FailsNext}
use Rattle.outside.specs.Entries.{file_at}
use Rattle.outside.specs.Shelves.{Files}

-- the bytes of each name that is held
abbrev pub entries_of : MemShelf → Files
entries_of s = file_at s.entries.items

-- the numbers of the calls that fail
abbrev pub failing_of : MemShelf → List ℕ
failing_of s = s.failing.items

-- how many calls of start and read were made, up to 2^64 - 1
abbrev pub calls_of : MemShelf → ℕ
calls_of s = s.calls

-- the largest number of bytes that a read gives
abbrev pub most_of : MemShelf → ℕ
most_of s = s.most

-- the entries with these bytes in place of what the name held
abbrev pub with_entry : List ℕ → List ℕ → Files → Files
with_entry name bytes files asked = if bytes_eq name asked then Some bytes else files asked

-- the next start fails: its number is among those that fail, or the name isn't held
abbrev pub RefusesStart : MemShelf → List ℕ → Type 0
RefusesStart s name = FailsNext (failing_of s) (calls_of s) ⊎ (entries_of s name ≡ None)

-- the next read fails: its number is among those that fail
abbrev pub RefusesRead : MemShelf → Type 0
RefusesRead s = FailsNext (failing_of s) (calls_of s)

-- the entries may differ, and nothing else does
abbrev pub OnlyEntriesDiffer : MemShelf → MemShelf → Type 0
OnlyEntriesDiffer old new = new ≡ record old { entries = new.entries }

-- the numbers of the calls that fail may differ, and nothing else does
abbrev pub OnlyFailingDiffers : MemShelf → MemShelf → Type 0
OnlyFailingDiffers old new = new ≡ record old { failing = new.failing }

-- the largest number of bytes that a read gives may differ, and nothing else does
abbrev pub OnlyMostDiffers : MemShelf → MemShelf → Type 0
OnlyMostDiffers old new = new ≡ record old { most = new.most; gives = new.gives }
