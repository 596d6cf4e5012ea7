-- What contracts see of a sink in memory.
use Rattle.std.specs.Prelude.{◌≡◌, ◌<◌, ◌⊎◌, ℕ, ◌-◌, List, length}
use Rattle.outside.specs.declared.memory_sink.MemSink.{MemSink}
use Rattle.outside.specs.Calls.{FailsNext}

-- how many writes were made, up to 2^64 - 1
abbrev pub writes_of : MemSink → ℕ
writes_of s = s.calls

-- the numbers of the writes that fail
abbrev pub failing_writes_of : MemSink → List ℕ
failing_writes_of s = s.failing.items

-- how many bytes it takes in all
abbrev pub room_of : MemSink → ℕ
room_of s = s.room

-- how many bytes it still takes
abbrev pub left_of : MemSink → ℕ
left_of s = s.room - length s.bytes.items

-- a write of this piece fails: its number is among those that fail, or no room is left for it
abbrev pub Refuses : MemSink → List ℕ → Type 0
Refuses s piece = FailsNext (failing_writes_of s) (writes_of s) ⊎ ((0 < length piece) × (left_of s ≡ 0))

-- the numbers of the writes that fail may differ, and nothing else does
abbrev pub OnlyFailingDiffers : MemSink → MemSink → Type 0
OnlyFailingDiffers old new = new ≡ record old { failing = new.failing }
