-- The sample: a document of one chart, in which requests are answered yes or no, and a log of it, whose answers are drawn from a seed.
use Rattle.std.specs.Prelude.{ℕ, zero, suc, ◌+◌, ◌*◌, ◌/◌, ◌%◌, ◌^◌, ◌==◌, Bool, true, false, if◌then◌else◌, List, [], ◌++◌, codes}

abbrev pub sample_name : List ℕ
sample_name = codes "S"

-- a request and its answer, once or more often
abbrev pub sample_text : List ℕ
sample_text = codes "msc S; inst c,s; c,s: loop <1,inf> begin; c: out req to s; s: in req from c; c,s: alt begin; s: out yes to c; c: in yes from s; alt; s: out no to c; c: in no from s; alt end; loop end; endmsc;"

-- the number that is drawn behind this one
abbrev pub next_drawn : ℕ → ℕ
next_drawn x = (x * 1103515245 + 12345) % 2 ^ 31

-- the number of a turn; turns count from 1, and before the first stands the seed
abbrev pub drawn_in : ℕ → ℕ → ℕ
drawn_in zero seed = seed
drawn_in (suc turn) seed = next_drawn (drawn_in turn seed)

-- whether the answer is yes where this number is drawn
abbrev pub means_yes : ℕ → Bool
means_yes x = (x / 65536) % 2 == 0

-- the four lines of a turn
abbrev pub turn_lines : Bool → List ℕ
turn_lines true = codes "c: out req to s;\ns: in req from c;\ns: out yes to c;\nc: in yes from s;\n"
turn_lines false = codes "c: out req to s;\ns: in req from c;\ns: out no to c;\nc: in no from s;\n"

-- the log of so many turns
abbrev pub sample_log : ℕ → ℕ → List ℕ
sample_log zero seed = []
sample_log (suc turn) seed = sample_log turn seed ++ turn_lines (means_yes (drawn_in (suc turn) seed))

-- how many of so many turns are answered yes
abbrev pub yes_count : ℕ → ℕ → ℕ
yes_count zero seed = 0
yes_count (suc turn) seed = yes_count turn seed + (if means_yes (drawn_in (suc turn) seed) then 1 else 0)
