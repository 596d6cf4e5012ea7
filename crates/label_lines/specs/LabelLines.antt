-- How a label is written as the event of a log's line.
use Rattle.std.specs.Prelude.{ℕ, List, [], ◌∷◌, ◌++◌, codes}
use Rattle.msc_base.specs.declared.label.Far.{Far}
use Rattle.msc_base.specs.declared.label.Far.TheVariants.{Nobody, Env, Instance}
use Rattle.msc_base.specs.declared.label.Kind.{Kind}
use Rattle.msc_base.specs.declared.label.Kind.TheVariants.{Output, Input, OutputLost, InputFound, Action, TimerStart, TimerStop, Timeout, Create}
use Rattle.msc_base.specs.declared.label.Label.{Label}

-- the word with which an act begins
abbrev pub start_word : Kind → List ℕ
start_word Output = codes "out"
start_word Input = codes "in"
start_word OutputLost = codes "out"
start_word InputFound = codes "in"
start_word Action = codes "action"
start_word TimerStart = codes "starttimer"
start_word TimerStop = codes "stoptimer"
start_word Timeout = codes "timeout"
start_word Create = codes "create"

-- what leads to the far end
abbrev pub end_words : Kind → List ℕ
end_words Output = codes " to"
end_words Input = codes " from"
end_words OutputLost = codes " to lost"
end_words InputFound = codes " from found"
end_words _ = []

-- the far end, if there is one; the child that is created stands as the text
abbrev pub far_words : Kind → Far → List ℕ
far_words Create far = []
far_words _ Nobody = []
far_words _ Env = codes " env"
far_words _ (Instance name) = codes " " ++ name

-- what the event does
abbrev pub act_words : Label → List ℕ
act_words l = start_word l.kind ++ (codes " " ++ (l.text ++ (end_words l.kind ++ far_words l.kind l.far)))

-- the whole, without a line end
abbrev pub label_line : Label → List ℕ
label_line l = l.at ++ (codes ": " ++ (act_words l ++ codes ";"))
