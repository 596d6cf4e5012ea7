-- How the verdicts on the sessions of a log are printed.
use Rattle.std.specs.Prelude.{ℕ, false, List, [], ◌∷◌, ◌++◌, codes}
use Rattle.std.specs.Fmt.{decimal}
use Rattle.msc_base.specs.declared.verdict.Verdict.{Verdict}
use Rattle.judge_report.specs.Texts.{verdict_line}

-- the line of a session: its key, and the verdict's line
abbrev pub session_line : List ℕ → Verdict → List ℕ
session_line key verdict = key ++ (codes ": " ++ verdict_line false verdict)

-- the line behind those of all sessions: how many they are
abbrev pub sessions_end : ℕ → List ℕ
sessions_end count = codes "sessions " ++ (decimal count ++ 10 ∷ [])
