-- A loop of one message, once or twice: how the rules of portions go together.
use Rattle.std.specs.Prelude.{ℕ, Bool, List, [], ◌∷◌, Some, None, codes}
use Rattle.msc_base.specs.declared.label.Label.{Label}
use Rattle.msc_base.specs.declared.label.Kind.TheVariants.{Output, Input}
use Rattle.msc_base.specs.declared.label.Far.TheVariants.{Instance}
use Rattle.msc_base.specs.Patterns.{seq}
use Rattle.msc_unfolding.specs.Unfoldings.{Own, Happening, Tie, Unfolding, level_tie}
use Rattle.term_tables.specs.NetValues.{NetsValue}
use Rattle.chart_term.specs.NormalForms.{join_all, tie_of}
use Rattle.chart_term.specs.Terms.{TermEvent, Tree, Event}
use Rattle.term_laws.specs.FullSoundness.{fresh_loop}
use Rattle.term_meaning.specs.Meanings.{Mean}
use Rattle.term_meaning.specs.Naming.{IsNamed}
use Rattle.chart_term.specs.TermMeanings.{PatternsOf}
use Rattle.chart_term.specs.Tables.{terms_over}
use Rattle.term_meaning.specs.UnfoldingSets.{OnlyEmpty, OnlyEvent, AreJoined, AreTied, AreSomeOften}

abbrev sent : Label
sent = record { at = codes "i"; kind = Output; text = codes "a"; far = Instance (codes "j") }

abbrev taken : Label
taken = record { at = codes "j"; kind = Input; text = codes "a"; far = Instance (codes "i") }

abbrev pub sending : Happening
sending = record { label = sent; also = None; tags = Own 0 ∷ [] }

abbrev pub taking : Happening
taking = record { label = taken; also = None; tags = Own 1 ∷ [] }

-- the tie of the operand's level, and the tie around the loop, which has no pairs and passes nothing on
abbrev pub message_tie : Tie
message_tie = level_tie ((Own 0, Own 1) ∷ [])

abbrev pub loop_tie : Tie
loop_tie = record { pairs = []; past = λ a. [] }

-- the unfoldings: one or two turns of the operand, each a row of the two events below its tie
abbrev pub Turned : Unfolding → Type 0
Turned = AreTied (AreSomeOften (AreTied (AreJoined seq (OnlyEvent sending) (AreJoined seq (OnlyEvent taking) OnlyEmpty)) message_tie) 1 (Some 2)) loop_tie

abbrev pub loop_tables : NetsValue
loop_tables = record { labels = sent ∷ taken ∷ []; tables = [] }

abbrev pub loop_names : List (List ℕ)
loop_names = codes "i" ∷ codes "j" ∷ []

abbrev pub first_event : TermEvent
first_event = record { number = 0; at = 0; also = None; label = 0 }

abbrev pub second_event : TermEvent
second_event = record { number = 1; at = 1; also = None; label = 1 }

abbrev pub operand : Tree
operand = tie_of (join_all seq (Event first_event ∷ Event second_event ∷ [])) ((0, 1) ∷ [])

-- the loop's term means these unfoldings and no others
pub record LoopedMessageMeans : Type 0 where
  pub means : (o : Bool) → Mean (IsNamed loop_tables.labels loop_names) (PatternsOf (terms_over []) o (fresh_loop [] operand 1 (Some 2))) Turned
