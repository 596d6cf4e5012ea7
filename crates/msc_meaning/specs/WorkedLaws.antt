-- What the worked charts mean: their unfoldings, all of them, and what they answer on some logs.
use Rattle.std.specs.Prelude.{[], ◌∷◌, codes}
use Rattle.msc_base.specs.declared.label.Far.TheVariants as far
use Rattle.msc_base.specs.declared.label.Kind.TheVariants.{Create}
use Rattle.msc_base.specs.declared.label.Label.{Label}
use Rattle.msc_meaning.specs.Meanings.{Finished, Conforms}
use Rattle.msc_meaning.specs.ShownUnfoldings.{Shown, AreShown}
use Rattle.msc_meaning.specs.WorkedAnswers.{FailsAt, StopsEarly}
use Rattle.msc_meaning.specs.WorkedCharts.{message, alternatives, option, exception, twice, referred, concurrent, creation, gate_of_reference, gate_through_levels, gates_joined, gate_of_inline, refined, both_refined, endless, two_nodes}
use Rattle.msc_meaning.specs.WorkedCharts.{a, b, d, e, i, j, k, m, n, p, q, x, y}
use Rattle.msc_meaning.specs.WorkedParts.{label, sent, received, sent_out, received_in, done}

abbrev pub a_sent : Label
a_sent = sent i a j

abbrev pub a_received : Label
a_received = received j a i

-- ---- a message: the output comes first

abbrev pub MessageUnfolds : Type 0
MessageUnfolds = AreShown (Finished message (codes "A")) (record { labels = a_sent ∷ a_received ∷ []; before = (0, 1) ∷ [] } ∷ [])

abbrev pub MessageConforms : Type 0
MessageConforms = Conforms message (codes "A") (a_sent ∷ a_received ∷ [])

abbrev pub InputFirstFails : Type 0
InputFirstFails = FailsAt message (codes "A") [] a_received

abbrev pub NothingStopsEarly : Type 0
NothingStopsEarly = StopsEarly message (codes "A") []

abbrev pub SecondOutputFails : Type 0
SecondOutputFails = FailsAt message (codes "A") (a_sent ∷ a_received ∷ []) a_sent

-- ---- choices

abbrev pub ab : Shown
ab = record { labels = sent_out i a ∷ sent_out i b ∷ []; before = (0, 1) ∷ [] }

abbrev pub ac : Shown
ac = record { labels = sent_out i a ∷ sent_out i (codes "c") ∷ []; before = (0, 1) ∷ [] }

abbrev pub AlternativesUnfold : Type 0
AlternativesUnfold = AreShown (Finished alternatives (codes "C")) (ab ∷ ac ∷ [])

-- a shared first event decides nothing
abbrev pub SecondOperandConforms : Type 0
SecondOperandConforms = Conforms alternatives (codes "C") (sent_out i a ∷ sent_out i (codes "c") ∷ [])

abbrev pub OptionUnfolds : Type 0
OptionUnfolds = AreShown (Finished option (codes "B")) (record { labels = a_sent ∷ a_received ∷ []; before = (0, 1) ∷ [] } ∷ record { labels = []; before = [] } ∷ [])

-- an option may be left out
abbrev pub NothingConforms : Type 0
NothingConforms = Conforms option (codes "B") []

-- the operand of an exception stands in place of the rest
abbrev pub with_exception : Shown
with_exception = record { labels = a_sent ∷ a_received ∷ sent_out i (codes "x") ∷ []; before = (0, 1) ∷ (0, 2) ∷ [] }

abbrev pub without_exception : Shown
without_exception = record { labels = a_sent ∷ a_received ∷ sent i b j ∷ received j b i ∷ []; before = (0, 1) ∷ (2, 3) ∷ (0, 2) ∷ (1, 3) ∷ [] }

abbrev pub ExceptionUnfolds : Type 0
ExceptionUnfolds = AreShown (Finished exception (codes "F")) (with_exception ∷ without_exception ∷ [])

abbrev pub ExceptionConforms : Type 0
ExceptionConforms = Conforms exception (codes "F") (a_sent ∷ a_received ∷ sent_out i (codes "x") ∷ [])

abbrev pub BehindExceptionFails : Type 0
BehindExceptionFails = FailsAt exception (codes "F") (a_sent ∷ a_received ∷ sent_out i (codes "x") ∷ []) (sent i b j)

-- ---- repetition

-- two messages, in order at each instance alone
abbrev pub two_messages : Shown
two_messages = record { labels = a_sent ∷ a_received ∷ a_sent ∷ a_received ∷ []; before = (0, 1) ∷ (2, 3) ∷ (0, 2) ∷ (1, 3) ∷ [] }

abbrev pub LoopUnfolds : Type 0
LoopUnfolds = AreShown (Finished twice (codes "D")) (two_messages ∷ [])

-- a second turn may begin before the first has ended
abbrev pub OverlappingTurnsConform : Type 0
OverlappingTurnsConform = Conforms twice (codes "D") (a_sent ∷ a_sent ∷ a_received ∷ a_received ∷ [])

abbrev pub OneTurnStopsEarly : Type 0
OneTurnStopsEarly = StopsEarly twice (codes "D") (a_sent ∷ a_received ∷ [])

abbrev pub ReferencesUnfold : Type 0
ReferencesUnfold = AreShown (Finished referred (codes "S")) (two_messages ∷ [])

abbrev pub OverlappingReferencesConform : Type 0
OverlappingReferencesConform = Conforms referred (codes "S") (a_sent ∷ a_sent ∷ a_received ∷ a_received ∷ [])

-- ---- a coregion, and a creation

-- the inputs are ordered by the general ordering alone
abbrev pub CoregionUnfolds : Type 0
CoregionUnfolds = AreShown (Finished concurrent (codes "G"))
    (record { labels = a_sent ∷ sent i b j ∷ a_received ∷ received j b i ∷ []; before = (0, 1) ∷ (0, 2) ∷ (1, 3) ∷ (2, 3) ∷ [] } ∷ [])

abbrev pub InputsInOrderConform : Type 0
InputsInOrderConform = Conforms concurrent (codes "G") (a_sent ∷ sent i b j ∷ a_received ∷ received j b i ∷ [])

abbrev pub LaterInputFails : Type 0
LaterInputFails = FailsAt concurrent (codes "G") (a_sent ∷ sent i b j ∷ []) (received j b i)

-- a creation is an event of the child too
abbrev pub CreationUnfolds : Type 0
CreationUnfolds = AreShown (Finished creation (codes "A")) (record { labels = label i Create k (far.Instance k) ∷ done k x ∷ []; before = (0, 1) ∷ [] } ∷ [])

abbrev pub CreationConforms : Type 0
CreationConforms = Conforms creation (codes "A") (label i Create k (far.Instance k) ∷ done k x ∷ [])

abbrev pub ChildFirstFails : Type 0
ChildFirstFails = FailsAt creation (codes "A") [] (done k x)

-- ---- gates

-- the two name each other's instance, and the output comes first
abbrev pub across : Shown
across = record { labels = sent i m k ∷ received k m i ∷ []; before = (0, 1) ∷ [] }

abbrev pub GateUnfolds : Type 0
GateUnfolds = AreShown (Finished gate_of_reference (codes "A")) (across ∷ [])

abbrev pub GateConforms : Type 0
GateConforms = Conforms gate_of_reference (codes "A") (sent i m k ∷ received k m i ∷ [])

abbrev pub InputAcrossFails : Type 0
InputAcrossFails = FailsAt gate_of_reference (codes "A") [] (received k m i)

-- by itself the chart has no caller
abbrev pub GateAloneUnfolds : Type 0
GateAloneUnfolds = AreShown (Finished gate_of_reference (codes "B")) (record { labels = received_in k m ∷ []; before = [] } ∷ [])

abbrev pub GateAloneConforms : Type 0
GateAloneConforms = Conforms gate_of_reference (codes "B") (received_in k m ∷ [])

abbrev pub GateThroughLevelsUnfolds : Type 0
GateThroughLevelsUnfolds = AreShown (Finished gate_through_levels (codes "A")) (across ∷ [])

abbrev pub GateThroughLevelsConforms : Type 0
GateThroughLevelsConforms = Conforms gate_through_levels (codes "A") (sent i m k ∷ received k m i ∷ [])

abbrev pub InputThroughLevelsFails : Type 0
InputThroughLevelsFails = FailsAt gate_through_levels (codes "A") [] (received k m i)

abbrev pub JoinedGatesUnfold : Type 0
JoinedGatesUnfold = AreShown (Finished gates_joined (codes "A")) (record { labels = sent p m q ∷ received q m p ∷ []; before = (0, 1) ∷ [] } ∷ [])

abbrev pub JoinedGatesConform : Type 0
JoinedGatesConform = Conforms gates_joined (codes "A") (sent p m q ∷ received q m p ∷ [])

-- where one branch lacks the inner event, the caller stands alone
abbrev pub InlineGateUnfolds : Type 0
InlineGateUnfolds = AreShown (Finished gate_of_inline (codes "A")) (across ∷ record { labels = sent i m k ∷ done k x ∷ []; before = [] } ∷ [])

abbrev pub CallerAloneConforms : Type 0
CallerAloneConforms = Conforms gate_of_inline (codes "A") (done k x ∷ sent i m k ∷ [])

-- ---- decomposition

-- the events of i are gone; the event of D that stands for its input takes in what j puts out
abbrev pub DecompositionUnfolds : Type 0
DecompositionUnfolds = AreShown (Finished refined (codes "A")) (record {
  labels = sent j m d ∷ sent e n d ∷ received d n e ∷ received d m j ∷ [];
  before = (1, 2) ∷ (2, 3) ∷ (0, 3) ∷ [];
} ∷ [])

abbrev pub DecompositionConforms : Type 0
DecompositionConforms = Conforms refined (codes "A") (sent j m d ∷ sent e n d ∷ received d n e ∷ received d m j ∷ [])

abbrev pub MatchedInputFails : Type 0
MatchedInputFails = FailsAt refined (codes "A") (sent e n d ∷ received d n e ∷ []) (received d m j)

-- each matched event names the instance of its partner's matched event
abbrev pub BothEndsUnfold : Type 0
BothEndsUnfold = AreShown (Finished both_refined (codes "A")) (record {
  labels = sent d m e ∷ sent d m e ∷ received e m d ∷ received e m d ∷ [];
  before = (0, 1) ∷ (2, 3) ∷ (0, 2) ∷ (1, 3) ∷ [];
} ∷ [])

-- ---- graphs

-- a graph that never ends has no finished unfolding, and begins what its walks begin
abbrev pub EndlessUnfolds : Type 0
EndlessUnfolds = AreShown (Finished endless (codes "H")) []

abbrev pub WalkUnderWayStopsEarly : Type 0
WalkUnderWayStopsEarly = StopsEarly endless (codes "H") (a_sent ∷ a_received ∷ a_sent ∷ [])

-- nodes that share no instance aren't ordered
abbrev pub WalkUnfolds : Type 0
WalkUnfolds = AreShown (Finished two_nodes (codes "K")) (record { labels = done p x ∷ done q y ∷ []; before = [] } ∷ [])

abbrev pub LaterNodeFirstConforms : Type 0
LaterNodeFirstConforms = Conforms two_nodes (codes "K") (done q y ∷ done p x ∷ [])
