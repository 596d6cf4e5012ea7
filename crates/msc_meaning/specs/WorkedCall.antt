-- A whole chart in three columns, one telephone call: its text, the body that it is woven to, and what it means.
use Rattle.std.specs.Prelude.{ℕ, List, [], ◌∷◌, ◌++◌, Some, codes}
use Rattle.msc_base.specs.declared.label.Far.TheVariants as far
use Rattle.msc_base.specs.declared.label.Kind.TheVariants.{TimerStart, TimerStop}
use Rattle.msc_base.specs.declared.label.Label.{Label}
use Rattle.msc_base.specs.declared.label.Pair.{Pair}
use Rattle.msc_base.specs.declared.place.Place.{Place}
use Rattle.msc_tree.specs.declared.chart.Cover.TheVariants.{All}
use Rattle.msc_tree.specs.declared.event.RawEvent.{RawEvent}
use Rattle.msc_tree.specs.declared.event.Target.TheVariants.{Nobody}
use Rattle.msc_tree.specs.declared.reference.InlineForm.TheVariants.{Alt}
use Rattle.msc_tree.specs.Charts as drawn
use Rattle.msc_tree.specs.Statements.{InlineHead, InColumn, operands, placed, Statement, Column, Condition}
use Rattle.msc_tree.specs.Statements as tree
use Rattle.msc_meaning.specs.Bodies.{Body, level, WovenItems, Single, Inline, items, item_list, bodies}
use Rattle.msc_meaning.specs.Meanings.{Finished, Conforms}
use Rattle.msc_meaning.specs.ShownUnfoldings.{Shown, AreShown, in_order}
use Rattle.msc_meaning.specs.Tables.{Table, ChartEntry, Basic}
use Rattle.msc_meaning.specs.WorkedParts.{node, written, out, taken_in, action, pair, decl, label, sent, received, done}
use Rattle.msc_meaning.specs.WovenTables.{IsEntryOf}

-- the three instances
abbrev pub user : List ℕ
user = codes "user"

abbrev pub phone : List ℕ
phone = codes "phone"

abbrev pub exch : List ℕ
exch = codes "exch"

abbrev pub all : List (List ℕ)
all = user ∷ phone ∷ exch ∷ []

abbrev pub number_list : List (List ℕ)
number_list = codes "'555'" ∷ codes "'0100'" ∷ []

abbrev pub numbered : RawEvent → RawEvent
numbered e = record e { parameters = Some number_list }

abbrev pub dialled : RawEvent → RawEvent
dialled e = record e { parameters = Some number_list; pairing = Some (codes "1") }

abbrev pub timed : RawEvent → RawEvent
timed e = record e { parameters = Some (codes "20" ∷ []) }

-- ---- the text

abbrev pub place_at : ℕ → Place
place_at n = record { byte = n; line = 1; column = n }

abbrev pub event_at : ℕ → RawEvent → tree.Item
event_at n e = placed (place_at n) (tree.Single e)

abbrev pub head : InlineHead
head = record { form = Alt; lower = 1; upper = Some 1; name = Some (codes "A"); shared = Some All }

abbrev pub choice_at : ℕ → List tree.Item → List tree.Item → tree.Item
choice_at n xs ys = placed (place_at n) (tree.Inline head (operands (InColumn (tree.items xs) ∷ InColumn (tree.items ys) ∷ [])))

abbrev pub text : List Statement
text = Column (decl user) (tree.items (
    event_at 1 (out (codes "offhook") phone)
    ∷ event_at 2 (taken_in (codes "tone") phone)
    ∷ choice_at 3 (event_at 4 (dialled (out (codes "dial") phone)) ∷ []) (event_at 5 (out (codes "onhook") phone) ∷ []) ∷ []))
    ∷ Column (decl phone) (tree.items (
    event_at 6 (taken_in (codes "offhook") user)
    ∷ event_at 7 (timed (written TimerStart (codes "T1") Nobody))
    ∷ event_at 8 (out (codes "seize") exch)
    ∷ event_at 9 (taken_in (codes "ack") exch)
    ∷ event_at 10 (out (codes "tone") user)
    ∷ choice_at 11 (event_at 12 (dialled (taken_in (codes "dial") user)) ∷ event_at 13 (written TimerStop (codes "T1") Nobody) ∷ event_at 14 (numbered (out (codes "digits") exch)) ∷ []) (event_at 15 (taken_in (codes "onhook") user) ∷ event_at 16 (written TimerStop (codes "T1") Nobody) ∷ event_at 17 (out (codes "release") exch) ∷ []) ∷ []))
    ∷ Column (decl exch) (tree.items (
    event_at 18 (taken_in (codes "seize") phone)
    ∷ event_at 19 (action (codes "'find a line'"))
    ∷ event_at 20 (out (codes "ack") phone)
    ∷ placed (place_at 21) (Condition (codes "Ready" ∷ []) (Some All))
    ∷ choice_at 22 (event_at 23 (numbered (taken_in (codes "digits") phone)) ∷ []) (event_at 24 (taken_in (codes "release") phone) ∷ []) ∷ []))
    ∷ []

-- ---- the bodies

-- the user dials
abbrev pub dialling : Body
dialling = level all (items (
    Single (node 2 user (dialled (out (codes "dial") phone)))
    ∷ Single (node 9 phone (dialled (taken_in (codes "dial") user)))
    ∷ Single (node 10 phone (written TimerStop (codes "T1") Nobody))
    ∷ Single (node 11 phone (numbered (out (codes "digits") exch)))
    ∷ Single (node 18 exch (numbered (taken_in (codes "digits") phone)))
    ∷ [])) (pair 2 9 ∷ pair 11 18 ∷ [])

-- the user hangs up
abbrev pub hanging_up : Body
hanging_up = level all (items (
    Single (node 3 user (out (codes "onhook") phone))
    ∷ Single (node 12 phone (taken_in (codes "onhook") user))
    ∷ Single (node 13 phone (written TimerStop (codes "T1") Nobody))
    ∷ Single (node 14 phone (out (codes "release") exch))
    ∷ Single (node 19 exch (taken_in (codes "release") phone))
    ∷ [])) (pair 3 12 ∷ pair 14 19 ∷ [])

-- what stands behind the events of the columns
abbrev pub choice_items : WovenItems
choice_items = items (Inline Alt (record { lower = 1; upper = Some 1; name = Some (codes "A"); cover = all; place = place_at 3 }) (bodies (dialling ∷ hanging_up ∷ [])) ∷ [])

abbrev pub call_items : WovenItems
call_items = items (
    Single (node 0 user (out (codes "offhook") phone))
    ∷ Single (node 1 user (taken_in (codes "tone") phone))
    ∷ Single (node 4 phone (taken_in (codes "offhook") user))
    ∷ Single (node 5 phone (timed (written TimerStart (codes "T1") Nobody)))
    ∷ Single (node 6 phone (out (codes "seize") exch))
    ∷ Single (node 7 phone (taken_in (codes "ack") exch))
    ∷ Single (node 8 phone (out (codes "tone") user))
    ∷ Single (node 15 exch (taken_in (codes "seize") phone))
    ∷ Single (node 16 exch (action (codes "'find a line'")))
    ∷ Single (node 17 exch (out (codes "ack") phone))
    ∷ item_list choice_items)

abbrev pub call_pairs : List Pair
call_pairs = pair 0 4 ∷ pair 6 15 ∷ pair 8 1 ∷ pair 17 7 ∷ []

-- the whole call
abbrev pub call : Body
call = level all call_items call_pairs

-- ---- the whole chart

abbrev pub chart : drawn.Chart
chart = record {
  name = codes "Call";
  place = place_at 0;
  decls = decl user ∷ decl phone ∷ decl exch ∷ [];
  messages = [];
  timers = [];
  content = drawn.Basic text;
}

abbrev pub entry : ChartEntry
entry = record { name = codes "Call"; decls = chart.decls ++ (decl user ∷ decl phone ∷ decl exch ∷ []); content = Basic call }

abbrev pub table : Table
table = entry ∷ []

-- the columns are woven to that body: the shared alternative stands once, and the operands of its parts are joined
abbrev pub CallIsWoven : Type 0
CallIsWoven = IsEntryOf all chart entry

-- ---- what it means

-- what is said before the choice, column by column
abbrev pub opening : List Label
opening = sent user (codes "offhook") phone
    ∷ received user (codes "tone") phone
    ∷ received phone (codes "offhook") user
    ∷ label phone TimerStart (codes "T1(20)") far.Nobody
    ∷ sent phone (codes "seize") exch
    ∷ received phone (codes "ack") exch
    ∷ sent phone (codes "tone") user
    ∷ received exch (codes "seize") phone
    ∷ done exch (codes "'find a line'")
    ∷ sent exch (codes "ack") phone
    ∷ []

-- the events of each instance are in order, and each message is
abbrev pub opening_messages : List (ℕ × ℕ)
opening_messages = (0, 2) ∷ (4, 7) ∷ (9, 5) ∷ (6, 1) ∷ []

-- the first choice
abbrev pub dials : Shown
dials = record {
  labels = opening ++ (sent user (codes "dial('555','0100')") phone
      ∷ received phone (codes "dial('555','0100')") user
      ∷ label phone TimerStop (codes "T1") far.Nobody
      ∷ sent phone (codes "digits('555','0100')") exch
      ∷ received exch (codes "digits('555','0100')") phone
      ∷ []);
  before = in_order (0 ∷ 1 ∷ 10 ∷ []) ++ (in_order (2 ∷ 3 ∷ 4 ∷ 5 ∷ 6 ∷ 11 ∷ 12 ∷ 13 ∷ []) ++ (in_order (7 ∷ 8 ∷ 9 ∷ 14 ∷ []) ++ (opening_messages ++ ((10, 11) ∷ (13, 14) ∷ []))));
}

-- the second
abbrev pub hangs_up : Shown
hangs_up = record {
  labels = opening ++ (sent user (codes "onhook") phone
      ∷ received phone (codes "onhook") user
      ∷ label phone TimerStop (codes "T1") far.Nobody
      ∷ sent phone (codes "release") exch
      ∷ received exch (codes "release") phone
      ∷ []);
  before = in_order (0 ∷ 1 ∷ 10 ∷ []) ++ (in_order (2 ∷ 3 ∷ 4 ∷ 5 ∷ 6 ∷ 11 ∷ 12 ∷ 13 ∷ []) ++ (in_order (7 ∷ 8 ∷ 9 ∷ 14 ∷ []) ++ (opening_messages ++ ((10, 11) ∷ (13, 14) ∷ []))));
}

abbrev pub CallUnfolds : Type 0
CallUnfolds = AreShown (Finished table (codes "Call")) (dials ∷ hangs_up ∷ [])

-- the log of one call
abbrev pub CallConforms : Type 0
CallConforms = Conforms table (codes "Call") (
    sent user (codes "offhook") phone
    ∷ received phone (codes "offhook") user
    ∷ label phone TimerStart (codes "T1(20)") far.Nobody
    ∷ sent phone (codes "seize") exch
    ∷ received exch (codes "seize") phone
    ∷ done exch (codes "'find a line'")
    ∷ sent exch (codes "ack") phone
    ∷ received phone (codes "ack") exch
    ∷ sent phone (codes "tone") user
    ∷ received user (codes "tone") phone
    ∷ sent user (codes "dial('555','0100')") phone
    ∷ received phone (codes "dial('555','0100')") user
    ∷ label phone TimerStop (codes "T1") far.Nobody
    ∷ sent phone (codes "digits('555','0100')") exch
    ∷ received exch (codes "digits('555','0100')") phone
    ∷ [])
