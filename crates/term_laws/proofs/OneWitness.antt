-- Terms that are unambiguous, and terms that aren't, of which a list of events leaves more than one term.
use Rattle.std.specs.Prelude.{ℕ, List, [], ◌∷◌, ◌≡◌, Some, None, length, refl}
use Rattle.msc_base.specs.Patterns.{seq, par}
use Rattle.chart_term.specs.Terms.{Tree, Nil, Event, Join, Choice, Tied, Loop, none, more, gap, ends}
use Rattle.term_laws.specs.Listing.{residual_set}
use Rattle.term_laws.specs.OneResidual.{IsUnambiguous, AreOnce, HasNoGraph, labels_of}
use Rattle.term_laws.specs.Permission.{permits_of}

abbrev event : ℕ → ℕ → ℕ → Tree
event n i a = Event (record { number = n; at = i; also = None; label = a })

-- a message from one instance to another
abbrev message : Tree
message = Tied (Join seq (more (event 1 0 0) (more (event 2 1 1) none))) ((1, 2) ∷ [])

message_unambiguous : IsUnambiguous message
message_unambiguous = record { labels = (refl, (refl, tt)); no_graph = (tt, (tt, tt)); loops = (tt, (tt, tt)) }

-- a loop of messages
abbrev messages : Tree
messages = Loop message 1 None (gap [] ends)

messages_unambiguous : IsUnambiguous messages
messages_unambiguous = record { labels = (refl, (refl, tt)); no_graph = ((tt, (tt, tt)), tt); loops = ((tt, (tt, tt)), tt) }

-- a loop of messages, and then one of two answers
abbrev answered : Tree
answered = Join seq (more messages (more (Choice (more (event 3 1 2) (more (event 4 1 3) none))) none))

answered_unambiguous : IsUnambiguous answered
answered_unambiguous = record { labels = (refl, (refl, (refl, (refl, tt)))); no_graph = (((tt, (tt, tt)), tt), ((tt, (tt, tt)), tt)); loops = (((tt, (tt, tt)), tt), ((tt, (tt, tt)), tt)) }

abbrev count : Tree → List ℕ → ℕ
count x l = length (residual_set 9 (permits_of []) (x ∷ []) l)

messages_one : count messages (0 ∷ 0 ∷ 1 ∷ 0 ∷ 1 ∷ []) ≡ 1
messages_one = refl

answered_one : count answered (0 ∷ 0 ∷ 1 ∷ 1 ∷ 3 ∷ []) ≡ 1
answered_one = refl

-- a loop in a loop: a second c belongs to the first turn of the outer loop, or begins a second one before its a
abbrev inner : Tree
inner = Loop (event 2 1 1) 1 (Some 2) (gap [] ends)

abbrev outer : Tree
outer = Loop (Join seq (more (event 1 0 0) (more inner none))) 1 None (gap [] ends)

outer_labels : AreOnce (labels_of outer)
outer_labels = (refl, (refl, tt))

outer_no_graph : HasNoGraph outer
outer_no_graph = ((tt, ((tt, tt), tt)), tt)

outer_one : count outer (1 ∷ []) ≡ 1
outer_one = refl

outer_two : count outer (1 ∷ 1 ∷ []) ≡ 2
outer_two = refl

-- a choice in a loop: after two a the b belongs to the first turn, to the second, or to a third one that it begins
abbrev optional : Tree
optional = Loop (Join seq (more (event 1 0 0) (more (Choice (more (event 2 1 1) (more Nil none))) none))) 1 None (gap [] ends)

optional_labels : AreOnce (labels_of optional)
optional_labels = (refl, (refl, tt))

optional_three : count optional (0 ∷ 0 ∷ 1 ∷ []) ≡ 3
optional_three = refl

-- one label at two events, side by side
abbrev alike : Tree
alike = Join par (more (event 1 0 0) (more (event 2 1 0) none))

alike_two : count alike (0 ∷ []) ≡ 2
alike_two = refl
