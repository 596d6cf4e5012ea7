-- How the worked charts are written: their parts and labels in short.
use Rattle.std.specs.Prelude.{ℕ, List, [], Option, Some, None}
use Rattle.msc_base.specs.declared.label.Far.{Far}
use Rattle.msc_base.specs.declared.label.Far.TheVariants as far
use Rattle.msc_base.specs.declared.label.Kind.{Kind}
use Rattle.msc_base.specs.declared.label.Kind.TheVariants.{Output, Input, Action}
use Rattle.msc_base.specs.declared.label.Label.{Label}
use Rattle.msc_base.specs.declared.label.LabelRef.{LabelRef}
use Rattle.msc_base.specs.declared.label.Pair.{Pair}
use Rattle.msc_base.specs.declared.place.Place.{Place}
use Rattle.msc_tree.specs.declared.chart.Decl.{Decl}
use Rattle.msc_tree.specs.declared.event.RawEvent.{RawEvent}
use Rattle.msc_tree.specs.declared.event.Target.{Target}
use Rattle.msc_tree.specs.declared.event.Target.TheVariants.{Nobody, Instance}
use Rattle.msc_tree.specs.declared.reference.Join.{Join}
use Rattle.msc_tree.specs.declared.reference.JoinEnd.{JoinEnd}
use Rattle.msc_tree.specs.Expressions.{Expression}
use Rattle.msc_tree.specs.Graphs.{graph, Lines}
use Rattle.msc_tree.specs.Orders.{no_order}
use Rattle.msc_meaning.specs.Bodies.{EventNode, InlinePart, WovenItem, Refer, Body}
use Rattle.msc_meaning.specs.Tables.{ChartEntry, Basic, HighLevel}

-- ---- charts

abbrev pub somewhere : Place
somewhere = record { byte = 0; line = 1; column = 1 }

abbrev pub written : Kind → List ℕ → Target → RawEvent
written kind text target = record {
  kind = kind;
  text = text;
  parameters = None;
  pairing = None;
  target = target;
  order = no_order;
  place = somewhere;
}

abbrev pub node : ℕ → List ℕ → RawEvent → EventNode
node n at e = record { number = n; at = at; event = e }

abbrev pub out : List ℕ → List ℕ → RawEvent
out text to = written Output text (Instance to)

abbrev pub taken_in : List ℕ → List ℕ → RawEvent
taken_in text from = written Input text (Instance from)

-- an output or input that isn't paired in its chart
abbrev pub out_to : List ℕ → Target → RawEvent
out_to text target = written Output text target

abbrev pub in_from : List ℕ → Target → RawEvent
in_from text target = written Input text target

abbrev pub action : List ℕ → RawEvent
action text = written Action text Nobody

abbrev pub pair : ℕ → ℕ → Pair
pair m n = record { first = m; second = n }

abbrev pub decl : List ℕ → Decl
decl name = record { name = name; kind = []; refined = None; place = somewhere }

abbrev pub decomposed : List ℕ → List ℕ → Decl
decomposed name chart = record { name = name; kind = []; refined = Some chart; place = somewhere }

-- an inline expression over these instances, with these bounds and this name
abbrev pub part : ℕ → Option ℕ → Option (List ℕ) → List (List ℕ) → InlinePart
part lower upper name cover = record { lower = lower; upper = upper; name = name; cover = cover; place = somewhere }

abbrev pub refers : Option (List ℕ) → Expression → List Join → List (List ℕ) → WovenItem
refers name expression joins cover = Refer (record { name = name; expression = expression; joins = joins; cover = cover; place = somewhere })

abbrev pub join : List ℕ → JoinEnd → Join
join gate to = record { gate = gate; to = to; place = somewhere }

abbrev pub to : List ℕ → LabelRef
to name = record { name = name; place = somewhere }

abbrev pub high_level : List ℕ → List LabelRef → Lines → ChartEntry
high_level name starts held = record { name = name; decls = []; content = HighLevel (graph starts held) }

abbrev pub basic : List ℕ → List Decl → Body → ChartEntry
basic name decls body = record { name = name; decls = decls; content = Basic body }

-- ---- labels

abbrev pub label : List ℕ → Kind → List ℕ → Far → Label
label at kind text end = record { at = at; kind = kind; text = text; far = end }

abbrev pub sent : List ℕ → List ℕ → List ℕ → Label
sent at text to = label at Output text (far.Instance to)

abbrev pub received : List ℕ → List ℕ → List ℕ → Label
received at text from = label at Input text (far.Instance from)

abbrev pub sent_out : List ℕ → List ℕ → Label
sent_out at text = label at Output text far.Env

abbrev pub received_in : List ℕ → List ℕ → Label
received_in at text = label at Input text far.Env

abbrev pub done : List ℕ → List ℕ → Label
done at text = label at Action text far.Nobody
