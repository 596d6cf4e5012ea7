-- Serves private contracts alone.
-- The direction and the text of a message event.
use Rattle.std.specs.Prelude.{◌≡◌, ◌&&◌, ℕ, Bool, true, false, List, Option, None, Some}
use Rattle.std.specs.Str.{bytes_eq}
use Rattle.msc_base.specs.declared.label.Kind.{Kind}
use Rattle.msc_base.specs.declared.label.Kind.TheVariants.{Output, Input}
use Rattle.msc_meaning.specs.Bodies.{EventNode}
use Rattle.msc_meaning.specs.EventLabels.{text_of}
use Rattle.refined_events.specs.declared.keys.EventKey.{EventKey}

-- whether an event of the kind goes out, where it goes out or comes in
abbrev pub way : Kind → Option Bool
way Output = Some true
way Input = Some false
way _ = None

pub record Key : Type 0 where
  pub output : Bool
  pub text : List ℕ

abbrev pub key_view : EventKey → Key
key_view k = record { output = k.output; text = k.text.items }

abbrev pub is_same_way : Bool → Bool → Bool
is_same_way true true = true
is_same_way true false = false
is_same_way false true = false
is_same_way false false = true

abbrev pub is_same_key : Key → Key → Bool
is_same_key k l = is_same_way k.output l.output && bytes_eq k.text l.text

abbrev pub goes : Bool → Option Bool → Bool
goes output None = false
goes output (Some other) = is_same_way output other

-- the event is of that direction and text
abbrev pub is_of : Key → EventNode → Bool
is_of k e = goes k.output (way e.event.kind) && bytes_eq k.text (text_of e)

-- the key is that of the event, where it has one
abbrev pub IsKeyOf : EventNode → Option EventKey → Type 0
IsKeyOf e None = way e.event.kind ≡ None
IsKeyOf e (Some key) = (way e.event.kind ≡ Some key.output) × (key.text.items ≡ text_of e)
