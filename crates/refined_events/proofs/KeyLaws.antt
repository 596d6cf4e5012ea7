-- Directions and texts are told apart by their test, and so are events by theirs.
use Rattle.std.proofs.Common.{◌≡◌, ◌∙◌, ◌&&◌, ℕ, Bool, true, false, List, Option, None, Some, refl, sym, ap, ap₂}
use Rattle.std.proofs.Math.Path.{fun_ext}
use Rattle.std.proofs.lemmas.Bool.{and_parts}
use Rattle.std.proofs.lemmas.Slice.Eq.{bytes_eq-Decides}
use Rattle.std.specs.Str.{bytes_eq}
use Rattle.msc_base.specs.declared.label.Kind.{Kind}
use Rattle.msc_base.specs.declared.label.Kind.TheVariants as kind
use Rattle.msc_meaning.specs.Bodies.{EventNode}
use Rattle.msc_meaning.specs.EventLabels.{text_of}
use Rattle.msc_meaning.specs.Refinements.{is_like, same_way}
use Rattle.refined_events.specs.Keys.{IsKeyOf, Key, goes, is_of, is_same_key, is_same_way, key_view, way}
use Rattle.refined_events.specs.declared.keys.EventKey.{EventKey}

same_ways : (a b : Bool) → is_same_way a b ≡ true → a ≡ b
same_ways true true e = refl
same_ways true false e = absurd cc
same_ways false true e = absurd cc
same_ways false false e = refl

way_itself : (a : Bool) → is_same_way a a ≡ true
way_itself true = refl
way_itself false = refl

pub keys_same : (k l : Key) → is_same_key k l ≡ true → k ≡ l
keys_same k l e =
    let (a, b) = and_parts (is_same_way k.output l.output) (bytes_eq k.text l.text) e in
    ap₂ (λ (o : Bool) (t : List ℕ). let r : Key = record { output = o; text = t } in r) (same_ways k.output l.output a) ((bytes_eq-Decides k.text l.text).0 b)

pub key_itself : (k : Key) → is_same_key k k ≡ true
key_itself k = ap₂ (λ a b. a && b) (way_itself k.output) ((bytes_eq-Decides k.text k.text).1 refl)

-- ---- an event by its key

pub of_none : (k : Key) (e : EventNode) → IsKeyOf e None → is_of k e ≡ false
of_none k e h = ap (λ (o : Option Bool). goes k.output o && bytes_eq k.text (text_of e)) h

pub of_key : (k : Key) (e : EventNode) (key : EventKey) → IsKeyOf e (Some key) → is_of k e ≡ is_same_key k (key_view key)
of_key k e key h = ap₂ (λ (o : Option Bool) (t : List ℕ). goes k.output o && bytes_eq k.text t) h.0 (sym h.1)

-- events like one are those of its key

likes : (a : Kind) (output : Bool) → way a ≡ Some output → (b : Kind) → same_way a b ≡ goes output (way b)
likes kind.Output true e kind.Output = refl
likes kind.Output true e kind.Input = refl
likes kind.Output true e kind.OutputLost = refl
likes kind.Output true e kind.InputFound = refl
likes kind.Output true e kind.Action = refl
likes kind.Output true e kind.TimerStart = refl
likes kind.Output true e kind.TimerStop = refl
likes kind.Output true e kind.Timeout = refl
likes kind.Output true e kind.Create = refl
likes kind.Output false e b = absurd cc
likes kind.Input false e kind.Output = refl
likes kind.Input false e kind.Input = refl
likes kind.Input false e kind.OutputLost = refl
likes kind.Input false e kind.InputFound = refl
likes kind.Input false e kind.Action = refl
likes kind.Input false e kind.TimerStart = refl
likes kind.Input false e kind.TimerStop = refl
likes kind.Input false e kind.Timeout = refl
likes kind.Input false e kind.Create = refl
likes kind.Input true e b = absurd cc
likes kind.OutputLost output e b = absurd cc
likes kind.InputFound output e b = absurd cc
likes kind.Action output e b = absurd cc
likes kind.TimerStart output e b = absurd cc
likes kind.TimerStop output e b = absurd cc
likes kind.Timeout output e b = absurd cc
likes kind.Create output e b = absurd cc

unlike : (a : Kind) → way a ≡ None → (b : Kind) → same_way a b ≡ false
unlike kind.Output e b = absurd cc
unlike kind.Input e b = absurd cc
unlike kind.OutputLost e b = refl
unlike kind.InputFound e b = refl
unlike kind.Action e b = refl
unlike kind.TimerStart e b = refl
unlike kind.TimerStop e b = refl
unlike kind.Timeout e b = refl
unlike kind.Create e b = refl

pub like_of : (e : EventNode) (output : Bool) → way e.event.kind ≡ Some output → is_like e ≡ is_of (record { output = output; text = text_of e })
like_of e output h = fun_ext (λ d. ap (λ b. b && bytes_eq (text_of e) (text_of d)) (likes e.event.kind output h d.event.kind))

pub like_key : (e : EventNode) (key : EventKey) → IsKeyOf e (Some key) → is_like e ≡ is_of (key_view key)
like_key e key h = like_of e key.output h.0 ∙ ap (λ (t : List ℕ). is_of (record { output = key.output; text = t })) (sym h.1)

pub like_none : (e : EventNode) → way e.event.kind ≡ None → (d : EventNode) → is_like e d ≡ false
like_none e h d = ap (λ b. b && bytes_eq (text_of e) (text_of d)) (unlike e.event.kind h d.event.kind)

pub true_from_ne_false : (b : Bool) → (b ≡ false → ⊥) → b ≡ true
true_from_ne_false true h = refl
true_from_ne_false false h = absurd (h refl)
